use Rattle.std.proofs.Common.{rules}
use Rattle.fv_memdisk.specs.Host.{ends_of}
use Rattle.fv_memdisk.specs.Lived.{story_of}
use Rattle.fv_memdisk.proofs.Calls.{if_ok, settles_kept}
use Rattle.fv_memdisk.proofs.host.MemHostDisk.barrier.Goals as goal

pub returns-clause-disk : goal.returns-clause-disk
returns-clause-disk c =
    let h = c.args.self.now in
    settles_kept (story_of h.history) h.history.sound h.faults h.write_faults h.faults h.write_faults (ends_of h) tt (search rules) (search rules) (story_of c.barrier-kept.new.self) (if_ok c.barrier-kept.result (search rules) c.barrier-kept.ensures.kept)
