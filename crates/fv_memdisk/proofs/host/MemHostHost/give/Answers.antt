use Rattle.std.proofs.Common.{rules}
use Rattle.fv_memdisk.specs.Lived.{story_of}
use Rattle.fv_memdisk.specs.Host.{ends_of}
use Rattle.fv_memdisk.proofs.Calls.{if_ok, gives_kept}
use Rattle.fv_memdisk.proofs.host.MemHostHost.give.Goals as goal

pub returns-clause-host : goal.returns-clause-host
returns-clause-host c =
    let h = c.args.self.now in
    gives_kept (story_of h.history) h.history.sound h.faults h.write_faults (story_of c.give-kept.new.self) c.args.bytes.now (ends_of h) (if_ok c.give-kept.result (search rules) c.give-kept.ensures.kept) c.requires
