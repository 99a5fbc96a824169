use Rattle.std.proofs.Common.{rules}
use Rattle.fv_memdisk.specs.Lived.{story_of}
use Rattle.fv_memdisk.proofs.Calls.{takes_kept}
use Rattle.fv_memdisk.proofs.host.MemHostHost.take.Goals as goal

pub returns-clause-host : goal.returns-clause-host
returns-clause-host c =
    let h = c.args.self.now in
    takes_kept (story_of h.history) h.faults h.write_faults h.source.items c.copy_rest-count.new.into h.taken c.copy_rest-count.result h.source_faults h.sink_faults (search rules) (search rules) (search rules)
