use Rattle.std.proofs.Common.{rules}
use Rattle.fv_memdisk.specs.Host.{ends_of}
use Rattle.fv_memdisk.specs.Lived.{story_of}
use Rattle.fv_memdisk.proofs.Calls.{if_ok, if_err, unless, writes_kept, writes_failed, writes_forgotten}
use Rattle.fv_memdisk.proofs.host.MemHostDisk.write.Goals as goal

pub returns-then-next-clause-disk : goal.returns-then-next-clause-disk
returns-then-next-clause-disk c =
    let h = c.args.self.now in
    writes_failed c.tear-kept.result (story_of h.history) h.history.sound h.faults h.write_faults c.raise.new.count c.raise-then-next.new.count (ends_of h) (record {}) (search rules) (search rules) (story_of c.tear-kept.new.self) c.args.at c.args.block.now c.tear-kept.ensures.kept c.tear-kept.ensures.forgotten

pub returns-then-is_err-clause-disk : goal.returns-then-is_err-clause-disk
returns-then-is_err-clause-disk c =
    let h = c.args.self.now in
    writes_forgotten (story_of h.history) h.history.sound h.faults h.write_faults c.raise-then-is_err.new.count c.raise-then-is_err-2.new.count (ends_of h) (record {}) (search rules) (search rules) (story_of c.write-kept.new.self) c.args.at c.args.block.now (if_err c.write-kept.result (search rules) c.write-kept.ensures.forgotten)

pub returns-clause-disk : goal.returns-clause-disk
returns-clause-disk c =
    let h = c.args.self.now in
    writes_kept (story_of h.history) h.history.sound h.faults h.write_faults h.faults h.write_faults (ends_of h) _ (search rules) (search rules) (story_of c.write-kept.new.self) c.args.at c.args.block.now (if_ok c.write-kept.result (search rules) c.write-kept.ensures.kept)

pub returns-then-next-clause-torn : goal.returns-then-next-clause-torn
returns-then-next-clause-torn c = unless c.tear-kept.result c.tear-kept.ensures.kept c.note.ensures.wanting

pub returns-then-is_err-clause-torn : goal.returns-then-is_err-clause-torn
returns-then-is_err-clause-torn c = λ none. absurd (none (if_err c.write-kept.result (search rules) c.note-2.ensures.wanting))
