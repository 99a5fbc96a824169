use Rattle.std.proofs.Common.{rules, not, ap, ◌∙◌}
use Rattle.fv_memdisk.proofs.Tearing.{noted_new, noted_old}
use Rattle.fv_memdisk.proofs.unsettled.Unsettled.note.Goals as goal

pub returns-then-branch-clause-written : goal.returns-then-branch-clause-written
returns-then-branch-clause-written c = noted_new c.args.self.now.written.items c.push_reserved.new.self.items c.args.at c.in_ok-insert.field-0 (c.in_ok-insert.ensures.added ∙ ap not (c.args.self.now.agrees c.args.at)) (search rules) (search rules)

pub returns-else-branch-clause-written : goal.returns-else-branch-clause-written
returns-else-branch-clause-written c = noted_old c.args.self.now.written.items c.reserve.new.self.items c.args.at c.in_ok-insert.field-0 (c.in_ok-insert.ensures.added ∙ ap not (c.args.self.now.agrees c.args.at)) (search rules) (search rules)
