use Rattle.std.proofs.Common.{sym, subst}
use Rattle.fv_faults.specs.Walks.{pointer_lines}
use Rattle.fv_walk.specs.Noting.{AddsAll}
use Rattle.fv_walk.proofs.Noting.{pointer_says}
use Rattle.fv_walk.proofs.notes.keep_pointer.Goals as goal

pub returns : goal.returns
returns c =
    subst (AddsAll (pointer_lines c.args.limits.now.blocks c.args.limits.now.span c.args.block c.args.pointer.now) c.args.lines.now c.keep_known.new.lines) (sym c.both.ensures)
    (pointer_says c.args.limits.now.blocks c.args.limits.now.span c.args.block c.args.pointer.now c.args.lines.now c.keep_within.new.lines c.keep_known.new.lines
    c.in_ok-below.below c.in_ok-known.known c.if-pointer-eq0.false c.in_ok-below.ensures c.in_ok-known.ensures)
