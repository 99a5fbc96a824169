use Rattle.std.proofs.Common.{◌+◌, List, sym, subst, take, arith}
use Rattle.std.specs.Prelude.{flat_map}
use Rattle.std.proofs.lemmas.List.{take_all}
use Rattle.fv_faults.specs.declared.fault.Fault.{Fault}
use Rattle.fv_faults.specs.Walks.{pointer_lines}
use Rattle.fv_walk.specs.declared.visit.Visit.{Visit}
use Rattle.fv_walk.specs.Noting.{AddsAll}
use Rattle.fv_walk.proofs.Noting.{each_more}
use Rattle.fv_walk.proofs.notes.keep_pointers.Goals as goal

pub loop-child-preserved : goal.loop-child-preserved
loop-child-preserved c =
    let says : Visit → List Fault = λ v. pointer_lines c.args.limits.now.blocks c.args.limits.now.span c.args.block v.pointer in
    subst (AddsAll (flat_map says (take (c.loop-child.child-index + 1) c.args.children.now)) c.args.lines.now c.keep_pointer.new.lines) (sym c.both-clean.ensures)
    (each_more says c.loop-child.child-index _ c.args.children.now c.args.lines.now c.loop-child.lines c.keep_pointer.new.lines c.loop-child.clean c.in_ok-kept.kept
    (omega (arith, c.loop-child-test.true)) c.loop-child.invariant c.in_ok-kept.ensures)

pub returns : goal.returns
returns c =
    let says : Visit → List Fault = λ v. pointer_lines c.args.limits.now.blocks c.args.limits.now.span c.args.block v.pointer in
    subst (λ (vs : List Visit). AddsAll (flat_map says vs) c.args.lines.now c.loop-child.lines c.loop-child.clean)
    (take_all c.loop-child.child-index c.args.children.now (omega (arith, c.loop-child-test.false))) c.loop-child.invariant
