use Rattle.std.proofs.Common.{take}
use Rattle.std.specs.Prelude.{flat_map}
use Rattle.fv_faults.specs.Walks.{pointer_lines}
use Rattle.fv_walk.specs.Noting.{AddsAll}
use Rattle.fv_walk.proofs.notes.keep_pointers.Given as goal

abbrev pub invariant-loop-child : goal.invariant-loop-child
invariant-loop-child l =
    AddsAll (flat_map (λ v. pointer_lines l.limits.blocks l.limits.span l.block v.pointer) (take l.child-index l.children)) l.fn.lines l.lines l.clean
