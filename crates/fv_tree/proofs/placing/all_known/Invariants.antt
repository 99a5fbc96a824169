use Rattle.std.proofs.Common.{◌≡◌, drop}
use Rattle.fv_tree.specs.Flushing.{all_known}
use Rattle.fv_tree.proofs.placing.all_known.Given as goal

abbrev pub invariant-loop-child : goal.invariant-loop-child
invariant-loop-child l = all_known l.children ≡ all_known (drop l.child-index l.children)
