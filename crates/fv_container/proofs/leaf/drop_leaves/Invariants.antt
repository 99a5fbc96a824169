use Rattle.std.proofs.Common.{◌≡◌, None, length, take, replicate}
use Rattle.fv_container.proofs.leaf.drop_leaves.Given as goal

abbrev pub invariant-loop-k : goal.invariant-loop-k
invariant-loop-k l = (length l.leaves ≡ length l.initial.leaves) × (take l.k l.leaves ≡ replicate l.k None)
