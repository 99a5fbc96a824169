use Rattle.std.proofs.Common.{◌≡◌, drop}
use Rattle.fv_codec.specs.Blocks.{all_holes}
use Rattle.fv_codec.proofs.node.Node.all_holes.Given as goal

abbrev pub invariant-loop-pointer : goal.invariant-loop-pointer
invariant-loop-pointer l = all_holes l.pointers ≡ all_holes (drop l.pointer-index l.pointers)
