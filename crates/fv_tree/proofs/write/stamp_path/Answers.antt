use Rattle.std.proofs.Common.{arith}
use Rattle.fv_tree.proofs.write.stamp_path.Goals as goal

pub returns-clause-stamps : goal.returns-clause-stamps
returns-clause-stamps c = record {
  owner = c.loop-below.invariant.owner;
  levels = c.loop-below.invariant.levels;
  cells = c.loop-below.invariant.cells;
  root = c.loop-below.invariant.root;
  way = λ level low high. c.loop-below.invariant.way level low (omega (arith, high));
  others = c.loop-below.invariant.others;
}
