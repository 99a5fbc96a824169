use Rattle.std.proofs.Common.{◌≡◌, ◌+◌, ◌*◌, ◌++◌, length, take}
use Rattle.std.specs.List.{flat_map}
use Rattle.fv_codec.specs.Spelling.{pointer_bytes}
use Rattle.fv_codec.proofs.node.Node.write_children.Given as goal

abbrev pub invariant-loop-child : goal.invariant-loop-child
invariant-loop-child l = record {
  long : length l.page ≡ length l.fn.page + 24 * l.child-index;
  written : l.page ≡ l.fn.page ++ flat_map pointer_bytes (take l.child-index l.children);
}
