use Rattle.std.proofs.Common.{◌≡◌, ◌++◌, map, take}
use Rattle.fv_model.specs.Places.{InodeFile, placed}
use Rattle.fv_reference.proofs.space.list_inode.Given as goal

abbrev pub invariant-loop-spot : goal.invariant-loop-spot
invariant-loop-spot l = l.places.items ≡ l.fn.places.items ++ map (placed InodeFile) (take l.spot-index l.spots)
