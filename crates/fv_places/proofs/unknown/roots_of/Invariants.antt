use Rattle.std.proofs.Common.{◌≡◌, length, map, take}
use Rattle.fv_codec.specs.declared.inode.InodeRecord.{InodeRecord}
use Rattle.fv_places.proofs.unknown.roots_of.Given as goal

abbrev pub invariant-loop-i : goal.invariant-loop-i
invariant-loop-i l = record {
  long : length l.roots ≡ 16;
  so_far : take l.i l.roots ≡ map (λ (r : InodeRecord). r.root) (take l.i l.files);
}
