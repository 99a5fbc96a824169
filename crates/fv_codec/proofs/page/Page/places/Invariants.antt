use Rattle.std.proofs.Common.{◌≡◌, ◌+◌, ◌*◌, ◌++◌, length, take}
use Rattle.std.specs.List.{flat_map}
use Rattle.fv_codec.specs.Bytes.{word}
use Rattle.fv_codec.proofs.page.Page.places.Given as goal

abbrev pub invariant-loop-place : goal.invariant-loop-place
invariant-loop-place l = record {
  long : length l.self ≡ length l.fn.self + 8 * l.place-index;
  written : l.self ≡ l.fn.self ++ flat_map word (take l.place-index l.places);
}
