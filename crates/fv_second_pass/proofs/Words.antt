-- What the word of an entry leads to.
use Rattle.std.proofs.Common.{◌≡◌, ℕ, ◌/◌, ◌%◌, ◌<◌, ◌≤◌, Bool, false, sym, ap, arith}
use Rattle.std.specs.Prelude.{Option, Some, None, ◌==◌, if◌then◌else◌}
use Rattle.std.specs.Option.{option_map}
use Rattle.std.proofs.lemmas.Bool.Decides.{nat_tests}
use Rattle.fv_disk.specs.Shown.{Image}
use Rattle.fv_image.specs.Views.{Placed}
use Rattle.fv_image.specs.Held.{placed}
use Rattle.fv_first_pass.specs.Passed.{spelled}
use Rattle.fv_walk.specs.declared.source.Found.{Found}
use Rattle.fv_walk.specs.Sources.{found_of}

module _ (i : Image) (word : ℕ) where
  -- a hole, or a place of some kind
  pub hole_in : word < 16777216 → spelled i word ≡ None
  hole_in low = let none : word / 16777216 ≡ 0 = omega (arith, low) in ap (λ k. placed i (word % 16777216, k)) none

  abbrev there : Placed
  there = record { pvbn = word % 16777216; kind = word / 16777216; block = i (word % 16777216) }

  pub place_in : 16777216 ≤ word → spelled i word ≡ Some there
  place_in high =
      let kind : 1 ≤ word / 16777216 = omega (arith, high) in
      let some : (word / 16777216 == 0) ≡ false = grind (arith, nat_tests, kind) in
      ap (λ (b : Bool). if b then None else Some there) some

  pub found_hole : word < 16777216 → None ≡ option_map found_of (spelled i word)
  found_hole low = sym (ap (option_map found_of) (hole_in low))

  pub found_place : 16777216 ≤ word → ◌≡◌ {A = Option Found} (Some (record { pvbn = word % 16777216; kind = word / 16777216 })) (option_map found_of (spelled i word))
  found_place high = sym (ap (option_map found_of) (place_in high))
