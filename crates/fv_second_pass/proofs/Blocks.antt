-- The block of each VVBN that is found at a place.
use Rattle.std.proofs.Common.{◌≡◌, ℕ, Bool, true, false, refl, sym, ap, subst, ◌∙◌}
use Rattle.std.specs.Prelude.{List, Option, Some, None, Result, Ok, Err, OnOk, ◌==◌, if◌then◌else◌}
use Rattle.fv_disk.specs.declared.Failed.{Failed}
use Rattle.fv_disk.specs.Shown.{Image}
use Rattle.fv_codec.specs.declared.label.Label.{Label}
use Rattle.fv_image.specs.Containers.{container_entry}
use Rattle.fv_image.specs.NewerRoot.{Taken}
use Rattle.fv_image.specs.Views.{Placed, entry_count}
use Rattle.fv_image.specs.Chains.{place}
use Rattle.fv_image.specs.Held.{entry_from, label_in, label_lying, layout_at, placed, view_at}
use Rattle.fv_image.proofs.Hints.{place_is}
use Rattle.fv_walk.specs.Sources.{IsBlockAt}
use Rattle.fv_second_pass.specs.Told.{ground_at}

placed_block : (i : Image) (c : ℕ × ℕ) (x : Placed) → placed i c ≡ Some x → x.block ≡ i x.pvbn
placed_block i c x is = so (c.1 == 0) is
  where
    so : (hole : Bool) → (if hole then None else Some (record { pvbn = c.0; kind = c.1; block = i c.0 })) ≡ Some x → x.block ≡ i x.pvbn
    so true e = absurd cc
    so false e = let same : ◌≡◌ {A = Placed} (record { pvbn = c.0; kind = c.1; block = i c.0 }) x = cc in subst (λ (y : Placed). y.block ≡ i y.pvbn) same refl

entry_block : (i : Image) (o : Option Label) (v : ℕ) (x : Placed) → entry_from o i v ≡ Some x → x.block ≡ i x.pvbn
unfolding entry_from
entry_block i None v x is = absurd cc
entry_block i (Some l) v x is = placed_block i (container_entry i l.container l.height (entry_count l.span) v) x is

view_block : (t : Taken) (i : Image) (s v : ℕ) (x : Placed) → place (view_at t i) s v ≡ Some x → x.block ≡ i x.pvbn
unfolding view_at
view_block t i s v x is = let entry = place_is (view_at t i) s v x is in entry_block i (label_in (label_lying t i entry.0)) v x entry.1

-- What the disk reads at a place is the block of each VVBN that is found there.
pub block_is : (t : Taken) (i : Image) (s span at : ℕ) (block : List ℕ) → block ≡ i at → IsBlockAt (ground_at t i s span) at block
unfolding layout_at
block_is t i s span at block read = λ v x is there. read ∙ ap i (sym there) ∙ sym (view_block t i s v x is)

pub gives_block : (t : Taken) (i : Image) (s span at : ℕ) (block : List ℕ) (r : Result Unit Failed) → OnOk r (block ≡ i at) → OnOk r (IsBlockAt (ground_at t i s span) at block)
gives_block t i s span at block (Ok x) read = block_is t i s span at block read
gives_block t i s span at block (Err fault) read = read
