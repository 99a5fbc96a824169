-- A view with a volume more in a free slot: every other volume of a session, clone or not, finds what it found, and its base is told as it was.
use Rattle.std.proofs.Common.{◌≡◌, ◌≢◌, ℕ, zero, suc, Option, Some, None, refl, sym, ap, ap₂, ◌∙◌}
use Rattle.std.specs.Prelude.{nat_lt, if◌then◌else◌}
use Rattle.std.specs.Option.{option_and_then, option_map, option_map_or, option_or}
use Rattle.std.proofs.lemmas.Option.{none-some}
use Rattle.fv_tables.specs.Told.{standing_at, table_told}
use Rattle.fv_container.specs.Chains.{Slots}
use Rattle.fv_image.specs.Chains.{along, parent_in, place, under}
use Rattle.fv_image.specs.Views.{Footing, Head, Placed, Snap, View}
use Rattle.fv_image.specs.Volumes.{base_from, base_on, snap_at}
use Rattle.fv_volume.specs.declared.state.Base.{Base}
use Rattle.fv_volume.specs.declared.state.VolumeState.{VolumeState}
use Rattle.fv_volume.specs.States.{States, footing_in, head_in, state_at}
use Rattle.fv_volumes.specs.Footing.{AreFooted, IsFooted}
use Rattle.fv_volumes.proofs.Footed.{each_stands}

module _ (states : States) (slots : Slots) (footed : AreFooted states slots) (slot : ℕ) (free : state_at states slot ≡ None) (w u : View) (here : (s : ℕ) (x : VolumeState) → state_at states s ≡ Some x → w.head s ≡ Some (head_in x))
    (heads : (s : ℕ) → s ≢ slot → u.head s ≡ w.head s) (entries : (s : ℕ) → s ≢ slot → (v : ℕ) → u.entry s v ≡ w.entry s v) where
  -- a volume that was there isn't in that slot
  pub other_slot : (s : ℕ) (x : VolumeState) → state_at states s ≡ Some x → s ≢ slot
  other_slot s x there same = none-some x (sym free ∙ ap (state_at states) (sym same) ∙ there)

  stands : (s : ℕ) (x : VolumeState) → state_at states s ≡ Some x → (b : Base) → x.base ≡ Some b → IsFooted states x b
  stands s x there b based = (each_stands states slots footed s x b there based).0

  -- no chain comes by it
  along_same : (n s : ℕ) (x : VolumeState) (v : ℕ) → state_at states s ≡ Some x → along u n s v ≡ along w n s v
  unfolding along
  along_same zero s x v there = refl
  along_same (suc n) s x v there =
      ap₂ (λ (o : Option Placed) (d : Option Head). option_or o (option_and_then (λ p. along u n p v) (parent_in d))) (entries s (other_slot s x there) v) (heads s (other_slot s x there) ∙ here s x there)
      ∙ so (λ p y at. along_same n p y v at) x.base refl
      ∙ ap (λ (d : Option Head). option_or (w.entry s v) (option_and_then (λ p. along w n p v) (parent_in d))) (sym (here s x there))
    where
      so : ((p : ℕ) (y : VolumeState) → state_at states p ≡ Some y → along u n p v ≡ along w n p v) → (o : Option Base) → x.base ≡ o
          → option_or (w.entry s v) (option_and_then (λ p. along u n p v) (option_map (λ (f : Footing). f.parent) (option_map footing_in o))) ≡ option_or (w.entry s v) (option_and_then (λ p. along w n p v) (option_map (λ (f : Footing). f.parent) (option_map footing_in o)))
      so next None based = refl
      so next (Some b) based = let is = stands s x there b based in ap (option_or (w.entry s v)) (next b.parent is.parent is.there)

  -- Each VVBN of another volume leads to the block that it led to,
  pub under_same : (s : ℕ) (x : VolumeState) → state_at states s ≡ Some x → under u s ≡ under w s
  unfolding under place
  under_same s x there = λ i v. option_map (λ (p : Placed). p.block) (places v i)
    where
      places : (v : ℕ) → place u s v ≡ place w s v
      places v =
          ap (λ (o : Option Head). if nat_lt v (option_map_or (λ h. h.span) o 0) then along u 64 s v else u.entry s v) (heads s (other_slot s x there) ∙ here s x there)
          ∙ (λ i. if nat_lt v x.span then along_same 64 s x v there i else entries s (other_slot s x there) v i)
          ∙ ap (λ (o : Option Head). if nat_lt v (option_map_or (λ h. h.span) o 0) then along w 64 s v else w.entry s v) (sym (here s x there))

  -- and what it stands on is told as it was.
  pub base_same : (s : ℕ) (x : VolumeState) → state_at states s ≡ Some x → base_from u (head_in x).base ≡ base_from w (head_in x).base
  base_same s x there = by x.base refl
    where
      by : (o : Option Base) → x.base ≡ o → base_from u (option_map footing_in o) ≡ base_from w (option_map footing_in o)
      by None based = refl
      by (Some b) based =
          let is = stands s x there b based in
          ap (option_and_then (λ (g : Head). option_map (base_on u (footing_in b) g) (snap_at g b.slot))) (heads b.parent (other_slot b.parent is.parent is.there))
          ∙ (λ i. option_and_then (λ (g : Head). option_map (λ (p : Snap). record { parent = g.name; snapshot = p.name; table = table_told (standing_at (under_same b.parent is.parent is.there i) p.table.levels p.table.root); splitting = b.splitting }) (snap_at g b.slot)) (w.head b.parent))
