-- What clones stand on is found along their chains, and what they hold rests on volumes of the session.
use Rattle.std.proofs.Common.{◌≡◌, ◌⊎◌, ◌<◌, ℕ, zero, suc, true, Option, Some, None, inl, inr, is_some, refl, sym, ap, subst, ◌∙◌, ⊎_elim, arith}
use Rattle.std.specs.Prelude.{IfSome}
use Rattle.std.specs.Option.{option_and_then, option_map, option_map_or}
use Rattle.std.proofs.lemmas.Option.{none-some, same_Some}
use Rattle.std.proofs.lemmas.Bool.{cases_eq, false≢true}
use Rattle.fv_volume.specs.Placing.{IsKeptIn}
use Rattle.fv_image.specs.Views.{Footing, Snap as HeadSnap}
use Rattle.fv_image.specs.Volumes.{snap_at}
use Rattle.fv_container.specs.Chains.{Slots, along, container_at, or_else, own_entry, parent_at, slot_count}
use Rattle.fv_volmap.specs.Slots.{Slot, has, slot_at, slot_of_base, stored_count}
use Rattle.fv_volume.specs.declared.state.Base.{Base}
use Rattle.fv_volume.specs.declared.state.VolumeState.{VolumeState}
use Rattle.fv_volumes.specs.Footing.{ends_in, footing_at, AreFooted, IsFooted, IsOnBase}
use Rattle.fv_volume.specs.Files.{IsLabelled}
use Rattle.fv_volume.specs.NewClone.{RestsOn}
use Rattle.fv_volume.proofs.KnownBases.{snap_inside}
use Rattle.fv_volumes.proofs.Footed.{each_stands}
use Rattle.fv_volume.specs.States.{States, footing_in, head_in, parent_in, state_at}

-- Of the slots of a volume's maps only those of its tables and that of its base have numbers.
pub some_slot : (s : ℕ) (x : VolumeState) → IsLabelled s x → (k v : ℕ) → has v (slot_at x.map k) ≡ true → (k < stored_count) ⊎ (k ≡ slot_of_base)
some_slot s x labelled k v here = ⊎_elim
    (λ (zero_is : k ≡ 0). inl (omega (arith, zero_is)))
    (λ other. ⊎_elim (λ (base : k ≡ slot_of_base). inr base) (λ differ. inl (of_snap (snap_at (head_in x) k) refl (sym (labelled.slots.each k other differ) ∙ used (slot_at x.map k) here))) (cases_eq k slot_of_base))
    (cases_eq k 0)
  where
    used : (o : Slot) → has v o ≡ true → is_some o ≡ true
    used None e = absurd (false≢true e)
    used (Some map) e = refl

    of_snap : (o : Option HeadSnap) → snap_at (head_in x) k ≡ o → is_some o ≡ true → k < stored_count
    of_snap None at some = absurd (false≢true some)
    of_snap (Some q) at some = (snap_inside x s labelled k q at).1

module _ (states : States) (slots : Slots) (parents : (s : ℕ) → parent_at slots s ≡ parent_in (state_at states s)) where
  parent_is : (s : ℕ) → parent_at slots s ≡ option_map (λ (f : Footing). f.parent) (footing_at states s)
  parent_is s = parents s ∙ by (state_at states s)
    where
      of_base : (o : Option Base) → option_map (λ (b : Base). b.parent) o ≡ option_map (λ (f : Footing). f.parent) (option_map footing_in o)
      of_base None = refl
      of_base (Some b) = refl

      by : (o : Option VolumeState) → parent_in o ≡ option_map (λ (f : Footing). f.parent) (option_and_then (λ (x : VolumeState). option_map footing_in x.base) o)
      by None = refl
      by (Some x) = of_base x.base

  nothing : (n : ℕ) (v : ℕ) → along slots n None v ≡ None
  unfolding along
  nothing zero v = refl
  nothing (suc n) v = refl

  -- a chain that ends within so many volumes finds nothing in one more
  pub along_ends : (n s v : ℕ) → ends_in (footing_at states) n s ≡ true → along slots (suc n) (Some s) v ≡ along slots n (Some s) v
  unfolding along ends_in
  along_ends zero s v ends = absurd (false≢true ends)
  along_ends (suc n) s v ends =
      ap (λ (o : Option ℕ). or_else (own_entry (container_at slots s) v) (along slots (suc n) o v)) (parent_is s)
      ∙ so (λ t e. along_ends n t v e) (footing_at states s) ends
      ∙ ap (λ (o : Option ℕ). or_else (own_entry (container_at slots s) v) (along slots n o v)) (sym (parent_is s))
    where
      so : ((t : ℕ) → ends_in (footing_at states) n t ≡ true → along slots (suc n) (Some t) v ≡ along slots n (Some t) v) → (o : Option Footing) → option_map_or (λ (f : Footing). ends_in (footing_at states) n f.parent) o true ≡ true
          → or_else (own_entry (container_at slots s) v) (along slots (suc n) (option_map (λ (f : Footing). f.parent) o) v) ≡ or_else (own_entry (container_at slots s) v) (along slots n (option_map (λ (f : Footing). f.parent) o) v)
      so next None e = ap (or_else (own_entry (container_at slots s) v)) (sym (nothing n v))
      so next (Some f) e = ap (or_else (own_entry (container_at slots s) v)) (next f.parent e)

  module _ (are : AreFooted states slots) (s : ℕ) (low : s < slot_count) (x : VolumeState) (at : x.slot ≡ s) (there : state_at states s ≡ Some x) (b : Base) (based : x.base ≡ Some b) where
    both : IsFooted states x b × IsOnBase slots x
    both = each_stands states slots are s x b there based

    pub stands_on : IsFooted states x b
    stands_on = both.0

    pub rests_by : IsOnBase slots x
    rests_by = both.1

    footing_is : footing_at states s ≡ Some (footing_in b)
    footing_is = ap (option_and_then (λ (x : VolumeState). option_map footing_in x.base)) there ∙ ap (option_map footing_in) based

    -- the chain from the parent is one shorter,
    ends_before : ends_in (footing_at states) 63 b.parent ≡ true
    unfolding ends_in
    ends_before = subst (λ (o : Option Footing). option_map_or (λ (f : Footing). ends_in (footing_at states) 63 f.parent) o true ≡ true) footing_is (are.ends s low)

    -- So the slot of the base is read through the parent.
    pub rests_on : (y : VolumeState) → y.slot ≡ b.parent → state_at states b.parent ≡ Some y → RestsOn slots x slot_of_base y b.slot
    rests_on y y_at y_there = record {
      parent = ap (parent_at slots) at ∙ parents s ∙ ap parent_in there ∙ ap (option_map (λ (b : Base). b.parent)) based ∙ ap (λ (n : ℕ). Some n) (sym y_at);
      same = λ v. both.0.same v ∙ ap (λ (z : VolumeState). has v (slot_at z.map b.slot)) (same_Some both.0.parent y (sym both.0.there ∙ y_there));
      holes = both.1.leaves;
      ends = λ v. ap (λ (n : ℕ). along slots 64 (Some n) v) y_at ∙ along_ends 63 b.parent v ends_before ∙ ap (λ (n : ℕ). along slots 63 (Some n) v) (sym y_at);
    }

  -- What a volume has in a slot without an entry of its own, its parent has in another slot than its active one.
  pub rests_above : AreFooted states slots → ((s : ℕ) (x : VolumeState) → state_at states s ≡ Some x → (x.slot ≡ s) × ((k v : ℕ) → has v (slot_at x.map k) ≡ true → (k < stored_count) ⊎ (k ≡ slot_of_base)))
      → (s v t : ℕ) (x : VolumeState) (k : ℕ) → state_at states s ≡ Some x → has v (slot_at x.map k) ≡ true → own_entry (container_at slots s) v ≡ None → parent_at slots s ≡ Some t
      → IsKeptIn states t v
  rests_above are wf s v t x k there has_it none up = by x.base refl (subst (λ (o : Option VolumeState). IfSome o (λ x. IfSome x.base (λ b. IsFooted states x b × IsOnBase slots x))) there (are.each s))
    where
      parent_of : (o : Option Base) → x.base ≡ o → option_map (λ (b : Base). b.parent) o ≡ Some t
      parent_of o e = ap (option_map (λ (b : Base). b.parent)) (sym e) ∙ sym (ap parent_in there) ∙ sym (parents s) ∙ up

      unowned : is_some (own_entry (container_at slots x.slot) v) ≡ true → ⊥
      unowned some = false≢true (sym (ap is_some (ap (λ (n : ℕ). own_entry (container_at slots n) v) (wf s x there).0 ∙ none)) ∙ some)

      by : (o : Option Base) → x.base ≡ o → IfSome o (λ b. IsFooted states x b × IsOnBase slots x) → IsKeptIn states t v
      by None e is = absurd (none-some t (parent_of None e))
      by (Some b) e is =
          let at : b.parent ≡ t = same_Some b.parent t (parent_of (Some b) e) in
          let based : has v (slot_at x.map slot_of_base) ≡ true =
          ⊎_elim (λ (low : k < stored_count). ⊎_elim (λ own. absurd (unowned own)) (λ here. here) (is.1.rests k v low has_it))
          (λ (same : k ≡ slot_of_base). ap (λ (n : ℕ). has v (slot_at x.map n)) (sym same) ∙ has_it) ((wf s x there).1 k v has_it) in
          record { volume = is.0.parent; there = ap (state_at states) (sym at) ∙ is.0.there; slot = b.slot; has_it = sym (is.0.same v) ∙ based; above = is.0.above }
