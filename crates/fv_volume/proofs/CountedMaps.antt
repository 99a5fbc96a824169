-- What a volume's maps have together, and what is counted of them.
use Rattle.std.proofs.Common.{◌≡◌, ℕ, zero, suc, ◌+◌, ◌-◌, ◌*◌, ◌<◌, ◌≤◌, Bool, true, false, not, List, [], ◌∷◌, length, refl, sym, ap, ap₂, subst, ◌∙◌, arith, ⊎_elim, get_or-set_same, get_or-set_other}
use Rattle.std.specs.Prelude.{Option, Some, None, ◌&&◌, ◌||◌, ◌==◌, take, get_or, if◌then◌else◌}
use Rattle.std.specs.List.{list_any, range_with_len}
use Rattle.std.proofs.lemmas.Bool.{cases_eq}
use Rattle.std.proofs.lemmas.Bool.Decides.{nat_tests}
use Rattle.fv_bits.specs.Members.{is_member, count_between, count_of}
use Rattle.fv_bits.proofs.Counts.{passing, passing_same}
use Rattle.fv_model.specs.declared.commands.Kind.{Kind}
use Rattle.fv_model.specs.Space.{map_blocks, charge}
use Rattle.fv_charge.specs.Counted.{is_apart, count_apart, count_held, charge_counted}
use Rattle.fv_tables.specs.Reached.{is_listed}
use Rattle.fv_image.specs.Views.{Head, View}
use Rattle.fv_image.specs.Volumes.{volume_told}
use Rattle.fv_image.specs.Seen.{seen}
use Rattle.fv_image.specs.ReachRules.{has_pointers_in_range}
use Rattle.fv_image.specs.TableRules.{has_one_to_one}
use Rattle.fv_image.specs.VolumeRules.{has_distinct_snapshots}
use Rattle.fv_image.specs.Staying.{own_items}
use Rattle.fv_image.specs.Mapped.{MapSlot, AreInSlots}
use Rattle.fv_image.proofs.OwnUses.{HasLabelNumbers}
use Rattle.fv_image.proofs.CountedCharge.{HasParentNumbers, charge_by_sets}
use Rattle.fv_image.proofs.MapSteps.{has_in, taken_is, with_map}
use Rattle.fv_volmap.specs.Slots.{CountsBeside, Volume as Maps, count_beside, slot_at, slot_of_base, stored_count, taken_in, with_slot}
use Rattle.fv_volume.specs.declared.state.Base.{Base}
use Rattle.fv_volume.specs.Loading.{HasCounted, base_counted}
use Rattle.fv_volume.specs.Mapped.{AreMapped, IsBaseMap}

-- ---- slots in a row

any_later : (g : ℕ → Bool) (from n : ℕ) → list_any g (range_with_len (from + 1) n) ≡ list_any (λ k. g (suc k)) (range_with_len from n)
any_later g from zero = refl
any_later g from (suc n) = ap₂ (λ (a b : Bool). a || b) (ap g (let next : from + 1 ≡ suc from = omega arith in next)) (any_later g (from + 1) n)

none_any : (g : ℕ → Bool) (from n : ℕ) → ((k : ℕ) → g k ≡ false) → list_any g (range_with_len from n) ≡ false
none_any g from zero none = refl
none_any g from (suc n) none = ap₂ (λ (a b : Bool). a || b) (none from) (none_any g (from + 1) n none)

pub any_taken : {X : Type 0} (f : X → Bool) (d : X) → f d ≡ false → (xs : List X) (n : ℕ) → list_any f (take n xs) ≡ list_any (λ k. f (get_or xs k d)) (range_with_len 0 n)
any_taken f d none xs zero = refl
any_taken f d none [] (suc n) = sym (none_any (λ k. f d) 0 (suc n) (λ k. none))
any_taken f d none (x ∷ xs) (suc n) = ap (λ (b : Bool). f x || b) (any_taken f d none xs n ∙ sym (any_later (λ k. f (get_or (x ∷ xs) k d)) 0 n))

-- The stored slots of a volume that is mapped have together what its roots reach.
pub stored_listed : (w : View) (s : ℕ) (h : Head) (m : Maps) → AreMapped w s h m → AreInSlots h → (v : ℕ) → taken_in (take stored_count m.slots) v ≡ is_listed (own_items w s h) v
stored_listed w s h m mapped slots v =
    any_taken (has_in v) None refl m.slots stored_count ∙ taken_is w s h (slot_at m) mapped slots v

-- a volume with another slot has the others as before
pub slot_with : (m : Maps) (j : ℕ) (x : MapSlot) → j < length m.slots → (k : ℕ) → slot_at (with_slot m j x) k ≡ with_map (slot_at m) j x k
slot_with m j x within k = ⊎_elim
    (λ (e : k ≡ j). ap (slot_at (with_slot m j x)) e ∙ get_or-set_same m.slots j x None within ∙ sym (ap (λ (b : Bool). if b then x else slot_at m k) (let same : (k == j) ≡ true = grind (arith, nat_tests, e) in same)))
    (λ other. get_or-set_other m.slots j k x None other ∙ sym (ap (λ (b : Bool). if b then x else slot_at m k) (let differ : (k == j) ≡ false = grind (arith, nat_tests, other) in differ)))
    (cases_eq k j)

-- ---- the ledger's count

-- What is held beside a slot is what is held without its set.
pub beside_held : (held : List Bool) (slot : MapSlot) → count_beside held slot ≡ count_held held slot
unfolding count_apart
beside_held held None = refl
beside_held held (Some base) = refl

-- so much is counted of a clone that is being split,
pub counted_alone : (m : Maps) (o : Option Base) (b : Base) (count : ℕ) → o ≡ Some b → b.splitting ≡ true → CountsBeside m None count → CountsBeside m (base_counted o m) count
counted_alone m o b count some splits = subst (λ (s : MapSlot). CountsBeside m s count) (sym (ap (λ (o : Option Base). base_counted o m) some ∙ ap (λ (t : Bool). if t then None else slot_at m slot_of_base) splits))

-- of one that isn't,
pub counted_beside : (m : Maps) (o : Option Base) (b : Base) (count : ℕ) → o ≡ Some b → b.splitting ≡ false → CountsBeside m (slot_at m slot_of_base) count → CountsBeside m (base_counted o m) count
counted_beside m o b count some whole = subst (λ (s : MapSlot). CountsBeside m s count) (sym (ap (λ (o : Option Base). base_counted o m) some ∙ ap (λ (t : Bool). if t then None else slot_at m slot_of_base) whole))

-- and so a ledger is
pub counted_ledger : (m : Maps) (base : MapSlot) (snapshots span size : ℕ) (kind : Kind) (count : ℕ) → CountsBeside m base count
    → HasCounted m base snapshots span size kind (record { charge = count + map_blocks span * snapshots; need = 0; size = size; kind = kind; span = span })
counted_ledger m base snapshots span size kind count counts = record {
  union = counts.union;
  united = counts.united;
  ledger_is = ap (λ (n : ℕ). record { charge = n + map_blocks span * snapshots; need = 0; size = size; kind = kind; span = span }) (counts.count_is ∙ beside_held counts.union base);
}

and_true : (b : Bool) → b ≡ (b && not false)
and_true true = refl
and_true false = refl

pub members : (held : List Bool) → count_of held ≡ passing (is_member held) 0 (length held)
unfolding count_of count_between
members held = ap (λ (n : ℕ). passing (is_member held) 0 n) (let e : length held - 0 ≡ length held = omega arith in e)

module _ (w : View) (s : ℕ) (h : Head) (small : s < 64) (there : w.head s ≡ Some h) (numbers : HasLabelNumbers h) (parents : HasParentNumbers w h.base)
    (names : has_distinct_snapshots (seen w) ≡ true) (ids : has_one_to_one (seen w) ≡ true) (ranges : has_pointers_in_range (seen w) ≡ true) where
  -- A set that has what the roots reach is counted to the charge, without the set of what isn't charged.
  pub counted_charge : (held : List Bool) (base : Option (List Bool)) → length held ≡ h.span → ((v : ℕ) → v < h.span → is_member held v ≡ is_listed (own_items w s h) v) → IsBaseMap w h base
      → charge_counted held base (length h.snapshots) h.span ≡ charge (volume_told w s h)
  unfolding count_apart
  counted_charge held None long own others =
      let counted = charge_by_sets w s h small there numbers parents names ids ranges (is_member held) (λ v. false) own (λ v low. sym (others v low)) in
      let all : passing (is_member held) 0 (length held) ≡ passing (λ v. is_member held v && not false) 0 h.span = ap (passing (is_member held) 0) long ∙ passing_same (is_member held) (λ v. is_member held v && not false) 0 0 h.span (λ j lt. and_true (is_member held (0 + j))) in
      ap (λ (n : ℕ). n + map_blocks h.span * length h.snapshots) (members held ∙ all) ∙ sym counted
  counted_charge held (Some map) long own others =
      ap (λ (n : ℕ). passing (is_apart held map) 0 n + map_blocks h.span * length h.snapshots) long
      ∙ sym (charge_by_sets w s h small there numbers parents names ids ranges (is_member held) (is_member map) own others)
