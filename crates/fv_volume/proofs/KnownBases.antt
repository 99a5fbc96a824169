-- A volume learns what it stands on: it keeps the rest, and its label says what it said.
use Rattle.std.proofs.Common.{◌≡◌, ◌≢◌, ◌<◌, ◌≤◌, ℕ, Bool, true, false, List, [], ◌∷◌, map, Option, Some, None, inl, inr, refl, sym, ap, subst, ◌∙◌, arith}
use Rattle.std.specs.Prelude.{IsSome, IfSome, find, is_some, nat_le, nat_lt, if◌then◌else◌, ◌&&◌, ◌==◌}
use Rattle.std.specs.Option.{option_map}
use Rattle.std.proofs.lemmas.Bool.{and_parts}
use Rattle.std.proofs.lemmas.Bool.Decides.{nat_tests}
use Rattle.std.proofs.lemmas.Option.{none-some, same_Some}
use Rattle.fv_codec.specs.Blocks.{IsLabel}
use Rattle.fv_image.specs.Mapped.{stored_slots}
use Rattle.fv_image.specs.WholeMachine.{has_form}
use Rattle.fv_laws.proofs.Lists.{In}
use Rattle.fv_laws.proofs.Tests.{from_all}
use Rattle.fv_image.specs.Views.{Footing, Head, Snap as HeadSnap}
use Rattle.fv_image.specs.Volumes.{snap_at}
use Rattle.fv_volmap.specs.Slots.{TakesBase, Volume as Maps, has, slot_at, slot_count, slot_of_base, stored_count}
use Rattle.fv_volume.specs.declared.state.Base.{Base}
use Rattle.fv_volume.specs.declared.state.Snap.{Snap}
use Rattle.fv_volume.specs.declared.state.VolumeState.{VolumeState}
use Rattle.fv_volume.specs.Files.{IsLabelled}
use Rattle.fv_volume.specs.Labels.{base_slot_said, label_said, parent_said, splitting_said}
use Rattle.fv_volume.specs.Loading.{IsRead}
use Rattle.fv_volume.specs.SnapRecords.{AreSayable}
use Rattle.fv_volume.specs.KnownBase.{KeepsRest, KnowsBase, KnowsSnap}
use Rattle.fv_volume.specs.States.{footing_in, head_in, snap_in}

-- ---- the snapshot of a slot

-- what is found by its slot is there, and has it
pub found_slot : (n : ℕ) (ps : List HeadSnap) (p : HeadSnap) → find (λ (p : HeadSnap). p.slot == n) ps ≡ Some p → In p ps × (p.slot ≡ n)
found_slot n [] p e = absurd cc
found_slot n (q ∷ qs) p e = so (λ f. found_slot n qs p f) (q.slot == n) refl e
  where
    so : (find (λ (p : HeadSnap). p.slot == n) qs ≡ Some p → In p qs × (p.slot ≡ n)) → (t : Bool) → (q.slot == n) ≡ t → (if t then Some q else find (λ (p : HeadSnap). p.slot == n) qs) ≡ Some p → In p (q ∷ qs) × (p.slot ≡ n)
    so next true test f = let one : q ≡ p = same_Some q p f in let is : q.slot ≡ n = grind (arith, nat_tests, test) in (inl one, ap (λ (p : HeadSnap). p.slot) (sym one) ∙ is)
    so next false test f = let rest = next f in (inr rest.0, rest.1)

-- The snapshot of a slot in a list is that of the slot in the head's.
head_found : (n : ℕ) (ps : List Snap) → find (λ (p : HeadSnap). p.slot == n) (map snap_in ps) ≡ option_map snap_in (find (λ (p : Snap). p.slot == n) ps)
head_found n [] = refl
head_found n (q ∷ qs) = by (head_found n qs) (q.slot == n)
  where
    by : find (λ (p : HeadSnap). p.slot == n) (map snap_in qs) ≡ option_map snap_in (find (λ (p : Snap). p.slot == n) qs)
        → (t : Bool) → (if t then Some (snap_in q) else find (λ (p : HeadSnap). p.slot == n) (map snap_in qs)) ≡ option_map snap_in (if t then Some q else find (λ (p : Snap). p.slot == n) qs)
    by rest true = refl
    by rest false = rest

-- so the head has the snapshot that is found
snap_there : (parent : VolumeState) (n : ℕ) (q : Snap) → find (λ (p : Snap). p.slot == n) parent.snapshots ≡ Some q → snap_at (head_in parent) n ≡ Some (snap_in q)
unfolding snap_at
snap_there parent n q found = head_found n parent.snapshots ∙ ap (option_map snap_in) found

-- and doesn't lack it
pub lacks_not : (P : Type 0) (parent x : VolumeState) (b : Base) (q : Snap) → x.base ≡ Some b → find (λ (p : Snap). p.slot == b.slot) parent.snapshots ≡ Some q → IfSome x.base (λ b. snap_at (head_in parent) b.slot ≡ None → P)
lacks_not P parent x b q based found = subst (λ (o : Option Base). IfSome o (λ b. snap_at (head_in parent) b.slot ≡ None → P)) (sym based)
    (λ none. absurd (none-some (snap_in q) (sym none ∙ snap_there parent b.slot q found)))

module _ (parent : VolumeState) (slot : ℕ) (labelled : IsLabelled slot parent) where
  -- a slot that a snapshot has is one of those that stand on the disk beside the active one,
  pub snap_inside : (n : ℕ) (p : HeadSnap) → snap_at (head_in parent) n ≡ Some p → (1 ≤ n) × (n < stored_count)
  unfolding snap_at
  snap_inside n p at =
      let one = found_slot n (head_in parent).snapshots p at in
      let parts = and_parts (nat_le 1 p.slot) (nat_lt p.slot stored_slots) (from_all (λ (p : HeadSnap). nat_le 1 p.slot && nat_lt p.slot stored_slots) (head_in parent).snapshots labelled.snapshots.slots.within p one.0) in
      let is = one.1 in
      let least = parts.0 in
      let greatest = parts.1 in
      (grind (arith, nat_tests, least, is), grind (arith, nat_tests, greatest, is))

  -- and it is used.
  pub snap_used : (n : ℕ) (q : Snap) → find (λ (p : Snap). p.slot == n) parent.snapshots ≡ Some q → (n < slot_count) × IsSome (slot_at parent.map n)
  snap_used n q found =
      let at = snap_there parent n q found in
      let inside = snap_inside n (snap_in q) at in
      let least = inside.0 in
      let greatest = inside.1 in
      let used : is_some (slot_at parent.map n) ≡ true = labelled.slots.each n (omega (arith, least)) (omega (arith, greatest)) ∙ ap is_some at in
      (omega (arith, greatest), used)

-- ---- what it learns

module _ (parent : VolumeState) (n : ℕ) where
  -- Where no snapshot has the slot there is nothing to know,
  pub knows_nothing : (x : VolumeState) (b : Base) → x.base ≡ Some b → b.slot ≡ n → find (λ (p : Snap). p.slot == n) parent.snapshots ≡ None → KnowsBase parent x
  unfolding snap_at
  knows_nothing x b based slot none = subst (λ (o : Option Base). IfSome o (λ b. (snap : Snap) → snap_at (head_in parent) b.slot ≡ Some (snap_in snap) → parent.span ≤ x.span → KnowsSnap parent snap x b)) (sym based)
      (λ snap at wide. absurd (none-some (snap_in snap) (sym (head_found n parent.snapshots ∙ ap (option_map snap_in) none) ∙ ap (snap_at (head_in parent)) (sym slot) ∙ at)))

  -- and what it takes from the snapshot of the slot is what it has to know.
  pub knows_now : (q snap : Snap) → find (λ (p : Snap). p.slot == n) parent.snapshots ≡ Some q → snap_at (head_in parent) n ≡ Some (snap_in snap) → (old : Maps) (y : VolumeState) → TakesBase old (slot_at parent.map n) y.map
      → (b : Base) → b.slot ≡ n → b.name ≡ parent.name → b.snapshot ≡ q.name → b.table ≡ q.table → KnowsSnap parent snap y b
  unfolding snap_at
  knows_now q snap found at old y takes b slot named called table =
      let one : snap_in q ≡ snap_in snap = same_Some (snap_in q) (snap_in snap) (sym (head_found n parent.snapshots ∙ ap (option_map snap_in) found) ∙ at) in
      record {
        named = named;
        called = called ∙ ap (λ (p : HeadSnap). p.name) one;
        table = table ∙ (λ i. record { levels = (one i).table.levels; root = (one i).table.root });
        same = λ v. ap (has v) takes.base ∙ takes.members v ∙ ap (λ (k : ℕ). has v (slot_at parent.map k)) (sym slot);
      }

-- ---- what stays

module _ (x : VolumeState) (base : Option Base) (maps : Maps) (footing : option_map footing_in base ≡ option_map footing_in x.base) (span : maps.span ≡ x.map.span)
    (others : (k : ℕ) → k ≢ slot_of_base → slot_at maps k ≡ slot_at x.map k) (used : is_some (slot_at maps slot_of_base) ≡ is_some (slot_at x.map slot_of_base)) where
  abbrev now : VolumeState
  now = record x { base = base; map = maps }

  head_now : head_in now ≡ head_in x
  head_now = ap (λ (f : Option Footing). record (head_in x) { base = f }) footing

  base_used : is_some base ≡ is_some x.base
  base_used = sym (either base) ∙ ap is_some footing ∙ either x.base
    where
      either : (o : Option Base) → is_some (option_map footing_in o) ≡ is_some o
      either None = refl
      either (Some b) = refl

  labelled_now : (slot : ℕ) → IsLabelled slot x → IsLabelled slot now
  unfolding label_said snap_at
  labelled_now slot is = record {
    slot_is = is.slot_is;
    form = ap has_form head_now ∙ is.form;
    span = is.span;
    map = span ∙ is.map;
    snapshots = subst AreSayable (sym head_now) is.snapshots;
    slots = record {
      each = λ k other not_base. ap is_some (others k not_base) ∙ is.slots.each k other not_base;
      base = used ∙ is.slots.base ∙ ap (λ (h : Head). is_some h.base) (sym head_now);
    };
    waits = is.waits;
    counts = is.counts;
    levels = is.levels;
    named = is.named;
    label = λ container height low least most. subst (λ (f : Option Footing). IsLabel (record (label_said x container height) { parent = parent_said f; base_slot = base_slot_said f; splitting = splitting_said f })) (sym footing) (is.label container height low least most);
  }

module _ (x y : VolumeState) (keeps : KeepsRest x y) where
  -- It is the same volume to its label,
  pub rest_head : head_in y ≡ head_in x
  rest_head = ap head_in keeps.rest ∙ head_now x y.base y.map keeps.footing keeps.span keeps.others keeps.used

  pub rest_labelled : (slot : ℕ) → IsLabelled slot x → IsLabelled slot y
  rest_labelled slot is = subst (IsLabelled slot) (sym keeps.rest) (labelled_now x y.base y.map keeps.footing keeps.span keeps.others keeps.used slot is)

  -- and read as it was.
  pub rest_read : IsRead x → IsRead y
  rest_read is = subst IsRead (sym keeps.rest) (record { few = is.few; none = is.none; numbers = is.numbers; fresh = is.fresh })
