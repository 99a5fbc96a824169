-- Whether a clone stands on the snapshot of a name: the machine says what the slots say.
use Rattle.std.proofs.Common.{◌≡◌, ◌<◌, ℕ, Bool, true, false, not, List, [], ◌∷◌, length, map, Option, Some, None, inl, inr, refl, sym, ap, ◌∙◌, arith}
use Rattle.std.specs.Prelude.{nat_lt, if◌then◌else◌, ◌==◌}
use Rattle.std.specs.List.{list_all, list_any}
use Rattle.std.specs.Option.{option_map_or}
use Rattle.std.proofs.lemmas.Bool.{and_parts, both_ways, not-true}
use Rattle.std.proofs.lemmas.Bool.Decides.{nat_tests}
use Rattle.std.proofs.lemmas.Option.{none-some, same_Some}
use Rattle.fv_model.specs.Machines.{Machine}
use Rattle.fv_model.specs.Refusals.{is_base}
use Rattle.fv_model.specs.Spelling.{is_same_name}
use Rattle.fv_laws.proofs.Changes.{itself, same_name}
use Rattle.fv_laws.proofs.Lists.{In, from_map, in_map}
use Rattle.fv_laws.proofs.Tests.{from_all, iff, to_any}
use Rattle.fv_image.specs.Mapped.{is_rising}
use Rattle.fv_image.specs.ReachRules.{are_distinct}
use Rattle.fv_image.specs.Views.{Snap as HeadSnap}
use Rattle.fv_container.specs.Chains.{Slots}
use Rattle.fv_volume.specs.declared.state.Snap.{Snap}
use Rattle.fv_volume.specs.declared.state.VolumeState.{VolumeState}
use Rattle.fv_volume.specs.Asking.{snap_named}
use Rattle.fv_volume.specs.Files.{AreNamed}
use Rattle.fv_volume.specs.OneVolume.{Content}
use Rattle.fv_volume.specs.Promising.{HasVolumes}
use Rattle.fv_volume.specs.States.{States, snap_in, snaps_in, state_at}
use Rattle.fv_volumes.specs.Footing.{is_snap_stood_on, AreFooted}
use Rattle.fv_volumes.proofs.StoodOn.{base_by, base_none}
use Rattle.fv_snapshot.specs.Deleting.{is_used}

-- ---- one snapshot by its name and by its slot

-- the snapshot of a name is in the list under it
named_in : (name : List ℕ) (snaps : List Snap) (q : Snap) → snap_named snaps name ≡ Some q → In q snaps × (is_same_name name q.name ≡ true)
named_in name [] q found = absurd (none-some q found)
named_in name (s ∷ ss) q found = by (is_same_name name s.name) refl found (named_in name ss q)
  where
    by : (b : Bool) → is_same_name name s.name ≡ b → (if b then Some s else snap_named ss name) ≡ Some q → (snap_named ss name ≡ Some q → In q ss × (is_same_name name q.name ≡ true)) → In q (s ∷ ss) × (is_same_name name q.name ≡ true)
    by true e here rest = let one = same_Some s q here in (inl one, ap (λ (z : Snap). is_same_name name z.name) (sym one) ∙ e)
    by false e here rest = let later = rest here in (inr later.0, later.1)

-- where none has it, none in the list does
named_none : (name : List ℕ) (snaps : List Snap) → snap_named snaps name ≡ None → (q : Snap) → In q snaps → is_same_name name q.name ≡ false
named_none name [] none q there = absurd there
named_none name (s ∷ ss) none q there = by (is_same_name name s.name) refl none (named_none name ss) there
  where
    by : (b : Bool) → is_same_name name s.name ≡ b → (if b then Some s else snap_named ss name) ≡ None → (snap_named ss name ≡ None → (q : Snap) → In q ss → is_same_name name q.name ≡ false) → In q (s ∷ ss) → is_same_name name q.name ≡ false
    by true e none rest there = absurd (none-some s (sym none))
    by false e none rest (inl here) = ap (λ (z : Snap). is_same_name name z.name) (sym here) ∙ e
    by false e none rest (inr later) = rest none q later

-- of snapshots with different names those of one name are one
one_name : (snaps : List Snap) → are_distinct (map (λ q. q.name) snaps) ≡ true → (p q : Snap) → In p snaps → In q snaps → p.name ≡ q.name → p ≡ q
one_name [] distinct p q first second same = absurd first
one_name (s ∷ ss) distinct p q first second same = by first second (λ a b. one_name ss parts.1 p q a b same)
  where
    parts : (not (list_any (is_same_name s.name) (map (λ q. q.name) ss)) ≡ true) × (are_distinct (map (λ q. q.name) ss) ≡ true)
    parts = and_parts (not (list_any (is_same_name s.name) (map (λ q. q.name) ss))) (are_distinct (map (λ q. q.name) ss)) distinct

    other : (z : Snap) → In z ss → s.name ≡ z.name → ⊥
    other z there e =
        let some : list_any (is_same_name s.name) (map (λ q. q.name) ss) ≡ true = to_any (is_same_name s.name) z.name (map (λ q. q.name) ss) (in_map (λ (q : Snap). q.name) z ss there) (ap (is_same_name s.name) (sym e) ∙ itself s.name) in
        absurd (both_ways (list_any (is_same_name s.name) (map (λ q. q.name) ss)) (not-true _ parts.0) some)

    by : In p (s ∷ ss) → In q (s ∷ ss) → (In p ss → In q ss → p ≡ q) → p ≡ q
    by (inl a) (inl b) rest = sym a ∙ b
    by (inl a) (inr b) rest = absurd (other q b (ap (λ (z : Snap). z.name) a ∙ same))
    by (inr a) (inl b) rest = absurd (other p a (ap (λ (z : Snap). z.name) b ∙ sym same))
    by (inr a) (inr b) rest = rest a b

-- of snapshots whose slots rise those of one slot are one
one_slot : (snaps : List Snap) → is_rising (map (λ p. p.slot) (snaps_in snaps)) ≡ true → (p q : Snap) → In p snaps → In q snaps → p.slot ≡ q.slot → p ≡ q
one_slot [] rising p q first second same = absurd first
one_slot (s ∷ ss) rising p q first second same = by first second (λ a b. one_slot ss parts.1 p q a b same)
  where
    parts : (list_all (nat_lt s.slot) (map (λ p. p.slot) (snaps_in ss)) ≡ true) × (is_rising (map (λ p. p.slot) (snaps_in ss)) ≡ true)
    parts = and_parts (list_all (nat_lt s.slot) (map (λ p. p.slot) (snaps_in ss))) (is_rising (map (λ p. p.slot) (snaps_in ss))) rising

    other : (z : Snap) → In z ss → s.slot ≡ z.slot → ⊥
    other z there e =
        let past = from_all (nat_lt s.slot) (map (λ p. p.slot) (snaps_in ss)) parts.0 z.slot (in_map (λ (p : HeadSnap). p.slot) (snap_in z) (snaps_in ss) (in_map snap_in z ss there)) in
        let lt : s.slot < z.slot = grind (arith, nat_tests, past) in
        absurd (omega (arith, lt, e))

    by : In p (s ∷ ss) → In q (s ∷ ss) → (In p ss → In q ss → p ≡ q) → p ≡ q
    by (inl a) (inl b) rest = sym a ∙ b
    by (inl a) (inr b) rest = absurd (other q b (ap (λ (z : Snap). z.slot) a ∙ same))
    by (inr a) (inl b) rest = absurd (other p a (ap (λ (z : Snap). z.slot) b ∙ sym same))
    by (inr a) (inr b) rest = rest a b

-- So a name tells the snapshot that its slot tells.
tells : (snaps : List Snap) → are_distinct (map (λ q. q.name) snaps) ≡ true → is_rising (map (λ p. p.slot) (snaps_in snaps)) ≡ true → (name : List ℕ) (q : Snap) → snap_named snaps name ≡ Some q
    → (p : HeadSnap) → In p (snaps_in snaps) → is_same_name p.name name ≡ (p.slot == q.slot)
tells snaps distinct rising name q found p there =
    let from = from_map snap_in p snaps there in
    let its = named_in name snaps q found in
    let called : name ≡ q.name = same_name name q.name its.1 in
    ap (λ (z : HeadSnap). is_same_name z.name name) (sym from.2) ∙ ap (is_same_name from.0.name) called
    ∙ iff (is_same_name from.0.name q.name) (from.0.slot == q.slot)
    (λ same. let one = ap (λ (z : Snap). z.slot) (one_name snaps distinct from.0 q from.1 its.0 (same_name from.0.name q.name same)) in grind (arith, nat_tests, one))
    (λ test. let e : from.0.slot ≡ q.slot = grind (arith, nat_tests, test) in ap (λ (z : Snap). is_same_name z.name q.name) (one_slot snaps rising from.0 q from.1 its.0 e) ∙ itself q.name)
    ∙ ap (λ (z : HeadSnap). z.slot == q.slot) from.2

-- ---- the machine

module _ (states : States) (slots : Slots) (footed : AreFooted states slots) (named : AreNamed states) (long : length states ≡ 64) (contents : ℕ → Content) (blocks : ℕ) (m : Machine) (has : HasVolumes states contents blocks m) where
  -- A clone stands on the snapshot of a name in the machine exactly where it does by slots.
  pub base_used : (slot : ℕ) (x : VolumeState) → state_at states slot ≡ Some x → are_distinct (map (λ q. q.name) x.snapshots) ≡ true → is_rising (map (λ p. p.slot) (snaps_in x.snapshots)) ≡ true → (name : List ℕ)
      → is_base m x.name name ≡ is_used states slot name
  base_used slot x there distinct rising name = by (snap_named x.snapshots name) refl ∙ sym (ap (λ (o : Option VolumeState). option_map_or (λ (x : VolumeState). option_map_or (λ (q : Snap). is_snap_stood_on states slot q.slot) (snap_named x.snapshots name) false) o false) there)
    where
      by : (o : Option Snap) → snap_named x.snapshots name ≡ o → is_base m x.name name ≡ option_map_or (λ (q : Snap). is_snap_stood_on states slot q.slot) (snap_named x.snapshots name) false
      by None e =
          base_none states slots footed named long contents blocks m has slot x there name
          (λ p inside. let from = from_map snap_in p x.snapshots inside in ap (λ (z : HeadSnap). is_same_name z.name name) (sym from.2) ∙ turned from.0 (named_none name x.snapshots e from.0 from.1))
          ∙ sym (ap (λ (o : Option Snap). option_map_or (λ (q : Snap). is_snap_stood_on states slot q.slot) o false) e)
        where
          turned : (q : Snap) → is_same_name name q.name ≡ false → is_same_name q.name name ≡ false
          turned q isnt = so (is_same_name q.name name) refl
            where
              so : (b : Bool) → is_same_name q.name name ≡ b → b ≡ false
              so false is = refl
              so true is = absurd (both_ways (is_same_name name q.name) isnt (ap (is_same_name name) (same_name q.name name is) ∙ itself name))
      by (Some q) e =
          base_by states slots footed named long contents blocks m has slot x there name q.slot (tells x.snapshots distinct rising name q e)
          ∙ sym (ap (λ (o : Option Snap). option_map_or (λ (q : Snap). is_snap_stood_on states slot q.slot) o false) e)

-- ---- the volume of a slot

-- by what is read of the slot
pub used_in : (states : States) (slot : ℕ) (name : List ℕ) (o : Option VolumeState) (found : Option Snap) → state_at states slot ≡ o → option_map_or (λ (x : VolumeState). snap_named x.snapshots name) o None ≡ found
    → is_used states slot name ≡ option_map_or (λ (q : Snap). is_snap_stood_on states slot q.slot) found false
used_in states slot name None found there is = ap (λ (o : Option VolumeState). option_map_or (λ (x : VolumeState). option_map_or (λ (q : Snap). is_snap_stood_on states slot q.slot) (snap_named x.snapshots name) false) o false) there
    ∙ ap (λ (o : Option Snap). option_map_or (λ (q : Snap). is_snap_stood_on states slot q.slot) o false) is
used_in states slot name (Some x) found there is = ap (λ (o : Option VolumeState). option_map_or (λ (x : VolumeState). option_map_or (λ (q : Snap). is_snap_stood_on states slot q.slot) (snap_named x.snapshots name) false) o false) there
    ∙ ap (λ (o : Option Snap). option_map_or (λ (q : Snap). is_snap_stood_on states slot q.slot) o false) is
