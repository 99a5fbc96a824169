-- What clones of a session know of what they stand on: where each stands on a snapshot of another volume it knows that, and it does so still where
-- a point settles the volumes.
use Rattle.std.proofs.Common.{◌≡◌, ◌≢◌, ◌≤◌, ℕ, Option, Some, None, refl, sym, ap, subst, ◌∙◌}
use Rattle.std.specs.Prelude.{IfSome}
use Rattle.std.specs.Option.{option_map}
use Rattle.std.proofs.lemmas.Option.{same_Some}
use Rattle.fv_image.specs.Views.{Snap as HeadSnap}
use Rattle.fv_image.specs.Volumes.{snap_at}
use Rattle.fv_container.specs.Chains.{Slots}
use Rattle.fv_volmap.specs.Slots.{has, slot_at}
use Rattle.fv_volume.specs.declared.state.Base.{Base}
use Rattle.fv_volume.specs.declared.state.Snap.{Snap}
use Rattle.fv_volume.specs.declared.state.VolumeState.{VolumeState}
use Rattle.fv_volume.specs.Held.{core_of}
use Rattle.fv_volume.specs.KnownBase.{KnowBases, KnowsBase, KnowsSnap}
use Rattle.fv_volume.specs.States.{States, head_in, snap_in, state_at}
use Rattle.fv_volumes.specs.Footing.{AreFooted, IsFooted, IsOnBase}
use Rattle.fv_volumes.specs.Housed.{AreSettled, settled_as}
use Rattle.fv_volumes.proofs.Settled.{settled_keeps}

-- ---- a volume that stands on a snapshot knows that

pub footed_knows : (states : States) (slots : Slots) → AreFooted states slots → KnowBases states
footed_knows states slots footed s = by (state_at states s) (footed.each s)
  where
    snap_knows : (parent : VolumeState) (x : VolumeState) (b : Base) (is : IsFooted states x b) → is.parent ≡ parent → (snap : Snap) → snap_at (head_in parent) b.slot ≡ Some (snap_in snap) → KnowsSnap parent snap x b
    snap_knows parent x b is same snap found =
        let one : snap_in is.snap ≡ snap_in snap = same_Some (snap_in is.snap) (snap_in snap) (sym is.found ∙ ap (λ (z : VolumeState). snap_at (head_in z) b.slot) same ∙ found) in
        record {
          named = is.named ∙ ap (λ (z : VolumeState). z.name) same;
          called = is.called ∙ ap (λ (p : HeadSnap). p.name) one;
          table = is.table ∙ (λ i. record { levels = (one i).table.levels; root = (one i).table.root });
          same = λ v. is.same v ∙ ap (λ (z : VolumeState). has v (slot_at z.map b.slot)) same;
        }

    of_parent : (x : VolumeState) (b : Base) → x.base ≡ Some b → (is : IsFooted states x b) → (o : Option VolumeState) → state_at states b.parent ≡ o → IfSome o (λ parent. KnowsBase parent x)
    of_parent x b based is None there = tt
    of_parent x b based is (Some parent) there = subst (λ (o : Option Base). IfSome o (λ b. (snap : Snap) → snap_at (head_in parent) b.slot ≡ Some (snap_in snap) → parent.span ≤ x.span → KnowsSnap parent snap x b)) (sym based)
        (λ snap found wide. snap_knows parent x b is (same_Some is.parent parent (sym is.there ∙ there)) snap found)

    of_base : (x : VolumeState) (o : Option Base) → x.base ≡ o → IfSome o (λ b. IsFooted states x b × IsOnBase slots x) → IfSome o (λ b. b.parent ≢ s → IfSome (state_at states b.parent) (λ parent. KnowsBase parent x))
    of_base x None based is = tt
    of_base x (Some b) based is = λ other. of_parent x b based is.0 (state_at states b.parent) refl

    by : (o : Option VolumeState) → IfSome o (λ x. IfSome x.base (λ b. IsFooted states x b × IsOnBase slots x)) → IfSome o (λ x. IfSome x.base (λ b. b.parent ≢ s → IfSome (state_at states b.parent) (λ parent. KnowsBase parent x)))
    by None is = tt
    by (Some x) is = of_base x x.base refl is

-- ---- what stays

-- what a point leaves of a volume
abbrev pub left_of : VolumeState → VolumeState
left_of x = record (core_of x) { map = x.map }

-- so is each volume of a slot that knows what it stands on
KnowAt : (ℕ → Option VolumeState) → Type 0
KnowAt at = (s : ℕ) → IfSome (at s) (λ x. IfSome x.base (λ b. b.parent ≢ s → IfSome (at b.parent) (λ parent. KnowsBase parent x)))

to_left : (at : ℕ → Option VolumeState) → KnowAt at → KnowAt (λ s. option_map left_of (at s))
unfolding KnowAt snap_at
to_left at knows s = by (at s) (knows s)
  where
    of_parent : (x : VolumeState) (o : Option VolumeState) → IfSome o (λ parent. KnowsBase parent x) → IfSome (option_map left_of o) (λ parent. KnowsBase parent (left_of x))
    of_parent x None is = tt
    of_parent x (Some parent) is = of_base x.base is
      where
        of_base : (b : Option Base) → IfSome b (λ b. (snap : Snap) → snap_at (head_in parent) b.slot ≡ Some (snap_in snap) → parent.span ≤ x.span → KnowsSnap parent snap x b)
            → IfSome b (λ b. (snap : Snap) → snap_at (head_in (left_of parent)) b.slot ≡ Some (snap_in snap) → parent.span ≤ x.span → KnowsSnap (left_of parent) snap (left_of x) b)
        of_base None is = tt
        of_base (Some b) is = λ snap found wide. let k = is snap found wide in record { named = k.named; called = k.called; table = k.table; same = k.same }

    of_base : (x : VolumeState) (b : Option Base) → IfSome b (λ b. b.parent ≢ s → IfSome (at b.parent) (λ parent. KnowsBase parent x)) → IfSome b (λ b. b.parent ≢ s → IfSome (option_map left_of (at b.parent)) (λ parent. KnowsBase parent (left_of x)))
    of_base x None is = tt
    of_base x (Some b) is = λ other. of_parent x (at b.parent) (is other)

    by : (o : Option VolumeState) → IfSome o (λ x. IfSome x.base (λ b. b.parent ≢ s → IfSome (at b.parent) (λ parent. KnowsBase parent x)))
        → IfSome (option_map left_of o) (λ x. IfSome x.base (λ b. b.parent ≢ s → IfSome (option_map left_of (at b.parent)) (λ parent. KnowsBase parent x)))
    by None is = tt
    by (Some x) is = of_base x x.base is

from_left : (at : ℕ → Option VolumeState) → KnowAt (λ s. option_map left_of (at s)) → KnowAt at
unfolding KnowAt snap_at
from_left at knows s = by (at s) (knows s)
  where
    of_parent : (x : VolumeState) (o : Option VolumeState) → IfSome (option_map left_of o) (λ parent. KnowsBase parent (left_of x)) → IfSome o (λ parent. KnowsBase parent x)
    of_parent x None is = tt
    of_parent x (Some parent) is = of_base x.base is
      where
        of_base : (b : Option Base) → IfSome b (λ b. (snap : Snap) → snap_at (head_in (left_of parent)) b.slot ≡ Some (snap_in snap) → parent.span ≤ x.span → KnowsSnap (left_of parent) snap (left_of x) b)
            → IfSome b (λ b. (snap : Snap) → snap_at (head_in parent) b.slot ≡ Some (snap_in snap) → parent.span ≤ x.span → KnowsSnap parent snap x b)
        of_base None is = tt
        of_base (Some b) is = λ snap found wide. let k = is snap found wide in record { named = k.named; called = k.called; table = k.table; same = k.same }

    of_base : (x : VolumeState) (b : Option Base) → IfSome b (λ b. b.parent ≢ s → IfSome (option_map left_of (at b.parent)) (λ parent. KnowsBase parent (left_of x))) → IfSome b (λ b. b.parent ≢ s → IfSome (at b.parent) (λ parent. KnowsBase parent x))
    of_base x None is = tt
    of_base x (Some b) is = λ other. of_parent x (at b.parent) (is other)

    by : (o : Option VolumeState) → IfSome (option_map left_of o) (λ x. IfSome x.base (λ b. b.parent ≢ s → IfSome (option_map left_of (at b.parent)) (λ parent. KnowsBase parent x)))
        → IfSome o (λ x. IfSome x.base (λ b. b.parent ≢ s → IfSome (at b.parent) (λ parent. KnowsBase parent x)))
    by None is = tt
    by (Some x) is = of_base x x.base is

-- Volumes know what they stand on where those do that keep all but what a point may change.
pub knows_alike : (states stay : States) → ((s : ℕ) → option_map left_of (state_at stay s) ≡ option_map left_of (state_at states s)) → KnowBases states → KnowBases stay
unfolding KnowAt
knows_alike states stay same knows = from_left (state_at stay) (subst KnowAt (λ i s. sym (same s) i) (to_left (state_at states) knows))

-- A core and the maps tell that of a volume.
pub left_alike : (a b : Option VolumeState) → option_map core_of a ≡ option_map core_of b → option_map (λ (x : VolumeState). x.map) a ≡ option_map (λ (x : VolumeState). x.map) b → option_map left_of a ≡ option_map left_of b
left_alike None None core map = refl
left_alike None (Some y) core map = absurd cc
left_alike (Some x) None core map = absurd cc
left_alike (Some x) (Some y) core map =
    let one : core_of x ≡ core_of y = same_Some (core_of x) (core_of y) core in
    let two : x.map ≡ y.map = same_Some x.map y.map map in
    λ i. Some (record (one i) { map = two i })

-- So does each once a point settled them.
pub knows_settled : (states stay : States) → AreSettled states stay → KnowBases states → KnowBases stay
knows_settled states stay settled = knows_alike states stay (λ s. ap (option_map left_of) (settled s).1 ∙ by (state_at states s) (settled s).0)
  where
    by : (o : Option VolumeState) (label : ℕ) → option_map left_of (option_map (settled_as label) o) ≡ option_map left_of o
    by None label = refl
    by (Some x) label = ap (λ (z : VolumeState). Some z) (settled_keeps left_of x label refl)
