-- What a clone is asked of, as it's found by names.
use Rattle.std.proofs.Common.{◌≡◌, ℕ, ◌<◌, ◌≤◌, ◌+◌, true, List, Option, Some, None, refl, sym, ap, subst, ◌∙◌, arith}
use Rattle.std.specs.Prelude.{IfSome, IsSome}
use Rattle.std.specs.Option.{option_map}
use Rattle.std.proofs.lemmas.Option.{same_Some}
use Rattle.fv_charge.specs.Ledgers.{committed}
use Rattle.fv_container.specs.Chains.{slot_count}
use Rattle.fv_model.specs.declared.commands.Kind.{Kind}
use Rattle.fv_model.specs.Machines.{capacity}
use Rattle.fv_model.specs.Numbers.{is_size}
use Rattle.fv_laws.proofs.Changes.{same_name}
use Rattle.fv_volmap.specs.Slots.{slot_at, slot_count as map_slot_count}
use Rattle.fv_volume.specs.declared.state.Base.{Base}
use Rattle.fv_volume.specs.declared.state.Snap.{Snap}
use Rattle.fv_volume.specs.declared.state.VolumeState.{VolumeState}
use Rattle.fv_volume.specs.Asking.{snap_named}
use Rattle.fv_volume.specs.Cloning.{base_on, count_in}
use Rattle.fv_volume.specs.Files.{IsLabelled}
use Rattle.fv_volume.specs.Slots.{is_named, HasName, IsFirstFree, NoneHasName, sum_of}
use Rattle.fv_volume.specs.States.{States, ledger_of_empty, state_at}
use Rattle.fv_volume.proofs.SnapFinds.{named_there, slot_inside, slot_used}
use Rattle.fv_clone.specs.declared.admitting.Admitted.{Admitted}
use Rattle.fv_clone.specs.Admitting.{Admits, CanMake, CanStand, HasParent, HasSource, IsAsked, IsBaseNamed}

-- what a clone stands on is of a snapshot of the name,
pub of_base : (y : VolumeState) (name : List ℕ) (b : Base) → Some b ≡ option_map (base_on y) (snap_named y.snapshots name) → (q : Snap) × ((snap_named y.snapshots name ≡ Some q) × (b ≡ base_on y q))
of_base y name b e = by (snap_named y.snapshots name) refl e
  where
    by : (o : Option Snap) → snap_named y.snapshots name ≡ o → Some b ≡ option_map (base_on y) o → (q : Snap) × ((snap_named y.snapshots name ≡ Some q) × (b ≡ base_on y q))
    by None at f = absurd cc
    by (Some q) at f = (q, (at, same_Some b (base_on y q) f))

-- and there is nothing to stand on where no snapshot has it
pub no_base : (y : VolumeState) (name : List ℕ) → None ≡ option_map (base_on y) (snap_named y.snapshots name) → snap_named y.snapshots name ≡ None
no_base y name e = by (snap_named y.snapshots name) e
  where
    by : (o : Option Snap) → None ≡ option_map (base_on y) o → o ≡ None
    by None f = refl
    by (Some q) f = absurd cc

-- the volume of the first slot of a name has it
pub name_is : (states : States) (slot : ℕ) (name : List ℕ) (y : VolumeState) → HasName states slot name → state_at states slot ≡ Some y → y.name ≡ name
name_is states slot name y has there = same_name y.name name (ap (λ (o : Option VolumeState). is_named o name) (sym there) ∙ has.named)

module _ (states : States) (slot : ℕ) (parent snapshot : List ℕ) (within : slot < slot_count) (has : HasName states slot parent) (y : VolumeState) (there : state_at states slot ≡ Some y) where
  abbrev pub home_of : HasParent states parent
  home_of = record { slot = slot; within = within; has = has; volume = y; there = there }

  module _ (q : Snap) (found : snap_named y.snapshots snapshot ≡ Some q) where
    abbrev pub source_of : HasSource states parent snapshot
    source_of = record { home = home_of; snap = q; found = found }

    pub named_of : IsBaseNamed parent snapshot (base_on y q)
    named_of = record { parent_is = name_is states slot parent y has there; snapshot_is = sym (named_there snapshot y.snapshots q found).1 }

    module _ (name : List ℕ) (size : ℕ) (sized : is_size size ≡ true) (none : NoneHasName states name) where
      abbrev pub asked_of : IsAsked states parent snapshot name size
      asked_of = record { size_is = sized; source = source_of; name_is = none }

      -- So a clone is admitted by the names that its base has.
      pub admits_now : (blocks : ℕ) (kind : Kind) (place span : ℕ) (b : Base) → b ≡ base_on y q → CanStand y q.slot size span → IsFirstFree states place → sum_of states + committed (ledger_of_empty size kind span) ≤ capacity blocks
          → Admits states blocks name size kind (record { slot = place; span = span; base = b })
      admits_now blocks kind place span b is can free room = subst (λ (c : Base). Admits states blocks name size kind (record { slot = place; span = span; base = c })) (sym is) (record {
        asked = record {
          size_is = sized;
          source = record {
            home = record { slot = slot; within = within; has = subst (HasName states slot) (sym (name_is states slot parent y has there)) has; volume = y; there = there };
            snap = q;
            found = ap (snap_named y.snapshots) (sym (named_there snapshot y.snapshots q found).1) ∙ found;
          };
          name_is = none;
        };
        base_is = refl;
        can = can;
        free = free;
        room = room;
      })

-- the map slot of a base that is asked is one of its parent's snapshots, and is used
pub base_inside : (y : VolumeState) (slot : ℕ) (name : List ℕ) (q : Snap) → IsLabelled slot y → snap_named y.snapshots name ≡ Some q → q.slot < map_slot_count
base_inside y slot name q labelled found = let low = (slot_inside y slot labelled q (named_there name y.snapshots q found).0).1 in omega (arith, low)

pub base_used : (y : VolumeState) (slot : ℕ) (name : List ℕ) (q : Snap) → IsLabelled slot y → snap_named y.snapshots name ≡ Some q → IsSome (slot_at y.map q.slot)
base_used y slot name q labelled found = slot_used y slot labelled q (named_there name y.snapshots q found).0

-- the volume of a slot has a label that can be written, where each has
pub labelled_at : (states : States) → ((s : ℕ) → IfSome (state_at states s) (IsLabelled s)) → (slot : ℕ) (y : VolumeState) → state_at states slot ≡ Some y → IsLabelled slot y
labelled_at states each slot y there = subst (λ (o : Option VolumeState). IfSome o (IsLabelled slot)) there (each slot)

-- a clone that is admitted can be made
pub can_make : (states : States) (blocks : ℕ) (name : List ℕ) (size : ℕ) (kind : Kind) (a : Admitted) → Admits states blocks name size kind a → CanMake states blocks name size kind a
can_make states blocks name size kind a is = record {
  asked = is.asked;
  base_is = is.base_is;
  can = record { whole = is.can.whole; known = is.can.known; ids = count_in is.asked.source.home.volume is.asked.source.snap.slot; span_is = is.can.span_is; most = is.can.most };
  free = is.free;
  room = is.room;
}
