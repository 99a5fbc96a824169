-- Why a mirror is refused for want of a place, and that one is admitted, by what was found.
use Rattle.std.proofs.Common.{◌≡◌, ◌<◌, ◌≤◌, ◌+◌, ◌∙◌, ℕ, true, List, Some, inr, refl, sym, ap, subst, arith}
use Rattle.std.specs.Option.{option_map}
use Rattle.fv_charge.specs.Ledgers.{committed}
use Rattle.fv_container.specs.Chains.{slot_count}
use Rattle.fv_model.specs.declared.answers.Refusal.{Refusal}
use Rattle.fv_model.specs.declared.answers.Refusal.TheVariants.{AggregateFull, Range, TooMany, VolumeFull}
use Rattle.fv_model.specs.declared.commands.Kind.{Kind}
use Rattle.fv_model.specs.Machines.{capacity}
use Rattle.fv_model.specs.Numbers.{is_size}
use Rattle.fv_model.specs.Space.{span_of}
use Rattle.fv_volmap.specs.Slots.{IsVolume}
use Rattle.fv_volume.specs.declared.state.Base.{Base}
use Rattle.fv_volume.specs.declared.state.Snap.{Snap}
use Rattle.fv_volume.specs.declared.state.VolumeState.{VolumeState}
use Rattle.fv_volume.specs.Asking.{snap_named}
use Rattle.fv_volume.specs.Cloning.{base_on, count_in}
use Rattle.fv_volume.specs.Mirroring.{ledger_of_mirror}
use Rattle.fv_volume.specs.Slots.{HasName, NoneHasName, sum_of}
use Rattle.fv_volume.specs.States.{States, state_at}
use Rattle.fv_volume.proofs.SnapFinds.{named_there}
use Rattle.fv_volumes.specs.Creating.{FindsPlace, RefusesWanted}
use Rattle.fv_clone.specs.Admitting.{IsAsked}
use Rattle.fv_clone.proofs.Asked.{asked_of, name_is, of_base}
use Rattle.fv_mirror.specs.Admitting.{Admits, Refuses, wanted_of}

module _ (states : States) (blocks : ℕ) (source snapshot name : List ℕ) (size : ℕ) (kind : Kind) (asked : IsAsked states source snapshot name size) (maps : IsVolume asked.source.home.volume.map) where
  pub of_place : (r : Refusal) → RefusesWanted states blocks (wanted_of asked.source.home.volume asked.source.snap.slot size kind) r → Refuses states blocks source snapshot name size kind r
  of_place Range is = inr (record { asked = asked; maps = maps; lacks = is })
  of_place TooMany is = record { asked = asked; maps = maps; lacks = is }
  of_place VolumeFull is = record { asked = asked; maps = maps; lacks = is }
  of_place AggregateFull is = record { asked = asked; maps = maps; lacks = is }
  of_place r is = absurd is

-- ---- by what was found

module _ (states : States) (slot : ℕ) (source snapshot : List ℕ) (within : slot < slot_count) (has : HasName states slot source) (y : VolumeState) (there : state_at states slot ≡ Some y)
    (b : Base) (found : Some b ≡ option_map (base_on y) (snap_named y.snapshots snapshot)) (blocks : ℕ) (name : List ℕ) (size : ℕ) (kind : Kind) (sized : is_size size ≡ true) (none : NoneHasName states name) where
  abbrev its : (q : Snap) × ((snap_named y.snapshots snapshot ≡ Some q) × (b ≡ base_on y q))
  its = of_base y snapshot b found

  its_slot : b.slot ≡ its.0.slot
  its_slot = ap (λ (c : Base). c.slot) its.1.1

  pub refused_by : IsVolume y.map → (r : Refusal) → RefusesWanted states blocks (wanted_of y b.slot size kind) r → Refuses states blocks source snapshot name size kind r
  refused_by maps r why = of_place states blocks source snapshot name size kind (asked_of states slot source snapshot within has y there its.0 its.1.0 name size sized none) maps r
      (subst (λ (n : ℕ). RefusesWanted states blocks (wanted_of y n size kind) r) its_slot why)

  commits : (span count : ℕ) → count ≡ count_in y b.slot → span ≡ span_of size 0 y.span → committed (ledger_of_mirror (count_in y b.slot) size kind (span_of size 0 y.span)) ≡ committed (ledger_of_mirror count size kind span)
  commits span count counted wide = λ i. committed (ledger_of_mirror (sym counted i) size kind (sym wide i))

  pub admits_by : IsVolume y.map → (place span count : ℕ) → count ≡ count_in y b.slot → FindsPlace states blocks (wanted_of y b.slot size kind) place span → Admits states blocks name size kind (record { slot = place; span = span; source = b; count = count })
  admits_by maps place span count counted finds =
      let named : y.name ≡ source = name_is states slot source y has there in
      let snap_name : its.0.name ≡ snapshot = sym (named_there snapshot y.snapshots its.0 its.1.0).1 in
      subst (λ (c : Base). Admits states blocks name size kind (record { slot = place; span = span; source = c; count = count })) (sym its.1.1) (record {
        asked = record {
          size_is = sized;
          source = record {
            home = record { slot = slot; within = within; has = subst (HasName states slot) (sym named) has; volume = y; there = there };
            snap = its.0;
            found = ap (snap_named y.snapshots) snap_name ∙ its.1.0;
          };
          name_is = none;
        };
        source_is = refl;
        maps = maps;
        count_is = counted ∙ ap (count_in y) its_slot;
        span_is = finds.span_is;
        most = finds.most;
        free = finds.free;
        fits = let fits = finds.fits in omega (arith, fits, counted);
        room = subst (λ (n : ℕ). sum_of states + n ≤ capacity blocks) (commits span count counted finds.span_is) finds.room;
      })
