-- Why a clone is refused by its parent, or for want of a place; and what is known of one that stands on a base which was found.
use Rattle.std.proofs.Common.{arith, ◌≡◌, ◌<◌, ◌≤◌, ◌+◌, ◌∙◌, ℕ, true, List, Some, inr, refl, sym, ap, subst}
use Rattle.std.specs.Prelude.{IfSome}
use Rattle.std.specs.Option.{option_map}
use Rattle.fv_charge.specs.Ledgers.{committed}
use Rattle.fv_model.specs.declared.answers.Refusal.{Refusal}
use Rattle.fv_model.specs.declared.answers.Refusal.TheVariants.{AggregateFull, Range, TooMany, VolumeFull, VolumeInUse, ParentNotClean}
use Rattle.fv_model.specs.declared.commands.Kind.{Kind}
use Rattle.fv_model.specs.Machines.{capacity}
use Rattle.fv_model.specs.Numbers.{greatest_span, is_size}
use Rattle.fv_container.specs.Chains.{slot_count}
use Rattle.fv_volmap.specs.Slots.{slot_count as map_slot_count}
use Rattle.fv_volume.specs.declared.state.Base.{Base}
use Rattle.fv_volume.specs.declared.state.Snap.{Snap}
use Rattle.fv_volume.specs.declared.state.VolumeState.{VolumeState}
use Rattle.fv_volume.specs.Asking.{snap_named}
use Rattle.fv_volume.specs.Cloning.{base_on}
use Rattle.fv_volume.specs.Files.{IsLabelled}
use Rattle.fv_volume.specs.Slots.{HasName, NoneHasName, sum_of}
use Rattle.fv_volume.specs.States.{States, ledger_of_empty, state_at}
use Rattle.fv_volumes.specs.declared.admit.Wanted.{Wanted}
use Rattle.fv_volumes.specs.Creating.{FindsPlace, LacksPlace, RefusesWanted, commit_wanted, ledger_wanted, span_wanted, use_wanted}
use Rattle.fv_clone.specs.Admitting.{Admits, CanStand, HasSource, IsAsked, IsBaseNamed, IsWantedOn, Refuses, RefusesParent}
use Rattle.fv_clone.proofs.Asked.{admits_now, asked_of, base_inside, labelled_at, named_of, of_base, source_of}

module _ (states : States) (blocks : ℕ) (parent snapshot name : List ℕ) (size : ℕ) (kind : Kind) (asked : IsAsked states parent snapshot name size) where
  pub of_parent : (r : Refusal) → RefusesParent asked.source.home.volume asked.source.snap.slot size r → Refuses states blocks parent snapshot name size kind r
  of_parent VolumeInUse is = record { asked = asked; refuses = is }
  of_parent ParentNotClean is = record { asked = asked; refuses = is }
  of_parent Range is = inr (record { asked = asked; refuses = is })
  of_parent r is = absurd is

  pub of_place : (span : ℕ) → CanStand asked.source.home.volume asked.source.snap.slot size span → (r : Refusal) → LacksPlace states blocks (committed (ledger_of_empty size kind span)) r → Refuses states blocks parent snapshot name size kind r
  of_place span can TooMany is = record { asked = asked; span = span; can = can; lacks = is }
  of_place span can AggregateFull is = record { asked = asked; span = span; can = can; lacks = is }
  of_place span can r is = absurd is

-- ---- what stands on a base that was found

module _ (states : States) (slot : ℕ) (parent snapshot : List ℕ) (within : slot < slot_count) (has : HasName states slot parent) (y : VolumeState) (there : state_at states slot ≡ Some y)
    (b : Base) (found : Some b ≡ option_map (base_on y) (snap_named y.snapshots snapshot)) where
  abbrev its : (q : Snap) × ((snap_named y.snapshots snapshot ≡ Some q) × (b ≡ base_on y q))
  its = of_base y snapshot b found

  its_slot : b.slot ≡ its.0.slot
  its_slot = ap (λ (c : Base). c.slot) its.1.1

  pub source_by : HasSource states parent snapshot
  source_by = source_of states slot parent snapshot within has y there its.0 its.1.0

  pub named_by : IsBaseNamed parent snapshot b
  named_by = subst (IsBaseNamed parent snapshot) (sym its.1.1) (named_of states slot parent snapshot within has y there its.0 its.1.0)

  pub inside_by : ((s : ℕ) → IfSome (state_at states s) (IsLabelled s)) → b.slot < map_slot_count
  inside_by each = subst (λ (n : ℕ). n < map_slot_count) (sym its_slot) (base_inside y slot snapshot its.0 (labelled_at states each slot y there) its.1.0)

  module _ (blocks : ℕ) (name : List ℕ) (size : ℕ) (kind : Kind) (sized : is_size size ≡ true) (none : NoneHasName states name) where
    abbrev asked_by : IsAsked states parent snapshot name size
    asked_by = asked_of states slot parent snapshot within has y there its.0 its.1.0 name size sized none

    pub parent_by : (r : Refusal) → RefusesParent y b.slot size r → Refuses states blocks parent snapshot name size kind r
    parent_by r is = of_parent states blocks parent snapshot name size kind asked_by r (subst (λ (n : ℕ). RefusesParent y n size r) its_slot is)

    -- what is wanted of the clone decides, where the parent doesn't refuse it
    module _ (wanted : Wanted) (is : IsWantedOn y b.slot size kind wanted) where
      can_by : (span : ℕ) → span ≡ span_wanted wanted → span ≤ greatest_span → CanStand y b.slot size span
      can_by span span_is most = record { whole = is.whole; known = is.known; maps = is.maps; span_is = span_is ∙ ap span_wanted is.wanted_is; most = most }

      can_there : (span : ℕ) → CanStand y b.slot size span → CanStand y its.0.slot size span
      can_there span can = subst (λ (n : ℕ). CanStand y n size span) its_slot can

      commits : (span : ℕ) → span ≡ span_wanted wanted → commit_wanted wanted ≡ committed (ledger_of_empty size kind span)
      commits span span_is = (λ j. committed (ledger_wanted wanted (sym span_is j))) ∙ ap (λ (w : Wanted). committed (ledger_wanted w span)) is.wanted_is

      place_by : (r : Refusal) → span_wanted wanted ≤ greatest_span → LacksPlace states blocks (commit_wanted wanted) r → Refuses states blocks parent snapshot name size kind r
      place_by r most lacks =
          of_place states blocks parent snapshot name size kind asked_by (span_wanted wanted) (can_there (span_wanted wanted) (can_by (span_wanted wanted) refl most)) r
          (subst (λ (n : ℕ). LacksPlace states blocks n r) (commits (span_wanted wanted) refl) lacks)

      pub refused_by : (r : Refusal) → RefusesWanted states blocks wanted r → Refuses states blocks parent snapshot name size kind r
      refused_by Range wide = parent_by Range (record { whole = is.whole; known = is.known; maps = is.maps; wide = subst (λ (w : Wanted). greatest_span < span_wanted w) is.wanted_is wide })
      refused_by TooMany why = place_by TooMany why.0 why.1
      refused_by VolumeFull why =
          let over : size < 0 = subst (λ (w : Wanted). w.size < use_wanted w) is.wanted_is why.1.1.1 in
          absurd (omega (arith, over))
      refused_by AggregateFull why = place_by AggregateFull why.0 why.1.1
      refused_by r why = absurd why

      pub admits_by : (place span : ℕ) → FindsPlace states blocks wanted place span → Admits states blocks name size kind (record { slot = place; span = span; base = b })
      admits_by place span found =
          admits_now states slot parent snapshot within has y there its.0 its.1.0 name size sized none blocks kind place span b its.1.1 (can_there span (can_by span found.span_is found.most)) found.free
          (subst (λ (n : ℕ). sum_of states + n ≤ capacity blocks) (commits span found.span_is) found.room)
