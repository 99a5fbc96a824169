-- A clone that was admitted is made of its parent.
use Rattle.std.proofs.Common.{◌≡◌, ◌<◌, ℕ, List, Some, sym, ap, subst, ◌∙◌}
use Rattle.std.specs.Prelude.{IfSome, IsSome, OnOk, Result, Ok, Err}
use Rattle.std.specs.declared.alloc.AllocError.{AllocError}
use Rattle.fv_container.specs.Chains.{paged_at, parent_at}
use Rattle.fv_container.specs.Paged.{empty_paged}
use Rattle.fv_image.specs.Views.{Head, entry_count}
use Rattle.fv_model.specs.declared.commands.Kind.{Kind}
use Rattle.fv_volmap.specs.Slots.{slot_at, slot_count as map_slot_count}
use Rattle.fv_pool.specs.declared.pool.Pool.{Pool}
use Rattle.fv_volume.specs.declared.state.VolumeState.{VolumeState}
use Rattle.fv_volume.specs.Cloning.{IsCloneOf}
use Rattle.fv_volume.specs.Files.{IsLabelled}
use Rattle.fv_volume.specs.States.{States, state_at, with_state}
use Rattle.fv_volumes.specs.Creating.{with_holes_on}
use Rattle.fv_clone.specs.declared.admitting.Admitted.{Admitted}
use Rattle.fv_clone.specs.Admitting.{CanMake}
use Rattle.fv_clone.specs.Creating.{IsCloned}
use Rattle.fv_clone.proofs.Source.{same_home, snap_inside, snap_used, IsOfAsked}

module _ (states : States) (pool : Pool) (name : List ℕ) (size : ℕ) (kind : Kind) (a : Admitted) (admits : CanMake states pool.found.blocks name size kind a) (each : (s : ℕ) → IfSome (state_at states s) (IsLabelled s)) where
  -- its base is of the snapshot that is asked
  abbrev pub of_asked : IsOfAsked states a.base name size
  of_asked = record { asked = admits.asked; is = admits.base_is; labelled = each }

  module _ (y : VolumeState) (there : state_at states a.base.parent ≡ Some y) where
    pub inside_of : a.base.slot < map_slot_count
    inside_of = snap_inside of_asked

    pub used_of : IsSome (slot_at y.map a.base.slot)
    used_of = snap_used of_asked y there

    -- Once it is put in its slot it is made.
    pub cloned_by : (state : VolumeState) → IsCloneOf y a.base a.slot name size kind a.span state → (new : States) (r : Result (Unit {0}) AllocError) → OnOk r (new ≡ with_state states state.slot (Some state))
        → (left : Pool) → OnOk r (left ≡ with_holes_on pool state.slot state.span (Some a.base.parent))
        → OnOk r (paged_at left.containers state.slot ≡ Some (empty_paged (entry_count state.span))) → OnOk r (parent_at left.containers state.slot ≡ Some a.base.parent) → OnOk r (IsCloned states pool name size kind a new left)
    cloned_by state is new (Ok done) row left holes container parent_is =
        let span : state.span ≡ a.span = ap (λ (h : Head). h.span) is.head in
        record {
          admits = admits;
          state = state;
          is = subst (λ (z : VolumeState). IsCloneOf z a.base a.slot name size kind a.span state) (sym (same_home of_asked y there)) is;
          row = row ∙ ap (λ (n : ℕ). with_state states n (Some state)) is.slot_is;
          holes = holes ∙ (λ i. with_holes_on pool (is.slot_is i) (span i) (Some a.base.parent));
          container = ap (paged_at left.containers) (sym is.slot_is) ∙ container ∙ ap (λ (n : ℕ). Some (empty_paged (entry_count n))) span;
          parent = ap (parent_at left.containers) (sym is.slot_is) ∙ parent_is;
        }
    cloned_by state is new (Err e) row left holes container parent_is = tt
