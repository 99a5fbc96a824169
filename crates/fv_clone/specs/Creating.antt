-- What making a clone leaves.
use Rattle.std.specs.Prelude.{◌≡◌, ℕ, List, Some}
use Rattle.fv_container.specs.Chains.{paged_at, parent_at}
use Rattle.fv_container.specs.Paged.{empty_paged}
use Rattle.fv_image.specs.Views.{entry_count}
use Rattle.fv_model.specs.declared.commands.Kind.{Kind}
use Rattle.fv_pool.specs.declared.fault.VolumeFault.{VolumeFault}
use Rattle.fv_pool.specs.declared.fault.VolumeFault.TheVariants.{Refused, DiskFault, Damaged, Memory}
use Rattle.fv_pool.specs.declared.pool.Pool.{Pool}
use Rattle.fv_volume.specs.declared.state.VolumeState.{VolumeState}
use Rattle.fv_volume.specs.Cloning.{IsCloneOf}
use Rattle.fv_volume.specs.States.{States, with_state}
use Rattle.fv_volumes.specs.Creating.{with_holes_on}
use Rattle.fv_clone.specs.declared.admitting.Admitted.{Admitted}
use Rattle.fv_clone.specs.Admitting.{Admits, CanMake, IsBaseNamed, Refuses}

-- A clone that was admitted is in its slot, with a container of holes and its parent; the other slots, and the rest of the pool, are as before.
pub record IsCloned (old : States) (pool : Pool) (name : List ℕ) (size : ℕ) (kind : Kind) (a : Admitted) (new : States) (left : Pool) : Type 0 where
  pub admits : CanMake old pool.found.blocks name size kind a
  pub state : VolumeState
  pub is : IsCloneOf admits.asked.source.home.volume a.base a.slot name size kind a.span state
  pub row : new ≡ with_state old a.slot (Some state)
  pub holes : left ≡ with_holes_on pool a.slot a.span (Some a.base.parent)
  pub container : paged_at left.containers a.slot ≡ Some (empty_paged (entry_count a.span))
  pub parent : parent_at left.containers a.slot ≡ Some a.base.parent

-- So it is with one of a snapshot that is asked by its name, in this slot, with the span that was admitted.
pub record Creates (old : States) (pool : Pool) (parent snapshot name : List ℕ) (size : ℕ) (kind : Kind) (new : States) (left : Pool) (slot : ℕ) : Type 0 where
  pub admitted : Admitted
  pub slot_is : admitted.slot ≡ slot
  pub named : IsBaseNamed parent snapshot admitted.base
  pub admits : Admits old pool.found.blocks name size kind admitted
  pub cloned : IsCloned old pool name size kind admitted new left

-- Why none is made: it is refused, or memory ran out.
abbrev pub IsCreateFault : States → ℕ → List ℕ → List ℕ → List ℕ → ℕ → Kind → VolumeFault → Type 0
IsCreateFault states blocks parent snapshot name size kind (Refused r) = Refuses states blocks parent snapshot name size kind r
IsCreateFault states blocks parent snapshot name size kind DiskFault = ⊥
IsCreateFault states blocks parent snapshot name size kind (Damaged at want found) = ⊥
IsCreateFault states blocks parent snapshot name size kind Memory = Unit {0}
