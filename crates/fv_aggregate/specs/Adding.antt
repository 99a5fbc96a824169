-- The steps of `vol create` and of `clone create`: a volume is admitted, room is made for it, and then it is added in memory.
use Rattle.std.specs.Prelude.{◌≡◌, ◌<◌, ◌≤◌, ◌+◌, ℕ, true, List, [], Some, None, max, IsTrue}
use Rattle.fv_charge.specs.Ledgers.{committed}
use Rattle.fv_disk.specs.Shown.{Shown}
use Rattle.fv_model.specs.declared.commands.Kind.{Kind}
use Rattle.fv_model.specs.Machines.{capacity}
use Rattle.fv_model.specs.Space.{overhead, span_of}
use Rattle.fv_image.specs.Held.{view_at}
use Rattle.fv_image.specs.Views.{overheads}
use Rattle.fv_root.specs.Finding.{root_found}
use Rattle.fv_container.specs.Chains.{IsSlots, slot_count}
use Rattle.fv_volmap.specs.Slots.{empty_volume}
use Rattle.fv_pool.specs.declared.pool.Pool.{Pool}
use Rattle.fv_volume.specs.declared.state.VolumeState.{VolumeState}
use Rattle.fv_volume.specs.Files.{IsLabelled}
use Rattle.fv_volume.specs.OneVolume.{IsBooked}
use Rattle.fv_volume.specs.Slots.{NoneHasName, sum_of}
use Rattle.fv_volume.specs.States.{States, empty_head, head_in, ledger_of_empty, parent_in, state_at, with_state}
use Rattle.fv_volumes.specs.Creating.{Admits, with_holes_on}
use Rattle.fv_clone.specs.declared.admitting.Admitted.{Admitted}
use Rattle.fv_clone.specs.Creating as creating
use Rattle.fv_cp.specs.Lent.{FitTogether}
use Rattle.fv_cp.specs.Placing.{HaveNoFiles, KeepCores}
use Rattle.fv_cp.specs.Points.{IsNextRoot}
use Rattle.fv_aggregate.specs.declared.session.Session.{Session}
use Rattle.fv_aggregate.specs.Standing.{clear_blocks, IsWithoutFiles}

-- Beside the overheads of the last point there is room for what is pending and for so many blocks more, and for 256 blocks at least.
abbrev pub HasRoom : Shown → Session → ℕ → Type 0
HasRoom disk session room = overheads (view_at (root_found session.pool.found) disk.reads) + max 256 (session.pending + room) ≤ clear_blocks session.pool.map

-- a new volume that was admitted is admitted still
abbrev pub StillAdmits : Session → Session → Type 0
StillAdmits old new = (name : List ℕ) (size : ℕ) (kind : Kind) (slot span : ℕ) → Admits old.volumes old.pool.found.blocks name size kind slot span → Admits new.volumes new.pool.found.blocks name size kind slot span

-- What a consistency point that was done leaves of a session, also over an image that stands for no machine: another root counts, nothing is
-- pending, no file is in memory, the next root would hold what the new one does, and of the volumes stays what placing and points keep.
pub record IsPointed (before : Shown) (old new : Session) : Type 0 where
  -- the point was made: the root that counts is the one after that of before
  pub next : IsNextRoot old.pool.found new.pool.found
  pub pending : new.pending ≡ 0
  pub files : IsTrue before.tells → IsWithoutFiles new
  pub same : IsTrue before.tells → new.pool.map.next ≡ new.pool.map.committed
  pub cores : KeepCores old.volumes new.volumes
  pub admits : StillAdmits old new
  -- whatever the disk tells, no file is in memory, and the aggregate has as many blocks
  pub none : HaveNoFiles new.volumes
  pub blocks : new.pool.found.blocks ≡ old.pool.found.blocks

-- ---- a volume more

-- A new volume that a consistency point has yet to write, whatever it stands on: its label can be written, but lies nowhere yet, nor does a map of it,
-- and nothing of its files is in memory.
pub record IsYetToWrite (x : VolumeState) : Type 0 where
  pub labelled : IsLabelled x.slot x
  pub booked : IsBooked x
  pub label : x.label ≡ 0
  pub changed : x.changed ≡ true
  pub snapshots : x.snapshots ≡ []
  pub files : x.files ≡ None

-- A volume was put into a slot that was free, with a container of holes and the parent that it stands on. The other slots, and the rest of the pool,
-- are as they were.
pub record IsPutIn (pool : Pool) (states : States) (x : VolumeState) (left : Pool) (new : States) : Type 0 where
  pub within : x.slot < slot_count
  pub free : state_at states x.slot ≡ None
  pub row : new ≡ with_state states x.slot (Some x)
  pub holes : left ≡ with_holes_on pool x.slot x.span (parent_in (Some x))

-- A new volume was added to a session under a name that none had, with room for what it commits. This room is its overhead.
pub record IsAdded (old : Session) (x : VolumeState) (room : ℕ) (new : Session) : Type 0 where
  pub put : IsPutIn old.pool old.volumes x new.pool new.volumes
  pub is : IsYetToWrite x
  pub name_is : NoneHasName old.volumes x.name
  pub commits : sum_of old.volumes + committed x.ledger ≤ capacity old.pool.found.blocks
  pub room_is : room ≡ overhead x.span
  pub fit : FitTogether old.pool old.volumes
  pub few : IsSlots old.pool.containers
  pub failed : new.failed ≡ old.failed
  pub delays : new.delays ≡ old.delays

-- So an empty volume of this name, size and kind was, that was admitted.
pub record IsCreated (old : Session) (name : List ℕ) (size : ℕ) (kind : Kind) (room : ℕ) (new : Session) : Type 0 where
  pub slot : ℕ
  pub span : ℕ
  pub admits : Admits old.volumes old.pool.found.blocks name size kind slot span
  pub volume : VolumeState
  pub added : IsAdded old volume room new
  pub head : head_in volume ≡ empty_head name size kind (span_of size 0 0)
  pub map : volume.map ≡ empty_volume volume.span
  pub ledger : volume.ledger ≡ ledger_of_empty size kind (span_of size 0 0)
  pub numbers : volume.numbers ≡ None

-- So a clone was, that could be made.
pub record IsCloned (old : Session) (name : List ℕ) (size : ℕ) (kind : Kind) (a : Admitted) (room : ℕ) (new : Session) : Type 0 where
  pub cloned : creating.IsCloned old.volumes old.pool name size kind a new.volumes new.pool
  pub added : IsAdded old cloned.state room new
