-- What is read when a session is opened.
use Rattle.std.specs.Prelude.{◌≡◌, ℕ, IfSome, IsNone, IsTrue, Some, length, nat_lt, replicate}
use Rattle.fv_disk.specs.Shown.{Image, Shown}
use Rattle.fv_model.specs.Machines.{Machine}
use Rattle.fv_image.specs.Held.{layout_at, view_at}
use Rattle.fv_image.specs.Views.{delayed}
use Rattle.fv_image.specs.WholeMachine.{Tells, machine_of}
use Rattle.fv_root.specs.Finding.{IsFound, root_found}
use Rattle.fv_container.specs.Chains.{slot_count}
use Rattle.fv_aggmap.specs.Loading.{IsLoaded as IsMapLoaded}
use Rattle.fv_volume.specs.KnownBase.{KnowBases}
use Rattle.fv_volume.specs.Loading.{LoadedTo}
use Rattle.fv_volume.specs.OneVolume.{IsStanding}
use Rattle.fv_volume.specs.Placing.{IsLedTo, IsStoredWell}
use Rattle.fv_volume.specs.States.{state_at, view_over}
use Rattle.fv_volume.specs.Trees.{machine_in, no_trees}
use Rattle.fv_volume.specs.Files.{AreStates}
use Rattle.fv_cp.specs.Lent.{FitTogether, HaveNoneWaiting}
use Rattle.fv_cp.specs.Placing.{AreReady, HasWholeMap, HaveNoFiles}
use Rattle.fv_aggregate.specs.declared.session.Session.{Session}
use Rattle.fv_aggregate.specs.Delayed.{has_more}

-- The session has what the root that counts names in an image; where that stands for a machine, the volumes do, too.
pub record IsOpened (i : Image) (session : Session) : Type 0 where
  pub found : IsFound i session.pool.found
  pub map : IsMapLoaded i session.pool.found session.pool.map
  pub few : length session.pool.containers.containers ≡ slot_count
  pub slots : LoadedTo i session.pool.found slot_count session.volumes session.pool.containers
  pub view : view_over session.pool session.volumes i ≡ view_at (root_found session.pool.found) i
  pub machine : (m : Machine) → Tells (layout_at (root_found session.pool.found) i) m → machine_in session.pool session.volumes no_trees i ≡ m
  pub states : (m : Machine) → Tells (layout_at (root_found session.pool.found) i) m → AreStates (view_over session.pool session.volumes i) no_trees session.volumes

-- Calls can be made on each volume, whatever was read, no file of one is in memory, no map waits, and each knows what it stands on. Where what was read stands for a machine
-- each stands for one of that, with what is in use led to and stored well.
pub record AreOpened (disk : Shown) (i : Image) (session : Session) : Type 0 where
  pub fit : FitTogether session.pool session.volumes
  pub ready : AreReady disk session.pool session.volumes
  pub none : HaveNoFiles session.volumes
  pub waiting : HaveNoneWaiting session.volumes
  pub maps : (s : ℕ) → HasWholeMap (state_at session.volumes s)
  pub knows : KnowBases session.volumes
  pub standing : (m : Machine) → IsTrue disk.tells → machine_of i ≡ Some m → (s : ℕ) → IfSome (state_at session.volumes s) (IsStanding disk session.pool)
  pub led : (m : Machine) → IsTrue disk.tells → machine_of i ≡ Some m → (s : ℕ) → IfSome (state_at session.volumes s) (IsLedTo disk session.pool)
  pub well : (m : Machine) → IsTrue disk.tells → machine_of i ≡ Some m → (s : ℕ) → IfSome (state_at session.volumes s) (IsStoredWell disk session.pool)

-- Nothing is pending, nothing has failed, and entries of each volume may be delayed where more blocks are held than are known not to be under
-- such an entry; where there are none, no entry is delayed.
pub record IsFresh (session : Session) : Type 0 where
  pub pending : session.pending ≡ 0
  pub failed : IsNone session.failed
  pub delays : session.delays ≡ replicate slot_count (has_more session.pool session.volumes)

-- Of each volume it says that entries may be delayed where some entry of a volume is, in the image, and else of none.
abbrev pub TellsDelayed : Image → Session → Type 0
TellsDelayed i session = session.delays ≡ replicate slot_count (nat_lt 0 (delayed (view_at (root_found session.pool.found) i)))
