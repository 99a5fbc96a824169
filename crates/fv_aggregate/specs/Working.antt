-- What background steps do in a session, and what they leave to be done.
--
-- An example: of a mirror three pointers are unknown, that of its label and two in the node to which it leads. A step fills in the two,
-- another one that of the label, and a third one finds nothing to do. The machine is the same all along; the next consistency point writes
-- the node and the label.
use Rattle.std.specs.Prelude.{◌≡◌, ◌≢◌, ◌≤◌, ◌<◌, ◌+◌, ◌^◌, ◌⊎◌, ℕ, Bool, true, false, cond, Option, Some, None, Result, length, max, IfErr, IfOk, IfSome, IsNone, IsTrue, OnErr, OnOk}
use Rattle.std.specs.List.{list_any, sum_by}
use Rattle.fv_disk.specs.Shown.{Image, Shown}
use Rattle.fv_disk.specs.Crash.{Leaves}
use Rattle.fv_disk.specs.DiskCalls.{OnlyReads}
use Rattle.fv_container.specs.Chains.{container_at, slot_count}
use Rattle.fv_image.specs.HintRules.{is_unknown}
use Rattle.fv_image.specs.WholeMachine.{machine_of}
use Rattle.fv_root.specs.Finding.{IsFound}
use Rattle.fv_model.specs.Machines.{Machine}
use Rattle.fv_pool.specs.declared.pool.Pool.{Pool}
use Rattle.fv_pool.specs.BlocksOver.{LoadsPool}
use Rattle.fv_pool.specs.Calls.{Reads}
use Rattle.fv_volume.specs.declared.state.VolumeState.{VolumeState}
use Rattle.fv_volume.specs.States.{States, state_at, with_state}
use Rattle.fv_cleaner.specs.Cleaning.{CleansAt, MovesAt}
use Rattle.fv_cleaner.specs.Left.{left_in}
use Rattle.fv_cleaner.specs.Stepping.{CanClean, roots_of}
use Rattle.fv_cp.specs.Held.{machine_held}
use Rattle.fv_cp.specs.Placing.{AreButPlaced, HaveNoFiles, KeepCores, LeavesUnused, PlacesEntries, RestsPlaced}
use Rattle.fv_cp.specs.Points.{IsNextRoot}
use Rattle.fv_aggregate.specs.declared.fault.Fault.{Fault}
use Rattle.fv_aggregate.specs.declared.fault.Fault.TheVariants.{DiskFault, Damaged, Memory, Failed}
use Rattle.fv_aggregate.specs.declared.session.Session.{Session}
use Rattle.fv_aggregate.specs.Calls.{FailsByWrite, IsNoDamage, RoseOnDisk, SameCounts}
use Rattle.fv_aggregate.specs.Causes.{KeepsEnds}
use Rattle.fv_aggregate.specs.Commands.{dirty_limit, Asked}
use Rattle.fv_aggregate.specs.Damages.{HasDamageIn}
use Rattle.fv_aggregate.specs.Known.{KeepsNumbers}
use Rattle.fv_aggregate.specs.LeftOver.{todo_under}
use Rattle.fv_aggregate.specs.PathShown.{KeepsTables}
use Rattle.fv_aggregate.specs.Standing.{OneOf, StandsAfter, StandsFor, StandsReady}

-- so many blocks a background step may add
abbrev pub step_room : ℕ
step_room = 8

-- So many steps suffice: each fills in one pointer at least, and 64 volumes of 1,048,576 VVBNs, with 128 pointers in a block and 25 in a
-- label, have fewer.
abbrev pub most_steps : ℕ
most_steps = 2 ^ 34

-- ---- what is left to do

-- not all places of the volume of a slot are known
abbrev pub is_unclean : Option VolumeState → Bool
is_unclean None = false
is_unclean (Some x) = cond x.known false true

-- all volumes that are there know all their places
abbrev pub AreKnown : States → Type 0
AreKnown states = (s : ℕ) → s < slot_count → is_unclean (state_at states s) ≡ false

-- no root pointer of it is unknown
abbrev pub HasKnownRoots : Option VolumeState → Type 0
HasKnownRoots o = IfSome o (λ x. list_any is_unknown (roots_of x) ≡ false)

-- What is left to do in the volume of a slot, as its blocks lie now: nothing in a free slot, and nothing in a volume of which all places
-- are known. Files in memory count as their blocks were at the last flush, and not yet as the next one will write them.
abbrev pub todo_at : Image → Pool → Option VolumeState → ℕ
todo_at i pool None = 0
todo_at i pool (Some x) = cond x.known 0 (left_in i pool x)

-- that of all volumes
abbrev pub todo_in : Image → Pool → States → ℕ
todo_in i pool states = sum_by (todo_at i pool) states

abbrev pub todo : Shown → Session → ℕ
todo disk session = todo_in disk.reads session.pool session.volumes

-- What is left to do stays, and so does the active table of each volume. No file is in memory.
pub record LeavesTodo (before : Shown) (old : Session) (after : Shown) (new : Session) : Type 0 where
  pub same : todo after new ≡ todo before old
  pub tables : KeepsTables before.reads old after.reads new
  pub none : HaveNoFiles new.volumes

-- ---- faults

-- The volume of a slot can't be cleaned, as the session was just before the step: a block of it lacks its shape, an unknown pointer leads
-- nowhere or to a block of no lower kind, or no block is free. Nothing changed by the step but that leaves of containers came into memory.
pub record CantClean (disk : Shown) (session new : Session) : Type 0 where
  pub slot : ℕ
  pub cant : IfSome (state_at session.volumes slot) (CanClean disk session.pool) → ⊥
  pub loads : LoadsPool disk session.pool new.pool
  pub same : new ≡ record session { pool = new.pool }

-- A volume took so many steps, and each left something to do: more than the pointers that all volumes of an aggregate can have.
abbrev pub IsEndless : ℕ → ℕ → Type 0
IsEndless want found = (want ≡ most_steps) × (found ≡ most_steps + 1)

-- What is damaged, by the session as it was just before the part that found it: what this part asked for lacked something, a consistency
-- point or the placing of files; or a volume can't be cleaned; or it took more steps than there can be.
pub record HasWorkDamage (disk : Shown) (new : Session) (at want found : ℕ) : Type 0 where
  pub session : Session
  pub asked : Asked
  pub part : HasDamageIn step_room asked disk session new at want found ⊎ (CantClean disk session new ⊎ IsEndless want found)

-- why background steps end with a fault, and what the disk counted
abbrev pub HasWorkFault : Shown → Shown → Session → Fault → Type 0
HasWorkFault before after new DiskFault = RoseOnDisk before after × FailsByWrite before after new
HasWorkFault before after new (Damaged at want found) = HasWorkDamage after new at want found × (SameCounts before after × IsNone new.failed)
HasWorkFault before after new Memory = SameCounts before after × IsNone new.failed
HasWorkFault before after new (Failed faults) = ⊥

-- ---- the machine

-- The machine stays: each image at each moment stands for it or for that of the last point, and a session that goes on stands for it.
pub record StaysFor (before : Shown) (last m : Machine) (after : Shown) (new : Session) : Type 0 where
  pub any_moment : Leaves before after (λ c g. OneOf last m m c × (g ≡ before.given))
  pub stands : IsNone new.failed → StandsAfter after new last m m

-- What background steps that add so many blocks do beside, whatever the disk tells; and where the session stands for a machine.
pub record Backs {T : Type 0} (added : ℕ) (before : Shown) (old : Session) (after : Shown) (new : Session) (result : Result T Fault) : Type 0 where
  pub ends : KeepsEnds before after
  pub stands : IsNone new.failed → StandsReady after new
  pub done : OnOk result (IsNone new.failed × SameCounts before after)
  pub fault : IfErr result (HasWorkFault before after new)
  pub pending : new.pending ≤ old.pending + added
  -- room is made before it, so that the dirty limit isn't passed
  pub within : new.pending ≤ max dirty_limit old.pending
  pub numbers : IsNone new.failed → KeepsNumbers old.volumes new.volumes
  -- a session that stands for a machine isn't damaged
  pub whole : IsTrue before.tells → (last m : Machine) → StandsFor before old last m → IfErr result IsNoDamage
  pub stays : IsTrue before.tells → (last m : Machine) → StandsFor before old last m → StaysFor before last m after new

-- ---- one step, with no file in memory and with room for it

-- A step was taken of the volume of a slot, which adds one block at most; or there was none to take, and nothing changed but the cache.
abbrev pub StepsOn : ℕ → Shown → Session → Shown → Session → Bool → Type 0
StepsOn slot before old after new true =
    CleansAt before old.pool old.volumes slot new.pool new.volumes true × (new ≡ record old { volumes = new.volumes; pool = new.pool; pending = old.pending + 1 })
StepsOn slot before old after new false = Reads before old.pool after new.pool × (new ≡ record old { pool = new.pool })

-- what is left to do after it: less; or nothing in the volume of that slot, and in the others what there was
abbrev pub FallsAt : ℕ → Shown → Session → Shown → Session → Bool → Type 0
FallsAt slot before old after new true = todo after new < todo before old
FallsAt slot before old after new false = todo_at before.reads old.pool (state_at old.volumes slot) ≡ 0

-- What a step of the volume of a slot does. The rule on moving holds of it: no block gets another place to which a known pointer leads.
pub record TakesStep (slot : ℕ) (before : Shown) (old : Session) (after : Shown) (new : Session) (result : Result Bool Fault) : Type 0 where
  pub backs : Backs 1 before old after new result
  pub only_reads : OnlyReads before after
  pub none : HaveNoFiles new.volumes
  pub steps : IfOk result (StepsOn slot before old after new)
  pub unled : OnOk result (MovesAt before old.pool old.volumes slot new.pool)
  -- where there is none in a volume that doesn't know its places, none of its roots is unknown, whatever the disk tells
  pub roots : is_unclean (state_at old.volumes slot) ≡ true → IfOk result (λ took. took ≡ false → HasKnownRoots (state_at new.volumes slot))
  pub falls : IsTrue before.tells → (last m : Machine) → StandsFor before old last m → IfOk result (FallsAt slot before old after new)
  -- a fault leaves what was left
  pub undone : OnErr result (todo after new ≡ todo before old)

-- what is left to do after a step that is looked for in each slot: less than there was, or there was nothing
abbrev pub FallsTo : ℕ → ℕ → Bool → Type 0
FallsTo was now true = now < was
FallsTo was now false = (was ≡ 0) × (now ≡ 0)

abbrev pub Falls : Shown → Session → Shown → Session → Bool → Type 0
Falls before old after new took = FallsTo (todo before old) (todo after new) took

-- The step was one of the volume of this slot, the first one that has one: in those before it nothing is left to do. The other volumes and
-- their containers stay. The volumes were these, over this image.
pub record TakesFirst (at : Image) (pool : Pool) (states : States) (new : Session) : Type 0 where
  pub slot : ℕ
  pub volume : VolumeState
  pub volumes : new.volumes ≡ with_state states slot (Some volume)
  pub containers : (s : ℕ) → s ≢ volume.slot → container_at new.pool.containers s ≡ container_at pool.containers s
  pub idle : (k : ℕ) → k < slot → todo_at at pool (state_at states k) ≡ 0

-- which one was taken, if one was
abbrev pub TakesFirstIf : Image → Pool → States → Session → Bool → Type 0
TakesFirstIf at pool volumes new true = TakesFirst at pool volumes new
TakesFirstIf at pool volumes new false = Unit {0}

-- What a step does that is looked for slot by slot.
pub record SeeksStep (before : Shown) (old : Session) (after : Shown) (new : Session) (result : Result Bool Fault) : Type 0 where
  pub backs : Backs 1 before old after new result
  pub only_reads : OnlyReads before after
  pub none : HaveNoFiles new.volumes
  pub falls : IsTrue before.tells → (last m : Machine) → StandsFor before old last m → IfOk result (Falls before old after new)
  pub first : IsTrue before.tells → (last m : Machine) → StandsFor before old last m → IfOk result (TakesFirstIf before.reads old.pool old.volumes new)
  pub undone : OnErr result (todo after new ≡ todo before old)

-- ---- files in memory

-- The files in memory were placed, and nothing else was done: the volumes stand for the machine over the image that was there, and each is
-- what it was but for its files. So what is left to do in them counts each block of a file as the flush wrote it.
pub record AreLaid (before : Shown) (old : Session) (at : Image) (pool : Pool) (volumes : States) (m : Machine) : Type 0 where
  pub image : at ≡ before.reads
  pub machine : machine_held before pool volumes ≡ m
  pub found : pool.found ≡ old.pool.found
  pub version : pool.version ≡ old.pool.version
  pub others : AreButPlaced old.volumes volumes
  pub entries : PlacesEntries old.pool.map old.pool.containers pool.containers
  pub unused : LeavesUnused old.pool pool volumes
  -- a volume without files in memory is as it was
  pub rest : RestsPlaced old.pool old.volumes pool volumes

-- A consistency point placed them: the image stands for the machine under the next root, and what is left to do is what it shows.
pub record ArePointed (old : Session) (at : Image) (pool : Pool) (volumes : States) (m : Machine) : Type 0 where
  pub next : IsNextRoot old.pool.found pool.found
  pub found : IsFound at pool.found
  pub machine : machine_of at ≡ Some m
  pub shown : todo_in at pool volumes ≡ todo_under pool.found at

-- The volumes of a session of the machine `m` once its files in memory were placed, by a consistency point where room for a step was lacking.
-- Where none was in memory as much is left to do as before.
pub record FilesPlaced (before : Shown) (old : Session) (m : Machine) : Type 0 where
  pub at : Image
  pub pool : Pool
  pub volumes : States
  pub none : HaveNoFiles volumes
  pub cores : KeepCores old.volumes volumes
  pub way : ((old.pending + step_room ≤ dirty_limit) × AreLaid before old at pool volumes m)
      ⊎ ((dirty_limit < old.pending + step_room) × ArePointed old at pool volumes m)
  pub same : HaveNoFiles old.volumes → todo_in at pool volumes ≡ todo before old

-- ---- steps of a session

-- The files in memory were placed.
pub record PlacesAll {D : Type 0} (shown : D → Shown) (before : D) (old : Session) (after : D) (new : Session) (result : Result Unit Fault) : Type 0 where
  pub backs : Backs 0 (shown before) old (shown after) new result
  pub long : length new.volumes ≡ slot_count
  pub none : OnOk result (HaveNoFiles new.volumes)
  pub cores : KeepCores old.volumes new.volumes
  pub idle : HaveNoFiles old.volumes → OnOk result ((after ≡ before) × (new ≡ old))
  pub only_reads : OnlyReads (shown before) (shown after)
  pub laid : IsTrue (shown before).tells → (last m : Machine) → StandsFor (shown before) old last m
      → OnOk result (AreLaid (shown before) old (shown after).reads new.pool new.volumes m)
  -- it fails only where there are files to place
  pub filed : IfErr result (λ fault. HaveNoFiles old.volumes → ⊥)

-- what is left to do after one: nothing, where none was there to take
abbrev pub NoneLeft : Shown → Session → Bool → Type 0
NoneLeft after new true = Unit {0}
NoneLeft after new false = todo after new ≡ 0

-- Once the files in memory were placed, a step was taken of the first slot that has one, and less is left to do; or nothing was left.
pub record StepsSince (before : Shown) (old : Session) (after : Shown) (new : Session) (m : Machine) (took : Bool) : Type 0 where
  pub placed : FilesPlaced before old m
  pub falls : FallsTo (todo_in placed.at placed.pool placed.volumes) (todo after new) took
  pub first : TakesFirstIf placed.at placed.pool placed.volumes new took

-- One step, before which a consistency point makes room where that is lacking, and files in memory are placed. Where there are none what
-- is left falls by it.
pub record WorksOnce (before : Shown) (old : Session) (after : Shown) (new : Session) (result : Result Bool Fault) : Type 0 where
  pub backs : Backs 1 before old after new result
  pub none : OnOk result (HaveNoFiles new.volumes)
  pub least : IsTrue before.tells → (last m : Machine) → StandsFor before old last m → IfOk result (NoneLeft after new)
  pub falls : IsTrue before.tells → (last m : Machine) → StandsFor before old last m → HaveNoFiles old.volumes
      → IfOk result (Falls before old after new)
  pub since : IsTrue before.tells → (last m : Machine) → StandsFor before old last m → IfOk result (StepsSince before old after new m)
  -- a fault takes no step and loses none
  pub undone : IsTrue before.tells → (last m : Machine) → StandsFor before old last m → HaveNoFiles old.volumes → IsNone new.failed
      → OnErr result (todo after new ≡ todo before old)
  -- no consistency point is made where there is room
  pub calm : old.pending + step_room ≤ dirty_limit → OnlyReads before after

-- what is left fell by so much at least, once the files in memory were placed
pub record FallsSince (before : Shown) (old : Session) (after : Shown) (new : Session) (m : Machine) (taken : ℕ) : Type 0 where
  pub placed : FilesPlaced before old m
  pub falls : todo after new + taken ≤ todo_in placed.at placed.pool placed.volumes

-- So many steps were asked for, and so many taken. Where those are fewer nothing is left to do. What was left fell by one for each step at
-- least, where no file was in memory, and else once the files were placed; where all places are known none is, and nothing is left before.
pub record HasWorked (asked : ℕ) (before : Shown) (old : Session) (after : Shown) (new : Session) (taken : ℕ) : Type 0 where
  pub most : taken ≤ asked
  pub fewer : IsTrue before.tells → (last m : Machine) → StandsFor before old last m → taken < asked → todo after new ≡ 0
  pub falls : IsTrue before.tells → (last m : Machine) → StandsFor before old last m → HaveNoFiles old.volumes
      → todo after new + taken ≤ todo before old
  pub since : IsTrue before.tells → (last m : Machine) → StandsFor before old last m → (AreKnown old.volumes → ⊥) → 0 < asked
      → FallsSince before old after new m taken
  -- no file comes into memory
  pub none : HaveNoFiles old.volumes → HaveNoFiles new.volumes

-- After a fault that the session survives the steps taken before it stay taken. Each step adds one block at most, so with room for the last
-- one no consistency point is made.
pub record Works (asked : ℕ) (before : Shown) (old : Session) (after : Shown) (new : Session) (result : Result ℕ Fault) : Type 0 where
  pub backs : Backs asked before old after new result
  pub worked : IfOk result (HasWorked asked before old after new)
  pub undone : IsTrue before.tells → (last m : Machine) → StandsFor before old last m → HaveNoFiles old.volumes → IsNone new.failed
      → OnErr result (todo after new ≤ todo before old)
  pub calm : old.pending + asked + step_room ≤ dirty_limit + 1 → OnlyReads before after
