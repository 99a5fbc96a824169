-- What commands on files do in a session: those that ask, and those that change.
use Rattle.std.specs.Prelude.{◌≡◌, ◌<◌, ◌≤◌, ◌+◌, ◌⊎◌, ℕ, false, Option, Some, None, true, IsTrue, IsNone, Result, Ok, Err, OnErr, OnOk, IfOk, IfErr, IfSome, unwrap_or}
use Rattle.fv_disk.specs.Shown.{Shown, Rose}
use Rattle.fv_disk.specs.DiskCalls.{OnlyReads}
use Rattle.fv_container.specs.Chains.{slot_count}
use Rattle.fv_model.specs.declared.answers.Refusal.{Refusal}
use Rattle.fv_model.specs.declared.answers.Reply.{Reply}
use Rattle.fv_model.specs.declared.answers.Reply.TheVariants.{Done, Refused}
use Rattle.fv_model.specs.declared.commands.Command.{Command}
use Rattle.fv_model.specs.declared.commands.Command.TheVariants.{SnapCreate, SnapDelete, SnapRestore}
use Rattle.fv_model.specs.Machines.{Machine}
use Rattle.fv_model.specs.Refusals.{next, refusal}
use Rattle.fv_model.specs.Replies.{Allows}
use Rattle.fv_volume.specs.declared.state.VolumeState.{VolumeState}
use Rattle.fv_pool.specs.declared.pool.Pool.{Pool}
use Rattle.fv_volume.specs.Asking.{standing_read, table_named, TellsActive, TellsBy}
use Rattle.fv_volume.specs.declared.tables.TableAsked.TheVariants.{Active}
use Rattle.fv_pool.specs.Calls.{CallCause, Reads}
use Rattle.fv_volume.specs.Calls.{Agrees, Changes, Has, HasWithin, KeepsHead}
use Rattle.fv_volume.specs.Changing.{keeps_numbers, IsChangeOf, KeepsTable}
use Rattle.fv_pool.specs.Lending.{lent_for}
use Rattle.fv_volume.specs.OneVolume.{home_in, standing_for, volume_for, IsReady, IsStanding}
use Rattle.fv_volume.specs.Placing.{IsStoredWell}
use Rattle.fv_volume.specs.Slots.{HasName}
use Rattle.fv_volume.specs.States.{States, state_at, with_state}
use Rattle.fv_pool.specs.declared.fault.VolumeFault.{VolumeFault}
use Rattle.fv_pool.specs.declared.fault.VolumeFault.TheVariants as volume
use Rattle.fv_cp.specs.Placing.{HaveNoFiles}
use Rattle.fv_aggregate.specs.declared.fault.Fault.{Fault}
use Rattle.fv_aggregate.specs.declared.fault.Fault.TheVariants.{DiskFault, Damaged, Memory}
use Rattle.fv_aggregate.specs.declared.session.Session.{Session}
use Rattle.fv_aggregate.specs.Answers.{answer}
use Rattle.fv_aggregate.specs.Calls.{Goes, GoesFor, IsForWant, IsUntouched, IsWithinLimit, KeepsAsking, KeepsEntries, WasRead}
use Rattle.fv_aggregate.specs.Damages.{HasBadTable}
use Rattle.fv_snapshot.specs.Creating.{Creates, TellsCreation}
use Rattle.fv_snapshot.specs.Deleting.{Deletes, is_used}
use Rattle.fv_snapshot.specs.Restoring.{Restores}
use Rattle.fv_aggregate.specs.Commands.{asked_by, Asked, AsksTable, dirty_limit, has_range, reads_cell, is_refusal, places_files, room_by, snapped_by, snapshot_asked, volume_asked}
use Rattle.fv_aggregate.specs.Known.{KeepsNumbersBut, MayLose}
use Rattle.fv_aggregate.specs.Probing.{CountsPath, TellsPath}
use Rattle.fv_aggregate.specs.Standing.{HoldsAsCommitted, IsWithoutFiles, StandsFor}

-- A command that asks the volume of a slot was answered as the machine answers it, and nothing changed but the cache and the numbers of
-- files in memory. After a fault the session stands for what it stood for, and nothing changed, either, but for these and that it may have
-- failed.
pub record Looks (slot : ℕ) (before : Shown) (old : Session) (command : Command) (after : Shown) (new : Session) (result : Result Reply Fault) : Type 0 where
  pub goes : Goes 0 (AsksTable slot (snapshot_asked command) (reads_cell command)) before old after new result
  pub asks : KeepsAsking 0 before old after new
  pub goes_for : IsTrue before.tells → (last m : Machine) → StandsFor before old last m → GoesFor before last m m after new result
  pub reply : IsTrue before.tells → (last m : Machine) → StandsFor before old last m → IfOk result (Allows m command)
  pub path : IsTrue before.tells → (last m : Machine) → StandsFor before old last m → IfOk result (λ reply. IfSome (state_at old.volumes slot) (λ x. TellsPath before old.pool x reply command))
  pub only_reads : OnlyReads before after
  pub entries : KeepsEntries old new
  pub read : OnOk result (WasRead before old after new)
  pub unanswered : OnErr result (WasRead before old after (record new { failed = old.failed }))

-- A command that changes a volume, for which it may add `room` blocks and asks for this, was carried out as the machine carries it out. One
-- with room within the dirty limit wrote nothing, and made no entry a hole. A refused one changed nothing but the cache and the numbers of
-- files in memory, where the session stands for a machine.
pub record Makes (room : ℕ) (asked : Asked) (before : Shown) (old : Session) (command : Command) (after : Shown) (new : Session) (result : Result Reply Fault) : Type 0 where
  pub goes : Goes room asked before old after new result
  pub goes_for : IsTrue before.tells → (last m : Machine) → StandsFor before old last m → GoesFor before last m (next m command) after new result
  pub reply : IsTrue before.tells → (last m : Machine) → StandsFor before old last m → IfOk result (Allows m command)
  pub refused : IsTrue before.tells → (last m : Machine) → StandsFor before old last m → IfOk result (λ reply. IsTrue (is_refusal reply) → WasRead before old after new)
  pub still : (room ≡ 0) ⊎ (old.pending + room ≤ dirty_limit) → IfOk result (λ reply. IsTrue (is_refusal reply) → WasRead before old after new)
  pub calm : old.pending + room ≤ dirty_limit → OnlyReads before after
  pub entries : (room ≡ 0) ⊎ (old.pending + room ≤ dirty_limit) → KeepsEntries old new

-- ---- a volume that is asked

-- what is told of the table that a command reads
abbrev pub TellsFor : Shown → Pool → VolumeState → Command → Type 0
TellsFor disk pool x command = TellsBy (reads_cell command) disk pool x (unwrap_or (table_named x (snapshot_asked command)) Active)

-- A volume was asked, and nothing changed but the cache. Where it stands it refuses as each machine that has it, a probe answers the path to its
-- cell, and a `get` makes a step for each unknown pointer on it. Where its blocks are as its pointers say, too, it answers as these machines allow, and makes no step if each place in it is known.
pub record AsksState (before : Shown) (pool : Pool) (x : VolumeState) (command : Command) (start : ℕ) (after : Shown) (left : Pool) (steps : ℕ) (result : Result Reply VolumeFault) : Type 0 where
  pub reads : Reads before pool after left
  pub agrees : IsStanding before pool x → (m : Machine) → Has x.name (volume_for before pool x) m → Agrees m command result
  pub allows : IsStanding before pool x → IsStoredWell before pool x → IfOk result (λ reply. (m : Machine) → Has x.name (volume_for before pool x) m → Allows m command reply)
  pub path : IsStanding before pool x → IfOk result (λ reply. TellsPath before pool x reply command)
  pub counts : IsStanding before pool x → IfOk result (λ reply. CountsPath before pool x start steps reply command)
  pub cause : CallCause (TellsFor before pool x command) (standing_read before pool x (snapshot_asked command)) (lent_for pool x.map before 0 (home_in x) 0) after.faults result
  pub known : x.known ≡ true → IsStanding before pool x → IsStoredWell before pool x → OnOk result ((m : Machine) → Has x.name (volume_for before pool x) m → steps ≡ start)
  pub unmoved : IfErr result (λ e. (r : Refusal) → e ≡ volume.Refused r → steps ≡ start)

-- ---- a volume that is judged or changed

-- A volume was judged beside others that commit so much, and is as it was: where it stands, a command is refused as in each machine that has it
-- within its aggregate. Nothing changed but the cache.
pub record JudgesState (before : Shown) (pool : Pool) (x : VolumeState) (others : ℕ) (command : Command) (after : Shown) (left : Pool) (result : Result Unit VolumeFault) : Type 0 where
  pub reads : Reads before pool after left
  pub agrees : IsStanding before pool x → (m : Machine) → HasWithin x.name (volume_for before pool x) others pool.found.blocks m → Agrees m command result
  pub cause : CallCause (TellsActive before pool x) (standing_for before pool x) (lent_for pool x.map before 0 (home_in x) 0) after.faults result

-- The files of a volume were changed in memory, beside others that commit so much. Calls can be made on it still. Where it stood it stands, for the
-- volume that the command makes of it in each machine that has it, or after a fault for what it stood for. Of the pool only the cache changed. The
-- numbers of its files stay, unless one is made or removed.
pub record ChangesState (before : Shown) (pool : Pool) (x : VolumeState) (others : ℕ) (command : Command) (after : Shown) (left : Pool) (y : VolumeState) (result : Result Unit VolumeFault) : Type 0 where
  pub reads : Reads before pool after left
  pub changes : IsStanding before pool x → Changes (HasWithin x.name (volume_for before pool x) others pool.found.blocks) command x.name (volume_for before pool x) (volume_for after left y) result
  pub standing : IsStanding before pool x → IsStanding after left y
  pub table : IsStanding before pool x → KeepsTable before pool x after left y
  pub ready : IsReady after left y
  pub head : KeepsHead x y result
  pub numbers : keeps_numbers command ≡ true → y.numbers ≡ x.numbers
  pub cause : CallCause (TellsActive before pool x) (standing_for before pool x) (lent_for pool x.map before 0 (home_in x) 0) after.faults result

-- ---- a volume whose snapshots change

-- A snapshot of the volume of a slot was made, removed or restored, beside volumes that commit so much. Leaves were read where files were placed.
abbrev pub SnapsState : Shown → Pool → States → ℕ → VolumeState → ℕ → Command → Shown → Pool → VolumeState → Result Unit VolumeFault → Type 0
SnapsState disk pool states slot x others (SnapCreate volume snapshot) after left y result = (volume ≡ x.name) × (Creates disk pool x others snapshot after left y result × TellsCreation pool x others snapshot y result)
SnapsState disk pool states slot x others (SnapDelete volume snapshot) after left y result = (volume ≡ x.name) × Deletes disk pool x (is_used states slot snapshot) snapshot after left y result
SnapsState disk pool states slot x others (SnapRestore volume snapshot) after left y result = (volume ≡ x.name) × ((left ≡ pool) × Restores disk pool x others snapshot y result)
SnapsState disk pool states slot x others command after left y result = ⊥

-- So it was, and the volumes of the other slots stay. Calls can be made on the volume still.
pub record SnapsAt (disk : Shown) (pool : Pool) (states : States) (slot others : ℕ) (command : Command) (after : Shown) (left : Pool) (new : States) (result : Result Unit VolumeFault) : Type 0 where
  pub state : VolumeState
  pub there : state_at states slot ≡ Some state
  pub now : VolumeState
  pub row : new ≡ with_state states slot (Some now)
  pub did : SnapsState disk pool states slot state others command after left now result
  pub ready : IsReady after left now

-- a command makes, removes or restores a snapshot of the volume of a slot, which is the first of its name
pub record IsSnapAimed (states : States) (slot : ℕ) (command : Command) : Type 0 where
  pub within : slot < slot_count
  pub state : VolumeState
  pub there : state_at states slot ≡ Some state
  pub named : HasName states slot state.name
  pub snaps : snapped_by command ≡ Some state.name

-- What a command that makes, removes or restores a snapshot does in a session beside. Refused it leaves all as it was. With room within the dirty
-- limit it writes nothing; and but where it places files it doesn't reach the disk, nor does it without files in memory, and it takes no block and gives
-- none back. One that places none is always answered. No file comes into memory. Beside blocks of files nothing is taken that the next root wouldn't
-- hold, and the numbers of files stay in memory, but for a table that is no longer the active one.
pub record HasSnapped {D : Type 0} (before : Shown) (disk : D) (old : Session) (command : Command) (after : Shown) (left : D) (new : Session) (result : Result Reply Fault) : Type 0 where
  pub makes : Makes (room_by old.volumes command) (asked_by old.volumes command) before old command after new result
  pub damage : IfErr result (IsForWant before old after new)
  pub refused : IfOk result (λ reply. IsTrue (is_refusal reply) → IsUntouched disk old left new)
  pub calm : places_files command ≡ false → IsWithinLimit old command → left ≡ disk
  pub only_reads : IsWithinLimit old command → OnlyReads before after
  pub idle : HaveNoFiles old.volumes → IsWithinLimit old command → left ≡ disk
  pub map : places_files command ≡ false → new.pool.map ≡ old.pool.map
  pub sure : places_files command ≡ false → IfErr result (λ e. ⊥)
  pub files : IsTrue before.tells → IsWithoutFiles old → OnOk result (IsWithoutFiles new)
  pub same : IsTrue before.tells → (places_files command ≡ false) ⊎ IsWithoutFiles old → HoldsAsCommitted old → OnOk result (HoldsAsCommitted new)
  pub numbers : IsNone new.failed → KeepsNumbersBut (MayLose command old.volumes) old.volumes new.volumes

-- the refusal that a reply is, if it is one
abbrev pub refusal_in : Reply → Option Refusal
refusal_in (Refused r) = Some r
refusal_in reply = None

-- what a volume that did a command answers for it
abbrev pub done_as : Result Unit VolumeFault → Result Reply VolumeFault
done_as made = answer Done made

-- ---- in parts

-- a command changes a file of the volume of a slot
pub record IsChangeAt (states : States) (slot : ℕ) (command : Command) : Type 0 where
  pub within : slot < slot_count
  pub state : VolumeState
  pub there : state_at states slot ≡ Some state
  pub change : IsChangeOf state.name command

-- a command asks for files of the volume of a slot, with its number in its range
pub record IsAsked (states : States) (slot : ℕ) (command : Command) : Type 0 where
  pub within : slot < slot_count
  pub near : has_range command ≡ true
  pub state : VolumeState
  pub there : state_at states slot ≡ Some state
  pub asks : volume_asked command ≡ Some state.name

-- what the machine says of a command that is judged: a refusal, or that it is accepted
abbrev pub Judges : Machine → Command → Reply → Type 0
Judges m command (Refused r) = refusal m command ≡ Some r
Judges m command reply = refusal m command ≡ None

-- A command that changes a file of the volume of a slot was judged. Nothing changed but the cache.
pub record HasJudged (slot : ℕ) (before : Shown) (old : Session) (command : Command) (after : Shown) (new : Session) (result : Result Reply Fault) : Type 0 where
  pub goes : Goes 0 (AsksTable slot None false) before old after new result
  pub goes_for : IsTrue before.tells → (last m : Machine) → StandsFor before old last m → GoesFor before last m m after new result
  pub judges : IsTrue before.tells → (last m : Machine) → StandsFor before old last m → IfOk result (Judges m command)
  pub only_reads : OnlyReads before after
  pub entries : KeepsEntries old new
  pub read : OnOk result (WasRead before old after new)

-- ---- faults

-- damage is of the table that is asked for, which isn't as it has to be
abbrev pub IsTableFault : Asked → Shown → Session → Session → Fault → Type 0
IsTableFault asked after old new (Damaged at want found) = HasBadTable asked after old new at want found
IsTableFault asked after old new fault = Unit {0}

-- A read failed: the session goes on, but where the count of failed writes stands at its greatest value.
pub record HasFailed (disk : Shown) (old new : Session) : Type 0 where
  pub same : new ≡ record old { failed = new.failed }
  pub written : Rose disk.write_faults disk.write_faults → new.failed ≡ Some disk.faults
  pub unwritten : ¬ Rose disk.write_faults disk.write_faults → IsNone new.failed

-- what a session makes of a fault of a call on a volume
abbrev pub Breaks : Shown → VolumeFault → Session → Session → Fault → Type 0
Breaks disk (volume.Refused r) old new fault = (fault ≡ DiskFault) × HasFailed disk old new
Breaks disk volume.DiskFault old new fault = (fault ≡ DiskFault) × HasFailed disk old new
Breaks disk (volume.Damaged at want found) old new fault = (fault ≡ Damaged at want found) × (new ≡ old)
Breaks disk volume.Memory old new fault = (fault ≡ Memory) × (new ≡ old)

-- a session answers with a fault
abbrev pub Faults : Shown → VolumeFault → Session → Session → Result Reply Fault → Type 0
Faults disk fault old new result = (e : Fault) × ((result ≡ Err e) × Breaks disk fault old new e)

-- what a session answers for a call on a volume
abbrev pub Replied : Shown → Result Reply VolumeFault → Session → Session → Result Reply Fault → Type 0
Replied disk (Ok reply) old new result = (result ≡ Ok reply) × (new ≡ old)
Replied disk (Err (volume.Refused r)) old new result = (result ≡ Ok (Refused r)) × (new ≡ old)
Replied disk (Err volume.DiskFault) old new result = Faults disk volume.DiskFault old new result
Replied disk (Err (volume.Damaged at want found)) old new result = Faults disk (volume.Damaged at want found) old new result
Replied disk (Err volume.Memory) old new result = Faults disk volume.Memory old new result
