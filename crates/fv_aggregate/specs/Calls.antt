-- What every call of a session does: to the disk and to the session, and to the machines that the two stand for.
use Rattle.std.specs.Prelude.{◌≡◌, ◌≢◌, ◌<◌, ◌≤◌, ◌+◌, ◌⊎◌, ℕ, max, IsTrue, IsNone, IsSome, IfSome, Some, None, Result, Ok, OnOk, OnErr, IfOk, IfErr, List, false, true}
use Rattle.std.specs.FinMap as fin
use Rattle.fv_disk.specs.Shown.{Shown, Rose}
use Rattle.fv_disk.specs.Crash.{Leaves}
use Rattle.fv_disk.specs.DiskCalls.{OnlyReads}
use Rattle.fv_disk.specs.Sparing.{Spares}
use Rattle.fv_model.specs.declared.answers.Refusal.{Refusal}
use Rattle.fv_model.specs.declared.answers.Refusal.TheVariants.{NoSnapshot, NoVolume, Range, SnapshotInUse, Syntax}
use Rattle.fv_model.specs.declared.answers.Reply.{Reply}
use Rattle.fv_model.specs.declared.answers.Reply.TheVariants.{Names, Refused}
use Rattle.fv_model.specs.declared.commands.Command.{Command}
use Rattle.fv_model.specs.declared.commands.Command.TheVariants.{Cp, SnapDelete, SnapList, VolDestroy, VolList}
use Rattle.fv_model.specs.Machines.{Machine}
use Rattle.fv_aggmap.specs.Space.{IsFree}
use Rattle.fv_container.specs.Chains.{TellsEntries, container_at, own_entry, slot_count}
use Rattle.fv_snapshot.specs.Deleting.{is_used}
use Rattle.fv_volume.specs.Asking.{snap_named, table_named}
use Rattle.fv_volume.specs.declared.state.VolumeState.{VolumeState}
use Rattle.fv_volume.specs.Slots.{HasName, NoneHasName}
use Rattle.fv_volume.specs.Snaps.{names_kept}
use Rattle.fv_volume.specs.States.{States, state_at}
use Rattle.fv_cp.specs.Placing.{HaveNoFiles, IsSpareEntry, PlacesEntries}
use Rattle.fv_cp.specs.Points.{IsNextRoot}
use Rattle.fv_aggregate.specs.declared.fault.Fault.{Fault}
use Rattle.fv_aggregate.specs.declared.fault.Fault.TheVariants.{DiskFault, Damaged, Memory, Failed}
use Rattle.fv_aggregate.specs.declared.session.Session.{Session}
use Rattle.fv_aggregate.specs.Adding.{IsPointed}
use Rattle.fv_aggregate.specs.Asking.{AsksWithin}
use Rattle.fv_aggregate.specs.Causes.{KeepsEnds}
use Rattle.fv_aggregate.specs.Commands.{Asked, AsksCopy, changed_by, dirty_limit, finds_file, has_range, is_built, is_get, is_refusal, managed_by, places_files, reaches_disk, reads_leaves, removes_volume, room_by, slot_named, snapped_by, snapshot_asked, snapshot_needed, volume_asked}
pub use Rattle.fv_aggregate.specs.Damages.{HasDamage, HasFilesToPlace, HasLoaded, HasLostLeaf, LacksBlocks}
use Rattle.fv_aggregate.specs.Deciding.{DecidesMaking}
use Rattle.fv_aggregate.specs.Failing.{IsUnmadeIn}
use Rattle.fv_aggregate.specs.Known.{KeepsNumbers, KnowsNamed}
use Rattle.fv_aggregate.specs.Managing.{IsManaged}
use Rattle.fv_aggregate.specs.Probing.{CountsPath, TellsPath}
pub use Rattle.fv_aggregate.specs.Reading.{but_numbers, IsAsRead, SameButNumbers, WasRead}
use Rattle.fv_aggregate.specs.Standing.{HoldsAsCommitted, IsWithoutFiles, OneOf, StandsAfter, StandsFor, StandsReady}
use Rattle.fv_aggregate.specs.Telling.{names_from}

-- ---- faults

-- no call of the disk failed
pub record SameCounts (before after : Shown) : Type 0 where
  pub faults : after.faults ≡ before.faults
  pub write_faults : after.write_faults ≡ before.write_faults

-- a call of the disk failed: a write or a barrier where their count rose, too, and else a read
pub record RoseOnDisk (before after : Shown) : Type 0 where
  pub faults : Rose before.faults after.faults
  pub write_faults : ¬ Rose before.write_faults after.write_faults → after.write_faults ≡ before.write_faults

-- A session has failed from the call on in which a write or a barrier failed, with the disk's count of faults of that moment. After a
-- failed read it goes on.
pub record FailsByWrite (before after : Shown) (new : Session) : Type 0 where
  pub by_write : Rose before.write_faults after.write_faults → new.failed ≡ Some after.faults
  pub by_read : ¬ Rose before.write_faults after.write_faults → IsNone new.failed

-- a row of the table of faults
pub record Row (Reason Counts Kept Written : Type 0) : Type 0 where
  -- why the fault comes
  pub reason : Reason
  -- what the disk counted in the call
  pub counts : Counts
  -- the session after it
  pub session : Kept
  -- what was written
  pub disk : Written

-- Nothing but copies of blocks was written: each block that the root on the disk holds, or that the next one would hold, is as it was, in what reads
-- give and in what a crash leaves, now or at any moment of the call. So it is only where copies are asked for.
abbrev pub WritesCopies : Asked → Shown → Session → Shown → Type 0
WritesCopies asked before old after = AsksCopy asked × Spares (λ b. IsFree old.pool.map b → ⊥) before after (Ok tt)

-- What was written where a call wasn't done for want of memory or for damage: nothing, but where room had to be made first, and where it copies blocks.
abbrev pub HasWritten : ℕ → Asked → Shown → Session → Shown → Type 0
HasWritten room asked before old after = OnlyReads before after ⊎ ((dirty_limit < old.pending + room) ⊎ WritesCopies asked before old after)

-- why a call that may add `room` blocks, and asks for this, wasn't done
abbrev pub HasFault : ℕ → Asked → Shown → Session → Shown → Session → Fault → Type 0
HasFault room asked before old after new DiskFault =
    Row (IsNone old.failed) (RoseOnDisk before after) (FailsByWrite before after new) (Unit {0})
HasFault room asked before old after new (Damaged at want found) =
    Row (HasDamage room asked before old after new at want found) (SameCounts before after) (IsNone new.failed) (HasWritten room asked before old after)
HasFault room asked before old after new Memory =
    Row (IsNone old.failed) (SameCounts before after) (IsNone new.failed) (HasWritten room asked before old after)
HasFault room asked before old after new (Failed faults) =
    Row (old.failed ≡ Some faults) (SameCounts before after) (new ≡ old) (OnlyReads before after)

-- a fault that is no damage
abbrev pub IsNoDamage : Fault → Type 0
IsNoDamage (Damaged at want found) = ⊥
IsNoDamage fault = Unit {0}

-- ---- calls

-- at most one consistency point was made: the root that counts is that of before, or the one after it
abbrev pub KeepsRoot : Session → Session → Type 0
KeepsRoot old new = (new.pool.found ≡ old.pool.found) ⊎ IsNextRoot old.pool.found new.pool.found

-- a call was done
pub record IsDone (before : Shown) (old : Session) (after : Shown) (new : Session) : Type 0 where
  pub was : IsNone old.failed
  pub goes_on : IsNone new.failed
  pub counts : SameCounts before after
  pub root : IsTrue before.tells → KeepsRoot old new

-- What a call does that may add `room` blocks, and asks for this, whatever the disk tells. So many it counts at most as pending, whether it
-- was done or not.
pub record Goes {T : Type 0} (room : ℕ) (asked : Asked) (before : Shown) (old : Session) (after : Shown) (new : Session) (result : Result T Fault) : Type 0 where
  pub ends : KeepsEnds before after
  pub stands : IsNone new.failed → StandsReady after new
  pub done : OnOk result (IsDone before old after new)
  pub fault : IfErr result (HasFault room asked before old after new)
  pub pending : new.pending ≤ old.pending + room

-- Where a point of the session asked for no more than the space rule keeps, it does so after a call that may add `room` blocks. A change of
-- a volume that stays alone doesn't keep that: over an image that stands for no machine the root may name fewer overheads than the session's volumes have.
abbrev pub KeepsAsking : ℕ → Shown → Session → Shown → Session → Type 0
KeepsAsking room before old after new = IsTrue before.tells → (kept : ℕ) → AsksWithin before old kept → IsNone new.failed → AsksWithin after new (max kept room)

-- What a call does where the session stands for the machine `m` and its last point for `last`; `next` is the machine after it. Each
-- image at each moment stands for one of the three. After a fault that the session survives it stands for `m`.
pub record GoesFor {T : Type 0} (before : Shown) (last m next : Machine) (after : Shown) (new : Session) (result : Result T Fault) : Type 0 where
  pub any_moment : Leaves before after (λ c g. OneOf last m next c × (g ≡ before.given))
  pub done : OnOk result (StandsAfter after new last m next)
  pub still : IsNone new.failed → OnErr result (StandsAfter after new last m m)
  pub whole : IfErr result IsNoDamage

-- damage for want of blocks or of a leaf, or where the files of a volume couldn't be placed, with nothing written
abbrev pub IsForWant : Shown → Session → Shown → Session → Fault → Type 0
IsForWant before old after new (Damaged at want found) = OnlyReads before after × (LacksBlocks before old new at want found ⊎ (HasFilesToPlace before old at want found ⊎ HasLostLeaf after old new at want found))
IsForWant before old after new fault = Unit {0}

-- What a call does that may run a consistency point, since it asks for it or for the `room` blocks that it may add, and that makes `next m`
-- of the machine `m`. A point asks for no more than before, damage comes for want of blocks or of a leaf alone, and the numbers of files stay
-- in memory.
pub record Runs {T : Type 0} (room : ℕ) (asked : Asked) (next : Machine → Machine) (before : Shown) (old : Session) (after : Shown) (new : Session)
    (result : Result T Fault) : Type 0 where
  pub goes : Goes room asked before old after new result
  pub asks : KeepsAsking room before old after new
  pub damage : IfErr result (IsForWant before old after new)
  pub goes_for : IsTrue before.tells → (last m : Machine) → StandsFor before old last m → GoesFor before last m (next m) after new result
  pub numbers : IsNone new.failed → KeepsNumbers old.volumes new.volumes

-- A consistency point wasn't done, though no write and no barrier failed: it only read, and without a file in memory only leaves of containers came
-- into memory.
pub record IsUnpointed (before : Shown) (old : Session) (after : Shown) (new : Session) : Type 0 where
  pub only_reads : OnlyReads before after
  pub loads : HaveNoFiles old.volumes → HasLoaded before old new

-- no file comes into memory, and where the next root would hold just what the one on the disk holds it does so afterwards
pub record KeepsHolding {T : Type 0} (before : Shown) (old new : Session) (result : Result T Fault) : Type 0 where
  pub files : IsTrue before.tells → IsWithoutFiles old → OnOk result (IsWithoutFiles new)
  pub same : IsTrue before.tells → HoldsAsCommitted old → OnOk result (HoldsAsCommitted new)

-- ---- entries

-- Each entry of a container is as it was, or leads to a block that the root on the disk doesn't hold. So none became a hole.
abbrev pub KeepsEntries : Session → Session → Type 0
KeepsEntries old new = PlacesEntries old.pool.map old.pool.containers new.pool.containers

-- so it is with each volume that there was
abbrev pub MakesNoHoles : Session → Session → Type 0
MakesNoHoles old new = (s : ℕ) → IsSome (state_at old.volumes s) → (v : ℕ)
    → (own_entry (container_at new.pool.containers s) v ≡ own_entry (container_at old.pool.containers s) v) ⊎ IsSpareEntry old.pool.map (own_entry (container_at new.pool.containers s) v)

-- ---- commands

-- the disk and the session are as they were
abbrev pub IsUntouched : {D : Type 0} → D → Session → D → Session → Type 0
IsUntouched before old after new = (after ≡ before) × (new ≡ old)

-- a command on a whole volume that stays is always answered
pub record IsAnswered (told : Type 0) (old : Session) (command : Command) (name : List ℕ) (new : Session) (result : Result Reply Fault) : Type 0 where
  pub reply : Reply
  pub is : result ≡ Ok reply
  pub managed : IsManaged told old command name new reply

-- A volume was removed, or it is refused; or a leaf of its container wasn't read, or memory ran out. Nothing changed then but the cache, and that the
-- session may have failed. Nothing was written, either way.
pub record Removes (before : Shown) (old : Session) (name : List ℕ) (after : Shown) (new : Session) (result : Result Reply Fault) : Type 0 where
  pub managed : IfOk result (IsManaged (TellsEntries before old.pool.containers) old (VolDestroy name) name new)
  pub undone : OnErr result (WasRead before old after (record new { failed = old.failed }))
  pub only_reads : OnlyReads before after

-- the room of a command, with what is pending, stays within the dirty limit, so that no consistency point comes before it
abbrev pub IsWithinLimit : Session → Command → Type 0
IsWithinLimit session command = (room_by session.volumes command ≡ 0) ⊎ (session.pending + room_by session.volumes command ≤ dirty_limit)

-- the names of the snapshots of a volume are told, in byte order, or that no volume has the name
abbrev pub TellsSnapshots : Session → List ℕ → Reply → Type 0
TellsSnapshots session name reply =
    (NoneHasName session.volumes name × (reply ≡ Refused NoVolume))
    ⊎ ((slot : ℕ) × ((slot < slot_count) × (HasName session.volumes slot name × IfSome (state_at session.volumes slot) (λ x. reply ≡ Names (names_kept x.snapshots)))))

-- the volume of a name is there, and has no snapshot of this name
pub record LacksKept (states : States) (name snapshot : List ℕ) : Type 0 where
  pub slot : ℕ
  pub within : slot < slot_count
  pub named : HasName states slot name
  pub state : VolumeState
  pub there : state_at states slot ≡ Some state
  pub none : snap_named state.snapshots snapshot ≡ None

-- the volume of a name is there, and a clone stands on its snapshot of this name
pub record HasInUse (states : States) (name snapshot : List ℕ) : Type 0 where
  pub slot : ℕ
  pub within : slot < slot_count
  pub named : HasName states slot name
  pub used : is_used states slot snapshot ≡ true

-- what each refusal to remove a snapshot comes from
abbrev pub RefusesDelete : States → List ℕ → List ℕ → Refusal → Type 0
RefusesDelete states name snapshot NoVolume = NoneHasName states name
RefusesDelete states name snapshot NoSnapshot = LacksKept states name snapshot
RefusesDelete states name snapshot SnapshotInUse = HasInUse states name snapshot
RefusesDelete states name snapshot other = ⊥

-- A command that removes or restores a snapshot is refused for want of it exactly where its volume lacks that snapshot, and one that removes a snapshot
-- is refused as in use exactly where a clone stands on that. One that removes a snapshot is refused for nothing else but want of the volume.
pub record NeedsSnapshot (states : States) (command : Command) (result : Result Reply Fault) : Type 0 where
  pub lost : (name snapshot : List ℕ) → snapshot_needed command ≡ Some (name, snapshot) → LacksKept states name snapshot → result ≡ Ok (Refused NoSnapshot)
  pub only : (name snapshot : List ℕ) → snapshot_needed command ≡ Some (name, snapshot) → result ≡ Ok (Refused NoSnapshot) → LacksKept states name snapshot
  pub used : (name snapshot : List ℕ) → command ≡ SnapDelete name snapshot → HasInUse states name snapshot → result ≡ Ok (Refused SnapshotInUse)
  pub only_used : (name snapshot : List ℕ) → command ≡ SnapDelete name snapshot → result ≡ Ok (Refused SnapshotInUse) → HasInUse states name snapshot
  pub only_refused : (name snapshot : List ℕ) → command ≡ SnapDelete name snapshot → (refusal : Refusal) → result ≡ Ok (Refused refusal) → RefusesDelete states name snapshot refusal

-- A command that makes, removes or restores a snapshot of the volume of a name is refused without the volume, without the snapshot that it needs, and
-- where it would remove one on which a clone stands.
pub record FindsVolume (states : States) (command : Command) (name : List ℕ) (result : Result Reply Fault) : Type 0 where
  pub missing : NoneHasName states name → result ≡ Ok (Refused NoVolume)
  pub needs : NeedsSnapshot states command result

-- What a command that reads no file does beside, whatever the disk holds. Refused it leaves all as it was, and one that isn't built is refused as no
-- command. One that adds no block, or whose room stays within the dirty limit, doesn't reach the disk, but for a `cp` and for one that may read leaves
-- of containers, which without files in memory a removal alone does; and but for these it leaves the session then where memory ran out. But for a
-- removal and for one that places files it takes no block then and gives none back. `vol list` answers the names of the session's volumes, and `snap list` those of a volume's snapshots, and both leave all as it was. A `cp`
-- that is done leaves nothing pending and no file in memory; one that isn't, in a session that goes on, only read, and left all but leaves where no file
-- was in memory. Damage comes for want of blocks or of a leaf alone. Of a command that copies blocks or takes background steps these say nothing. A command on a whole
-- volume that stays is answered, without a fault, and a volume is removed, or nothing changed. One on snapshots is refused without its volume, one that removes or restores a snapshot exactly where that isn't
-- there, and one that removes a snapshot exactly where a clone stands on that, too. What is answered where a volume is to be
-- made is decided by the volumes and the blocks of the aggregate before it; a fault may come in its place.
pub record IsPlain {D : Type 0} (command : Command) (shown : Shown) (before : D) (old : Session) (shown_after : Shown) (after : D) (new : Session) (result : Result Reply Fault) : Type 0 where
  pub refused : IfOk result (λ reply. IsTrue (is_refusal reply) → IsUntouched before old after new)
  pub calm : command ≢ Cp → reaches_disk command ≡ false → reads_leaves command ≡ false → IsWithinLimit old command → after ≡ before
  pub idle : command ≢ Cp → reaches_disk command ≡ false → removes_volume command ≡ false → HaveNoFiles old.volumes → IsWithinLimit old command → after ≡ before
  pub map : command ≢ Cp → reaches_disk command ≡ false → removes_volume command ≡ false → places_files command ≡ false → IsWithinLimit old command → new.pool.map ≡ old.pool.map
  pub wanting : command ≢ Cp → reaches_disk command ≡ false → reads_leaves command ≡ false → IsWithinLimit old command → IfErr result (λ e. e ≡ Memory → new ≡ old)
  pub damage : reaches_disk command ≡ false → IfErr result (IsForWant shown old shown_after new)
  pub unbuilt : IsNone old.failed → is_built command ≡ false → result ≡ Ok (Refused Syntax)
  pub listed : command ≡ VolList → IfOk result (λ reply. reply ≡ Names (names_from old.volumes 0 slot_count))
  pub untouched : command ≡ VolList → IsUntouched before old after new
  pub pointed : command ≡ Cp → OnOk result (IsPointed shown old new)
  pub unpointed : command ≡ Cp → IsNone new.failed → OnErr result (IsUnpointed shown old shown_after new)
  pub managed : IsNone old.failed → (name : List ℕ) → managed_by command ≡ Some name → removes_volume command ≡ false
      → IsAnswered (TellsEntries shown old.pool.containers) old command name new result
  pub removed : IsNone old.failed → (name : List ℕ) → command ≡ VolDestroy name → Removes shown old name shown_after new result
  pub snapped : IsNone old.failed → (name : List ℕ) → snapped_by command ≡ Some name → FindsVolume old.volumes command name result
  pub snapshots : IsNone old.failed → (name : List ℕ) → command ≡ SnapList name → IsUntouched before old after new × IfOk result (TellsSnapshots old name)
  pub made : IfOk result (DecidesMaking old.volumes old.pool.found.blocks command)

-- the volume of a name hasn't the snapshot that a command asks
pub record LacksSnapshot (states : States) (name : List ℕ) (command : Command) : Type 0 where
  pub slot : ℕ
  pub within : slot < slot_count
  pub named : HasName states slot name
  pub state : VolumeState
  pub there : state_at states slot ≡ Some state
  pub none : table_named state (snapshot_asked command) ≡ None

-- What a command on files does beside. Whatever the disk holds, it is refused out of range, without its volume, and without the snapshot that it
-- asks, in this order, and leaves all as it was then. It is refused for want of a snapshot only where the volume lacks that snapshot. One that
-- asks leaves all but the cache and the numbers of files in memory, where it is answered and where it ends with a fault, but that the session may
-- have failed then. So does a change that is refused, where no point comes before it, or the session stands for a machine. A change that ends with a
-- fault isn't made, where no point comes before it. Once a command that finds a file of the active table of a volume by its name is answered,
-- refused or not, the numbers of the volume's files are in memory. A probe that is accepted answers the path to its cell.
pub record IsOnFiles {D : Type 0} (command : Command) (shown : Shown) (before : D) (old : Session) (shown_after : Shown) (after : D) (new : Session) (result : Result Reply Fault) : Type 0 where
  pub range : IsNone old.failed → has_range command ≡ false → (result ≡ Ok (Refused Range)) × IsUntouched before old after new
  pub missing : IsNone old.failed → has_range command ≡ true → (name : List ℕ) → (changed_by command ≡ Some name) ⊎ (volume_asked command ≡ Some name) → NoneHasName old.volumes name → (result ≡ Ok (Refused NoVolume)) × IsUntouched before old after new
  pub lost : IsNone old.failed → has_range command ≡ true → (name : List ℕ) → volume_asked command ≡ Some name → LacksSnapshot old.volumes name command → (result ≡ Ok (Refused NoSnapshot)) × IsUntouched before old after new
  pub only : IsNone old.failed → (name : List ℕ) → volume_asked command ≡ Some name → result ≡ Ok (Refused NoSnapshot) → LacksSnapshot old.volumes name command
  pub asked : IsSome (volume_asked command) → OnOk result (WasRead shown old shown_after new)
  pub unanswered : IsSome (volume_asked command) → OnErr result (WasRead shown old shown_after (record new { failed = old.failed }))
  pub refused : IsTrue shown.tells → (last m : Machine) → StandsFor shown old last m → IfOk result (λ reply. IsTrue (is_refusal reply) → WasRead shown old shown_after new)
  pub still : IsWithinLimit old command → IfOk result (λ reply. IsTrue (is_refusal reply) → WasRead shown old shown_after new)
  pub unmade : IsNone old.failed → IsWithinLimit old command → (name : List ℕ) → changed_by command ≡ Some name → OnErr result (IsUnmadeIn shown old name shown_after new)
  pub path : IsTrue shown.tells → (last m : Machine) → StandsFor shown old last m → (name : List ℕ) → volume_asked command ≡ Some name → IfOk result (λ reply. IfSome (state_at old.volumes (slot_named old.volumes name)) (λ x. TellsPath shown old.pool x reply command))
  pub known : finds_file command ≡ true → has_range command ≡ true → (name : List ℕ) → (changed_by command ≡ Some name) ⊎ (volume_asked command ≡ Some name) → OnOk result (KnowsNamed old.volumes name new.volumes)

-- A command makes no step, where the volume that it asks, if it is there, has no unknown place.
abbrev pub MakesNoStep : Machine → Command → Result Reply Fault → ℕ → ℕ → Type 0
MakesNoStep m command result start steps = IfSome (volume_asked command) (λ name. IfSome (fin.get m.volumes name) (λ volume. volume.known ≡ true)) → OnOk result (steps ≡ start)

-- No steps are counted but for a `get`. An accepted `get` makes a step for each unknown pointer on its path, where the session stands for a machine.
-- None are made where the session has failed, nor where it stands for a machine in which the volume that is asked has no unknown place.
pub record CountsSteps (command : Command) (before : Shown) (old : Session) (start steps : ℕ) (result : Result Reply Fault) : Type 0 where
  pub other : is_get command ≡ false → steps ≡ start
  pub known : IsTrue before.tells → (last m : Machine) → StandsFor before old last m → MakesNoStep m command result start steps
  pub path : IsTrue before.tells → (last m : Machine) → StandsFor before old last m → (name : List ℕ) → volume_asked command ≡ Some name → IfOk result (λ reply. IfSome (state_at old.volumes (slot_named old.volumes name)) (λ x. CountsPath before old.pool x start steps reply command))
  pub dead : IsSome old.failed → steps ≡ start
