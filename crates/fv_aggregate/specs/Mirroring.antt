-- The steps of `mirror`: a mirror is admitted, room is made for it, then the blocks of its source are copied at once to free blocks, and a barrier
-- follows, so that the disk is settled again.
use Rattle.std.specs.Prelude.{◌≡◌, ◌≤◌, ◌<◌, ◌+◌, ◌-◌, ◌^◌, ◌⊎◌, ℕ, List, Some, IsTrue, IsNone, IsSome, IfErr, IfOk, IfSome, OnErr, OnOk, Result, Ok, Err}
use Rattle.fv_disk.specs.Shown.{Image, Shown}
use Rattle.fv_disk.specs.Crash.{Leaves}
use Rattle.fv_disk.specs.DiskCalls.{OnlyReads, Settles}
use Rattle.fv_disk.specs.Sparing.{LeftBefore}
use Rattle.fv_disk.specs.declared.Failed.{Failed}
use Rattle.fv_model.specs.declared.answers.Refusal.{Refusal}
use Rattle.fv_model.specs.declared.answers.Reply.{Reply}
use Rattle.fv_model.specs.declared.answers.Reply.TheVariants.{Done, Refused}
use Rattle.fv_model.specs.declared.commands.Command.TheVariants.{Mirror}
use Rattle.fv_model.specs.declared.commands.Kind.{Kind}
use Rattle.fv_model.specs.Machines.{Machine}
use Rattle.fv_model.specs.Refusals.{next}
use Rattle.fv_model.specs.Space.{overhead}
use Rattle.fv_aggmap.specs.Space.{Space}
use Rattle.fv_container.specs.Chains.{IsSlots}
use Rattle.fv_store.specs.Held.{StandsOn}
use Rattle.fv_volmap.specs.Slots.{IsVolume}
use Rattle.fv_volume.specs.States.{state_at}
use Rattle.fv_copies.specs.Copying.{IsTaken}
use Rattle.fv_clone.specs.Admitting.{IsBaseNamed}
use Rattle.fv_mirror.specs.declared.admitting.Admitted.{Admitted}
use Rattle.fv_mirror.specs.Admitting as admitting
use Rattle.fv_mirror.specs.Making as mirrors
use Rattle.fv_cp.specs.Lent.{FitTogether}
use Rattle.fv_cp.specs.Placing.{HaveNoFiles}
use Rattle.fv_aggregate.specs.declared.fault.Fault.{Fault}
use Rattle.fv_aggregate.specs.declared.fault.Fault.TheVariants.{DiskFault, Damaged, Memory, Failed as HasFailed}
use Rattle.fv_aggregate.specs.declared.session.Session.{Session}
use Rattle.fv_aggregate.specs.Adding.{IsPointed}
use Rattle.fv_aggregate.specs.Calls.{FailsByWrite, GoesFor, HasDamage, KeepsRoot, MakesNoHoles, RoseOnDisk, Row, SameCounts}
use Rattle.fv_aggregate.specs.Causes.{KeepsEnds}
use Rattle.fv_aggregate.specs.Commands.{AsksNothing, dirty_limit}
use Rattle.fv_aggregate.specs.Known.{KeepsNumbers}
use Rattle.fv_aggregate.specs.Parts.{AreSet}
use Rattle.fv_aggregate.specs.Reclaiming.{MakesRoom}
use Rattle.fv_aggregate.specs.Standing.{StandsFor, StandsReady}

-- ---- the copies

-- Only blocks were written that are free by a map: no other one differs in what is read, and in what a crash now may leave, or at any moment
-- meanwhile. No bytes are given out.
pub record WritesFree (map : Space) (disk after : Shown) : Type 0 where
  pub ends : KeepsEnds disk after
  pub reads : IsTrue disk.tells → (b : ℕ) → IsTaken map b → after.reads b ≡ disk.reads b
  pub images : (c : Image) → after.images c → LeftBefore (IsTaken map) disk c
  pub any_moment : Leaves disk after (λ c g. LeftBefore (IsTaken map) disk c × (g ≡ disk.given))

-- What is left of disk and session, whatever is answered: of the blocks just free ones were written, and but for volumes, pool, what is pending and
-- whether it has failed the session is as before.
pub record LeavesCopies (disk : Shown) (old : Session) (after : Shown) (new : Session) : Type 0 where
  pub others : mirrors.LeavesOthers disk old.pool after new.pool
  pub cache : StandsOn after new.pool.store.pairs
  pub delays : new.delays ≡ old.delays

-- A mirror that was admitted was added to a session, with room for its overhead and its copies, which are pending then. It fits together with the others.
pub record IsMirrorAdded (disk : Shown) (old : Session) (name : List ℕ) (size : ℕ) (kind : Kind) (a : Admitted) (room : ℕ) (after : Shown) (new : Session) : Type 0 where
  pub mirrored : mirrors.IsMirrored disk old.volumes old.pool name size kind a after new.volumes new.pool
  pub room_is : room ≡ overhead a.span + a.count
  pub fit : FitTogether old.pool old.volumes
  pub few : IsSlots old.pool.containers
  pub maps : IfSome (state_at old.volumes a.source.parent) (λ y. IsVolume y.map)
  pub fit_now : FitTogether new.pool new.volumes
  pub set_now : AreSet new.pool new.volumes
  pub counts : SameCounts disk after
  pub goes_on : IsNone new.failed
  pub pending : new.pending ≡ old.pending + room

-- Why none was added, and what the disk counted.
abbrev pub HasNoMirrorCause : Shown → Session → Admitted → Shown → Session → Fault → Type 0
HasNoMirrorCause disk old a after new DiskFault = RoseOnDisk disk after × FailsByWrite disk after new
HasNoMirrorCause disk old a after new (Damaged at want found) = (mirrors.CanCopy disk old.volumes old.pool a → ⊥) × (SameCounts disk after × IsNone new.failed)
HasNoMirrorCause disk old a after new Memory = SameCounts disk after × IsNone new.failed
HasNoMirrorCause disk old a after new (HasFailed faults) = ⊥

-- None was added. In a session that goes on volumes, containers, the map of free blocks and what is pending are as before.
pub record IsNoneAdded (disk : Shown) (old : Session) (a : Admitted) (room : ℕ) (after : Shown) (new : Session) (fault : Fault) : Type 0 where
  pub cause : HasNoMirrorCause disk old a after new fault
  pub fit : FitTogether old.pool old.volumes
  pub few : IsSlots old.pool.containers
  pub maps : IfSome (state_at old.volumes a.source.parent) (λ y. IsVolume y.map)
  pub same : IsNone new.failed → mirrors.IsUnmade old.volumes old.pool new.volumes new.pool
  pub set_now : IsNone new.failed → AreSet new.pool new.volumes
  pub pending : IsNone new.failed → new.pending ≡ old.pending
  pub entries : MakesNoHoles old new
  pub most : new.pending ≤ old.pending + room

abbrev pub AddsMirror : Shown → Session → List ℕ → ℕ → Kind → Admitted → ℕ → Shown → Session → Result Unit Fault → Type 0
AddsMirror disk old name size kind a room after new (Ok done) = IsMirrorAdded disk old name size kind a room after new
AddsMirror disk old name size kind a room after new (Err fault) = IsNoneAdded disk old a room after new fault

-- ---- the barrier

-- A session that failed is left, and the answer is that of before. Else a barrier was made: done it leaves the session and the answer, and failed the
-- session has failed by it.
abbrev pub IsSettledBy : Shown → Session → Result Unit Fault → Shown → Session → Result Unit Fault → Result Unit Failed → Type 0
IsSettledBy disk old made after new result (Ok done) = (new ≡ old) × (result ≡ made)
IsSettledBy disk old made after new result (Err failed) = (new ≡ record old { failed = Some after.faults }) × ((result ≡ Err DiskFault) × (after.faults ≤ 2 ^ 64 - 1))

abbrev pub IsSettledLive : Shown → Session → Result Unit Fault → Shown → Session → Result Unit Fault → Type 0
IsSettledLive disk old made after new result = (r : Result Unit Failed) × (Settles disk after r × IsSettledBy disk old made after new result r)

pub record SettlesSession {D : Type 0} (shown : D → Shown) (before : D) (old : Session) (made : Result Unit Fault) (after : D) (new : Session) (result : Result Unit Fault) : Type 0 where
  pub dead : IsSome old.failed → (after ≡ before) × ((new ≡ old) × (result ≡ made))
  pub live : IsNone old.failed → IsSettledLive (shown before) old made (shown after) new result

-- ---- the whole

-- a point made room, and the session that is left, which but for its cache is as that point left it, can't make the copies
pub record IsUncopiedBehind (room : ℕ) (old : Session) (a : Admitted) (after : Shown) (new : Session) : Type 0 where
  pub past : dirty_limit < old.pending + room
  pub left : IsPointed after old new
  pub not : mirrors.CanCopy after new.volumes new.pool a → ⊥

-- Why no mirror is made, once it was admitted: a call of the disk failed, memory ran out, or there is damage: of the point that makes room, or since what
-- is copied isn't whole, before the call or behind that point. Beside the point only free blocks were written where the session goes on.
abbrev pub IsUncopied : ℕ → Shown → Session → Admitted → Shown → Session → Type 0
IsUncopied room before old a after new = (mirrors.CanCopy before old.volumes old.pool a → ⊥) ⊎ IsUncopiedBehind room old a after new

abbrev pub WritesLittle : ℕ → Shown → Session → Shown → Type 0
WritesLittle room before old after = OnlyReads before after ⊎ ((dirty_limit < old.pending + room) ⊎ WritesFree old.pool.map before after)

abbrev pub HasMirrorFault : ℕ → Admitted → Shown → Session → Shown → Session → Fault → Type 0
HasMirrorFault room a before old after new DiskFault = Row (IsNone old.failed) (RoseOnDisk before after) (FailsByWrite before after new) (Unit {0})
HasMirrorFault room a before old after new (Damaged at want found) =
    Row (HasDamage room AsksNothing before old after new at want found ⊎ IsUncopied room before old a after new) (SameCounts before after) (IsNone new.failed) (WritesLittle room before old after)
HasMirrorFault room a before old after new Memory = Row (IsNone old.failed) (SameCounts before after) (IsNone new.failed) (WritesLittle room before old after)
HasMirrorFault room a before old after new (HasFailed faults) = ⊥

-- It is done.
pub record IsMirrorDone (before : Shown) (old : Session) (after : Shown) (new : Session) : Type 0 where
  pub was : IsNone old.failed
  pub goes_on : IsNone new.failed
  pub counts : SameCounts before after
  pub root : IsTrue before.tells → KeepsRoot old new

-- It is behind a point that made room for it.
pub record IsBehindPoint (before : Shown) (old new : Session) : Type 0 where
  pub mid : Session
  pub pointed : IsPointed before old mid
  pub found : new.pool.found ≡ mid.pool.found

-- What a call does that makes a mirror, for room that it may ask for: its overhead and its copies. It may run a point for `room` blocks, and makes
-- `next m` of the machine `m`. With that room within the dirty limit it writes free blocks alone, makes no hole, and where it isn't done and
-- the session goes on it leaves the volumes, the containers and the map of the next root's blocks. No file comes into memory.
pub record MakesMirror {D : Type 0} (shown : D → Shown) (room : ℕ) (a : Admitted) (next : Machine → Machine) (before : D) (old : Session) (after : D) (new : Session)
    (result : Result Reply Fault) : Type 0 where
  -- whatever the disk tells
  pub ends : KeepsEnds (shown before) (shown after)
  pub stands : IsNone new.failed → StandsReady (shown after) new
  pub done : OnOk result (IsMirrorDone (shown before) old (shown after) new)
  pub fault : IfErr result (HasMirrorFault room a (shown before) old (shown after) new)
  pub pending : new.pending ≤ old.pending + room
  pub numbers : IsNone new.failed → KeepsNumbers old.volumes new.volumes
  -- where the session stands for a machine
  pub goes_for : IsTrue (shown before).tells → (last m : Machine) → StandsFor (shown before) old last m → GoesFor (shown before) last m (next m) (shown after) new result
  -- behind a point, where the room passes the dirty limit
  pub pointed : dirty_limit < old.pending + room → OnOk result (IsBehindPoint (shown before) old new)
  -- and what that point made of the session that stood for a machine
  pub roomy : MakesRoom room (shown before) old (shown after) result
  -- without a point
  pub free : old.pending + room ≤ dirty_limit → WritesFree old.pool.map (shown before) (shown after)
  pub entries : old.pending + room ≤ dirty_limit → MakesNoHoles old new
  pub unmade : old.pending + room ≤ dirty_limit → IsNone new.failed → OnErr result (mirrors.IsUnmade old.volumes old.pool new.volumes new.pool)
  -- no file comes into memory
  pub files : HaveNoFiles old.volumes → OnOk result (HaveNoFiles new.volumes)

-- ---- the command

-- A mirror of a snapshot that is asked by its name is refused, which leaves the disk and the session.
pub record RefusesMirror {D : Type 0} (source snapshot name : List ℕ) (size : ℕ) (kind : Kind) (before : D) (old : Session) (after : D) (new : Session) (result : Result Reply Fault) : Type 0 where
  pub refusal : Refusal
  pub is : result ≡ Ok (Refused refusal)
  pub why : admitting.Refuses old.volumes old.pool.found.blocks source snapshot name size kind refusal
  pub disk : after ≡ before
  pub session : new ≡ old

-- It is admitted, and then it is made, or a fault comes.
pub record TakesMirror {D : Type 0} (shown : D → Shown) (source snapshot name : List ℕ) (size : ℕ) (kind : Kind) (before : D) (old : Session) (after : D) (new : Session) (result : Result Reply Fault) : Type 0 where
  pub admitted : Admitted
  pub admits : admitting.Admits old.volumes old.pool.found.blocks name size kind admitted
  pub named : IsBaseNamed source snapshot admitted.source
  pub made : MakesMirror shown (overhead admitted.span + admitted.count) admitted
      (λ m. next m (Mirror admitted.source.name admitted.source.snapshot name size kind)) before old after new result
  pub reply : IfOk result (λ reply. reply ≡ Done)

-- What the command does, which is decided by the volumes and the blocks before it.
abbrev pub Mirrors : {D : Type 0} → (D → Shown) → List ℕ → List ℕ → List ℕ → ℕ → Kind → D → Session → D → Session → Result Reply Fault → Type 0
Mirrors shown source snapshot name size kind before old after new result =
    RefusesMirror source snapshot name size kind before old after new result ⊎ TakesMirror shown source snapshot name size kind before old after new result
