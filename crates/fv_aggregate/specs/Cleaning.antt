-- What `clean` and `work` do in a session: background steps, with the consistency points that they need between them.
--
-- An example: a mirror has 4,000 unknown pointers. `clean w` takes 4,000 steps at most, with a point before each step for which there is no room, and
-- then the volume knows all its places. `work 10` takes ten of these steps; the machine is the same after it.
use Rattle.std.specs.Prelude.{◌≡◌, ◌<◌, ◌≤◌, ◌+◌, ℕ, Bool, true, false, List, Some, Result, Ok, length, max, IfErr, IfOk, IsNone, IsTrue, OnErr, OnOk}
use Rattle.fv_disk.specs.Shown.{Shown}
use Rattle.fv_disk.specs.DiskCalls.{OnlyReads}
use Rattle.fv_model.specs.declared.answers.Refusal.TheVariants.{NoVolume, Range}
use Rattle.fv_model.specs.declared.answers.Reply.{Reply}
use Rattle.fv_model.specs.declared.answers.Reply.TheVariants.{Done, Refused}
use Rattle.fv_model.specs.declared.commands.Command.{Command}
use Rattle.fv_model.specs.declared.commands.Command.TheVariants.{Clean, Work}
use Rattle.fv_model.specs.Machines.{Machine}
use Rattle.fv_model.specs.Numbers.{is_step_count}
use Rattle.fv_model.specs.Refusals.{next}
use Rattle.fv_model.specs.Replies.{Allows}
use Rattle.fv_container.specs.Chains.{slot_count}
use Rattle.fv_volume.specs.Slots.{HasName, NoneHasName}
use Rattle.fv_volume.specs.States.{state_at}
use Rattle.fv_cp.specs.Placing.{HaveNoFiles}
use Rattle.fv_aggregate.specs.declared.fault.Fault.{Fault}
use Rattle.fv_aggregate.specs.declared.fault.Fault.TheVariants.{DiskFault, Damaged, Memory, Failed}
use Rattle.fv_aggregate.specs.declared.session.Session.{Session}
use Rattle.fv_aggregate.specs.Calls.{FailsByWrite, Goes, GoesFor, IsUntouched, RoseOnDisk, Row, SameCounts}
use Rattle.fv_aggregate.specs.Causes.{KeepsEnds}
use Rattle.fv_aggregate.specs.Commands.{Asked, dirty_limit}
use Rattle.fv_aggregate.specs.Known.{KeepsNumbers}
use Rattle.fv_aggregate.specs.Standing.{StandsFor, StandsReady}
use Rattle.fv_aggregate.specs.Working.{AreKnown, is_unclean, step_room, todo, todo_at, Backs, HasKnownRoots, HasWorked, HasWorkDamage}

-- ---- a call that takes steps

-- why such a call isn't done; points may have been done between its steps, and the steps taken stay taken
abbrev pub HasStepsFault : Shown → Session → Shown → Session → Fault → Type 0
HasStepsFault before old after new DiskFault = Row (IsNone old.failed) (RoseOnDisk before after) (FailsByWrite before after new) (Unit {0})
HasStepsFault before old after new (Damaged at want found) = Row (HasWorkDamage after new at want found) (SameCounts before after) (IsNone new.failed) (IsNone old.failed)
HasStepsFault before old after new Memory = Row (IsNone old.failed) (SameCounts before after) (IsNone new.failed) (Unit {0})
HasStepsFault before old after new (Failed faults) = Row (old.failed ≡ Some faults) (SameCounts before after) (new ≡ old) (OnlyReads before after)

-- What it does whatever the disk tells: as `Goes`, but that as many points may be made as its steps need.
pub record GoesInSteps {T : Type 0} (before : Shown) (old : Session) (after : Shown) (new : Session) (result : Result T Fault) : Type 0 where
  pub ends : KeepsEnds before after
  pub stands : IsNone new.failed → StandsReady after new
  pub done : OnOk result (IsNone old.failed × (IsNone new.failed × SameCounts before after))
  pub fault : IfErr result (HasStepsFault before old after new)
  -- each step has room within the dirty limit
  pub within : new.pending ≤ max dirty_limit old.pending

-- what a call does, by whether it takes steps
abbrev pub GoesAs : {T : Type 0} → Bool → ℕ → Asked → Shown → Session → Shown → Session → Result T Fault → Type 0
GoesAs false room asked before old after new result = Goes room asked before old after new result
GoesAs true room asked before old after new result = GoesInSteps before old after new result

-- ---- a volume that is cleaned

-- One step of the volume of a slot, before which a consistency point makes room where that is lacking, and files in memory are placed: what is left falls
-- by it, or nothing is left in that volume. Which slots have unclean volumes stays.
pub record CleansOnce (slot : ℕ) (before : Shown) (old : Session) (after : Shown) (new : Session) (result : Result Bool Fault) : Type 0 where
  pub backs : Backs 1 before old after new result
  pub long : OnOk result (length new.volumes ≡ slot_count)
  pub none : OnOk result (HaveNoFiles new.volumes)
  pub unclean : OnOk result (is_unclean (state_at new.volumes slot) ≡ true)
  pub named : (name : List ℕ) → HasName old.volumes slot name → OnOk result (HasName new.volumes slot name)
  pub roots : IfOk result (λ took. took ≡ false → HasKnownRoots (state_at new.volumes slot))
  pub least : IsTrue before.tells → (last m : Machine) → StandsFor before old last m → IfOk result (λ took. took ≡ false → todo_at after.reads new.pool (state_at new.volumes slot) ≡ 0)
  pub falls : IsTrue before.tells → (last m : Machine) → StandsFor before old last m → HaveNoFiles old.volumes → IfOk result (λ took. took ≡ true → todo after new < todo before old)
  -- a fault takes no step and loses none
  pub undone : IsTrue before.tells → (last m : Machine) → StandsFor before old last m → HaveNoFiles old.volumes → IsNone new.failed → OnErr result (todo after new ≡ todo before old)
  -- no consistency point is made where there is room
  pub calm : old.pending + step_room ≤ dirty_limit → OnlyReads before after

-- Where a call takes steps until none is left, and no file is in memory before it: after a fault that the session survives the steps taken before it stay
-- taken. Each step lowers what is left and adds one block at most, so where all that is left has room no consistency point is made.
pub record KeepsSteps {T : Type 0} (before : Shown) (old : Session) (after : Shown) (new : Session) (result : Result T Fault) : Type 0 where
  pub undone : IsTrue before.tells → (last m : Machine) → StandsFor before old last m → HaveNoFiles old.volumes → IsNone new.failed → OnErr result (todo after new ≤ todo before old)
  pub calm : IsTrue before.tells → (last m : Machine) → StandsFor before old last m → HaveNoFiles old.volumes → old.pending + todo before old + step_room ≤ dirty_limit → OnlyReads before after

-- The volume of a name knows all its places now, whose slot this is. Else it only took steps.
pub record Learns (next : Machine → Machine) (slot : ℕ) (before : Shown) (old : Session) (after : Shown) (new : Session) (result : Result Unit Fault) : Type 0 where
  pub goes : GoesInSteps before old after new result
  pub numbers : IsNone new.failed → KeepsNumbers old.volumes new.volumes
  pub known : OnOk result (is_unclean (state_at new.volumes slot) ≡ false)
  pub goes_for : IsTrue before.tells → (last m : Machine) → StandsFor before old last m → GoesFor before last m (next m) after new result
  pub keeps : KeepsSteps before old after new result

-- ---- commands

-- A volume that is there is clean now; where it was, nothing changed. Without it the command is refused. A fault loses no step, and no consistency
-- point is made where all that is left to do has room.
pub record CleansNamed {D : Type 0} (name : List ℕ) (shown shown_after : Shown) (before : D) (old : Session) (after : D) (new : Session) (result : Result Reply Fault) : Type 0 where
  pub missing : NoneHasName old.volumes name → (result ≡ Ok (Refused NoVolume)) × IsUntouched before old after new
  pub answered : (slot : ℕ) → slot < slot_count → HasName old.volumes slot name → IfOk result (λ reply. (reply ≡ Done) × (is_unclean (state_at new.volumes slot) ≡ false))
  pub idle : (slot : ℕ) → slot < slot_count → HasName old.volumes slot name → is_unclean (state_at old.volumes slot) ≡ false → (result ≡ Ok Done) × IsUntouched before old after new
  pub keeps : KeepsSteps shown old shown_after new result

-- So many steps were taken as a command asks for, or all that were left; or their number is out of range. Where all places are known nothing is done.
-- A fault loses no step, and no consistency point is made where all steps have room.
pub record TakesSteps {D : Type 0} (shown shown_after : Shown) (steps : ℕ) (before : D) (old : Session) (after : D) (new : Session) (result : Result Reply Fault) : Type 0 where
  pub far : is_step_count steps ≡ false → (result ≡ Ok (Refused Range)) × IsUntouched before old after new
  pub taken : is_step_count steps ≡ true → IfOk result (λ reply. (reply ≡ Done) × ((taken : ℕ) × HasWorked steps shown old shown_after new taken))
  pub idle : is_step_count steps ≡ true → AreKnown old.volumes → (result ≡ Ok Done) × IsUntouched before old after new
  pub undone : IsTrue shown.tells → (last m : Machine) → StandsFor shown old last m → HaveNoFiles old.volumes → IsNone new.failed → OnErr result (todo shown_after new ≤ todo shown old)
  pub calm : old.pending + steps + step_room ≤ dirty_limit + 1 → OnlyReads shown shown_after

-- What `clean` does in a session that hasn't failed, whatever the disk tells; and where the session stands for a machine.
pub record Cleans {D : Type 0} (name : List ℕ) (shown : Shown) (before : D) (old : Session) (shown_after : Shown) (after : D) (new : Session) (result : Result Reply Fault) : Type 0 where
  pub goes : GoesInSteps shown old shown_after new result
  pub numbers : IsNone new.failed → KeepsNumbers old.volumes new.volumes
  pub goes_for : IsTrue shown.tells → (last m : Machine) → StandsFor shown old last m → GoesFor shown last m (next m (Clean name)) shown_after new result
  pub reply : IsTrue shown.tells → (last m : Machine) → StandsFor shown old last m → IfOk result (Allows m (Clean name))
  pub cleans : CleansNamed name shown shown_after before old after new result

-- what `work` does in one
pub record TakesAll {D : Type 0} (steps : ℕ) (shown : Shown) (before : D) (old : Session) (shown_after : Shown) (after : D) (new : Session) (result : Result Reply Fault) : Type 0 where
  pub goes : GoesInSteps shown old shown_after new result
  pub numbers : IsNone new.failed → KeepsNumbers old.volumes new.volumes
  pub goes_for : IsTrue shown.tells → (last m : Machine) → StandsFor shown old last m → GoesFor shown last m m shown_after new result
  pub reply : IsTrue shown.tells → (last m : Machine) → StandsFor shown old last m → IfOk result (Allows m (Work steps))
  pub takes : TakesSteps shown shown_after steps before old after new result

abbrev pub StepsBy : {D : Type 0} → Command → Shown → D → Session → Shown → D → Session → Result Reply Fault → Type 0
StepsBy (Clean volume) shown before old shown_after after new result = CleansNamed volume shown shown_after before old after new result
StepsBy (Work steps) shown before old shown_after after new result = TakesSteps shown shown_after steps before old after new result
StepsBy command shown before old shown_after after new result = Unit {0}
