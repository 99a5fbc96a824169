-- What commands on a whole volume do in a session: what it holds is told, it gets another size or kind of guarantee, or it is removed. They are
-- carried out in memory, for a removal once the leaves of the volume's container are read; the next consistency point writes what changed.
use Rattle.std.specs.Prelude.{◌≡◌, ◌≢◌, ◌<◌, ◌⊎◌, ℕ, true, false, List, Some, Result, Ok, Err, IsTrue}
use Rattle.fv_model.specs.declared.answers.Refusal.{Refusal}
use Rattle.fv_model.specs.declared.answers.Refusal.TheVariants.{NoVolume, Range, Syntax, VolumeInUse}
use Rattle.fv_model.specs.declared.answers.Reply.{Reply}
use Rattle.fv_model.specs.declared.answers.Reply.TheVariants.{Done, Refused, Stat as Numbers}
use Rattle.fv_model.specs.declared.commands.Command.{Command}
use Rattle.fv_model.specs.declared.commands.Command.TheVariants.{VolDestroy, VolResize, VolGuarantee, VolStat}
use Rattle.fv_container.specs.Chains.{slot_count}
use Rattle.fv_volume.specs.declared.state.VolumeState.{VolumeState}
use Rattle.fv_volumes.specs.Destroying.{IsGone}
use Rattle.fv_volumes.specs.Footing.{is_stood_on}
use Rattle.fv_volume.specs.Promising.{told_by, IsPromised, PromisesOne}
use Rattle.fv_volume.specs.Slots.{HasName, NoneHasName}
use Rattle.fv_volume.specs.States.{state_at}
use Rattle.fv_aggregate.specs.declared.session.Session.{Session}
use Rattle.fv_aggregate.specs.Commands.{has_range, is_refusal}

-- ---- what is answered, whatever the disk holds

-- a volume of the session has the name, and is told so
pub record IsTold (session : Session) (name : List ℕ) (reply : Reply) : Type 0 where
  pub slot : ℕ
  pub within : slot < slot_count
  pub named : HasName session.volumes slot name
  pub state : VolumeState
  pub there : state_at session.volumes slot ≡ Some state
  pub told : reply ≡ Numbers (told_by state)

-- The volume has its new size or kind and is else as it was, as is all that volumes share; or it is gone, and its blocks are given back, where the disk
-- tells the entries.
abbrev pub IsCarriedOut : Type 0 → Session → Command → Session → Type 0
IsCarriedOut sure old (VolResize name size) new = (new.pool ≡ old.pool) × IsPromised old.volumes old.pool.found.blocks (VolResize name size) name (λ x. size) (λ x. x.kind) new.volumes
IsCarriedOut sure old (VolGuarantee name kind) new = (new.pool ≡ old.pool) × IsPromised old.volumes old.pool.found.blocks (VolGuarantee name kind) name (λ x. x.size) (λ x. kind) new.volumes
IsCarriedOut sure old (VolDestroy name) new = IsGone sure old.volumes old.pool name new.volumes new.pool
IsCarriedOut sure old command new = Unit {0}

-- A command on the volume of a name as a whole was answered. Out of range it is refused as that, and without its volume for want of it. A volume that
-- is there is told, which changes nothing, and removed, or refused as in use exactly where a clone stands on it. What tells of no volume is done or refused. What the session has beside its volumes and what
-- they share stays.
pub record IsManaged (sure : Type 0) (old : Session) (command : Command) (name : List ℕ) (new : Session) (reply : Reply) : Type 0 where
  pub far : has_range command ≡ false → reply ≡ Refused Range
  pub missing : has_range command ≡ true → NoneHasName old.volumes name → reply ≡ Refused NoVolume
  pub told : command ≡ VolStat name → (slot : ℕ) → slot < slot_count → HasName old.volumes slot name → IsTold old name reply
  pub removed : command ≡ VolDestroy name → (slot : ℕ) → slot < slot_count → HasName old.volumes slot name → is_stood_on old.volumes slot ≡ false → reply ≡ Done
  pub in_use : command ≡ VolDestroy name → (slot : ℕ) → slot < slot_count → HasName old.volumes slot name → is_stood_on old.volumes slot ≡ true → reply ≡ Refused VolumeInUse
  pub answered : command ≢ VolStat name → (reply ≡ Done) ⊎ IsTrue (is_refusal reply)
  pub done : reply ≡ Done → IsCarriedOut sure old command new
  pub stays : command ≡ VolStat name → new ≡ old
  pub rest : new ≡ record old { volumes = new.volumes; pool = new.pool }

-- ---- by the calls on volumes

-- the reply to a command that was done or refused
abbrev pub told_as : Result Unit Refusal → Reply
told_as (Ok done) = Done
told_as (Err r) = Refused r

-- The volumes answered, and their answer is the reply. What the session has beside volumes and pool stays.
pub record IsBy (Answers : Result Unit Refusal → Type 0) (old new : Session) (reply : Reply) : Type 0 where
  pub result : Result Unit Refusal
  pub reply_is : reply ≡ told_as result
  pub answers : Answers result
  pub rest : new ≡ record old { volumes = new.volumes; pool = new.pool }

-- A command that needs no disk is carried out by a call on the volumes; `vol stat` changes nothing. Each other one is refused as no command.
abbrev pub Manages : Session → Command → Session → Reply → Type 0
Manages old (VolResize name size) new reply =
    IsBy (λ r. (new.pool ≡ old.pool) × PromisesOne old.volumes old.pool.found.blocks (VolResize name size) name (λ x. size) (λ x. x.kind) new.volumes r) old new reply
Manages old (VolGuarantee name kind) new reply =
    IsBy (λ r. (new.pool ≡ old.pool) × PromisesOne old.volumes old.pool.found.blocks (VolGuarantee name kind) name (λ x. x.size) (λ x. kind) new.volumes r) old new reply
Manages old (VolStat name) new reply = (new ≡ old) × ((NoneHasName old.volumes name × (reply ≡ Refused NoVolume)) ⊎ IsTold old name reply)
Manages old command new reply = (new ≡ old) × (reply ≡ Refused Syntax)
