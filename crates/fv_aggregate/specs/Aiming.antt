-- At which volume a command is aimed, and what it asks of that volume.
use Rattle.std.specs.Prelude.{◌≡◌, ◌≢◌, ◌<◌, ◌⊎◌, ℕ, Bool, List, None, Some, Result, Ok, Err, false, true}
use Rattle.fv_model.specs.declared.answers.Refusal.{Refusal}
use Rattle.fv_model.specs.declared.answers.Refusal.TheVariants.{NoVolume, Range, Syntax}
use Rattle.fv_model.specs.declared.commands.Command.{Command}
use Rattle.fv_model.specs.declared.commands.Command.TheVariants.{Clean, Cp, SnapList, VolCreate, VolDestroy, VolGuarantee, VolList, VolResize, VolStat, CloneCreate, Mirror, Work}
use Rattle.fv_model.specs.declared.commands.Kind.{Kind}
use Rattle.fv_container.specs.Chains.{slot_count}
use Rattle.fv_volume.specs.Slots.{HasName, NoneHasName}
use Rattle.fv_volume.specs.States.{States}
use Rattle.fv_aggregate.specs.declared.aiming.Aim.{Aim}
use Rattle.fv_aggregate.specs.declared.aiming.Task.{Task}
use Rattle.fv_aggregate.specs.declared.aiming.Task.TheVariants as task
use Rattle.fv_aggregate.specs.Commands.{changed_by, has_range, snapped_by, volume_asked}

-- a command is on the volume of a name, and this is what it asks
abbrev pub Suits : Task → List ℕ → Command → Type 0
Suits task.Look name command = volume_asked command ≡ Some name
Suits task.Change name command = changed_by command ≡ Some name
Suits task.Snap name command = snapped_by command ≡ Some name

-- a command is on the volume of a slot, which is the first of its name, with its number in its range; and this is what it asks
pub record IsAimed (states : States) (slot : ℕ) (task : Task) (command : Command) : Type 0 where
  pub within : slot < slot_count
  pub name : List ℕ
  pub named : HasName states slot name
  pub near : has_range command ≡ true
  pub suits : Suits task name command

-- a command that is built is on no volume by its files or snapshots
pub record IsAimless (command : Command) : Type 0 where
  pub asks : volume_asked command ≡ None
  pub changes : changed_by command ≡ None
  pub snaps : snapped_by command ≡ None

-- why a command of this name isn't aimed: its number is out of its range, or else no volume has the name
pub record IsMissed (states : States) (command : Command) (r : Refusal) : Type 0 where
  pub task : Task
  pub name : List ℕ
  pub suits : Suits task name command
  pub why : ((r ≡ Range) × (has_range command ≡ false)) ⊎ ((r ≡ NoVolume) × ((has_range command ≡ true) × NoneHasName states name))

-- The volume at which a command is aimed is found, or the command is refused: out of range, without its volume, and one that is on none
-- as no command.
abbrev pub Aims : States → Command → Result Aim Refusal → Type 0
Aims states command (Ok aim) = IsAimed states aim.slot aim.task command
Aims states command (Err r) = ((r ≡ Syntax) × IsAimless command) ⊎ IsMissed states command r

-- the same of the volume of a name, by whether the command's number is in its range
abbrev pub AimsAt : States → List ℕ → Bool → Task → Result Aim Refusal → Type 0
AimsAt states name near task (Ok aim) = (near ≡ true) × ((aim.task ≡ task) × ((aim.slot < slot_count) × HasName states aim.slot name))
AimsAt states name near task (Err r) = ((r ≡ Range) × (near ≡ false)) ⊎ ((r ≡ NoVolume) × ((near ≡ true) × NoneHasName states name))

-- what is left for the commands on volumes that are there: it makes none, takes no background steps, and is no point
pub record IsOnVolumes (command : Command) : Type 0 where
  pub not_create : (name : List ℕ) (size : ℕ) (kind : Kind) → command ≢ VolCreate name size kind
  pub not_clone : (clone parent snapshot : List ℕ) (size : ℕ) (kind : Kind) → command ≢ CloneCreate clone parent snapshot size kind
  pub not_mirror : (source snapshot mirror : List ℕ) (size : ℕ) (kind : Kind) → command ≢ Mirror source snapshot mirror size kind
  pub not_clean : (name : List ℕ) → command ≢ Clean name
  pub not_work : (steps : ℕ) → command ≢ Work steps
  pub not_point : command ≢ Cp

-- what is left of these for the commands at volumes: it is none of those that a session carries out by all volumes, or by one as a whole
pub record IsServed (command : Command) : Type 0 where
  pub there : IsOnVolumes command
  pub not_destroy : (name : List ℕ) → command ≢ VolDestroy name
  pub not_resize : (name : List ℕ) (size : ℕ) → command ≢ VolResize name size
  pub not_guarantee : (name : List ℕ) (kind : Kind) → command ≢ VolGuarantee name kind
  pub not_list : command ≢ VolList
  pub not_stat : (name : List ℕ) → command ≢ VolStat name
  pub not_names : (name : List ℕ) → command ≢ SnapList name
