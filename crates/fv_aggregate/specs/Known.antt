-- Which volumes have the numbers of their files in memory, so that a command finds a file without a walk over the others.
use Rattle.std.specs.Prelude.{◌≡◌, ◌<◌, ℕ, true, List, Option, Some, None}
use Rattle.std.specs.Option.{is_some}
use Rattle.fv_container.specs.Chains.{slot_count}
use Rattle.fv_model.specs.declared.commands.Command.{Command}
use Rattle.fv_volume.specs.declared.state.VolumeState.{VolumeState}
use Rattle.fv_volume.specs.Slots.{is_named, HasName}
use Rattle.fv_volume.specs.States.{States, state_at}
use Rattle.fv_aggregate.specs.Commands.{loses_numbers}

-- a slot has a volume, and the numbers of its files are in memory
abbrev pub KnowsNumbers : Option VolumeState → Type 0
KnowsNumbers None = ⊥
KnowsNumbers (Some x) = is_some x.numbers ≡ true

-- the volume of a name has the numbers of its files in memory now
abbrev pub KnowsNamed : States → List ℕ → States → Type 0
KnowsNamed old name new = (slot : ℕ) → slot < slot_count → HasName old slot name → KnowsNumbers (state_at new slot)

-- each volume that had the numbers of its files in memory has them still
abbrev pub KeepsNumbers : States → States → Type 0
KeepsNumbers old new = (s : ℕ) → KnowsNumbers (state_at old s) → KnowsNumbers (state_at new s)

-- so it is with each but those of some slots
abbrev pub KeepsNumbersBut : (ℕ → Type 0) → States → States → Type 0
KeepsNumbersBut lost old new = (s : ℕ) → KnowsNumbers (state_at old s) → (lost s → ⊥) → KnowsNumbers (state_at new s)

-- a command may lose the numbers of a slot's volume
abbrev pub MayLose : Command → States → ℕ → Type 0
MayLose command states s = (name : List ℕ) × ((loses_numbers command ≡ Some name) × (is_named (state_at states s) name ≡ true))
