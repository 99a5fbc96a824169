-- The first step of a command on snapshots in a session: whether it is refused before room is made for it, and what it is granted.
use Rattle.std.specs.Prelude.{◌≡◌, ℕ, Option, Some, None, Result, Ok, IfOk}
use Rattle.fv_model.specs.declared.answers.Refusal.{Refusal}
use Rattle.fv_model.specs.declared.commands.Command.{Command}
use Rattle.fv_model.specs.declared.commands.Command.TheVariants.{SnapCreate}
use Rattle.fv_model.specs.Space.{map_blocks}
use Rattle.fv_volume.specs.declared.state.VolumeState.{VolumeState}
use Rattle.fv_snapshot.specs.declared.creating.Granted.{Granted}
use Rattle.fv_snapshot.specs.Creating.{JudgesCreation, IsGranted, creation_refusal}
use Rattle.fv_snapshot.specs.Granting.{slot_granted}
use Rattle.fv_aggregate.specs.Commands.{map_at}

-- what is granted to a command that makes no snapshot
abbrev pub nothing : Granted
nothing = record { slot = 0; room = 0 }

-- the room of a command on the volume of a slot: the blocks of the map of a snapshot that is made, and none of each other command
abbrev pub snap_blocks : Option VolumeState → Command → ℕ
snap_blocks o (SnapCreate volume snapshot) = map_at o
snap_blocks o command = 0

-- the snapshot that a command makes of the volume of a slot isn't refused; nothing is said of each other command
abbrev pub IsAccepted : Option VolumeState → ℕ → ℕ → Command → Type 0
IsAccepted None blocks others command = ⊥
IsAccepted (Some x) blocks others (SnapCreate volume snapshot) = creation_refusal x.snapshots x.ledger blocks others snapshot ≡ None
IsAccepted (Some x) blocks others command = Unit {0}

-- it has the slot that it was granted
abbrev pub HasSlot : Option VolumeState → Command → ℕ → Type 0
HasSlot None command slot = ⊥
HasSlot (Some x) (SnapCreate volume snapshot) slot = IsGranted x snapshot slot
HasSlot (Some x) command slot = Unit {0}

-- A command was granted this: it isn't refused, and has this room and this slot.
pub record HasGrant (o : Option VolumeState) (blocks others : ℕ) (command : Command) (granted : Granted) : Type 0 where
  pub room : granted.room ≡ snap_blocks o command
  pub accepted : IsAccepted o blocks others command
  pub slot : HasSlot o command granted.slot

-- A snapshot that is made is judged, with the room of its map; to each other command nothing is granted.
abbrev pub JudgesSnap : VolumeState → ℕ → ℕ → Command → Result Granted Refusal → Type 0
JudgesSnap x blocks others (SnapCreate volume snapshot) result =
    JudgesCreation x blocks others snapshot (slot_granted result) × IfOk result (λ granted. granted.room ≡ map_blocks x.span)
JudgesSnap x blocks others command result = result ≡ Ok nothing
