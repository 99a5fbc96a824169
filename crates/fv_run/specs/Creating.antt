-- What the program does to make a new aggregate.
use Rattle.std.specs.Prelude.{◌≡◌, ◌⊎◌, ◌<◌, ℕ, List, [], ◌∷◌, ◌++◌, take, length, codes, decimal, Some, IsTrue, Result, IfErr, OnOk}
use Rattle.fv_disk.specs.Shown.{Image, Shown, IsSettled}
use Rattle.fv_disk.specs.Crash.{Leaves}
use Rattle.fv_lines.specs.Counts.{Counts}
use Rattle.fv_disk.specs.Sparing.{LeftBefore}
use Rattle.fv_root.specs.Formatted.{AreClosed, IsNoGate, SameVolumes}
use Rattle.fv_model.specs.Machines.{capacity, empty_machine}
use Rattle.fv_image.specs.WholeMachine.{machine_of}
use Rattle.fv_run.specs.declared.ending.Fault.{Fault}
use Rattle.fv_run.specs.declared.ending.Fault.TheVariants.{Disk, Sink}
use Rattle.fv_run.specs.Endings.{EndsWith, raised_by}

-- the line that tells of a new aggregate
abbrev pub created_text : ℕ → List ℕ
created_text blocks = codes "created " ++ (decimal blocks ++ (codes " capacity " ++ (decimal (capacity blocks) ++ 10 ∷ [])))

-- The aggregate is on the disk as the machine without volumes, and the line that says so was given.
pub record HasCreated (blocks : ℕ) (old new : Shown) : Type 0 where
  pub settled : IsSettled new
  pub stands : machine_of new.reads ≡ Some (empty_machine blocks)
  pub given : new.given ≡ old.given ++ created_text blocks

-- nothing was given, or a crash leaves the new aggregate alone: so from the first byte of the line on
abbrev pub IsAcknowledged : ℕ → Shown → Image → List ℕ → Type 0
IsAcknowledged blocks old c g = (g ≡ old.given) ⊎ (machine_of c ≡ Some (empty_machine blocks))

-- a crash leaves all blocks but the gates as one before might have left them, or both gates closed, or the new aggregate
abbrev pub IsOldOrNew : ℕ → Shown → Image → List ℕ → Type 0
IsOldOrNew blocks old c g = LeftBefore IsNoGate old c ⊎ (AreClosed c ⊎ (machine_of c ≡ Some (empty_machine blocks)))

-- the disk failed, or the sink
abbrev pub IsCreationFault : Fault → Type 0
IsCreationFault Disk = Unit {0}
IsCreationFault Sink = Unit {0}
IsCreationFault fault = ⊥

-- what was given: nothing where the disk failed, and a part of the line, never all of it, where the sink did
abbrev pub GaveUpTo : ℕ → Shown → Shown → Fault → Type 0
GaveUpTo blocks old new Disk = new.given ≡ old.given
GaveUpTo blocks old new Sink = (k : ℕ) × (k < length (created_text blocks)) × (new.given ≡ old.given ++ take k (created_text blocks))
GaveUpTo blocks old new fault = ⊥

-- Making an aggregate over a host, whose content speaks only where the host tells it.
pub record Creates (blocks : ℕ) (old new : Shown) (result : Result Unit Fault) : Type 0 where
  pub created : IsTrue old.tells → OnOk result (HasCreated blocks old new)
  pub only : IfErr result IsCreationFault
  pub given : IsTrue old.tells → IfErr result (GaveUpTo blocks old new)
  pub acknowledged : IsTrue old.tells → Leaves old new (IsAcknowledged blocks old)
  pub any_moment : IsTrue old.tells → Leaves old new (IsOldOrNew blocks old)
  pub volumes : IsTrue old.tells → SameVolumes blocks old.reads new.reads
  pub counts : Counts old new (raised_by result)
  -- nothing is asked of the source
  pub left : new.ends.left ≡ old.ends.left

-- making an aggregate, with the status that tells how it ended
abbrev pub IsCreation : ℕ → Shown → Shown → ℕ → Type 0
IsCreation blocks old new status = EndsWith (Creates blocks old new) status
