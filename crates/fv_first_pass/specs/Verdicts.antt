-- What a check answers, as a whole: the contract of `check` (`fv_check`), and the status of the word.
use Rattle.std.specs.Prelude.{◌≡◌, ◌≢◌, ℕ, [], sum_by, Some, IsTrue, Result, Ok, Err}
use Rattle.std.specs.FinMap as fin
use Rattle.fv_disk.specs.Shown.{Image, Shown}
use Rattle.fv_model.specs.Machines.{Machine}
use Rattle.fv_model.specs.Space.{charge}
use Rattle.fv_image.specs.NewerRoot.{Taken, root_of}
use Rattle.fv_image.specs.Held.{layout_at}
use Rattle.fv_image.specs.Volumes.{told}
use Rattle.fv_image.specs.Soundness.{IsSound}
use Rattle.fv_root.specs.Finding.{IsNoAggregate}
use Rattle.fv_faults.specs.Faults.{faults}
use Rattle.fv_first_pass.specs.declared.fault.CheckFault.{CheckFault}
use Rattle.fv_first_pass.specs.declared.fault.CheckFault.TheVariants.{DiskFault, NotAggregate, Memory}
use Rattle.fv_first_pass.specs.declared.verdict.Verdict.{Verdict}
use Rattle.fv_first_pass.specs.declared.verdict.Verdict.TheVariants.{Valid, Faults}
use Rattle.fv_first_pass.specs.Causes.{HasChecked}

-- ---- verdicts

-- what the volumes of a machine are charged together
abbrev pub charges : Machine → ℕ
charges m = sum_by (λ e. charge e.1) (fin.entries m.volumes)

-- An image is sound, and the machine that it tells of has so many volumes and so many charged blocks. The forms of its volumes don't matter.
pub record IsValid (i : Image) (n c : ℕ) : Type 0 where
  pub taken : Taken
  pub root : root_of i ≡ Some taken
  pub sound : IsSound (layout_at taken i)
  pub volumes : n ≡ fin.len (told (layout_at taken i).view).volumes
  pub charged : c ≡ charges (told (layout_at taken i).view)

-- what is said of an image with a superblock and an open gate
abbrev pub IsVerdict : Image → Verdict → Type 0
IsVerdict i (Valid n c) = IsValid i n c
IsVerdict i (Faults lines) = (lines.lines.keys ≡ faults i) × (faults i ≢ [])

-- ---- answers

-- an answer on an image, where no read failed
abbrev pub Says : Image → Result Verdict CheckFault → Type 0
Says i (Ok v) = (IsNoAggregate i → ⊥) × IsVerdict i v
Says i (Err NotAggregate) = IsNoAggregate i
Says i (Err DiskFault) = Unit {0}
Says i (Err Memory) = Unit {0}

-- The contract of `check`: it says what is so of what the disk reads, writes nothing, and answers a fault of the disk only where the count of
-- these rose.
pub record Checks (old new : Shown) (result : Result Verdict CheckFault) : Type 0 where
  pub says : IsTrue old.tells → Says old.reads result
  pub read : HasChecked old new result

-- the status of the word `check`, where the sink took the whole text
abbrev pub status_of : Result Verdict CheckFault → ℕ
status_of (Ok (Valid n c)) = 0
status_of (Ok (Faults lines)) = 1
status_of (Err NotAggregate) = 2
status_of (Err DiskFault) = 5
status_of (Err Memory) = 6
