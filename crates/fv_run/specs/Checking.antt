-- Checking an aggregate, and telling of it.
use Rattle.std.specs.Prelude.{◌≡◌, ◌≢◌, ◌⊎◌, ◌<◌, ℕ, List, [], ◌++◌, length, take, Some, IsTrue, Result, Ok, Err, IfErr, OnOk}
use Rattle.std.specs.FinMap as fin
use Rattle.fv_disk.specs.Shown.{Image, Shown}
use Rattle.fv_disk.specs.DiskCalls.{Stays}
use Rattle.fv_disk.specs.Crash.{Leaves}
use Rattle.fv_model.specs.Machines.{Machine}
use Rattle.fv_image.specs.WholeMachine.{machine_of}
use Rattle.fv_root.specs.Finding.{IsNoAggregate}
use Rattle.fv_faults.specs.Faults.{faults}
use Rattle.fv_first_pass.specs.Verdicts.{IsValid, charges}
use Rattle.fv_script.specs.Telling.{Tells, unnamed}
use Rattle.fv_lines.specs.Counts.{Counts}
use Rattle.fv_run.specs.declared.ending.Fault.{Fault}
use Rattle.fv_run.specs.declared.ending.Fault.TheVariants.{Unsound, NotAggregate, Sink, Disk, Memory}
use Rattle.fv_run.specs.CheckTexts.{faults_text, valid_text}
use Rattle.fv_run.specs.Endings.{EndsWith, IsWholeFault, raised_by}

-- ---- what is said of an image

-- An image is sound, and this line says so, with the number of its volumes and the sum of what they are charged.
pub record IsLineOf (i : Image) (text : List ℕ) : Type 0 where
  pub volumes : ℕ
  pub charged : ℕ
  pub valid : IsValid i volumes charged
  pub line : text ≡ valid_text volumes charged

-- An image has a superblock and an open gate and isn't sound, and these are all its fault lines, in their order.
pub record AreLinesOf (i : Image) (text : List ℕ) : Type 0 where
  pub gates : IsNoAggregate i → ⊥
  pub some : faults i ≢ []
  pub unsound : (volumes charged : ℕ) → IsValid i volumes charged → ⊥
  pub lines : text ≡ faults_text (faults i)

-- the whole text of an image with a superblock and an open gate
abbrev pub IsTextOf : Image → List ℕ → Type 0
IsTextOf i text = IsLineOf i text ⊎ AreLinesOf i text

-- ---- how it ends

-- a whole text was given
abbrev pub HasGiven : (Image → List ℕ → Type 0) → Shown → Shown → Type 0
HasGiven Is old new = (text : List ℕ) × Is old.reads text × (new.given ≡ old.given ++ text)

-- a first part of the text was given, and never all of it
abbrev pub HasGivenPart : Shown → Shown → Type 0
HasGivenPart old new = (text : List ℕ) × IsTextOf old.reads text × ((k : ℕ) × (k < length text) × (new.given ≡ old.given ++ take k text))

-- What was given, and of which images, by the status: 0, 1, 2, 4, 5 or 6. The images of 0, 1 and 2 have nothing in common.
abbrev pub HasSaid : Shown → Shown → Result Unit Fault → Type 0
-- 0
HasSaid old new (Ok done) = HasGiven IsLineOf old new
-- 1
HasSaid old new (Err Unsound) = HasGiven AreLinesOf old new
-- 2
HasSaid old new (Err NotAggregate) = IsNoAggregate old.reads × (new.given ≡ old.given)
-- 4
HasSaid old new (Err Sink) = HasGivenPart old new
-- 5
HasSaid old new (Err Disk) = new.given ≡ old.given
-- 6
HasSaid old new (Err Memory) = new.given ≡ old.given
HasSaid old new (Err fault) = ⊥

-- a fault that a check ends with
abbrev pub IsCheckEnd : Fault → Type 0
IsCheckEnd Unsound = Unit {0}
IsCheckEnd NotAggregate = Unit {0}
IsCheckEnd Sink = Unit {0}
IsCheckEnd Disk = Unit {0}
IsCheckEnd Memory = Unit {0}
IsCheckEnd fault = ⊥

-- an image of before
abbrev pub IsOfBefore : Shown → Image → List ℕ → Type 0
IsOfBefore old c g = old.images c

-- The aggregate of a disk is checked, and told of. Nothing is written.
pub record IsChecked (old new : Shown) (result : Result Unit Fault) : Type 0 where
  pub says : IsTrue old.tells → HasSaid old new result
  -- Over the image of a machine the line tells of it, and the other ends are those that any image may have.
  pub valid : IsTrue old.tells → (m : Machine) → machine_of old.reads ≡ Some m → OnOk result (new.given ≡ old.given ++ valid_text (fin.len m.volumes) (charges m))
  pub whole : IsTrue old.tells → (m : Machine) → machine_of old.reads ≡ Some m → IfErr result IsWholeFault
  -- over any host
  pub only : IfErr result IsCheckEnd
  pub stays : Stays old new
  pub crash : Leaves old new (IsOfBefore old)
  pub counts : Counts old new (raised_by result)
  pub write_faults : new.write_faults ≡ old.write_faults
  -- nothing is asked of the source
  pub left : new.ends.left ≡ old.ends.left

-- checking an aggregate, with the status that tells how it ended
abbrev pub IsCheck : Shown → Shown → ℕ → Type 0
IsCheck old new status = EndsWith (IsChecked old new) status

-- ---- within

-- a text is given, or a part of it, and never all, where the sink failed
pub record TellsText (old : Shown) (text : List ℕ) (new : Shown) (result : Result Unit Fault) : Type 0 where
  pub tells : Tells old text new (unnamed result)
  pub sink : IfErr result (λ fault. fault ≡ Sink)
