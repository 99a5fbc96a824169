-- Which of a host's counts of faults rose.
use Rattle.std.specs.Prelude.{◌≡◌, ℕ, nat_eq, Option, Some, None, if◌then◌else◌}
use Rattle.fv_disk.specs.Shown.{Shown, Rose}

-- the counts: of failed takes, of failed gives, and of failed calls of the disk
pub data Count : Type 0 where
  Source : Count
  Sink : Count
  Disk : Count

-- a count rose where it is the one that was raised, and stays otherwise
abbrev pub RisesFor : Count → Option Count → ℕ → ℕ → Type 0
RisesFor Source (Some Source) before now = Rose before now
RisesFor Sink (Some Sink) before now = Rose before now
RisesFor Disk (Some Disk) before now = Rose before now
RisesFor count raised before now = now ≡ before

-- What is told stays, and one of the counts was raised, or none.
pub record Counts (old new : Shown) (raised : Option Count) : Type 0 where
  pub tells : new.tells ≡ old.tells
  pub source : RisesFor Source raised old.ends.source_faults new.ends.source_faults
  pub sink : RisesFor Sink raised old.ends.sink_faults new.ends.sink_faults
  pub disk : RisesFor Disk raised old.faults new.faults

-- the count that a program's status tells of
abbrev pub told_by : ℕ → Option Count
told_by status = if nat_eq status 3 then Some Source else if nat_eq status 4 then Some Sink else if nat_eq status 5 then Some Disk else None
