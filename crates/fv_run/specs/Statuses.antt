-- What the program does, by what its words ask for.
use Rattle.std.specs.Prelude.{◌≡◌, ℕ, Option, Some, None, Result, Err}
use Rattle.fv_disk.specs.Shown.{Shown}
use Rattle.fv_lines.specs.Counts.{Counts}
use Rattle.fv_run.specs.declared.ending.Fault.{Fault}
use Rattle.fv_run.specs.declared.ending.Fault.TheVariants.{Usage}
use Rattle.fv_run.specs.declared.words.Order.{Order}
use Rattle.fv_run.specs.declared.words.Order.TheVariants.{Check, Create, Gen, Run}
use Rattle.fv_run.specs.Checking.{IsChecked}
use Rattle.fv_run.specs.Creating.{Creates}
use Rattle.fv_run.specs.Generating.{Generates, lines_drawn}
use Rattle.fv_run.specs.Running.{Ran}

-- the most bytes of a script
abbrev pub most_bytes : ℕ
most_bytes = 4294967296

-- What was asked is done, and nothing else than a fault of usage, with no count risen, comes of words that ask for nothing.
pub record Runs (asked : Option Order) (old new : Shown) (result : Result Unit Fault) : Type 0 where
  pub usage : asked ≡ None → (result ≡ Err Usage) × Counts old new None
  pub creates : (blocks : ℕ) → asked ≡ Some (Create blocks) → Creates blocks old new result
  pub runs : asked ≡ Some Run → Ran most_bytes old new result
  pub checks : asked ≡ Some Check → IsChecked old new result
  pub generates : (seed count : ℕ) → asked ≡ Some (Gen seed count) → Generates (lines_drawn seed count) old new result
