-- What giving out bytes does.
use Rattle.std.specs.Prelude.{ℕ, List, Result, Ok, Err}
use Rattle.fv_disk.specs.declared.Failed.{Failed}
use Rattle.fv_disk.specs.Shown.{Shown}
use Rattle.fv_disk.specs.HostCalls.{GivesAll}
use Rattle.fv_disk.specs.Crash.{Leaves}
use Rattle.fv_disk.specs.Partly.{PartlyGiven}

-- All bytes are given, or a prefix of them, and never the whole, where the sink failed. A crash meanwhile leaves an image of before, with a
-- prefix given.
pub record Tells (old : Shown) (bytes : List ℕ) (new : Shown) (result : Result Unit Failed) : Type 0 where
  pub gives : GivesAll old bytes new result
  pub any_moment : Leaves old new (PartlyGiven old bytes)

-- whether a call was done, whatever its caller names a fault
abbrev pub unnamed : {E : Type 0} → Result Unit E → Result Unit Failed
unnamed (Ok done) = Ok done
unnamed (Err fault) = Err (record {})
