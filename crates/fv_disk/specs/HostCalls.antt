-- What the calls of a host do.
use Rattle.std.specs.Prelude.{◌≡◌, ◌<◌, ◌≤◌, ℕ, List, [], ◌++◌, length, take, IsTrue, Result, Ok, IfOk, OnOk, OnErr}
use Rattle.fv_disk.specs.declared.Failed.{Failed}
use Rattle.fv_disk.specs.Shown.{Shown, Elapses, HasCause}
use Rattle.fv_disk.specs.DiskCalls.{Stays}

-- The disk and its counts are as before.
pub record Rests (old new : Shown) : Type 0 where
  pub stays : Stays old new
  pub faults : new.faults ≡ old.faults
  pub write_faults : new.write_faults ≡ old.write_faults

-- A take moves bytes from the front of the source, and none where it failed.
pub record Takes (old : Shown) (into : List ℕ) (new : Shown) (result : Result ℕ Failed) : Type 0 where
  pub count : IfOk result (λ n. n ≤ length into)
  pub bytes : IsTrue old.tells → IfOk result (λ n. old.ends.left ≡ take n into ++ new.ends.left)
  -- 0 comes exactly where none is left: that none is left then is said here, the rest by the line above
  pub end : IsTrue old.tells → result ≡ Ok 0 → old.ends.left ≡ []
  pub none : IsTrue old.tells → OnErr result (new.ends.left ≡ old.ends.left)
  pub rests : Rests old new
  pub time : Elapses old new
  pub given : new.given ≡ old.given
  pub cause : HasCause old.ends.source_faults new.ends.source_faults result
  pub sink_faults : new.ends.sink_faults ≡ old.ends.sink_faults

-- A give adds a prefix that isn't empty to what was given out, and nothing where it failed.
pub record Gives (old : Shown) (bytes : List ℕ) (new : Shown) (result : Result ℕ Failed) : Type 0 where
  pub some : IfOk result (λ n. (0 < n) × (n ≤ length bytes))
  pub added : IsTrue old.tells → IfOk result (λ n. new.given ≡ old.given ++ take n bytes)
  pub none : IsTrue old.tells → OnErr result (new.given ≡ old.given)
  pub rests : Rests old new
  pub time : Elapses old new
  pub left : new.ends.left ≡ old.ends.left
  pub source_faults : new.ends.source_faults ≡ old.ends.source_faults
  pub cause : HasCause old.ends.sink_faults new.ends.sink_faults result

-- All bytes are given, or a part of them where the sink failed: a prefix, and never the whole.
pub record GivesAll (old : Shown) (bytes : List ℕ) (new : Shown) (result : Result Unit Failed) : Type 0 where
  pub all : IsTrue old.tells → OnOk result (new.given ≡ old.given ++ bytes)
  pub part : IsTrue old.tells → OnErr result ((k : ℕ) × (k < length bytes) × (new.given ≡ old.given ++ take k bytes))
  pub rests : Rests old new
  pub left : new.ends.left ≡ old.ends.left
  pub source_faults : new.ends.source_faults ≡ old.ends.source_faults
  pub cause : HasCause old.ends.sink_faults new.ends.sink_faults result
