-- What the calls of a disk do.
use Rattle.std.specs.Prelude.{◌≡◌, ◌≤◌, ℕ, List, IsTrue, IsErr, Result, OnOk}
use Rattle.fv_disk.specs.declared.Failed.{Failed}
use Rattle.fv_disk.specs.Shown.{Image, IsBlock, SameBut, Shown, IsSettled, Elapses, HasCause}

-- The content, the images of a crash and what is told stay.
pub record Stays (old new : Shown) : Type 0 where
  pub tells : new.tells ≡ old.tells
  pub reads : new.reads ≡ old.reads
  pub no_more : (c : Image) → new.images c → old.images c
  pub no_fewer : (c : Image) → old.images c → new.images c

-- A read gives the block and changes nothing.
pub record Reads (old : Shown) (at : ℕ) (new : Shown) (block : List ℕ) (result : Result Unit Failed) : Type 0 where
  pub gives : IsTrue old.tells → OnOk result (block ≡ old.reads at)
  pub stays : Stays old new
  pub time : Elapses old new
  pub given : new.given ≡ old.given
  pub ends : new.ends ≡ old.ends
  pub cause : HasCause old.faults new.faults result
  pub write_faults : new.write_faults ≡ old.write_faults

-- A write, also one that failed, lets a crash leave any block there, and changes no other block.
pub record Writes (old : Shown) (at : ℕ) (block : List ℕ) (new : Shown) (result : Result Unit Failed) : Type 0 where
  pub tells : new.tells ≡ old.tells
  pub written : IsTrue old.tells → OnOk result (new.reads at ≡ block)
  pub others : IsTrue old.tells → SameBut at old.reads new.reads
  pub no_more : (c : Image) → new.images c → (before : Image) × old.images before × SameBut at before c
  pub no_fewer : (before c : Image) → old.images before → SameBut at before c → IsBlock (c at) → new.images c
  pub time : Elapses old new
  pub given : new.given ≡ old.given
  pub ends : new.ends ≡ old.ends
  pub cause : HasCause old.faults new.faults result
  pub write_cause : HasCause old.write_faults new.write_faults result

-- A barrier that succeeds makes what reads give the only image. One that failed changes no image.
pub record Settles (old new : Shown) (result : Result Unit Failed) : Type 0 where
  pub tells : new.tells ≡ old.tells
  pub reads : new.reads ≡ old.reads
  pub durable : IsTrue old.tells → OnOk result (IsSettled new)
  pub no_more : (c : Image) → new.images c → old.images c
  pub no_fewer : IsErr result → (c : Image) → old.images c → new.images c
  pub time : Elapses old new
  pub given : new.given ≡ old.given
  pub ends : new.ends ≡ old.ends
  pub cause : HasCause old.faults new.faults result
  pub write_cause : HasCause old.write_faults new.write_faults result

-- Blocks were read, and nothing changed but the time and the count of faults.
pub record OnlyReads (old new : Shown) : Type 0 where
  pub stays : Stays old new
  pub time : Elapses old new
  pub given : new.given ≡ old.given
  pub ends : new.ends ≡ old.ends
  pub faults : old.faults ≤ new.faults
  pub write_faults : new.write_faults ≡ old.write_faults

-- Of one or more writes and barriers: what is told and given and the ends of a host stay, and the counts of faults tell whether
-- the calls were done.
pub record Counted (old new : Shown) (result : Result Unit Failed) : Type 0 where
  pub tells : new.tells ≡ old.tells
  pub given : new.given ≡ old.given
  pub ends : new.ends ≡ old.ends
  pub cause : HasCause old.faults new.faults result
  pub write_cause : HasCause old.write_faults new.write_faults result
