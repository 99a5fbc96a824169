-- Writes and barriers that keep to some blocks.
use Rattle.std.specs.Prelude.{◌≡◌, ℕ, Result, IsTrue}
use Rattle.fv_disk.specs.declared.Failed.{Failed}
use Rattle.fv_disk.specs.Shown.{Image, Shown}
use Rattle.fv_disk.specs.DiskCalls.{Counted}
use Rattle.fv_disk.specs.Crash.{Leaves}

-- the images agree on each spared block
abbrev pub AgreeOn : (ℕ → Type 0) → Image → Image → Type 0
AgreeOn spared before c = (b : ℕ) → spared b → c b ≡ before b

-- an image that a crash before might have left, but for blocks that aren't spared
abbrev pub LeftBefore : (ℕ → Type 0) → Shown → Image → Type 0
LeftBefore spared old c = (before : Image) × old.images before × AgreeOn spared before c

-- No spared block is written, whatever the outcome: none differs in what reads give, in what a crash now
-- may leave, and in what one at any moment meanwhile might have left.
pub record Spares (spared : ℕ → Type 0) (old new : Shown) (result : Result Unit Failed) : Type 0 where
  pub counted : Counted old new result
  pub reads : IsTrue old.tells → AgreeOn spared old.reads new.reads
  pub images : (c : Image) → new.images c → LeftBefore spared old c
  pub any_moment : Leaves old new (λ c g. LeftBefore spared old c × (g ≡ old.given))
