-- A crash at any moment of a call, or of several.
use Rattle.std.specs.Prelude.{◌≤◌, ◌⊎◌, ℕ, List}
use Rattle.fv_disk.specs.Shown.{Image, Shown}

-- Whatever a crash at some moment since `old` might have left has P, together with the bytes given by then.
pub record Leaves (old new : Shown) (P : Image → List ℕ → Type 0) : Type 0 where
  pub later : old.moment ≤ new.moment
  pub each : (c : Image) (g : List ℕ) → new.since old.moment c g → P c g
  -- for a run that began earlier
  pub before : (t : ℕ) (c : Image) (g : List ℕ) → t ≤ old.moment → new.since t c g → old.since t c g ⊎ P c g
