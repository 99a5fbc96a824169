-- The counts that are kept beside a volume.
use Rattle.std.specs.Prelude.{◌≡◌, ◌<◌, ◌^◌, ℕ}
use Rattle.fv_model.specs.Volumes.{Volume}
use Rattle.fv_model.specs.Space.{charge, need}

-- they are its charge and its need, and small enough to be added up
pub record IsCounted (v : Volume) (used needs : ℕ) : Type 0 where
  pub charged : used ≡ charge v
  pub needed : needs ≡ need v
  pub little : used < 2 ^ 115
  pub few : needs < 2 ^ 127
