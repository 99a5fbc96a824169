-- The size of a volume is a bound on its use.
use Rattle.std.specs.Prelude.{◌≡◌, ◌≤◌, ℕ, List, Some}
use Rattle.std.specs.FinMap as fin
use Rattle.fv_model.specs.Volumes.{Volume}
use Rattle.fv_model.specs.Machines.{Machine}
use Rattle.fv_model.specs.Space.{use_of}

-- no volume uses more than its size
pub record IsWithin (m : Machine) : Type 0 where
  pub volumes : (name : List ℕ) (v : Volume) → fin.get m.volumes name ≡ Some v → use_of v ≤ v.size
