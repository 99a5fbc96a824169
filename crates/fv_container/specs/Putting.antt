-- Entries that are put into leaves in memory, and bits of a region.
use Rattle.std.specs.Prelude.{◌≡◌, ◌≢◌, ◌<◌, ◌≤◌, ◌+◌, ◌⊎◌, ℕ, Bool, false, not, ◌==◌, List, length, get_or, Option, None, Some}
use Rattle.std.specs.Global.{Box}
use Rattle.fv_codec.specs.declared.container.ContainerLeaf.{ContainerLeaf}
use Rattle.fv_container.specs.Paged.{Leaves, leaf_here, pair_at}

-- one entry of a leaf is set, where the leaf is in memory
abbrev pub IsSetTo : ℕ → ℕ × ℕ → Option (Box ContainerLeaf) → Option (Box ContainerLeaf) → Type 0
IsSetTo c pair None new = new ≡ None
IsSetTo c pair (Some old) None = ⊥
IsSetTo c pair (Some old) (Some new) = (pair_at new.value c ≡ pair) × ((d : ℕ) → d ≢ c → pair_at new.value d ≡ pair_at old.value d)

pub record PutsIn (region c : ℕ) (pair : ℕ × ℕ) (old new : Leaves) : Type 0 where
  pub set : IsSetTo c pair (leaf_here old region) (leaf_here new region)
  pub others : (k : ℕ) → k ≢ region → leaf_here new k ≡ leaf_here old k

-- the bits of a leaf are in a row from a number on: set where its entry isn't a hole
pub record LearnsIn (from : ℕ) (leaf : ContainerLeaf) (old new : List Bool) : Type 0 where
  pub long : length new ≡ length old
  pub here : (c : ℕ) → c < 256 → from + c < length old → get_or new (from + c) false ≡ not (get_or leaf.kinds c 0 == 0)
  pub others : (v : ℕ) → (v < from) ⊎ (from + 256 ≤ v) → get_or new v false ≡ get_or old v false
