-- Whether a base is of a parent, and of a snapshot of it where one is named.
use Rattle.std.specs.Prelude.{Bool, false, cond, List, ℕ, Option, Some, None}
use Rattle.fv_model.specs.Spelling.{is_same_name}
use Rattle.fv_model.specs.Volumes.{Base}

abbrev pub stands_on : Base → List ℕ → Option (List ℕ) → Bool
stands_on b parent None = is_same_name b.parent parent
stands_on b parent (Some snapshot) = cond (is_same_name b.parent parent) (is_same_name b.snapshot snapshot) false
