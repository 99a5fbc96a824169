-- Rows of which most elements have one value.
use Rattle.std.specs.Prelude.{◌≡◌, ◌<◌, ◌≤◌, ℕ, Bool, true, List, get_or}

-- a row has one value under each number from one on up to an end, by a test of two values
abbrev pub IsAll : {T : Type 0} → (T → T → Bool) → List T → T → ℕ → ℕ → Type 0
IsAll eq row value from end = (k : ℕ) → from ≤ k → k < end → eq (get_or row k value) value ≡ true
