-- The first pointer of a list, from an index on, that leads to a block whose place isn't known.
use Rattle.std.specs.Prelude.{◌≡◌, ◌≤◌, ◌<◌, ℕ, true, false, List, length, Option, Some, None, get_or}
use Rattle.fv_codec.specs.declared.pointer.Pointer.{Pointer}
use Rattle.fv_tables.specs.Spelled.{hole}
use Rattle.fv_image.specs.HintRules.{is_unknown}

-- no pointer from an index on, up to another, is unknown
abbrev pub NoneUnknown : List Pointer → ℕ → ℕ → Type 0
NoneUnknown ps from end = (i : ℕ) → from ≤ i → i < end → is_unknown (get_or ps i hole) ≡ false

-- an index and its pointer
pub record IsFirstAt (ps : List Pointer) (from : ℕ) (f : ℕ × Pointer) : Type 0 where
  pub past : from ≤ f.0
  pub within : f.0 < length ps
  pub stands : get_or ps f.0 hole ≡ f.1
  pub unknown : is_unknown f.1 ≡ true
  pub first : NoneUnknown ps from f.0

abbrev pub IsFirst : List Pointer → ℕ → Option (ℕ × Pointer) → Type 0
IsFirst ps from None = NoneUnknown ps from (length ps)
IsFirst ps from (Some f) = IsFirstAt ps from f
