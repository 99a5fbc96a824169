-- What one slot of a layout holds.
use Rattle.std.specs.Prelude.{ℕ, Bool, count_by, ◌==◌}
use Rattle.std.specs.List.{list_any}
use Rattle.fv_image.specs.Held.{Layout, held_by}

-- whether the volume of a slot holds a block
abbrev pub is_held_by : Layout → ℕ → ℕ → Bool
is_held_by y s b = list_any (λ x. x == b) (held_by y s)

-- how often it holds it
abbrev pub times_held : Layout → ℕ → ℕ → ℕ
times_held y s b = count_by (λ x. x == b) (held_by y s)
