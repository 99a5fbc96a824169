-- How many numbers a volume's maps are charged for.
use Rattle.std.specs.Prelude.{ℕ, ◌+◌, ◌*◌, Bool, not, ◌&&◌, List, length, count_by, Option, Some, None}
use Rattle.std.specs.List.{range_with_len}
use Rattle.fv_bits.specs.Members.{is_member, count_of}
use Rattle.fv_model.specs.Space.{map_blocks}

-- a number is held and isn't in the map of the base
abbrev pub is_apart : List Bool → List Bool → ℕ → Bool
is_apart held base v = is_member held v && not (is_member base v)

-- how many such numbers there are
unfoldable pub count_apart : List Bool → List Bool → ℕ
count_apart held base = count_by (is_apart held base) (range_with_len 0 (length held))

-- all that are held, where there is no base, or none that counts
abbrev pub count_held : List Bool → Option (List Bool) → ℕ
count_held held None = count_of held
count_held held (Some base) = count_apart held base

-- and a map for each snapshot
abbrev pub charge_counted : List Bool → Option (List Bool) → ℕ → ℕ → ℕ
charge_counted held base snapshots span = count_held held base + map_blocks span * snapshots
