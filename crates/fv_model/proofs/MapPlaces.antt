-- The slot and the number of a block of a map, by its VVBN behind the span.
use Rattle.std.proofs.Common.{ℕ, ◌-◌, ◌*◌, ◌<◌, ◌≤◌, arith}
use Rattle.std.proofs.Math.Nat.{div-lt_iff_lt-mul}
use Rattle.std.proofs.lemmas.Nat.{mod_below}
use Rattle.fv_model.specs.Space.{entries_by, map_blocks, map_index, map_slot}

-- a VVBN behind the span and below the number of entries is one of a map, so a map has a block
pub some_blocks : (span v : ℕ) → span ≤ v → v < entries_by 1 span → 0 < map_blocks span
some_blocks span v past inside = omega (arith, past, inside)

pub slot_within : (span v : ℕ) → span ≤ v → v < entries_by 1 span → map_slot span v < 25
slot_within span v past inside =
    let near : v - span < 25 * map_blocks span = omega (arith, past, inside) in
    (div-lt_iff_lt-mul {k = map_blocks span} {x = v - span} {y = 25} (some_blocks span v past inside)).1 near

pub index_within : (span v : ℕ) → span ≤ v → v < entries_by 1 span → map_index span v < map_blocks span
index_within span v past inside = mod_below (v - span) (map_blocks span) (some_blocks span v past inside)
