-- The letters that tell what holds a block.
use Rattle.std.specs.Prelude.{ℕ, Bool, if◌then◌else◌, ◌==◌, nat_le, ◌&&◌}

-- The letter of an entry by its kind: d for data, f for a node of a file, i for an inode block, n for a node of the inode file, m for a
-- block of a map; and x for each entry that is delayed.
abbrev pub letter_of : ℕ → Bool → ℕ
letter_of kind held = if held then
    (if kind == 1 then 100 else if nat_le 2 kind && nat_le kind 4 then 102 else if kind == 5 then 105 else if nat_le 6 kind && nat_le kind 7 then 110 else 109)
    else 120
