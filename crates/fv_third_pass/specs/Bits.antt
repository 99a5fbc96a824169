-- The lines of blocks that are held twice, and of bits that aren't as they have to be.
use Rattle.std.specs.Prelude.{ℕ, ◌*◌, ◌%◌, Bool, List, flat_map, nat_le, Option, None, Some}
use Rattle.std.specs.List.{range_with_len}
use Rattle.fv_bits.specs.Bits.{bit_of_bytes, block_bits}
use Rattle.fv_bits.specs.Members.{is_member}
use Rattle.fv_disk.specs.Shown.{Image}
use Rattle.fv_image.specs.NewerRoot.{Taken}
use Rattle.fv_image.specs.Layout.{area_place}
use Rattle.fv_faults.specs.declared.fault.Fault.{Fault}
use Rattle.fv_faults.specs.Lines.{line, unless}
use Rattle.fv_faults.specs.ThirdPass.{bit_lines}
use Rattle.fv_third_pass.specs.declared.holders.Holders.{Holders}
use Rattle.fv_third_pass.specs.Tallied.{holds}

-- rule 7 of one block
abbrev pub twice_lines : Holders → ℕ → List Fault
twice_lines h b = unless (nat_le (holds h b) 1) (line 7 b 1 (holds h b))

-- of the first so many blocks
unfoldable pub twice_to : Holders → ℕ → List Fault
twice_to h n = flat_map (twice_lines h) (range_with_len 0 n)

-- The block of which the line of a bit is said: where none is given, bit b stands for block b.
abbrev pub said_of : Option ℕ → ℕ → ℕ
said_of None b = b
said_of (Some at) b = at

-- The line of a rule for a bit of a map whose block that is, by the set of those that have to be set.
abbrev pub differs : ℕ → Option ℕ → List Bool → List ℕ → ℕ → List Fault
differs rule at wanted block b = bit_lines rule (said_of at b) (is_member wanted b) (bit_of_bytes block (b % block_bits))

-- the lines of block k of a map
unfoldable pub differing : ℕ → Option ℕ → List Bool → ℕ → List ℕ → List Fault
differing rule at wanted k block = flat_map (differs rule at wanted block) (range_with_len (block_bits * k) block_bits)

-- of the first so many blocks of the aggregate map
unfoldable pub area_to : Taken → Image → List Bool → ℕ → List Fault
area_to t i held n = flat_map (λ k. differing 8 None held k (i (area_place t.blocks t.slot k))) (range_with_len 0 n)
