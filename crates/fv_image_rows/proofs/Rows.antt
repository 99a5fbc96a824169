-- Rows that the checker computes from the definitions alone: places worked out by hand, and two images as an independent
-- implementation of the format wrote them.
use Rattle.std.specs.Prelude.{◌≡◌, ◌++◌, ◌-◌, ◌^◌, ℕ, List, [], ◌∷◌, true, false, replicate, get_or, Some, None}
use Rattle.std.proofs.Common.{refl}
use Rattle.fv_disk.specs.Shown.{Image}
use Rattle.fv_bits.specs.Bits.{bit_of_area, bit_of_bytes, bit_of_number}
use Rattle.fv_codec.specs.Bytes.{word_at, word, zeros}
use Rattle.fv_codec.specs.Fields.{all_zero, each, items}
use Rattle.fv_codec.specs.Blocks.{super_at, gate_open, root_at, open_gate}
use Rattle.fv_image.specs.Layout.{gate_place, root_place, area_place}
use Rattle.fv_image.specs.NewerRoot.{Taken, root_of}
use Rattle.fv_image.specs.Maps.{map_bit}

-- ---- blocks and images

abbrev super_of : ℕ → List ℕ
super_of blocks = word 0x4656414747523031 ++ (word blocks ++ zeros 4080)

-- a root with a label in slot 0, or with none where its place is 0
abbrev root_with : ℕ → ℕ → List ℕ
root_with generation label = word 0x4656524f4f543030 ++ (word generation ++ (word 1 ++ (zeros 40 ++ (word label ++ zeros 4024))))

-- an image of so many blocks, and zeros behind them
abbrev image_of : List (List ℕ) → Image
image_of blocks b = get_or blocks b (zeros 4096)

-- the aggregate of 512 blocks as it was made
abbrev empty_512 : Image
empty_512 = image_of (super_of 512 ∷ open_gate ∷ zeros 4096 ∷ root_with 1 0 ∷ [])

-- an aggregate of 1024 blocks with two roots, of which the second has its gate open; blocks 7 to 10 are held in slot 0's map
abbrev two_roots : List ℕ → List ℕ → List ℕ → Image
two_roots first_gate first second = image_of (super_of 1024 ∷ first_gate ∷ open_gate ∷ first ∷ second ∷ (128 ∷ 7 ∷ zeros 4094) ∷ [])

-- the aggregate of one volume whose generation has just wrapped
abbrev wrapped : Image
wrapped = two_roots open_gate (root_with 0 10) (root_with (2 ^ 64 - 1) 0)

abbrev root_of_slot : ℕ → ℕ → ℕ → ℕ → Taken
root_of_slot blocks slot generation label = record {
  blocks = blocks;
  slot = slot;
  root = record { generation = generation; version = 1; labels = label ∷ replicate 63 0 };
}

-- ---- where the fixed blocks lie

second_gate : gate_place 1 ≡ 2
second_gate = refl

second_root : root_place 1 ≡ 4
second_root = refl

-- a map of 65536 blocks takes two blocks, one of 65537 three
second_area : area_place 65536 1 0 ≡ 7
second_area = refl

last_of_the_second_area : area_place 65537 1 2 ≡ 10
last_of_the_second_area = refl

-- ---- which root counts

one_gate_is_open : root_of empty_512 ≡ Some (root_of_slot 512 0 1 0)
unfolding root_of super_at gate_open open_gate root_at word_at word zeros all_zero each items
one_gate_is_open = refl

generation_wraps : root_of wrapped ≡ Some (root_of_slot 1024 0 0 10)
unfolding root_of super_at gate_open open_gate root_at word_at word zeros all_zero each items
generation_wraps = refl

generation_wraps_to_slot_1 : root_of (two_roots open_gate (root_with (2 ^ 64 - 1) 0) (root_with 0 10)) ≡ Some (root_of_slot 1024 1 0 10)
unfolding root_of super_at gate_open open_gate root_at word_at word zeros all_zero each items
generation_wraps_to_slot_1 = refl

other_gate_is_open : root_of (two_roots (zeros 4096) (root_with 0 10) (root_with (2 ^ 64 - 1) 0)) ≡ Some (root_of_slot 1024 1 (2 ^ 64 - 1) 0)
unfolding root_of super_at gate_open open_gate root_at word_at word zeros all_zero each items
other_gate_is_open = refl

second_follows : root_of (two_roots open_gate (root_with 0 10) (root_with 1 9)) ≡ Some (root_of_slot 1024 1 1 9)
unfolding root_of super_at gate_open open_gate root_at word_at word zeros all_zero each items
second_follows = refl

neither_follows : root_of (two_roots open_gate (root_with 0 10) (root_with 2 9)) ≡ Some (root_of_slot 1024 0 0 10)
unfolding root_of super_at gate_open open_gate root_at word_at word zeros all_zero each items
neither_follows = refl

-- a root without its shape counts where its gate is open, and then no root does
torn_behind_an_open_gate : root_of (two_roots open_gate (root_with 0 10) (zeros 4096)) ≡ None
unfolding root_of super_at gate_open open_gate root_at word_at word zeros all_zero each items
torn_behind_an_open_gate = refl

no_superblock : root_of (image_of (zeros 4096 ∷ open_gate ∷ [])) ≡ None
unfolding root_of super_at gate_open open_gate root_at word_at word zeros all_zero each items
no_superblock = refl

-- ---- the aggregate map

bit_7_is_set : map_bit (root_of_slot 1024 0 0 10) wrapped 7 ≡ true
unfolding map_bit bit_of_area bit_of_bytes bit_of_number open_gate word zeros
bit_7_is_set = refl

bit_6_is_clear : map_bit (root_of_slot 1024 0 0 10) wrapped 6 ≡ false
unfolding map_bit bit_of_area bit_of_bytes bit_of_number open_gate word zeros
bit_6_is_clear = refl

bit_11_is_clear : map_bit (root_of_slot 1024 0 0 10) wrapped 11 ≡ false
unfolding map_bit bit_of_area bit_of_bytes bit_of_number open_gate word zeros
bit_11_is_clear = refl

-- the other slot's area is clear
bit_7_of_slot_1 : map_bit (root_of_slot 1024 1 (2 ^ 64 - 1) 0) wrapped 7 ≡ false
unfolding map_bit bit_of_area bit_of_bytes bit_of_number open_gate word zeros
bit_7_of_slot_1 = refl
