-- Rows that the checker computes on images of empty volumes, as an independent implementation of the format wrote them.
use Rattle.std.specs.Prelude.{◌≡◌, ◌++◌, ◌-◌, ℕ, List, [], ◌∷◌, length, true, replicate, get_or, Some, None}
use Rattle.std.proofs.Common.{refl}
use Rattle.fv_disk.specs.Shown.{Image}
use Rattle.fv_codec.specs.Bytes.{word_at, half_at, word, half, zeros}
use Rattle.fv_codec.specs.Fields.{all_zero, each, items, all_name, name_filled}
use Rattle.fv_codec.specs.Blocks.{super_at, gate_open, root_at, open_gate, label_at, asks_snap, snap_of, asks_pointer, pointer_of, leaf_in, asks_entry, inner_at}
use Rattle.fv_model.specs.declared.commands.Kind.TheVariants.{Volume as Whole}
use Rattle.fv_image.specs.NewerRoot.{Taken, root_of}
use Rattle.fv_image.specs.Containers.{node_below, container_entry}
use Rattle.fv_image.specs.Views.{Head, head_at_slot, snaps_told}
use Rattle.fv_image.specs.Held.{view_at, label_place, label_in, entry_from}

-- ---- blocks

abbrev pub super_of : ℕ → List ℕ
super_of blocks = word 0x4656414747523031 ++ (word blocks ++ zeros 4080)

-- a root with labels in the first three slots; 0 is none
abbrev pub root_with : ℕ → ℕ → ℕ → ℕ → List ℕ
root_with generation first second third =
    word 0x4656524f4f543030 ++ (word generation ++ (word 1 ++ (zeros 40 ++ (word first ++ (word second ++ (word third ++ zeros 4008))))))

-- leaf 16 of a container, whose first entry is a map block at this place
abbrev pub leaf_16 : ℕ → List ℕ
leaf_16 place = word 0x4656434c45414630 ++ (word 16 ++ (zeros 1008 ++ (word place ++ (half 8 ++ zeros 3060))))

-- the root of a container with leaf 16 alone
abbrev pub inner_over : ℕ → List ℕ
inner_over leaf = word 0x465643494e4e4552 ++ (word 1 ++ (zeros 1136 ++ (word leaf ++ zeros 2936)))

-- the label of an empty volume: its name, kind, size and most, and its container's root
abbrev pub label_of : List ℕ → ℕ → ℕ → ℕ → ℕ → List ℕ
label_of name kind size most container =
    word 0x46564c4142454c30 ++ (word (length name) ++ (name ++ (zeros (64 - length name) ++ (word kind ++ (word size ++ (word most ++ (word 4096
    ++ (zeros 32 ++ (word 1 ++ (word container ++ (word 1 ++ zeros 3928)))))))))))

-- an image of so many blocks, and zeros behind them
abbrev pub image_of : List (List ℕ) → Image
image_of blocks b = get_or blocks b (zeros 4096)

-- ---- images

abbrev pub name_a : List ℕ
name_a = 97 ∷ []

abbrev pub name_b2 : List ℕ
name_b2 = 98 ∷ 50 ∷ []

abbrev pub name_c_3 : List ℕ
name_c_3 = 99 ∷ 95 ∷ 51 ∷ []

-- volume a of 100 blocks
abbrev pub one_volume : Image
one_volume = image_of (super_of 1024 ∷ open_gate ∷ open_gate ∷ root_with 1 0 0 0 ∷ root_with 2 10 0 0 ∷ zeros 4096 ∷ (128 ∷ 7 ∷ zeros 4094) ∷ zeros 4096
    ∷ leaf_16 7 ∷ inner_over 8 ∷ label_of name_a 0 100 200 9 ∷ [])

-- volumes a of 1 block of kind none, b2 of 400 blocks of kind file, and c_3 of 100 blocks
abbrev pub three_volumes : Image
three_volumes = image_of (super_of 2048 ∷ open_gate ∷ open_gate ∷ root_with 7 10 14 18 ∷ root_with 6 0 0 0 ∷ (128 ∷ 255 ∷ 7 ∷ zeros 4093) ∷ zeros 4096 ∷ zeros 4096
    ∷ leaf_16 7 ∷ inner_over 8 ∷ label_of name_a 2 1 2 9 ∷ zeros 4096
    ∷ leaf_16 11 ∷ inner_over 12 ∷ label_of name_b2 1 400 800 13 ∷ zeros 4096
    ∷ leaf_16 15 ∷ inner_over 16 ∷ label_of name_c_3 0 100 200 17 ∷ [])

abbrev pub root_of_slot : ℕ → ℕ → ℕ → ℕ → ℕ → ℕ → Taken
root_of_slot blocks slot generation first second third = record {
  blocks = blocks;
  slot = slot;
  root = record { generation = generation; version = 1; labels = first ∷ second ∷ third ∷ replicate 61 0 };
}

pub one_root : root_of one_volume ≡ Some (root_of_slot 1024 1 2 10 0 0)
unfolding root_of super_at gate_open open_gate root_at word_at word zeros all_zero each items
one_root = refl

abbrev pub head_a : Head
head_a = record { name = name_a; kind = Whole; size = 100; most = 200; span = 4096; now = 0; base = None; known = true; active = record { levels = 0; root = record { vvbn = 0; pvbn = 0; stamp = 0 } }; snapshots = [] }

first_head : (view_at (root_of_slot 1024 1 2 10 0 0) one_volume).head 0 ≡ Some head_a
unfolding view_at label_place label_in label_at head_at_slot snaps_told word_at word zeros all_zero each items all_name name_filled asks_snap snap_of asks_pointer pointer_of open_gate
first_head = refl

map_entry : (view_at (root_of_slot 1024 1 2 10 0 0) one_volume).entry 0 4096 ≡ Some (record { pvbn = 7; kind = 8; block = zeros 4096 })
unfolding view_at label_place label_in label_at entry_from container_entry node_below inner_at leaf_in asks_entry word_at half_at word half zeros all_zero each items all_name name_filled asks_snap snap_of asks_pointer pointer_of open_gate
map_entry = refl
