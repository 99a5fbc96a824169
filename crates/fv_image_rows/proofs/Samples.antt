-- The machines of images of empty volumes that an independent implementation of the format wrote.
use Rattle.std.proofs.Common.{◌≡◌, ℕ, zero, suc, ◌-◌, ◌/◌, ◌%◌, ◌<◌, ◌≤◌, Bool, true, false, List, [], ◌∷◌, ◌++◌, replicate, refl, sym, subst, ◌∙◌, arith, ⊎_elim, ◌*◌}
use Rattle.std.specs.Prelude.{Option, Some, None, nat_lt, ◌==◌, if◌then◌else◌, ◌^◌}
use Rattle.std.specs.List.{list_all, list_any, range_with_len}
use Rattle.std.proofs.lemmas.Bool.{cases_lt, and_right, and_parts}
use Rattle.std.proofs.lemmas.Bool.Decides.{nat_tests}
use Rattle.fv_disk.specs.Shown.{Image}
use Rattle.fv_bits.specs.Bits.{bit_of_area, bit_of_bytes, bit_of_number}
use Rattle.fv_codec.specs.Bytes.{word_at, half_at, word, half, zeros}
use Rattle.fv_codec.specs.Fields.{all_zero, each, items, all_name, name_filled}
use Rattle.fv_codec.specs.Blocks.{super_at, gate_open, root_at, open_gate, label_at, asks_snap, snap_of, asks_pointer, pointer_of, leaf_in, asks_entry, inner_at}
use Rattle.fv_codec.specs.declared.label.Label.{Label}
use Rattle.fv_model.specs.declared.commands.Kind.TheVariants.{Volume as Whole, File as ByFile, Thin}
use Rattle.fv_image.specs.NewerRoot.{Taken, root_of}
use Rattle.fv_image.specs.Maps.{map_bit}
use Rattle.fv_image.specs.Views.{slots, vvbns, head_of, snaps_from, Head}
use Rattle.fv_image_rows.specs.EmptyTold.{is_all_plain, is_plain, volumes, empty_told}
use Rattle.fv_image.specs.Volumes.{empty_volume_of}
use Rattle.fv_image.specs.Held.{Layout, label_place, label_in, at_positions, held_by_container, held_by, held, is_held}
use Rattle.fv_image_rows.specs.EmptySound.{IsEmptySound, is_in_range, has_true_kinds, has_true_levels, has_true_labels, is_in_capacity, has_room, committed}
use Rattle.fv_image.specs.BlockRules.{agree, has_shapes, has_entries_within, is_in_position, is_held_once, has_true_map}
use Rattle.fv_image.specs.VolumeRules.{has_distinct_names}
use Rattle.fv_image.specs.Views.{overheads}
use Rattle.fv_image_rows.proofs.LoneVolumes.{Given, HasSlot, HasSpan, meant, is_meant, none_own, none_delayed, maps_are_clear, sizes_fit}
use Rattle.fv_image_rows.proofs.Vectors.{root_of_slot, leaf_16, inner_over, label_of, image_of, name_a, one_volume, three_volumes, super_of, root_with, name_b2, name_c_3, one_root}
use Rattle.fv_image.specs.Containers.{leaf_for, inner_for}
use Rattle.fv_image.proofs.Empty.{all_of_range, machine_is_empty}
use Rattle.fv_model.specs.Space.{overhead, nodes_above}
use Rattle.fv_image.specs.WholeMachine.{machine_of}
use Rattle.fv_image_rows.specs.EmptyMachine.{EmptyTells}
use Rattle.fv_image_rows.proofs.PlainImages.{machine_stands}
use Rattle.fv_model.specs.Machines.{Machine, empty_machine}
use Rattle.fv_model.specs.Effects.{effect, change_of, empty_volume}
use Rattle.fv_model.specs.declared.commands.Command.TheVariants.{VolCreate}
use Rattle.fv_image.proofs.SoundFacts.{agree_same, agree_itself}
use Rattle.fv_image.proofs.Kept.{at_number}
use Rattle.fv_image.specs.Layout.{area_blocks, area_place}
use Rattle.std.proofs.lemmas.Nat.Bits.{bit_at-zero}
use Rattle.fv_image.proofs.Zeros.{zero_in, clear_bits}
use Rattle.std.proofs.lemmas.List.{get_or_past}
use Rattle.fv_codec.specs.declared.container.ContainerLeaf.{ContainerLeaf}
use Rattle.fv_codec.specs.declared.container.ContainerInner.{ContainerInner}
use Rattle.fv_image.proofs.Uses.{commit_is}
use Rattle.std.specs.FinMap as fin

-- what a label of an empty volume says, with its name filled up to 64 bytes
abbrev pub says : ℕ → List ℕ → ℕ → ℕ → ℕ → ℕ → Label
says len name kind size most container = record {
  name_length = len;
  name = name;
  kind = kind;
  size = size;
  most = most;
  span = 4096;
  now = 0;
  parent = 0;
  base_slot = 0;
  splitting = 0;
  known = 1;
  container = container;
  height = 1;
  levels = 0;
  root = record { vvbn = 0; pvbn = 0; stamp = 0 };
  snapshots = replicate 24 (record { name_length = 0; name = replicate 64 0; levels = 0; root = record { vvbn = 0; pvbn = 0; stamp = 0 } });
}

-- no label past those that are there
none_past : (inside : Bool) {place : ℕ} → place ≡ 0 → (if inside then place else 0) ≡ 0
none_past true e = e
none_past false e = refl

-- bits past the third byte of a map of one block
pub past_bits : (t : Taken) (i : Image) (x y z n : ℕ) → area_blocks t.blocks ≡ 1 → i (area_place t.blocks t.slot 0) ≡ x ∷ y ∷ z ∷ replicate 4093 0 → 32 ≤ n → map_bit t i n ≡ false
unfolding map_bit bit_of_area bit_of_bytes bit_of_number
past_bits t i x y z n single block high = ⊎_elim
    (λ (inside : n < 32768).
    let first : n / 32768 ≡ 0 = omega (arith, inside) in
    let same : n % 32768 ≡ n = omega (arith, inside) in
    let byte : n / 8 ≡ suc (suc (suc (n / 8 - 3))) = omega (arith, high) in
    rw (first, block, same, byte, zero_in 4093 (n / 8 - 3), bit_at-zero (n % 8)) (and_right _ false refl))
    (λ (past : 32768 ≤ n). let test : nat_lt n (32768 * area_blocks t.blocks) ≡ false = rw single (below n past) in rw test refl)
    (cases_lt n 32768)
  where
    below : (n : ℕ) → 32768 ≤ n → nat_lt n 32768 ≡ false
    below n past = grind (arith, nat_tests)

-- numbers below 32 aren't a greater one
pub small_only : (xs : List ℕ) (n : ℕ) → list_all (λ x. nat_lt x 32) xs ≡ true → 32 ≤ n → list_any (λ x. x == n) xs ≡ false
small_only [] n small high = refl
small_only (x ∷ xs) n small high =
    let parts = and_parts (nat_lt x 32) (list_all (λ x. nat_lt x 32) xs) small in
    let other : (x == n) ≡ false = grind (arith, nat_tests, parts.0) in
    rw (other, small_only xs n parts.1 high) refl

-- ---- one volume

-- the first blocks may be any
module _ (a b c d e f g : List ℕ) where
  abbrev one_like : Image
  one_like = image_of (a ∷ b ∷ c ∷ d ∷ e ∷ f ∷ g ∷ zeros 4096 ∷ leaf_16 7 ∷ inner_over 8 ∷ label_of name_a 0 100 200 9 ∷ [])

  abbrev given_one : ℕ → Option Given
  given_one zero = Some (record { label = 10; leaf = 8; map = 7; says = says 1 (97 ∷ replicate 63 0) 0 100 200 9 })
  given_one (suc s) = None

  slot_one : (slot generation s : ℕ) → HasSlot (root_of_slot 1024 slot generation 10 0 0) one_like s (given_one s)
  unfolding label_place label_in label_at leaf_in inner_at asks_entry word_at half_at word half zeros all_zero each items all_name name_filled asks_snap snap_of asks_pointer pointer_of
  slot_one slot generation zero = record {
    place = refl;
    says = refl;
    height = refl;
    span = refl;
    tree = record {
      node = record { level = 1; place = 0; children = replicate 16 0 ++ 8 ∷ replicate 239 0 };
      is_node = refl;
      children = refl;
      entries = record { index = 16; pvbns = 7 ∷ replicate 255 0; kinds = 8 ∷ replicate 255 0 };
      is_leaf = refl;
      pvbns = refl;
      kinds = refl;
    };
    clear = refl;
  }
  slot_one slot generation (suc s) = none_past (nat_lt (suc s) 64) (zero_in 63 s)

  abbrev held_one : List ℕ
  held_one = 10 ∷ 8 ∷ 9 ∷ 7 ∷ []

  abbrev bits_one : ℕ → Bool
  bits_one b = list_any (λ x. x == b) held_one

  abbrev layout_one : ℕ → ℕ → Layout
  layout_one slot generation = meant (root_of_slot 1024 slot generation 10 0 0) one_like given_one bits_one

  holds_one : (slot generation : ℕ) → held (layout_one slot generation) ≡ held_one
  unfolding held held_by held_by_container at_positions slots vvbns label_in label_at word_at half_at word half zeros all_zero each items all_name name_filled asks_snap snap_of asks_pointer pointer_of
  holds_one slot generation = refl

  spans_one : (s : ℕ) → HasSpan (given_one s)
  spans_one zero = refl
  spans_one (suc s) = tt

  sound_one : (slot generation : ℕ) → IsEmptySound (layout_one slot generation)
  unfolding has_shapes is_in_range has_entries_within has_distinct_names is_in_position is_held_once has_true_map has_true_kinds has_true_levels has_true_labels is_in_capacity has_room committed overheads overhead nodes_above empty_volume_of slots vvbns head_of snaps_from at_positions label_in label_at leaf_in inner_at leaf_for inner_for asks_entry word_at half_at word half zeros all_zero each items all_name name_filled asks_snap snap_of asks_pointer pointer_of
  sound_one slot generation = record {
    shapes = refl;
    ranges = rw (holds_one slot generation) refl;
    entries = refl;
    names = refl;
    positions = refl;
    maps = maps_are_clear (root_of_slot 1024 slot generation 10 0 0) given_one spans_one one_like bits_one;
    once = rw (holds_one slot generation) refl;
    map = all_of_range (λ b. agree (bits_one b) (is_held (layout_one slot generation) b)) (λ b. rw (holds_one slot generation) (agree_itself (bits_one b))) 0 32768;
    kinds = refl;
    levels = refl;
    labels = refl;
    sizes = sizes_fit (root_of_slot 1024 slot generation 10 0 0) given_one spans_one one_like bits_one;
    commits = refl;
    room = rw (none_own (root_of_slot 1024 slot generation 10 0 0) given_one spans_one, none_delayed (root_of_slot 1024 slot generation 10 0 0) given_one spans_one) refl;
  }

  -- after `vol create a 100 volume`
  abbrev machine_one : Machine
  machine_one = effect (empty_machine 1024) (VolCreate name_a 100 Whole)

  tells_one : (slot generation : ℕ) → EmptyTells (layout_one slot generation) machine_one
  unfolding is_all_plain is_plain empty_told volumes empty_volume_of head_of snaps_from slots change_of
  tells_one slot generation = record { plain = refl; sound = sound_one slot generation; machine = refl }

  stands_one : (slot generation : ℕ) → root_of one_like ≡ Some (root_of_slot 1024 slot generation 10 0 0) → ((n : ℕ) → map_bit (root_of_slot 1024 slot generation 10 0 0) one_like n ≡ bits_one n) → machine_of one_like ≡ Some machine_one
  stands_one slot generation counts bits = machine_stands one_like machine_one (record {
    taken = root_of_slot 1024 slot generation 10 0 0;
    counts = counts;
    tells = subst (λ (y : Layout). EmptyTells y machine_one) (sym (is_meant (root_of_slot 1024 slot generation 10 0 0) one_like given_one bits_one (slot_one slot generation) bits)) (tells_one slot generation);
  })

-- ---- the images

-- an aggregate as it was made
abbrev fresh : ℕ → Image
fresh blocks = image_of (super_of blocks ∷ open_gate ∷ zeros 4096 ∷ root_with 1 0 0 0 ∷ [])

abbrev fresh_root : ℕ → Taken
fresh_root blocks = root_of_slot blocks 0 1 0 0 0

fresh_machine : (blocks : ℕ) → 512 ≤ blocks → root_of (fresh blocks) ≡ Some (fresh_root blocks) → machine_of (fresh blocks) ≡ Some (empty_machine blocks)
unfolding label_place zeros
fresh_machine blocks size counts = machine_is_empty (fresh blocks) (fresh_root blocks) counts size
    (λ s. none_past (nat_lt s 64) (zero_in 64 s))
    (clear_bits (fresh_root blocks) (fresh blocks) (λ k within. let low : 4 ≤ area_place blocks 0 k = omega arith in
    get_or_past (super_of blocks ∷ open_gate ∷ zeros 4096 ∷ root_with 1 0 0 0 ∷ []) (area_place blocks 0 k) (zeros 4096) low))

least_aggregate : machine_of (fresh 512) ≡ Some (empty_machine 512)
unfolding root_of super_at gate_open open_gate root_at word_at word zeros all_zero each items
least_aggregate = fresh_machine 512 (omega arith) refl

small_aggregate : machine_of (fresh 1024) ≡ Some (empty_machine 1024)
unfolding root_of super_at gate_open open_gate root_at word_at word zeros all_zero each items
small_aggregate = fresh_machine 1024 (omega arith) refl

greatest_aggregate : machine_of (fresh 1048576) ≡ Some (empty_machine 1048576)
unfolding root_of super_at gate_open open_gate root_at word_at word zeros all_zero each items
greatest_aggregate = fresh_machine 1048576 (omega arith) refl

-- a map of three bytes says which blocks are held, where it agrees with a list of small ones on the first 32
bits_are : (t : Taken) (i : Image) (x y z : ℕ) (blocks : List ℕ) → area_blocks t.blocks ≡ 1 → i (area_place t.blocks t.slot 0) ≡ x ∷ y ∷ z ∷ replicate 4093 0 → list_all (λ b. nat_lt b 32) blocks ≡ true
    → list_all (λ b. agree (map_bit t i b) (list_any (λ x. x == b) blocks)) (range_with_len 0 32) ≡ true → (n : ℕ) → map_bit t i n ≡ list_any (λ x. x == n) blocks
bits_are t i x y z blocks single block small first n = ⊎_elim
    (λ (low : n < 32). agree_same _ _ (at_number (λ b. agree (map_bit t i b) (list_any (λ x. x == b) blocks)) 0 32 n first (omega arith) (omega (arith, low))))
    (λ (high : 32 ≤ n). past_bits t i x y z n single block high ∙ sym (small_only blocks n small high))
    (cases_lt n 32)

abbrev root_first : Taken
root_first = root_of_slot 1024 1 2 10 0 0

abbrev held_first : List ℕ
held_first = 10 ∷ 8 ∷ 9 ∷ 7 ∷ []

first_bits : (n : ℕ) → map_bit root_first one_volume n ≡ list_any (λ x. x == n) held_first
unfolding map_bit bit_of_area bit_of_bytes bit_of_number zeros
first_bits = bits_are root_first one_volume 128 7 0 held_first refl refl refl refl

-- an aggregate of one volume stands for the machine after the command that made it
one_machine : machine_of one_volume ≡ Some (effect (empty_machine 1024) (VolCreate name_a 100 Whole))
one_machine = stands_one (super_of 1024) open_gate open_gate (root_with 1 0 0 0) (root_with 2 10 0 0) (zeros 4096) (128 ∷ 7 ∷ zeros 4094) 1 2 one_root first_bits

-- the same volume, with a generation that has wrapped
abbrev wrapped : Image
wrapped = one_like (super_of 1024) open_gate open_gate (root_with 0 10 0 0) (root_with (2 ^ 64 - 1) 0 0 0) (128 ∷ 7 ∷ zeros 4094) (zeros 4096)

abbrev root_wrapped : Taken
root_wrapped = root_of_slot 1024 0 0 10 0 0

wrapped_bits : (n : ℕ) → map_bit root_wrapped wrapped n ≡ list_any (λ x. x == n) held_first
unfolding map_bit bit_of_area bit_of_bytes bit_of_number zeros
wrapped_bits = bits_are root_wrapped wrapped 128 7 0 held_first refl refl refl refl

wrapped_machine : machine_of wrapped ≡ Some (effect (empty_machine 1024) (VolCreate name_a 100 Whole))
unfolding root_of super_at gate_open open_gate root_at word_at word zeros all_zero each items
wrapped_machine = stands_one (super_of 1024) open_gate open_gate (root_with 0 10 0 0) (root_with (2 ^ 64 - 1) 0 0 0) (128 ∷ 7 ∷ zeros 4094) (zeros 4096) 0 0 refl wrapped_bits

-- ---- three volumes

abbrev root_three : Taken
root_three = root_of_slot 2048 0 7 10 14 18

abbrev given_three : ℕ → Option Given
given_three zero = Some (record { label = 10; leaf = 8; map = 7; says = says 1 (97 ∷ replicate 63 0) 2 1 2 9 })
given_three (suc zero) = Some (record { label = 14; leaf = 12; map = 11; says = says 2 (98 ∷ 50 ∷ replicate 62 0) 1 400 800 13 })
given_three (suc (suc zero)) = Some (record { label = 18; leaf = 16; map = 15; says = says 3 (99 ∷ 95 ∷ 51 ∷ replicate 61 0) 0 100 200 17 })
given_three (suc (suc (suc s))) = None

abbrev inner_said : ℕ → ContainerInner
inner_said leaf = record { level = 1; place = 0; children = replicate 16 0 ++ leaf ∷ replicate 239 0 }

abbrev leaf_said : ℕ → ContainerLeaf
leaf_said place = record { index = 16; pvbns = place ∷ replicate 255 0; kinds = 8 ∷ replicate 255 0 }

slot_three : (s : ℕ) → HasSlot root_three three_volumes s (given_three s)
unfolding label_place label_in label_at leaf_in inner_at asks_entry word_at half_at word half zeros all_zero each items all_name name_filled asks_snap snap_of asks_pointer pointer_of
slot_three zero = record { place = refl; says = refl; height = refl; span = refl; clear = refl; tree = record { node = inner_said 8; is_node = refl; children = refl; entries = leaf_said 7; is_leaf = refl; pvbns = refl; kinds = refl } }
slot_three (suc zero) = record { place = refl; says = refl; height = refl; span = refl; clear = refl; tree = record { node = inner_said 12; is_node = refl; children = refl; entries = leaf_said 11; is_leaf = refl; pvbns = refl; kinds = refl } }
slot_three (suc (suc zero)) = record { place = refl; says = refl; height = refl; span = refl; clear = refl; tree = record { node = inner_said 16; is_node = refl; children = refl; entries = leaf_said 15; is_leaf = refl; pvbns = refl; kinds = refl } }
slot_three (suc (suc (suc s))) = none_past (nat_lt (suc (suc (suc s))) 64) (zero_in 61 s)

spans_three : (s : ℕ) → HasSpan (given_three s)
spans_three zero = refl
spans_three (suc zero) = refl
spans_three (suc (suc zero)) = refl
spans_three (suc (suc (suc s))) = tt

abbrev held_three : List ℕ
held_three = 10 ∷ 8 ∷ 9 ∷ 7 ∷ 14 ∷ 12 ∷ 13 ∷ 11 ∷ 18 ∷ 16 ∷ 17 ∷ 15 ∷ []

abbrev bits_three : ℕ → Bool
bits_three b = list_any (λ x. x == b) held_three

abbrev layout_three : Layout
layout_three = meant root_three three_volumes given_three bits_three

holds_three : held layout_three ≡ held_three
unfolding held held_by held_by_container at_positions slots vvbns label_in label_at word_at half_at word half zeros all_zero each items all_name name_filled asks_snap snap_of asks_pointer pointer_of
holds_three = refl

-- what each of them commits: twice its overhead, and its size by kind `volume`
committed_three : committed layout_three.view ≡ 220
unfolding committed overhead nodes_above empty_volume_of head_of snaps_from slots
committed_three =
    let first : Head = head_of (says 1 (97 ∷ replicate 63 0) 2 1 2 9) in
    let second : Head = head_of (says 2 (98 ∷ 50 ∷ replicate 62 0) 1 400 800 13) in
    rw (commit_is first, commit_is second) (refl {a = 220})

sound_three : IsEmptySound layout_three
unfolding has_shapes is_in_range has_entries_within has_distinct_names is_in_position is_held_once has_true_map has_true_kinds has_true_levels has_true_labels is_in_capacity has_room overheads overhead nodes_above slots vvbns head_of snaps_from at_positions label_in label_at leaf_in inner_at leaf_for inner_for asks_entry word_at half_at word half zeros all_zero each items all_name name_filled asks_snap snap_of asks_pointer pointer_of
sound_three = record {
  shapes = refl;
  ranges = rw holds_three refl;
  entries = refl;
  names = refl;
  positions = refl;
  maps = maps_are_clear root_three given_three spans_three three_volumes bits_three;
  once = rw holds_three refl;
  map = all_of_range (λ b. agree (bits_three b) (is_held layout_three b)) (λ b. rw holds_three (agree_itself (bits_three b))) 0 32768;
  kinds = refl;
  levels = refl;
  labels = refl;
  sizes = sizes_fit root_three given_three spans_three three_volumes bits_three;
  commits = rw committed_three refl;
  room = rw (none_own root_three given_three spans_three, none_delayed root_three given_three spans_three) refl;
}

bits_of_three : (n : ℕ) → map_bit root_three three_volumes n ≡ bits_three n
unfolding map_bit bit_of_area bit_of_bytes bit_of_number zeros
bits_of_three = bits_are root_three three_volumes 128 255 7 held_three refl refl refl refl

abbrev machine_three : Machine
machine_three = record {
  blocks = 2048;
  version = 1;
  volumes = fin.from_entries ((name_a, empty_volume 1 Thin) ∷ (name_b2, empty_volume 400 ByFile) ∷ (name_c_3, empty_volume 100 Whole) ∷ []);
}

tells_three : EmptyTells layout_three machine_three
unfolding is_all_plain is_plain empty_told volumes empty_volume_of head_of snaps_from slots
tells_three = record { plain = refl; sound = sound_three; machine = refl }

three_root : root_of three_volumes ≡ Some root_three
unfolding root_of super_at gate_open open_gate root_at word_at word zeros all_zero each items
three_root = refl

three_machine : machine_of three_volumes ≡ Some machine_three
three_machine = machine_stands three_volumes machine_three (record {
  taken = root_three;
  counts = three_root;
  tells = subst (λ (y : Layout). EmptyTells y machine_three) (sym (is_meant root_three three_volumes given_three bits_three slot_three bits_of_three)) tells_three;
})
