-- An aggregate without labels, whose map is clear, stands for the machine without volumes.
use Rattle.std.proofs.Common.{◌≡◌, ℕ, zero, suc, ◌+◌, ◌-◌, ◌≤◌, Bool, true, false, refl, sym, ap, subst, ◌∙◌, arith}
use Rattle.std.specs.Prelude.{Some, None, nat_le}
use Rattle.std.specs.List.{list_all, range_with_len}
use Rattle.std.proofs.lemmas.Bool.Decides.{nat_tests}
use Rattle.fv_disk.specs.Shown.{Image}
use Rattle.fv_model.specs.Machines.{empty_machine, first_block, capacity}
use Rattle.fv_image.specs.NewerRoot.{Taken, root_of}
use Rattle.fv_image.specs.Maps.{area_bits, map_bit}
use Rattle.fv_image.specs.Views.{View, slots, own, delayed, overheads}
use Rattle.fv_image.specs.Held.{Layout, layout_at, view_at, label_place, label_lying, label_in, lying_at, node_from, entry_from, held_by, held_by_container, held}
use Rattle.fv_image.specs.Volumes.{told_with, volumes_with}
use Rattle.fv_image.specs.Seen.{seen}
use Rattle.fv_image.specs.BlockRules.{has_shapes, are_in_range, has_entries_within, is_in_position, is_held_once, has_true_map}
use Rattle.fv_image.specs.ReachRules.{has_reached_shapes, has_pointers_in_range, has_reached_positions, has_distinct_files, reaches_once, has_maps_of_reach, has_map_blocks, has_map_kinds, has_reached_kinds}
use Rattle.fv_image.specs.TableRules.{has_one_to_one, has_stamps_past, has_marks_over, has_cells_within, has_levels}
use Rattle.fv_image.specs.HintRules.{has_true_hints, leads_unknown, has_known_places, has_split_places, leaves_base, rests_on_base}
use Rattle.fv_image.specs.VolumeRules.{has_wide_spans, has_bases, has_distinct_names, has_distinct_snapshots, has_use_in_size, commits_seen, has_commits_in_capacity}
use Rattle.fv_image.specs.Soundness.{AreBlocks, AreTables, AreMaps, IsSound}
use Rattle.fv_image.specs.WholeMachine.{is_built, has_no_reserves, machine_of, Tells}
use Rattle.fv_image.proofs.SoundTests.{machine_told, machine_under}

-- a layout in which nothing is
abbrev empty_view : ℕ → ℕ → View
empty_view blocks version = record { blocks = blocks; version = version; head = λ s. None; entry = λ s v. None }

abbrev empty_layout : ℕ → ℕ → Layout
empty_layout blocks version = record { view = empty_view blocks version; label = λ s. None; node = λ s level number. None; bit = λ b. false }

-- ---- such an image has that layout

module _ (t : Taken) (i : Image) (bare : (s : ℕ) → label_place t s ≡ 0) (clear : (b : ℕ) → map_bit t i b ≡ false) where
  no_label : (s : ℕ) → label_lying t i s ≡ None
  no_label s = ap (lying_at i) (bare s)

  no_head : (s : ℕ) → label_in (label_lying t i s) ≡ None
  unfolding label_in
  no_head s = ap label_in (no_label s)

  is_empty : layout_at t i ≡ empty_layout t.blocks t.root.version
  unfolding layout_at view_at node_from entry_from
  is_empty = λ k. record {
    view = record {
      blocks = t.blocks;
      version = t.root.version;
      head = λ s. heads s k;
      entry = λ s v. ap (λ o. entry_from o i v) (no_head s) k;
    };
    label = λ s. no_label s k;
    node = λ s level number. ap (λ o. node_from o i level number) (no_head s) k;
    bit = λ b. clear b k;
  }
    where
      heads : (s : ℕ) → (view_at t i).head s ≡ None
      heads s = rw (no_head s) refl

-- ---- and it is sound

-- a test that holds of every number holds of a range
pub all_of_range : (test : ℕ → Bool) → ((k : ℕ) → test k ≡ true) → (from count : ℕ) → list_all test (range_with_len from count) ≡ true
all_of_range test always from zero = refl
all_of_range test always from (suc count) = rw (always from, all_of_range test always (from + 1) count) refl

module _ (blocks version : ℕ) (size : 512 ≤ blocks) where
  blocks_empty : AreBlocks (empty_layout blocks version)
  unfolding has_shapes are_in_range has_entries_within is_in_position is_held_once has_true_map slots held held_by held_by_container label_in
  blocks_empty = record { shapes = refl; ranges = refl; entries = refl; positions = refl; once = refl; map = all_of_range (λ b. true) (λ k. refl) 0 (area_bits blocks) }

  tables_empty : AreTables (seen (empty_view blocks version))
  unfolding seen has_reached_shapes has_pointers_in_range has_wide_spans has_bases has_distinct_snapshots has_distinct_files has_reached_positions reaches_once has_reached_kinds has_one_to_one has_stamps_past has_marks_over has_cells_within has_levels has_true_hints leads_unknown has_known_places has_split_places leaves_base rests_on_base has_use_in_size has_commits_in_capacity commits_seen slots
  tables_empty = record { shapes = refl; ranges = refl; spans = refl; bases = refl; snapshots = refl; files = refl; positions = refl; once = refl; kinds = refl; ids = refl; stamps = refl; marks = refl; cells = refl; levels = refl; hints = refl; unknown = refl; known = refl; split = refl; leaves = refl; rests = refl; sizes = refl; commits = enough (capacity blocks) }
    where
      enough : (n : ℕ) → nat_le 0 n ≡ true
      enough n = grind (arith, nat_tests)

  maps_empty : AreMaps (empty_view blocks version)
  unfolding has_map_blocks has_maps_of_reach has_map_kinds slots
  maps_empty = record { there = refl; reach = refl; kinds = refl }

  empty_is_sound : IsSound (empty_layout blocks version)
  unfolding has_distinct_names overheads own delayed slots
  empty_is_sound = record { blocks = blocks_empty; tables = tables_empty; maps = maps_empty; names = refl; room = room }
    where
      room : nat_le 256 (blocks - first_block blocks - 0 - 0) ≡ true
      room = let e : 256 ≤ blocks - first_block blocks - 0 - 0 = omega arith in grind (arith, nat_tests)

  tells_empty : Tells (empty_layout blocks version) (record (empty_machine blocks) { version = version })
  unfolding is_built has_no_reserves seen told_with volumes_with slots
  tells_empty = record { built = refl; sound = empty_is_sound; machine = refl }

pub machine_is_empty : (i : Image) (t : Taken) → root_of i ≡ Some t → 512 ≤ t.blocks → ((s : ℕ) → label_place t s ≡ 0) → ((b : ℕ) → map_bit t i b ≡ false)
    → machine_of i ≡ Some (record (empty_machine t.blocks) { version = t.root.version })
machine_is_empty i t counts size bare clear = machine_under i t counts
    ∙ machine_told (layout_at t i) (record (empty_machine t.blocks) { version = t.root.version })
    (subst (λ (y : Layout). Tells y (record (empty_machine t.blocks) { version = t.root.version })) (sym (is_empty t i bare clear)) (tells_empty t.blocks t.root.version size))
