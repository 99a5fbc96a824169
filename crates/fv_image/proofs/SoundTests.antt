-- Soundness as a test and as a record, and the machine of an image as what makes it stand.
use Rattle.std.proofs.Common.{◌≡◌, Bool, true, false, refl, sym, ap, subst, ◌∙◌}
use Rattle.std.specs.Prelude.{Option, Some, None, ◌&&◌, if◌then◌else◌}
use Rattle.std.specs.Option.{option_and_then}
use Rattle.std.proofs.lemmas.Bool.{and_parts, and_from}
use Rattle.fv_disk.specs.Shown.{Image}
use Rattle.fv_model.specs.Machines.{Machine}
use Rattle.fv_image.specs.NewerRoot.{Taken, root_of}
use Rattle.fv_image.specs.Views.{View, leaves_room}
use Rattle.fv_image.specs.Held.{Layout, layout_at, AgreeOnNamed}
use Rattle.fv_image.specs.Volumes.{told}
use Rattle.fv_image.specs.Seen.{Seen, seen}
use Rattle.fv_image.specs.BlockRules.{has_shapes, are_in_range, has_entries_within, is_in_position, is_held_once, has_true_map}
use Rattle.fv_image.specs.ReachRules.{has_reached_shapes, has_pointers_in_range, has_reached_positions, has_distinct_files, reaches_once, has_maps_of_reach, has_map_blocks, has_map_kinds, has_reached_kinds}
use Rattle.fv_image.specs.TableRules.{has_one_to_one, has_stamps_past, has_marks_over, has_cells_within, has_levels}
use Rattle.fv_image.specs.HintRules.{has_true_hints, leads_unknown, has_known_places, has_split_places, leaves_base, rests_on_base}
use Rattle.fv_image.specs.VolumeRules.{has_wide_spans, has_bases, has_distinct_names, has_distinct_snapshots, has_use_in_size, has_commits_in_capacity}
use Rattle.fv_image.specs.Soundness.{AreBlocks, AreTables, AreMaps, IsSound, are_blocks, are_tables, are_maps, is_sound}
use Rattle.fv_image.specs.WholeMachine.{is_built, machine_from, machine_at, machine_of, Tells}
use Rattle.fv_image.proofs.SameLayout.{same_layout}

-- ---- soundness as a test

pub blocks_from_test : (y : Layout) → are_blocks y ≡ true → AreBlocks y
unfolding are_blocks
blocks_from_test y all =
    let p0 = and_parts (has_shapes y) _ all in let p1 = and_parts (are_in_range y) _ p0.1 in
    let p2 = and_parts (has_entries_within y) _ p1.1 in let p3 = and_parts (is_in_position y) _ p2.1 in
    let p4 = and_parts (is_held_once y) (has_true_map y) p3.1 in
    record { shapes = p0.0; ranges = p1.0; entries = p2.0; positions = p3.0; once = p4.0; map = p4.1 }

pub blocks_to_test : (y : Layout) → AreBlocks y → are_blocks y ≡ true
unfolding are_blocks
blocks_to_test y is = and_from (has_shapes y) _ is.shapes (and_from (are_in_range y) _ is.ranges (and_from (has_entries_within y) _ is.entries (and_from (is_in_position y) _ is.positions (and_from (is_held_once y) _ is.once (is.map)))))

pub tables_from_test : (w : Seen) → are_tables w ≡ true → AreTables w
unfolding are_tables
tables_from_test w all =
    let p0 = and_parts (has_reached_shapes w) _ all in
    let p1 = and_parts (has_pointers_in_range w) _ p0.1 in
    let p2 = and_parts (has_wide_spans w) _ p1.1 in
    let p3 = and_parts (has_bases w) _ p2.1 in
    let p4 = and_parts (has_distinct_snapshots w) _ p3.1 in
    let p5 = and_parts (has_distinct_files w) _ p4.1 in
    let p6 = and_parts (has_reached_positions w) _ p5.1 in
    let p7 = and_parts (reaches_once w) _ p6.1 in
    let p8 = and_parts (has_reached_kinds w) _ p7.1 in
    let p9 = and_parts (has_one_to_one w) _ p8.1 in
    let p10 = and_parts (has_stamps_past w) _ p9.1 in
    let p11 = and_parts (has_marks_over w) _ p10.1 in
    let p12 = and_parts (has_cells_within w) _ p11.1 in
    let p13 = and_parts (has_levels w) _ p12.1 in
    let p14 = and_parts (has_true_hints w) _ p13.1 in
    let p15 = and_parts (leads_unknown w) _ p14.1 in
    let p16 = and_parts (has_known_places w) _ p15.1 in
    let p17 = and_parts (has_split_places w) _ p16.1 in
    let p18 = and_parts (leaves_base w) _ p17.1 in
    let p19 = and_parts (rests_on_base w) _ p18.1 in
    let p20 = and_parts (has_use_in_size w) (has_commits_in_capacity w) p19.1 in
    record {
      shapes = p0.0;
      ranges = p1.0;
      spans = p2.0;
      bases = p3.0;
      snapshots = p4.0;
      files = p5.0;
      positions = p6.0;
      once = p7.0;
      kinds = p8.0;
      ids = p9.0;
      stamps = p10.0;
      marks = p11.0;
      cells = p12.0;
      levels = p13.0;
      hints = p14.0;
      unknown = p15.0;
      known = p16.0;
      split = p17.0;
      leaves = p18.0;
      rests = p19.0;
      sizes = p20.0;
      commits = p20.1;
    }

pub tables_to_test : (w : Seen) → AreTables w → are_tables w ≡ true
unfolding are_tables
tables_to_test w is = and_from (has_reached_shapes w) _ is.shapes (and_from (has_pointers_in_range w) _ is.ranges (and_from (has_wide_spans w) _ is.spans (and_from (has_bases w) _ is.bases (and_from (has_distinct_snapshots w) _ is.snapshots (and_from (has_distinct_files w) _ is.files (and_from (has_reached_positions w) _ is.positions (and_from (reaches_once w) _ is.once (and_from (has_reached_kinds w) _ is.kinds (and_from (has_one_to_one w) _ is.ids (and_from (has_stamps_past w) _ is.stamps (and_from (has_marks_over w) _ is.marks (and_from (has_cells_within w) _ is.cells (and_from (has_levels w) _ is.levels (and_from (has_true_hints w) _ is.hints (and_from (leads_unknown w) _ is.unknown (and_from (has_known_places w) _ is.known (and_from (has_split_places w) _ is.split (and_from (leaves_base w) _ is.leaves (and_from (rests_on_base w) _ is.rests (and_from (has_use_in_size w) _ is.sizes (is.commits)))))))))))))))))))))

pub maps_from_test : (w : View) → are_maps w ≡ true → AreMaps w
unfolding are_maps
maps_from_test w all =
    let p0 = and_parts (has_map_blocks w) _ all in
    let p1 = and_parts (has_maps_of_reach w) (has_map_kinds w) p0.1 in
    record {
      there = p0.0;
      reach = p1.0;
      kinds = p1.1;
    }

pub maps_to_test : (w : View) → AreMaps w → are_maps w ≡ true
unfolding are_maps
maps_to_test w is = and_from (has_map_blocks w) _ is.there (and_from (has_maps_of_reach w) _ is.reach (is.kinds))

pub sound_from_test : (y : Layout) → is_sound y ≡ true → IsSound y
unfolding is_sound
sound_from_test y all =
    let p0 = and_parts (are_blocks y) _ all in
    let p1 = and_parts (are_tables (seen y.view)) _ p0.1 in
    let p2 = and_parts (are_maps y.view) _ p1.1 in
    let p3 = and_parts (has_distinct_names y) (leaves_room y.view 0) p2.1 in
    record {
      blocks = blocks_from_test y p0.0;
      tables = tables_from_test (seen y.view) p1.0;
      maps = maps_from_test y.view p2.0;
      names = p3.0;
      room = p3.1;
    }

pub sound_to_test : (y : Layout) → IsSound y → is_sound y ≡ true
unfolding is_sound
sound_to_test y is = and_from (are_blocks y) _ (blocks_to_test y is.blocks) (and_from (are_tables (seen y.view)) _ (tables_to_test (seen y.view) is.tables)
    (and_from (are_maps y.view) _ (maps_to_test y.view is.maps) (and_from (has_distinct_names y) _ is.names is.room)))

-- ---- the machine

pub machine_told : (y : Layout) (m : Machine) → Tells y m → machine_from y ≡ Some m
unfolding machine_from
machine_told y m is = ap (λ (b : Bool). if b then Some (told y.view) else None) (and_from (is_built y.view) _ is.built (sound_to_test y is.sound)) ∙ ap (λ m. Some m) is.machine

pub tells_from : (y : Layout) (m : Machine) → machine_from y ≡ Some m → Tells y m
unfolding machine_from
tells_from y m e = so (is_built y.view && is_sound y) refl e
  where
    so : (b : Bool) → (is_built y.view && is_sound y) ≡ b → (if b then Some (told y.view) else None) ≡ Some m → Tells y m
    so true stands e = let parts = and_parts (is_built y.view) (is_sound y) stands in record {
      built = parts.0;
      sound = sound_from_test y parts.1;
      machine = cc;
    }
    so false stands e = absurd cc

-- under a root that counts, an image stands for the machine of its layout
pub machine_under : (i : Image) (t : Taken) → root_of i ≡ Some t → machine_of i ≡ machine_from (layout_at t i)
unfolding machine_of
machine_under i t counts = ap (option_and_then (λ t. machine_at t i)) counts

-- An image that stands for a machine has a root that counts, under which it tells that machine.
pub stands_for : (i : Image) (m : Machine) → machine_of i ≡ Some m → (t : Taken) × ((root_of i ≡ Some t) × Tells (layout_at t i) m)
unfolding machine_of
stands_for i m is = so (root_of i) refl is
  where
    so : (o : Option Taken) → root_of i ≡ o → option_and_then (λ t. machine_at t i) o ≡ Some m → (t : Taken) × ((root_of i ≡ Some t) × Tells (layout_at t i) m)
    so None e is = absurd cc
    so (Some t) e is = (t, (e, tells_from (layout_at t i) m is))

-- ---- images that agree on what is held

-- Images that agree on all that a root names stand for the same machine under it.
pub same_machine : (t : Taken) (i j : Image) → AgreeOnNamed t i j → machine_at t j ≡ machine_at t i
same_machine t i j agree = ap machine_from (same_layout t i j agree)

-- and one is sound where the other is
pub same_sound : (t : Taken) (i j : Image) → AgreeOnNamed t i j → IsSound (layout_at t i) → IsSound (layout_at t j)
same_sound t i j agree is = subst IsSound (sym (same_layout t i j agree)) is
