-- Passes 3 and 4 as a whole, both ways, where passes 1 and 2 find nothing.
use Rattle.std.proofs.Common.{◌≡◌, ℕ, ◌+◌, ◌<◌, Bool, true, false, not, List, [], ◌++◌, refl, sym, ap, ◌∙◌}
use Rattle.std.specs.Prelude.{Some, flat_map, ◌&&◌, ◌||◌, ◌==◌, nat_le, nat_lt}
use Rattle.std.specs.List.{list_all}
use Rattle.std.specs.Option.{is_none}
use Rattle.std.specs.FinSet as set
use Rattle.fv_codec.specs.declared.inode.InodeRecord.{InodeRecord}
use Rattle.fv_model.specs.Space.{base_ids, use_of}
use Rattle.fv_laws.proofs.Lists.{In}
use Rattle.fv_laws.proofs.Tests.{from_all, to_all}
use Rattle.fv_image.specs.Views.{Rooted, Head, View, kind_at, leaves_room}
use Rattle.fv_image.specs.Held.{Lying, Layout}
use Rattle.fv_image.specs.Seen.{Root, roots_of, own_blocks, root_seen, volume_seen, seen}
use Rattle.fv_image.specs.BlockRules.{agree, is_held_once, has_true_map}
use Rattle.fv_image.specs.ReachRules.{has_pointers_in_range, has_maps_of_reach, has_map_kinds, has_reached_kinds, is_reach, kind_of}
use Rattle.fv_image.specs.TableRules.{all_items, has_same_id, has_one_to_one, has_stamps_past, is_below_mark, has_marks_over, is_cell_of, has_cells_within, are_levels, has_levels}
use Rattle.fv_image.specs.HintRules.{is_unknown, is_known, is_true_hint, has_true_hints, is_in_label, leads_unknown, has_known_places, is_splitting, is_copied, is_based, has_split_places, leaves_base, rests_on_base}
use Rattle.fv_image.specs.VolumeRules.{has_bases, has_wide_spans, has_use_in_size, has_commits_in_capacity}
use Rattle.fv_faults.specs.declared.fault.Fault.{Fault}
use Rattle.fv_faults.specs.SecondPass.{in_volumes, root_steps}
use Rattle.fv_faults.specs.ThirdPass.{twice_held, map_lines, volume_lines, third_pass}
use Rattle.fv_faults.specs.FourthPass.{hint_lines, unknown_lines, place_lines, use_lines, commit_lines, room_lines, fourth_pass}
use Rattle.fv_faults.proofs.Clean.{parts_nil, nil_parts}
use Rattle.fv_faults.proofs.BlockLines.{held_once, none_twice, map_true, no_bits, fits_capacity, no_commits, has_room, no_room_lines}
use Rattle.fv_faults.proofs.EachVolume.{HasLines, volumes_say, silent_volumes, volume_test, test_volumes, root_test, test_roots, view_test, test_view}
use Rattle.fv_faults.proofs.Second.{few_levels, IsRead, AllClean}
use Rattle.fv_faults.proofs.Premises.{own_clean, base_clean, own_below, base_below}
use Rattle.fv_faults.proofs.ThirdTables.{IsThirdVolume, volume_true, no_volume_lines}
use Rattle.fv_faults.proofs.FourthTables.{IsFourthVolume, fourth_true, no_fourth_lines}
use Rattle.fv_faults.proofs.Splits.{split_test, roots_split}

abbrev File : Type 0
File = ℕ × InodeRecord

module _ (y : Layout) (is : IsRead y) (low_label : (s : ℕ) (x : Lying) → y.label s ≡ Some x → s < 64) (clean : AllClean y is)
    (ranges : has_pointers_in_range (seen y.view) ≡ true) (bases : has_bases (seen y.view) ≡ true) where
  abbrev w : View
  w = y.view

  -- what pass 3 looks at
  pub record IsThird : Type 0 where
    pub once : is_held_once y ≡ true
    pub map : has_true_map y ≡ true
    pub spans : has_wide_spans (seen w) ≡ true
    pub reach : has_maps_of_reach w ≡ true
    pub map_kinds : has_map_kinds w ≡ true
    pub kinds : has_reached_kinds (seen w) ≡ true
    pub ids : has_one_to_one (seen w) ≡ true
    pub stamps : has_stamps_past (seen w) ≡ true
    pub marks : has_marks_over (seen w) ≡ true
    pub cells : has_cells_within (seen w) ≡ true
    pub levels : has_levels (seen w) ≡ true

  abbrev OfThird : (s : ℕ) (x : Lying) (h : Head) → s < 64 → y.label s ≡ Some x → w.head s ≡ Some h → Type 0
  OfThird s x h low lies head = IsThirdVolume y s x.place h (own_clean y is low_label clean ranges bases s x h low lies head) (base_clean y is low_label clean ranges bases s x h low lies head)

  module _ (none : third_pass y ≡ []) where
    third_parts : (twice_held y ≡ []) × ((map_lines y ≡ []) × (in_volumes y (volume_lines y) ≡ []))
    unfolding third_pass
    third_parts =
        let a = parts_nil (twice_held y) _ none in
        let b = parts_nil (map_lines y) _ a.1 in
        (a.0, (b.0, b.1))

    said : (s : ℕ) (h : Head) → s < 64 → w.head s ≡ Some h → HasLines y (volume_lines y) s h
    said s h low head = volumes_say y (volume_lines y) is.heads third_parts.1.1 s h low head

    of_third : (s : ℕ) (h : Head) (low : s < 64) (head : w.head s ≡ Some h) → OfThird s (said s h low head).lying h low (said s h low head).label head
    of_third s h low head =
        volume_true y s (said s h low head).lying.place h (own_clean y is low_label clean ranges bases s (said s h low head).lying h low (said s h low head).label head)
        (base_clean y is low_label clean ranges bases s (said s h low head).lying h low (said s h low head).label head) (said s h low head).none

    pub third_true : IsThird
    unfolding has_wide_spans has_maps_of_reach has_map_kinds has_reached_kinds has_one_to_one has_stamps_past has_marks_over has_cells_within has_levels root_seen volume_seen
    third_true = record {
      once = held_once y third_parts.0;
      map = map_true y third_parts.1.0;
      spans = test_volumes w (λ s x. nat_le (x.head.most + (set.len (base_ids x.volume.base) + 256)) x.head.span) (λ s h low head. (of_third s h low head).span);
      reach = test_view w (λ s h. list_all (is_reach w s h) (roots_of h)) (λ s h low head. to_all (is_reach w s h) (roots_of h) (λ r there. ((of_third s h low head).tables r there).reach));
      map_kinds = test_view w (λ s h. list_all (λ (b : ℕ × ℕ). kind_at (w.entry s b.0) == b.1) (own_blocks w.version h)) (λ s h low head. (of_third s h low head).maps);
      kinds = test_roots w (λ x r. list_all (λ e. kind_at e.at == kind_of e.item) r.reached) (λ s h low head r there. ((of_third s h low head).tables r there).kinds);
      ids = test_volumes w (λ s x. list_all (λ a. list_all (λ b. agree (has_same_id a b) (a.pointer.vvbn == b.pointer.vvbn)) (all_items x)) (all_items x)) (λ s h low head. (of_third s h low head).ids);
      stamps = test_volumes w (λ s x. list_all (λ e. nat_le e.pointer.stamp x.head.now) (all_items x)) (λ s h low head. (of_third s h low head).stamps);
      marks = test_roots w (λ x r. list_all (λ e. not (is_below_mark e.item) || nat_le e.item.pointer.stamp e.item.holder.stamp) r.reached) (λ s h low head r there. ((of_third s h low head).tables r there).marks);
      cells = test_roots w (λ x r. list_all (λ (f : File). list_all (λ e. not (is_cell_of f.0 e.item) || nat_lt e.item.place f.1.length) r.reached) r.files) (λ s h low head r there. ((of_third s h low head).tables r there).cells);
      levels = test_roots w (λ x r. are_levels 0 r.rooted.levels r.rooted.root.stamp && list_all (λ (f : File). are_levels f.1.reserve f.1.levels f.1.root.stamp) r.files) (λ s h low head r there. ((of_third s h low head).tables r there).levels);
    }

  pub no_third : IsThird → third_pass y ≡ []
  unfolding third_pass has_wide_spans has_maps_of_reach has_map_kinds has_reached_kinds has_one_to_one has_stamps_past has_marks_over has_cells_within has_levels root_seen volume_seen
  no_third are = nil_parts (twice_held y) _ (none_twice y are.once) (nil_parts (map_lines y) _ (no_bits y are.map)
      (silent_volumes y (volume_lines y) (λ s x h low lies head.
      no_volume_lines y s x.place h (own_clean y is low_label clean ranges bases s x h low lies head) (base_clean y is low_label clean ranges bases s x h low lies head) (few_levels w h (is.numbers s h head)) (record {
        span = volume_test w (λ s x. nat_le (x.head.most + (set.len (base_ids x.volume.base) + 256)) x.head.span) are.spans s h low head;
        maps = view_test w (λ s h. list_all (λ (b : ℕ × ℕ). kind_at (w.entry s b.0) == b.1) (own_blocks w.version h)) are.map_kinds s h low head;
        tables = λ r there. record {
          reach = from_all (is_reach w s h) (roots_of h) (view_test w (λ s h. list_all (is_reach w s h) (roots_of h)) are.reach s h low head) r there;
          kinds = root_test w (λ x r. list_all (λ e. kind_at e.at == kind_of e.item) r.reached) are.kinds s h low head r there;
          marks = root_test w (λ x r. list_all (λ e. not (is_below_mark e.item) || nat_le e.item.pointer.stamp e.item.holder.stamp) r.reached) are.marks s h low head r there;
          cells = root_test w (λ x r. list_all (λ (f : File). list_all (λ e. not (is_cell_of f.0 e.item) || nat_lt e.item.place f.1.length) r.reached) r.files) are.cells s h low head r there;
          levels = root_test w (λ x r. are_levels 0 r.rooted.levels r.rooted.root.stamp && list_all (λ (f : File). are_levels f.1.reserve f.1.levels f.1.root.stamp) r.files) are.levels s h low head r there;
        };
        ids = volume_test w (λ s x. list_all (λ a. list_all (λ b. agree (has_same_id a b) (a.pointer.vvbn == b.pointer.vvbn)) (all_items x)) (all_items x)) are.ids s h low head;
        stamps = volume_test w (λ s x. list_all (λ e. nat_le e.pointer.stamp x.head.now) (all_items x)) are.stamps s h low head;
      }))))

  -- ---- pass 4

  -- what pass 4 looks at
  pub record IsFourth : Type 0 where
    pub hints : has_true_hints (seen w) ≡ true
    pub unknown : leads_unknown (seen w) ≡ true
    pub known : has_known_places (seen w) ≡ true
    pub split : has_split_places (seen w) ≡ true
    pub leaves : leaves_base (seen w) ≡ true
    pub rests : rests_on_base (seen w) ≡ true
    pub sizes : has_use_in_size (seen w) ≡ true
    pub commits : has_commits_in_capacity (seen w) ≡ true
    pub room : leaves_room w 0 ≡ true

  abbrev of_volume : ℕ → ℕ → Head → List Fault
  of_volume s label h = flat_map hint_lines (root_steps w s label h) ++ (flat_map unknown_lines (root_steps w s label h) ++ (place_lines w s label h ++ use_lines w s label h))

  abbrev OfFourth : (s : ℕ) (x : Lying) (h : Head) → s < 64 → y.label s ≡ Some x → w.head s ≡ Some h → Type 0
  OfFourth s x h low lies head = IsFourthVolume w s x.place h (own_clean y is low_label clean ranges bases s x h low lies head) (few_levels w h (is.numbers s h head))
      (own_below y is low_label clean ranges bases s x h low lies head) (base_below y is low_label clean ranges bases s x h low lies head)

  -- the rule on splits of one root, by that of all
  split_root : (s : ℕ) (h : Head) (r : ℕ × Rooted) → In r (roots_of h) → (is_splitting h.base ≡ true → roots_split w s h (roots_of h) ≡ true)
      → (not (is_splitting h.base) || list_all (split_test w s h r) (root_seen w s r.0 r.1).reached) ≡ true
  unfolding root_seen
  split_root s h r there all = so (is_splitting h.base) all
    where
      so : (b : Bool) → (b ≡ true → roots_split w s h (roots_of h) ≡ true) → (not b || list_all (split_test w s h r) (root_seen w s r.0 r.1).reached) ≡ true
      so true all = from_all (λ (r : ℕ × Rooted). list_all (split_test w s h r) (root_seen w s r.0 r.1).reached) (roots_of h) (all refl) r there
      so false all = refl

  root_split : (s : ℕ) (h : Head) → ((r : ℕ × Rooted) → In r (roots_of h) → (not (is_splitting h.base) || list_all (split_test w s h r) (root_seen w s r.0 r.1).reached) ≡ true)
      → is_splitting h.base ≡ true → roots_split w s h (roots_of h) ≡ true
  unfolding root_seen
  root_split s h each splitting = to_all (λ (r : ℕ × Rooted). list_all (split_test w s h r) (root_seen w s r.0 r.1).reached) (roots_of h) (λ r there.
      sym (ap (λ (b : Bool). not b || list_all (split_test w s h r) (root_seen w s r.0 r.1).reached) splitting) ∙ each r there)

  module _ (root : ℕ) where
    fourth_parts : fourth_pass root y ≡ [] → (in_volumes y of_volume ≡ []) × ((commit_lines root w ≡ []) × (room_lines root w ≡ []))
    unfolding fourth_pass
    fourth_parts none =
        let a = parts_nil (in_volumes y of_volume) _ none in
        let b = parts_nil (commit_lines root w) _ a.1 in
        (a.0, (b.0, b.1))

    module _ (none : fourth_pass root y ≡ []) where
      told : (s : ℕ) (h : Head) → s < 64 → w.head s ≡ Some h → HasLines y of_volume s h
      told s h low head = volumes_say y of_volume is.heads (fourth_parts none).0 s h low head

      of_fourth : (s : ℕ) (h : Head) (low : s < 64) (head : w.head s ≡ Some h) → OfFourth s (told s h low head).lying h low (told s h low head).label head
      of_fourth s h low head =
          fourth_true w s (told s h low head).lying.place h (own_clean y is low_label clean ranges bases s (told s h low head).lying h low (told s h low head).label head) (few_levels w h (is.numbers s h head))
          (own_below y is low_label clean ranges bases s (told s h low head).lying h low (told s h low head).label head) (base_below y is low_label clean ranges bases s (told s h low head).lying h low (told s h low head).label head)
          (told s h low head).none

      pub all_fourth : IsFourth
      unfolding has_true_hints leads_unknown has_known_places has_split_places leaves_base rests_on_base has_use_in_size root_seen volume_seen
      all_fourth = record {
        hints = test_roots w (λ x r. list_all (λ e. is_true_hint e.item.pointer e.at) r.reached) (λ s h low head r there. (of_fourth s h low head).hints r there);
        unknown = test_roots w (λ x r. list_all (λ e. not (is_unknown e.item.pointer) || (is_in_label e.item || (e.item.holder.pvbn == 0))) r.reached) (λ s h low head r there. (of_fourth s h low head).unknown r there);
        known = test_volumes w (λ s x. list_all (λ (r : Root). list_all (λ e. not x.head.known || not (is_unknown e.item.pointer)) r.reached) x.roots) (λ s h low head. (of_fourth s h low head).known);
        split = test_roots w (λ x r. not (is_splitting x.head.base) || list_all (λ e. not (is_known e.item.pointer)
            || not (is_in_label e.item || (is_copied x r e.item.pointer.vvbn || is_copied x r e.item.holder.vvbn))) r.reached) (λ s h low head r there. split_root s h r there (of_fourth s h low head).split);
        leaves = test_volumes w (λ s x. list_all (λ b. not b.own) x.base) (λ s h low head. (of_fourth s h low head).leaves);
        rests = test_volumes w (λ s x. list_all (λ (r : Root). is_none x.head.base || list_all (λ e. e.own || is_based x e.item.pointer.vvbn) r.reached) x.roots) (λ s h low head. (of_fourth s h low head).rests);
        sizes = test_volumes w (λ s x. nat_le (use_of x.volume) x.head.size) (λ s h low head. (of_fourth s h low head).size);
        commits = fits_capacity root w (fourth_parts none).1.0;
        room = has_room root w (fourth_parts none).1.1;
      }

    pub no_fourth : IsFourth → fourth_pass root y ≡ []
    unfolding fourth_pass has_true_hints leads_unknown has_known_places has_split_places leaves_base rests_on_base has_use_in_size root_seen volume_seen
    no_fourth are = nil_parts (in_volumes y of_volume) _
        (silent_volumes y of_volume (λ s x h low lies head.
        no_fourth_lines w s x.place h (own_clean y is low_label clean ranges bases s x h low lies head) (few_levels w h (is.numbers s h head))
        (own_below y is low_label clean ranges bases s x h low lies head) (base_below y is low_label clean ranges bases s x h low lies head) (record {
          hints = λ r there. root_test w (λ x r. list_all (λ e. is_true_hint e.item.pointer e.at) r.reached) are.hints s h low head r there;
          unknown = λ r there. root_test w (λ x r. list_all (λ e. not (is_unknown e.item.pointer) || (is_in_label e.item || (e.item.holder.pvbn == 0))) r.reached) are.unknown s h low head r there;
          known = volume_test w (λ s x. list_all (λ (r : Root). list_all (λ e. not x.head.known || not (is_unknown e.item.pointer)) r.reached) x.roots) are.known s h low head;
          split = root_split s h (λ r there. root_test w (λ x r. not (is_splitting x.head.base) || list_all (λ e. not (is_known e.item.pointer)
              || not (is_in_label e.item || (is_copied x r e.item.pointer.vvbn || is_copied x r e.item.holder.vvbn))) r.reached) are.split s h low head r there);
          leaves = volume_test w (λ s x. list_all (λ b. not b.own) x.base) are.leaves s h low head;
          rests = volume_test w (λ s x. list_all (λ (r : Root). is_none x.head.base || list_all (λ e. e.own || is_based x e.item.pointer.vvbn) r.reached) x.roots) are.rests s h low head;
          size = volume_test w (λ s x. nat_le (use_of x.volume) x.head.size) are.sizes s h low head;
        })))
        (nil_parts (commit_lines root w) _ (no_commits root w are.commits) (no_room_lines root w are.room))
