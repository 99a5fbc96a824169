-- Pass 3, volume by volume: it finds nothing exactly where soundness' tests of what it looks at hold.
use Rattle.std.proofs.Common.{◌≡◌, ℕ, ◌+◌, ◌≤◌, true, not, List, [], ◌++◌, sym, ◌∙◌, arith}
use Rattle.std.specs.Prelude.{Some, flat_map, ◌&&◌, ◌||◌, ◌==◌, nat_le, nat_lt}
use Rattle.std.specs.List.{list_all}
use Rattle.std.specs.FinSet as set
use Rattle.std.proofs.lemmas.Bool.{and_parts, and_from}
use Rattle.std.proofs.lemmas.Bool.Decides.{nat_tests}
use Rattle.std.proofs.lemmas.List.Folds.{list_all-map}
use Rattle.fv_codec.specs.declared.inode.InodeRecord.{InodeRecord}
use Rattle.fv_laws.proofs.Lists.{In}
use Rattle.fv_model.specs.Space.{base_ids}
use Rattle.fv_tables.specs.Told.{records}
use Rattle.fv_tables.specs.Reached.{Item, items}
use Rattle.fv_image.specs.Views.{Rooted, Footing, Head, View, kind_at}
use Rattle.fv_image.specs.Held.{Layout}
use Rattle.fv_image.specs.Volumes.{standing_of, volume_told}
use Rattle.fv_image.specs.Seen.{Reached, reached_at, roots_of, own_blocks, base_root, volume_seen}
use Rattle.fv_image.specs.BlockRules.{agree}
use Rattle.fv_image.specs.ReachRules.{kind_of, is_reach}
use Rattle.fv_image.specs.TableRules.{all_items, has_same_id, is_below_mark, is_cell_of, are_levels}
use Rattle.fv_faults.specs.declared.fault.Fault.{Fault}
use Rattle.fv_faults.specs.Lines.{expects}
use Rattle.fv_faults.specs.Walks.{Step, Ground, steps, met_in}
use Rattle.fv_faults.specs.SecondPass.{ground, root_steps}
use Rattle.fv_faults.specs.ThirdPass.{span_lines, map_kind_lines, reach_lines, kind_lines, mark_lines, length_lines, level_lines, table_lines, one_to_one_lines, steps_on, base_steps, volume_lines}
use Rattle.fv_faults.proofs.Clean.{parts_nil, nil_parts, all_from, clean_from, none_of_each, each_none, holds_from, none_from}
use Rattle.fv_faults.proofs.Plain.{IsClean}
use Rattle.fv_faults.proofs.Reached.{reached}
use Rattle.fv_faults.proofs.Third.{kinds_true, no_kind_lines, maps_true, no_reach_lines}
use Rattle.fv_faults.proofs.Marked.{marks_true, no_mark_lines}
use Rattle.fv_faults.proofs.Files.{levels_true, no_level_lines, lengths_true, no_length_lines}
use Rattle.fv_faults.proofs.AllSteps.{ids_true, no_id_lines, stamps_true, no_stamps}

abbrev File : Type 0
File = ℕ × InodeRecord

-- ---- the table of a root

module _ (w : View) (s label : ℕ) (h : Head) (r : ℕ × Rooted) where
  abbrev g : Ground
  g = ground w s h

  abbrev rs : List File
  rs = records (standing_of w s r.1)

  -- what pass 3 asks of a table
  pub record IsThirdTable : Type 0 where
    pub reach : is_reach w s h r ≡ true
    pub kinds : list_all (λ e. kind_at e.at == kind_of e.item) (reached g r.1) ≡ true
    pub marks : list_all (λ e. not (is_below_mark e.item) || nat_le e.item.pointer.stamp e.item.holder.stamp) (reached g r.1) ≡ true
    pub cells : list_all (λ (f : File). list_all (λ e. not (is_cell_of f.0 e.item) || nat_lt e.item.place f.1.length) (reached g r.1)) rs ≡ true
    pub levels : (are_levels 0 r.1.levels r.1.root.stamp && list_all (λ (f : File). are_levels f.1.reserve f.1.levels f.1.root.stamp) rs) ≡ true

  cells_same : list_all (λ (f : File). list_all (λ e. not (is_cell_of f.0 e.item) || nat_lt e.item.place f.1.length) (reached g r.1)) rs
      ≡ list_all (λ (f : File). list_all (λ e. not (is_cell_of f.0 e) || nat_lt e.place f.1.length) (items (standing_of w s r.1))) rs
  cells_same = λ i. list_all (λ (f : File). list_all-map (λ (e : Reached). not (is_cell_of f.0 e.item) || nat_lt e.item.place f.1.length) (reached_at w s) (items (standing_of w s r.1)) i) rs

  module _ (clean : IsClean (steps (ground w s h) label r.1)) where
    abbrev ss : List Step
    ss = steps (ground w s h) label r.1

    pub table_true : table_lines w s label h r ss ≡ [] → IsThirdTable
    unfolding table_lines
    table_true none =
        let a = parts_nil (reach_lines w s h r.0 ss) _ none in
        let b = parts_nil (flat_map kind_lines ss) _ a.1 in
        let c = parts_nil (flat_map mark_lines ss) _ b.1 in
        let d = parts_nil (flat_map (length_lines (flat_map met_in ss)) ss) _ c.1 in
        let e = parts_nil (level_lines label 0 r.1.levels r.1.root) _ d.1 in
        record {
          reach = maps_true w s h r.0 label r.1 clean a.0;
          kinds = kinds_true g label r.1 clean b.0;
          marks = marks_true g label r.1 clean c.0;
          cells = cells_same ∙ lengths_true g r.1 label clean d.0;
          levels = and_from (are_levels 0 r.1.levels r.1.root.stamp) _ (holds_from (are_levels 0 r.1.levels r.1.root.stamp) _ e.0) (levels_true g r.1 label clean e.1);
        }

    pub no_table_lines : r.1.levels ≤ 2 → IsThirdTable → table_lines w s label h r ss ≡ []
    unfolding table_lines
    no_table_lines fits is =
        let levels = and_parts (are_levels 0 r.1.levels r.1.root.stamp) _ is.levels in
        nil_parts (reach_lines w s h r.0 ss) _ (no_reach_lines w s h r.0 label r.1 clean is.reach)
        (nil_parts (flat_map kind_lines ss) _ (no_kind_lines g label r.1 clean is.kinds)
        (nil_parts (flat_map mark_lines ss) _ (no_mark_lines g label r.1 fits clean is.marks)
        (nil_parts (flat_map (length_lines (flat_map met_in ss)) ss) _ (no_length_lines g r.1 label clean fits (sym cells_same ∙ is.cells))
        (nil_parts (level_lines label 0 r.1.levels r.1.root) _ (none_from (are_levels 0 r.1.levels r.1.root.stamp) _ levels.0) (no_level_lines g r.1 label clean fits levels.1)))))

-- ---- a volume

module _ (y : Layout) (s label : ℕ) (h : Head)
    (clean : (r : ℕ × Rooted) → In r (roots_of h) → IsClean (steps (ground y.view s h) label r.1))
    (base_clean : (b : Footing) (g : Head) (r : Rooted) → h.base ≡ Some b → y.view.head b.parent ≡ Some g → base_root y.view b ≡ Some r → IsClean (steps_on y b g r)) where
  abbrev v : View
  v = y.view

  abbrev seen_items : List Item
  seen_items = all_items (volume_seen v s h)

  -- what pass 3 asks of a volume
  pub record IsThirdVolume : Type 0 where
    pub span : nat_le (h.most + (set.len (base_ids (volume_told v s h).base) + 256)) h.span ≡ true
    pub maps : list_all (λ (b : ℕ × ℕ). kind_at (v.entry s b.0) == b.1) (own_blocks v.version h) ≡ true
    pub tables : (r : ℕ × Rooted) → In r (roots_of h) → IsThirdTable v s label h r
    pub ids : list_all (λ a. list_all (λ b. agree (has_same_id a b) (a.pointer.vvbn == b.pointer.vvbn)) seen_items) seen_items ≡ true
    pub stamps : list_all (λ e. nat_le e.pointer.stamp h.now) seen_items ≡ true

  abbrev of_map : ℕ × ℕ → List Fault
  of_map b = expects 9 label b.1 (kind_at (v.entry s b.0))

  turned : (a b : ℕ) → (a == b) ≡ (b == a)
  turned a b = grind (arith, nat_tests)

  abbrev of_table : ℕ × Rooted → List Fault
  of_table r = table_lines v s label h r (steps (ground v s h) label r.1)

  abbrev all : List Step
  all = root_steps v s label h ++ base_steps y h.base

  pub volume_true : volume_lines y s label h ≡ [] → IsThirdVolume
  unfolding volume_lines span_lines map_kind_lines
  volume_true none =
      let a = parts_nil (span_lines v s label h) _ none in
      let b = parts_nil (map_kind_lines v s label h) _ a.1 in
      let c = parts_nil (flat_map of_table (roots_of h)) _ b.1 in
      let d = parts_nil (one_to_one_lines all) _ c.1 in
      record {
        span = holds_from _ _ a.0;
        maps = all_from of_map (λ (b : ℕ × ℕ). kind_at (v.entry s b.0) == b.1) (λ b one. turned (kind_at (v.entry s b.0)) b.1 ∙ holds_from (b.1 == kind_at (v.entry s b.0)) _ one) (own_blocks v.version h) b.0;
        tables = λ r there. table_true v s label h r (clean r there) (none_of_each of_table (roots_of h) c.0 r there);
        ids = ids_true y s label h clean base_clean d.0;
        stamps = stamps_true y s label h clean base_clean d.1;
      }

  pub no_volume_lines : ((r : ℕ × Rooted) → In r (roots_of h) → r.1.levels ≤ 2) → IsThirdVolume → volume_lines y s label h ≡ []
  unfolding volume_lines span_lines map_kind_lines
  no_volume_lines fits is =
      nil_parts (span_lines v s label h) _ (none_from _ _ is.span)
      (nil_parts (map_kind_lines v s label h) _ (clean_from of_map (λ (b : ℕ × ℕ). kind_at (v.entry s b.0) == b.1) (λ b one. none_from (b.1 == kind_at (v.entry s b.0)) _ (turned b.1 (kind_at (v.entry s b.0)) ∙ one)) (own_blocks v.version h) is.maps)
      (nil_parts (flat_map of_table (roots_of h)) _ (each_none of_table (roots_of h) (λ r there. no_table_lines v s label h r (clean r there) (fits r there) (is.tables r there)))
      (nil_parts (one_to_one_lines all) _ (no_id_lines y s label h clean base_clean is.ids) (no_stamps y s label h clean base_clean is.stamps))))
