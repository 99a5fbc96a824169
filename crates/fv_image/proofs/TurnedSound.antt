-- The rules on tables hold of a view in which one volume was turned to another table or to other snapshots: each root that it has now is an old
-- one. What isn't so by itself is asked for: that names of snapshots differ, and that uses and commits fit, which refusals for space decide.
use Rattle.std.proofs.Common.{◌≡◌, ◌≢◌, ◌⊎◌, ℕ, zero, suc, ◌+◌, ◌<◌, Bool, true, false, not, List, [], ◌∷◌, map, flat_map, inl, inr, refl, sym, ap, subst, ◌∙◌, ⊎_elim}
use Rattle.std.specs.Prelude.{take, Option, Some, None, ◌&&◌, ◌||◌, ◌==◌, nat_lt, nat_le, if◌then◌else◌}
use Rattle.std.specs.List.{list_all}
use Rattle.std.specs.Option.{is_some, is_none, option_map, option_map_or, option_and_then}
use Rattle.std.specs.FinSet as set
use Rattle.std.proofs.lemmas.Bool.{cases_eq}
use Rattle.fv_codec.specs.declared.inode.InodeRecord.{InodeRecord}
use Rattle.fv_model.specs.Spelling.{is_same_name}
use Rattle.fv_model.specs.Space.{base_ids, use_of}
use Rattle.fv_laws.proofs.Lists.{In, in_left, in_right, in_either, in_map, from_map, from_filter, in_flat_map, from_flat_map}
use Rattle.fv_laws.proofs.Tests.{from_all, to_all}
use Rattle.fv_tables.specs.Told.{records}
use Rattle.fv_tables.specs.Reached.{Item, items}
use Rattle.fv_image.specs.Views.{Rooted, Snap, Footing, Head, View, slots, kind_at}
use Rattle.fv_image.specs.BlockRules.{agree, is_fine}
use Rattle.fv_image.specs.Volumes.{table_at, snap_at, volume_with, volume_told}
use Rattle.fv_image.specs.Seen.{Reached, Root, Based, VolumeSeen, Seen, reached_at, root_seen, roots_of, base_root, based_on, base_seen, volume_seen, seen}
use Rattle.fv_image.specs.ReachRules.{all_volumes, all_roots, kind_of, shape_for, block_is, has_reached_shapes, is_hint, has_pointers_in_range, is_of_position, has_reached_positions, are_distinct, has_distinct_files, is_same_position, reaches_once, has_reached_kinds}
use Rattle.fv_image.specs.TableRules.{all_items, has_same_id, has_one_to_one, has_stamps_past, is_below_mark, has_marks_over, is_cell_of, has_cells_within, are_levels, has_levels}
use Rattle.fv_image.specs.HintRules.{is_known, is_true_hint, has_true_hints, is_in_label, leads_unknown, has_known_places, is_splitting, is_based, is_copied, has_split_places, leaves_base, rests_on_base, is_unknown}
use Rattle.fv_image.specs.VolumeRules.{has_wide_spans, footing_in, comes_to_end, can_bear, has_footing, has_bases, has_distinct_snapshots, has_use_in_size, has_commits_in_capacity}
use Rattle.fv_image.specs.Soundness.{AreTables}
use Rattle.fv_image.specs.Turned.{turned, Turns, KeepsBases, added, without}
use Rattle.fv_image.proofs.SameSeen.{of_volume, seen_at}
use Rattle.fv_image.proofs.TurnedViews.{turned_place, turned_standing, turned_table, volume_same}

-- each root that the volume has now is one that it had
pub record AreAmong (h : Head) (a : Rooted) (ps : List Snap) : Type 0 where
  pub active : (m : ℕ) × In (m, a) (roots_of h)
  pub each : (p : Snap) → In p ps → (m : ℕ) × In (m, p.table) (roots_of h)

module _ (w u : View) (s : ℕ) (h : Head) (small : s < 64) (a : Rooted) (ps : List Snap) (turns : Turns w u s h a ps) (keeps : KeepsBases w s h ps) where
  -- ---- what is seen

  reached_same : (k : ℕ) (e : Item) → reached_at u k e ≡ reached_at w k e
  reached_same k e = λ i. record { item = e; at = turned_place w u s h a ps turns k e.pointer.vvbn i; own = is_some (turns.entries k e.pointer.vvbn i) }

  root_same : (k m : ℕ) (r : Rooted) → root_seen u k m r ≡ root_seen w k m r
  unfolding root_seen
  root_same k m r = λ i. record {
    map = m;
    rooted = r;
    files = records (turned_standing w u s h a ps turns k r i);
    reached = map (λ (e : Item). reached_same k e i) (items (turned_standing w u s h a ps turns k r i));
  }

  roots_same : (k : ℕ) (rs : List (ℕ × Rooted)) → map (λ (r : ℕ × Rooted). root_seen u k r.0 r.1) rs ≡ map (λ (r : ℕ × Rooted). root_seen w k r.0 r.1) rs
  roots_same k rs = λ i. map (λ (r : ℕ × Rooted). root_same k r.0 r.1 i) rs

  -- the root that a clone stands on
  base_root_same : (k : ℕ) (g : Head) (b : Footing) → w.head k ≡ Some g → g.base ≡ Some b → base_root u b ≡ base_root w b
  unfolding snap_at
  base_root_same k g b there based = ⊎_elim
      (λ (at : b.parent ≡ s).
      ap (λ (n : ℕ). option_and_then (λ g. option_map (λ p. p.table) (snap_at g b.slot)) (u.head n)) at
      ∙ ap (option_and_then (λ g. option_map (λ p. p.table) (snap_at g b.slot))) turns.now
      ∙ ap (option_map (λ (p : Snap). p.table)) (keeps.each k g b there based at)
      ∙ sym (ap (λ (n : ℕ). option_and_then (λ g. option_map (λ p. p.table) (snap_at g b.slot)) (w.head n)) at ∙ ap (option_and_then (λ g. option_map (λ p. p.table) (snap_at g b.slot))) turns.was))
      (λ other. ap (option_and_then (λ g. option_map (λ p. p.table) (snap_at g b.slot))) (turns.others b.parent other))
      (cases_eq b.parent s)

  base_seen_same : (k : ℕ) (g : Head) → w.head k ≡ Some g → base_seen u k g.base ≡ base_seen w k g.base
  unfolding base_seen
  base_seen_same k g there = so g.base refl
    where
      so : (o : Option Footing) → g.base ≡ o → option_map_or (λ b. option_map_or (based_on u k b) (base_root u b) []) o [] ≡ option_map_or (λ b. option_map_or (based_on w k b) (base_root w b) []) o []
      so None based = refl
      so (Some b) based = ap (λ (o : Option Rooted). option_map_or (based_on u k b) o []) (base_root_same k g b there based) ∙ on (base_root w b)
        where
          on : (o : Option Rooted) → option_map_or (based_on u k b) o [] ≡ option_map_or (based_on w k b) o []
          on None = refl
          on (Some r) = λ i. map (λ (e : Item). record { item = e; own = not b.splitting && is_some (turns.entries k e.pointer.vvbn i) }) (items (turned_standing w u s h a ps turns b.parent r i))

  volume_seen_same : (k : ℕ) (g f : Head) → w.head k ≡ Some f → f.base ≡ g.base → volume_seen u k g ≡ volume_seen w k g
  unfolding volume_seen
  volume_seen_same k g f there base = λ i. record {
    head = g;
    volume = (ap (volume_with u k g) (turned_table w u s h a ps turns k g.active) ∙ volume_same w u s h a ps turns keeps k g f there base (table_at w k g.active)) i;
    roots = roots_same k (roots_of g) i;
    base = (ap (base_seen u k) (sym base) ∙ base_seen_same k f there ∙ ap (base_seen w k) base) i;
  }

  abbrev x : VolumeSeen
  x = volume_seen w s h

  abbrev y : VolumeSeen
  y = volume_seen w s (turned h a ps)

  others_seen : (k : ℕ) → k ≢ s → (seen u).volume k ≡ (seen w).volume k
  unfolding seen
  others_seen k other = ap (λ (o : Option Head). option_map (volume_seen u k) (if nat_lt k 64 then o else None)) (turns.others k other) ∙ so (nat_lt k 64) (w.head k) refl
    where
      so : (b : Bool) (o : Option Head) → w.head k ≡ o → option_map (volume_seen u k) (if b then o else None) ≡ option_map (volume_seen w k) (if b then o else None)
      so false o there = refl
      so true None there = refl
      so true (Some g) there = ap (λ (v : VolumeSeen). Some v) (volume_seen_same k g g there refl)

  here_seen : (seen u).volume s ≡ Some y
  here_seen = seen_at u s (turned h a ps) small turns.now ∙ ap (λ (v : VolumeSeen). Some v) (volume_seen_same s (turned h a ps) h turns.was refl)

  -- ---- a rule of each volume

  all_turned : (test : ℕ → VolumeSeen → Bool) → all_volumes (seen w) test ≡ true → test s y ≡ true → all_volumes (seen u) test ≡ true
  unfolding slots
  all_turned test all here = to_all (λ k. option_map_or (test k) ((seen u).volume k) true) slots (λ k there. ⊎_elim
      (λ (e : k ≡ s). subst (λ (n : ℕ). option_map_or (test n) ((seen u).volume n) true ≡ true) (sym e) (ap (λ (o : Option VolumeSeen). option_map_or (test s) o true) here_seen ∙ here))
      (λ other. ap (λ (o : Option VolumeSeen). option_map_or (test k) o true) (others_seen k other) ∙ from_all (λ k. option_map_or (test k) ((seen w).volume k) true) slots all k there)
      (cases_eq k s))

  -- what is asked of the volume before
  was : (test : ℕ → VolumeSeen → Bool) → all_volumes (seen w) test ≡ true → test s x ≡ true
  was test all = of_volume w test s h all small turns.was

  -- a rule that looks at the volume as it was before
  by_volume : (test : ℕ → VolumeSeen → Bool) → test s y ≡ test s x → all_volumes (seen w) test ≡ true → all_volumes (seen u) test ≡ true
  by_volume test same all = all_turned test all (same ∙ was test all)

  module _ (among : AreAmong h a ps) where
    -- a root that the volume has now, with the slot under which it was one
    among_roots : (n : ℕ) (r : Rooted) → In (n, r) (roots_of (turned h a ps)) → (m : ℕ) × In (m, r) (roots_of h)
    among_roots n r (inl e) = subst (λ (q : ℕ × Rooted). (m : ℕ) × In (m, q.1) (roots_of h)) e among.active
    among_roots n r (inr there) =
        let p = from_map (λ (p : Snap). (p.slot, p.table)) (n, r) ps there in
        subst (λ (q : ℕ × Rooted). (m : ℕ) × In (m, q.1) (roots_of h)) p.2 (among.each p.0 p.1)

    -- a test of each root that looks neither at what changed of the volume nor at a map's slot
    each_root : (test : VolumeSeen → Root → Bool) → ((r : Root) → test y r ≡ test x r) → ((m n : ℕ) (r : Rooted) → test x (root_seen w s m r) ≡ test x (root_seen w s n r))
        → list_all (test x) x.roots ≡ true → list_all (test y) y.roots ≡ true
    unfolding volume_seen
    each_root test volume free all = to_all (test y) (map (λ (r : ℕ × Rooted). root_seen w s r.0 r.1) (roots_of (turned h a ps))) (λ r there.
        let q = from_map (λ (r : ℕ × Rooted). root_seen w s r.0 r.1) r (roots_of (turned h a ps)) there in
        let old = among_roots q.0.0 q.0.1 q.1 in
        let is : test x (root_seen w s old.0 q.0.1) ≡ true = from_all (test x) (map (λ (r : ℕ × Rooted). root_seen w s r.0 r.1) (roots_of h)) all (root_seen w s old.0 q.0.1) (in_map (λ (r : ℕ × Rooted). root_seen w s r.0 r.1) (old.0, q.0.1) (roots_of h) old.1) in
        volume r ∙ sym (ap (test x) q.2) ∙ free q.0.0 old.0 q.0.1 ∙ is)

    by_roots : (test : VolumeSeen → Root → Bool) → ((r : Root) → test y r ≡ test x r) → ((m n : ℕ) (r : Rooted) → test x (root_seen w s m r) ≡ test x (root_seen w s n r))
        → all_roots (seen w) test ≡ true → all_roots (seen u) test ≡ true
    by_roots test volume free all = all_turned (λ k x. list_all (test x) x.roots) all (each_root test volume free (was (λ k x. list_all (test x) x.roots) all))

    -- all that the volume's tables and its base table reach was reached before
    among_items : (e : Item) → In e (all_items y) → In e (all_items x)
    unfolding volume_seen root_seen
    among_items e there = ⊎_elim
        (λ own.
        let root = from_flat_map (λ (r : Root). map (λ (e : Reached). e.item) r.reached) e (map (λ (r : ℕ × Rooted). root_seen w s r.0 r.1) (roots_of (turned h a ps))) own in
        let q = from_map (λ (r : ℕ × Rooted). root_seen w s r.0 r.1) root.0 (roots_of (turned h a ps)) root.1 in
        let old = among_roots q.0.0 q.0.1 q.1 in
        let here : In e (map (λ (e : Reached). e.item) (root_seen w s q.0.0 q.0.1).reached) = subst (λ (r : Root). In e (map (λ (e : Reached). e.item) r.reached)) (sym q.2) root.2 in
        in_left e (flat_map (λ (r : Root). map (λ (e : Reached). e.item) r.reached) x.roots) (map (λ (b : Based). b.item) x.base)
        (in_flat_map (λ (r : Root). map (λ (e : Reached). e.item) r.reached) (root_seen w s old.0 q.0.1) e x.roots (in_map (λ (r : ℕ × Rooted). root_seen w s r.0 r.1) (old.0, q.0.1) (roots_of h) old.1) here))
        (λ based. in_right e (flat_map (λ (r : Root). map (λ (e : Reached). e.item) r.reached) x.roots) (map (λ (b : Based). b.item) x.base) based)
        (in_either e (flat_map (λ (r : Root). map (λ (e : Reached). e.item) r.reached) y.roots) (map (λ (b : Based). b.item) y.base) there)

    fewer_items : (test : Item → Bool) → list_all test (all_items x) ≡ true → list_all test (all_items y) ≡ true
    fewer_items test all = to_all test (all_items y) (λ e there. from_all test (all_items x) all e (among_items e there))

    -- ---- the rules

    shapes : has_reached_shapes (seen w) ≡ true → has_reached_shapes (seen u) ≡ true
    unfolding has_reached_shapes root_seen
    shapes = by_roots (λ x r. list_all (λ e. block_is (λ block. is_fine (shape_for e.item block)) e.at) r.reached) (λ r. refl) (λ m n r. refl)

    ranges : has_pointers_in_range (seen w) ≡ true → has_pointers_in_range (seen u) ≡ true
    unfolding has_pointers_in_range volume_seen root_seen seen
    ranges all = by_roots (λ x r. list_all (λ e. nat_lt e.item.pointer.vvbn x.head.span && is_hint u.blocks e.item.pointer.pvbn) r.reached) (λ r. refl) (λ m n r. refl)
        (subst (λ (n : ℕ). all_roots (seen w) (λ x r. list_all (λ e. nat_lt e.item.pointer.vvbn x.head.span && is_hint n e.item.pointer.pvbn) r.reached) ≡ true) (sym turns.blocks) all)

    spans : has_wide_spans (seen w) ≡ true → has_wide_spans (seen u) ≡ true
    unfolding has_wide_spans volume_seen volume_with
    spans = by_volume (λ s x. nat_le (x.head.most + (set.len (base_ids x.volume.base) + 256)) x.head.span) refl

    footings : (k : ℕ) → footing_in (seen u) k ≡ footing_in (seen w) k
    unfolding volume_seen
    footings k = ⊎_elim
        (λ (e : k ≡ s). subst (λ (n : ℕ). footing_in (seen u) n ≡ footing_in (seen w) n) (sym e)
        (ap (option_and_then (λ x. x.head.base)) here_seen ∙ sym (ap (option_and_then (λ x. x.head.base)) (seen_at w s h small turns.was))))
        (λ other. ap (option_and_then (λ x. x.head.base)) (others_seen k other))
        (cases_eq k s)

    ends : (n k : ℕ) → comes_to_end (seen u) n k ≡ comes_to_end (seen w) n k
    unfolding comes_to_end
    ends zero k = refl
    ends (suc n) k = λ i. option_map_or (λ b. ends n b.parent i) (footings k i) true

    -- a volume that bore another bears it still
    bears : (k : ℕ) (g : Head) (z : VolumeSeen) (b : Footing) → w.head k ≡ Some g → g.base ≡ Some b → has_footing (seen u) z b ≡ has_footing (seen w) z b
    unfolding volume_seen snap_at
    bears k g z b there based = ⊎_elim
        (λ (at : b.parent ≡ s).
        ap (λ (n : ℕ). option_map_or (can_bear z b) ((seen u).volume n) false) at ∙ ap (λ (o : Option VolumeSeen). option_map_or (can_bear z b) o false) here_seen
        ∙ ap (λ (o : Option Snap). is_some o && (nat_le h.span z.head.span && (h.known && not (is_splitting h.base)))) (keeps.each k g b there based at)
        ∙ sym (ap (λ (n : ℕ). option_map_or (can_bear z b) ((seen w).volume n) false) at ∙ ap (λ (o : Option VolumeSeen). option_map_or (can_bear z b) o false) (seen_at w s h small turns.was)))
        (λ other. ap (λ (o : Option VolumeSeen). option_map_or (can_bear z b) o false) (others_seen b.parent other))
        (cases_eq b.parent s)

    -- what the rule on bases asks, with the bases of the second view
    abbrev rests_on : Seen → ℕ → VolumeSeen → Bool
    rests_on v k z = comes_to_end v 64 k && option_map_or (has_footing v z) z.head.base true

    bases : has_bases (seen w) ≡ true → has_bases (seen u) ≡ true
    unfolding has_bases seen volume_seen slots
    bases all = all_turned (rests_on (seen u)) (to_all (λ k. option_map_or (rests_on (seen u) k) ((seen w).volume k) true) slots (λ k there. each k (from_all (λ k. option_map_or (rests_on (seen w) k) ((seen w).volume k) true) slots all k there))) here
      where
        foot : (k : ℕ) (g : Head) → w.head k ≡ Some g → (z : VolumeSeen) (o : Option Footing) → g.base ≡ o → option_map_or (has_footing (seen u) z) o true ≡ option_map_or (has_footing (seen w) z) o true
        foot k g there z None based = refl
        foot k g there z (Some b) based = bears k g z b there based

        each : (k : ℕ) → option_map_or (rests_on (seen w) k) ((seen w).volume k) true ≡ true → option_map_or (rests_on (seen u) k) ((seen w).volume k) true ≡ true
        each k = so (nat_lt k 64) (w.head k) refl
          where
            so : (b : Bool) (o : Option Head) → w.head k ≡ o → option_map_or (rests_on (seen w) k) (option_map (volume_seen w k) (if b then o else None)) true ≡ true → option_map_or (rests_on (seen u) k) (option_map (volume_seen w k) (if b then o else None)) true ≡ true
            so false o there is = refl
            so true None there is = refl
            so true (Some g) there is = (λ i. ends 64 k i && foot k g there (volume_seen w k g) g.base refl i) ∙ is

        here : rests_on (seen u) s y ≡ true
        here = (λ i. ends 64 s i && foot s h turns.was x h.base refl i) ∙ was (rests_on (seen w)) all

    files : has_distinct_files (seen w) ≡ true → has_distinct_files (seen u) ≡ true
    unfolding has_distinct_files root_seen
    files = by_roots (λ x r. are_distinct (map (λ (f : ℕ × InodeRecord). take f.1.name_length f.1.name) r.files)) (λ r. refl) (λ m n r. refl)

    positions : has_reached_positions (seen w) ≡ true → has_reached_positions (seen u) ≡ true
    unfolding has_reached_positions root_seen
    positions = by_roots (λ x r. list_all (λ e. block_is (is_of_position e.item) e.at) r.reached) (λ r. refl) (λ m n r. refl)

    once : reaches_once (seen w) ≡ true → reaches_once (seen u) ≡ true
    unfolding reaches_once root_seen
    once = by_roots (λ x r. list_all (λ a. is_some a.at && list_all (λ b. not (a.item.pointer.vvbn == b.item.pointer.vvbn) || is_same_position a.item b.item) r.reached) r.reached) (λ r. refl) (λ m n r. refl)

    kinds : has_reached_kinds (seen w) ≡ true → has_reached_kinds (seen u) ≡ true
    unfolding has_reached_kinds root_seen
    kinds = by_roots (λ x r. list_all (λ e. kind_at e.at == kind_of e.item) r.reached) (λ r. refl) (λ m n r. refl)

    ids : has_one_to_one (seen w) ≡ true → has_one_to_one (seen u) ≡ true
    unfolding has_one_to_one
    ids all = all_turned (λ s x. list_all (λ a. list_all (λ b. agree (has_same_id a b) (a.pointer.vvbn == b.pointer.vvbn)) (all_items x)) (all_items x)) all
        (fewer_items (λ a. list_all (λ b. agree (has_same_id a b) (a.pointer.vvbn == b.pointer.vvbn)) (all_items y))
        (to_all (λ a. list_all (λ b. agree (has_same_id a b) (a.pointer.vvbn == b.pointer.vvbn)) (all_items y)) (all_items x)
        (λ a there. fewer_items (λ b. agree (has_same_id a b) (a.pointer.vvbn == b.pointer.vvbn))
        (from_all (λ a. list_all (λ b. agree (has_same_id a b) (a.pointer.vvbn == b.pointer.vvbn)) (all_items x)) (all_items x) (was (λ s x. list_all (λ a. list_all (λ b. agree (has_same_id a b) (a.pointer.vvbn == b.pointer.vvbn)) (all_items x)) (all_items x)) all) a there))))

    stamps : has_stamps_past (seen w) ≡ true → has_stamps_past (seen u) ≡ true
    unfolding has_stamps_past volume_seen
    stamps all = all_turned (λ s x. list_all (λ e. nat_le e.pointer.stamp x.head.now) (all_items x)) all (fewer_items (λ e. nat_le e.pointer.stamp h.now) (was (λ s x. list_all (λ e. nat_le e.pointer.stamp x.head.now) (all_items x)) all))

    marks : has_marks_over (seen w) ≡ true → has_marks_over (seen u) ≡ true
    unfolding has_marks_over root_seen
    marks = by_roots (λ x r. list_all (λ e. not (is_below_mark e.item) || nat_le e.item.pointer.stamp e.item.holder.stamp) r.reached) (λ r. refl) (λ m n r. refl)

    cells : has_cells_within (seen w) ≡ true → has_cells_within (seen u) ≡ true
    unfolding has_cells_within root_seen
    cells = by_roots (λ x r. list_all (λ (f : ℕ × InodeRecord). list_all (λ e. not (is_cell_of f.0 e.item) || nat_lt e.item.place f.1.length) r.reached) r.files) (λ r. refl) (λ m n r. refl)

    levels : has_levels (seen w) ≡ true → has_levels (seen u) ≡ true
    unfolding has_levels root_seen
    levels = by_roots (λ x r. are_levels 0 r.rooted.levels r.rooted.root.stamp && list_all (λ (f : ℕ × InodeRecord). are_levels f.1.reserve f.1.levels f.1.root.stamp) r.files) (λ r. refl) (λ m n r. refl)

    hints : has_true_hints (seen w) ≡ true → has_true_hints (seen u) ≡ true
    unfolding has_true_hints root_seen
    hints = by_roots (λ x r. list_all (λ e. is_true_hint e.item.pointer e.at) r.reached) (λ r. refl) (λ m n r. refl)

    unknown : leads_unknown (seen w) ≡ true → leads_unknown (seen u) ≡ true
    unfolding leads_unknown root_seen
    unknown = by_roots (λ x r. list_all (λ e. not (is_unknown e.item.pointer) || (is_in_label e.item || (e.item.holder.pvbn == 0))) r.reached) (λ r. refl) (λ m n r. refl)

    known : has_known_places (seen w) ≡ true → has_known_places (seen u) ≡ true
    unfolding has_known_places volume_seen root_seen
    known = by_roots (λ x r. list_all (λ e. not x.head.known || not (is_unknown e.item.pointer)) r.reached) (λ r. refl) (λ m n r. refl)

    split : has_split_places (seen w) ≡ true → has_split_places (seen u) ≡ true
    unfolding has_split_places volume_seen root_seen
    split = by_roots (λ x r. not (is_splitting x.head.base) || list_all (λ e. not (is_known e.item.pointer)
        || not (is_in_label e.item || (is_copied x r e.item.pointer.vvbn || is_copied x r e.item.holder.vvbn))) r.reached) (λ r. refl) (λ m n r. refl)

    leaves : leaves_base (seen w) ≡ true → leaves_base (seen u) ≡ true
    unfolding leaves_base volume_seen
    leaves = by_volume (λ s x. list_all (λ b. not b.own) x.base) refl

    rests : rests_on_base (seen w) ≡ true → rests_on_base (seen u) ≡ true
    unfolding rests_on_base volume_seen root_seen
    rests = by_roots (λ x r. is_none x.head.base || list_all (λ e. e.own || is_based x e.item.pointer.vvbn) r.reached) (λ r. refl) (λ m n r. refl)

    -- So all rules hold, where names differ and where uses and commits fit.
    pub turned_sound : are_distinct (map (λ p. p.name) ps) ≡ true → nat_le (use_of (volume_told w s (turned h a ps))) h.size ≡ true → has_commits_in_capacity (seen u) ≡ true → AreTables (seen w) → AreTables (seen u)
    unfolding has_distinct_snapshots has_use_in_size volume_seen
    turned_sound distinct size commits is = record {
      shapes = shapes is.shapes;
      ranges = ranges is.ranges;
      spans = spans is.spans;
      bases = bases is.bases;
      snapshots = all_turned (λ s x. are_distinct (map (λ p. p.name) x.head.snapshots)) is.snapshots distinct;
      files = files is.files;
      positions = positions is.positions;
      once = once is.once;
      kinds = kinds is.kinds;
      ids = ids is.ids;
      stamps = stamps is.stamps;
      marks = marks is.marks;
      cells = cells is.cells;
      levels = levels is.levels;
      hints = hints is.hints;
      unknown = unknown is.unknown;
      known = known is.known;
      split = split is.split;
      leaves = leaves is.leaves;
      rests = rests is.rests;
      sizes = all_turned (λ s x. nat_le (use_of x.volume) x.head.size) is.sizes size;
      commits = commits;
    }

-- ---- the three commands

in_added : (p : Snap) (ps : List Snap) (q : Snap) → In q (added p ps) → (p ≡ q) ⊎ In q ps
unfolding added
in_added p [] q (inl e) = inl e
in_added p [] q (inr there) = absurd there
in_added p (d ∷ ds) q there = by (nat_lt p.slot d.slot) (λ f. in_added p ds q f) there
  where
    by : (b : Bool) → (In q (added p ds) → (p ≡ q) ⊎ In q ds) → In q (if b then p ∷ (d ∷ ds) else d ∷ added p ds) → (p ≡ q) ⊎ In q (d ∷ ds)
    by true rest (inl e) = inl e
    by true rest (inr old) = inr old
    by false rest (inl e) = inr (inl e)
    by false rest (inr old) = ⊎_elim (λ (e : p ≡ q). inl e) (λ more. inr (inr more)) (rest old)

-- a snapshot of the active table is made
pub created_among : (h : Head) (p : Snap) → p.table ≡ h.active → AreAmong h h.active (added p h.snapshots)
created_among h p table = record {
  active = (0, inl refl);
  each = λ q there. ⊎_elim
      (λ (e : p ≡ q). (0, inl (λ i. (0, (sym table ∙ ap (λ (d : Snap). d.table) e) i))))
      (λ old. (q.slot, inr (in_map (λ (p : Snap). (p.slot, p.table)) q h.snapshots old)))
      (in_added p h.snapshots q there);
}

-- one is removed
pub deleted_among : (h : Head) (name : List ℕ) → AreAmong h h.active (without name h.snapshots)
deleted_among h name = record {
  active = (0, inl refl);
  each = λ q there. (q.slot, inr (in_map (λ (p : Snap). (p.slot, p.table)) q h.snapshots (from_filter (λ p. not (is_same_name p.name name)) q h.snapshots there).0));
}

-- one is restored
pub restored_among : (h : Head) (p : Snap) → In p h.snapshots → AreAmong h p.table h.snapshots
restored_among h p one = record {
  active = (p.slot, inr (in_map (λ (p : Snap). (p.slot, p.table)) p h.snapshots one));
  each = λ q there. (q.slot, inr (in_map (λ (p : Snap). (p.slot, p.table)) q h.snapshots there));
}
