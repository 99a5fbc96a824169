-- Volumes without files, snapshots, bases and unknown places are told, and are sound, as the definitions of empty volumes say. So the
-- machine of an image is the same by both.
use Rattle.std.proofs.Common.{◌≡◌, ℕ, ◌+◌, ◌<◌, ◌≤◌, Bool, true, false, not, List, [], ◌∷◌, refl, sym, ap, ◌∙◌, arith}
use Rattle.std.specs.Prelude.{Option, Some, None, ◌&&◌, ◌||◌, nat_lt, nat_le, map, if◌then◌else◌}
use Rattle.std.specs.Option.{is_none, option_map, option_map_or, option_and_then}
use Rattle.std.specs.FinMap as fin
use Rattle.std.specs.FinSet as set
use Rattle.std.proofs.lemmas.Bool.{and_from}
use Rattle.std.proofs.lemmas.Bool.Decides.{nat_tests}
use Rattle.fv_model.specs.Spelling.{name_cmp}
use Rattle.fv_model.specs.Trees.{least_levels}
use Rattle.fv_model.specs.Tables.{empty_table}
use Rattle.fv_model.specs.Places.{id_cmp}
use Rattle.fv_model.specs.Volumes.{Volume}
use Rattle.fv_model.specs.Machines.{capacity}
use Rattle.fv_model.specs.Space.{use_of, commit, base_ids}
use Rattle.fv_tables.proofs.Lists.{all_of_range, same_parts}
use Rattle.fv_tables.proofs.Bare.{bare_table, bare_reach, bare_records}
use Rattle.fv_image.specs.Views.{Rooted, Snap, Footing, Head, View, slots}
use Rattle.fv_image_rows.specs.EmptyTold as plain
use Rattle.fv_image.specs.Volumes.{empty_volume_of}
use Rattle.fv_image_rows.specs.EmptySound as plain_rules
use Rattle.fv_image_rows.specs.EmptySound.{pointers_of}
use Rattle.fv_image.specs.Volumes.{standing_of, table_at, active_at, snap_told, base_from, volume_with, volume_told, named_with, volumes_with, told_with, told}
use Rattle.fv_image.specs.Seen.{Root, VolumeSeen, reached_at, root_seen, base_seen, volume_seen, head_at, seen}
use Rattle.fv_image.specs.ReachRules.{all_volumes, has_reached_shapes, has_pointers_in_range, has_reached_positions, are_distinct, has_distinct_files, reaches_once, has_reached_kinds}
use Rattle.fv_image.specs.TableRules.{has_one_to_one, has_stamps_past, has_marks_over, has_cells_within, are_levels, has_levels}
use Rattle.fv_image.specs.HintRules.{is_splitting, has_true_hints, leads_unknown, has_known_places, has_split_places, leaves_base, rests_on_base}
use Rattle.fv_image.specs.VolumeRules.{has_wide_spans, footing_in, comes_to_end, has_footing, has_bases, has_distinct_snapshots, has_use_in_size, commits_seen, has_commits_in_capacity}
use Rattle.fv_image.specs.Soundness.{AreTables}
use Rattle.fv_image.proofs.Counts.{same_sum}
use Rattle.fv_image.proofs.SameSeen.{seen_at}

-- ---- one volume

pub record IsPlainHead (h : Head) : Type 0 where
  pub root : h.active.root.stamp ≡ 0
  pub levels : h.active.levels ≡ 0
  pub snapshots : h.snapshots ≡ []
  pub base : h.base ≡ None

-- what the rules look at of such a volume
abbrev pub bare_root : Head → Root
bare_root h = record { map = 0; rooted = h.active; files = []; reached = [] }

abbrev pub bare_seen : Head → VolumeSeen
bare_seen h = record { head = h; volume = empty_volume_of h; roots = bare_root h ∷ []; base = [] }

module _ (w : View) (s : ℕ) (h : Head) (is : IsPlainHead h) where
  active_plain : table_at w s h.active ≡ empty_table
  active_plain = bare_table (standing_of w s h.active) is.root ∙ ap (λ (n : ℕ). record { files = fin.empty; inode = record { levels = n; stamps = fin.empty } }) is.levels

  pub volume_plain : volume_told w s h ≡ empty_volume_of h
  unfolding volume_with empty_volume_of
  volume_plain = λ i. record {
    kind = h.kind;
    size = h.size;
    most = h.most;
    span = h.span;
    now = h.now;
    active = active_plain i;
    snapshots = fin.from_entries {R = name_cmp} (map (snap_told w s) (is.snapshots i));
    base = base_from w (is.base i);
    known = h.known;
  }

  root_plain : root_seen w s 0 h.active ≡ bare_root h
  unfolding root_seen
  root_plain = λ i. record {
    map = 0;
    rooted = h.active;
    files = bare_records (standing_of w s h.active) is.root i;
    reached = map (reached_at w s) (bare_reach (standing_of w s h.active) is.root i);
  }

  pub seen_plain : volume_seen w s h ≡ bare_seen h
  unfolding volume_seen base_seen
  seen_plain = λ i. record {
    head = h;
    volume = volume_plain i;
    roots = root_plain i ∷ map (λ (r : ℕ × Rooted). root_seen w s r.0 r.1) (map (λ p. (p.slot, p.table)) (is.snapshots i));
    base = base_seen w s (is.base i);
  }

-- an empty slot isn't seen
none_seen : (w : View) (s : ℕ) → w.head s ≡ None → (seen w).volume s ≡ None
unfolding seen
none_seen w s none = so (nat_lt s 64)
  where
    so : (b : Bool) → option_map (volume_seen w s) (if b then w.head s else None) ≡ None
    so true = ap (option_map (volume_seen w s)) none
    so false = refl

-- ---- the machine

module _ (w : View) (plain_heads : (s : ℕ) (h : Head) → s < 64 → w.head s ≡ Some h → IsPlainHead h) where
  named_plain : (s : ℕ) → s < 64 → (o : Option Head) → w.head s ≡ o → named_with w (active_at w) s o ≡ plain.named_volume o
  named_plain s inside None e = refl
  named_plain s inside (Some h) e = ap (λ (v : Volume). (h.name, v) ∷ [])
      (ap (volume_with w s h) (ap (λ (o : Option Head). option_map_or (λ h. table_at w s h.active) o empty_table) e) ∙ volume_plain w s h (plain_heads s h inside e))

  -- Such volumes are told as empty ones.
  pub told_plain : told w ≡ plain.empty_told w
  unfolding told_with volumes_with slots plain.empty_told plain.volumes
  told_plain = ap (λ (vs : List (List ℕ × Volume)). record { blocks = w.blocks; version = w.version; volumes = fin.from_entries {R = name_cmp} vs })
      (same_parts (λ s. named_with w (active_at w) s (w.head s)) (λ s. plain.named_volume (w.head s)) 0 64 (λ s low high. named_plain s (omega (arith, high)) (w.head s) refl))

  -- ---- the rules

  -- what holds of each such volume holds of all
  pub all_plain : (test : ℕ → VolumeSeen → Bool) → ((s : ℕ) (h : Head) → s < 64 → w.head s ≡ Some h → test s (bare_seen h) ≡ true) → all_volumes (seen w) test ≡ true
  unfolding slots seen
  all_plain test each = all_of_range (λ s. option_map_or (test s) ((seen w).volume s) true) 0 64 (λ s low high. so s (omega (arith, high)) (w.head s) refl)
    where
      so : (s : ℕ) → s < 64 → (o : Option Head) → w.head s ≡ o → option_map_or (test s) (option_map (volume_seen w s) (head_at w s)) true ≡ true
      so s inside o e =
          let test_is : nat_lt s 64 ≡ true = grind (arith, nat_tests) in
          ap (λ (b : Bool). option_map_or (test s) (option_map (volume_seen w s) (if b then w.head s else None)) true) test_is
          ∙ ap (λ (o : Option Head). option_map_or (test s) (option_map (volume_seen w s) o) true) e ∙ by o e
        where
          by : (o : Option Head) → w.head s ≡ o → option_map_or (test s) (option_map (volume_seen w s) o) true ≡ true
          by None e = refl
          by (Some h) e = ap (test s) (seen_plain w s h (plain_heads s h inside e)) ∙ each s h inside e

  -- what the numbers of such a volume keep
  pub record FitsPlain : Type 0 where
    pub spans : (s : ℕ) (h : Head) → s < 64 → w.head s ≡ Some h → h.most + 256 ≤ h.span
    pub sizes : (s : ℕ) (h : Head) → s < 64 → w.head s ≡ Some h → nat_le (use_of (empty_volume_of h)) h.size ≡ true
    pub commits : nat_le (plain_rules.committed w) (capacity w.blocks) ≡ true

  pub no_base_ids : (h : Head) → set.len (base_ids (empty_volume_of h).base) ≡ 0
  unfolding empty_volume_of
  no_base_ids h = set.len-empty id_cmp

  no_footing : (s : ℕ) (h : Head) → s < 64 → w.head s ≡ Some h → footing_in (seen w) s ≡ None
  unfolding volume_seen
  no_footing s h inside e = ap (λ (o : Option VolumeSeen). option_and_then (λ x. x.head.base) o) (seen_at w s h inside e) ∙ (plain_heads s h inside e).base

  ends_plain : (s : ℕ) (h : Head) → s < 64 → w.head s ≡ Some h → comes_to_end (seen w) 64 s ≡ true
  unfolding comes_to_end
  ends_plain s h inside e = ap (λ (o : Option Footing). option_map_or (λ b. comes_to_end (seen w) 63 b.parent) o true) (no_footing s h inside e)

  pub same_commits : commits_seen (seen w) ≡ plain_rules.committed w
  unfolding commits_seen plain_rules.committed slots
  same_commits = same_sum (λ s. option_map_or (λ x. commit x.volume) ((seen w).volume s) 0) (λ s. option_map_or (λ h. commit (empty_volume_of h)) (w.head s) 0) 0 64 (λ s low high. so s (omega (arith, high)) (w.head s) refl)
    where
      so : (s : ℕ) → s < 64 → (o : Option Head) → w.head s ≡ o → option_map_or (λ x. commit x.volume) ((seen w).volume s) 0 ≡ option_map_or (λ h. commit (empty_volume_of h)) (w.head s) 0
      so s inside None e = ap (λ (o : Option VolumeSeen). option_map_or (λ x. commit x.volume) o 0) (none_seen w s e) ∙ sym (ap (λ (o : Option Head). option_map_or (λ h. commit (empty_volume_of h)) o 0) e)
      so s inside (Some h) e =
          ap (λ (o : Option VolumeSeen). option_map_or (λ x. commit x.volume) o 0) (seen_at w s h inside e ∙ ap (λ x. Some x) (seen_plain w s h (plain_heads s h inside e)))
          ∙ sym (ap (λ (o : Option Head). option_map_or (λ h. commit (empty_volume_of h)) o 0) e)

  commits_plain : nat_le (plain_rules.committed w) (capacity w.blocks) ≡ true → has_commits_in_capacity (seen w) ≡ true
  unfolding has_commits_in_capacity seen
  commits_plain fits = ap (λ (n : ℕ). nat_le n (capacity w.blocks)) same_commits ∙ fits

  -- The rules on tables hold of such volumes.
  pub tables_plain : FitsPlain → AreTables (seen w)
  unfolding has_reached_shapes has_pointers_in_range has_wide_spans has_bases has_distinct_snapshots has_distinct_files has_reached_positions reaches_once has_reached_kinds has_one_to_one has_stamps_past has_marks_over has_cells_within has_levels has_true_hints leads_unknown has_known_places has_split_places leaves_base rests_on_base has_use_in_size least_levels
  tables_plain fits = record {
    shapes = all_plain _ (λ s h inside e. refl);
    ranges = all_plain _ (λ s h inside e. refl);
    spans = all_plain _ (λ s h inside e. wide h (fits.spans s h inside e));
    bases = all_plain _ (λ s h inside e. and_from (comes_to_end (seen w) 64 s) _ (ends_plain s h inside e) (ap (λ (o : Option Footing). option_map_or (has_footing (seen w) (bare_seen h)) o true) (plain_heads s h inside e).base));
    snapshots = all_plain _ (λ s h inside e. ap (λ (ps : List Snap). are_distinct (map (λ p. p.name) ps)) (plain_heads s h inside e).snapshots);
    files = all_plain _ (λ s h inside e. refl);
    positions = all_plain _ (λ s h inside e. refl);
    once = all_plain _ (λ s h inside e. refl);
    kinds = all_plain _ (λ s h inside e. refl);
    ids = all_plain _ (λ s h inside e. refl);
    stamps = all_plain _ (λ s h inside e. refl);
    marks = all_plain _ (λ s h inside e. refl);
    cells = all_plain _ (λ s h inside e. refl);
    levels = all_plain _ (λ s h inside e. start h (plain_heads s h inside e));
    hints = all_plain _ (λ s h inside e. refl);
    unknown = all_plain _ (λ s h inside e. refl);
    known = all_plain _ (λ s h inside e. refl);
    split = all_plain _ (λ s h inside e. never (is_splitting h.base));
    leaves = all_plain _ (λ s h inside e. refl);
    rests = all_plain _ (λ s h inside e. ap (λ (o : Option Footing). (is_none o || true) && true) (plain_heads s h inside e).base);
    sizes = all_plain _ (λ s h inside e. fits.sizes s h inside e);
    commits = commits_plain fits.commits;
  }
    where
      wide : (h : Head) → h.most + 256 ≤ h.span → nat_le (h.most + (set.len (base_ids (empty_volume_of h).base) + 256)) h.span ≡ true
      wide h fits = let none = no_base_ids h in let enough : h.most + (set.len (base_ids (empty_volume_of h).base) + 256) ≤ h.span = omega (arith, none, fits) in grind (arith, nat_tests, enough)

      start : (h : Head) → IsPlainHead h → ((are_levels 0 h.active.levels h.active.root.stamp && true) && true) ≡ true
      start h is = rw (is.root, is.levels) refl

      never : (b : Bool) → ((not b || true) && true) ≡ true
      never true = refl
      never false = refl
