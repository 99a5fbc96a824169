-- The rules on tables hold of a view in which one block moved under its VVBN, where those that look at hints and blocks hold of that
-- volume.
use Rattle.std.proofs.Common.{◌≡◌, ◌≢◌, ℕ, zero, suc, ◌<◌, Bool, true, false, not, List, [], ◌∷◌, map, inl, inr, refl, sym, ap, ap₂, subst, ◌∙◌, ⊎_elim}
use Rattle.std.specs.Prelude.{Option, Some, None, ◌&&◌, nat_lt, nat_le, sum_by, if◌then◌else◌}
use Rattle.std.specs.Option.{is_some, option_map, option_map_or, option_and_then}
use Rattle.std.proofs.lemmas.Bool.{cases_eq}
use Rattle.fv_model.specs.Space.{commit}
use Rattle.fv_model.specs.Machines.{capacity}
use Rattle.fv_laws.proofs.Lists.{In}
use Rattle.fv_laws.proofs.Tests.{from_all, to_all}
use Rattle.fv_tables.specs.Told.{records, table_told}
use Rattle.fv_tables.specs.Reached.{Item, items}
use Rattle.fv_tables.specs.Alike.{hintless, hintless_item}
use Rattle.fv_tables.proofs.AlikeTables.{alike_records}
use Rattle.fv_image.specs.Views.{Placed, Rooted, Snap, Footing, Head, View, slots}
use Rattle.fv_image.specs.HintRules.{has_true_hints, leads_unknown, has_known_places, has_split_places, leaves_base, rests_on_base}
use Rattle.fv_image.specs.Chains.{place, under}
use Rattle.fv_image.specs.Volumes.{standing_of, snap_at}
use Rattle.fv_image.specs.Seen.{Reached, Root, VolumeSeen, Seen, reached_at, root_seen, roots_of, base_root, based_at, based_on, base_seen, volume_seen, seen}
use Rattle.fv_image.specs.ReachRules.{all_volumes, has_reached_shapes, has_pointers_in_range, has_reached_positions, has_distinct_files, reaches_once, has_reached_kinds}
use Rattle.fv_image.specs.TableRules.{has_one_to_one, has_stamps_past, has_marks_over, has_cells_within, has_levels}
use Rattle.fv_image.specs.VolumeRules.{has_wide_spans, footing_in, comes_to_end, can_bear, has_footing, has_bases, has_distinct_snapshots, has_use_in_size, commits_seen, has_commits_in_capacity}
use Rattle.fv_image.specs.Soundness.{AreTables}
use Rattle.fv_image.proofs.SameSeen.{of_volume, seen_at}
use Rattle.fv_image.specs.Moves.{Moves, FitsRoots}
use Rattle.fv_image.proofs.Moved.{place_other, place_here, place_moved, standing_other, alike_here, items_moved, table_moved, volume_by}
use Rattle.fv_places.specs.HintlessSeen.{hintless_placed, hintless_reached, hintless_root, hintless_volume}
use Rattle.fv_places.specs.OneVolume.{of_reached, spans_rule, snapshots_rule, files_rule, once_rule, kinds_rule, ids_rule, stamps_rule, marks_rule, cells_rule, levels_rule, leaves_rule, sizes_rule, is_within, SeesHints}
use Rattle.fv_places.specs.Steps.{IsOwn}
use Rattle.fv_places.proofs.HintlessRules.{by_hintless, files_hintless, once_hintless, kinds_hintless, marks_hintless, cells_hintless, levels_hintless, ids_hintless, stamps_hintless}

module _ (w u : View) (s v : ℕ) (was now : Placed) (moves : Moves w u s v was now) (h : Head) (small : s < 64) (head : w.head s ≡ Some h)
    (fits : FitsRoots w s h)
    (own : IsOwn w s h v) where
  -- ---- the volume that stands on another

  -- two heads of one slot are one
  some_is : (x y : Head) → Some x ≡ Some y → x ≡ y
  some_is x y e = cc

  -- a base reaches what it reached, and the volume has entries of its own for as many of it
  own_same : (k : ℕ) (g : Head) (b : Footing) → w.head k ≡ Some g → g.base ≡ Some b → (e : Item)
      → based_at u k b.splitting e ≡ based_at w k b.splitting e
  own_same k g b there based e = λ i. record {
    item = e;
    own =
        (⊎_elim here (λ other. ap (λ (o : Option Placed). not b.splitting && is_some o) (moves.others k e.pointer.vvbn (inl other)))
        (cases_eq k s)) i;
  }
    where
      moved : k ≡ s → e.pointer.vvbn ≡ v → (c : Bool) → b.splitting ≡ c
          → (not c && is_some (u.entry k e.pointer.vvbn)) ≡ (not c && is_some (w.entry k e.pointer.vvbn))
      moved at is true split = refl
      moved at is false split =
          let same : g ≡ h = some_is g h (sym there ∙ ap w.head at ∙ head) in
          let had : is_some (w.entry s v) ≡ true = own b (ap (λ (x : Head). x.base) (sym same) ∙ based) split in
          ap₂ (λ (m n : ℕ). is_some (u.entry m n)) at is ∙ ap (λ (o : Option Placed). is_some o) moves.here
          ∙ sym (ap₂ (λ (m n : ℕ). is_some (w.entry m n)) at is ∙ had)

      here : k ≡ s → (not b.splitting && is_some (u.entry k e.pointer.vvbn)) ≡ (not b.splitting && is_some (w.entry k e.pointer.vvbn))
      here at = ⊎_elim
          (λ (is : e.pointer.vvbn ≡ v). moved at is b.splitting refl)
          (λ other. ap (λ (o : Option Placed). not b.splitting && is_some o) (moves.others k e.pointer.vvbn (inr other)))
          (cases_eq e.pointer.vvbn v)

  -- so the base of each volume is seen as before
  pub base_seen_same : (k : ℕ) (g : Head) → w.head k ≡ Some g → base_seen u k g.base ≡ base_seen w k g.base
  unfolding base_seen
  base_seen_same k g there = so g.base refl
    where
      on : (b : Footing) → g.base ≡ Some b → (o : Option Rooted)
          → option_map_or (based_on u k b) o [] ≡ option_map_or (based_on w k b) o []
      on b based None = refl
      on b based (Some r) =
          ap (λ (x : List Item). map (based_at u k b.splitting) x)
          (ap items (standing_other w u s v was now moves b.parent r (moves.alone k g b there based)))
          ∙ (λ i. map (λ (e : Item). own_same k g b there based e i) (items (standing_of w b.parent r)))

      so : (o : Option Footing) → g.base ≡ o
          → option_map_or (λ b. option_map_or (based_on u k b) (base_root u b) []) o []
          ≡ option_map_or (λ b. option_map_or (based_on w k b) (base_root w b) []) o []
      so None based = refl
      so (Some b) based =
          ap (λ (o : Option Head). option_map_or (based_on u k b)
          (option_and_then (λ g. option_map (λ (p : Snap). p.table) (snap_at g b.slot)) o) []) (moves.heads b.parent)
          ∙ on b based (base_root w b)

  -- ---- another volume is seen as before

  -- a root of it
  root_other : (k m : ℕ) (r : Rooted) → k ≢ s → root_seen u k m r ≡ root_seen w k m r
  unfolding root_seen
  root_other k m r other = λ i. record {
    map = m;
    rooted = r;
    files = records (standing_other w u s v was now moves k r other i);
    reached =
        map (λ (e : Item). record {
          item = e;
          at = place_other w u s v was now moves k e.pointer.vvbn other i;
          own = is_some
              (moves.others k e.pointer.vvbn (inl other) i);
        }) (items (standing_other w u s v was now moves k r other i));
  }

  -- all of it
  seen_other : (k : ℕ) (g : Head) → w.head k ≡ Some g → k ≢ s → volume_seen u k g ≡ volume_seen w k g
  unfolding volume_seen
  seen_other k g there other = λ i. record {
    head = g;
    volume = volume_by w u s v was now moves k g there (λ m r is. ap table_told (standing_other w u s v was now moves k r other)) i;
    roots = map (λ (r : ℕ × Rooted). root_other k r.0 r.1 other i) (roots_of g);
    base = base_seen_same k g there i;
  }

  -- ---- this one but for hints

  -- each VVBN is found at a block of the same kind
  place_hintless : (q : ℕ) → option_map hintless_placed (place u s q) ≡ option_map hintless_placed (place w s q)
  place_hintless q = ⊎_elim
      (λ (at : q ≡ v). ap (λ (n : ℕ). option_map hintless_placed (place u s n)) at
      ∙ ap (option_map hintless_placed) (place_moved w u s v was now moves)
      ∙ ap (λ (n : ℕ). Some (record { pvbn = 0; kind = n; block = [] })) moves.kind
      ∙ sym (ap (λ (n : ℕ). option_map hintless_placed (place w s n)) at ∙ ap (option_map hintless_placed) moves.there))
      (λ other. ap (option_map hintless_placed) (place_here w u s v was now moves q other))
      (cases_eq q v)

  -- a hintless item as it is seen
  abbrev hintless_at : View → Item → Reached
  hintless_at z e = record { item = e; at = option_map hintless_placed (place z s e.pointer.vvbn); own = false }

  -- what is reached, without hints, by its items without hints
  fused : (z : View) (es : List Item) → map hintless_reached (map (reached_at z s) es) ≡ map (hintless_at z) (map hintless_item es)
  fused z [] = refl
  fused z (e ∷ es) = ap (λ (xs : List Reached). hintless_at z (hintless_item e) ∷ xs) (fused z es)

  -- a root
  root_hintless : (m : ℕ) (r : Rooted) → In {X = ℕ × Rooted} (m, r) (roots_of h)
      → hintless_root (root_seen u s m r) ≡ hintless_root (root_seen w s m r)
  unfolding root_seen
  root_hintless m r is = λ i. record {
    map = m;
    rooted = record { levels = r.levels; root = hintless r.root };
    files = alike_records (under w s) (under u s) r.levels r.root r.root refl (alike_here w u s v was now moves r (fits m r is)) i;
    reached = reached i;
  }
    where
      reached : map hintless_reached (map (reached_at u s) (items (standing_of u s r)))
          ≡ map hintless_reached (map (reached_at w s) (items (standing_of w s r)))
      reached = fused u (items (standing_of u s r)) ∙ ap (map (hintless_at u)) (items_moved w u s v was now moves r (fits m r is))
          ∙ (λ i. map (λ (e : Item). record { item = e; at = place_hintless e.pointer.vvbn i; own = false })
          (map hintless_item (items (standing_of w s r)))) ∙ sym (fused w (items (standing_of w s r)))

  -- all roots
  roots_hintless : (rs : List (ℕ × Rooted))
      → ((m : ℕ) (r : Rooted) → In {X = ℕ × Rooted} (m, r) rs → hintless_root (root_seen u s m r) ≡ hintless_root (root_seen w s m r))
      → map hintless_root (map (λ (r : ℕ × Rooted). root_seen u s r.0 r.1) rs)
      ≡ map hintless_root (map (λ (r : ℕ × Rooted). root_seen w s r.0 r.1) rs)
  roots_hintless [] each = refl
  roots_hintless (r ∷ rs) each =
      ap₂ (λ (x : Root) (xs : List Root). x ∷ xs) (each r.0 r.1 (inl refl)) (roots_hintless rs (λ m q is. each m q (inr is)))

  -- the volume
  seen_hintless : hintless_volume (volume_seen u s h) ≡ hintless_volume (volume_seen w s h)
  unfolding volume_seen
  seen_hintless = λ i. record {
    head = h;
    volume = volume_by w u s v was now moves s h head (λ m r is. table_moved w u s v was now moves r (fits m r is)) i;
    roots = roots_hintless (roots_of h) root_hintless i;
    base = base_seen_same s h head i;
  }

  -- ---- all volumes

  -- other slots are seen as before
  others_seen : (k : ℕ) → k ≢ s → (seen u).volume k ≡ (seen w).volume k
  unfolding seen
  others_seen k other = ap (λ (o : Option Head). option_map (volume_seen u k) (if nat_lt k 64 then o else None)) (moves.heads k)
      ∙ so (nat_lt k 64) (w.head k) refl
    where
      so : (b : Bool) (o : Option Head) → w.head k ≡ o
          → option_map (volume_seen u k) (if b then o else None) ≡ option_map (volume_seen w k) (if b then o else None)
      so false o there = refl
      so true None there = refl
      so true (Some g) there = ap (λ (z : VolumeSeen). Some z) (seen_other k g there other)

  -- and this one as the volume is
  here_seen : (seen u).volume s ≡ Some (volume_seen u s h)
  here_seen = seen_at u s h small (moves.heads s ∙ head)

  -- so a rule holds of all volumes where it held before and holds of this one
  all_moved : (test : ℕ → VolumeSeen → Bool) → all_volumes (seen w) test ≡ true → test s (volume_seen u s h) ≡ true
      → all_volumes (seen u) test ≡ true
  unfolding slots
  all_moved test all here = to_all (λ k. option_map_or (test k) ((seen u).volume k) true) slots (λ k there. ⊎_elim
      (λ (e : k ≡ s). subst (λ (n : ℕ). option_map_or (test n) ((seen u).volume n) true ≡ true) (sym e)
      (ap (λ (o : Option VolumeSeen). option_map_or (test s) o true) here_seen ∙ here))
      (λ other. ap (λ (o : Option VolumeSeen). option_map_or (test k) o true) (others_seen k other)
      ∙ from_all (λ k. option_map_or (test k) ((seen w).volume k) true) slots all k there)
      (cases_eq k s))

  -- a rule that looks at no hint
  free : (rule : VolumeSeen → Bool) → ((x : VolumeSeen) → rule (hintless_volume x) ≡ rule x) → all_volumes (seen w) (λ k x. rule x) ≡ true
      → all_volumes (seen u) (λ k x. rule x) ≡ true
  free rule none all =
      all_moved (λ k x. rule x) all
      (by_hintless rule none (volume_seen w s h) (volume_seen u s h) seen_hintless ∙ of_volume w (λ k x. rule x) s h all small head)

  -- what is asked of a volume but for its roots is the same
  number_same : {X : Type 0} (ask : VolumeSeen → X) → ((x : VolumeSeen) → ask (hintless_volume x) ≡ ask x) → (k : ℕ)
      → option_map ask ((seen u).volume k) ≡ option_map ask ((seen w).volume k)
  number_same ask none k = ⊎_elim
      (λ (e : k ≡ s). subst (λ (n : ℕ). option_map ask ((seen u).volume n) ≡ option_map ask ((seen w).volume n)) (sym e)
      (ap (option_map ask) here_seen ∙ ap (λ x. Some x) (sym (none (volume_seen u s h)) ∙ ap ask seen_hintless ∙ none (volume_seen w s h))
      ∙ sym (ap (option_map ask) (seen_at w s h small head))))
      (λ other. ap (option_map ask) (others_seen k other))
      (cases_eq k s)

  -- ---- bases and sums

  -- each volume stands on what it stood on
  footings : (k : ℕ) → footing_in (seen u) k ≡ footing_in (seen w) k
  footings k = so ((seen u).volume k) ((seen w).volume k) (number_same (λ x. x.head.base) (λ x. refl) k)
    where
      so : (o p : Option VolumeSeen) → option_map (λ (x : VolumeSeen). x.head.base) o ≡ option_map (λ (x : VolumeSeen). x.head.base) p
          → option_and_then (λ (x : VolumeSeen). x.head.base) o ≡ option_and_then (λ (x : VolumeSeen). x.head.base) p
      so None None e = refl
      so (Some x) (Some y) e = cc
      so None (Some y) e = absurd cc
      so (Some x) None e = absurd cc

  -- each chain of bases ends as it did
  ends : (n k : ℕ) → comes_to_end (seen u) n k ≡ comes_to_end (seen w) n k
  unfolding comes_to_end
  ends zero k = refl
  ends (suc n) k = λ i. option_map_or (λ b. ends n b.parent i) (footings k i) true

  -- a volume can bear another as it could
  bears : (z : VolumeSeen) (b : Footing) → has_footing (seen u) z b ≡ has_footing (seen w) z b
  bears z b = so ((seen u).volume b.parent) ((seen w).volume b.parent) (number_same (can_bear z b) (λ x. refl) b.parent)
    where
      so : (o p : Option VolumeSeen) → option_map (can_bear z b) o ≡ option_map (can_bear z b) p
          → option_map_or (can_bear z b) o false ≡ option_map_or (can_bear z b) p false
      so None None e = refl
      so (Some x) (Some y) e = cc
      so None (Some y) e = absurd cc
      so (Some x) None e = absurd cc

  abbrev rests_rule : Seen → ℕ → VolumeSeen → Bool
  rests_rule z k x = comes_to_end z 64 k && option_map_or (has_footing z x) x.head.base true

  -- so the rule on bases asks the same of each
  rests_same : (k : ℕ) (x : VolumeSeen) → rests_rule (seen u) k x ≡ rests_rule (seen w) k x
  rests_same k x = λ i. ends 64 k i && foot x.head.base i
    where
      foot : (o : Option Footing) → option_map_or (has_footing (seen u) x) o true ≡ option_map_or (has_footing (seen w) x) o true
      foot None = refl
      foot (Some b) = bears x b

  -- and holds
  bases : has_bases (seen w) ≡ true → has_bases (seen u) ≡ true
  unfolding has_bases volume_seen
  bases all = all_moved (λ k x. rests_rule (seen u) k x)
      (subst (λ (f : ℕ → VolumeSeen → Bool). all_volumes (seen w) f ≡ true) (λ i k x. sym (rests_same k x) i) all)
      (rests_same s (volume_seen u s h) ∙ of_volume w (rests_rule (seen w)) s h all small head)

  -- as does the one on commits
  commits : has_commits_in_capacity (seen w) ≡ true → has_commits_in_capacity (seen u) ≡ true
  unfolding has_commits_in_capacity commits_seen seen
  commits fits = (λ i. nat_le (sum_by (λ k. one k i) slots) (capacity (moves.blocks i))) ∙ fits
    where
      so : (o p : Option VolumeSeen)
          → option_map (λ (x : VolumeSeen). commit x.volume) o ≡ option_map (λ (x : VolumeSeen). commit x.volume) p
          → option_map_or (λ (x : VolumeSeen). commit x.volume) o 0 ≡ option_map_or (λ (x : VolumeSeen). commit x.volume) p 0
      so None None e = refl
      so (Some x) (Some y) e = cc
      so None (Some y) e = absurd cc
      so (Some x) None e = absurd cc

      one : (k : ℕ) → option_map_or (λ (x : VolumeSeen). commit x.volume) ((seen u).volume k) 0
          ≡ option_map_or (λ (x : VolumeSeen). commit x.volume) ((seen w).volume k) 0
      one k = so ((seen u).volume k) ((seen w).volume k) (number_same (λ x. commit x.volume) (λ x. refl) k)

  -- So all rules hold, where those on hints and blocks hold of that one volume.
  pub moved_sound : SeesHints u.blocks (volume_seen u s h) → AreTables (seen w) → AreTables (seen u)
  unfolding has_reached_shapes has_pointers_in_range has_wide_spans has_distinct_snapshots has_distinct_files has_reached_positions reaches_once has_reached_kinds has_one_to_one has_stamps_past has_marks_over has_cells_within has_levels has_true_hints leads_unknown has_known_places has_split_places leaves_base rests_on_base has_use_in_size seen
  moved_sound hints is = record {
    shapes = all_moved _ is.shapes hints.shapes;
    ranges =
        all_moved _ (subst (λ (n : ℕ). all_volumes (seen w) (λ k x. of_reached (λ r e. is_within n x.head.span e.item) x) ≡ true)
        (sym moves.blocks) is.ranges) hints.ranges;
    spans = free spans_rule (λ x. refl) is.spans;
    bases = bases is.bases;
    snapshots = free snapshots_rule (λ x. refl) is.snapshots;
    files = free files_rule files_hintless is.files;
    positions = all_moved _ is.positions hints.positions;
    once = free once_rule once_hintless is.once;
    kinds = free kinds_rule kinds_hintless is.kinds;
    ids = free ids_rule ids_hintless is.ids;
    stamps = free stamps_rule stamps_hintless is.stamps;
    marks = free marks_rule marks_hintless is.marks;
    cells = free cells_rule cells_hintless is.cells;
    levels = free levels_rule levels_hintless is.levels;
    hints = all_moved _ is.hints hints.hints;
    unknown = all_moved _ is.unknown hints.unknown;
    known = all_moved _ is.known hints.known;
    split = all_moved _ is.split hints.split;
    leaves = free leaves_rule (λ x. refl) is.leaves;
    rests = all_moved _ is.rests hints.rests;
    sizes = free sizes_rule (λ x. refl) is.sizes;
    commits = commits is.commits;
  }
