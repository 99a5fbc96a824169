-- The rules on tables hold of a view with a mirror in a slot that was free.
use Rattle.std.proofs.Common.{◌≡◌, ◌≢◌, ℕ, zero, suc, ◌+◌, ◌<◌, ◌≤◌, Bool, true, false, not, List, [], ◌∷◌, ◌++◌, map, flat_map, refl, sym, ap, subst, ◌∙◌, arith, ⊎_elim}
use Rattle.std.specs.Prelude.{Option, Some, None, ◌&&◌, ◌||◌, ◌==◌, nat_lt, nat_le, if◌then◌else◌}
use Rattle.std.specs.List.{list_all}
use Rattle.std.specs.Option.{is_none, option_map, option_map_or, option_and_then}
use Rattle.std.specs.FinSet as set
use Rattle.std.proofs.lemmas.Bool.{cases_eq, and_from, and_parts, or_left}
use Rattle.std.proofs.lemmas.Bool.Decides.{nat_tests}
use Rattle.std.proofs.lemmas.List.Folds.{list_all-map}
use Rattle.fv_codec.specs.declared.pointer.Pointer.{Pointer}
use Rattle.fv_model.specs.Places.{id_cmp}
use Rattle.fv_model.specs.Space.{base_ids, use_of}
use Rattle.fv_laws.proofs.Lists.{In, in_left, in_map, in_flat_map}
use Rattle.fv_laws.proofs.Tests.{from_all, to_all}
use Rattle.fv_tables.specs.Told.{Standing, standing_at, records}
use Rattle.fv_tables.specs.Reached.{Item, items, is_listed}
use Rattle.fv_tables.specs.Alike.{hintless_item}
use Rattle.fv_tables.proofs.Listed.{listed_in}
use Rattle.fv_tables.proofs.AlikeTables.{alike_reach, alike_records}
use Rattle.fv_image.specs.Views.{Rooted, Snap, Footing, Head, View, slots}
use Rattle.fv_image.specs.BlockRules.{is_fine}
use Rattle.fv_image.specs.HintRules.{is_unknown, is_true_hint, is_in_label, is_splitting, is_based, has_true_hints, leads_unknown, has_known_places, has_split_places, leaves_base, rests_on_base}
use Rattle.fv_image.specs.Chains.{place, under}
use Rattle.fv_image.specs.Volumes.{standing_of, base_from, volume_with, volume_told}
use Rattle.fv_image.specs.Seen.{Reached, Root, Based, VolumeSeen, Seen, reached_at, root_seen, roots_of, base_root, based_on, base_seen, volume_seen, seen}
use Rattle.fv_image.specs.ReachRules.{all_volumes, shape_for, block_is, is_of_position, are_distinct, has_reached_shapes, has_pointers_in_range, has_reached_positions, has_distinct_files, reaches_once, has_reached_kinds}
use Rattle.fv_image.specs.TableRules.{all_items, has_one_to_one, has_stamps_past, has_marks_over, has_cells_within, has_levels}
use Rattle.fv_image.specs.VolumeRules.{has_wide_spans, footing_in, comes_to_end, can_bear, has_footing, has_bases, has_distinct_snapshots, has_use_in_size, has_commits_in_capacity}
use Rattle.fv_image.specs.Soundness.{AreTables}
use Rattle.fv_image.proofs.SameSeen.{of_volume, seen_at}
use Rattle.fv_image.specs.Moves.{FitsRoot}
use Rattle.fv_places.specs.HintlessSeen.{hintless_placed, hintless_reached, hintless_named, hintless_root, hintless_volume}
use Rattle.fv_places.specs.OneVolume.{of_reached, has_own_names, is_once, has_kinds, agree_in_id, has_marks, has_cells_inside, has_fit_levels, has_shape, has_position, is_within, is_led, is_apart, files_rule, once_rule, kinds_rule, ids_rule, stamps_rule, marks_rule, cells_rule, levels_rule}
use Rattle.fv_places.specs.Mirrors.{Copies, Mirrors, KeepsForms}
use Rattle.fv_places.proofs.Asked.{all_asked}
use Rattle.fv_places.proofs.NewSlot.{parent_other, others_seen}
use Rattle.fv_places.proofs.Holders.{of_holders}
use Rattle.fv_places.proofs.Mirror.{found, alike, mirror_unknown}
use Rattle.fv_places.proofs.HintlessRules.{by_hintless, files_hintless, once_hintless, kinds_hintless, marks_hintless, cells_hintless, levels_hintless, ids_hintless, stamps_hintless}

module _ (w u : View) (s t m : ℕ) (r : Rooted) (h g : Head) (mirrors : Mirrors w u s t r g) (fits : FitsRoot w s r)
    (small : s < 64) (low : t < 64) (source : w.head s ≡ Some h) (root : In {X = ℕ × Rooted} (m, r) (roots_of h)) (is : AreTables (seen w))
    (snaps : g.snapshots ≡ []) (now : h.now ≡ g.now) (unclean : g.known ≡ false)
    (forms : KeepsForms w s u t) where
  abbrev x : VolumeSeen
  x = volume_seen w s h

  abbrev y : VolumeSeen
  y = volume_seen u t g

  -- the source as it would be seen with that root alone, under the mirror's numbers
  abbrev z : VolumeSeen
  z = record { head = g; volume = volume_told u t g; roots = root_seen w s 0 r ∷ []; base = [] }

  -- ---- the mirror's root is that of the source, but for hints

  -- a copy has the kind of what it copies
  place_hintless : (v : ℕ) → is_listed (items (standing_of w s r)) v ≡ true
      → option_map hintless_placed (place u t v) ≡ option_map hintless_placed (place w s v)
  place_hintless v listed = let f = found w u s t r g mirrors fits v listed in
      ap (option_map hintless_placed) f.1 ∙ ap (λ (n : ℕ). Some (record { pvbn = 0; kind = n; block = [] })) f.0.kind
      ∙ sym (ap (option_map hintless_placed) f.0.there)

  abbrev hintless_at : View → ℕ → Item → Reached
  hintless_at a k e = record { item = e; at = option_map hintless_placed (place a k e.pointer.vvbn); own = false }

  -- what is reached, without hints, by its items without hints
  fused : (a : View) (k : ℕ) (es : List Item)
      → map hintless_reached (map (reached_at a k) es) ≡ map (hintless_at a k) (map hintless_item es)
  fused a k [] = refl
  fused a k (e ∷ es) = ap (λ (xs : List Reached). hintless_at a k (hintless_item e) ∷ xs) (fused a k es)

  -- the first item is listed
  own_listed : (e : Item) (es : List Item) → is_listed (e ∷ es) e.pointer.vvbn ≡ true
  own_listed e es = or_left (e.pointer.vvbn == e.pointer.vvbn) (is_listed es e.pointer.vvbn) (grind (arith, nat_tests))

  -- the same items are found at both
  swapped : (es : List Item) → ((v : ℕ) → is_listed es v ≡ true → is_listed (items (standing_of w s r)) v ≡ true)
      → map (hintless_at u t) (map hintless_item es) ≡ map (hintless_at w s) (map hintless_item es)
  swapped [] own = refl
  swapped (e ∷ es) own = λ i. record {
    item = hintless_item e;
    at = place_hintless e.pointer.vvbn
        (own e.pointer.vvbn (own_listed e es)) i;
    own = false;
  } ∷ swapped es (λ v there. own v (later e.pointer.vvbn v es there)) i
    where
      later : (n v : ℕ) (es : List Item) → is_listed es v ≡ true → ((n == v) || is_listed es v) ≡ true
      later n v es e = so (n == v)
        where
          so : (b : Bool) → (b || is_listed es v) ≡ true
          so true = refl
          so false = e

  -- the mirror's table, by the levels of the root
  levels_is : standing_of u t g.active ≡ standing_at (under u t) r.levels g.active.root
  levels_is = ap (λ (l : ℕ). standing_at (under u t) l g.active.root) mirrors.levels

  -- the roots are the same but for hints
  root_hintless : hintless_root (root_seen u t 0 g.active) ≡ hintless_root (root_seen w s 0 r)
  unfolding root_seen
  root_hintless = λ i. record {
    map = 0;
    rooted = record { levels = mirrors.levels i; root = mirrors.root i };
    files =
        (ap (λ xs. map hintless_named (records xs)) levels_is
        ∙ alike_records (under w s) (under u t) r.levels r.root g.active.root mirrors.root (alike w u s t r g mirrors fits)) i;
    reached = reached i;
  }
    where
      reached : map hintless_reached (map (reached_at u t) (items (standing_of u t g.active)))
          ≡ map hintless_reached (map (reached_at w s) (items (standing_of w s r)))
      reached = fused u t (items (standing_of u t g.active))
          ∙ ap (λ es. map (hintless_at u t) (map hintless_item (items es))) levels_is
          ∙ ap (map (hintless_at u t))
          (alike_reach (under w s) (under u t) r.levels r.root g.active.root mirrors.root (alike w u s t r g mirrors fits))
          ∙ swapped (items (standing_of w s r)) (λ v there. there)
          ∙ sym (fused w s (items (standing_of w s r)))

  -- and so are the volumes
  seen_hintless : hintless_volume y ≡ hintless_volume z
  unfolding volume_seen base_seen
  seen_hintless = (λ i. record {
    head = g;
    volume = volume_told u t g;
    roots = map hintless_root
        (map (λ (q : ℕ × Rooted). root_seen u t q.0 q.1)
        ((0, g.active) ∷ map (λ (p : Snap). (p.slot, p.table)) (snaps i)));
    base = option_map_or
        (λ b. option_map_or (based_on u t b) (base_root u b) []) (mirrors.base i) [];
  })
      ∙ (λ i. record { head = g; volume = volume_told u t g; roots = root_hintless i ∷ []; base = [] })

  -- what a rule asked of the source
  was : (test : ℕ → VolumeSeen → Bool) → all_volumes (seen w) test ≡ true → test s x ≡ true
  was test all = of_volume w test s h all small source

  -- a test of each root of the source that looks at no map slot is one of that root
  of_root : (test : Root → Bool) → test (root_seen w s 0 r) ≡ test (root_seen w s m r) → list_all test x.roots ≡ true
      → list_all test z.roots ≡ true
  unfolding volume_seen
  of_root test free all = and_from (test (root_seen w s 0 r)) true
      (free ∙ from_all test (map (λ (q : ℕ × Rooted). root_seen w s q.0 q.1) (roots_of h)) all (root_seen w s m r)
      (in_map (λ (q : ℕ × Rooted). root_seen w s q.0 q.1) (m, r) (roots_of h) root)) refl

  -- ---- the other volumes

  module _ (blocks : u.blocks ≡ w.blocks) (free : w.head t ≡ None) (others : (k : ℕ) → k ≢ t → u.head k ≡ w.head k)
      (entries : (k v : ℕ) → k ≢ t → u.entry k v ≡ w.entry k v) where
    -- the mirror is seen in its slot
    here_seen : (seen u).volume t ≡ Some y
    here_seen = seen_at u t g low mirrors.head

    -- so a rule holds of all volumes where it held before and holds of the mirror
    all_now : (test : ℕ → VolumeSeen → Bool) → all_volumes (seen w) test ≡ true → test t y ≡ true → all_volumes (seen u) test ≡ true
    unfolding slots
    all_now test all here = to_all (λ k. option_map_or (test k) ((seen u).volume k) true) slots (λ k there. ⊎_elim
        (λ (e : k ≡ t). subst (λ (n : ℕ). option_map_or (test n) ((seen u).volume n) true ≡ true) (sym e)
        (ap (λ (o : Option VolumeSeen). option_map_or (test t) o true) here_seen ∙ here))
        (λ other. ap (λ (o : Option VolumeSeen). option_map_or (test k) o true) (others_seen w u t is free others entries k other)
        ∙ from_all (λ k. option_map_or (test k) ((seen w).volume k) true) slots all k there)
        (cases_eq k t))

    -- a rule that looks at no hint, of a root by itself
    by_rule : (rule : VolumeSeen → Bool) (test : Root → Bool) → ((v : VolumeSeen) → rule (hintless_volume v) ≡ rule v)
        → ((v : VolumeSeen) → rule v ≡ list_all test v.roots) → test (root_seen w s 0 r) ≡ test (root_seen w s m r)
        → all_volumes (seen w) (λ k v. rule v) ≡ true → all_volumes (seen u) (λ k v. rule v) ≡ true
    by_rule rule test none roots map all =
        all_now (λ k v. rule v) all
        (by_hintless rule none z y seen_hintless ∙ roots z ∙ of_root test map (sym (roots x) ∙ was (λ k v. rule v) all))

    -- all items of the root alone are among those of the source
    fewer : (test : Item → Bool) → list_all test (all_items x) ≡ true → list_all test (all_items z) ≡ true
    unfolding volume_seen root_seen
    fewer test all = to_all test (all_items z) (λ e there. from_all test (all_items x) all e (among e there))
      where
        among : (e : Item) → In e (all_items z) → In e (all_items x)
        among e there =
            in_left e (flat_map (λ (r : Root). map (λ (e : Reached). e.item) r.reached) x.roots) (map (λ (b : Based). b.item) x.base)
            (in_flat_map (λ (r : Root). map (λ (e : Reached). e.item) r.reached) (root_seen w s m r) e x.roots
            (in_map (λ (q : ℕ × Rooted). root_seen w s q.0 q.1) (m, r) (roots_of h) root)
            (subst (λ (es : List Item). In e es)
            (nil_right (map (λ (e : Reached). e.item) (map (reached_at w s) (items (standing_of w s r)))))
            (subst (λ (es : List Item). In e es)
            (nil_right (map (λ (e : Reached). e.item) (map (reached_at w s) (items (standing_of w s r))) ++ [])) there)))
          where
            nil_right : (es : List Item) → es ++ [] ≡ es
            nil_right [] = refl
            nil_right (d ∷ ds) = ap (λ (xs : List Item). d ∷ xs) (nil_right ds)

    -- ---- tests of the mirror's pointers

    -- a test that looks at no hint is one of the source's pointers
    by_source : (test : Item → Bool) → ((e : Item) → test (hintless_item e) ≡ test e)
        → ((e : Item) → In e (items (standing_of w s r)) → test e ≡ true) → list_all test (items (standing_of u t g.active)) ≡ true
    by_source test free each =
        sym (once (items (standing_of u t g.active))) ∙ ap (λ (x : Standing). list_all test (map hintless_item (items x))) levels_is
        ∙ ap (list_all test)
        (alike_reach (under w s) (under u t) r.levels r.root g.active.root mirrors.root (alike w u s t r g mirrors fits))
        ∙ once (items (standing_of w s r)) ∙ to_all test (items (standing_of w s r)) each
      where
        once : (es : List Item) → list_all test (map hintless_item es) ≡ list_all test es
        once es = list_all-map test hintless_item es ∙ (λ i. list_all (λ e. free e i) es)

    -- what a rule asked of each pointer of the root
    source_rule : (test : Root → Reached → Bool) → of_reached test x ≡ true → (e : Item) → In e (items (standing_of w s r))
        → test (root_seen w s m r) (reached_at w s e) ≡ true
    source_rule test all =
        from_all (λ (e : Item). test (root_seen w s m r) (reached_at w s e)) (items (standing_of w s r))
        (all_asked w s h test all m r root)

    -- a test of each pointer of the mirror
    of_mirror : (test : Reached → Bool) → list_all (λ (e : Item). test (reached_at u t e)) (items (standing_of u t g.active)) ≡ true
        → list_all (λ q. list_all test q.reached) y.roots ≡ true
    unfolding volume_seen root_seen
    of_mirror test all =
        (λ i. list_all (λ (q : Root). list_all test q.reached)
        (map (λ (q : ℕ × Rooted). root_seen u t q.0 q.1) ((0, g.active) ∷ map (λ (p : Snap). (p.slot, p.table)) (snaps i))))
        ∙ and_from (list_all test (map (reached_at u t) (items (standing_of u t g.active)))) true
        (list_all-map test (reached_at u t) (items (standing_of u t g.active)) ∙ all) refl

    -- a test of blocks that each copy passes as what it copies did
    block_test : (test : Item → List ℕ → Bool)
        → ((e : Item) (v : ℕ) (c : Copies w s u t v) → test e c.from.block ≡ true → test e c.copy.block ≡ true)
        → (e : Item) → In e (items (standing_of w s r)) → block_is (test e) (place w s e.pointer.vvbn) ≡ true
        → block_is (test e) (place u t e.pointer.vvbn) ≡ true
    block_test test keeps e there before =
        let f = found w u s t r g mirrors fits e.pointer.vvbn (listed_in (items (standing_of w s r)) e there) in
        ap (block_is (test e)) f.1 ∙ keeps e e.pointer.vvbn f.0 (sym (ap (block_is (test e)) f.0.there) ∙ before)

    abbrev shape_test : Item → List ℕ → Bool
    shape_test e block = is_fine (shape_for e block)

    -- all pointers of the mirror are unknown
    zero_all : list_all (λ (e : Item). e.pointer.pvbn == 0) (items (standing_of u t g.active)) ≡ true
    zero_all =
        ap (λ (x : Standing). list_all (λ (e : Item). e.pointer.pvbn == 0) (items x)) levels_is ∙ mirror_unknown w u s t r g mirrors fits

    -- and so is each pointer to a block with a pointer
    holders_zero : list_all (λ (e : Item). e.holder.pvbn == 0) (items (standing_of u t g.active)) ≡ true
    holders_zero = of_holders (λ (p : Pointer). p.pvbn == 0) refl (under u t) g.active.levels g.active.root zero_all

    -- ---- bases

    -- the mirror stands on nothing
    no_foot : footing_in (seen u) t ≡ None
    unfolding volume_seen
    no_foot = ap (option_and_then (λ (v : VolumeSeen). v.head.base)) here_seen ∙ mirrors.base

    -- each chain of bases ends still
    ends : (n k : ℕ) → comes_to_end (seen w) n k ≡ true → comes_to_end (seen u) n k ≡ true
    unfolding comes_to_end
    ends zero k e = absurd cc
    ends (suc n) k e = ⊎_elim
        (λ (at : k ≡ t). ap (λ (j : ℕ). option_map_or (λ b. comes_to_end (seen u) n b.parent) (footing_in (seen u) j) true) at
        ∙ ap (λ (o : Option Footing). option_map_or (λ b. comes_to_end (seen u) n b.parent) o true) no_foot)
        (λ other. ap (λ (o : Option VolumeSeen). option_map_or (λ b. comes_to_end (seen u) n b.parent)
        (option_and_then (λ (v : VolumeSeen). v.head.base) o) true) (others_seen w u t is free others entries k other)
        ∙ so (λ p e. ends n p e) (footing_in (seen w) k) e)
        (cases_eq k t)
      where
        so : ((p : ℕ) → comes_to_end (seen w) n p ≡ true → comes_to_end (seen u) n p ≡ true) → (o : Option Footing)
            → option_map_or (λ b. comes_to_end (seen w) n b.parent) o true ≡ true
            → option_map_or (λ b. comes_to_end (seen u) n b.parent) o true ≡ true
        so next None e = refl
        so next (Some b) e = next b.parent e

    abbrev rests_on : Seen → ℕ → VolumeSeen → Bool
    rests_on a k v = comes_to_end a 64 k && option_map_or (has_footing a v) v.head.base true

    -- so the rule on bases holds
    bases : has_bases (seen w) ≡ true → has_bases (seen u) ≡ true
    unfolding has_bases seen volume_seen slots comes_to_end
    bases all = all_now (rests_on (seen u))
        (to_all (λ k. option_map_or (rests_on (seen u) k) ((seen w).volume k) true) slots
        (λ k there. each k (from_all (λ k. option_map_or (rests_on (seen w) k) ((seen w).volume k) true) slots all k there)))
        (and_from (comes_to_end (seen u) 64 t) _
        (ap (λ (o : Option Footing). option_map_or (λ b. comes_to_end (seen u) 63 b.parent) o true) no_foot)
        (ap (λ (o : Option Footing). option_map_or (has_footing (seen u) y) o true) mirrors.base))
      where
        foot : (k : ℕ) (f : Head) → k < 64 → w.head k ≡ Some f → (v : VolumeSeen) (o : Option Footing) → f.base ≡ o
            → option_map_or (has_footing (seen u) v) o true ≡ option_map_or (has_footing (seen w) v) o true
        foot k f inside there v None based = refl
        foot k f inside there v (Some b) based =
            ap (λ (o : Option VolumeSeen). option_map_or (can_bear v b) o false)
            (others_seen w u t is free others entries b.parent (parent_other w u t is free others entries k f b inside there based).0)

        each : (k : ℕ) → option_map_or (rests_on (seen w) k) ((seen w).volume k) true ≡ true
            → option_map_or (rests_on (seen u) k) ((seen w).volume k) true ≡ true
        each k = so (nat_lt k 64) refl (w.head k) refl
          where
            so : (b : Bool) → nat_lt k 64 ≡ b → (o : Option Head) → w.head k ≡ o
                → option_map_or (rests_on (seen w) k) (option_map (volume_seen w k) (if b then o else None)) true ≡ true
                → option_map_or (rests_on (seen u) k) (option_map (volume_seen w k) (if b then o else None)) true ≡ true
            so false i o there e = refl
            so true i None there e = refl
            so true i (Some f) there e =
                let parts = and_parts (comes_to_end (seen w) 64 k) _ e in
                and_from (comes_to_end (seen u) 64 k) _ (ends 64 k parts.0)
                (foot k f (grind (arith, nat_tests, i)) there (volume_seen w k f) f.base refl ∙ parts.1)

    -- ---- all rules

    -- a volume without base has no ids of a base
    none_ids : set.len (base_ids None) ≡ 0
    none_ids = set.len-empty id_cmp

    -- a test that all pass
    list_true : {X : Type 0} (test : X → Bool) → ((v : X) → test v ≡ true) → (vs : List X) → list_all test vs ≡ true
    list_true test each [] = refl
    list_true test each (v ∷ vs) = and_from (test v) (list_all test vs) (each v) (list_true test each vs)

    -- what holds of unknown pointers that unknown ones hold, holds of all of the mirror
    by_zero : (test : Item → Bool) → ((e : Item) → (e.pointer.pvbn == 0) ≡ true → (e.holder.pvbn == 0) ≡ true → test e ≡ true)
        → list_all test (items (standing_of u t g.active)) ≡ true
    by_zero test each =
        to_all test (items (standing_of u t g.active))
        (λ e there. each e (from_all (λ (e : Item). e.pointer.pvbn == 0) (items (standing_of u t g.active)) zero_all e there)
        (from_all (λ (e : Item). e.holder.pvbn == 0) (items (standing_of u t g.active)) holders_zero e there))

    -- With the mirror all rules hold, where its span is wide and its use and all commits fit.
    pub mirror_sound : g.most + 256 ≤ g.span → nat_le (use_of (volume_told u t g)) g.size ≡ true → has_commits_in_capacity (seen u) ≡ true
        → AreTables (seen u)
    unfolding has_reached_shapes has_pointers_in_range has_wide_spans has_distinct_snapshots has_distinct_files has_reached_positions reaches_once has_reached_kinds has_one_to_one has_stamps_past has_marks_over has_cells_within has_levels has_true_hints leads_unknown has_known_places has_split_places leaves_base rests_on_base has_use_in_size seen volume_seen root_seen volume_with base_seen
    mirror_sound wide size commits = record {
      shapes = all_now _ is.shapes (of_mirror has_shape (by_source (λ e. has_shape (reached_at u t e)) (λ e. refl) (λ e there.
          block_test shape_test forms.shapes e there
          (source_rule (λ q e. has_shape e) (was (λ k v. of_reached (λ q e. has_shape e) v) is.shapes) e there))));
      ranges = all_now _ (subst (λ (n : ℕ). all_volumes (seen w) (λ k v. of_reached (λ q e. is_within n v.head.span e.item) v) ≡ true)
          (sym blocks) is.ranges)
          (of_mirror (λ e. is_within u.blocks g.span e.item)
          (to_all (is_within u.blocks g.span) (items (standing_of u t g.active)) (λ e there.
          and_from (nat_lt e.pointer.vvbn g.span) _
          (from_all (λ e. nat_lt e.pointer.vvbn g.span) (items (standing_of u t g.active)) below e there)
          (or_left (e.pointer.pvbn == 0) _
          (from_all (λ (e : Item). e.pointer.pvbn == 0) (items (standing_of u t g.active)) zero_all e there)))));
      spans =
          all_now _ is.spans (let zero =
          none_ids in (λ i. nat_le (g.most + (set.len (base_ids (base_from u (mirrors.base i))) + 256)) g.span)
          ∙ fits_span g.most g.span (set.len (base_ids None)) zero wide);
      bases = bases is.bases;
      snapshots = all_now _ is.snapshots (ap (λ (ps : List Snap). are_distinct (map (λ (p : Snap). p.name) ps)) snaps);
      files = by_rule files_rule has_own_names files_hintless (λ v. refl) refl is.files;
      positions = all_now _ is.positions (of_mirror has_position (by_source (λ e. has_position (reached_at u t e)) (λ e. refl) (λ e there.
          block_test is_of_position forms.positions e there
          (source_rule (λ q e. has_position e) (was (λ k v. of_reached (λ q e. has_position e) v) is.positions) e there))));
      once = by_rule once_rule is_once once_hintless (λ v. refl) refl is.once;
      kinds = by_rule kinds_rule has_kinds kinds_hintless (λ v. refl) refl is.kinds;
      ids =
          all_now _ is.ids (by_hintless ids_rule ids_hintless z y seen_hintless
          ∙ fewer _ (to_all _ (all_items x)
          (λ e there. fewer _ (from_all (λ e. list_all (agree_in_id e) (all_items x)) (all_items x)
          (was (λ k v. ids_rule v) is.ids) e there))));
      stamps = all_now _ is.stamps (by_hintless stamps_rule stamps_hintless z y seen_hintless
          ∙ fewer (λ e. nat_le e.pointer.stamp g.now)
          (subst (λ (n : ℕ). list_all (λ (e : Item). nat_le e.pointer.stamp n) (all_items x) ≡ true) now
          (was (λ k v. stamps_rule v) is.stamps)));
      marks = by_rule marks_rule has_marks marks_hintless (λ v. refl) refl is.marks;
      cells = by_rule cells_rule has_cells_inside cells_hintless (λ v. refl) refl is.cells;
      levels = by_rule levels_rule has_fit_levels levels_hintless (λ v. refl) refl is.levels;
      hints =
          all_now _ is.hints (of_mirror (λ e. is_true_hint e.item.pointer e.at)
          (by_zero (λ e. is_true_hint e.pointer (place u t e.pointer.vvbn)) (λ e zero holder. or_left (e.pointer.pvbn == 0) _ zero)));
      unknown =
          all_now _ is.unknown
          (of_mirror (λ e. is_led e.item)
          (by_zero is_led (λ e zero holder. last (not (is_unknown e.pointer)) (is_in_label e) (e.holder.pvbn == 0) holder)));
      known =
          all_now _ is.known (of_mirror (λ e. not g.known || not (is_unknown e.item.pointer))
          (by_zero (λ e. not g.known || not (is_unknown e.pointer))
          (λ e zero holder. ap (λ (b : Bool). not b || not (is_unknown e.pointer)) unclean)));
      split =
          all_now _ is.split (list_true _
          (λ q. ap (λ (o : Option Footing). not (is_splitting o)
          || list_all (λ e. is_apart y q e.item) q.reached) mirrors.base) y.roots);
      leaves =
          all_now _ is.leaves (λ i. list_all (λ (b : Based). not b.own)
          (option_map_or (λ b. option_map_or (based_on u t b) (base_root u b) []) (mirrors.base i) []));
      rests =
          all_now _ is.rests (list_true _
          (λ q. ap (λ (o : Option Footing). is_none o
          || list_all (λ e. e.own || is_based y e.item.pointer.vvbn) q.reached) mirrors.base) y.roots);
      sizes = all_now _ is.sizes size;
      commits = commits;
    }
      where
        below : list_all (λ e. nat_lt e.pointer.vvbn g.span) (items (standing_of u t g.active)) ≡ true
        below =
            by_source (λ e. nat_lt e.pointer.vvbn g.span) (λ e. refl) (λ e there. let lt =
            mirrors.wide e.pointer.vvbn (listed_in (items (standing_of w s r)) e there) in grind (arith, nat_tests))

        last : (a b c : Bool) → c ≡ true → (a || (b || c)) ≡ true
        last true b c e = refl
        last false true c e = refl
        last false false c e = e

        fits_span : (most span n : ℕ) → n ≡ 0 → most + 256 ≤ span → nat_le (most + (n + 256)) span ≡ true
        fits_span most span n e le = grind (arith, nat_tests)
