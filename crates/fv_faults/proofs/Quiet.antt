-- Pass 2 the other way round: where the table of a root keeps what soundness asks, the walk of the root finds nothing.
use Rattle.std.proofs.Common.{◌≡◌, ℕ, ◌<◌, ◌≤◌, Bool, true, false, not, List, [], ◌∷◌, ◌++◌, map, inl, inr, refl, sym, ap, subst, ◌∙◌, arith}
use Rattle.std.specs.Prelude.{Option, Some, None, find, flat_map, ◌&&◌, ◌||◌, ◌==◌, nat_lt, if◌then◌else◌}
use Rattle.std.specs.List.{list_all, list_any}
use Rattle.std.specs.Option.{is_some, option_map_or}
use Rattle.std.proofs.lemmas.Bool.{and_parts, and_from, or_left, or_right}
use Rattle.std.proofs.lemmas.Bool.Decides.{nat_tests}
use Rattle.std.proofs.lemmas.List.{append_assoc}
use Rattle.std.proofs.lemmas.List.Concat.{flat_map-append}
use Rattle.std.proofs.lemmas.List.Folds.{list_all-map, list_all-append}
use Rattle.fv_laws.proofs.Lists.{In, in_right, in_map}
use Rattle.fv_laws.proofs.Tests.{from_all, to_all, none_of}
use Rattle.fv_tables.specs.Told.{records}
use Rattle.fv_tables.specs.Reached.{Item, items}
use Rattle.fv_image.specs.Views.{Placed, Rooted}
use Rattle.fv_image.specs.Volumes.{standing_of}
use Rattle.fv_image.specs.Seen.{Reached, reached_at}
use Rattle.fv_image.specs.BlockRules.{is_fine}
use Rattle.fv_image.specs.ReachRules.{shape_for, block_is, is_of_position, is_hint, are_distinct}
use Rattle.fv_model.specs.Spelling.{is_same_name}
use Rattle.fv_faults.specs.Lines.{line}
use Rattle.fv_faults.specs.Walks.{Step, Ground, step, steps, pointers_under, pointer_lines, shape_lines, files_under, met_in, has_reached, block_lines, name_lines, twin_line, same_file}
use Rattle.fv_faults.proofs.Clean.{nil_parts}
use Rattle.fv_faults.proofs.Plain.{Spot, place_at, met, run, IsClean, steps_from}
use Rattle.fv_faults.proofs.Members.{all_met}
use Rattle.fv_faults.proofs.TableMembers.{reached_to}
use Rattle.fv_faults.proofs.Reached.{AreNew, reached, reaches_once_from}
use Rattle.fv_faults.proofs.OnceSilent.{once_new, says_block}
use Rattle.fv_faults.proofs.TablePositions.{met_once}
use Rattle.fv_faults.proofs.Shapes.{fine_shape}
use Rattle.fv_faults.proofs.InRange.{no_lines, nil_is, holds_pointers, is_ranged, holds_ranged}
use Rattle.fv_faults.proofs.Files.{in_block, to_record}
use Rattle.fv_faults.proofs.Names.{name_of, same_number, files_same}
use Rattle.fv_faults.proofs.Numbered.{File, AreNumbered, found_files, all_numbered, after_step}

-- ---- names

-- each name differs from all later ones
abbrev AreNamed : List File → Type 0
AreNamed [] = Unit {0}
AreNamed (f ∷ fs) = ((g : File) → In g fs → same_file f g ≡ true → ⊥) × AreNamed fs

named_later : (before : List File) (f : File) (fs : List File) → AreNamed (before ++ (f ∷ fs)) → (g : File) → In g before → same_file g f ≡ true → ⊥
named_later [] f fs are g there same = absurd there
named_later (b ∷ bs) f fs are g (inl is) same = are.0 f (in_right f bs (f ∷ fs) (inl refl)) (subst (λ (e : File). same_file e f ≡ true) (sym is) same)
named_later (b ∷ bs) f fs are g (inr there) same = named_later bs f fs are.1 g there same

none_found : (f : File) (before : List File) → ((g : File) → In g before → same_file g f ≡ true → ⊥) → find (λ g. same_file g f) before ≡ None
none_found f [] none = refl
none_found f (b ∷ bs) none = so (same_file b f) refl (none_found f bs (λ g there. none g (inr there)))
  where
    so : (t : Bool) → same_file b f ≡ t → find (λ g. same_file g f) bs ≡ None → (if t then Some b else find (λ g. same_file g f) bs) ≡ None
    so true is rest = absurd (none b (inl refl) is)
    so false is rest = rest

quiet_names : (at : ℕ) (before fs : List File) → AreNamed (before ++ fs) → name_lines at before fs ≡ []
unfolding name_lines
quiet_names at before [] are = refl
quiet_names at before (f ∷ fs) are =
    nil_parts (twin_line (λ g f. line 4 at g.0 f.0) (find (λ g. same_file g f) before) f) _
    (ap (λ (o : Option File). twin_line (λ g f. line 4 at g.0 f.0) o f) (none_found f before (named_later before f fs are)))
    (quiet_names at (before ++ (f ∷ [])) fs (subst AreNamed (sym (append_assoc before (f ∷ []) fs)) are))

named_part : (fs gs : List File) → AreNamed (fs ++ gs) → AreNamed fs
named_part [] gs are = tt
named_part (f ∷ fs) gs are = ((λ g there. are.0 g (left g fs there)), named_part fs gs are.1)
  where
    left : (g : File) (fs : List File) → In g fs → In g (fs ++ gs)
    left g [] there = absurd there
    left g (h ∷ hs) (inl is) = inl is
    left g (h ∷ hs) (inr there) = inr (left g hs there)

-- whether two files of one name have one number
abbrev alike : File → File → Bool
alike a b = not (same_file a b) || same_number a b

from_alike : (a b : File) → alike a b ≡ true → same_file a b ≡ true → a.0 ≡ b.0
from_alike a b is same =
    let one : same_number a b ≡ true = sym (ap (λ t. not t || same_number a b) same) ∙ is in
    grind (arith, nat_tests, one)

named_from : (fs : List File) → ((a b : File) → In a fs → In b fs → alike a b ≡ true) → AreNumbered fs → AreNamed fs
named_from [] alike numbers = tt
named_from (f ∷ fs) alike numbers = (
  (λ g there same. numbers.0 g there (from_alike f g (alike f g (inl refl) (inr there)) same)),
  named_from fs (λ a b one other. alike a b (inr one) (inr other)) numbers.1,
)

-- what soundness says of the names of records
records_alike : (rs : List File) → are_distinct (map name_of rs) ≡ true → (a b : File) → In a rs → In b rs → alike a b ≡ true
records_alike [] all a b one other = absurd one
records_alike (r ∷ rs) all a b one other = so (records_alike rs parts.1 a b) one other
  where
    parts : (not (list_any (is_same_name (name_of r)) (map name_of rs)) ≡ true) × (are_distinct (map name_of rs) ≡ true)
    parts = and_parts (not (list_any (is_same_name (name_of r)) (map name_of rs))) _ all

    no : (t : Bool) → not t ≡ true → t ≡ false
    no true e = absurd cc
    no false e = refl

    none_same : (e : File) → In e rs → same_file r e ≡ false
    none_same e there = none_of (is_same_name (name_of r)) (map name_of rs) (no (list_any (is_same_name (name_of r)) (map name_of rs)) parts.0) (name_of e) (in_map name_of e rs there)

    turned : (e : File) → In e rs → same_file e r ≡ false
    turned e there = so (same_file e r) refl
      where
        differ : true ≡ false → ⊥
        differ e = cc

        so : (t : Bool) → same_file e r ≡ t → t ≡ false
        so true is = absurd (differ (sym (files_same.turned e r is) ∙ none_same e there))
        so false is = refl

    so : (In a rs → In b rs → alike a b ≡ true) → In a (r ∷ rs) → In b (r ∷ rs) → alike a b ≡ true
    so rest (inl x) (inl y) = or_right (not (same_file a b)) _ (let same : a.0 ≡ b.0 = ap (λ (f : File). f.0) (sym x ∙ y) in grind (arith, nat_tests, same))
    so rest (inl x) (inr y) = or_left (not (same_file a b)) _ (ap not (subst (λ (f : File). same_file f b ≡ false) x (none_same b y)))
    so rest (inr x) (inl y) = or_left (not (same_file a b)) _ (ap not (subst (λ (f : File). same_file a f ≡ false) y (turned a x)))
    so rest (inr x) (inr y) = rest x y

-- ---- the walk

module _ (g : Ground) (some_span : 0 < g.span) (some_blocks : 0 < g.view.blocks) where
  abbrev pub has_shape : Item → Bool
  has_shape e = block_is (λ block. is_fine (shape_for e block)) (place_at g e)

  abbrev pub is_placed : Item → Bool
  is_placed e = block_is (is_of_position e) (place_at g e)

  abbrev pub holds : Item → Bool
  holds = holds_pointers g.view.blocks g.span some_span some_blocks g

  -- a step to a block that has its shape, its position, pointers in range and new names
  no_lines_here : (done : List Step) (p : Spot) → has_reached done p.0.pointer.vvbn ≡ false → is_some (place_at g p.0) ≡ true → has_shape p.0 ≡ true → is_placed p.0 ≡ true → holds p.0 ≡ true
      → AreNamed (flat_map met_in done ++ found_files g p) → (step g done p.0 p.1).lines ≡ []
  unfolding block_lines
  no_lines_here done p new there shape placed held named = so (place_at g p.0) refl there shape placed held named
    where
      so : (o : Option Placed) → place_at g p.0 ≡ o → is_some o ≡ true → block_is (λ block. is_fine (shape_for p.0 block)) o ≡ true → block_is (is_of_position p.0) o ≡ true
          → option_map_or (λ x. no_lines g.view.blocks g.span some_span some_blocks (flat_map (λ c. pointer_lines g.view.blocks g.span x.pvbn c.pointer) (pointers_under p.0 x))) o true ≡ true
          → AreNamed (flat_map met_in done ++ option_map_or (files_under p.0) o []) → (step g done p.0 p.1).lines ≡ []
      so None found there shape placed held named = absurd cc
      so (Some x) found there shape placed held named =
          says_block g done p.0 p.1 x new found
          ∙ nil_parts (shape_lines p.0 x) _ (fine_shape p.0 x shape placed)
          (nil_parts (flat_map (λ c. pointer_lines g.view.blocks g.span x.pvbn c.pointer) (pointers_under p.0 x)) _
          (nil_is g.view.blocks g.span some_span some_blocks _ held)
          (quiet_names x.pvbn (flat_map met_in done) (files_under p.0 x) named))

  quiet : (done : List Step) (ps : List Spot) → AreNew g done ps → all_met has_shape ps ≡ true → all_met is_placed ps ≡ true → all_met holds ps ≡ true
      → AreNamed (flat_map met_in done ++ flat_map (found_files g) ps) → IsClean done → IsClean (run g done ps)
  unfolding run
  quiet done [] new shapes placed held named clean = clean
  quiet done (p ∷ ps) new shapes placed held named clean =
      let a = and_parts (has_shape p.0) _ shapes in
      let b = and_parts (is_placed p.0) _ placed in
      let c = and_parts (holds p.0) _ held in
      let together : AreNamed ((flat_map met_in done ++ found_files g p) ++ flat_map (found_files g) ps) = subst AreNamed (sym (append_assoc (flat_map met_in done) (found_files g p) (flat_map (found_files g) ps))) named in
      let none = no_lines_here done p new.0 new.1.0 a.0 b.0 c.0 (named_part (flat_map met_in done ++ found_files g p) (flat_map (found_files g) ps) together) in
      quiet (done ++ (step g done p.0 p.1 ∷ [])) ps new.1.1 a.1 b.1 c.1
      (subst (λ fs. AreNamed (fs ++ flat_map (found_files g) ps)) (sym (after_step g done p new.0)) together)
      (flat_map-append (λ (s : Step). s.lines) done (step g done p.0 p.1 ∷ []) ∙ nil_parts (flat_map (λ (s : Step). s.lines) done) _ clean (nil_parts (step g done p.0 p.1).lines [] none refl))

  -- ---- of a root

  -- what soundness asks of the walk along the pointers of a root
  pub record IsWalked (r : Rooted) : Type 0 where
    pub shapes : list_all (λ e. block_is (λ block. is_fine (shape_for e.item block)) e.at) (reached g r) ≡ true
    pub positions : list_all (λ e. block_is (is_of_position e.item) e.at) (reached g r) ≡ true
    pub ranges : list_all (λ e. nat_lt e.item.pointer.vvbn g.span && is_hint g.view.blocks e.item.pointer.pvbn) (reached g r) ≡ true
    pub once : reaches_once_from g (reached g r) ≡ true
    pub names : are_distinct (map name_of (records (standing_of g.view g.slot r))) ≡ true

  module _ (r : Rooted) (label : ℕ) (fits : r.levels ≤ 2) where
    abbrev spots : List Spot
    spots = met g label r

    to_spots : (test : Reached → Bool) → list_all test (reached g r) ≡ true → all_met (λ e. test (reached_at g.view g.slot e)) spots ≡ true
    to_spots test all = reached_to (λ e. test (reached_at g.view g.slot e)) g r label (sym (list_all-map test (reached_at g.view g.slot) (items (standing_of g.view g.slot r))) ∙ all)

    ranged : (ps : List Spot) → all_met (λ e. nat_lt e.pointer.vvbn g.span && is_hint g.view.blocks e.pointer.pvbn) ps ≡ true → all_met (is_ranged g.view.blocks g.span some_span some_blocks g) ps ≡ true
    ranged [] all = refl
    ranged (p ∷ ps) all =
        let parts = and_parts (nat_lt p.0.pointer.vvbn g.span && is_hint g.view.blocks p.0.pointer.pvbn) _ all in
        and_from (is_ranged g.view.blocks g.span some_span some_blocks g p.0) _ (or_right (p.0.pointer.stamp == 0) _ parts.0) (ranged ps parts.1)

    files_found : (test : File → Bool) (ps : List Spot) → all_met (in_block g test) ps ≡ true → list_all test (flat_map (found_files g) ps) ≡ true
    files_found test [] all = refl
    files_found test (p ∷ ps) all =
        let parts = and_parts (in_block g test p.0) _ all in
        list_all-append test (found_files g p) (flat_map (found_files g) ps)
        ∙ and_from (list_all test (found_files g p)) _ (so (place_at g p.0) parts.0) (files_found test ps parts.1)
      where
        so : (o : Option Placed) → option_map_or (λ x. list_all test (files_under p.0 x)) o true ≡ true → list_all test (option_map_or (files_under p.0) o []) ≡ true
        so None is = refl
        so (Some x) is = is

    to_files : (test : File → Bool) → list_all test (records (standing_of g.view g.slot r)) ≡ true → list_all test (flat_map (found_files g) spots) ≡ true
    to_files test all = files_found test spots (reached_to (in_block g test) g r label (to_record g test r fits all))

    all_named : are_distinct (map name_of (records (standing_of g.view g.slot r))) ≡ true → AreNamed (flat_map (found_files g) spots)
    all_named names = named_from fs (λ a b one other. from_all (alike a) fs (from_all (λ a. list_all (alike a) fs) fs crossed a one) b other) (all_numbered g spots (met_once g r fits label))
      where
        rs : List File
        rs = records (standing_of g.view g.slot r)

        fs : List File
        fs = flat_map (found_files g) spots

        crossed : list_all (λ a. list_all (alike a) fs) fs ≡ true
        crossed = to_files (λ a. list_all (alike a) fs) (to_all (λ a. list_all (alike a) fs) rs (λ a one. to_files (alike a) (to_all (alike a) rs (λ b other. records_alike rs names a b one other))))

    -- Where the table of a root keeps that, its walk finds nothing.
    pub walk_is_clean : IsWalked r → IsClean (steps g label r)
    walk_is_clean is = subst IsClean (sym (steps_from g label r clean)) clean
      where
        clean : IsClean (run g [] spots)
        clean = quiet [] spots (once_new g label r fits is.once)
            (to_spots (λ e. block_is (λ block. is_fine (shape_for e.item block)) e.at) is.shapes)
            (to_spots (λ e. block_is (is_of_position e.item) e.at) is.positions)
            (holds_ranged g.view.blocks g.span some_span some_blocks g label r fits (ranged spots (to_spots (λ e. nat_lt e.item.pointer.vvbn g.span && is_hint g.view.blocks e.item.pointer.pvbn) is.ranges)))
            (all_named is.names) refl
