-- The two steps that move a block: a clean step fills in the places of a node, a split step copies a block or writes it anew with all its
-- places unknown. Both keep all rules.
use Rattle.std.proofs.Common.{◌≡◌, ◌≢◌, ◌⊎◌, ℕ, ◌<◌, Bool, true, false, not, List, [], ◌∷◌, map, inl, inr, refl, sym, ap, ap₂, subst, ◌∙◌, arith, ⊎_elim}
use Rattle.std.specs.Prelude.{Option, Some, ◌&&◌, ◌||◌, ◌==◌, nat_lt}
use Rattle.std.specs.List.{list_all, list_any}
use Rattle.std.specs.Option.{is_some, is_none}
use Rattle.std.proofs.lemmas.Bool.{cases_eq, and_parts, and_from, or_left, or_right}
use Rattle.std.proofs.lemmas.Bool.Decides.{nat_tests}
use Rattle.std.proofs.lemmas.List.Folds.{list_all-map}
use Rattle.fv_codec.specs.declared.pointer.Pointer.{Pointer}
use Rattle.fv_laws.proofs.Lists.{In, from_map}
use Rattle.fv_laws.proofs.Tests.{from_all, to_all}
use Rattle.fv_tables.specs.Told.{Standing}
use Rattle.fv_tables.specs.Reached.{Item, items}
use Rattle.fv_tables.specs.Alike.{hintless, hintless_item}
use Rattle.fv_image.specs.Views.{Placed, Rooted, Head, View}
use Rattle.fv_image.specs.Chains.{place, under}
use Rattle.fv_image.specs.Volumes.{standing_of}
use Rattle.fv_image.specs.Seen.{Reached, Root, Based, VolumeSeen, reached_at, root_seen, roots_of, volume_seen, seen}
use Rattle.fv_image.specs.BlockRules.{is_fine}
use Rattle.fv_image.specs.ReachRules.{all_volumes, shape_for, block_is, has_reached_shapes, is_hint, has_pointers_in_range, is_of_position, has_reached_positions}
use Rattle.fv_image.specs.HintRules.{is_known, is_unknown, is_true_hint, has_true_hints, is_in_label, leads_unknown, is_splitting, is_based, is_copied, has_split_places, rests_on_base}
use Rattle.fv_image.specs.Soundness.{AreTables}
use Rattle.fv_image.specs.Moves.{Moves, FitsRoots}
use Rattle.fv_image.proofs.SameSeen.{of_volume}
use Rattle.fv_image.proofs.Moved.{items_moved, place_here, place_moved}
use Rattle.fv_places.specs.OneVolume.{of_reached, has_shape, has_position, is_within, is_led, is_apart}
use Rattle.fv_places.specs.Inside.{StandsIn, IsBlank}
use Rattle.fv_places.specs.Origins.{IsPair}
use Rattle.fv_places.specs.Steps.{IsLoose, IsOwn, IsFilled, is_clear_under}
use Rattle.fv_places.proofs.Asked.{all_asked}
use Rattle.fv_places.proofs.MovedPairs.{moved_pairs}
use Rattle.fv_places.proofs.Holders.{of_holders}
use Rattle.fv_places.proofs.MovedSound.{moved_sound, base_seen_same}

-- what holds of all that a table reached held of this item
abbrev WasListed : Standing → Item → Type 0
WasListed x e = (test : Item → Bool) → list_all test (items x) ≡ true → test e ≡ true

-- nothing is and is not
no_not : (b : Bool) → b ≡ true → not b ≡ true → ⊥
no_not true e f = cc
no_not false e f = cc

-- what is unless something is, where it is in that case
unless : (a b c : Bool) → (a ≡ true → b ≡ false → c ≡ true) → (not a || (b || c)) ≡ true
unless false b c is = refl
unless true true c is = refl
unless true false c is = is refl refl

-- a known pointer has a place
known_not : (q : Pointer) → is_known q ≡ true → q.pvbn ≡ 0 → ⊥
known_not q known zero = let test : (q.pvbn == 0) ≡ true = grind (arith, nat_tests) in
    so (not (q.stamp == 0)) (sym (λ i. not (q.stamp == 0) && not (test i)) ∙ known)
  where
    so : (b : Bool) → (b && false) ≡ true → ⊥
    so true e = cc
    so false e = cc

-- some of a list of images
any_mapped : {X Y : Type 0} (p : Y → Bool) (f : X → Y) (xs : List X) → list_any p (map f xs) ≡ list_any (λ x. p (f x)) xs
any_mapped p f [] = refl
any_mapped p f (x ∷ xs) = ap (λ b. p (f x) || b) (any_mapped p f xs)

module _ (w u : View) (s v : ℕ) (was now : Placed) (moves : Moves w u s v was now) (h : Head) (small : s < 64) (head : w.head s ≡ Some h)
    (fits : FitsRoots w s h)
    (own : IsOwn w s h v) (is : AreTables (seen w)) (loose : IsLoose w s h v was now) where
  abbrev x : VolumeSeen
  x = volume_seen w s h

  abbrev y : VolumeSeen
  y = volume_seen u s h

  -- ---- a test of each pointer of each root

  -- of each pointer now, by what it was
  all_now : (test : Root → Reached → Bool)
      → ((m : ℕ) (r : Rooted) → In {X = ℕ × Rooted} (m, r) (roots_of h) → (e f : Item) → IsPair (StandsIn now) v e f
      → WasListed (standing_of w s r) e → test (root_seen u s m r) (reached_at u s f) ≡ true)
      → of_reached test y ≡ true
  unfolding volume_seen root_seen
  all_now test each = to_all _ (map (λ (r : ℕ × Rooted). root_seen u s r.0 r.1) (roots_of h)) (λ r there.
      let q = from_map (λ (r : ℕ × Rooted). root_seen u s r.0 r.1) r (roots_of h) there in
      let fit = fits q.0.0 q.0.1 q.1 in
      subst (λ (z : Root). list_all (test z) z.reached ≡ true) q.2
      (list_all-map (test (root_seen u s q.0.0 q.0.1)) (reached_at u s) (items (standing_of u s q.0.1))
      ∙ moved_pairs w u s v was now moves q.0.1 fit (λ f. test (root_seen u s q.0.0 q.0.1) (reached_at u s f))
      (λ e f pair listed. each q.0.0 q.0.1 q.1 e f pair (λ t all. from_all t (items (standing_of w s q.0.1)) all e listed))))

  -- of each pointer as it was
  all_was : (test : Root → Reached → Bool) → of_reached test x ≡ true → (m : ℕ) (r : Rooted) → In {X = ℕ × Rooted} (m, r) (roots_of h)
      → list_all (λ e. test (root_seen w s m r) (reached_at w s e)) (items (standing_of w s r)) ≡ true
  all_was = all_asked w s h

  -- what a rule asked of the volume
  rule_was : (test : ℕ → VolumeSeen → Bool) → all_volumes (seen w) test ≡ true → test s x ≡ true
  rule_was test all = of_volume w test s h all small head

  -- ---- the rules on blocks

  -- each VVBN is found where it was, or is the one that moved
  place_at : (q : ℕ) → (place u s q ≡ place w s q) ⊎ ((place w s q ≡ Some was) × (place u s q ≡ Some now))
  place_at q = ⊎_elim
      (λ (at : q ≡ v). inr (ap (place w s) at ∙ moves.there, ap (place u s) at ∙ place_moved w u s v was now moves))
      (λ other. inl (place_here w u s v was now moves q other))
      (cases_eq q v)

  -- numbers stay
  vvbn_of : (e f : Item) → hintless_item f ≡ hintless_item e → f.pointer.vvbn ≡ e.pointer.vvbn
  vvbn_of e f same = ap (λ (z : Item). z.pointer.vvbn) same

  -- a test of blocks that looks at no hint, which the new block passes as the old one did
  block_now : (test : Item → List ℕ → Bool) → ((e f : Item) → hintless_item f ≡ hintless_item e → test f ≡ test e)
      → ((e : Item) → test e was.block ≡ true → test e now.block ≡ true)
      → (e f : Item) → hintless_item f ≡ hintless_item e → block_is (test e) (place w s e.pointer.vvbn) ≡ true
      → block_is (test f) (place u s f.pointer.vvbn) ≡ true
  block_now test free keeps e f same before =
      ap₂ (λ (t : List ℕ → Bool) (q : ℕ). block_is t (place u s q)) (free e f same) (vvbn_of e f same) ∙ ⊎_elim
      (λ (stays : place u s e.pointer.vvbn ≡ place w s e.pointer.vvbn). ap (block_is (test e)) stays ∙ before)
      (λ moved. ap (block_is (test e)) moved.1 ∙ keeps e (sym (ap (block_is (test e)) moved.0) ∙ before))
      (place_at e.pointer.vvbn)

  abbrev shape_test : Item → List ℕ → Bool
  shape_test e block = is_fine (shape_for e block)

  -- blocks have their shapes
  shapes : of_reached (λ r e. has_shape e) y ≡ true
  unfolding has_reached_shapes
  shapes = all_now (λ r e. has_shape e) (λ m r there e f pair listed.
      block_now shape_test (λ e f same. ap shape_test same) loose.shapes e f pair.same
      (listed (λ e. has_shape (reached_at w s e)) (all_was (λ r e. has_shape e) (rule_was _ is.shapes) m r there)))

  -- and their positions
  positions : of_reached (λ r e. has_position e) y ≡ true
  unfolding has_reached_positions
  positions = all_now (λ r e. has_position e) (λ m r there e f pair listed.
      block_now is_of_position (λ e f same. ap is_of_position same) loose.positions e f pair.same
      (listed (λ e. has_position (reached_at w s e)) (all_was (λ r e. has_position e) (rule_was _ is.positions) m r there)))

  -- ---- pointers as they stood

  -- a pointer to the block that moves is unknown
  to_moved : (m : ℕ) (r : Rooted) → In {X = ℕ × Rooted} (m, r) (roots_of h) → (e : Item) → WasListed (standing_of w s r) e
      → e.pointer.vvbn ≡ v → e.pointer.pvbn ≡ 0
  to_moved m r there e listed at =
      let test : (not (e.pointer.vvbn == v) || (e.pointer.pvbn == 0)) ≡ true =
      listed (λ e. not (e.pointer.vvbn == v) || (e.pointer.pvbn == 0)) (loose.unknown m r there) in
      let here : (e.pointer.vvbn == v) ≡ true = grind (arith, nat_tests) in
      let zero : (e.pointer.pvbn == 0) ≡ true = sym (ap (λ (b : Bool). not b || (e.pointer.pvbn == 0)) here) ∙ test in
      grind (arith, nat_tests)

  -- a pointer as it stood is right still
  stays_right : (m : ℕ) (r : Rooted) → In {X = ℕ × Rooted} (m, r) (roots_of h) → (e : Item) → WasListed (standing_of w s r) e
      → is_true_hint e.pointer (place u s e.pointer.vvbn) ≡ true
  unfolding has_true_hints
  stays_right m r there e listed = ⊎_elim
      (λ (at : e.pointer.vvbn ≡ v). let none = to_moved m r there e listed at in
      or_left (e.pointer.pvbn == 0) _ (grind (arith, nat_tests)))
      (λ other. ap (is_true_hint e.pointer) (place_here w u s v was now moves e.pointer.vvbn other)
      ∙ listed (λ e. is_true_hint e.pointer (place w s e.pointer.vvbn))
      (all_was (λ r e. is_true_hint e.item.pointer e.at) (rule_was _ is.hints) m r there))
      (cases_eq e.pointer.vvbn v)

  -- a pointer was in range
  range_was : (m : ℕ) (r : Rooted) → In {X = ℕ × Rooted} (m, r) (roots_of h) → (e : Item) → WasListed (standing_of w s r) e
      → is_within w.blocks h.span e ≡ true
  unfolding has_pointers_in_range volume_seen seen
  range_was m r there e listed =
      listed (is_within w.blocks h.span) (all_was (λ r e. is_within w.blocks h.span e.item) (rule_was _ is.ranges) m r there)

  -- an unknown one was led to by an unknown one
  led_was : (m : ℕ) (r : Rooted) → In {X = ℕ × Rooted} (m, r) (roots_of h) → (e : Item) → WasListed (standing_of w s r) e → is_led e ≡ true
  unfolding leads_unknown
  led_was m r there e listed = listed is_led (all_was (λ r e. is_led e.item) (rule_was _ is.unknown) m r there)

  -- a pointer's range, where its own hint is in range or it stands as it stood
  ranges_from : ((q : Pointer) → StandsIn now q → q.stamp ≢ 0 → is_hint w.blocks q.pvbn ≡ true)
      → of_reached (λ r e. is_within u.blocks y.head.span e.item) y ≡ true
  unfolding volume_seen
  ranges_from fresh = all_now (λ r e. is_within u.blocks h.span e.item) (λ m r there e f pair listed. ⊎_elim
      (λ stays. subst (λ (q : Pointer). (nat_lt q.vvbn h.span && is_hint u.blocks q.pvbn) ≡ true) (sym stays.0)
      (subst (λ (n : ℕ). (nat_lt e.pointer.vvbn h.span && is_hint n e.pointer.pvbn) ≡ true) (sym moves.blocks)
      (range_was m r there e listed)))
      (λ moved. and_from (nat_lt f.pointer.vvbn h.span) _
      (ap (λ (q : ℕ). nat_lt q h.span) (vvbn_of e f pair.same)
      ∙ (and_parts (nat_lt e.pointer.vvbn h.span) _ (range_was m r there e listed)).0)
      (ap (λ (n : ℕ). is_hint n f.pointer.pvbn) moves.blocks ∙ fresh f.pointer moved.1.1 pair.stands))
      pair.pointer)

  -- and whether its hint is right
  hints_from : ((q : Pointer) → StandsIn now q → q.stamp ≢ 0 → is_true_hint q (place u s q.vvbn) ≡ true)
      → of_reached (λ r e. is_true_hint e.item.pointer e.at) y ≡ true
  hints_from fresh = all_now (λ r e. is_true_hint e.item.pointer e.at) (λ m r there e f pair listed. ⊎_elim
      (λ stays. subst (λ (q : Pointer). is_true_hint q (place u s q.vvbn) ≡ true) (sym stays.0) (stays_right m r there e listed))
      (λ moved. fresh f.pointer moved.1.1 pair.stands)
      pair.pointer)

  -- a volume that is not clean may have unknown pointers
  known_from : h.known ≡ false → of_reached (λ r e. not y.head.known || not (is_unknown e.item.pointer)) y ≡ true
  unfolding volume_seen
  known_from unclean =
      all_now (λ r e. not h.known || not (is_unknown e.item.pointer))
      (λ m r there e f pair listed. ap (λ (b : Bool). not b || not (is_unknown f.pointer)) unclean)

  -- ---- own entries

  -- each VVBN that has an entry of its own has one still
  own_now : (q : ℕ) → is_some (w.entry s q) ≡ true → is_some (u.entry s q) ≡ true
  own_now q had = ⊎_elim
      (λ (at : q ≡ v). ap (λ (n : ℕ). is_some (u.entry s n)) at ∙ ap (λ (o : Option Placed). is_some o) moves.here)
      (λ other. ap (λ (o : Option Placed). is_some o) (moves.others s q (inr other)) ∙ had)
      (cases_eq q v)

  -- what the base reaches stays
  based_same : (q : ℕ) → is_based y q ≡ is_based x q
  unfolding volume_seen
  based_same q =
      ap (λ (bs : List Based). list_any (λ (b : Based). b.item.pointer.vvbn == q) bs)
      (base_seen_same w u s v was now moves h small head fits own s h head)

  abbrev rests_in : VolumeSeen → Reached → Bool
  rests_in z e = e.own || is_based z e.item.pointer.vvbn

  -- so a volume with a base rests on it still
  rests : list_all (λ r. is_none y.head.base || list_all (rests_in y) r.reached) y.roots ≡ true
  unfolding rests_on_base volume_seen
  rests = so (is_none h.base) refl
    where
      one : (a b c d : Bool) → (a ≡ true → b ≡ true) → c ≡ d → (a || c) ≡ true → (b || d) ≡ true
      one true b c d keep same test = or_left b d (keep refl)
      one false b c d keep same test = or_right b d (sym same ∙ test)

      none_all : (rs : List Root) → list_all (λ (r : Root). true || list_all (rests_in y) r.reached) rs ≡ true
      none_all [] = refl
      none_all (r ∷ rs) = none_all rs

      so : (b : Bool) → is_none h.base ≡ b → list_all (λ (r : Root). is_none h.base || list_all (rests_in y) r.reached) y.roots ≡ true
      so true e = (λ i. list_all (λ (r : Root). e i || list_all (rests_in y) r.reached) y.roots) ∙ none_all y.roots
      so false e = (λ i. list_all (λ (r : Root). e i || list_all (rests_in y) r.reached) y.roots)
          ∙ all_now (λ r a. rests_in y a) (λ m r there a f pair listed.
          ap (λ (q : ℕ). is_some (u.entry s q) || is_based y q) (vvbn_of a f pair.same)
          ∙ one (is_some (w.entry s a.pointer.vvbn)) (is_some (u.entry s a.pointer.vvbn)) (is_based x a.pointer.vvbn)
          (is_based y a.pointer.vvbn) (own_now a.pointer.vvbn) (sym (based_same a.pointer.vvbn))
          (listed (λ e. is_some (w.entry s e.pointer.vvbn) || is_based x e.pointer.vvbn) (all_was (λ r a. rests_in x a)
          (sym (λ i. list_all (λ (r : Root). e i || list_all (rests_in x) r.reached) x.roots)
          ∙ rule_was (λ k x. list_all (λ r. is_none x.head.base || list_all (rests_in x) r.reached) x.roots) is.rests) m r there)))

  -- an unknown pointer that stays was unknown, in no label, and led to by an unknown one
  stays_led : (m : ℕ) (r : Rooted) → In {X = ℕ × Rooted} (m, r) (roots_of h) → (e f : Item) → IsPair (StandsIn now) v e f → WasListed (standing_of w s r) e
      → f.pointer ≡ e.pointer → is_unknown f.pointer ≡ true → is_in_label f ≡ false
      → (is_unknown e.pointer ≡ true) × ((is_in_label e ≡ false) × ((e.holder.pvbn == 0) ≡ true))
  stays_led m r there e f pair listed stays unknown outside =
      let same : is_unknown e.pointer ≡ true = subst (λ (q : Pointer). is_unknown q ≡ true) stays unknown in
      let out : is_in_label e ≡ false = ap (λ (z : Item). z.holder.stamp == 0) (sym pair.same) ∙ outside in
      (same, (out, sym (λ i. not (same i) || (out i || (e.holder.pvbn == 0))) ∙ led_was m r there e listed))

  -- ---- a clean step: all places of the block are filled in, and what its pointers lead to holds no unknown one

  module _ (unclean : h.known ≡ false) (whole : is_splitting h.base ≡ false) (filled : IsFilled w u s h now) where
    -- no known pointer leads to a block with an unknown one
    clean_unknown : of_reached (λ r e. is_led e.item) y ≡ true
    clean_unknown = all_now (λ r e. is_led e.item) (λ m r there e f pair listed.
        unless (is_unknown f.pointer) (is_in_label f) (f.holder.pvbn == 0) (λ unknown outside. ⊎_elim
        (λ stays.
        let led = stays_led m r there e f pair listed stays.0 unknown outside in
        let same : is_unknown e.pointer ≡ true = led.0 in
        let out : is_in_label e ≡ false = led.1.0 in
        ⊎_elim
        (λ one. ap (λ (q : Pointer). q.pvbn == 0) one ∙ led.1.1)
        (λ of.
        let stands : f.holder.stamp ≢ 0 = let o = outside in grind (arith, nat_tests) in
        let test : is_clear_under f.holder.vvbn e ≡ true =
        listed (is_clear_under f.holder.vvbn) (filled.leaf m r there f.holder of stands) in
        let apart : not (e.holder.vvbn == f.holder.vvbn) ≡ true =
        sym (λ i. not (same i) || (out i || not (e.holder.vvbn == f.holder.vvbn))) ∙ test in
        let vvbn : f.holder.vvbn ≡ e.holder.vvbn = ap (λ (z : Item). z.holder.vvbn) pair.same in
        absurd (no_not (e.holder.vvbn == f.holder.vvbn) (grind (arith, nat_tests)) apart))
        pair.holder)
        (λ moved. absurd (known_is f.pointer pair.stands (filled.known f.pointer moved.1.1 pair.stands) unknown))
        pair.pointer))
      where
        known_is : (q : Pointer) → q.stamp ≢ 0 → q.pvbn ≢ 0 → is_unknown q ≡ true → ⊥
        known_is q some known unknown = let a : (q.stamp == 0) ≡ false = grind (arith, nat_tests) in
            let b : (q.pvbn == 0) ≡ false = grind (arith, nat_tests) in
            no_not false (sym (λ i. not (a i) && b i) ∙ unknown) refl

    -- nothing is asked of a volume that is not being split
    clean_split : list_all (λ r. not (is_splitting y.head.base) || list_all (λ e. is_apart y r e.item) r.reached) y.roots ≡ true
    unfolding volume_seen
    clean_split = (λ i. list_all (λ (r : Root). not (whole i) || list_all (λ e. is_apart y r e.item) r.reached) y.roots) ∙ none y.roots
      where
        none : (rs : List Root) → list_all (λ (r : Root). true || list_all (λ e. is_apart y r e.item) r.reached) rs ≡ true
        none [] = refl
        none (r ∷ rs) = none rs

    -- A clean step keeps all rules.
    pub clean_sound : AreTables (seen u)
    clean_sound = moved_sound w u s v was now moves h small head fits own (record {
      shapes = shapes;
      ranges = ranges_from filled.ranges;
      positions = positions;
      hints = hints_from filled.right;
      unknown = clean_unknown;
      known = known_from unclean;
      split = clean_split;
      rests = rests;
    }) is

  -- ---- a split step: the block is the volume's own, and all its places are unknown

  module _ (split : is_splitting h.base ≡ true) (unclean : h.known ≡ false) (blank : IsBlank now) where
    -- what holds a pointer of the block that moves is unknown
    holder_moved : (m : ℕ) (r : Rooted) → In {X = ℕ × Rooted} (m, r) (roots_of h) → (e : Item) → WasListed (standing_of w s r) e
        → e.holder.vvbn ≡ v → e.holder.pvbn ≡ 0
    holder_moved m r there e listed at =
        let test : (not (e.holder.vvbn == v) || (e.holder.pvbn == 0)) ≡ true =
        listed (λ (d : Item). not (d.holder.vvbn == v) || (d.holder.pvbn == 0))
        (of_holders (λ (p : Pointer). not (p.vvbn == v) || (p.pvbn == 0)) (hole_is (0 == v)) (under w s) r.levels r.root
        (loose.unknown m r there)) in
        let here : (e.holder.vvbn == v) ≡ true = grind (arith, nat_tests) in
        let zero : (e.holder.pvbn == 0) ≡ true = sym (λ i. not (here i) || (e.holder.pvbn == 0)) ∙ test in
        grind (arith, nat_tests)
      where
        hole_is : (b : Bool) → (not b || true) ≡ true
        hole_is true = refl
        hole_is false = refl

    -- one that was unknown is, and so is one that stands in the block
    holder_zero : (e f : Item) → IsPair (StandsIn now) v e f → e.holder.pvbn ≡ 0 → f.holder.pvbn ≡ 0
    holder_zero e f pair zero = ⊎_elim (λ one. ap (λ (q : Pointer). q.pvbn) one ∙ zero) (λ of. blank f.holder of) pair.holder

    -- no known pointer leads to a block with an unknown one
    split_unknown : of_reached (λ r e. is_led e.item) y ≡ true
    split_unknown = all_now (λ r e. is_led e.item) (λ m r there e f pair listed.
        unless (is_unknown f.pointer) (is_in_label f) (f.holder.pvbn == 0) (λ unknown outside. ⊎_elim
        (λ stays.
        let zero : (e.holder.pvbn == 0) ≡ true = (stays_led m r there e f pair listed stays.0 unknown outside).1.1 in
        let none : f.holder.pvbn ≡ 0 = holder_zero e f pair (grind (arith, nat_tests)) in grind (arith, nat_tests))
        (λ moved. let none : f.holder.pvbn ≡ 0 = holder_zero e f pair (holder_moved m r there e listed moved.0) in
        grind (arith, nat_tests))
        pair.pointer))

    -- another VVBN than the one that moved is a copy's where it was one
    copied_same : (m : ℕ) (r : Rooted) → In {X = ℕ × Rooted} (m, r) (roots_of h) → (q : ℕ) → q ≢ v
        → is_copied y (root_seen u s m r) q ≡ is_copied x (root_seen w s m r) q
    unfolding root_seen
    copied_same m r there q other = λ i. based_same q i && any_same i
      where
        test : View → Item → Bool
        test z e = (e.pointer.vvbn == q) && is_some (z.entry s e.pointer.vvbn)

        one : (e : Item) → test u e ≡ test w e
        one e = so (e.pointer.vvbn == q) refl
          where
            so : (b : Bool) → (e.pointer.vvbn == q) ≡ b
                → (b && is_some (u.entry s e.pointer.vvbn)) ≡ (b && is_some (w.entry s e.pointer.vvbn))
            so false t = refl
            so true t =
                let same : e.pointer.vvbn ≡ q = grind (arith, nat_tests) in
                ap (λ (o : Option Placed). is_some o) (moves.others s e.pointer.vvbn (inr (λ at. other (sym same ∙ at))))

        is_own : Reached → Bool
        is_own a = (a.item.pointer.vvbn == q) && a.own

        any_same : list_any is_own (map (reached_at u s) (items (standing_of u s r)))
            ≡ list_any is_own (map (reached_at w s) (items (standing_of w s r)))
        any_same = any_mapped is_own (reached_at u s) (items (standing_of u s r))
            ∙ sym (any_mapped (test u) hintless_item (items (standing_of u s r)))
            ∙ ap (list_any (test u)) (items_moved w u s v was now moves r (fits m r there))
            ∙ any_mapped (test u) hintless_item (items (standing_of w s r))
            ∙ (λ i. list_any (λ e. one e i) (items (standing_of w s r)))
            ∙ sym (any_mapped is_own (reached_at w s) (items (standing_of w s r)))

    -- a known pointer stands in no label and in no copy, and leads to none
    part_bad : (a b c d : Bool) → (a ≡ true → (b ≡ false) × ((c ≡ false) × (d ≡ false))) → (not a || not (b || (c || d))) ≡ true
    part_bad false b c d part = refl
    part_bad true b c d part = let all = part refl in λ i. not (all.0 i || (all.1.0 i || all.1.1 i))

    -- the same read the other way
    open_not : (a b c d : Bool) → a ≡ true → (not a || not (b || (c || d))) ≡ true → (b ≡ false) × ((c ≡ false) × (d ≡ false))
    open_not true false false false e f = (refl, (refl, refl))
    open_not true true c d e f = absurd cc
    open_not true false true d e f = absurd cc
    open_not true false false true e f = absurd cc
    open_not false b c d e f = absurd cc

    -- So the rule on places holds.
    split_places : list_all (λ r. not (is_splitting y.head.base) || list_all (λ e. is_apart y r e.item) r.reached) y.roots ≡ true
    unfolding has_split_places volume_seen
    split_places = (λ i. list_all (λ (r : Root). not (split i) || list_all (λ e. is_apart y r e.item) r.reached) y.roots)
        ∙ all_now (λ r e. is_apart y r e.item) (λ m r there e f pair listed.
        part_bad (is_known f.pointer) (is_in_label f) (is_copied y (root_seen u s m r) f.pointer.vvbn)
        (is_copied y (root_seen u s m r) f.holder.vvbn) (λ known. ⊎_elim
        (λ stays.
        let same : is_known e.pointer ≡ true = subst (λ (q : Pointer). is_known q ≡ true) stays.0 known in
        let was = open_not (is_known e.pointer) (is_in_label e) (is_copied x (root_seen w s m r) e.pointer.vvbn)
        (is_copied x (root_seen w s m r) e.holder.vvbn) same
        (listed (is_apart x (root_seen w s m r)) (all_was (λ r e. is_apart x r e.item)
        (sym (λ i. list_all (λ (r : Root). not (split i) || list_all (λ e. is_apart x r e.item) r.reached) x.roots)
        ∙ rule_was _ is.split) m r there)) in
        let holder : hintless f.holder ≡ hintless e.holder = ap (λ (z : Item). z.holder) pair.same in
        let stands : e.holder.stamp ≢ 0 = let o = was.0 in grind (arith, nat_tests) in
        let led : e.pointer.vvbn ≢ v = λ at. known_not e.pointer same (to_moved m r there e listed at) in
        let held : e.holder.vvbn ≢ v = ⊎_elim (λ none. absurd (stands none)) (λ other. other) stays.1 in (
          ap (λ (q : Pointer). q.stamp == 0) holder ∙ was.0,
          (
            ap (is_copied y (root_seen u s m r)) (vvbn_of e f pair.same) ∙ copied_same m r there e.pointer.vvbn led ∙ was.1.0,
            ap (λ (q : Pointer). is_copied y (root_seen u s m r) q.vvbn) holder ∙ copied_same m r there e.holder.vvbn held ∙ was.1.1,
          ),
        ))
        (λ moved. absurd (known_not f.pointer known (blank f.pointer moved.1.1)))
        pair.pointer))

    -- A split step keeps all rules.
    pub split_sound : AreTables (seen u)
    split_sound = moved_sound w u s v was now moves h small head fits own (record {
      shapes = shapes;
      ranges = ranges_from (λ q of some. let zero = blank q of in or_left (q.pvbn == 0) _ (grind (arith, nat_tests)));
      positions = positions;
      hints = hints_from (λ q of some. let zero = blank q of in or_left (q.pvbn == 0) _ (grind (arith, nat_tests)));
      unknown = split_unknown;
      known = known_from unclean;
      split = split_places;
      rests = rests;
    }) is
