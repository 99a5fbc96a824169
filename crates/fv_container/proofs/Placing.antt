-- The places that the nodes of a tree get of which some stay.
use Rattle.std.proofs.Common.{◌≡◌, ◌≢◌, ℕ, ◌+◌, ◌-◌, ◌<◌, ◌≤◌, ◌⊎◌, List, length, get_or, Bool, true, false, not, ◌&&◌, refl, sym, ap, subst, ◌∙◌, arith, ⊎_elim}
use Rattle.std.specs.Prelude.{slice_set, nat_lt, ◌==◌, if◌then◌else◌}
use Rattle.std.proofs.lemmas.Bool.{and_parts, cases_Bool, cases_eq, cases_lt, true≢false}
use Rattle.std.proofs.lemmas.Bool.Decides.{nat_tests}
use Rattle.std.proofs.lemmas.List.{get_or-set_same, get_or-set_other}
use Rattle.fv_image.specs.Containers.{level_width}
use Rattle.fv_container.specs.Paged.{Leaves, leaf_here}
use Rattle.fv_container.specs.Written.{ArePlaced, IsPlaced, IsSameBelow, is_above, is_full, is_there, may_move}

module _ (there : ℕ → Bool) (entries : ℕ) (tree : List ℕ) (dirty : List Bool) (fresh places : List ℕ) (n : ℕ) where
  -- the first nodes are placed as they were
  pub placed_before : (a b : ℕ) (m : ℕ) → m < n → n < length places → IsPlaced there entries tree dirty fresh places m → IsPlaced there entries tree dirty (slice_set fresh n a) (slice_set places n b) m
  placed_before a b m lt inside is = record {
    absent = λ out. place m lt ∙ is.absent out;
    written = λ written none. is.written written (sym (place m lt) ∙ none);
    anew = λ some. place m lt ∙ is.anew (λ none. some (other ∙ none)) ∙ sym other;
    stays = λ none some. let stays = is.stays (sym other ∙ none) (λ z. some (place m lt ∙ z)) in record {
      place = place m lt ∙ stays.place;
      clean = stays.clean;
      below = record {
        inner = λ low high k from to end. place k (omega (arith, lt, low, end)) ∙ stays.below.inner low high k from to end;
        top = λ top k from to. place k (omega (arith, lt, top, to)) ∙ stays.below.top top k from to;
      };
    };
    keeps = λ written some clean below. place m lt ∙ is.keeps written some clean (record {
      inner = λ low high k from to end. sym (place k (omega (arith, lt, low, end))) ∙ below.inner low high k from to end;
      top = λ top k from to. sym (place k (omega (arith, lt, top, to))) ∙ below.top top k from to;
    });
  }
    where
      place : (k : ℕ) → k < n → get_or (slice_set places n b) k 0 ≡ get_or places k 0
      place k less = get_or-set_other places n k b 0 (omega (arith, less))

      other : get_or (slice_set fresh n a) m 0 ≡ get_or fresh m 0
      other = get_or-set_other fresh n m a 0 (omega (arith, lt))

  module _ (a : ℕ) (in_fresh : n < length fresh) (in_places : n < length places) where
    here_fresh : get_or (slice_set fresh n a) n 0 ≡ a
    here_fresh = get_or-set_same fresh n a 0 in_fresh

    here : (b : ℕ) → get_or (slice_set places n b) n 0 ≡ b
    here b = get_or-set_same places n b 0 in_places

    -- a node that takes a place, or has none
    pub placed_anew : (there n ≡ true → a ≢ 0) → (there n ≡ false → a ≡ 0) → (there n ≡ true → get_or tree n 0 ≢ 0 → get_or dirty n true ≡ false → IsSameBelow (entries) tree places n → ⊥)
        → IsPlaced there entries tree dirty (slice_set fresh n a) (slice_set places n a) n
    placed_anew some none moves = record {
      absent = λ out. here a ∙ none out;
      written = λ is z. some is (sym (here a) ∙ z);
      anew = λ is. here a ∙ sym here_fresh;
      stays = λ z is. absurd (is (here a ∙ sym here_fresh ∙ z));
      keeps = λ written some_there clean below. absurd (moves written some_there clean (record {
        inner = λ low high k from to end. sym (get_or-set_other places n k a 0 (omega (arith, low, end))) ∙ below.inner low high k from to end;
        top = λ top k from to. sym (get_or-set_other places n k a 0 (omega (arith, top, to))) ∙ below.top top k from to;
      }));
    }

    -- a node that stays
    pub placed_still : there n ≡ true → get_or tree n 0 ≢ 0 → get_or dirty n true ≡ false → IsSameBelow (entries) tree places n → a ≡ 0 → IsPlaced there entries tree dirty (slice_set fresh n a) (slice_set places n (get_or tree n 0)) n
    placed_still written some clean below none = record {
      absent = λ out. absurd (true≢false (sym written ∙ out));
      written = λ is z. some (sym (here (get_or tree n 0)) ∙ z);
      anew = λ is. absurd (is (here_fresh ∙ none));
      stays = λ z is. record {
        place = here (get_or tree n 0);
        clean = clean;
        below = record {
          inner = λ low high k from to end. get_or-set_other places n k (get_or tree n 0) 0 (omega (arith, low, end)) ∙ below.inner low high k from to end;
          top = λ top k from to. get_or-set_other places n k (get_or tree n 0) 0 (omega (arith, top, to)) ∙ below.top top k from to;
        };
      };
      keeps = λ is some_there so under. here (get_or tree n 0);
    }

  -- one node more
  pub placed_more : (a b : ℕ) → n < length places → ArePlaced there entries tree dirty fresh places n → IsPlaced there entries tree dirty (slice_set fresh n a) (slice_set places n b) n → ArePlaced there entries tree dirty (slice_set fresh n a) (slice_set places n b) (n + 1)
  placed_more a b inside so_far now m lt = ⊎_elim
      (λ (e : m ≡ n). subst (IsPlaced there entries tree dirty (slice_set fresh n a) (slice_set places n b)) (sym e) now)
      (λ (ne : m ≢ n). placed_before a b m (omega (arith, lt, ne)) inside (so_far m (omega (arith, lt, ne))))
      (cases_eq m n)

-- a node is written anew exactly where it is there and doesn't stay
pub wanted_written : (stays written wanted : Bool) → wanted ≡ (not stays && written) → wanted ≡ true → written ≡ true
wanted_written true written wanted is so = absurd (true≢false (sym so ∙ is))
wanted_written false written wanted is so = sym is ∙ so

pub not_wanted : (stays written wanted : Bool) → wanted ≡ (not stays && written) → stays ≡ true → wanted ≡ false
not_wanted stays written wanted is so = is ∙ ap (λ t. not t && written) so

pub is_wanted : (stays written wanted : Bool) → wanted ≡ (not stays && written) → stays ≡ false → wanted ≡ written
is_wanted stays written wanted is so = is ∙ ap (λ t. not t && written) so

-- a node that is written anew may have to be: a leaf that isn't dirty stays
pub wants_move : (held : Leaves) (tree : List ℕ) (dirty : List Bool) (entries : ℕ) (places : List ℕ) (n : ℕ) (there stays wanted : Bool) → there ≡ is_there held tree dirty entries n → wanted ≡ (not stays && there)
    → (stays ≡ false → there ≡ true → get_or tree n 0 ≢ 0 → get_or dirty n true ≡ false → IsSameBelow entries tree places n → ⊥) → wanted ≡ true → may_move held dirty entries n ≡ true
unfolding is_there may_move
wants_move held tree dirty entries places n there stays wanted is so apart want = ⊎_elim
    (λ (low : n < level_width entries 0).
    let test : nat_lt n (level_width entries 0) ≡ true = grind (arith, nat_tests) in
    ⊎_elim
    (λ (marked : get_or dirty n true ≡ true).
    let full : is_full (leaf_here held n) ≡ true = sym (ap (λ (t : Bool). if t then (if get_or dirty n true then is_full (leaf_here held n) else not (get_or tree n 0 == 0)) else is_above entries n) test ∙ ap (λ (t : Bool). if t then is_full (leaf_here held n) else not (get_or tree n 0 == 0)) marked) ∙ (sym is ∙ yes) in
    rw (test, marked) full)
    (λ (clean : get_or dirty n true ≡ false).
    let some : not (get_or tree n 0 == 0) ≡ true = sym (ap (λ (t : Bool). if t then (if get_or dirty n true then is_full (leaf_here held n) else not (get_or tree n 0 == 0)) else is_above entries n) test ∙ ap (λ (t : Bool). if t then is_full (leaf_here held n) else not (get_or tree n 0 == 0)) clean) ∙ (sym is ∙ yes) in
    absurd (apart no yes (place_of (get_or tree n 0) some) clean (record {
      inner = λ past high k from to end. absurd (omega (arith, low, past));
      top = λ top k from to. absurd (omega (arith, low, top));
    })))
    (cases_Bool (get_or dirty n true)))
    (λ (high : level_width entries 0 ≤ n).
    let test : nat_lt n (level_width entries 0) ≡ false = grind (arith, nat_tests) in
    rw test (sym (ap (λ (t : Bool). if t then (if get_or dirty n true then is_full (leaf_here held n) else not (get_or tree n 0 == 0)) else is_above entries n) test) ∙ (sym is ∙ yes)))
    (cases_lt n (level_width entries 0))
  where
    parts : (not stays ≡ true) × (there ≡ true)
    parts = and_parts (not stays) there (sym so ∙ want)

    yes : there ≡ true
    yes = parts.1

    no : stays ≡ false
    no = by stays parts.0
      where
        by : (t : Bool) → not t ≡ true → t ≡ false
        by true e = absurd (true≢false (sym e))
        by false e = refl

    place_of : (a : ℕ) → not (a == 0) ≡ true → a ≢ 0
    place_of a some none = let test : (a == 0) ≡ true = grind (arith, nat_tests, none) in true≢false (sym some ∙ ap not test)

there_clean : (held : Leaves) (tree : List ℕ) (dirty : List Bool) (entries n : ℕ) → n < level_width entries 0 → get_or dirty n true ≡ false → is_there held tree dirty entries n ≡ not (get_or tree n 0 == 0)
unfolding is_there
there_clean held tree dirty entries n low clean = let test : nat_lt n (level_width entries 0) ≡ true = grind (arith, nat_tests) in rw (test, clean) refl

-- a leaf that isn't dirty stands where it stood
placed_clean : (held : Leaves) (tree : List ℕ) (dirty : List Bool) (entries : ℕ) (fresh places : List ℕ) (n : ℕ) → n < level_width entries 0 → get_or dirty n true ≡ false
    → get_or places n 0 ≡ get_or tree n 0 → get_or fresh n 0 ≡ 0 → IsPlaced (is_there held tree dirty entries) entries tree dirty fresh places n
placed_clean held tree dirty entries fresh places n low clean same none = record {
  absent = λ out. same ∙ no_place (get_or tree n 0) (sym there ∙ out);
  written = λ is z. some_place (get_or tree n 0) (sym there ∙ is) (sym same ∙ z);
  anew = λ some. absurd (some none);
  stays = λ z some. record {
    place = same;
    clean = clean;
    below = record {
      inner = λ past high k from to end. absurd (omega (arith, low, past));
      top = λ is k from to. absurd (omega (arith, low, is));
    };
  };
  keeps = λ is some so below. same;
}
  where
    there : is_there held tree dirty entries n ≡ not (get_or tree n 0 == 0)
    there = there_clean held tree dirty entries n low clean

    no_place : (a : ℕ) → not (a == 0) ≡ false → a ≡ 0
    no_place a is = grind (arith, nat_tests, is)

    some_place : (a : ℕ) → not (a == 0) ≡ true → a ≢ 0
    some_place a is zero = let test : (a == 0) ≡ true = grind (arith, nat_tests, zero) in true≢false (sym is ∙ ap not test)

-- leaves that aren't dirty, behind nodes that are placed
pub placed_up : (held : Leaves) (tree : List ℕ) (dirty : List Bool) (entries : ℕ) (fresh places : List ℕ) (n to : ℕ) → ArePlaced (is_there held tree dirty entries) entries tree dirty fresh places n
    → ((m : ℕ) → n ≤ m → m < to → m < level_width entries 0) → ((m : ℕ) → n ≤ m → m < to → get_or dirty m true ≡ false)
    → ((m : ℕ) → n ≤ m → get_or places m 0 ≡ get_or tree m 0) → ((m : ℕ) → n ≤ m → m < to → get_or fresh m 0 ≡ 0) → ArePlaced (is_there held tree dirty entries) entries tree dirty fresh places to
placed_up held tree dirty entries fresh places n to so_far low clean same none m lt = ⊎_elim
    (λ (before : m < n). so_far m before)
    (λ (past : n ≤ m). placed_clean held tree dirty entries fresh places m (low m past lt) (clean m past lt) (same m past) (none m past lt))
    (cases_lt m n)
