-- Places that are taken and given back one after another.
use Rattle.std.proofs.Common.{◌≡◌, ◌≢◌, ℕ, zero, suc, ◌+◌, ◌-◌, ◌<◌, ◌≤◌, ◌⊎◌, List, [], ◌∷◌, length, get_or, take, Bool, true, false, not, ◌&&◌, ◌||◌, cond, nat_eq, ◌==◌, if◌then◌else◌, refl, sym, ap, subst, ◌∙◌, inl, inr, arith, ⊎_elim}
use Rattle.std.specs.Prelude.{slice_set}
use Rattle.std.specs.FinSet as set
use Rattle.std.specs.FinSet.{FinSet}
use Rattle.std.specs.Ordering.{nat_cmp, eq_by_cmp}
use Rattle.std.proofs.lemmas.Cmp.{nat_cmp_total}
use Rattle.std.proofs.lemmas.Bool.{cases_Bool, cases_eq, true≢false}
use Rattle.std.proofs.lemmas.Bool.Decides.{nat_tests}
use Rattle.std.proofs.Math.Bool.{and-false, and-true, or_assoc, or_comm}
use Rattle.std.proofs.lemmas.List.{get_or-set_same, get_or-set_other, get_or-take, length-take, set-get_or, take_more_set}
use Rattle.std.proofs.lemmas.List.Folds.{list_any-append, list_any_more}
use Rattle.fv_container.specs.Spelled.{is_at, names}
use Rattle.fv_container.specs.Freeing.{IsRoom, Releases, Room}
use Rattle.fv_container.specs.Written.{HasReleased, HasTaken, TakesIf, passed_before}
use Rattle.fv_container.proofs.Named.{named_at}

-- ---- tests

pub or_false : (a : Bool) → (a || false) ≡ a
or_false true = refl
or_false false = refl

left_more : (o n e : Bool) → (not e && (o && not n)) ≡ (o && not (n || e))
left_more true true e = and-false (not e)
left_more true false e = and-true (not e)
left_more false n e = and-false (not e)

held_more : (e n h : Bool) → (e || (n || h)) ≡ ((n || e) || h)
held_more e n h = sym (or_assoc e n h) ∙ ap (λ t. t || h) (or_comm e n)

released_more_held : (e n h : Bool) → (not e && (not n && h)) ≡ (not (n || e) && h)
released_more_held true true h = refl
released_more_held true false h = refl
released_more_held false n h = ap (λ t. not t && h) (sym (or_false n))

same_test : (a b : ℕ) → eq_by_cmp nat_cmp a b ≡ nat_eq a b
same_test a b = grind (arith, nat_tests)

at_some : (a b : ℕ) → b ≢ 0 → is_at a b ≡ nat_eq a b
at_some a b some = let test : (b == 0) ≡ false = grind (arith, nat_tests, some) in rw test (and_true (nat_eq a b))
  where
    and_true : (t : Bool) → (t && true) ≡ t
    and_true true = refl
    and_true false = refl

at_none : (a b : ℕ) → b ≡ 0 → is_at a b ≡ false
at_none a b none = rw none (and_false (nat_eq a 0))
  where
    and_false : (t : Bool) → (t && false) ≡ false
    and_false true = refl
    and_false false = refl

at_same : (a b : ℕ) → is_at a b ≡ true → a ≡ b
at_same a b at = grind (arith, nat_tests, at)

and_first : (a b : Bool) → (a && b) ≡ true → a ≡ true
and_first true b is = refl
and_first false b is = is

and_second : (a b : Bool) → (a && not b) ≡ true → b ≡ false
and_second true false is = refl
and_second true true is = sym is
and_second false b is = absurd (true≢false (sym is))

or_cases : (a b : Bool) → (a || b) ≡ true → (a ≡ true) ⊎ (b ≡ true)
or_cases true b is = inl refl
or_cases false b is = inr is

-- ---- names

names_more : (ps : List ℕ) (n b a : ℕ) → n < length ps → names (take (n + 1) (slice_set ps n b)) a ≡ (names (take n ps) a || is_at a b)
names_more ps n b a within = ap (λ (l : List ℕ). names l a) (take_more_set ps n b within) ∙ list_any-append (is_at a) (take n ps) (b ∷ []) ∙ ap (λ t. names (take n ps) a || t) (or_false (is_at a b))

pub names_next : (ps : List ℕ) (n a : ℕ) → n < length ps → names (take (n + 1) ps) a ≡ (names (take n ps) a || is_at a (get_or ps n 0))
names_next ps n a within = list_any_more (is_at a) ps n 0 within

-- ---- taking

written_more : (test : ℕ → Bool) (n : ℕ) → passed_before test (n + 1) ≡ passed_before test n + (if test n then 1 else 0)
unfolding passed_before
written_more test n = let e : n + 1 ≡ suc n = omega arith in rw e refl

written_up : (test : ℕ → Bool) (n k : ℕ) → passed_before test n ≤ passed_before test (n + k)
written_up test n zero = let e : n + 0 ≡ n = omega arith in rw e (omega arith)
written_up test n (suc k) =
    let e : n + suc k ≡ (n + k) + 1 = omega arith in
    rw (e, written_more test (n + k)) (omega (arith, written_up test n k))

pub some_left : (old mid : Room) (test : ℕ → Bool) (fresh : List ℕ) (n total : ℕ) → HasTaken old test fresh n mid → passed_before test total ≤ set.len old.free → n < total → test n ≡ true → 0 < set.len mid.free
some_left old mid test fresh n total taken room within is =
    let up : passed_before test (n + 1) ≤ passed_before test total = rw (sum) (written_up test (n + 1) (total - (n + 1))) in
    let one : passed_before test (n + 1) ≡ passed_before test n + 1 = written_more test n ∙ ap (λ t. passed_before test n + (if t then 1 else 0)) is in
    omega (arith, up, one, room, taken.fewer)
  where
    sum : total ≡ (n + 1) + (total - (n + 1))
    sum = omega (arith, within)

some_in : (s : FinSet nat_cmp) (b : ℕ) → set.contains s b ≡ true → 0 < set.len s
some_in s b in_it = ⊎_elim
    (λ (none : set.len s ≡ 0). absurd (true≢false (sym in_it ∙ ap (λ (t : FinSet nat_cmp). set.contains t b) (set.empty_of_len s none) ∙ set.contains-empty nat_cmp b)))
    (λ (some : set.len s ≢ 0). omega (arith, some))
    (cases_eq (set.len s) 0)

pub taken_none : (room : Room) (test : ℕ → Bool) (ps : List ℕ) → HasTaken room test ps 0 room
unfolding passed_before
taken_none room test ps = record {
  fewer = omega arith;
  wanted = λ m lt. absurd (omega (arith, lt));
  left = λ b. sym (and_true (set.contains room.free b));
  free = λ b named. absurd (true≢false (sym named));
  held = λ b. refl;
  bounded = λ m lt. absurd (omega (arith, lt));
  once = λ m k lt below some. absurd (omega (arith, below));
  committed = refl;
}
  where
    and_true : (t : Bool) → (t && true) ≡ t
    and_true true = refl
    and_true false = refl

module _ (old mid new : Room) (test : ℕ → Bool) (ps : List ℕ) (n b : ℕ) (laws : IsRoom old) (within : n < length ps) (so_far : HasTaken old test ps n mid) where
  after : List ℕ
  after = slice_set ps n b

  here : get_or after n 0 ≡ b
  unfolding after
  here = get_or-set_same ps n b 0 within

  before : (m : ℕ) → m ≢ n → get_or after m 0 ≡ get_or ps m 0
  unfolding after
  before m ne = get_or-set_other ps n m b 0 ne

  more : (a : ℕ) → names (take (n + 1) after) a ≡ (names (take n ps) a || is_at a b)
  unfolding after
  more a = names_more ps n b a within

  module _ (is : test n ≡ true) (some : set.contains mid.free b ≡ true) (taken : new.free ≡ set.remove mid.free b) (held : (a : ℕ) → new.held a ≡ (nat_eq a b || mid.held a)) (still : new.committed ≡ mid.committed) where
    was_free : (set.contains old.free b && not (names (take n ps) b)) ≡ true
    was_free = sym (so_far.left b) ∙ some

    old_free : set.contains old.free b ≡ true
    old_free = and_first (set.contains old.free b) (not (names (take n ps) b)) was_free

    new_name : names (take n ps) b ≡ false
    new_name = and_second (set.contains old.free b) (names (take n ps) b) was_free

    place : b ≢ 0
    place = λ none. omega (arith, (laws.places b old_free).0, none)

    not_yet : (m : ℕ) → m < n → get_or ps m 0 ≢ b
    not_yet m lt is = true≢false (sym (named_at (take n ps) m b (omega (arith, length-take n ps, lt, within)) (get_or-take n ps m 0 lt ∙ is) place) ∙ new_name)

    taken_one : HasTaken old test after (n + 1) new
    taken_one = record {
      fewer =
          let len : set.len new.free ≡ set.len mid.free - 1 = ap set.len taken ∙ set.len-remove nat_cmp_total mid.free b ∙ ap (λ t. cond t (set.len mid.free - 1) (set.len mid.free)) some in
          let one : passed_before test (n + 1) ≡ passed_before test n + 1 = written_more test n ∙ ap (λ t. passed_before test n + (if t then 1 else 0)) is in
          omega (arith, len, one, so_far.fewer, some_in mid.free b some);
      wanted = λ m lt there. ⊎_elim
          (λ (e : m ≡ n). ap test e ∙ is)
          (λ (ne : m ≢ n). so_far.wanted m (omega (arith, lt, ne)) (λ none. there (before m ne ∙ none)))
          (cases_eq m n);
      left = λ a.
          ap (λ (s : FinSet nat_cmp). set.contains s a) taken ∙ set.contains-remove nat_cmp_total mid.free b a
          ∙ ap (λ t. not t && set.contains mid.free a) (same_test a b ∙ sym (at_some a b place))
          ∙ ap (λ t. not (is_at a b) && t) (so_far.left a)
          ∙ left_more (set.contains old.free a) (names (take n ps) a) (is_at a b)
          ∙ sym (ap (λ t. set.contains old.free a && not t) (more a));
      free = λ a named. ⊎_elim
          (λ (earlier : names (take n ps) a ≡ true). so_far.free a earlier)
          (λ (now : is_at a b ≡ true). rw (at_same a b now) old_free)
          (or_cases (names (take n ps) a) (is_at a b) (sym (more a) ∙ named));
      held = λ a.
          held a ∙ ap (λ t. t || mid.held a) (sym (at_some a b place)) ∙ ap (λ t. is_at a b || t) (so_far.held a)
          ∙ held_more (is_at a b) (names (take n ps) a) (old.held a) ∙ sym (ap (λ t. t || old.held a) (more a));
      bounded = λ m lt. ⊎_elim
          (λ (e : m ≡ n). rw (e, here) ((laws.places b old_free).1))
          (λ (ne : m ≢ n). rw (before m ne) (so_far.bounded m (omega (arith, lt, ne))))
          (cases_eq m n);
      once = λ m k lt below is. ⊎_elim
          (λ (e : k ≡ n). λ same. not_yet m (omega (arith, lt, e)) (sym (before m (omega (arith, lt, e))) ∙ same ∙ ap (λ (x : ℕ). get_or after x 0) e ∙ here))
          (λ (ne : k ≢ n). λ same. so_far.once m k lt (omega (arith, below, ne)) (λ none. is (before k ne ∙ none)) (sym (before m (omega (arith, lt, below, ne))) ∙ same ∙ before k ne))
          (cases_eq k n);
      committed = still ∙ so_far.committed;
    }

  module _ (none : b ≡ 0) (stays : new ≡ mid) where
    no_name : (a : ℕ) → names (take (n + 1) after) a ≡ names (take n ps) a
    no_name a = more a ∙ ap (λ t. names (take n ps) a || t) (at_none a b none) ∙ or_false (names (take n ps) a)

    taken_nothing : HasTaken old test after (n + 1) new
    taken_nothing = record {
      fewer =
          let same : set.len new.free ≡ set.len mid.free = ap (λ (r : Room). set.len r.free) stays in
          omega (arith, same, written_up test n 1, so_far.fewer);
      wanted = λ m lt there. ⊎_elim
          (λ (e : m ≡ n). absurd (there (ap (λ (x : ℕ). get_or after x 0) e ∙ here ∙ none)))
          (λ (ne : m ≢ n). so_far.wanted m (omega (arith, lt, ne)) (λ z. there (before m ne ∙ z)))
          (cases_eq m n);
      left = λ a. ap (λ (r : Room). set.contains r.free a) stays ∙ so_far.left a ∙ sym (ap (λ t. set.contains old.free a && not t) (no_name a));
      free = λ a named. so_far.free a (sym (no_name a) ∙ named);
      held = λ a. ap (λ (r : Room). r.held a) stays ∙ so_far.held a ∙ sym (ap (λ t. t || old.held a) (no_name a));
      bounded = λ m lt. ⊎_elim
          (λ (e : m ≡ n). rw (e, here, none) (omega arith))
          (λ (ne : m ≢ n). rw (before m ne) (so_far.bounded m (omega (arith, lt, ne))))
          (cases_eq m n);
      once = λ m k lt below is. ⊎_elim
          (λ (e : k ≡ n). absurd (is (ap (λ (x : ℕ). get_or after x 0) e ∙ here ∙ none)))
          (λ (ne : k ≢ n). λ same. so_far.once m k lt (omega (arith, below, ne)) (λ z. is (before k ne ∙ z)) (sym (before m (omega (arith, lt, below, ne))) ∙ same ∙ before k ne))
          (cases_eq k n);
      committed = ap (λ (r : Room). r.committed) stays ∙ so_far.committed;
    }

  pub taken_more : (wanted : Bool) → (wanted ≡ true → test n ≡ true) → TakesIf wanted mid b new → HasTaken old test (slice_set ps n b) (n + 1) new
  unfolding after
  taken_more wanted is takes = ⊎_elim
      (λ (so : wanted ≡ true). taken_one (is so) (takes.some so) (takes.taken so) (takes.held so) takes.committed)
      (λ (not_so : wanted ≡ false). taken_nothing (takes.none not_so) (takes.stays not_so))
      (cases_Bool wanted)

-- a node for which there is no new place takes none
taken_still : (old mid : Room) (test : ℕ → Bool) (ps : List ℕ) (n : ℕ) → IsRoom old → n < length ps → get_or ps n 0 ≡ 0 → HasTaken old test ps n mid → HasTaken old test ps (n + 1) mid
taken_still old mid test ps n laws within none so_far =
    let same : slice_set ps n 0 ≡ ps = ap (λ (b : ℕ). slice_set ps n b) (sym none) ∙ set-get_or ps n 0 in
    let takes : TakesIf false mid 0 mid = record {
      some = λ is. absurd (true≢false (sym is));
      taken = λ is. absurd (true≢false (sym is));
      held = λ is. absurd (true≢false (sym is));
      none = λ is. refl;
      stays = λ is. refl;
      committed = refl;
    } in
    subst (λ (l : List ℕ). HasTaken old test l (n + 1) mid) same (taken_more old mid mid test ps n 0 laws within so_far false (λ is. absurd (true≢false (sym is))) takes)

taken_by : (old mid : Room) (test : ℕ → Bool) (ps : List ℕ) (n k : ℕ) → IsRoom old → n + k ≤ length ps → ((m : ℕ) → n ≤ m → m < n + k → get_or ps m 0 ≡ 0) → HasTaken old test ps n mid → HasTaken old test ps (n + k) mid
taken_by old mid test ps n zero laws within none so_far = let e : n ≡ n + 0 = omega arith in subst (λ (m : ℕ). HasTaken old test ps m mid) e so_far
taken_by old mid test ps n (suc k) laws within none so_far =
    let e : (n + k) + 1 ≡ n + suc k = omega arith in
    let before : HasTaken old test ps (n + k) mid = taken_by old mid test ps n k laws (omega (arith, within)) (λ m low high. none m low (omega (arith, high))) so_far in
    subst (λ (m : ℕ). HasTaken old test ps m mid) e (taken_still old mid test ps (n + k) laws (omega (arith, within)) (none (n + k) (omega arith) (omega arith)) before)

-- nor do several
pub taken_up : (old mid : Room) (test : ℕ → Bool) (ps : List ℕ) (n to : ℕ) → IsRoom old → n ≤ to → to ≤ length ps → ((m : ℕ) → n ≤ m → m < to → get_or ps m 0 ≡ 0) → HasTaken old test ps n mid → HasTaken old test ps to mid
taken_up old mid test ps n to laws le within none so_far =
    let e : n + (to - n) ≡ to = omega (arith, le) in
    subst (λ (m : ℕ). HasTaken old test ps m mid) e (taken_by old mid test ps n (to - n) laws (omega (arith, e, within)) (λ m low high. none m low (omega (arith, high, e))) so_far)

-- ---- giving back

pub released_skip : (old mid : Room) (ps : List ℕ) (n : ℕ) → n < length ps → get_or ps n 0 ≡ 0 → HasReleased old ps n mid → HasReleased old ps (n + 1) mid
released_skip old mid ps n within none so_far =
    let same : (a : ℕ) → names (take (n + 1) ps) a ≡ names (take n ps) a = λ a. names_next ps n a within ∙ ap (λ t. names (take n ps) a || t) (at_none a (get_or ps n 0) none) ∙ or_false (names (take n ps) a) in
    record {
      keeps = so_far.keeps;
      grows = so_far.grows;
      adds = λ a in_it. ⊎_elim (λ was. inl was) (λ named. inr (same a ∙ named)) (so_far.adds a in_it);
      held = λ a. so_far.held a ∙ sym (ap (λ t. not t && old.held a) (same a));
      committed = so_far.committed;
    }

pub released_none : (room : Room) (ps : List ℕ) → HasReleased room ps 0 room
released_none room ps = record {
  keeps = λ b in_it. in_it;
  grows = omega arith;
  adds = λ b in_it. inl in_it;
  held = λ b. refl;
  committed = refl;
}

released_by : (old mid : Room) (ps : List ℕ) (n k : ℕ) → n + k ≤ length ps → ((m : ℕ) → n ≤ m → m < n + k → get_or ps m 0 ≡ 0) → HasReleased old ps n mid → HasReleased old ps (n + k) mid
released_by old mid ps n zero within none so_far = let e : n ≡ n + 0 = omega arith in subst (λ (m : ℕ). HasReleased old ps m mid) e so_far
released_by old mid ps n (suc k) within none so_far =
    let e : (n + k) + 1 ≡ n + suc k = omega arith in
    let before : HasReleased old ps (n + k) mid = released_by old mid ps n k (omega (arith, within)) (λ m low high. none m low (omega (arith, high))) so_far in
    subst (λ (m : ℕ). HasReleased old ps m mid) e (released_skip old mid ps (n + k) (omega (arith, within)) (none (n + k) (omega arith) (omega arith)) before)

-- where there is no place nothing is given back
pub released_up : (old mid : Room) (ps : List ℕ) (n to : ℕ) → n ≤ to → to ≤ length ps → ((m : ℕ) → n ≤ m → m < to → get_or ps m 0 ≡ 0) → HasReleased old ps n mid → HasReleased old ps to mid
released_up old mid ps n to le within none so_far =
    let e : n + (to - n) ≡ to = omega (arith, le) in
    subst (λ (m : ℕ). HasReleased old ps m mid) e (released_by old mid ps n (to - n) (omega (arith, e, within)) (λ m low high. none m low (omega (arith, high, e))) so_far)

or_left : (a b : Bool) → a ≡ true → (a || b) ≡ true
or_left a b is = rw is refl

or_right : (a b : Bool) → b ≡ true → (a || b) ≡ true
or_right true b is = refl
or_right false b is = is

one_more : (t : Bool) (n : ℕ) → n ≤ cond t n (n + 1)
one_more true n = omega arith
one_more false n = omega arith

-- a map doesn't lose a free block by giving one back
not_fewer : (mid new : Room) (b : ℕ) → Releases mid b new → set.len mid.free ≤ set.len new.free
not_fewer mid new b gives = ⊎_elim
    (λ (same : new.free ≡ mid.free). rw same (omega arith))
    (λ (grown : new.free ≡ set.insert mid.free b). rw (grown, set.len-insert nat_cmp_total mid.free b) (one_more (set.contains mid.free b) (set.len mid.free)))
    gives.free

pub released_more : (old mid new : Room) (ps : List ℕ) (n b : ℕ) → n < length ps → b ≡ get_or ps n 0 → get_or ps n 0 ≢ 0 → HasReleased old ps n mid → Releases mid b new → HasReleased old ps (n + 1) new
released_more old mid new ps n b within is some so_far gives =
    let next : (a : ℕ) → names (take (n + 1) ps) a ≡ (names (take n ps) a || is_at a b) = λ a. names_next ps n a within ∙ ap (λ (p : ℕ). names (take n ps) a || is_at a p) (sym is) in
    let place : b ≢ 0 = λ none. some (sym is ∙ none) in
    let inserted : (a : ℕ) → new.free ≡ set.insert mid.free b → set.contains new.free a ≡ (is_at a b || set.contains mid.free a) = λ a grown.
    ap (λ (s : FinSet nat_cmp). set.contains s a) grown ∙ set.contains-insert nat_cmp_total mid.free b a ∙ ap (λ t. t || set.contains mid.free a) (same_test a b ∙ sym (at_some a b place)) in
    record {
      keeps = λ a in_it. ⊎_elim
          (λ (same : new.free ≡ mid.free). rw same (so_far.keeps a in_it))
          (λ (grown : new.free ≡ set.insert mid.free b). inserted a grown ∙ or_right (is_at a b) (set.contains mid.free a) (so_far.keeps a in_it))
          gives.free;
      grows = omega (arith, so_far.grows, not_fewer mid new b gives);
      adds = λ a in_it. ⊎_elim
          (λ (same : new.free ≡ mid.free). ⊎_elim (λ was. inl was) (λ named. inr (next a ∙ or_left (names (take n ps) a) (is_at a b) named)) (so_far.adds a (rw (← same) in_it)))
          (λ (grown : new.free ≡ set.insert mid.free b). ⊎_elim
          (λ (now : is_at a b ≡ true). inr (next a ∙ or_right (names (take n ps) a) (is_at a b) now))
          (λ (was : set.contains mid.free a ≡ true). ⊎_elim (λ first. inl first) (λ named. inr (next a ∙ or_left (names (take n ps) a) (is_at a b) named)) (so_far.adds a was))
          (or_cases (is_at a b) (set.contains mid.free a) (sym (inserted a grown) ∙ in_it)))
          gives.free;
      held = λ a.
          gives.held a ∙ ap (λ t. not t && mid.held a) (sym (at_some a b place)) ∙ ap (λ t. not (is_at a b) && t) (so_far.held a)
          ∙ released_more_held (is_at a b) (names (take n ps) a) (old.held a) ∙ sym (ap (λ t. not t && old.held a) (next a));
      committed = gives.committed ∙ so_far.committed;
    }
