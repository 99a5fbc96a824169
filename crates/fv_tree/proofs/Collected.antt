-- The ranges that stand past a length, level by level.
use Rattle.std.proofs.Common.{◌≡◌, ◌≢◌, ◌≤◌, ◌<◌, ℕ, zero, suc, ◌+◌, ◌-◌, ◌*◌, ◌/◌, ◌%◌, ◌^◌, ◌⊎◌, inl, inr, Bool, true, false, ◌||◌, List, [], ◌∷◌, ◌++◌, get_or, length, ◌==◌, if◌then◌else◌, nat_eq, nat_le, refl, sym, ap, subst, ◌∙◌, arith, length-append, ◌&&◌, nat_lt}
use Rattle.std.proofs.Math.Nat.{div-eq_of_lt, pow-le-pow_right, pow-suc}
use Rattle.std.proofs.Math.Seq.{get_or-append_seam}
use Rattle.std.proofs.lemmas.List.{get_or_append_left}
use Rattle.std.proofs.lemmas.Bool.{cases_eq, cases_lt}
use Rattle.std.proofs.lemmas.Bool.Decides.{nat_tests}
use Rattle.fv_codec.specs.declared.pointer.Pointer.{Pointer}
use Rattle.fv_model.specs.Trees.{fan}
use Rattle.fv_tree.specs.declared.kept.Tree.{Tree}
use Rattle.fv_tree.specs.Spelled.{Under, Rooted, hole, pointers_at, pointer_at}
use Rattle.fv_tree.specs.Standing.{standing}
use Rattle.fv_tree.specs.Erasing.{StandsAt}
use Rattle.fv_tree.specs.Keeping.{IsSame}
use Rattle.fv_tree.proofs.Below.{kept_pointers}
use Rattle.fv_tree.specs.Unlinking.{HasWay}
use Rattle.fv_tree.specs.Flushing.{pointer_in, child_of}
use Rattle.fv_tree.specs.Collecting.{IsRising, AllBelow, IsPast, Collects, IsHeld, StillHeld, AreHeld, Extends, IsAdded, IsChildPast, IsUnder}
use Rattle.fv_tree.proofs.Stamped.{above}
use Rattle.fv_tree.proofs.Unlinked.{hole_below, marks_above, mark_within, top_alone}
use Rattle.fv_tree.proofs.Levels.{not_first, fan_pos}
use Rattle.fv_tree.proofs.Ways.{own_way}
use Rattle.fv_tree.proofs.Writes.{none_at}

-- ---- a number behind others

module _ (xs : List ℕ) (p : ℕ) where
  abbrev ys : List ℕ
  ys = xs ++ p ∷ []

  longer : length ys ≡ length xs + 1
  longer = omega (arith, length-append xs (p ∷ []))

  old_at : (j : ℕ) → j < length xs → get_or ys j 0 ≡ get_or xs j 0
  old_at j lt = get_or_append_left xs (p ∷ []) 0 j lt

  last_at : get_or ys (length xs) 0 ≡ p
  last_at = get_or-append_seam xs p [] 0

  place_of : (j : ℕ) → j < length ys → (j < length xs) ⊎ (j ≡ length xs)
  place_of j lt = let one = longer in elim (cases_lt j (length xs)) [
    | inl less ↦ inl less
    | inr le ↦ inr (omega (arith, one, lt, le))
  ]

  pub rises : IsRising xs → AllBelow xs p → IsRising ys
  rises rising below j k lt in_range = elim (place_of k in_range) [
    | inl less ↦
        let first : get_or ys j 0 ≡ get_or xs j 0 = old_at j (omega (arith, lt, less)) in
        let second : get_or ys k 0 ≡ get_or xs k 0 = old_at k less in
        let is = rising j k lt less in omega (arith, first, second, is)
    | inr same ↦
        let first : get_or ys j 0 ≡ get_or xs j 0 = old_at j (omega (arith, lt, same)) in
        let second : get_or ys k 0 ≡ p = ap (λ k. get_or ys k 0) same ∙ last_at in
        let is = below j (omega (arith, lt, same)) in omega (arith, first, second, is)
  ]

  pub all_below : (bound : ℕ) → p < bound → AllBelow xs bound → AllBelow ys bound
  all_below bound lt below j less = elim (place_of j less) [
    | inl old ↦ let first : get_or ys j 0 ≡ get_or xs j 0 = old_at j old in let is = below j old in omega (arith, first, is)
    | inr same ↦ let last : get_or ys j 0 ≡ p = ap (λ k. get_or ys k 0) same ∙ last_at in omega (arith, last, lt)
  ]

pub none_below : (bound : ℕ) → AllBelow [] bound
none_below bound j lt = absurd (omega (arith, lt))

pub first_below : (bound : ℕ) → 0 < bound → AllBelow (0 ∷ []) bound
first_below bound some = all_below [] 0 bound some (none_below bound)

-- ---- how many ranges of a level there are

-- a level below the third has so many at most
pub range_within : (level place : ℕ) → 1 ≤ level → level ≤ 3 → place < fan ^ (3 - level) → place < 16384
range_within level place low high lt = let le : fan ^ (3 - level) ≤ fan ^ 2 = pow-le-pow_right {n = fan} (omega arith) {i = 3 - level} {j = 2} (omega arith) in omega (arith, lt, le)

-- those under one of them are among those of the level below
pub ranges_under : (level place : ℕ) → 1 ≤ level → level ≤ 3 → place < fan ^ (3 - level) → (place + 1) * fan ≤ fan ^ (3 - (level - 1))
ranges_under level place low high lt =
    let n : 3 - (level - 1) ≡ suc (3 - level) = omega arith in
    let wide : fan ^ (3 - (level - 1)) ≡ fan ^ (3 - level) * fan = ap (λ k. fan ^ k) n ∙ pow-suc fan (3 - level) in omega (arith, lt, wide)

-- ---- ranges past a length

pub far_up : (a b k : ℕ) → a ≤ b → a / fan ^ k ≤ b / fan ^ k
far_up a b zero le = omega (arith, le)
far_up a b (suc k) le =
    let n : suc k ≡ k + 1 = omega arith in
    let first : a / fan ^ suc k ≡ a / fan ^ k / fan = ap (λ m. a / fan ^ m) n ∙ sym (above a k) in
    let second : b / fan ^ suc k ≡ b / fan ^ k / fan = ap (λ m. b / fan ^ m) n ∙ sym (above b k) in
    let below = far_up a b k le in omega (arith, first, second, below)

-- the range above one
pub past_up : (t : Rooted) (level most q : ℕ) → level < t.levels → IsPast t level most q → IsPast t (level + 1) most (q / fan)
past_up t level most q lt is = record {
  stands = λ none. is.stands (hole_below t level q lt none);
  far = let up = above most level in let far = is.far in omega (arith, up, far);
}

-- the nodes over a cell past a length
pub way_held : (blocks : Under) (t : Tree) (s : Rooted) (most i : ℕ) → t.levels ≡ s.levels → AreHeld t s 0 most → IsPast s 0 most i → HasWay t i
way_held blocks t s most i levels held past level low high =
    let le : level ≤ s.levels = omega (arith, high, levels) in
    let far = past.far in
    let first : most / fan ^ 0 ≡ most = omega arith in
    held level (i / fan ^ level) (omega arith) le (record { stands = marks_above s level i le past.stands; far = far_up most i level (omega (arith, far, first)) })

-- ---- the pointer to a range, from the node over it in memory

pub pointer_in_is : (blocks : Under) (t : Tree) (level place : ℕ) → StandsAt (standing blocks t) level place → (level < t.levels → IsHeld t (level + 1) (place / fan)) → pointer_in t level place ≡ pointer_at (standing blocks t) level place
unfolding pointer_in
pointer_in_is blocks t level place stands held =
    let s = standing blocks t in
    let le = mark_within s level place stands in
    elim (cases_eq level t.levels) [
      | inl top ↦
          let low : nat_lt level t.levels ≡ false = grind (arith, nat_tests) in
          let none : place ≡ 0 = top_alone s place (subst (λ k. StandsAt s k place) top stands) in
          let test : (level == t.levels && place == 0) ≡ true = grind (arith, nat_tests) in
          rw (low, test) (sym (ap (λ k. pointer_at s k place) top ∙ (own_way s).top place ∙ ap (λ q. if q == 0 then t.root else hole) none))
      | inr differs ↦
          let lt : level < t.levels = omega (arith, le, differs) in
          let low : nat_lt level t.levels ≡ true = grind (arith, nat_tests) in
          let node = held lt in
          rw low (ap (λ o. child_of o (place % fan)) node.1
          ∙ sym ((own_way s).down level place lt ∙ ap (λ (xs : List Pointer). get_or xs (place % fan) hole) (kept_pointers s (level + 1) (place / fan) (pointer_at s (level + 1) (place / fan)) node.0 (λ none. stands (hole_below s level place lt none)) node.1)))
    ]

pub pointer_in_at : (told : Type 0) (blocks : Under) (t : Tree) (level place : ℕ) (q : Pointer) → q ≡ pointer_in t level place → (told → StandsAt (standing blocks t) level place) → (told → level < t.levels → IsHeld t (level + 1) (place / fan))
    → told → pointer_at (standing blocks t) level place ≡ q
pointer_in_at told blocks t level place q is stands held tells = sym (is ∙ pointer_in_is blocks t level place (stands tells) (held tells))

-- ---- one level down

-- the pointer to what is under a node is one of the node's
child_spelled : (t : Rooted) (level place : ℕ) (xs : List Pointer) → 1 ≤ level → level ≤ t.levels → ((slot : ℕ) → get_or xs slot hole ≡ get_or (pointers_at t level place (pointer_at t level place)) slot hole)
    → (q : ℕ) → q / fan ≡ place → pointer_at t (level - 1) q ≡ get_or xs (q % fan) hole
child_spelled t level place xs low high spelled q under =
    let n : (level - 1) + 1 ≡ level = omega arith in
    (own_way t).down (level - 1) q (omega arith) ∙ (λ j. get_or (pointers_at t (n j) (under j) (pointer_at t (n j) (under j))) (q % fan) hole) ∙ sym (spelled (q % fan))

-- the pointers of a node are those to what is under it
pub under_as : (t : Rooted) (level most place : ℕ) (xs : List Pointer) → 1 ≤ level → level ≤ t.levels → ((slot : ℕ) → get_or xs slot hole ≡ get_or (pointers_at t level place (pointer_at t level place)) slot hole)
    → (q : ℕ) → IsChildPast xs level most place q → IsUnder t level most place q
under_as t level most place xs low high spelled q is =
    let child = child_spelled t level place xs low high spelled q is.under in record {
      under = is.under;
      past = record { stands = λ none. is.some (ap (λ (p : Pointer). p.stamp) (sym child) ∙ none); far = is.far };
    }

pub under_from : (t : Rooted) (level most place : ℕ) (xs : List Pointer) → 1 ≤ level → level ≤ t.levels → ((slot : ℕ) → get_or xs slot hole ≡ get_or (pointers_at t level place (pointer_at t level place)) slot hole)
    → (q : ℕ) → IsUnder t level most place q → IsChildPast xs level most place q
under_from t level most place xs low high spelled q is =
    let child = child_spelled t level place xs low high spelled q is.under in record {
      under = is.under;
      some = λ none. is.past.stands (ap (λ (p : Pointer). p.stamp) child ∙ none);
      far = is.past.far;
    }

pub extends_as : (P Q : ℕ → Type 0) (old new : List ℕ) → Extends P old new → ((q : ℕ) → P q → Q q) → ((q : ℕ) → Q q → P q) → Extends Q old new
extends_as P Q old new is to from = record {
  only = λ j lt. elim (is.only j lt) [
    | inl was ↦ inl was
    | inr came ↦ inr (to (get_or new j 0) came)
  ];
  stay = is.stay;
  all = λ q came. is.all q (from q came);
}

pub extends_then : (P Q R : ℕ → Type 0) (a b c : List ℕ) → Extends P a b → Extends Q b c → ((q : ℕ) → P q → R q) → ((q : ℕ) → Q q → R q) → ((q : ℕ) → R q → P q ⊎ Q q) → Extends R a c
extends_then P Q R a b c first second one other split = record {
  only = λ j lt. elim (second.only j lt) [
    | inr came ↦ inr (other (get_or c j 0) came)
    | inl was ↦ elim (first.only was.0 was.1) [
      | inl old ↦ inl (old.0, old.1, old.2 ∙ was.2)
      | inr came ↦ inr (one (get_or c j 0) (subst P was.2 came))
    ]
  ];
  stay = λ q is. second.stay q (first.stay q is);
  all = λ q r. elim (split q r) [
    | inl p ↦ second.stay q (first.all q p)
    | inr p ↦ second.all q p
  ];
}

-- ---- the pointers of a node, one after another

pub record IsChildBefore (xs : List Pointer) (level most place count q : ℕ) : Type 0 where
  pub low : q % fan < count
  pub child : IsChildPast xs level most place q

pub one_more_child : (xs : List Pointer) (level most place slot far : ℕ) (a b c : List ℕ) → far ≡ most / fan ^ (level - 1) → slot < 128 → Extends (IsChildBefore xs level most place slot) a b → Extends (IsAdded (get_or xs slot hole) far (place * fan + slot)) b c
    → Extends (IsChildBefore xs level most place (slot + 1)) a c
one_more_child xs level most place slot far a b c is lt first second =
    let up : (place * fan + slot) / fan ≡ place = omega (arith, lt) in
    let at : (place * fan + slot) % fan ≡ slot = omega (arith, lt) in
    extends_then (IsChildBefore xs level most place slot) (IsAdded (get_or xs slot hole) far (place * fan + slot)) (IsChildBefore xs level most place (slot + 1)) a b c first second
    (λ q before. record { low = (let low = before.low in omega (arith, low)); child = before.child })
    (λ q added. record {
      low = (let same = added.same in omega (arith, same, at));
      child = record {
        under = ap (λ n. n / fan) added.same ∙ up;
        some = λ none. added.some (ap (λ n. (get_or xs n hole).stamp) (sym (ap (λ n. n % fan) added.same ∙ at)) ∙ none);
        far = (let far_enough = added.enough in omega (arith, is, far_enough));
      };
    })
    (λ q next. elim (cases_lt (q % fan) slot) [
      | inl less ↦ inl (record { low = less; child = next.child })
      | inr le ↦
          let low = next.low in
          let under = next.child.under in
          let here : q % fan ≡ slot = omega (arith, low, le) in
          let far_enough = next.child.far in
          inr (record {
            same = omega (arith, here, under);
            some = λ none. next.child.some (ap (λ n. (get_or xs n hole).stamp) here ∙ none);
            enough = omega (arith, is, far_enough);
          })
    ])

-- ---- a tree that is the same

pub past_same : (t u : Rooted) (level most q : ℕ) → IsSame t u → IsPast t level most q → IsPast u level most q
past_same t u level most q same is = record { stands = λ none. is.stands (ap (λ (p : Pointer). p.stamp) (sym (same.pointers level q)) ∙ none); far = is.far }

past_back : (t u : Rooted) (level most q : ℕ) → IsSame t u → IsPast u level most q → IsPast t level most q
past_back t u level most q same is = record { stands = λ none. is.stands (ap (λ (p : Pointer). p.stamp) (same.pointers level q) ∙ none); far = is.far }

pub collects_as : (t u : Rooted) (level most : ℕ) (xs : List ℕ) → IsSame t u → Collects t level most xs → Collects u level most xs
collects_as t u level most xs same is = record {
  rising = is.rising;
  past = λ j lt. past_same t u level most (get_or xs j 0) same (is.past j lt);
  whole = λ q past. is.whole q (past_back t u level most q same past);
}

pub collects_back : (t u : Rooted) (level most : ℕ) (xs : List ℕ) → IsSame t u → Collects u level most xs → Collects t level most xs
collects_back t u level most xs same is = record {
  rising = is.rising;
  past = λ j lt. past_back t u level most (get_or xs j 0) same (is.past j lt);
  whole = λ q past. is.whole q (past_same t u level most q same past);
}

-- ---- one range of a level after another

pub record IsUnderOne (t : Rooted) (level most : ℕ) (places : List ℕ) (count q : ℕ) : Type 0 where
  pub j : ℕ
  pub low : j < count
  pub under : IsUnder t level most (get_or places j 0) q

pub one_more_range : (s t : Rooted) (level most count : ℕ) (places a b c : List ℕ) → IsSame s t → Extends (IsUnderOne s level most places count) a b → Extends (IsUnder t level most (get_or places count 0)) b c → Extends (IsUnderOne s level most places (count + 1)) a c
one_more_range s t level most count places a b c same first second =
    extends_then (IsUnderOne s level most places count) (IsUnder t level most (get_or places count 0)) (IsUnderOne s level most places (count + 1)) a b c first second
    (λ q before. record { j = before.j; low = (let low = before.low in omega (arith, low)); under = before.under })
    (λ q under. record { j = count; low = omega arith; under = record { under = under.under; past = past_back s t (level - 1) most q same under.past } })
    (λ q next. elim (cases_lt next.j count) [
      | inl less ↦ inl (record { j = next.j; low = less; under = next.under })
      | inr le ↦
          let low = next.low in
          let last : next.j ≡ count = omega (arith, low, le) in
          inr (record { under = next.under.under ∙ ap (λ k. get_or places k 0) last; past = past_same s t (level - 1) most q same next.under.past })
    ])

-- all ranges of the level below
pub all_ranges : (s : Rooted) (level most : ℕ) (places below : List ℕ) → 1 ≤ level → level ≤ s.levels → Collects s level most places → Extends (IsUnderOne s level most places (length places)) [] below → IsRising below → Collects s (level - 1) most below
all_ranges s level most places below low high are is rising =
    let n : (level - 1) + 1 ≡ level = omega arith in record {
      rising = rising;
      past = λ j lt. elim (is.only j lt) [
        | inl none ↦ absurd (let none_there = none.1 in omega (arith, none_there))
        | inr came ↦ came.under.past
      ];
      whole = λ q past.
          let up : IsPast s level most (q / fan) = subst (λ k. IsPast s k most (q / fan)) n (past_up s (level - 1) most q (omega arith) past) in
          let there = are.whole (q / fan) up in
          is.all q (record { j = there.0; low = there.1; under = record { under = sym there.2; past = past } });
    }

pub all_held : (t u : Tree) (s : Rooted) (level most : ℕ) (places : List ℕ) → 1 ≤ level → Collects s level most places → AreHeld t s level most → StillHeld t u → ((j : ℕ) → j < length places → IsHeld u level (get_or places j 0)) → AreHeld u s (level - 1) most
all_held t u s level most places low are held still nodes k q lt le past = elim (cases_eq k level) [
  | inl same ↦
      let there = are.whole q (subst (λ k. IsPast s k most q) same past) in
      subst (λ k. IsHeld u k q) (sym same) (subst (IsHeld u level) there.2 (nodes there.0 there.1))
  | inr differs ↦ still k q (held k q (omega (arith, lt, differs)) le past)
]

-- ---- the cells of a list, one after another

unfoldable pub listed : List ℕ → ℕ → ℕ → Bool
listed cells zero i = false
listed cells (suc n) i = listed cells n i || nat_eq (get_or cells n 0) i

pub next_listed : (cells : List ℕ) (n i : ℕ) → listed cells (n + 1) i ≡ (listed cells n i || nat_eq (get_or cells n 0) i)
unfolding listed
next_listed cells n i = let more : n + 1 ≡ suc n = omega arith in ap (λ k. listed cells k i) more

pub none_listed : (cells : List ℕ) (i : ℕ) → listed cells 0 i ≡ false
unfolding listed
none_listed cells i = refl

pub is_listed : (cells : List ℕ) (n j i : ℕ) → j < n → get_or cells j 0 ≡ i → listed cells n i ≡ true
unfolding listed
is_listed cells zero j i lt at = absurd (omega (arith, lt))
is_listed cells (suc n) j i lt at = elim (cases_eq j n) [
  | inl same ↦
      let here : nat_eq (get_or cells n 0) i ≡ true = (let is : get_or cells n 0 ≡ i = ap (λ k. get_or cells k 0) (sym same) ∙ at in grind (arith, nat_tests)) in
      ap (λ b. listed cells n i || b) here ∙ or_true (listed cells n i)
  | inr differs ↦ ap (λ b. b || nat_eq (get_or cells n 0) i) (is_listed cells n j i (omega (arith, lt, differs)) at)
]
  where
    or_true : (b : Bool) → (b || true) ≡ true
    or_true true = refl
    or_true false = refl

pub not_listed : (cells : List ℕ) (n i : ℕ) → ((j : ℕ) → j < n → get_or cells j 0 ≡ i → ⊥) → listed cells n i ≡ false
unfolding listed
not_listed cells zero i none = refl
not_listed cells (suc n) i none =
    let here : nat_eq (get_or cells n 0) i ≡ false = elim (cases_eq (get_or cells n 0) i) [
      | inl same ↦ absurd (none n (omega arith) same)
      | inr differs ↦ grind (arith, nat_tests)
    ] in
    (λ k. not_listed cells n i (λ j lt. none j (omega (arith, lt))) k || here k)

-- a later number of a rising list
pub not_yet : (cells : List ℕ) (n j : ℕ) → IsRising cells → n ≤ j → j < length cells → listed cells n (get_or cells j 0) ≡ false
not_yet cells n j rising le lt = not_listed cells n (get_or cells j 0) (λ k less at. let is = rising k j (omega (arith, less, le)) lt in absurd (omega (arith, is, at)))

-- the cells past a length are those of the list
pub listed_past : (t : Rooted) (most : ℕ) (cells : List ℕ) → Collects t 0 most cells → (i : ℕ) → StandsAt t 0 i → nat_le most i ≡ listed cells (length cells) i
listed_past t most cells are i stands = elim (cases_lt i most) [
  | inl lt ↦
      let no_ : nat_le most i ≡ false = grind (arith, nat_tests) in
      no_ ∙ sym (not_listed cells (length cells) i (λ j less at.
      let far = (are.past j less).far in
      let first : most / fan ^ 0 ≡ most = omega arith in absurd (omega (arith, far, first, at, lt))))
  | inr le ↦
      let yes_ : nat_le most i ≡ true = grind (arith, nat_tests) in
      let there = are.whole i (record { stands = stands; far = (let first : most / fan ^ 0 ≡ most = omega arith in omega (arith, first, le)) }) in
      yes_ ∙ sym (is_listed cells (length cells) there.0 i there.1 there.2)
]

-- ---- the topmost range

pub none_collected : (t : Rooted) (level most : ℕ) → ((q : ℕ) → IsPast t level most q → ⊥) → Collects t level most []
none_collected t level most none = record {
  rising = λ j k lt in_range. absurd (omega (arith, in_range));
  past = λ j lt. absurd (omega (arith, lt));
  whole = λ q past. absurd (none q past);
}

pub none_at_top : (t : Rooted) (most : ℕ) → t.root.stamp ≡ 0 → Collects t t.levels most []
none_at_top t most none = none_collected t t.levels most (λ q past. past.stands (none_at t none t.levels q))

pub none_so_far : (t : Rooted) (most : ℕ) → fan ^ t.levels ≤ most → Collects t t.levels most []
none_so_far t most le = none_collected t t.levels most (λ q past.
    let none = top_alone t q past.stands in
    let far = past.far in
    not_first most (fan ^ t.levels) (fan_pos t.levels) le (omega (arith, far, none)))

pub one_at_top : (t : Rooted) (most : ℕ) → t.root.stamp ≢ 0 → most < fan ^ t.levels → Collects t t.levels most (0 ∷ [])
one_at_top t most some lt = record {
  rising = λ j k less in_range. absurd (let k_first : k < 1 = in_range in omega (arith, k_first, less));
  past = λ j less.
      let first : j ≡ 0 = (let j_first : j < 1 = less in omega (arith, j_first)) in
      subst (λ k. IsPast t t.levels most (get_or (0 ∷ []) k 0)) (sym first) (record {
        stands = λ none. some (ap (λ (p : Pointer). p.stamp) (sym ((own_way t).top 0)) ∙ none);
        far = (let none : most / fan ^ t.levels ≡ 0 = div-eq_of_lt lt in omega (arith, none));
      });
  whole = λ q past. (0, (let lt : 0 < 1 = omega arith in lt), sym (top_alone t q past.stands));
}
