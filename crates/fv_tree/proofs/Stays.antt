-- The places over a cell, and those under a place, that lead to a shared block and don't differ from it.
use Rattle.std.proofs.Common.{◌≡◌, ◌≢◌, ◌≤◌, ◌<◌, ◌⊎◌, ℕ, zero, suc, ◌+◌, ◌-◌, ◌*◌, ◌/◌, ◌%◌, ◌^◌, List, [], get_or, subst, ap₂, Bool, true, false, not, ◌&&◌, cond, ◌==◌, inl, inr, refl, sym, ap, ◌∙◌, arith}
use Rattle.std.specs.Prelude.{sum_by}
use Rattle.std.specs.List.{range_with_len}
use Rattle.std.specs.Ordering.{nat_cmp}
use Rattle.std.specs.BTreeMap as tree
use Rattle.std.specs.FinMap as fin
use Rattle.std.proofs.Math.Nat.{mul-le-mul_right, one-le-pow, pow-le-pow_right, pow-suc}
use Rattle.std.proofs.lemmas.Bool.{cases_eq}
use Rattle.std.proofs.lemmas.Bool.Decides.{nat_tests}
use Rattle.fv_codec.specs.declared.pointer.Pointer.{Pointer}
use Rattle.fv_model.specs.Trees.{fan}
use Rattle.fv_tree.specs.declared.kept.Tree.{Tree}
use Rattle.fv_tree.specs.Spelled.{Under, Rooted, hole, pointer_at, pointers_at, pointer_below}
use Rattle.fv_tree.specs.Sources.{Shown, IsUntouched}
use Rattle.fv_tree.specs.Standing.{standing, under}
use Rattle.fv_tree.specs.Places.{HasRightPlaces, IsPlaceOf}
use Rattle.fv_tree.specs.Flushing.{Loaded, cell_changed, changed_of, changed_in, loaded_over}
use Rattle.fv_tree.specs.Beside.{unread}
use Rattle.fv_tree.specs.Costs.{pending}
use Rattle.fv_tree.specs.Counting.{is_staying, staying_all, staying_at, staying_under}
use Rattle.fv_tree.proofs.Below.{no_pointers, on_the_way}
use Rattle.fv_tree.proofs.Right.{right_on}
use Rattle.fv_tree.proofs.Collected.{range_within, ranges_under}
use Rattle.fv_tree.proofs.Found.{passing_from, passing_top, passing_next, passing_all}
use Rattle.fv_tree.proofs.Spans.{sum_more, sum_none, sum_same, under_cell, under_step}
use Rattle.fv_tree.proofs.Seeking.{child_is}
use Rattle.fv_tree.proofs.Gone.{changed_cell, spot_changed}
use Rattle.fv_tree.proofs.Differing.{some_cell, some_count}

module _ (s : Loaded) (shared : ℕ → Bool) (i : ℕ) where
  abbrev test : ℕ → Bool
  test k = is_staying s shared k (i / fan ^ k)

  -- those of so many levels, from one up
  abbrev pub staying_from : ℕ → ℕ → ℕ
  staying_from = passing_from test

  -- the place of a level, by the pointer to it
  abbrev pub stays_by : Pointer → ℕ → Bool
  stays_by p level = not (p.stamp == 0) && (not (s.changed level (i / fan ^ level)) && shared p.vvbn)

  this_one : (level n : ℕ) (p : Pointer) → level ≤ s.tree.levels → p ≡ pointer_below s.tree (s.tree.levels - level) (i / fan ^ level) → n ≡ cond (stays_by p level) 1 0 → n ≡ cond (test level) 1 0
  this_one level n p high is counts = counts ∙ ap (λ (q : Pointer). cond {A = ℕ} (stays_by q level) 1 0) (is ∙ sym (on_the_way s.tree level i high))

  -- the root alone
  pub staying_top : (n : ℕ) (p : Pointer) → p ≡ pointer_below s.tree (s.tree.levels - s.tree.levels) (i / fan ^ s.tree.levels) → n ≡ cond (stays_by p s.tree.levels) 1 0 → n ≡ staying_from s.tree.levels (s.tree.levels - s.tree.levels + 1)
  staying_top n p is counts = passing_top test s.tree.levels n (this_one s.tree.levels n p (omega arith) is counts)

  -- one more below
  pub staying_next : (level n count : ℕ) (p : Pointer) → 1 ≤ level → level ≤ s.tree.levels → p ≡ pointer_below s.tree (s.tree.levels - (level - 1)) (i / fan ^ (level - 1)) → n ≡ cond (stays_by p (level - 1)) 1 0
      → count ≡ staying_from level (s.tree.levels - level + 1) → count + n ≡ staying_from (level - 1) (s.tree.levels - (level - 1) + 1)
  staying_next level n count p low high is counts was = passing_next test s.tree.levels level n count low high (this_one (level - 1) n p (omega arith) is counts) was

  -- all of them
  pub staying_end : (level count : ℕ) → level ≡ 0 → count ≡ staying_from level (s.tree.levels - level + 1) → count ≡ staying_at s shared i
  unfolding staying_at
  staying_end level count none is = passing_all test s.tree.levels level count none is

-- ---- a tree in memory that differs from none of its blocks

pub unchanged : (t : Tree) → pending t ≡ 0 → (level place : ℕ) → changed_of t level place ≡ false
unchanged t none level place = elim (cases_eq level 0) [
  | inl cell ↦ changed_cell t level place cell ∙ so (cell_changed (tree.get nat_cmp t.cells place)) (λ e. let one = some_cell t.cells place e in absurd (omega (arith, none, one)))
  | inr node ↦ spot_changed t level place (omega (arith, node)) ∙ so (changed_in t.nodes level place) (λ e. let one = some_count t.nodes (level, place) e in absurd (omega (arith, none, one)))
]
  where
    so : (b : Bool) → (b ≡ true → b ≡ false) → b ≡ false
    so false wrong = refl
    so true wrong = wrong refl

pub staying_unread : (blocks : Under) (t : Tree) (shared : ℕ → Bool) (i : ℕ) → pending t ≡ 0 → staying_at (loaded_over blocks t) shared i ≡ staying_at (unread (standing blocks t)) shared i
unfolding staying_at
staying_unread blocks t shared i none = λ j. staying_at (record { tree = standing blocks t; changed = λ level place. unchanged t none level place j; placed = λ level place. true }) shared i

pub all_unread : (blocks : Under) (t : Tree) (shared : ℕ → Bool) → pending t ≡ 0 → staying_all (loaded_over blocks t) shared ≡ staying_all (unread (standing blocks t)) shared
unfolding staying_under
all_unread blocks t shared none = λ j. staying_all (record { tree = standing blocks t; changed = λ level place. unchanged t none level place j; placed = λ level place. true }) shared

-- ---- all places under one

-- a place, by the pointer to it
pub here : (s : Loaded) (shared : ℕ → Bool) (level place n : ℕ) (p : Pointer) → p ≡ pointer_at s.tree level place → n ≡ cond (not (p.stamp == 0) && (not (s.changed level place) && shared p.vvbn)) 1 0 → n ≡ cond (is_staying s shared level place) 1 0
here s shared level place n p is counts = counts ∙ ap (λ (q : Pointer). cond {A = ℕ} (not (q.stamp == 0) && (not (s.changed level place) && shared q.vvbn)) 1 0) is

pub hole_here : (s : Loaded) (shared : ℕ → Bool) (level place : ℕ) → (pointer_at s.tree level place).stamp ≡ 0 → cond {A = ℕ} (is_staying s shared level place) 1 0 ≡ 0
hole_here s shared level place none =
    let test : ((pointer_at s.tree level place).stamp == 0) ≡ true = grind (arith, nat_tests, none) in
    ap (λ b. cond {A = ℕ} (not b && (not (s.changed level place) && shared (pointer_at s.tree level place).vvbn)) 1 0) test

-- the pointer to a child
pub child_pointer : (t : Rooted) (level place slot : ℕ) (p : Pointer) (xs : List Pointer) → 1 ≤ level → level ≤ t.levels → p ≡ pointer_at t level place → xs ≡ pointers_at t level place p → slot < fan
    → get_or xs slot hole ≡ pointer_at t (level - 1) (place * fan + slot)
child_pointer t level place slot p xs low high way is lt =
    let up : (place * fan + slot) / fan ≡ place = omega (arith, lt) in
    let at : (place * fan + slot) % fan ≡ slot = omega (arith, lt) in
    ap (λ n. get_or xs n hole) (sym at) ∙ child_is t level place p xs low high way is (place * fan + slot) up

-- the same over a source that holds the same blocks later
pub child_later : (old mid : Shown) (t : Tree) (level place slot : ℕ) (p : Pointer) (xs : List Pointer) → mid.held ≡ old.held → 1 ≤ level → level ≤ t.levels → p ≡ pointer_at (standing (under old) t) level place
    → xs ≡ pointers_at (standing (under old) t) level place p → slot < fan → get_or xs slot hole ≡ pointer_at (standing (under mid) t) (level - 1) (place * fan + slot)
child_later old mid t level place slot p xs held low high way is lt =
    child_pointer (standing (under old) t) level place slot p xs low high way is lt
    ∙ ap (λ (h : fin.FinMap nat_cmp (List ℕ)). pointer_at (standing (λ v. fin.get h v) t) (level - 1) (place * fan + slot)) (sym held)

-- a range that isn't a cell's, and those under it
pub range_low : (t : Tree) (level place : ℕ) → level ≢ 0 → level ≤ t.levels → place < fan ^ (3 - level) → place < 16384
range_low t level place some high range = let few = t.few in range_within level place (omega (arith, some)) (omega (arith, few, high)) range

pub child_low : (t : Tree) (level place slot : ℕ) → level ≢ 0 → level ≤ t.levels → place < fan ^ (3 - level) → slot < fan → place * fan + slot < fan ^ (3 - (level - 1))
child_low t level place slot some high range lt = let few = t.few in let under = ranges_under level place (omega (arith, some)) (omega (arith, few, high)) range in omega (arith, under, lt)

-- what a call for a child of a place needs
pub child_meets : (told : Type 0) (old mid : Shown) (t : Tree) (level place slot : ℕ) (p : Pointer) (xs : List Pointer) → IsUntouched old mid → level ≢ 0 → level ≤ t.levels → place < fan ^ (3 - level)
    → (told → p ≡ pointer_at (standing (under old) t) level place) → (told → xs ≡ pointers_at (standing (under old) t) level place p) → (told → HasRightPlaces old t) → slot < fan
    → IsPlaceOf told mid t (level - 1) (place * fan + slot) (get_or xs slot hole)
child_meets told old mid t level place slot p xs untouched some high range way is right lt = record {
  high = omega (arith, high);
  range = child_low t level place slot some high range lt;
  pointer = λ tells. child_later old mid t level place slot p xs untouched.held (omega (arith, some)) high (way tells) (is tells) lt;
  right = λ tells. right_on old mid t untouched (right tells);
}

above : (place q : ℕ) → place * fan ≤ q → q < place * fan + fan → q / fan ≡ place
above place q low high = omega (arith, low, high)

one_less : (n level : ℕ) → level ≡ suc n → level - 1 ≡ n
one_less n level e = omega (arith, e)

some_level : (n level : ℕ) → level ≡ suc n → 1 ≤ level
some_level n level e = omega (arith, e)

lower : (level levels : ℕ) → level ≤ levels → level - 1 ≤ levels
lower level levels le = omega (arith, le)

-- none under a hole
none_under : (s : Loaded) (shared : ℕ → Bool) (n level place : ℕ) → level ≡ n → level ≤ s.tree.levels → (pointer_at s.tree level place).stamp ≡ 0 → staying_under s shared level place ≡ 0
unfolding staying_under
none_under s shared zero level place is high none = under_cell (is_staying s shared) level place is ∙ hole_here s shared level place none
none_under s shared (suc n) level place is high none =
    let low = some_level n level is in
    under_step (is_staying s shared) level place low
    ∙ ap₂ (λ x y. x + y) (hole_here s shared level place none)
    (sum_same (staying_under s shared (level - 1)) (λ q. 0) (place * fan) fan (λ q least most.
    none_under s shared n (level - 1) q (one_less n level is) (lower level s.tree.levels high)
    (ap (λ (p : Pointer). p.stamp) (sym (child_is s.tree level place (pointer_at s.tree level place) [] low high refl (sym (no_pointers s.tree level place (pointer_at s.tree level place) none)) q (above place q least most)))))
    ∙ sum_none (range_with_len (place * fan) fan))

pub under_end : (s : Loaded) (shared : ℕ → Bool) (level place n : ℕ) (p : Pointer) → p ≡ pointer_at s.tree level place → n ≡ cond (not (p.stamp == 0) && (not (s.changed level place) && shared p.vvbn)) 1 0 → level ≤ s.tree.levels → (level ≡ 0) ⊎ (p.stamp ≡ 0)
    → n ≡ staying_under s shared level place
unfolding staying_under
under_end s shared level place n p is counts high (inl cell) = here s shared level place n p is counts ∙ sym (under_cell (is_staying s shared) level place cell)
under_end s shared level place n p is counts high (inr none) =
    let hole : (pointer_at s.tree level place).stamp ≡ 0 = ap (λ (q : Pointer). q.stamp) (sym is) ∙ none in
    here s shared level place n p is counts ∙ hole_here s shared level place hole ∙ sym (none_under s shared level level place refl high hole)

-- those of a node, of so many of its children
abbrev pub staying_some : Loaded → (ℕ → Bool) → ℕ → ℕ → ℕ → ℕ
staying_some s shared level place slot = cond (is_staying s shared level place) 1 0 + sum_by (staying_under s shared (level - 1)) (range_with_len (place * fan) slot)

pub some_none : (s : Loaded) (shared : ℕ → Bool) (level place n : ℕ) (p : Pointer) → p ≡ pointer_at s.tree level place → n ≡ cond (not (p.stamp == 0) && (not (s.changed level place) && shared p.vvbn)) 1 0 → n ≡ staying_some s shared level place 0
some_none s shared level place n p is counts = here s shared level place n p is counts ∙ (let e : cond {A = ℕ} (is_staying s shared level place) 1 0 ≡ cond (is_staying s shared level place) 1 0 + 0 = omega arith in e)

pub some_more : (s : Loaded) (shared : ℕ → Bool) (level place slot count n : ℕ) → count ≡ staying_some s shared level place slot → n ≡ staying_under s shared (level - 1) (place * fan + slot) → count + n ≡ staying_some s shared level place (slot + 1)
some_more s shared level place slot count n was one =
    let more = sum_more (staying_under s shared (level - 1)) (place * fan) slot in
    omega (arith, was, one, more)

pub some_all : (s : Loaded) (shared : ℕ → Bool) (level place slot count : ℕ) → 1 ≤ level → slot ≡ fan → count ≡ staying_some s shared level place slot → count ≡ staying_under s shared level place
unfolding staying_under
some_all s shared level place slot count low all is = is ∙ ap (staying_some s shared level place) all ∙ sym (under_step (is_staying s shared) level place low)

-- ---- how many there can be

pub few_more : (count x slot w : ℕ) → count + slot ≤ 1 + slot * w → x < w → count + x + (slot + 1) ≤ 1 + (slot + 1) * w
few_more count x slot w few one = let e : (slot + 1) * w ≡ slot * w + w = omega arith in omega (arith, few, one, e)

pub few_all : (count slot level : ℕ) → 1 ≤ level → slot ≡ fan → count + slot ≤ 1 + slot * (2 * fan ^ (level - 1)) → count < 2 * fan ^ level
few_all count slot level low all few =
    let up : level ≡ suc (level - 1) = omega (arith, low) in
    let wide : fan ^ level ≡ fan ^ (level - 1) * fan = ap (λ n. fan ^ n) up ∙ pow-suc fan (level - 1) in
    let most : count + fan ≤ 1 + fan * (2 * fan ^ (level - 1)) = subst (λ n. count + n ≤ 1 + n * (2 * fan ^ (level - 1))) all few in
    omega (arith, most, wide)

pub few_fit : (count x slot level : ℕ) → 1 ≤ level → level ≤ 3 → slot < fan → count + slot ≤ 1 + slot * (2 * fan ^ (level - 1)) → x < 2 * fan ^ (level - 1) → count + x < 4294967296
few_fit count x slot level low high lt few one =
    let wide : fan ^ (level - 1) ≤ fan ^ 2 = pow-le-pow_right {n = fan} (omega arith) {i = level - 1} {j = 2} (omega (arith, high)) in
    let most : slot * (2 * fan ^ (level - 1)) ≤ 128 * (2 * fan ^ (level - 1)) = mul-le-mul_right (2 * fan ^ (level - 1)) (omega (arith, lt)) in
    omega (arith, few, one, wide, most)

pub few_end : (n level : ℕ) → n ≤ 1 → n < 2 * fan ^ level
few_end n level few = let wide : 1 ≤ fan ^ level = one-le-pow level fan (omega arith) in omega (arith, few, wide)

pub few_whole : (n level : ℕ) → level ≤ 3 → n < 2 * fan ^ level → n < 4194304
few_whole n level high few = let wide : fan ^ level ≤ fan ^ 3 = pow-le-pow_right {n = fan} (omega arith) {i = level} {j = 3} high in omega (arith, few, wide)
