-- The pointers over a cell that pass a test, such as to lead somewhere, counted from the root down.
use Rattle.std.proofs.Common.{◌≡◌, ◌≤◌, ℕ, suc, ◌+◌, ◌-◌, ◌/◌, ◌^◌, Bool, true, false, not, cond, ◌==◌, if◌then◌else◌, refl, sym, ap, ◌∙◌, arith}
use Rattle.std.specs.Prelude.{count_by}
use Rattle.std.specs.List.{range_with_len}
use Rattle.std.proofs.lemmas.List.Sums.{sum_by-cons}
use Rattle.fv_codec.specs.declared.pointer.Pointer.{Pointer}
use Rattle.fv_model.specs.Trees.{fan, levels_with}
use Rattle.fv_tree.specs.Spelled.{Rooted, pointer_at, pointer_below}
use Rattle.fv_tree.specs.Counting.{found_at, added_at}
use Rattle.fv_tree.proofs.Below.{on_the_way}

total : (a b c all found : ℕ) → all ≡ c + b → a ≡ c → found ≡ b → found + a ≡ all
total a b c all found e f g = omega (arith, e, f, g)

-- ---- levels that pass a test

module _ (test : ℕ → Bool) where
  -- those of so many levels, from one up
  abbrev pub passing_from : ℕ → ℕ → ℕ
  passing_from level count = count_by test (range_with_len level count)

  one_more : (level count : ℕ) → passing_from level (suc count) ≡ cond (test level) 1 0 + passing_from (level + 1) count
  one_more level count = sum_by-cons (λ k. cond (test k) 1 0) level (range_with_len (level + 1) count)

  -- the topmost alone
  pub passing_top : (levels n : ℕ) → n ≡ cond (test levels) 1 0 → n ≡ passing_from levels (levels - levels + 1)
  passing_top levels n counts =
      let one : suc 0 ≡ levels - levels + 1 = omega arith in
      let none : 0 + n ≡ n = omega arith in
      sym none ∙ total n 0 _ (passing_from levels (suc 0)) 0 (one_more levels 0) counts refl ∙ ap (passing_from levels) one

  -- one more below
  pub passing_next : (levels level n found : ℕ) → 1 ≤ level → level ≤ levels → n ≡ cond (test (level - 1)) 1 0 → found ≡ passing_from level (levels - level + 1)
      → found + n ≡ passing_from (level - 1) (levels - (level - 1) + 1)
  passing_next levels level n found low high counts was =
      let up : level - 1 + 1 ≡ level = omega arith in
      let more : suc (levels - level + 1) ≡ levels - (level - 1) + 1 = omega arith in
      total n (passing_from (level - 1 + 1) (levels - level + 1)) _ (passing_from (level - 1) (suc (levels - level + 1))) found
      (one_more (level - 1) (levels - level + 1)) counts (was ∙ ap (λ k. passing_from k (levels - level + 1)) (sym up))
      ∙ ap (passing_from (level - 1)) more

  -- all of them
  pub passing_all : (levels level found : ℕ) → level ≡ 0 → found ≡ passing_from level (levels - level + 1) → found ≡ passing_from 0 (levels + 1)
  passing_all levels level found none is =
      let n : levels - 0 + 1 ≡ levels + 1 = omega arith in
      is ∙ (λ j. passing_from (none j) (levels - none j + 1)) ∙ ap (passing_from 0) n

-- ---- pointers that lead somewhere

-- those of so many levels, from one up
abbrev pub found_from : Rooted → ℕ → ℕ → ℕ → ℕ
found_from t i = passing_from (λ k. not ((pointer_at t k (i / fan ^ k)).stamp == 0))

flipped : (b : Bool) (n : ℕ) → n ≡ cond b 0 1 → n ≡ cond (not b) 1 0
flipped true n e = e
flipped false n e = e

this_one : (t : Rooted) (i level n : ℕ) (p : Pointer) → level ≤ t.levels → p ≡ pointer_below t (t.levels - level) (i / fan ^ level) → n ≡ cond (p.stamp == 0) 0 1 → n ≡ cond (not ((pointer_at t level (i / fan ^ level)).stamp == 0)) 1 0
this_one t i level n p high is counts = flipped (p.stamp == 0) n counts ∙ ap (λ (q : Pointer). cond {A = ℕ} (not (q.stamp == 0)) 1 0) (is ∙ sym (on_the_way t level i high))

-- the root alone
pub found_top : (t : Rooted) (i n : ℕ) (p : Pointer) → p ≡ pointer_below t (t.levels - t.levels) (i / fan ^ t.levels) → n ≡ cond (p.stamp == 0) 0 1 → n ≡ found_from t i t.levels (t.levels - t.levels + 1)
found_top t i n p is counts = passing_top (λ k. not ((pointer_at t k (i / fan ^ k)).stamp == 0)) t.levels n (this_one t i t.levels n p (omega arith) is counts)

-- one more below
pub found_next : (t : Rooted) (i level n found : ℕ) (p : Pointer) → 1 ≤ level → level ≤ t.levels → p ≡ pointer_below t (t.levels - (level - 1)) (i / fan ^ (level - 1)) → n ≡ cond (p.stamp == 0) 0 1 → found ≡ found_from t i level (t.levels - level + 1)
    → found + n ≡ found_from t i (level - 1) (t.levels - (level - 1) + 1)
found_next t i level n found p low high is counts was =
    passing_next (λ k. not ((pointer_at t k (i / fan ^ k)).stamp == 0)) t.levels level n found low high (this_one t i (level - 1) n p (omega arith) is counts) was

-- all of them
pub found_all : (t : Rooted) (i level found : ℕ) → level ≡ 0 → found ≡ found_from t i level (t.levels - level + 1) → found ≡ found_at t i
unfolding found_at
found_all t i level found none is = passing_all (λ k. not ((pointer_at t k (i / fan ^ k)).stamp == 0)) t.levels level found none is

-- what a write adds, by how many there are
pub added_is : (t : Rooted) (i found count : ℕ) → count ≡ (levels_with t.levels i + 1 - found) + (if t.root.stamp == 0 then 0 else levels_with t.levels i - t.levels - 1) → found ≡ found_at t i → count ≡ added_at t i
unfolding added_at
added_is t i found count is all = is ∙ ap (λ n. (levels_with t.levels i + 1 - n) + (if t.root.stamp == 0 then 0 else levels_with t.levels i - t.levels - 1)) all
