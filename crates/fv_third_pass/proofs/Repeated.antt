-- Rule 7: the lines of all blocks are those of the held ones.
use Rattle.std.proofs.Common.{◌≡◌, ℕ, ◌+◌, ◌<◌, Bool, true, false, List, [], ◌∷◌, length, refl, sym, ap, subst, arith, ⊎_elim, inl, inr}
use Rattle.std.specs.Prelude.{nat_le, ◌==◌}
use Rattle.std.specs.List.{list_any, range_with_len}
use Rattle.std.proofs.lemmas.Bool.Decides.{nat_tests}
use Rattle.std.proofs.lemmas.Bool.{or_cases}
use Rattle.fv_laws.proofs.Lists.{In, in_range, from_range, in_flat_map, from_flat_map}
use Rattle.fv_image.specs.Held.{Layout, held}
use Rattle.fv_image.proofs.Replaced.{listed_tells, no_times}
use Rattle.fv_faults.specs.declared.fault.Fault.{Fault}
use Rattle.fv_faults.specs.declared.lines.Lines.{Lines}
use Rattle.fv_faults.specs.Adding.{Adds}
use Rattle.fv_faults.specs.Lines.{line, unless}
use Rattle.fv_faults.specs.ThirdPass.{holders, twice_held}
use Rattle.fv_third_pass.specs.declared.holders.Holders.{Holders}
use Rattle.fv_third_pass.specs.Bits.{twice_lines, twice_to}
use Rattle.fv_third_pass.specs.Counted.{IsCounted}
use Rattle.fv_faults.proofs.Adding.{same_added}

pub unlisted : (b : ℕ) (xs : List ℕ) → list_any (λ x. x == b) xs ≡ true → In b xs
unlisted b [] there = absurd cc
unlisted b (x ∷ xs) there = ⊎_elim
    (λ (here : (x == b) ≡ true). inl (let e : x ≡ b = grind (arith, nat_tests, here) in e))
    (λ (later : list_any (λ x. x == b) xs ≡ true). inr (unlisted b xs later))
    (or_cases (x == b) _ there)

module _ (y : Layout) (h : Holders) (counted : IsCounted y h) where
  abbrev lines_of : ℕ → List Fault
  lines_of b = unless (nat_le (holders y b) 1) (line 7 b 1 (holders y b))

  same_lines : (b : ℕ) → b < y.view.blocks → twice_lines h b ≡ lines_of b
  same_lines b low = ap (λ n. unless (nat_le n 1) (line 7 b 1 n)) (counted.times b low)

  -- a block with a line is held
  is_there : (f : Fault) (b : ℕ) → In f (lines_of b) → In b (held y)
  is_there f b there = so (nat_le (holders y b) 1) refl there
    where
      some : (holds : Bool) → list_any (λ x. x == b) (held y) ≡ holds → 1 < holders y b → In b (held y)
      some true is more = unlisted b (held y) is
      some false is more = let none : holders y b ≡ 0 = no_times (list_any (λ x. x == b) (held y)) (holders y b) (listed_tells (λ x. x == b) (held y)) is in absurd (omega (arith, none, more))

      so : (test : Bool) → nat_le (holders y b) 1 ≡ test → In f (unless test (line 7 b 1 (holders y b))) → In b (held y)
      so true is there = absurd there
      so false is there = some (list_any (λ x. x == b) (held y)) refl (let more : 1 < holders y b = grind (arith, nat_tests, is) in more)

  pub twice_added : (old new : Lines) → Adds (twice_to h (length h.held)) old new → Adds (twice_held y) old new
  unfolding twice_to twice_held
  twice_added old new adds = same_added (twice_to h (length h.held)) (twice_held y) old new
      (λ f there.
      let at = from_flat_map (twice_lines h) f (range_with_len 0 (length h.held)) there in
      let low : at.0 < 0 + length h.held = (from_range 0 (length h.held) at.0 at.1).1 in
      let here : In f (lines_of at.0) = subst (In f) (same_lines at.0 (let size = counted.size in omega (arith, low, size))) at.2 in
      in_flat_map lines_of at.0 f (held y) (is_there f at.0 here) here)
      (λ f there.
      let at = from_flat_map lines_of f (held y) there in
      let low = counted.within at.0 at.1 in
      in_flat_map (twice_lines h) at.0 f (range_with_len 0 (length h.held)) (in_range 0 (length h.held) at.0 (omega arith) (let size = counted.size in omega (arith, low, size))) (subst (In f) (sym (same_lines at.0 low)) at.2))
      adds
