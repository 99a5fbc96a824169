-- A chain of bases in a session with a free slot passes at most 63 volumes, so that a new clone can stand before it.
use Rattle.std.proofs.Common.{◌≡◌, ◌≢◌, ℕ, zero, suc, ◌+◌, ◌<◌, ◌≤◌, Bool, true, false, refl, sym, ap, ◌∙◌, ⊎_elim, arith}
use Rattle.std.specs.Prelude.{Option, Some, None, ◌&&◌}
use Rattle.std.specs.Option.{option_map_or}
use Rattle.std.proofs.lemmas.Bool.{and_from, and_parts, cases_eq, false≢true, true≢false}
use Rattle.fv_image.specs.Views.{Footing}
use Rattle.fv_volumes.specs.Footing.{ends_in}

-- ---- how many numbers below another pass a test

abbrev one : Bool → ℕ
one true = 1
one false = 0

unfoldable many : (ℕ → Bool) → ℕ → ℕ
many p zero = 0
many p (suc n) = one (p n) + many p n

module _ (p q : ℕ → Bool) (within : (k : ℕ) → q k ≡ true → p k ≡ true) where
  one_less : (k : ℕ) → one (q k) ≤ one (p k)
  one_less k = so (q k) refl
    where
      so : (b : Bool) → q k ≡ b → one b ≤ one (p k)
      so false e = omega arith
      so true e = let is : one (p k) ≡ 1 = ap one (within k e) in omega (arith, is)

  fewer : (n : ℕ) → many q n ≤ many p n
  unfolding many
  fewer zero = omega arith
  fewer (suc n) = let here = one_less n in let rest = fewer n in omega (arith, here, rest)

  less : (at n : ℕ) → at < n → p at ≡ true → q at ≡ false → many q n < many p n
  unfolding many
  less at zero low passes fails = absurd (omega (arith, low))
  less at (suc n) low passes fails = ⊎_elim
      (λ (e : at ≡ n).
      let x : one (p n) ≡ 1 = ap one (sym (ap p e) ∙ passes) in
      let y : one (q n) ≡ 0 = ap one (sym (ap q e) ∙ fails) in
      let rest = fewer n in omega (arith, x, y, rest))
      (λ (ne : at ≢ n). let here = one_less n in let rest = less at n (omega (arith, low, ne)) passes fails in omega (arith, here, rest))
      (cases_eq at n)

many_all : many (λ k. true) 64 ≡ 64
unfolding many
many_all = refl

-- ---- chains

later : (footing : ℕ → Option Footing) (n k : ℕ) → ends_in footing n k ≡ true → ends_in footing (suc n) k ≡ true
unfolding ends_in
later footing zero k e = absurd (false≢true e)
later footing (suc n) k e = so (λ b f. later footing n b f) (footing k) e
  where
    so : ((b : ℕ) → ends_in footing n b ≡ true → ends_in footing (suc n) b ≡ true) → (o : Option Footing) → option_map_or (λ (b : Footing). ends_in footing n b.parent) o true ≡ true → option_map_or (λ (b : Footing). ends_in footing (suc n) b.parent) o true ≡ true
    so next None e = refl
    so next (Some b) e = next b.parent e

-- each base leads to a slot in use
pub record LeadToUsed (footing : ℕ → Option Footing) (used : ℕ → Bool) : Type 0 where
  pub low : (k : ℕ) (b : Footing) → footing k ≡ Some b → b.parent < 64
  pub there : (k : ℕ) (b : Footing) → footing k ≡ Some b → used b.parent ≡ true

module _ (footing : ℕ → Option Footing) (used : ℕ → Bool) (lead : LeadToUsed footing used) where
  abbrev on : ℕ → ℕ → Bool
  on n k = used k && ends_in footing n k

  on_later : (n k : ℕ) → on n k ≡ true → on (suc n) k ≡ true
  on_later n k e = let parts = and_parts (used k) (ends_in footing n k) e in and_from (used k) (ends_in footing (suc n) k) parts.0 (later footing n k parts.1)

  -- a chain that ends within so many volumes and not within one less passes as many
  chain : (n k : ℕ) → k < 64 → used k ≡ true → ends_in footing (suc n) k ≡ true → ends_in footing n k ≡ false → n < many (on (suc n)) 64
  unfolding ends_in
  chain zero k low is ends not =
      let some = less (on 1) (λ k. false) (λ k e. absurd (false≢true e)) k 64 low (and_from (used k) _ is ends) refl in omega (arith, some)
  chain (suc n) k low is ends not = so (λ b low is ends not. chain n b low is ends not) (footing k) refl ends not
    where
      so : ((b : ℕ) → b < 64 → used b ≡ true → ends_in footing (suc n) b ≡ true → ends_in footing n b ≡ false → n < many (on (suc n)) 64)
          → (o : Option Footing) → footing k ≡ o → option_map_or (λ (b : Footing). ends_in footing (suc n) b.parent) o true ≡ true → option_map_or (λ (b : Footing). ends_in footing n b.parent) o true ≡ false → suc n < many (on (suc (suc n))) 64
      so next None e ends not = absurd (true≢false not)
      so next (Some b) e here before =
          let rest = next b.parent (lead.low k b e) (lead.there k b e) here before in
          let now : on (suc (suc n)) k ≡ true = and_from (used k) _ is ends in
          let was : on (suc n) k ≡ false = ap (λ (t : Bool). t && ends_in footing (suc n) k) is ∙ not in
          let more = less (on (suc (suc n))) (on (suc n)) (on_later (suc n)) k 64 low now was in
          omega (arith, rest, more)

  -- With a free slot there is room for one more before it.
  pub ends_sooner : (s k : ℕ) → s < 64 → used s ≡ false → k < 64 → used k ≡ true → ends_in footing 64 k ≡ true → ends_in footing 63 k ≡ true
  ends_sooner s k small free low is ends = so (ends_in footing 63 k) refl
    where
      so : (b : Bool) → ends_in footing 63 k ≡ b → b ≡ true
      so true e = refl
      so false e =
          let long = chain 63 k low is ends e in
          let short = less (λ k. true) (on 64) (λ k e. refl) s 64 small refl (ap (λ (t : Bool). t && ends_in footing 64 s) free) in
          let all = many_all in
          absurd (omega (arith, long, short, all))
