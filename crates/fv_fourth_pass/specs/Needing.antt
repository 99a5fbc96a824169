-- What being shown pointers makes of the counts of reserves.
use Rattle.std.proofs.Common.{◌≡◌, ◌<◌, ℕ, ◌+◌, ◌^◌, Bool, List, [], ◌∷◌, ◌++◌, refl, ap, sym, ◌∙◌, subst, arith}
use Rattle.std.specs.Prelude.{sum_by}
use Rattle.std.proofs.lemmas.List.Sums.{sum_by-append}
use Rattle.fv_codec.specs.declared.inode.InodeRecord.{InodeRecord}
use Rattle.fv_walk.specs.Sights.{Sight}
use Rattle.fv_fourth_pass.specs.declared.needs.NeedTally.{NeedTally}
use Rattle.fv_fourth_pass.specs.Needed.{files_after, files_along, is_standing, one_if, reserved_in, standing_along}

-- a count that is raised: it is exact as long as it fits its word
abbrev pub IsRaised : ℕ → ℕ → ℕ → Type 0
IsRaised old more new = old + more < 2 ^ 64 → new ≡ old + more

pub record Needs (old : NeedTally) (sights : List Sight) (new : NeedTally) : Type 0 where
  pub shared : new.shared ≡ old.shared
  pub top : new.top ≡ old.top
  pub files : new.files ≡ files_along old.files sights
  pub reserved : IsRaised old.reserved (sum_by (reserved_in old.shared old.top) sights) new.reserved
  pub standing : IsRaised old.standing (standing_along old.shared old.files sights) new.standing

pub files_on : (fs : List InodeRecord) (first second : List Sight) → files_along fs (first ++ second) ≡ files_along (files_along fs first) second
unfolding files_along
files_on fs [] second = refl
files_on fs (s ∷ ss) second = files_on (files_after fs s.below) ss second

pub standing_on : (shared : List Bool) (fs : List InodeRecord) (first second : List Sight)
    → standing_along shared fs (first ++ second) ≡ standing_along shared fs first + standing_along shared (files_along fs first) second
unfolding files_along standing_along
standing_on shared fs [] second = let none : standing_along shared fs second ≡ 0 + standing_along shared fs second = omega arith in none
standing_on shared fs (s ∷ ss) second =
    let rest = standing_on shared (files_after fs s.below) ss second in
    let one : ℕ = one_if (is_standing shared fs s.visit) in
    ap (λ n. one + n) rest ∙ (let e : one + (standing_along shared (files_after fs s.below) ss + standing_along shared (files_along (files_after fs s.below) ss) second)
    ≡ one + standing_along shared (files_after fs s.below) ss + standing_along shared (files_along (files_after fs s.below) ss) second = omega arith in e)

pub needs_none : (tally : NeedTally) → Needs tally [] tally
unfolding files_along standing_along
needs_none tally = record {
  shared = refl;
  top = refl;
  files = refl;
  reserved = λ few. let e : tally.reserved ≡ tally.reserved + 0 = omega arith in e;
  standing = λ few. let e : tally.standing ≡ tally.standing + 0 = omega arith in e;
}

raised_on : (old a mid b new all : ℕ) → all ≡ a + b → IsRaised old a mid → IsRaised mid b new → IsRaised old all new
raised_on old a mid b new all is one two few =
    let first : mid ≡ old + a = one (omega (arith, few, is)) in
    let second : new ≡ mid + b = two (omega (arith, few, is, first)) in
    omega (arith, first, second, is)

pub needs_on : (old mid new : NeedTally) (first second : List Sight) → Needs old first mid → Needs mid second new → Needs old (first ++ second) new
needs_on old mid new first second one two = record {
  shared = two.shared ∙ one.shared;
  top = two.top ∙ one.top;
  files = two.files ∙ ap (λ fs. files_along fs second) one.files ∙ sym (files_on old.files first second);
  reserved = raised_on old.reserved (sum_by (reserved_in old.shared old.top) first) mid.reserved (sum_by (reserved_in old.shared old.top) second) new.reserved _
      (sum_by-append (reserved_in old.shared old.top) first second) one.reserved
      (subst (λ (n : ℕ). IsRaised mid.reserved n new.reserved) (λ i. sum_by (reserved_in (one.shared i) (one.top i)) second) two.reserved);
  standing = raised_on old.standing (standing_along old.shared old.files first) mid.standing (standing_along old.shared (files_along old.files first) second) new.standing _
      (standing_on old.shared old.files first second) one.standing
      (subst (λ (n : ℕ). IsRaised mid.standing n new.standing) (λ i. standing_along (one.shared i) (one.files i) second) two.standing);
}
