-- Blocks that are given back, one after another.
use Rattle.std.proofs.Common.{◌≡◌, ◌≢◌, ℕ, ◌<◌, ◌≤◌, length, Bool, true, false, not, ◌&&◌, ◌||◌, ◌==◌, cond, refl, sym, ap, ◌∙◌, arith, ⊎_elim}
use Rattle.std.specs.Prelude.{slice_set}
use Rattle.std.proofs.lemmas.Bool.{cases_Bool}
use Rattle.std.proofs.lemmas.Bool.Decides.{nat_tests}
use Rattle.fv_bits.specs.Members.{is_member}
use Rattle.fv_bits.proofs.Laws.{is_member-set, is_member_past}
use Rattle.fv_container.specs.Spelled.{is_at}
use Rattle.fv_container.proofs.Named.{at_means}
use Rattle.fv_aggmap.specs.Giving.{HasGiven}
use Rattle.fv_aggmap.specs.Space.{Space, blocks_of}
use Rattle.fv_aggmap.proofs.Room.{no_fewer}

-- ---- tests

and_true : (t : Bool) → (t && true) ≡ t
and_true true = refl
and_true false = refl

pub not_so : (a : Bool) → (a ≡ true → ⊥) → a ≡ false
not_so true = λ no. absurd (no refl)
not_so false = λ no. refl

-- ---- giving back

pub given_none : (space : Space) (given : ℕ → Bool) → ((b : ℕ) → given b ≡ false) → HasGiven space given space
given_none space given none = record {
  committed = refl;
  held = λ b. sym (ap (λ t. is_member space.next b && not t) (none b) ∙ and_true (is_member space.next b));
  count = omega arith;
}

pub given_then : (old mid new : Space) (f g both : ℕ → Bool) → ((b : ℕ) → both b ≡ (f b || g b)) → HasGiven old f mid → HasGiven mid g new → HasGiven old both new
given_then old mid new f g both same first second = record {
  committed = second.committed ∙ first.committed;
  held = λ b. second.held b ∙ ap (λ t. t && not (g b)) (first.held b) ∙ joined (is_member old.next b) (f b) (g b) ∙ sym (ap (λ t. is_member old.next b && not t) (same b));
  count = omega (arith, first.count, second.count);
}
  where
    joined : (m s t : Bool) → ((m && not s) && not t) ≡ (m && not (s || t))
    joined true true t = refl
    joined true false t = refl
    joined false s t = refl

-- the same blocks by another test
pub given_same : (old new : Space) (f g : ℕ → Bool) → ((b : ℕ) → g b ≡ f b) → HasGiven old f new → HasGiven old g new
given_same old new f g same is = record {
  committed = is.committed;
  held = λ b. is.held b ∙ sym (ap (λ t. is_member old.next b && not t) (same b));
  count = is.count;
}

pub given_one : (old new : Space) (place : ℕ) → length old.next ≡ blocks_of old → place ≢ 0 → place < blocks_of old → new ≡ record old { next = slice_set old.next place false } → HasGiven old (λ b. is_at b place) new
given_one old new place long some within is = record {
  committed = ap (λ (s : Space). s.committed) is;
  held = λ b.
      let inside : place < length old.next = omega (arith, long, within) in
      ap (λ (s : Space). is_member s.next b) is ∙ is_member-set old.next place false b inside ∙ by_test b;
  count = no_fewer old new place long within is;
}
  where
    here : (b : ℕ) → (b == place) ≡ is_at b place
    here b = grind (arith, nat_tests, some)

    step : (t m : Bool) → cond t false m ≡ (m && not t)
    step true true = refl
    step true false = refl
    step false true = refl
    step false false = refl

    by_test : (b : ℕ) → cond (b == place) false (is_member old.next b) ≡ (is_member old.next b && not (is_at b place))
    by_test b = step (b == place) (is_member old.next b) ∙ ap (λ t. is_member old.next b && not t) (here b)

-- past the blocks there are none
pub given_past : (space : Space) (place : ℕ) → length space.next ≡ blocks_of space → blocks_of space ≤ place → HasGiven space (λ b. is_at b place) space
given_past space place long past = record {
  committed = refl;
  held = λ b. ⊎_elim
      (λ (here : is_at b place ≡ true).
      let same = (at_means b place here).0 in
      let beyond : is_member space.next b ≡ false = is_member_past space.next b (omega (arith, same, long, past)) in
      rw beyond refl)
      (λ (other : is_at b place ≡ false). rw (other, and_true (is_member space.next b)) refl)
      (cases_Bool (is_at b place));
  count = omega arith;
}
