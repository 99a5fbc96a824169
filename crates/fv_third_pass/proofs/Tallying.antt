-- A block that is counted once more.
use Rattle.std.proofs.Common.{◌≡◌, ◌≢◌, ℕ, ◌+◌, ◌-◌, ◌<◌, ◌≤◌, Bool, true, false, cond, List, [], ◌∷◌, ◌++◌, length, set, refl, sym, ap, subst, ◌∙◌, arith, ⊎_elim}
use Rattle.std.specs.Prelude.{◌==◌, min, replicate, None}
use Rattle.std.proofs.lemmas.Bool.{cases_eq, both_ways}
use Rattle.std.proofs.lemmas.Bool.Decides.{nat_tests}
use Rattle.std.proofs.Math.ListN.{length-set}
use Rattle.std.specs.Option.{option_map_or}
use Rattle.std.specs.Ordering.{nat_cmp}
use Rattle.std.specs.BTreeMap as maps
use Rattle.fv_bits.specs.Members.{is_member}
use Rattle.fv_bits.proofs.Laws.{is_member-set, is_member-replicate}
use Rattle.fv_third_pass.specs.declared.holders.Holders.{Holders}
use Rattle.fv_third_pass.specs.Tallied.{times, further, holds, most, Tallies, Raised}
use Rattle.fv_third_pass.proofs.Times.{times_same, times_other}

held_no : (h : Holders) (b : ℕ) → is_member h.held b ≡ false → holds h b ≡ 0
held_no h b absent = ap (λ (t : Bool). cond t (further h b + 1) 0) absent

held_yes : (h : Holders) (b : ℕ) → is_member h.held b ≡ true → holds h b ≡ further h b + 1
held_yes h b there = ap (λ (t : Bool). cond t (further h b + 1) 0) there

-- none is held
pub none_tallied : (h : Holders) (n : ℕ) → h.held ≡ replicate n false → ((b : ℕ) → maps.get nat_cmp h.again b ≡ None) → Tallies [] h
none_tallied h n held none = record {
  each = λ b low. held_no h b (never b) ∙ omega arith;
  fresh = λ b absent. ap (λ o. option_map_or (λ n. n) o 0) (none b);
}
  where
    never : (b : ℕ) → is_member h.held b ≡ false
    never b = ap (λ m. is_member m b) held ∙ is_member-replicate n b

-- one that isn't the aggregate's
pub tallies_past : (list : List ℕ) (at : ℕ) (h : Holders) → Tallies list h → length h.held ≤ at → Tallies (list ++ at ∷ []) h
tallies_past list at h tallies past = record {
  each = λ b low. tallies.each b low ∙ ap (min most) (sym (times_other b at list (λ (same : at ≡ b). omega (arith, same, low, past))));
  fresh = tallies.fresh;
}

module _ (list : List ℕ) (at : ℕ) (old new : Holders) (tallies : Tallies list old) (low : at < length old.held) where
  -- one that wasn't held
  pub tallies_first : is_member old.held at ≡ false → new.held ≡ set old.held at true → ((b : ℕ) → further new b ≡ further old b) → Tallies (list ++ at ∷ []) new
  tallies_first absent put same = record {
    each = λ b inside. ⊎_elim
        (λ (here : b ≡ at).
        let none : min most (times at list) ≡ 0 = sym (tallies.each at low) ∙ held_no old at absent in
        let one : times at (list ++ at ∷ []) ≡ times at list + 1 = times_same at list in
        let zero : further new at ≡ 0 = same at ∙ tallies.fresh at absent in
        let is : holds new at ≡ min most (times at (list ++ at ∷ [])) = held_yes new at (member at ∙ there at refl) ∙ omega (arith, none, one, zero) in
        subst (λ b. holds new b ≡ min most (times b (list ++ at ∷ []))) (sym here) is)
        (λ (apart : b ≢ at).
        let kept : is_member new.held b ≡ is_member old.held b = member b ∙ other b apart in
        ap (λ (t : Bool). cond t (further new b + 1) 0) kept ∙ ap (λ n. cond (is_member old.held b) (n + 1) 0) (same b)
        ∙ tallies.each b (inside_old inside) ∙ ap (min most) (sym (times_other b at list (λ (e : at ≡ b). apart (sym e)))))
        (cases_eq b at);
    fresh = λ b none. same b ∙ ⊎_elim
        (λ (here : b ≡ at). subst (λ b. further old b ≡ 0) (sym here) (tallies.fresh at absent))
        (λ (apart : b ≢ at). tallies.fresh b (sym (member b ∙ other b apart) ∙ none))
        (cases_eq b at);
  }
    where
      member : (b : ℕ) → is_member new.held b ≡ cond (b == at) true (is_member old.held b)
      member b = ap (λ m. is_member m b) put ∙ is_member-set old.held at true b low

      there : (b : ℕ) → b ≡ at → cond (b == at) true (is_member old.held b) ≡ true
      there b e = let test : (b == at) ≡ true = grind (arith, nat_tests, e) in ap (λ (t : Bool). cond t true (is_member old.held b)) test

      other : (b : ℕ) → b ≢ at → cond (b == at) true (is_member old.held b) ≡ is_member old.held b
      other b e = let test : (b == at) ≡ false = grind (arith, nat_tests, e) in ap (λ (t : Bool). cond t true (is_member old.held b)) test

      inside_old : {b : ℕ} → b < length new.held → b < length old.held
      inside_old {b} inside = let long : length new.held ≡ length old.held = ap length put ∙ length-set old.held at true in omega (arith, inside, long)

  -- one that was held
  pub tallies_again : is_member old.held at ≡ true → new.held ≡ old.held → Raised at old new → Tallies (list ++ at ∷ []) new
  tallies_again there kept raised = record {
    each = λ b inside. ⊎_elim
        (λ (here : b ≡ at).
        let before : further old at + 1 ≡ min most (times at list) = sym (held_yes old at there) ∙ tallies.each at low in
        let one : times at (list ++ at ∷ []) ≡ times at list + 1 = times_same at list in
        let more : further new at ≡ min (most - 1) (further old at + 1) = raised.here in
        let is : holds new at ≡ min most (times at (list ++ at ∷ [])) = held_yes new at (ap (λ m. is_member m at) kept ∙ there) ∙ omega (arith, before, one, more) in
        subst (λ b. holds new b ≡ min most (times b (list ++ at ∷ []))) (sym here) is)
        (λ (apart : b ≢ at).
        ap (λ m. cond (is_member m b) (further new b + 1) 0) kept ∙ ap (λ n. cond (is_member old.held b) (n + 1) 0) (raised.others b apart)
        ∙ tallies.each b (subst (λ m. b < length m) kept inside) ∙ ap (min most) (sym (times_other b at list (λ (e : at ≡ b). apart (sym e)))))
        (cases_eq b at);
    fresh = λ b none.
        let never : is_member old.held b ≡ false = sym (ap (λ m. is_member m b) kept) ∙ none in
        raised.others b (λ (here : b ≡ at). both_ways (is_member old.held b) never (ap (is_member old.held) here ∙ there)) ∙ tallies.fresh b never;
  }
