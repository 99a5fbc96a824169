-- What is counted of sets and words is what rule 13 says of bases.
use Rattle.std.proofs.Common.{◌≡◌, ℕ, zero, suc, ◌+◌, ◌<◌, Bool, false, not, List, ◌++◌, refl, sym, ap, subst, ◌∙◌, arith}
use Rattle.std.specs.Prelude.{Option, Some, None, ◌&&◌, count_by, if◌then◌else◌}
use Rattle.std.specs.List.{range_with_len}
use Rattle.std.specs.Option.{is_none, is_some}
use Rattle.fv_bits.proofs.Counts.{passing, passing-suc, passing_same}
use Rattle.fv_codec.specs.declared.label.Label.{Label}
use Rattle.fv_image.specs.Views.{Head, Placed, View, footing_of, head_of}
use Rattle.fv_image.specs.HintRules.{is_splitting}
use Rattle.fv_faults.specs.declared.lines.Lines.{Lines}
use Rattle.fv_faults.specs.Adding.{Adds}
use Rattle.fv_faults.specs.FourthPass.{is_copy, none_of, not_on_base, own_over_base, rests_elsewhere}
use Rattle.fv_faults.proofs.Adding.{adds_then}
use Rattle.fv_fourth_pass.specs.Based.{IsOver, copies, has_entry, is_copied, resting, rests_apart}

none_pass : (a n : ℕ) → passing (λ v. false) a n ≡ 0
none_pass a zero = refl
none_pass a (suc n) = let first = passing-suc (λ v. false) a n in let rest = none_pass (a + 1) n in omega (arith, first, rest)

none_not : (o : Option Placed) → is_none o ≡ not (is_some o)
none_not None = refl
none_not (Some x) = refl

module _ (w : View) (s : ℕ) (h : Head) (held : List Bool) (row : List ℕ) where
  copies_are : (base : Option (List Bool)) → IsOver w s h held base row → count_by (is_copy w s h) (range_with_len 0 h.span) ≡ copies base row h.span
  copies_are None over =
      passing_same (is_copy w s h) (λ v. false) 0 0 h.span (λ j lt. ap (λ b. b && is_some (w.entry s (0 + j))) (sym (over.based (0 + j) (omega (arith, lt)))))
      ∙ none_pass 0 h.span
  copies_are (Some base) over =
      passing_same (is_copy w s h) (is_copied base row) 0 0 h.span (λ j lt. λ i. sym (over.based (0 + j) (omega (arith, lt))) i && over.entries (0 + j) (omega (arith, lt)) i)

  own_is : (base : Option (List Bool)) → IsOver w s h held base row → own_over_base w s h ≡ (if is_splitting h.base then 0 else copies base row h.span)
  own_is base over = ap (λ n. if is_splitting h.base then 0 else n) (copies_are base over)

  rest_is : (base : Option (List Bool)) → IsOver w s h held base row → not_on_base w s h ≡ resting held base row h.span
  rest_is None over = ap (λ b. if b then 0 else count_by (rests_elsewhere w s h) (range_with_len 0 h.span)) (sym over.known)
  rest_is (Some base) over =
      ap (λ b. if b then 0 else count_by (rests_elsewhere w s h) (range_with_len 0 h.span)) (sym over.known)
      ∙ passing_same (rests_elsewhere w s h) (rests_apart held base row) 0 0 h.span (λ j lt.
      let low : 0 + j < h.span = omega (arith, lt) in
      let entry : is_none (w.entry s (0 + j)) ≡ not (has_entry row (0 + j)) = none_not (w.entry s (0 + j)) ∙ ap not (over.entries (0 + j) low) in
      λ i. sym (over.reached (0 + j) low) i && (entry i && not (sym (over.based (0 + j) low) i)))

module _ (w : View) (s : ℕ) (l : Label) (held : List Bool) (base : Option (List Bool)) (row : List ℕ) (over : IsOver w s (head_of l) held base row) where
  pub base_added : (place : ℕ) (old mid new : Lines) → Adds (none_of place (if is_splitting (footing_of l) then 0 else copies base row l.span)) old mid → Adds (none_of place (resting held base row l.span)) mid new
      → Adds (none_of place (own_over_base w s (head_of l)) ++ none_of place (not_on_base w s (head_of l))) old new
  unfolding head_of
  base_added place old mid new first second =
      adds_then (none_of place (own_over_base w s (head_of l))) (none_of place (not_on_base w s (head_of l))) old mid new
      (subst (λ n. Adds (none_of place n) old mid) (sym (own_is w s (head_of l) held row base over)) first)
      (subst (λ n. Adds (none_of place n) mid new) (sym (rest_is w s (head_of l) held row base over)) second)
