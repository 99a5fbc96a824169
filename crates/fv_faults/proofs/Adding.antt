-- What several calls add to the lines that are noted, and what is noted in the end.
use Rattle.std.proofs.Common.{◌≡◌, ◌⊎◌, List, [], ◌∷◌, ◌++◌, inl, inr, refl, sym, subst, ◌∙◌, ⊎_elim, Less}
use Rattle.std.specs.List.Sorted.{IsStrictlySortedBy}
use Rattle.fv_laws.proofs.Lists.{In, in_left, in_right, in_either}
use Rattle.fv_faults.specs.declared.fault.Fault.{Fault}
use Rattle.fv_faults.specs.declared.lines.Lines.{Lines}
use Rattle.fv_faults.specs.Lines.{fault_cmp, put, ordered}
use Rattle.fv_faults.specs.Adding.{Adds}
use Rattle.fv_faults.proofs.Ordered.{in_put, from_put, strict_keys, ordered_as}

-- a call that leaves the lines adds none
pub adds_none : (old new : Lines) → new.lines.keys ≡ old.lines.keys → Adds [] old new
adds_none old new same = record {
  each = λ f. (
    (λ there. inl (subst (In f) same there)),
    λ there. ⊎_elim (λ before. subst (In f) (sym same) before) (λ never. absurd never) there,
  );
}

pub adds_one : (fault : Fault) (old new : Lines) → new.lines.keys ≡ put fault old.lines.keys → Adds (fault ∷ []) old new
adds_one fault old new noted = record {
  each = λ f. (
    (λ there. ⊎_elim (λ is. inr (inl is)) (λ before. inl before) (from_put fault old.lines.keys f (subst (In f) noted there))),
    λ there. subst (In f) (sym noted) (in_put fault old.lines.keys f (⊎_elim (λ before. inr before) (λ one. ⊎_elim (λ is. inl is) (λ never. absurd never) one) there)),
  );
}

-- lines that are added, and then others
pub adds_then : (first second : List Fault) (old mid new : Lines) → Adds first old mid → Adds second mid new → Adds (first ++ second) old new
adds_then first second old mid new one two = record {
  each = λ f. (
    (λ there. ⊎_elim
        (λ middle. ⊎_elim (λ before. inl before) (λ is. inr (in_left f first second is)) ((one.each f).0 middle))
        (λ is. inr (in_right f first second is))
        ((two.each f).0 there)),
    λ there. (two.each f).1 (⊎_elim
        (λ before. inl ((one.each f).1 (inl before)))
        (λ is. ⊎_elim (λ a. inl ((one.each f).1 (inr a))) (λ b. inr b) (in_either f first second is))
        there),
  );
}

pub nothing_added : (lines : List Fault) (x : Lines) → lines ≡ [] → Adds lines x x
nothing_added lines x none = subst (λ ls. Adds ls x x) (sym none) (adds_none x x refl)

-- the same lines, in whatever order and number
pub same_added : (one two : List Fault) (old new : Lines) → ((f : Fault) → In f one → In f two) → ((f : Fault) → In f two → In f one) → Adds one old new → Adds two old new
same_added one two old new to from adds = record {
  each = λ f. (
    (λ there. ⊎_elim (λ before. inl before) (λ is. inr (to f is)) ((adds.each f).0 there)),
    λ there. (adds.each f).1 (⊎_elim (λ before. inl before) (λ is. inr (from f is)) there),
  );
}

-- ---- what is noted in the end

-- Where nothing is noted, no line was to be added.
pub none_added : (lines : List Fault) (old new : Lines) → Adds lines old new → new.lines.keys ≡ [] → lines ≡ []
none_added [] old new adds none = refl
none_added (f ∷ fs) old new adds none = absurd (subst (In f) none ((adds.each f).1 (inr (inl refl))))

-- The lines that are added to none are noted in their order, each once.
pub added_to_none : (lines : List Fault) (old new : Lines) → Adds lines old new → old.lines.keys ≡ [] → IsStrictlySortedBy fault_cmp new.lines.keys → new.lines.keys ≡ ordered lines
added_to_none lines old new adds none strict = ordered_as lines new.lines.keys (strict_keys new.lines.keys strict)
    (λ f there. ⊎_elim (λ before. absurd (subst (In f) none before)) (λ is. is) ((adds.each f).0 there))
    (λ f there. (adds.each f).1 (inr there))
