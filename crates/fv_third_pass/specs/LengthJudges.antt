-- What being shown pointers makes of a judge of lengths.
use Rattle.std.proofs.Common.{◌≡◌, List, [], ◌∷◌, ◌++◌, refl, sym, ap, subst, ◌∙◌}
use Rattle.std.specs.Prelude.{Option}
use Rattle.std.proofs.lemmas.List.{append_assoc}
use Rattle.fv_faults.specs.Adding.{Adds}
use Rattle.fv_faults.proofs.Adding.{adds_none, adds_then}
use Rattle.fv_walk.specs.Sights.{Sight}
use Rattle.fv_third_pass.specs.declared.lengths.LengthJudge.{LengthJudge}
use Rattle.fv_third_pass.specs.declared.lengths.Records.{Records}
use Rattle.fv_third_pass.specs.Lengths.{cell_lines, lengths_along, records_after, records_behind}

-- what it says of them is noted, and it has the records that were seen last
pub record JudgesLengths (old : LengthJudge) (sights : List Sight) (new : LengthJudge) : Type 0 where
  pub records : new.records ≡ records_behind old.records sights
  pub adds : Adds (lengths_along old.records sights) old.lines new.lines

pub lengths_none : (judge : LengthJudge) → JudgesLengths judge [] judge
lengths_none judge = record { records = refl; adds = adds_none judge.lines judge.lines refl }

pub behind_both : (r : Option Records) (first second : List Sight) → records_behind r (first ++ second) ≡ records_behind (records_behind r first) second
behind_both r [] second = refl
behind_both r (s ∷ first) second = behind_both (records_after r s.visit s.below) first second

pub along_both : (r : Option Records) (first second : List Sight) → lengths_along r (first ++ second) ≡ lengths_along r first ++ lengths_along (records_behind r first) second
along_both r [] second = refl
along_both r (s ∷ first) second =
    ap (λ ls. cell_lines r s.visit ++ ls) (along_both (records_after r s.visit s.below) first second)
    ∙ sym (append_assoc (cell_lines r s.visit) (lengths_along (records_after r s.visit s.below) first) (lengths_along (records_behind (records_after r s.visit s.below) first) second))

pub lengths_on : (old mid new : LengthJudge) (first second : List Sight) → JudgesLengths old first mid → JudgesLengths mid second new → JudgesLengths old (first ++ second) new
lengths_on old mid new first second one two = record {
  records = two.records ∙ ap (λ (r : Option Records). records_behind r second) one.records ∙ sym (behind_both old.records first second);
  adds = subst (λ ls. Adds ls old.lines new.lines) (sym (along_both old.records first second))
      (adds_then (lengths_along old.records first) (lengths_along (records_behind old.records first) second) old.lines mid.lines new.lines one.adds
      (subst (λ (r : Option Records). Adds (lengths_along r second) mid.lines new.lines) one.records two.adds));
}
