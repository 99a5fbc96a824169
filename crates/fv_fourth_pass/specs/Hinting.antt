-- What being shown pointers makes of the lines that are noted.
use Rattle.std.proofs.Common.{List, [], ◌++◌, flat_map, refl, sym, subst}
use Rattle.std.proofs.lemmas.Grind.{flat_map-append}
use Rattle.fv_faults.specs.Adding.{Adds}
use Rattle.fv_faults.proofs.Adding.{adds_none, adds_then}
use Rattle.fv_walk.specs.Sights.{Sight}
use Rattle.fv_fourth_pass.specs.declared.hints.HintJudge.{HintJudge}
use Rattle.fv_fourth_pass.specs.Hinted.{judged}

-- what rules 11 and 12 say of them is noted
pub record Hints (old : HintJudge) (sights : List Sight) (new : HintJudge) : Type 0 where
  pub adds : Adds (flat_map judged sights) old.lines new.lines

pub hints_none : (judge : HintJudge) → Hints judge [] judge
hints_none judge = record { adds = adds_none judge.lines judge.lines refl }

pub hints_on : (old mid new : HintJudge) (first second : List Sight) → Hints old first mid → Hints mid second new → Hints old (first ++ second) new
hints_on old mid new first second one two = record {
  adds = subst (λ ls. Adds ls old.lines new.lines) (sym (flat_map-append judged first second))
      (adds_then (flat_map judged first) (flat_map judged second) old.lines mid.lines new.lines one.adds two.adds);
}
