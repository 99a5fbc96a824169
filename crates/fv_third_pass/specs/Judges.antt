-- What being shown pointers makes of a judge.
use Rattle.std.proofs.Common.{◌≡◌, List, [], ◌++◌, flat_map, refl, sym, subst, ◌∙◌}
use Rattle.std.proofs.lemmas.Grind.{flat_map-append}
use Rattle.fv_faults.specs.Adding.{Adds}
use Rattle.fv_faults.proofs.Adding.{adds_none, adds_then}
use Rattle.fv_walk.specs.Sights.{Sight}
use Rattle.fv_third_pass.specs.declared.judge.Judge.{Judge}
use Rattle.fv_third_pass.specs.Judged.{judged}

-- what it says of them is noted, and nothing else changes
pub record Judges (old : Judge) (sights : List Sight) (new : Judge) : Type 0 where
  pub own : new.own ≡ old.own
  pub now : new.last ≡ old.last
  pub adds : Adds (flat_map (judged old.own old.last) sights) old.lines new.lines

pub judges_none : (judge : Judge) → Judges judge [] judge
judges_none judge = record { own = refl; now = refl; adds = adds_none judge.lines judge.lines refl }

pub judges_on : (old mid new : Judge) (first second : List Sight) → Judges old first mid → Judges mid second new → Judges old (first ++ second) new
judges_on old mid new first second one two = record {
  own = two.own ∙ one.own;
  now = two.now ∙ one.now;
  adds = subst (λ ls. Adds ls old.lines new.lines) (sym (flat_map-append (judged old.own old.last) first second))
      (adds_then (flat_map (judged old.own old.last) first) (flat_map (judged old.own old.last) second) old.lines mid.lines new.lines one.adds
      (subst (λ n. Adds (flat_map (judged old.own n) second) mid.lines new.lines) one.now
      (subst (λ b. Adds (flat_map (judged b mid.last) second) mid.lines new.lines) one.own two.adds)));
}
