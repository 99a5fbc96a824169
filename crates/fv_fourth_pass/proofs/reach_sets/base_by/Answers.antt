use Rattle.std.proofs.Common.{◌≡◌, ◌-◌, Bool, List, false, get_or, arith, sym, ap, subst, ◌∙◌}
use Rattle.std.specs.Prelude.{None, Option, option_copied, ◌==◌, if◌then◌else◌}
use Rattle.std.proofs.lemmas.Bool.Decides.{nat_tests}
use Rattle.fv_second_pass.specs.Reaching.{maps_of}
use Rattle.fv_third_pass.specs.Volumes.{base_set}
use Rattle.fv_fourth_pass.specs.Silent.{FitsIn}
use Rattle.fv_fourth_pass.specs.Used.{is_out}
use Rattle.fv_fourth_pass.proofs.reach_sets.base_by.Goals as goal

pub returns-clause-has : goal.returns-clause-has
returns-clause-has c = λ fits v.
    let l = c.args.label.now in
    let volumes = c.args.reached.now.volumes.items in
    let test : (l.parent == 0) ≡ false = (let apart = c.if-label-eq0.false in grind (arith, nat_tests, apart)) in
    let told : option_copied c.of-told.result ≡ base_set volumes l =
    c.of-told.ensures ∙ sym (ap (λ (b : Bool). if b then None else get_or (maps_of (get_or volumes (l.parent - 1) None)) l.base_slot None) test) in
    c.in_ok-base.ensures.same (subst (FitsIn l.span) (sym told) fits) v ∙ ap (λ (o : Option (List Bool)). is_out o v) told
