use Rattle.std.proofs.Common.{◌∙◌, ◌++◌, Bool, sym, ap}
use Rattle.fv_faults.specs.Lines.{line, unless}
use Rattle.fv_first_pass.proofs.Chain.{one_base}
use Rattle.fv_first_pass.proofs.bases.based_lines.Goals as goal

pub returns : goal.returns
returns c = λ y has. c.in_ok-say_unless.ensures ∙ ap (λ ls. c.args.found.now.items ++ ls)
    (ap (λ (b : Bool). unless b (line 3 c.args.at 1 0)) (c.stands-firm.ensures y has) ∙ sym (one_base y c.args.site.now.slot c.args.at c.args.site.now.label c.requires.based))
