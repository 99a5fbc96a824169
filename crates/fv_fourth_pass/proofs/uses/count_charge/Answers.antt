use Rattle.std.proofs.Common.{ℕ, ap, ◌∙◌}
use Rattle.std.specs.Prelude.{option_copied}
use Rattle.fv_charge.specs.declared.ledger.Ledger.{Ledger}
use Rattle.fv_charge.specs.Counted.{charge_counted}
use Rattle.fv_fourth_pass.proofs.Charges.{charge_is}
use Rattle.fv_fourth_pass.proofs.uses.count_charge.Goals as goal

pub returns : goal.returns
returns c = λ w s sets.
    ap (λ (l : Ledger). l.charge) c.counted-ledger.ensures
    ∙ ap (λ (n : ℕ). charge_counted c.args.held.now (option_copied c.args.out) n c.args.label.now.span) c.used_records.ensures.exact
    ∙ charge_is w s c.args.label.now c.args.held.now (option_copied c.args.out) c.requires.held sets
