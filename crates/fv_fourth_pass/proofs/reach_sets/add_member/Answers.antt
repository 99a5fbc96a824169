use Rattle.std.proofs.Common.{arith, sym, ◌∙◌}
use Rattle.fv_fourth_pass.proofs.Unions.{low_more}
use Rattle.fv_fourth_pass.proofs.reach_sets.add_member.Goals as goal

pub returns-then-get-clause-low : goal.returns-then-get-clause-low
returns-then-get-clause-low c = λ fits has.
    let below = c.requires in
    low_more c.args.from.now c.args.copy.now c.args.number has c.set.new.self (omega (arith, fits, below)) (sym c.get.ensures ∙ c.if-get.true) c.set.ensures
