use Rattle.std.proofs.Common.{refl, sym, ◌∙◌, arith}
use Rattle.fv_third_pass.proofs.Tallying.{tallies_first}
use Rattle.fv_third_pass.proofs.holders.Holders.hold.Goals as goal

pub returns-clause-tallies : goal.returns-clause-tallies
returns-clause-tallies c = λ list tallies. tallies_first list c.args.at c.args.self.now _ tallies
    (let low = c.if-at-len.false in omega (arith, low, c.len.ensures)) (sym c.get.ensures ∙ c.if-get.false) c.set.ensures (λ b. refl)
