use Rattle.std.proofs.Common.{refl, arith}
use Rattle.std.specs.Prelude.{Some}
use Rattle.fv_first_pass.proofs.Chain.{chain_step, chain_ends}
use Rattle.fv_first_pass.proofs.bases.comes_to_end.Goals as goal

pub loop-init : goal.loop-init
loop-init c = record { ends = λ y has. refl }

pub loop-preserved : goal.loop-preserved
loop-preserved c = record {
  ends = λ y has. chain_step y c.args.labels.now has c.loop.counter c.loop.at c.on_from-at.result (Some c.args.slot) (let low = c.loop-test.true in omega (arith, low)) c.on_from-at.ensures (c.loop.invariant.ends y has);
}

pub returns : goal.returns
returns c = λ y has. chain_ends y c.args.labels.now has c.loop.counter c.loop.at c.args.slot c.is_none.result (let past = c.loop-test.false in omega (arith, past)) c.is_none.ensures (c.loop.invariant.ends y has)
