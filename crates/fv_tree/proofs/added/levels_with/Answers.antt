use Rattle.std.proofs.Common.{◌≤◌, ◌<◌, ◌^◌, inl, inr, arith}
use Rattle.std.proofs.Math.Nat.{pow-le-pow_right}
use Rattle.std.proofs.lemmas.Bool.{cases_lt}
use Rattle.fv_model.specs.Trees.{fan}
use Rattle.fv_tree.proofs.Writes.{levels_grow, levels_stay}
use Rattle.fv_tree.proofs.added.levels_with.Goals as goal

pub returns-then-index-width-clause-exact : goal.returns-then-index-width-clause-exact
returns-then-index-width-clause-exact c = levels_stay c.args.levels c.args.index (omega (arith, c.if-index-width.true, c.width.ensures.is))

pub returns-else-index-width-clause-exact : goal.returns-else-index-width-clause-exact
returns-else-index-width-clause-exact c = levels_grow c.args.levels c.args.index c.levels_over.result (omega (arith, c.if-index-width.false, c.width.ensures.is)) c.levels_over.ensures.least

pub returns-else-index-width-clause-more : goal.returns-else-index-width-clause-more
returns-else-index-width-clause-more c = elim (cases_lt c.args.levels c.levels_over.result) [
  | inl lt ↦ omega (arith, lt)
  | inr le ↦
      let up : fan ^ c.levels_over.result ≤ fan ^ c.args.levels = pow-le-pow_right {n = fan} (omega arith) {i = c.levels_over.result} {j = c.args.levels} le in
      let far : fan ^ c.args.levels ≤ c.args.index = omega (arith, c.if-index-width.false, c.width.ensures.is) in
      let covers : c.args.index < fan ^ c.levels_over.result = c.levels_over.ensures.covers in
      absurd (omega (arith, up, far, covers))
]
