use Rattle.std.proofs.Common.{◌≤◌, ◌-◌, ◌^◌, sym, arith}
use Rattle.std.proofs.Math.Nat.{one-le-pow}
use Rattle.std.proofs.lemmas.Result.{IfOk-weaker}
use Rattle.fv_model.specs.Trees.{fan}
use Rattle.fv_tree.specs.Standing.{standing, under}
use Rattle.fv_tree.proofs.Stays.{few_whole}
use Rattle.fv_tree.proofs.Ways.{own_way}
use Rattle.fv_tree.proofs.kept.Tree.staying_all.Goals as goal

pub staying_under-requires : goal.staying_under-requires
staying_under-requires g c = let wide : 1 ≤ fan ^ (3 - c.args.self.now.levels) = one-le-pow (3 - c.args.self.now.levels) fan (omega arith) in
    record { high = omega arith; range = omega (arith, wide); pointer = λ told. sym ((own_way (standing (under (g.B.Blocks.shown c.args.blocks.now)) c.args.self.now)).top 0); right = c.requires.right }

pub returns-clause-few : goal.returns-clause-few
returns-clause-few g c = IfOk-weaker c.staying_under.result _ _ (λ count few. few_whole count c.args.self.now.levels c.args.self.now.few few) c.staying_under.ensures.few
