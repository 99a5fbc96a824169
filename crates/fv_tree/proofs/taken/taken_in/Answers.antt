use Rattle.std.proofs.Common.{◌≤◌, ◌-◌, ◌^◌, sym, arith}
use Rattle.std.proofs.Math.Nat.{one-le-pow}
use Rattle.fv_model.specs.Trees.{fan}
use Rattle.fv_tree.specs.Standing.{standing, under}
use Rattle.fv_tree.proofs.Stays.{few_whole}
use Rattle.fv_tree.proofs.Ways.{own_way}
use Rattle.fv_tree.proofs.taken.taken_in.Goals as goal

pub taken_under-requires : goal.taken_under-requires
taken_under-requires g c = let wide : 1 ≤ fan ^ (3 - c.args.tree.now.levels) = one-le-pow (3 - c.args.tree.now.levels) fan (omega arith) in
    record { high = omega arith; range = omega (arith, wide); pointer = λ told. sym ((own_way (standing (under (g.B.Blocks.shown c.args.blocks.now)) c.args.tree.now)).top 0); right = c.requires.right }

pub returns-clause-few : goal.returns-clause-few
returns-clause-few g c = record {
  gone = few_whole c.in_ok-part.part.taken.gone c.args.tree.now.levels c.args.tree.now.few c.in_ok-part.ensures.few.gone;
  staying = few_whole c.in_ok-part.part.taken.staying c.args.tree.now.levels c.args.tree.now.few c.in_ok-part.ensures.few.staying;
}
