use Rattle.std.proofs.Common.{◌≡◌, ◌+◌, sym, ap, ◌∙◌, arith}
use Rattle.fv_tree.specs.Standing.{standing}
use Rattle.fv_tree.specs.Counting.{positions_of}
use Rattle.fv_tree.proofs.Counts.{count_goes}
use Rattle.fv_tree.proofs.Released.{released_as}
use Rattle.fv_tree.proofs.Single.{one_goes, one_dropped, one_named, named_once}
use Rattle.fv_tree.proofs.OthersReady.{other_ready}
use Rattle.fv_tree.proofs.Readied.{has_way}
use Rattle.fv_tree.proofs.erase.erase_cell.Goals as goal

pub returns-clause-few : goal.returns-clause-few
returns-clause-few g c = let few = c.bare_levels-lost.ensures.few in let most = c.args.tree.now.few in omega (arith, few, most)

pub returns-clause-others_ready : goal.returns-clause-others_ready
returns-clause-others_ready g c = λ ready j differs other.
    other_ready c.args.tree.now c.unlink.new.tree c.args.index j c.bare_levels-lost.result c.args.start c.args.stamp ready other differs c.bare_levels-lost.ensures
    (c.unlink.ensures.unlinks (has_way c.args.tree.now c.args.index ready.way)) (λ e. absurd (omega (arith, e, c.requires.stamp)))

pub returns-clause-erases : goal.returns-clause-erases
returns-clause-erases g c = λ way held stands. record {
  goes = one_goes held c.args.tree.now c.unlink.new.tree c.args.index c.bare_levels-lost.result c.args.start c.args.stamp way c.bare_levels-lost.ensures stands (c.unlink.ensures.unlinks way) (omega (arith, c.requires.stamp));
  released = (let t = c.args.tree.now in
      let u = c.unlink.new.tree in
      let i = c.args.index in
      let lost = c.bare_levels-lost.result in
      released_as (g.B.Blocks.shown c.args.blocks.now) (g.B.Blocks.shown c.name_way.new.blocks) _ _ c.name_way.ensures.released
      (one_named held t u i lost c.args.start c.args.stamp way c.bare_levels-lost.ensures stands (c.unlink.ensures.unlinks way) (omega (arith, c.requires.stamp)))
      (one_dropped held t u i lost c.args.start c.args.stamp way c.bare_levels-lost.ensures stands (c.unlink.ensures.unlinks way) (omega (arith, c.requires.stamp))));
  strays = λ sound. c.name_way.ensures.strays (named_once held c.args.tree.now c.unlink.new.tree c.args.index c.bare_levels-lost.result c.args.start c.args.stamp way c.bare_levels-lost.ensures stands (c.unlink.ensures.unlinks way) (omega (arith, c.requires.stamp))
      (g.B.Blocks.shown c.args.blocks.now).used sound);
  count = (let same : c.from.result ≡ c.bare_levels-lost.result = omega (arith, c.from.ensures) in
      count_goes held c.args.tree.now c.unlink.new.tree c.args.index c.bare_levels-lost.result c.args.start c.args.stamp way c.bare_levels-lost.ensures stands (c.unlink.ensures.unlinks way) (omega (arith, c.requires.stamp))
      ∙ ap (λ n. positions_of (standing held c.unlink.new.tree) + (n + 1)) (sym same));
}
