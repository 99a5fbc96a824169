use Rattle.std.proofs.Common.{refl, ap, sym, ◌∙◌, Some, None, cond}
use Rattle.fv_tree.proofs.Ready.{as_there, stands_again}
use Rattle.fv_tree.proofs.kept.Tree.get.Goals as goal

pub returns-clause-cell : goal.returns-clause-cell
returns-clause-cell g c = λ told. c.in_ok-at.ensures.cell told ∙ as_there c.read.new.into c.in_ok-at.at ∙ ap (λ there. cond there (Some c.read.new.into) None) (sym c.is_some.ensures)

pub returns-clause-seen : goal.returns-clause-seen
returns-clause-seen g c = λ told seen contents shows. shows.blocks c.args.index ∙ returns-clause-cell g c told

pub returns-in_err-at-clause-stands : goal.returns-in_err-at-clause-stands
returns-in_err-at-clause-stands g c =
    stands_again (g.B.Blocks.shown c.args.blocks.now) (g.B.Blocks.shown c.read.new.blocks) c.args.self.now c.args.self.now c.in_err-at.ensures.untouched.held c.in_err-at.ensures.untouched.used refl

pub returns-clause-stands : goal.returns-clause-stands
returns-clause-stands g c =
    stands_again (g.B.Blocks.shown c.args.blocks.now) (g.B.Blocks.shown c.read.new.blocks) c.args.self.now c.args.self.now c.in_ok-at.ensures.untouched.held c.in_ok-at.ensures.untouched.used refl
