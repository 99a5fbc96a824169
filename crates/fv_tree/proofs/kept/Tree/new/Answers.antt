use Rattle.std.proofs.Common.{ap, sym, refl}
use Rattle.fv_tree.specs.Spelled.{Rooted, hole, stored}
use Rattle.fv_tree.specs.Standing.{standing}
use Rattle.fv_tree.proofs.Whole.{hole_reaches}
use Rattle.fv_tree.proofs.Seen.{empty_shown}
use Rattle.fv_tree.proofs.kept.Tree.new.Goals as goal

pub returns-clause-seen : goal.returns-clause-seen
returns-clause-seen c = λ blocks.
    empty_shown (standing blocks c.at.result) c.args.levels (sym (ap (λ (t : Rooted). t.levels) (c.at.ensures.stored blocks))) (ap (λ (t : Rooted). t.root.stamp) (c.at.ensures.stored blocks))

pub returns-clause-stands : goal.returns-clause-stands
returns-clause-stands c = λ blocks used. c.at.ensures.stands blocks used (hole_reaches used (stored blocks c.args.owner c.args.levels hole) refl)
