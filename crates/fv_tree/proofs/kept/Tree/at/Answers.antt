use Rattle.std.proofs.Common.{subst, sym, ◌∙◌}
use Rattle.fv_tree.specs.Spelled.{stored}
use Rattle.fv_tree.specs.Flushing.{ReachesOnce}
use Rattle.fv_tree.proofs.Whole.{is_stored, stands_on}
use Rattle.fv_tree.proofs.Differing.{none_pending}
use Rattle.fv_tree.proofs.kept.Tree.at.Goals as goal

pub returns-clause-stored : goal.returns-clause-stored
returns-clause-stored c = λ blocks.
    let made = c.unread.ensures in is_stored c.unread.result made.nodes made.cells blocks ∙ (λ i. stored blocks (made.owner i) (made.levels i) (made.root i))

pub returns-clause-stands : goal.returns-clause-stands
returns-clause-stands c = λ blocks used reaches.
    let made = c.unread.ensures in
    let same = is_stored c.unread.result made.nodes made.cells blocks ∙ (λ i. stored blocks (made.owner i) (made.levels i) (made.root i)) in
    stands_on c.unread.result made.nodes made.cells blocks used (subst (ReachesOnce used) (sym same) reaches)

pub returns-clause-pending : goal.returns-clause-pending
returns-clause-pending c = none_pending c.unread.result c.unread.ensures.nodes c.unread.ensures.cells
