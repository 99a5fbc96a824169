use Rattle.std.proofs.Common.{nat_eq, Ok}
use Rattle.fv_tree.specs.Standing.{standing, under}
use Rattle.fv_tree.specs.Flushing.{loaded}
use Rattle.fv_tree.proofs.Altered.{leaves_itself}
use Rattle.fv_tree.proofs.Causes.{calm_itself, untouched_itself}
use Rattle.fv_tree.proofs.Held.{same_self}
use Rattle.fv_tree.proofs.Readied.{has_way, ready_cell}
use Rattle.fv_tree.proofs.Released.{keeps_self}
use Rattle.fv_tree.proofs.Removing.{removal_after, removes_one}
use Rattle.fv_tree.proofs.Calls.{removing_done}
use Rattle.fv_tree.proofs.kept.Tree.erase.Goals as goal

pub returns-clause-removal : goal.returns-clause-removal
returns-clause-removal g c =
    let a = g.B.Blocks.shown c.args.blocks.now in
    let t = c.args.self.now in
    let did = c.erase_cell.ensures in
    let erases = did.erases (has_way t c.args.index c.requires.ready.way) (under a) (ready_cell (under a) t c.args.index c.requires.ready) in
    removal_after g.B.Blocks.told (g.B.Blocks.goes c.args.blocks.now c.erase_cell.new.blocks) (Ok c.erase_cell.result) a _ t c.erase_cell.new.tree (nat_eq c.args.index) c.args.start c.args.stamp
    (removing_done c.erase_cell.result (λ _. removes_one a a _ t t _ c.args.index c.args.start c.args.stamp _ (untouched_itself a) (calm_itself a) (same_self (standing (under a) t)) (keeps_self (under a) t) (λ stands. stands) (leaves_itself (loaded a t)) erases)
    (λ _. erases.count) did.owner did.room did.differs.held did.calls did.calm)

pub returns-clause-others_ready : goal.returns-clause-others_ready
returns-clause-others_ready g c = c.erase_cell.ensures.others_ready c.requires.ready
