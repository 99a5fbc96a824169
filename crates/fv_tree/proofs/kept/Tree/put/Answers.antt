use Rattle.std.proofs.lemmas.Result.{on_ok_weaker}
use Rattle.fv_tree.specs.Standing.{standing, under}
use Rattle.fv_tree.proofs.Calls.{steady_held}
use Rattle.fv_tree.proofs.Seen.{writes, remains_at_err}
use Rattle.fv_tree.proofs.kept.Tree.put.Goals as goal

pub returns-then-index-width-clause-written : goal.returns-then-index-width-clause-written
returns-then-index-width-clause-written g c = λ told.
    on_ok_weaker c.write_within.result (writes (standing (under (g.B.Blocks.shown c.args.blocks.now)) c.args.self.now) (standing (under (g.B.Blocks.shown c.write_within.new.blocks)) c.write_within.new.tree) c.args.index c.args.stamp c.args.block.now) (c.write_within.ensures.done told)

pub returns-then-index-width-clause-failed : goal.returns-then-index-width-clause-failed
returns-then-index-width-clause-failed g c = λ told.
    remains_at_err c.write_within.result (standing (under (g.B.Blocks.shown c.args.blocks.now)) c.args.self.now) (standing (under (g.B.Blocks.shown c.write_within.new.blocks)) c.write_within.new.tree) (c.write_within.ensures.failed told)

pub returns-else-index-width-clause-written : goal.returns-else-index-width-clause-written
returns-else-index-width-clause-written g c = λ _.
    let held = under (g.B.Blocks.shown c.args.blocks.now) in
    on_ok_weaker c.write_past.result (writes (standing held c.args.self.now) (standing held c.write_past.new.tree) c.args.index c.args.stamp c.args.block.now) (c.write_past.ensures.done held)

pub returns-else-index-width-clause-failed : goal.returns-else-index-width-clause-failed
returns-else-index-width-clause-failed g c = λ _.
    let held = under (g.B.Blocks.shown c.args.blocks.now) in
    remains_at_err c.write_past.result (standing held c.args.self.now) (standing held c.write_past.new.tree) (c.write_past.ensures.failed held)

pub returns-else-index-width-clause-steady : goal.returns-else-index-width-clause-steady
returns-else-index-width-clause-steady g c = steady_held g.B.Blocks.told (g.B.Blocks.shown c.args.blocks.now) c.write_past.result c.write_past.ensures.steady (g.met.B.Blocks.reads_nothing c.args.blocks.now) c.write_past.ensures.memory
