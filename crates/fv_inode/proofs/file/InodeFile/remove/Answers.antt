use Rattle.std.proofs.Common.{◌∙◌}
use Rattle.std.specs.Prelude.{is_some}
use Rattle.std.proofs.lemmas.Bool.{both_ways}
use Rattle.std.proofs.lemmas.Result.{err_from_is_err_and}
use Rattle.fv_tables.specs.Told.{file_at}
use Rattle.fv_tree.specs.Standing.{standing, under}
use Rattle.fv_inode.proofs.Alike.{takes_then, takes_failed, takes_none}
use Rattle.fv_inode.proofs.file.InodeFile.remove.Goals as goal

pub returns-in_err-there-clause-takes : goal.returns-in_err-there-clause-takes
returns-in_err-there-clause-takes g c =
    let p = err_from_is_err_and c.from_residual.result c.from_residual.ensures.1 in
    rw (p.1, p.2) (takes_failed g.B.Blocks.told (g.B.Blocks.goes c.args.blocks.now c.ready.new.blocks) (g.B.Blocks.shown c.args.blocks.now) (g.B.Blocks.shown c.ready.new.blocks) c.args.self.now.tree c.ready.new.self.tree c.args.number c.args.stamp c.in_err-there.field-0.0 c.in_err-there.ensures.loads
    (g.met.B.Blocks.reads_go c.args.blocks.now c.ready.new.blocks c.in_err-there.ensures.reads))

pub returns-then-not-there-clause-takes : goal.returns-then-not-there-clause-takes
returns-then-not-there-clause-takes g c =
    takes_none g.B.Blocks.told (g.B.Blocks.goes c.args.blocks.now c.ready.new.blocks) (g.B.Blocks.shown c.args.blocks.now) (g.B.Blocks.shown c.ready.new.blocks) c.args.self.now.tree c.ready.new.self.tree c.args.number c.args.stamp c.in_ok-there.there c.in_ok-there.ensures.loads
    (λ told. both_ways (is_some (file_at (standing (under (g.B.Blocks.shown c.args.blocks.now)) c.args.self.now.tree) c.args.number)) (c.in_ok-there.ensures.there told ∙ c.if-not-there.true) (c.requires.there told))
    (g.met.B.Blocks.reads_go c.args.blocks.now c.ready.new.blocks c.in_ok-there.ensures.reads)

pub returns-clause-takes : goal.returns-clause-takes
returns-clause-takes g c =
    let was = c.in_ok-there.ensures in
    takes_then g.B.Blocks.told (g.B.Blocks.goes c.ready.new.blocks c.erase.new.blocks) (g.B.Blocks.goes c.args.blocks.now c.erase.new.blocks) (g.B.Blocks.shown c.args.blocks.now) (g.B.Blocks.shown c.ready.new.blocks) (g.B.Blocks.shown c.erase.new.blocks)
    c.args.self.now.tree c.ready.new.self.tree c.erase.new.self.tree c.args.number c.args.stamp c.erase.result c.in_ok-there.there was.loads was.alike was.leaves
    (g.met.B.Blocks.goes_on c.args.blocks.now c.ready.new.blocks c.erase.new.blocks (g.met.B.Blocks.reads_go c.args.blocks.now c.ready.new.blocks was.reads) c.erase.ensures.takes.called) c.erase.ensures.takes
