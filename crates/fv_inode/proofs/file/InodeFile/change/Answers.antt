use Rattle.std.proofs.Common.{ap, subst, ◌∙◌}
use Rattle.std.specs.Prelude.{is_some}
use Rattle.std.specs.Option.{option_map}
use Rattle.std.proofs.lemmas.Bool.{both_ways}
use Rattle.std.proofs.lemmas.Result.{err_from_is_err_and}
use Rattle.fv_tables.specs.Told.{file_at}
use Rattle.fv_tree.specs.Standing.{standing, under}
use Rattle.fv_tree.specs.Flushing.{loaded}
use Rattle.fv_tree.proofs.Altered.{leaves_alters, only_leaves}
use Rattle.fv_inode.specs.Files.{with_info}
use Rattle.fv_inode.specs.Changing.{Rewrites}
use Rattle.fv_inode.proofs.Looked.{loads_failed, loads_done, loads_more}
use Rattle.fv_inode.proofs.Alike.{rewrites_after}
use Rattle.fv_inode.proofs.file.InodeFile.change.Goals as goal

pub returns-in_err-there-clause-loads : goal.returns-in_err-there-clause-loads
returns-in_err-there-clause-loads g c =
    let p = err_from_is_err_and c.from_residual.result c.from_residual.ensures.1 in
    rw (p.1, p.2) (loads_failed g.B.Blocks.told c.args.self.now.tree c.ready.new.self.tree (g.B.Blocks.shown c.args.blocks.now) (g.B.Blocks.shown c.ready.new.blocks) c.in_err-there.field-0.0 c.in_err-there.ensures.loads)

pub returns-then-not-there-clause-changed : goal.returns-then-not-there-clause-changed
returns-then-not-there-clause-changed g c = λ told.
    absurd (both_ways (is_some (file_at (standing (under (g.B.Blocks.shown c.args.blocks.now)) c.args.self.now.tree) c.args.info.now.number)) (c.in_ok-there.ensures.there told ∙ c.if-not-there.true) (c.requires.there told))

pub returns-then-not-there-clause-loads : goal.returns-then-not-there-clause-loads
returns-then-not-there-clause-loads g c =
    loads_done g.B.Blocks.told c.args.self.now.tree c.ready.new.self.tree (g.B.Blocks.shown c.args.blocks.now) (g.B.Blocks.shown c.ready.new.blocks) c.in_ok-there.there _ c.in_ok-there.ensures.loads

pub returns-clause-changed : goal.returns-clause-changed
returns-clause-changed g c = λ told.
    let old = g.B.Blocks.shown c.args.blocks.now in
    let new = g.B.Blocks.shown c.ready.new.blocks in
    let t = standing (under old) c.args.self.now.tree in
    let u = standing (under new) c.ready.new.self.tree in
    let w = standing (under new) c.rewrite.new.self.tree in
    let n = c.args.info.now.number in
    let was = c.in_ok-there.ensures in
    rewrites_after t u (was.alike told) w n c.args.stamp (option_map (with_info c.args.info.now) (file_at t n))
    (subst (Rewrites u w n c.args.stamp) (ap (option_map (with_info c.args.info.now)) (was.files told n)) (c.rewrite.ensures.rewrites (under new)))

pub returns-clause-loads : goal.returns-clause-loads
returns-clause-loads g c =
    loads_more g.B.Blocks.told c.args.self.now.tree c.ready.new.self.tree c.rewrite.new.self.tree (g.B.Blocks.shown c.args.blocks.now) (g.B.Blocks.shown c.ready.new.blocks) c.args.stamp c.in_ok-there.there _ c.in_ok-there.ensures.loads c.rewrite.ensures.alters

pub returns-in_err-there-clause-alters : goal.returns-in_err-there-clause-alters
returns-in_err-there-clause-alters g c = λ told.
    only_leaves c.args.stamp (loaded (g.B.Blocks.shown c.args.blocks.now) c.args.self.now.tree) (loaded (g.B.Blocks.shown c.ready.new.blocks) c.ready.new.self.tree) (c.in_err-there.ensures.leaves told)

pub returns-then-not-there-clause-alters : goal.returns-then-not-there-clause-alters
returns-then-not-there-clause-alters g c = λ told.
    only_leaves c.args.stamp (loaded (g.B.Blocks.shown c.args.blocks.now) c.args.self.now.tree) (loaded (g.B.Blocks.shown c.ready.new.blocks) c.ready.new.self.tree) (c.in_ok-there.ensures.leaves told)

pub returns-clause-alters : goal.returns-clause-alters
returns-clause-alters g c = λ told.
    let new = g.B.Blocks.shown c.ready.new.blocks in
    leaves_alters c.args.stamp (loaded (g.B.Blocks.shown c.args.blocks.now) c.args.self.now.tree) (loaded new c.ready.new.self.tree) (loaded new c.rewrite.new.self.tree) (c.in_ok-there.ensures.leaves told) (c.rewrite.ensures.alters.alters (under new))
