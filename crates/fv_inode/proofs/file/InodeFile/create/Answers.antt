use Rattle.std.proofs.Common.{◌/◌, ◌%◌, sym, ap, subst, arith}
use Rattle.std.specs.Prelude.{slice_set, is_some}
use Rattle.std.proofs.lemmas.Result.{err_from_is_err_and}
use Rattle.std.proofs.lemmas.List.Elements.{All-set}
use Rattle.fv_codec.specs.Blocks.{IsInodeRecord}
use Rattle.fv_tree.specs.Standing.{standing, under}
use Rattle.fv_tree.specs.Altering.{Alters}
use Rattle.fv_tree.specs.Flushing.{loaded}
use Rattle.fv_tree.proofs.Altered.{only_leaves}
use Rattle.fv_inode.specs.Changing.{WritesFiles, Makes}
use Rattle.fv_inode.proofs.Looked.{earlier, loaded_as, loads_leaves, loads_then, loads_failed, loads_done, loads_none_failed}
use Rattle.fv_inode.proofs.Slots.{put_used}
use Rattle.fv_inode.proofs.Rewritten.{rewrites}
use Rattle.fv_inode.proofs.Numbered.{new_is, makes}
use Rattle.fv_tree.proofs.Right.{right_on}
use Rattle.fv_inode.proofs.file.InodeFile.create.Goals as goal

pub returns-in_err-files-clause-loads : goal.returns-in_err-files-clause-loads
returns-in_err-files-clause-loads g c =
    let p = err_from_is_err_and c.from_residual.result c.from_residual.ensures.1 in
    rw (p.1, p.2) (loads_none_failed g.B.Blocks.told c.args.self.now.tree (g.B.Blocks.shown c.args.blocks.now) (g.B.Blocks.shown c.read_files.new.blocks) c.in_err-files.field-0.0 c.in_err-files.ensures.looks)

pub write_files-requires-clause-range : goal.write_files-requires-clause-range
write_files-requires-clause-range g c =
    All-set IsInodeRecord c.in_ok-files.files (c.args.number % 16) c.new_record-file.result c.new_record-file.ensures.range c.in_ok-files.ensures.range

pub write_files-requires-clause-some : goal.write_files-requires-clause-some
write_files-requires-clause-some g c =
    let made = c.new_record-file.ensures in
    put_used c.in_ok-files.files (c.args.number % 16) c.new_record-file.result (omega (arith, c.in_ok-files.ensures.long)) (ap is_some (new_is c.args.name.now c.args.reserve c.new_record-file.result made.form made.«record»))

pub returns-in_err-write_files-clause-loads : goal.returns-in_err-write_files-clause-loads
returns-in_err-write_files-clause-loads g c =
    let old = g.B.Blocks.shown c.args.blocks.now in
    let mid = g.B.Blocks.shown c.read_files.new.blocks in
    let new = g.B.Blocks.shown c.write_files.new.blocks in
    let p = err_from_is_err_and c.from_residual-in_err-write_files.result c.from_residual-in_err-write_files.ensures.1 in
    rw (p.1, p.2) (loads_failed g.B.Blocks.told c.args.self.now.tree c.write_files.new.tree old new c.in_err-write_files.field-0.0
    (loads_then g.B.Blocks.told c.args.self.now.tree c.write_files.new.tree old mid new _ _ c.in_ok-files.ensures.looks c.in_err-write_files.ensures.loads))

pub returns-clause-made : goal.returns-clause-made
returns-clause-made g c = λ told.
    let old = g.B.Blocks.shown c.args.blocks.now in
    let mid = g.B.Blocks.shown c.read_files.new.blocks in
    let t = standing (under old) c.args.self.now.tree in
    let u = standing (under (g.B.Blocks.shown c.write_files.new.blocks)) c.write_files.new.tree in
    let n = c.args.number in
    let files = c.in_ok-files.files in
    let file = c.new_record-file.result in
    let was = c.in_ok-files.ensures in
    let made = c.new_record-file.ensures in
    let wrote : WritesFiles t u (n / 16) c.args.stamp (slice_set files (n % 16) file) =
    earlier (λ v. WritesFiles v u (n / 16) c.args.stamp (slice_set files (n % 16) file)) c.args.self.now.tree old mid was.looks.untouched.held (c.in_ok-write_files.ensures.written told) in
    subst (Makes t u c.args.name.now c.args.reserve c.args.stamp) (sym c.info_of.ensures)
    (makes t u c.args.name.now c.args.reserve c.args.stamp n file made.form made.«record» (c.requires.free told) (rewrites t u n c.args.stamp files file was.long (was.files told) wrote))

pub returns-clause-loads : goal.returns-clause-loads
returns-clause-loads g c =
    let old = g.B.Blocks.shown c.args.blocks.now in
    let mid = g.B.Blocks.shown c.read_files.new.blocks in
    let new = g.B.Blocks.shown c.write_files.new.blocks in
    loads_done g.B.Blocks.told c.args.self.now.tree c.write_files.new.tree old new (tt {0}) _
    (loads_then g.B.Blocks.told c.args.self.now.tree c.write_files.new.tree old mid new _ _ c.in_ok-files.ensures.looks c.in_ok-write_files.ensures.loads)

pub returns-in_err-files-clause-alters : goal.returns-in_err-files-clause-alters
returns-in_err-files-clause-alters g c = λ told.
    let old = g.B.Blocks.shown c.args.blocks.now in
    let new = g.B.Blocks.shown c.read_files.new.blocks in
    only_leaves c.args.stamp (loaded old c.args.self.now.tree) (loaded new c.args.self.now.tree) (loads_leaves c.args.self.now.tree old new c.in_err-files.ensures.looks.untouched.held)

pub returns-in_err-write_files-clause-alters : goal.returns-in_err-write_files-clause-alters
returns-in_err-write_files-clause-alters g c = λ told.
    let old = g.B.Blocks.shown c.args.blocks.now in
    let mid = g.B.Blocks.shown c.read_files.new.blocks in
    let new = g.B.Blocks.shown c.write_files.new.blocks in
    earlier (λ v. Alters c.args.stamp (loaded_as c.args.self.now.tree v) (loaded new c.write_files.new.tree)) c.args.self.now.tree old mid c.in_ok-files.ensures.looks.untouched.held (c.in_err-write_files.ensures.alters told)

pub returns-clause-alters : goal.returns-clause-alters
returns-clause-alters g c = λ told.
    let old = g.B.Blocks.shown c.args.blocks.now in
    let mid = g.B.Blocks.shown c.read_files.new.blocks in
    let new = g.B.Blocks.shown c.write_files.new.blocks in
    earlier (λ v. Alters c.args.stamp (loaded_as c.args.self.now.tree v) (loaded new c.write_files.new.tree)) c.args.self.now.tree old mid c.in_ok-files.ensures.looks.untouched.held (c.in_ok-write_files.ensures.alters told)

pub write_files-requires-clause-right : goal.write_files-requires-clause-right
write_files-requires-clause-right g c = λ told. right_on (g.B.Blocks.shown c.args.blocks.now) (g.B.Blocks.shown c.read_files.new.blocks) c.args.self.now.tree c.in_ok-files.ensures.looks.untouched (c.requires.right told)
