use Rattle.std.proofs.Common.{◌≡◌, true, ◌/◌, ◌%◌, refl}
use Rattle.std.specs.Prelude.{slice_set, is_some}
use Rattle.std.proofs.lemmas.Result.{on_ok_weaker, err_from_is_err_and}
use Rattle.fv_tables.specs.Spelled.{block_at}
use Rattle.fv_tree.specs.Standing.{standing, under}
use Rattle.fv_tree.specs.Altering.{Leaves}
use Rattle.fv_tree.specs.Flushing.{loaded}
use Rattle.fv_inode.specs.Files.{with_root}
use Rattle.fv_inode.specs.Changing.{FillsFiles}
use Rattle.fv_inode.proofs.Looked.{earlier, later, loaded_as, loads_leaves, stands_on, looks_done, loads_none, loads_then, loads_none_failed}
use Rattle.fv_inode.proofs.Slots.{block_there, still_used, no_such, such}
use Rattle.fv_inode.proofs.Rewritten.{sets_root}
use Rattle.fv_tree.proofs.Right.{right_on}
use Rattle.fv_inode.proofs.file.InodeFile.set_root.Goals as goal

pub returns-in_err-files-clause-loads : goal.returns-in_err-files-clause-loads
returns-in_err-files-clause-loads g c =
    let p = err_from_is_err_and c.from_residual.result c.from_residual.ensures.1 in
    rw (p.1, p.2) (loads_none_failed g.B.Blocks.told c.args.self.now.tree (g.B.Blocks.shown c.args.blocks.now) (g.B.Blocks.shown c.read_files.new.blocks) c.in_err-files.field-0.0 c.in_err-files.ensures.looks)

pub refill_files-requires-clause-there : goal.refill_files-requires-clause-there
refill_files-requires-clause-there g c = λ told.
    let old = g.B.Blocks.shown c.args.blocks.now in
    later (λ v. is_some (block_at v (c.args.number / 16)) ≡ true) c.args.self.now.tree old (g.B.Blocks.shown c.read_files.new.blocks) c.in_ok-files.ensures.looks.untouched.held
    (block_there (standing (under old) c.args.self.now.tree) c.args.number (such (standing (under old) c.args.self.now.tree) c.args.number c.in_ok-files.files _ c.in_ok-files.ensures.long (c.in_ok-files.ensures.files told) c.if-files-slot-eq0.false))

pub refill_files-requires-clause-some : goal.refill_files-requires-clause-some
refill_files-requires-clause-some g c =
    still_used c.in_ok-files.files c.args.number (with_root c.args.levels c.args.root) (λ f. refl) c.with_root.result _ c.in_ok-files.ensures.long c.with_root.ensures c.if-files-slot-eq0.false

pub returns-clause-set : goal.returns-clause-set
returns-clause-set g c = λ told there.
    let t = standing (under (g.B.Blocks.shown c.args.blocks.now)) c.args.self.now.tree in
    let u = standing (under (g.B.Blocks.shown c.refill_files.new.blocks)) c.refill_files.new.tree in
    let n = c.args.number in
    let files = c.in_ok-files.files in
    let was = c.in_ok-files.ensures in
    on_ok_weaker c.refill_files.result (λ fills. sets_root t u n c.args.levels c.args.root files c.with_root.result _ was.long (was.files told) c.with_root.ensures
    (earlier (λ v. FillsFiles v u (n / 16) (slice_set files (n % 16) c.with_root.result)) c.args.self.now.tree (g.B.Blocks.shown c.args.blocks.now) (g.B.Blocks.shown c.read_files.new.blocks) was.looks.untouched.held fills))
    (c.refill_files.ensures.filled told)

pub returns-clause-loads : goal.returns-clause-loads
returns-clause-loads g c =
    loads_then g.B.Blocks.told c.args.self.now.tree c.refill_files.new.tree (g.B.Blocks.shown c.args.blocks.now) (g.B.Blocks.shown c.read_files.new.blocks) (g.B.Blocks.shown c.refill_files.new.blocks)
    c.in_ok-files.files c.refill_files.result c.in_ok-files.ensures.looks c.refill_files.ensures.loads

-- ---- no file has the number

pub returns-then-files-slot-eq0-clause-set : goal.returns-then-files-slot-eq0-clause-set
returns-then-files-slot-eq0-clause-set g c = λ told there.
    no_such (standing (under (g.B.Blocks.shown c.args.blocks.now)) c.args.self.now.tree) c.args.number c.in_ok-files.files _ c.in_ok-files.ensures.long (c.in_ok-files.ensures.files told) c.if-files-slot-eq0.true there

pub returns-then-files-slot-eq0-clause-loads : goal.returns-then-files-slot-eq0-clause-loads
returns-then-files-slot-eq0-clause-loads g c =
    let old = g.B.Blocks.shown c.args.blocks.now in
    let new = g.B.Blocks.shown c.read_files.new.blocks in
    loads_none g.B.Blocks.told c.args.self.now.tree old new _ (looks_done g.B.Blocks.told (standing (under old) c.args.self.now.tree) old new c.in_ok-files.files _ c.in_ok-files.ensures.looks)

pub returns-in_err-files-clause-held : goal.returns-in_err-files-clause-held
returns-in_err-files-clause-held g c = λ told holds. absurd (c.in_err-files.ensures.held told c.args.number refl holds)

pub returns-clause-held : goal.returns-clause-held
returns-clause-held g c = λ told holds. c.refill_files.ensures.held holds.way

-- ---- where the inode block had changed already, nothing more did

pub returns-in_err-files-clause-leaves : goal.returns-in_err-files-clause-leaves
returns-in_err-files-clause-leaves g c = λ told _ _. loads_leaves c.args.self.now.tree (g.B.Blocks.shown c.args.blocks.now) (g.B.Blocks.shown c.read_files.new.blocks) c.in_err-files.ensures.looks.untouched.held

pub returns-then-files-slot-eq0-clause-leaves : goal.returns-then-files-slot-eq0-clause-leaves
returns-then-files-slot-eq0-clause-leaves g c = λ told _ _. loads_leaves c.args.self.now.tree (g.B.Blocks.shown c.args.blocks.now) (g.B.Blocks.shown c.read_files.new.blocks) c.in_ok-files.ensures.looks.untouched.held

pub returns-clause-leaves : goal.returns-clause-leaves
returns-clause-leaves g c = λ told stands changed.
    let old = g.B.Blocks.shown c.args.blocks.now in
    let mid = g.B.Blocks.shown c.read_files.new.blocks in
    let new = g.B.Blocks.shown c.refill_files.new.blocks in
    let same = c.in_ok-files.ensures.looks.untouched in
    earlier (λ v. Leaves (loaded_as c.args.self.now.tree v) (loaded new c.refill_files.new.tree)) c.args.self.now.tree old mid same.held (c.refill_files.ensures.leaves told (stands_on c.args.self.now.tree old mid same.held same.used stands) changed)

pub refill_files-requires-clause-right : goal.refill_files-requires-clause-right
refill_files-requires-clause-right g c = λ told. right_on (g.B.Blocks.shown c.args.blocks.now) (g.B.Blocks.shown c.read_files.new.blocks) c.args.self.now.tree c.in_ok-files.ensures.looks.untouched (c.requires.right told)
