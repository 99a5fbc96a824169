use Rattle.std.proofs.Common.{◌≡◌, ◌%◌, true, sym, ap, ◌∙◌, arith}
use Rattle.std.specs.Prelude.{is_some, not, ◌==◌, IfOk}
use Rattle.std.proofs.lemmas.Result.{err_from_is_err_and}
use Rattle.std.proofs.lemmas.List.{get_or_default}
use Rattle.fv_tables.specs.Told.{free_record, used_record, file_at}
use Rattle.fv_tree.specs.Standing.{standing, under}
use Rattle.fv_tree.specs.Altering.{Leaves}
use Rattle.fv_tree.specs.Flushing.{loaded}
use Rattle.fv_tree.specs.Writing.{IsAlike}
use Rattle.fv_tree.proofs.Altered.{leaves_itself}
use Rattle.fv_inode.proofs.Looked.{earlier, later, loaded_as, loads_leaves, looks_done, looks_self, loads_none, loads_then, loads_none_failed}
use Rattle.fv_inode.proofs.Slots.{own_record}
use Rattle.fv_inode.proofs.Readied.{held_record, in_use}
use Rattle.fv_inode.proofs.Alike.{alike_itself}
use Rattle.fv_tree.proofs.Right.{right_on}
use Rattle.fv_inode.proofs.ready.ready_file.Goals as goal

pub returns-in_err-files-clause-alike : goal.returns-in_err-files-clause-alike
returns-in_err-files-clause-alike g c = λ told.
    let old = g.B.Blocks.shown c.args.blocks.now in
    later (IsAlike (standing (under old) c.args.tree.now)) c.args.tree.now old (g.B.Blocks.shown c.read_files.new.blocks) c.in_err-files.ensures.looks.untouched.held (alike_itself _)

pub returns-in_err-files-clause-loads : goal.returns-in_err-files-clause-loads
returns-in_err-files-clause-loads g c =
    let p = err_from_is_err_and c.from_residual.result c.from_residual.ensures.1 in
    rw (p.1, p.2) (loads_none_failed g.B.Blocks.told c.args.tree.now (g.B.Blocks.shown c.args.blocks.now) (g.B.Blocks.shown c.read_files.new.blocks) c.in_err-files.field-0.0 c.in_err-files.ensures.looks)

pub returns-then-files-number-eq0-clause-there : goal.returns-then-files-number-eq0-clause-there
returns-then-files-number-eq0-clause-there g c = λ told.
    let n = c.args.number in
    let files = c.in_ok-files.files in
    ap is_some (sym (own_record (standing (under (g.B.Blocks.shown c.args.blocks.now)) c.args.tree.now) n files (c.in_ok-files.ensures.files told)) ∙ ap used_record (sym (get_or_default files (n % 16) _ free_record (omega (arith, c.in_ok-files.ensures.long)))))
    ∙ in_use _ ∙ ap (λ k. not (k == 0)) c.if-files-number-eq0.true

pub returns-then-files-number-eq0-clause-alike : goal.returns-then-files-number-eq0-clause-alike
returns-then-files-number-eq0-clause-alike g c = λ told.
    let old = g.B.Blocks.shown c.args.blocks.now in
    later (IsAlike (standing (under old) c.args.tree.now)) c.args.tree.now old (g.B.Blocks.shown c.read_files.new.blocks) c.in_ok-files.ensures.looks.untouched.held (alike_itself _)

pub returns-then-files-number-eq0-clause-loads : goal.returns-then-files-number-eq0-clause-loads
returns-then-files-number-eq0-clause-loads g c =
    let old = g.B.Blocks.shown c.args.blocks.now in
    let new = g.B.Blocks.shown c.read_files.new.blocks in
    loads_none g.B.Blocks.told c.args.tree.now old new _ (looks_done g.B.Blocks.told (standing (under old) c.args.tree.now) old new c.in_ok-files.files _ c.in_ok-files.ensures.looks)

pub returns-clause-there : goal.returns-clause-there
returns-clause-there g c = λ told.
    earlier (λ v. IfOk c.hold.result (λ there. is_some (file_at v c.args.number) ≡ there)) c.args.tree.now (g.B.Blocks.shown c.args.blocks.now) (g.B.Blocks.shown c.read_files.new.blocks) c.in_ok-files.ensures.looks.untouched.held (c.hold.ensures.there told)

pub returns-clause-alike : goal.returns-clause-alike
returns-clause-alike g c = λ told.
    earlier (λ v. IsAlike v (standing (under (g.B.Blocks.shown c.hold.new.blocks)) c.hold.new.tree)) c.args.tree.now (g.B.Blocks.shown c.args.blocks.now) (g.B.Blocks.shown c.read_files.new.blocks) c.in_ok-files.ensures.looks.untouched.held (c.hold.ensures.alike told)

pub returns-clause-loads : goal.returns-clause-loads
returns-clause-loads g c =
    loads_then g.B.Blocks.told c.args.tree.now c.hold.new.tree (g.B.Blocks.shown c.args.blocks.now) (g.B.Blocks.shown c.read_files.new.blocks) (g.B.Blocks.shown c.hold.new.blocks) c.in_ok-files.files c.hold.result c.in_ok-files.ensures.looks c.hold.ensures.loads

pub returns-in_err-files-clause-leaves : goal.returns-in_err-files-clause-leaves
returns-in_err-files-clause-leaves g c = λ told. loads_leaves c.args.tree.now (g.B.Blocks.shown c.args.blocks.now) (g.B.Blocks.shown c.read_files.new.blocks) c.in_err-files.ensures.looks.untouched.held

pub returns-then-files-number-eq0-clause-leaves : goal.returns-then-files-number-eq0-clause-leaves
returns-then-files-number-eq0-clause-leaves g c = λ told. loads_leaves c.args.tree.now (g.B.Blocks.shown c.args.blocks.now) (g.B.Blocks.shown c.read_files.new.blocks) c.in_ok-files.ensures.looks.untouched.held

pub returns-clause-leaves : goal.returns-clause-leaves
returns-clause-leaves g c = λ told.
    earlier (λ v. Leaves (loaded_as c.args.tree.now v) (loaded (g.B.Blocks.shown c.hold.new.blocks) c.hold.new.tree)) c.args.tree.now (g.B.Blocks.shown c.args.blocks.now) (g.B.Blocks.shown c.read_files.new.blocks) c.in_ok-files.ensures.looks.untouched.held (c.hold.ensures.leaves told)

pub returns-then-holds_file-clause-there : goal.returns-then-holds_file-clause-there
returns-then-holds_file-clause-there g c = λ told.
    let holds = c.holds_file.ensures c.if-holds_file.true in
    ap is_some (held_record (under (g.B.Blocks.shown c.args.blocks.now)) c.args.tree.now c.args.number holds.way) ∙ holds.used

pub returns-then-holds_file-clause-alike : goal.returns-then-holds_file-clause-alike
returns-then-holds_file-clause-alike g c = λ told. alike_itself _

pub returns-then-holds_file-clause-loads : goal.returns-then-holds_file-clause-loads
returns-then-holds_file-clause-loads g c =
    let old = g.B.Blocks.shown c.args.blocks.now in
    let t = standing (under old) c.args.tree.now in
    loads_none g.B.Blocks.told c.args.tree.now old old _ (looks_done g.B.Blocks.told t old old (tt {0}) true (looks_self g.B.Blocks.told t old))

pub returns-then-holds_file-clause-leaves : goal.returns-then-holds_file-clause-leaves
returns-then-holds_file-clause-leaves g c = λ told. leaves_itself _

pub hold-requires : goal.hold-requires
hold-requires g c = record { right = λ told. right_on (g.B.Blocks.shown c.args.blocks.now) (g.B.Blocks.shown c.read_files.new.blocks) c.args.tree.now c.in_ok-files.ensures.looks.untouched (c.requires.right told) }
