use Rattle.std.proofs.Common.{◌≡◌, ◌+◌, ℕ, Ok, Err, arith, rules, sym, subst}
use Rattle.fv_codec.specs.declared.pointer.Pointer.{Pointer}
use Rattle.fv_tables.specs.Told.{Standing}
use Rattle.fv_tree.specs.Standing.{under}
use Rattle.fv_files.specs.Tables.{loaded_trees, table_in, IsInfoOf}
use Rattle.fv_files.specs.Calls.{way_in, GivesCell}
use Rattle.fv_files.specs.Failing.{Looks}
use Rattle.fv_files.proofs.Looked.{earlier, looks_failed, looks_inode, looks_then, over, Held}
use Rattle.std.specs.Prelude.{Some, None}
use Rattle.std.specs.FinMap as fin
use Rattle.fv_files.proofs.Right.{readable_on}
use Rattle.fv_files.proofs.files.Files.read_by_path.Goals as goal

pub read-requires-clause-there : goal.read-requires-clause-there
read-requires-clause-there g c = λ told.
    subst (λ (h : Held). IsInfoOf (over h c.args.self.now).inode c.args.info.now) (sym c.look.ensures.looks.untouched.held) (c.requires.there told)

pub returns-clause-block : goal.returns-clause-block
returns-clause-block g c = λ told.
    earlier (λ (x : Standing). GivesCell x c.args.info.now.number c.args.index c.read.new.into) c.args.self.now (g.B.Blocks.shown c.args.blocks.now) (g.B.Blocks.shown c.look.new.blocks) c.look.ensures.looks.untouched.held (c.in_ok-read.ensures.block told)

pub returns-clause-spent : goal.returns-clause-spent
returns-clause-spent g c = λ told.
    let old = g.B.Blocks.shown c.args.blocks.now in
    let mid = g.B.Blocks.shown c.look.new.blocks in
    let new = g.B.Blocks.shown c.read.new.blocks in
    let info = c.args.info.now in
    let first = c.in_ok-look.ensures.spent told in
    let second = subst (λ (h : Held). new.spent ≡ mid.spent + way_in old.cost (loaded_trees (λ v. fin.get h v) c.args.self.now (Some info.number)) c.args.index) c.look.ensures.looks.untouched.held
    (subst (λ (cost : Pointer → ℕ). new.spent ≡ mid.spent + way_in cost (loaded_trees (under mid) c.args.self.now (Some info.number)) c.args.index) c.look.ensures.looks.untouched.cost (c.in_ok-read.ensures.spent told)) in
    omega (arith, first, second)

pub returns-clause-looks : goal.returns-clause-looks
returns-clause-looks g c =
    let told = g.B.Blocks.told in
    let old = g.B.Blocks.shown c.args.blocks.now in
    let mid = g.B.Blocks.shown c.look.new.blocks in
    looks_then told c.args.self.now old mid (g.B.Blocks.shown c.read.new.blocks) c.in_ok-look.field-0 (Ok tt)
    (looks_inode told (table_in old c.args.self.now) old mid (Ok c.in_ok-look.field-0) c.in_ok-look.ensures.looks) c.in_ok-read.ensures.looks

pub returns-in_err-look-clause-looks : goal.returns-in_err-look-clause-looks
returns-in_err-look-clause-looks g c =
    let old = g.B.Blocks.shown c.args.blocks.now in
    let mid = g.B.Blocks.shown c.look.new.blocks in
    let x = table_in old c.args.self.now in
    let failed : c.from_residual.result ≡ Err c.in_err-look.field-0.0 = search rules in
    subst (Looks g.B.Blocks.told x old mid) (sym failed) (looks_failed g.B.Blocks.told x old mid c.in_err-look.field-0.0 (looks_inode g.B.Blocks.told x old mid (Err c.in_err-look.field-0.0) c.in_err-look.ensures.looks))

pub returns-in_err-read-clause-looks : goal.returns-in_err-read-clause-looks
returns-in_err-read-clause-looks g c =
    let told = g.B.Blocks.told in
    let old = g.B.Blocks.shown c.args.blocks.now in
    let mid = g.B.Blocks.shown c.look.new.blocks in
    let new = g.B.Blocks.shown c.read.new.blocks in
    let failed : c.from_residual-in_err-read.result ≡ Err c.in_err-read.field-0.0 = search rules in
    subst (Looks told (table_in old c.args.self.now) old new) (sym failed) (looks_then told c.args.self.now old mid new c.in_ok-look.field-0 (Err c.in_err-read.field-0.0)
    (looks_inode told (table_in old c.args.self.now) old mid (Ok c.in_ok-look.field-0) c.in_ok-look.ensures.looks) c.in_err-read.ensures.looks)

pub look-requires : goal.look-requires
look-requires g c = record { right = λ told. c.requires.right told None }

pub read-requires-clause-right : goal.read-requires-clause-right
read-requires-clause-right g c = λ told. readable_on (g.B.Blocks.shown c.args.blocks.now) (g.B.Blocks.shown c.look.new.blocks) c.args.self.now c.look.ensures.looks.untouched (c.requires.right told)
