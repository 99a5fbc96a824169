use Rattle.std.proofs.Common.{◌%◌, ap, refl, ◌∙◌, arith}
use Rattle.std.proofs.lemmas.List.{get_or_default}
use Rattle.fv_tables.specs.Told.{free_record, used_record}
use Rattle.fv_tree.specs.Standing.{standing, under}
use Rattle.fv_inode.proofs.Looked.{looks_done}
use Rattle.fv_inode.proofs.Slots.{own_record}
use Rattle.fv_inode.proofs.records.read_file_held.Goals as goal

pub returns-clause-file : goal.returns-clause-file
returns-clause-file g c = λ told.
    let n = c.args.number in
    let files = c.in_ok-files.files in
    ap used_record (get_or_default files (n % 16) _ free_record (omega (arith, c.in_ok-files.ensures.long))) ∙ own_record (standing (under (g.B.Blocks.shown c.args.blocks.now)) c.args.tree.now) n files (c.in_ok-files.ensures.files told)

pub returns-clause-looks : goal.returns-clause-looks
returns-clause-looks g c =
    let old = g.B.Blocks.shown c.args.blocks.now in
    looks_done g.B.Blocks.told (standing (under old) c.args.tree.now) old (g.B.Blocks.shown c.read_files.new.blocks) c.in_ok-files.files _ c.in_ok-files.ensures.looks

pub returns-in_err-files-clause-held : goal.returns-in_err-files-clause-held
returns-in_err-files-clause-held g c = λ told holds. absurd (c.in_err-files.ensures.held told c.args.number refl holds)
