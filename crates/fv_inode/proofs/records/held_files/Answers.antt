use Rattle.std.proofs.Common.{Some, sym, subst}
use Rattle.std.specs.List.{All}
use Rattle.std.proofs.lemmas.List.Elements.{All-replicate}
use Rattle.fv_codec.specs.Blocks.{IsInodeRecord}
use Rattle.fv_tree.specs.Standing.{standing}
use Rattle.fv_inode.specs.Files.{blank_record}
use Rattle.fv_inode.proofs.Slots.{records_are, blank_fits}
use Rattle.fv_inode.proofs.Readied.{none_spelled}
use Rattle.fv_inode.proofs.records.held_files.Goals as goal

pub returns-in-Ok-clause-files : goal.returns-in-Ok-clause-files
returns-in-Ok-clause-files c = λ blocks.
    records_are (standing blocks c.args.tree.now) c.args.cell (Some c.content.new.into) c.in-Ok.files (c.content.ensures.cell blocks) c.in-Ok.ensures.files

pub returns-in-Err-clause-files : goal.returns-in-Err-clause-files
returns-in-Err-clause-files c = λ blocks.
    let damage = c.in-Err.ensures.damage in
    none_spelled (standing blocks c.args.tree.now) c.args.cell c.content.new.into damage.0 c.free_files.result (c.content.ensures.cell blocks) damage.1 c.free_files.ensures

pub returns-in-Err-clause-range : goal.returns-in-Err-clause-range
returns-in-Err-clause-range c = subst (All IsInodeRecord) (sym c.free_files.ensures) (All-replicate IsInodeRecord 16 blank_record blank_fits)
