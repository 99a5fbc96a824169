use Rattle.std.proofs.Common.{◌∙◌, sym, ap, subst}
use Rattle.std.specs.List.{All}
use Rattle.fv_codec.specs.Blocks.{all_free, IsInodeRecord}
use Rattle.fv_tree.proofs.BlankedRoots.{records_fit, same_free}
use Rattle.fv_tree.proofs.roots.blank_block.Goals as goal

pub encode-requires : goal.encode-requires
encode-requires c =
    let files = c.in-Ok.inodes.files in
    let range = c.in-Ok.ensures.in_range in record {
      files = subst (All IsInodeRecord) (sym c.blank_files.ensures) (records_fit files range.files);
      some = ap all_free c.blank_files.ensures ∙ same_free files ∙ range.some;
    }
