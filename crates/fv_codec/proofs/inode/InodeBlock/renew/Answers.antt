use Rattle.std.proofs.Common.{ℕ, List, ap, arith, ◌∙◌, ◌++◌}
use Rattle.fv_codec.specs.Spelling.{file_bytes}
use Rattle.fv_codec.proofs.Renewed.{renewed}
use Rattle.fv_codec.proofs.inode.InodeBlock.renew.Goals as goal

pub returns : goal.returns
returns c =
    let file = c.args.file.now in
    renewed c.args.block.now c.copy_from_slice.new.self c.copy_from_slice-2.new.self c.args.index c.args.slot file c.told-block c.fits-block (omega arith) c.requires.slot c.requires.range c.requires.used
    (c.copy_from_slice.ensures.after ∙ c.spelled.ensures)
    (c.copy_from_slice-2.ensures.after ∙ c.front.ensures ∙ c.write.ensures.written ∙ ap (λ (xs : List ℕ). xs ++ file_bytes file) c.new-page.ensures.written)
