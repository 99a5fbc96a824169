use Rattle.std.proofs.Common.{cond, ap, ◌∙◌, Some, None, ℕ}
use Rattle.std.specs.Prelude.{take}
use Rattle.fv_model.specs.Spelling.{is_name}
use Rattle.fv_inode.proofs.Views.{name_told}
use Rattle.fv_inode.proofs.list.name_in.Goals as goal

pub returns : goal.returns
returns c =
    let name = c.args.file.now.name in
    c.read.ensures ∙ ap (λ (n : ℕ). cond (is_name (take n name)) (Some (take n name)) None) c.from.ensures ∙ name_told c.args.file.now c.requires.range
