use Rattle.std.proofs.Common.{cond, ap, ◌∙◌, Some, None, ℕ, Bool}
use Rattle.std.specs.Prelude.{take}
use Rattle.fv_model.specs.Spelling.{is_name}
use Rattle.fv_walk.specs.Naming.{name_of}
use Rattle.fv_walk.proofs.RecordNames.{is_named}
use Rattle.fv_walk.proofs.names.name_in.Goals as goal

pub returns : goal.returns
returns c =
    let file = c.args.file.now in
    c.read.ensures
    ∙ ap (λ (n : ℕ). cond (is_name (take n file.name)) (Some (take n file.name)) None) c.from.ensures
    ∙ ap (λ (b : Bool). cond b (Some (name_of file)) None) (is_named file c.requires.range c.requires.used)
