use Rattle.std.proofs.Common.{◌≡◌, ◌∙◌, Some, None, ap, arith, cond, length, refl, subst, sym, take}
use Rattle.std.specs.Prelude.{IsSome}
use Rattle.fv_model.specs.Spelling.{is_name}
use Rattle.fv_volume.proofs.Naming.{named, same_some}
use Rattle.fv_volume.proofs.label.name_in.Goals as goal

pub unwrap-requires : goal.unwrap-requires
unwrap-requires c =
    let field = c.args.field.now in
    let long : length field ≡ 64 = omega arith in
    let word = take c.args.bytes field in
    let is : c.read.result ≡ Some word = c.read.ensures ∙ ap (λ t. cond t (Some word) None) (named field c.args.bytes long c.requires.least c.requires.greatest c.requires.filled) in
    subst IsSome (sym is) refl

pub returns-clause-name : goal.returns-clause-name
returns-clause-name c =
    let field = c.args.field.now in
    let long : length field ≡ 64 = omega arith in
    let word = take c.args.bytes field in
    same_some _ _ (sym c.unwrap.ensures ∙ c.read.ensures ∙ ap (λ t. cond t (Some word) None) (named field c.args.bytes long c.requires.least c.requires.greatest c.requires.filled))

pub returns-clause-form : goal.returns-clause-form
returns-clause-form c =
    let long : length c.args.field.now ≡ 64 = omega arith in
    ap is_name (returns-clause-name c) ∙ named c.args.field.now c.args.bytes long c.requires.least c.requires.greatest c.requires.filled
