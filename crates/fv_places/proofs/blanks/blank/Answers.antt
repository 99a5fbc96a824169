use Rattle.std.proofs.Common.{◌≡◌, true, subst}
use Rattle.std.specs.Prelude.{Option, Some}
use Rattle.fv_codec.specs.declared.form.Form.{Form}
use Rattle.fv_codec.specs.declared.form.Form.TheVariants.{Node as OfNode, Inodes as OfInodes}
use Rattle.fv_places.specs.ByKind.{form_of}
use Rattle.fv_places.specs.Changed.{is_blank}
use Rattle.fv_places.proofs.blanks.blank.Goals as goal

pub returns-in-Some-Node-clause-stays : goal.returns-in-Some-Node-clause-stays
returns-in-Some-Node-clause-stays c =
    let is : form_of c.args.kind ≡ Some OfNode = cc in
    λ blank. c.blank_node.ensures.stays (subst (λ (f : Option Form). is_blank f c.args.block.now ≡ true) is blank)

pub returns-in-Some-Inodes-clause-stays : goal.returns-in-Some-Inodes-clause-stays
returns-in-Some-Inodes-clause-stays c =
    let is : form_of c.args.kind ≡ Some OfInodes = cc in
    λ blank. c.blank_inodes.ensures.stays (subst (λ (f : Option Form). is_blank f c.args.block.now ≡ true) is blank)
