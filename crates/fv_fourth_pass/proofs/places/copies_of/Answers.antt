use Rattle.std.proofs.Common.{Bool, List, ap, sym, ◌∙◌}
use Rattle.std.specs.Prelude.{option_copied}
use Rattle.fv_bits.specs.Members.{is_member}
use Rattle.fv_bits.proofs.Laws.{is_member-replicate}
use Rattle.fv_fourth_pass.specs.Placed.{is_copy_in}
use Rattle.fv_fourth_pass.proofs.places.copies_of.Goals as goal

pub returns-in_ok-copies-in-None : goal.returns-in_ok-copies-in-None
returns-in_ok-copies-in-None c = λ v. ap (λ (bits : List Bool). is_member bits v) c.in_ok-copies-in-None.ensures.empty ∙ is_member-replicate 0 v ∙ sym (ap (λ o. is_copy_in (option_copied o) c.args.row.now v) c.in-None.is)
