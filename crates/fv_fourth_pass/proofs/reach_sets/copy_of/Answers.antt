use Rattle.std.proofs.Common.{Bool, List, ap, sym, ◌∙◌}
use Rattle.std.specs.Prelude.{option_copied}
use Rattle.fv_bits.specs.Members.{is_member}
use Rattle.fv_bits.proofs.Laws.{is_member-replicate}
use Rattle.fv_fourth_pass.specs.Used.{is_out}
use Rattle.fv_fourth_pass.proofs.reach_sets.copy_of.Goals as goal

pub returns-in_ok-copy-in-None-clause-same : goal.returns-in_ok-copy-in-None-clause-same
returns-in_ok-copy-in-None-clause-same c = λ fits v.
    ap (λ (bits : List Bool). is_member bits v) c.in_ok-copy-in-None.ensures.empty ∙ is_member-replicate _ v ∙ sym (ap (λ o. is_out (option_copied o) v) c.in-None.is)
