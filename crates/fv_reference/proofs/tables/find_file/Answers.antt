use Rattle.std.proofs.Common.{sym, ap, ◌∙◌, find}
use Rattle.std.specs.Cmp.{nat_cmp_total}
use Rattle.fv_model.specs.Spelling.{is_same_name}
use Rattle.fv_model.specs.Tables as tables
use Rattle.std.proofs.Common.{ℕ}
use Rattle.fv_reference.proofs.Views.{entries_of}
use Rattle.fv_reference.proofs.tables.find_file.Goals as goal

pub returns : goal.returns
returns c =
    c.find_listed.ensures ∙ sym (ap (find (λ (e : ℕ × tables.File). is_same_name e.1.name c.args.name.now)) (entries_of nat_cmp_total c.args.files.now.entries c.len-count.ensures.ordered))
