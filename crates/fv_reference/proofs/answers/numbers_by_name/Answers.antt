use Rattle.std.proofs.Common.{◌≡◌, ℕ, List, map, sym, ap, ◌∙◌}
use Rattle.std.proofs.lemmas.Result.{IfOk-weaker}
use Rattle.std.specs.Cmp.{nat_cmp_total}
use Rattle.std.specs.FinMap as fin
use Rattle.fv_model.specs.Spelling.{name_cmp}
use Rattle.fv_model.specs.Tables as tables
use Rattle.fv_reference.specs.Maps.{map_of}
use Rattle.fv_reference.proofs.Views.{entries_of}
use Rattle.fv_reference.proofs.answers.numbers_by_name.Goals as goal

pub returns : goal.returns
returns c =
    let same : ◌≡◌ {A = List (ℕ × tables.File)} c.files-files.result.now.entries (fin.entries c.args.table.now.files) = sym (entries_of nat_cmp_total c.files-files.result.now.entries c.len-count.ensures.ordered) ∙ ap fin.entries c.files-files.ensures in
    IfOk-weaker c.from_entries.result (λ m. map_of name_cmp m ≡ fin.from_entries c.in_ok-listed.listed.items) _ (λ m h. h ∙ ap (λ (es : List (List ℕ × ℕ)). fin.from_entries {R = name_cmp} es) (c.in_ok-listed.ensures ∙ ap (map (λ (e : ℕ × tables.File). (e.1.name, e.0))) same)) c.from_entries.ensures
