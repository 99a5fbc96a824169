use Rattle.std.proofs.Common.{◌++◌, ℕ, List, flat_map, sym, ap, ◌∙◌}
use Rattle.std.specs.Cmp.{nat_cmp_total}
use Rattle.fv_model.specs.Tables as tables
use Rattle.fv_model.specs.Places.{OfFile, tree_entries}
use Rattle.fv_reference.proofs.Views.{entries_of}
use Rattle.std.proofs.lemmas.Result.{on_ok_weaker}
use Rattle.fv_reference.proofs.places.list_files.Goals as goal

pub returns : goal.returns
returns c = on_ok_weaker c.list_all.result (λ h. h ∙ sym (ap (λ (es : List (ℕ × tables.File)). c.args.entries.now.items ++ flat_map (λ e. tree_entries (OfFile e.0) e.1.tree) es) (entries_of nat_cmp_total c.args.files.now.entries c.len-count.ensures.ordered))) c.list_all.ensures
