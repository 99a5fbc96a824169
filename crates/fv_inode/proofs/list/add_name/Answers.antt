use Rattle.std.proofs.Common.{◌+◌, ℕ, List, [], sym, ap, ◌∙◌}
use Rattle.std.specs.Prelude.{Option, unwrap_or}
use Rattle.std.specs.FinMap as fin
use Rattle.std.proofs.lemmas.Result.{on_ok_weaker}
use Rattle.fv_tables.specs.Told.{used_record}
use Rattle.fv_inode.specs.Files.{name_of}
use Rattle.fv_inode.specs.Listing.{Numbers, names_from}
use Rattle.fv_inode.proofs.Views.{skipped, added, no_map, mapped}
use Rattle.fv_inode.proofs.list.add_name.Goals as goal

pub returns-in-None-clause-added : goal.returns-in-None-clause-added
returns-in-None-clause-added c = λ t count at was.
    was ∙ sym (skipped t c.args.number count (sym at ∙ no_map name_of (used_record c.args.file.now) c.in-None.ensures))

pub returns-in-Some-clause-added : goal.returns-in-Some-clause-added
returns-in-Some-clause-added c =
    let is = mapped name_of (used_record c.args.file.now) c.in-Some.name c.in-Some.ensures in
    on_ok_weaker c.insert.result (λ inserted t count at was.
    inserted
    ∙ ap (λ (m : Numbers). fin.insert m c.in-Some.name c.args.number) was
    ∙ ap (λ (o : Option (List ℕ)). fin.insert (names_from t (c.args.number + 1) count) (unwrap_or o []) c.args.number) is.to
    ∙ sym (added t c.args.number count is.from (sym at ∙ is.is))) c.insert.ensures.inserted
