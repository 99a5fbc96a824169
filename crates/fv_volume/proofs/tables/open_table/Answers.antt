use Rattle.std.proofs.Common.{◌≡◌, sym, subst}
use Rattle.fv_files.specs.Tables.{changed}
use Rattle.fv_files.specs.Trees.{standing_in}
use Rattle.fv_volume.specs.declared.tables.TableAsked.{TableAsked}
use Rattle.fv_volume.specs.Asking.{standing_opened}
use Rattle.fv_volume.proofs.tables.open_table.Goals as goal

pub returns-in-Kept-clause-table : goal.returns-in-Kept-clause-table
returns-in-Kept-clause-table c = λ blocks.
    subst (λ (t : TableAsked). standing_in blocks (changed c.at.result) ≡ standing_opened blocks c.args.active.now c.args.files.now t) (sym c.in-Kept.is) (c.at.ensures.stored blocks)
