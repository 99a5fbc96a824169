use Rattle.fv_inode.proofs.Views.{inserted, name_total}
use Rattle.fv_inode.proofs.list.insert.Goals as goal

pub returns-in-Ok-clause-inserted : goal.returns-in-Ok-clause-inserted
returns-in-Ok-clause-inserted c =
    inserted name_total c.args.numbers.now c.insert.new.self c.args.name c.args.number c.insert.ensures.was_ordered c.insert.ensures.ordered c.in-Ok.ensures.entries
