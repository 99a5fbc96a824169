use Rattle.std.proofs.Common.{refl, rules}
use Rattle.fv_volume.proofs.Judged.{can_move, moves_by}
use Rattle.fv_volume.proofs.removing.moved_blocks.Goals as goal

pub returns-clause-charge : goal.returns-clause-charge
returns-clause-charge c = λ within. moves_by _ c.balance.result (search rules) c.lesser-gone.result c.args.taken.now.gone c.args.taken.now.staying (c.lesser-gone.ensures.same within) c.balance.ensures

pub returns-clause-fits : goal.returns-clause-fits
returns-clause-fits c = can_move c.args.ledger.now _ c.balance.result (search rules) c.args.taken.now.staying c.lesser-gone.result c.requires.charge c.requires.need c.requires.few.staying c.lesser-gone.ensures.within c.balance.ensures refl
