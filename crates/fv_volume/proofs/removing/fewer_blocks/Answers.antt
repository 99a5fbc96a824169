use Rattle.std.proofs.Common.{refl, rules}
use Rattle.fv_volume.proofs.Judged.{can_fewer, falls_by, is_fall}
use Rattle.fv_volume.proofs.removing.fewer_blocks.Goals as goal

pub returns-clause-charge : goal.returns-clause-charge
returns-clause-charge c = λ within. falls_by _ c.fallen.result (search rules) c.lesser-taken.result c.args.count (c.lesser-taken.ensures.same within) c.fallen.ensures

pub returns-clause-less : goal.returns-clause-less
returns-clause-less c = is_fall _ c.fallen.result (search rules) c.lesser-taken.result c.fallen.ensures

pub returns-clause-fits : goal.returns-clause-fits
returns-clause-fits c = can_fewer c.args.ledger.now _ c.fallen.result (search rules) c.lesser-taken.result c.requires.charge c.requires.need c.lesser-taken.ensures.within c.fallen.ensures refl
