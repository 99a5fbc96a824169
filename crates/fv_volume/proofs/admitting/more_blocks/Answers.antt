use Rattle.std.proofs.Common.{refl, rules}
use Rattle.fv_volume.proofs.Judged.{can_more}
use Rattle.fv_volume.proofs.admitting.more_blocks.Goals as goal

pub returns-clause-fits : goal.returns-clause-fits
returns-clause-fits c = can_more c.args.ledger.now _ c.risen.result (search rules) c.args.count c.requires.charge c.requires.need c.requires.few c.risen.ensures refl
