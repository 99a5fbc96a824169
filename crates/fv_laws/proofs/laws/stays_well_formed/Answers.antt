use Rattle.fv_laws.specs.WellFormed.{IsWell}
use Rattle.fv_laws.proofs.Changes.{along}
use Rattle.fv_laws.proofs.WellFormed.{well_empty, well_next}
use Rattle.fv_laws.proofs.laws.stays_well_formed.Goals as goal

pub returns-clause-empty : goal.returns-clause-empty
returns-clause-empty c = well_empty

pub returns-clause-next : goal.returns-clause-next
returns-clause-next c = well_next

pub returns-clause-after : goal.returns-clause-after
returns-clause-after c = along IsWell well_next
