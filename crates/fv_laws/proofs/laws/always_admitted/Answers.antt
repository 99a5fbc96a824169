use Rattle.fv_laws.proofs.Admission.{admitted, admitted_empty, admitted_after}
use Rattle.fv_laws.proofs.laws.always_admitted.Goals as goal

pub returns-clause-empty : goal.returns-clause-empty
returns-clause-empty c = admitted_empty

pub returns-clause-next : goal.returns-clause-next
returns-clause-next c = admitted

pub returns-clause-after : goal.returns-clause-after
returns-clause-after c = admitted_after
