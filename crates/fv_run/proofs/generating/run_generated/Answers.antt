use Rattle.std.specs.Prelude.{Ok, Err}
use Rattle.std.proofs.Common.{refl}
use Rattle.fv_run.proofs.generating.run_generated.Goals as goal

pub returns-in-Ok : goal.returns-in-Ok
returns-in-Ok g c = record { end = Ok tt; status = refl; holds = c.in-Ok.ensures }

pub returns-in-Err : goal.returns-in-Err
returns-in-Err g c = record { end = Err c.in-Err.fault; status = c.status.ensures; holds = c.in-Err.ensures }
