use Rattle.std.proofs.Common.{refl}
use Rattle.std.specs.Prelude.{Ok, Err}
use Rattle.fv_run.proofs.Told.{counts_told, each_status, usage_told}
use Rattle.fv_run.proofs.program.flexvol.Goals as goal

pub returns-in-Ok-clause-usage : goal.returns-in-Ok-clause-usage
returns-in-Ok-clause-usage g c = usage_told _ _ _ (Ok tt) c.in-Ok.ensures.runs

pub returns-in-Ok-clause-counts : goal.returns-in-Ok-clause-counts
returns-in-Ok-clause-counts g c = counts_told _ _ _ (Ok tt) c.in-Ok.ensures.runs

pub returns-in-Ok-clause-run : goal.returns-in-Ok-clause-run
returns-in-Ok-clause-run g c = λ is. record { end = Ok tt; status = refl; holds = c.in-Ok.ensures.runs.runs is }

pub returns-in-Ok-clause-create : goal.returns-in-Ok-clause-create
returns-in-Ok-clause-create g c = λ blocks is. record { end = Ok tt; status = refl; holds = c.in-Ok.ensures.runs.creates blocks is }

pub returns-in-Err-clause-statuses : goal.returns-in-Err-clause-statuses
returns-in-Err-clause-statuses g c = rw c.status.ensures (each_status (Err c.in-Err.fault))

pub returns-in-Err-clause-usage : goal.returns-in-Err-clause-usage
returns-in-Err-clause-usage g c = rw c.status.ensures (usage_told _ _ _ (Err c.in-Err.fault) c.in-Err.ensures.runs)

pub returns-in-Err-clause-counts : goal.returns-in-Err-clause-counts
returns-in-Err-clause-counts g c = rw c.status.ensures (counts_told _ _ _ (Err c.in-Err.fault) c.in-Err.ensures.runs)

pub returns-in-Err-clause-run : goal.returns-in-Err-clause-run
returns-in-Err-clause-run g c = λ is. record { end = Err c.in-Err.fault; status = c.status.ensures; holds = c.in-Err.ensures.runs.runs is }

pub returns-in-Err-clause-create : goal.returns-in-Err-clause-create
returns-in-Err-clause-create g c = λ blocks is. record { end = Err c.in-Err.fault; status = c.status.ensures; holds = c.in-Err.ensures.runs.creates blocks is }

pub returns-in-Ok-clause-generates : goal.returns-in-Ok-clause-generates
returns-in-Ok-clause-generates g c = λ seed count is. record { end = Ok tt; status = refl; holds = c.in-Ok.ensures.runs.generates seed count is }

pub returns-in-Err-clause-generates : goal.returns-in-Err-clause-generates
returns-in-Err-clause-generates g c = λ seed count is. record { end = Err c.in-Err.fault; status = c.status.ensures; holds = c.in-Err.ensures.runs.generates seed count is }

pub returns-in-Ok-clause-checks : goal.returns-in-Ok-clause-checks
returns-in-Ok-clause-checks g c = λ is. record { end = Ok tt; status = refl; holds = c.in-Ok.ensures.runs.checks is }

pub returns-in-Err-clause-checks : goal.returns-in-Err-clause-checks
returns-in-Err-clause-checks g c = λ is. record { end = Err c.in-Err.fault; status = c.status.ensures; holds = c.in-Err.ensures.runs.checks is }
