use Rattle.std.specs.Prelude.{Ok, Err}
use Rattle.fv_reference_run.proofs.Told.{tells}
use Rattle.fv_reference_run.proofs.program.reference.Goals as goal

pub returns-in-Ok-clause-counts : goal.returns-in-Ok-clause-counts
returns-in-Ok-clause-counts g c = (tells _ _ _ (Ok tt) c.in-Ok.ensures.runs).counts

pub returns-in-Ok-clause-partly : goal.returns-in-Ok-clause-partly
returns-in-Ok-clause-partly g c = (tells _ _ _ (Ok tt) c.in-Ok.ensures.runs).partly

pub returns-in-Err-clause-statuses : goal.returns-in-Err-clause-statuses
returns-in-Err-clause-statuses g c = rw c.status.ensures (tells _ _ _ (Err c.in-Err.fault) c.in-Err.ensures.runs).statuses

pub returns-in-Err-clause-usage : goal.returns-in-Err-clause-usage
returns-in-Err-clause-usage g c = rw c.status.ensures (tells _ _ _ (Err c.in-Err.fault) c.in-Err.ensures.runs).usage

pub returns-in-Err-clause-counts : goal.returns-in-Err-clause-counts
returns-in-Err-clause-counts g c = rw c.status.ensures (tells _ _ _ (Err c.in-Err.fault) c.in-Err.ensures.runs).counts

pub returns-in-Err-clause-answered : goal.returns-in-Err-clause-answered
returns-in-Err-clause-answered g c = rw c.status.ensures (tells _ _ _ (Err c.in-Err.fault) c.in-Err.ensures.runs).answered

pub returns-in-Err-clause-partly : goal.returns-in-Err-clause-partly
returns-in-Err-clause-partly g c = rw c.status.ensures (tells _ _ _ (Err c.in-Err.fault) c.in-Err.ensures.runs).partly

pub returns-in-Err-clause-disk : goal.returns-in-Err-clause-disk
returns-in-Err-clause-disk g c = (tells _ _ _ (Err c.in-Err.fault) c.in-Err.ensures.runs).disk

pub returns-in-Ok-clause-cut : goal.returns-in-Ok-clause-cut
returns-in-Ok-clause-cut g c = (tells _ _ _ (Ok tt) c.in-Ok.ensures.runs).cut

pub returns-in-Ok-clause-left : goal.returns-in-Ok-clause-left
returns-in-Ok-clause-left g c = (tells _ _ _ (Ok tt) c.in-Ok.ensures.runs).left

pub returns-in-Err-clause-printed : goal.returns-in-Err-clause-printed
returns-in-Err-clause-printed g c = rw c.status.ensures (tells _ _ _ (Err c.in-Err.fault) c.in-Err.ensures.runs).printed

pub returns-in-Err-clause-cut : goal.returns-in-Err-clause-cut
returns-in-Err-clause-cut g c = rw c.status.ensures (tells _ _ _ (Err c.in-Err.fault) c.in-Err.ensures.runs).cut

pub returns-in-Err-clause-left : goal.returns-in-Err-clause-left
returns-in-Err-clause-left g c = (tells _ _ _ (Err c.in-Err.fault) c.in-Err.ensures.runs).left
