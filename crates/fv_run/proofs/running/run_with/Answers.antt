use Rattle.std.proofs.Common.{◌≡◌, sym, subst, rules}
use Rattle.std.specs.Prelude.{ℕ, List, OnOk, Result, Ok, Err}
use Rattle.fv_disk.specs.Shown.{Shown}
use Rattle.fv_disk.specs.HostCalls.{Rests}
use Rattle.fv_run.specs.declared.ending.Fault.{Fault}
use Rattle.fv_run.specs.Endings.{of_opening, of_session}
use Rattle.fv_run.specs.Answering.{TellsLine}
use Rattle.fv_run.specs.Running.{Ran}
use Rattle.fv_run.proofs.EndPoint.{pointed_open}
use Rattle.fv_run.proofs.LastPoint.{point_failed, ran_whole}
use Rattle.fv_run.proofs.Opening.{not_open}
use Rattle.fv_run.proofs.Ran.{ran, stopped_open}
use Rattle.fv_run.proofs.running.run_with.Goals as goal

pub returns-in_err-session : goal.returns-in_err-session
returns-in_err-session g c =
    let failed : c.from_residual.result ≡ Err (of_opening c.in_err-session.field-0.0) = search rules in
    let opened = c.in_err-session.ensures in
    subst (λ (r : Result Unit Fault). Ran c.args.limit (g.H.Disk.shown c.args.host.now) (g.H.Disk.shown c.«open».new.disk) r) (sym failed)
    (not_open c.args.limit _ _ (g.met.H.Disk.laws c.args.host.now) opened.unwritten opened.at_rest _ (λ tells. (opened.fault tells).whole) (λ tells. (opened.fault tells).reason) opened.cause)

pub returns-in_err-count : goal.returns-in_err-count
returns-in_err-count g c =
    let failed : c.from_residual-in_err-count.result ≡ Err c.in_err-count.field-0.0 = search rules in
    let opened = c.in_ok-session.ensures in
    subst (λ (r : Result Unit Fault). Ran c.args.limit (g.H.Disk.shown c.args.host.now) (g.H.Disk.shown c.answer_lines.new.host) r) (sym failed)
    (ran c.args.limit c.in_ok-session.session _ _ _ (g.met.H.Disk.laws c.args.host.now) opened.unwritten opened.stands opened.machine opened.asks opened.none opened.counts opened.loaded opened.fresh.pending opened.left opened.paths _
    (stopped_open c.args.limit c.in_ok-session.session _ _ _ c.in_err-count.ensures) (λ tells none. tt))

pub returns-in_err-consistency_point : goal.returns-in_err-consistency_point
returns-in_err-consistency_point g c =
    let failed : c.from_residual-in_err-consistency_point.result ≡ Err (of_session c.in_err-consistency_point.field-0.0) = search rules in
    let opened = c.in_ok-session.ensures in
    let point = c.in_err-consistency_point.ensures in
    subst (λ (r : Result Unit Fault). Ran c.args.limit (g.H.Disk.shown c.args.host.now) (g.H.Disk.shown c.consistency_point.new.disk) r) (sym failed)
    (ran c.args.limit c.in_ok-session.session _ _ _ (g.met.H.Disk.laws c.args.host.now) opened.unwritten opened.stands opened.machine opened.asks opened.none opened.counts opened.loaded opened.fresh.pending opened.left opened.paths _
    (point_failed c.args.limit c.in_ok-session.session _ _ _ _ c.in_ok-count.ensures c.consistency_point.new.self _ _ point.runs.goes point.runs.goes_for point.kept point.runs.damage) (λ tells none. tt))

-- what the line of `done` leaves is told where it was given
ended : {X : Type 0} {old new : Shown} {bytes : List ℕ} (result : Result Unit Fault) → (Rests old new → X) → TellsLine old bytes new result → OnOk result X
ended (Ok done) by told = by told.tells.gives.rests
ended (Err fault) by told = tt

pub returns : goal.returns
returns g c =
    let opened = c.in_ok-session.ensures in
    let point = c.in_ok-consistency_point.ensures in
    ran c.args.limit c.in_ok-session.session _ _ _ (g.met.H.Disk.laws c.args.host.now) opened.unwritten opened.stands opened.machine opened.asks opened.none opened.counts opened.loaded opened.fresh.pending opened.left opened.paths _
    (ran_whole c.args.limit c.in_ok-session.session _ _ _ _ c.in_ok-count.ensures c.consistency_point.new.self _ point.runs.goes point.runs.goes_for (λ tells last m stands. (point.points.point tells last m stands).stands) _ _ c.tell_count.ensures)
    (λ tells none. ended c.tell_count.result (λ told. pointed_open c.args.limit c.in_ok-session.session _ _ _ _ c.in_ok-count.ensures (g.met.H.Disk.laws c.answer_lines.new.host) c.consistency_point.new.self _ point.runs.goes point.points point.left point.shown _ told tells none) c.tell_count.ensures)
