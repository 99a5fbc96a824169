use Rattle.std.proofs.Common.{◌≡◌, ◌∙◌, sym, subst, rules}
use Rattle.std.specs.Prelude.{Result, Err}
use Rattle.fv_aggregate.proofs.Charges.{charges_for}
use Rattle.fv_run.specs.declared.ending.Fault.{Fault}
use Rattle.fv_run.specs.Endings.{of_opening, of_session}
use Rattle.fv_run.specs.Generating.{Generates, lines_said}
use Rattle.fv_run.proofs.Generated.{generates, not_open}
use Rattle.fv_run.proofs.Summed.{cut_open, generated_whole, point_failed}
use Rattle.fv_run.proofs.generating.run_with.Goals as goal

pub returns-in_err-session : goal.returns-in_err-session
returns-in_err-session g c =
    let failed : c.from_residual.result ≡ Err (of_opening c.in_err-session.field-0.0) = search rules in
    let opened = c.in_err-session.ensures in
    subst (λ (r : Result Unit Fault). Generates (lines_said c.args.script.now) (g.H.Disk.shown c.args.host.now) (g.H.Disk.shown c.«open».new.disk) r) (sym failed)
    (not_open (lines_said c.args.script.now) _ _ (g.met.H.Disk.laws c.args.host.now) opened.unwritten opened.at_rest _ (λ tells. (opened.fault tells).whole) (λ tells. (opened.fault tells).reason) opened.cause)

pub returns-in_err-tally : goal.returns-in_err-tally
returns-in_err-tally g c =
    let failed : c.from_residual-in_err-tally.result ≡ Err c.in_err-tally.field-0.0 = search rules in
    let opened = c.in_ok-session.ensures in
    subst (λ (r : Result Unit Fault). Generates (lines_said c.args.script.now) (g.H.Disk.shown c.args.host.now) (g.H.Disk.shown c.apply_all.new.host) r) (sym failed)
    (generates (lines_said c.args.script.now) _ _ (g.met.H.Disk.laws c.args.host.now) opened.unwritten c.in_ok-session.session _ opened.stands opened.machine opened.counts opened.loaded opened.fresh.pending opened.paths _
    (cut_open (lines_said c.args.script.now) c.in_ok-session.session _ _ _ c.in_err-tally.ensures))

pub returns-in_err-consistency_point : goal.returns-in_err-consistency_point
returns-in_err-consistency_point g c =
    let failed : c.from_residual-in_err-consistency_point.result ≡ Err (of_session c.in_err-consistency_point.field-0.0) = search rules in
    let opened = c.in_ok-session.ensures in
    let point = c.in_err-consistency_point.ensures in
    let all = c.in_ok-tally.ensures in
    subst (λ (r : Result Unit Fault). Generates (lines_said c.args.script.now) (g.H.Disk.shown c.args.host.now) (g.H.Disk.shown c.consistency_point.new.disk) r) (sym failed)
    (generates (lines_said c.args.script.now) _ _ (g.met.H.Disk.laws c.args.host.now) opened.unwritten c.in_ok-session.session _ opened.stands opened.machine opened.counts opened.loaded opened.fresh.pending opened.paths _
    (cut_open (lines_said c.args.script.now) c.in_ok-session.session _ _ _
    (point_failed (lines_said c.args.script.now) c.in_ok-session.session _ _ _ c.in_ok-tally.tally all.0 all.1 c.consistency_point.new.self _ _ point.runs.goes point.runs.goes_for point.kept)))

pub returns : goal.returns
returns g c =
    let opened = c.in_ok-session.ensures in
    let point = c.in_ok-consistency_point.ensures in
    let all = c.in_ok-tally.ensures in
    generates (lines_said c.args.script.now) _ _ (g.met.H.Disk.laws c.args.host.now) opened.unwritten c.in_ok-session.session _ opened.stands opened.machine opened.counts opened.loaded opened.fresh.pending opened.paths _
    (generated_whole (lines_said c.args.script.now) c.in_ok-session.session _ _ _ c.in_ok-tally.tally all.0 all.1 c.consistency_point.new.self _ point.runs.goes point.runs.goes_for (λ tells last m stands. (point.points.point tells last m stands).stands)
    c.charged.result (λ last m stands. c.charged.ensures.slots ∙ charges_for _ _ last m stands) _ _ c.tell_all.ensures)

pub tell_all-requires : goal.tell_all-requires
tell_all-requires g c = c.in_ok-tally.ensures.1.few
