use Rattle.std.proofs.Common.{[], sym, ap, subst, ◌∙◌}
use Rattle.fv_faults.specs.Walks.{Ground}
use Rattle.fv_walk.specs.declared.limits.Limits.{Limits}
use Rattle.fv_walk.specs.Limiting.{IsLimitsOf}
use Rattle.fv_walk.specs.Visits.{rooted}
use Rattle.fv_walk.proofs.Ranges.{root_leads}
use Rattle.fv_walk.proofs.Starting.{root_range, tracks_none, tracks_root}
use Rattle.fv_walk.proofs.stops.walk_with_stops.Goals as goal

pub stop_from-requires-clause-leads : goal.stop_from-requires-clause-leads
stop_from-requires-clause-leads g c = root_leads (rooted c.args.table.now) c.args.label c.root-root.result c.root-root.ensures.visit

pub stop_from-requires-clause-range : goal.stop_from-requires-clause-range
stop_from-requires-clause-range g c =
    root_range c.args.limits.now c.in_ok-state.state.limits (rooted c.args.table.now) c.args.label c.root-root.result c.root-root.ensures.visit c.in_ok-state.ensures.limits c.requires.root

pub returns-clause-lines : goal.returns-clause-lines
returns-clause-lines g c = λ fits of.
    let volume : Ground = g.S.Source.volume c.args.source.now in
    (tracks_root volume c.args.label (rooted c.args.table.now) c.root-root.result c.args.lines.now c.stop_from.new.state c.stop_from.new.lines c.root-root.ensures.visit
    (c.in_ok-stop_from.ensures.tracks fits (subst (IsLimitsOf volume) (sym c.in_ok-state.ensures.limits) of) (λ x is. tt) c.args.lines.now []
    (tracks_none volume c.args.lines.now c.in_ok-state.state c.args.limits.now.span c.in_ok-state.ensures.reach c.in_ok-state.ensures.names))).lines

pub returns-clause-reach : goal.returns-clause-reach
returns-clause-reach g c = λ fits of.
    let volume : Ground = g.S.Source.volume c.args.source.now in
    (tracks_root volume c.args.label (rooted c.args.table.now) c.root-root.result c.args.lines.now c.stop_from.new.state c.stop_from.new.lines c.root-root.ensures.visit
    (c.in_ok-stop_from.ensures.tracks fits (subst (IsLimitsOf volume) (sym c.in_ok-state.ensures.limits) of) (λ x is. tt) c.args.lines.now []
    (tracks_none volume c.args.lines.now c.in_ok-state.state c.args.limits.now.span c.in_ok-state.ensures.reach c.in_ok-state.ensures.names))).reach

pub returns-clause-size : goal.returns-clause-size
returns-clause-size g c = c.in_ok-stop_from.ensures.ready.bits ∙ ap (λ (l : Limits). l.span) (c.in_ok-stop_from.ensures.limits ∙ c.in_ok-state.ensures.limits)
