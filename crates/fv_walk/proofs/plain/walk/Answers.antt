use Rattle.std.proofs.Common.{true, subst}
use Rattle.std.specs.Prelude.{OnOk, map}
use Rattle.fv_faults.specs.Met.{met}
use Rattle.fv_walk.specs.declared.visit.Visit.{Visit}
use Rattle.fv_walk.specs.Visits.{item_of, rooted}
use Rattle.fv_walk.specs.Sights.{sight_of}
use Rattle.fv_walk.specs.Meetings.{met_from}
use Rattle.fv_walk.proofs.Ranges.{root_leads}
use Rattle.fv_walk.proofs.plain.walk.Goals as goal

pub walk_from-requires-clause-leads : goal.walk_from-requires-clause-leads
walk_from-requires-clause-leads g c = root_leads (rooted c.args.table.now) c.args.label c.root.result c.root.ensures.visit

pub returns-clause-saw : goal.returns-clause-saw
unfolding met
returns-clause-saw g c = λ fits.
    subst (λ (v : Visit). OnOk c.walk_from.result (g.V.Visitor.sees c.args.visitor.now
    (map (sight_of (g.S.Source.volume c.args.source.now)) (met_from (g.S.Source.volume c.args.source.now) true (item_of v) v.block)) c.walk_from.new.visitor))
    c.root.ensures.visit (c.walk_from.ensures.saw fits)
