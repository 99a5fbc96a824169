use Rattle.std.proofs.Common.{◌≡◌, ◌+◌, ◌++◌, ◌∷◌, [], List, cond, take}
use Rattle.std.specs.Prelude.{Some}
use Rattle.std.specs.List.{All}
use Rattle.fv_faults.specs.declared.lines.Lines.{Lines}
use Rattle.fv_faults.specs.Walks.{Step}
use Rattle.fv_walk.specs.Visits.{IsUnder}
use Rattle.fv_walk.specs.Blocks.{IsInRange}
use Rattle.fv_walk.specs.Looks.{IsAhead}
use Rattle.fv_walk.specs.Goings.{StepsTo, Tracks}
use Rattle.fv_walk.specs.Limiting.{IsLimitsOf, IsReady}
use Rattle.fv_walk.proofs.Along.{here, along}
use Rattle.fv_walk.proofs.stops.+stop_from.Given as goal

abbrev pub decreases-stop_from : goal.decreases-stop_from
decreases-stop_from g l = cond l.of_inodes 4 0 + l.visit.now.level

abbrev pub invariant-loop-slot : goal.invariant-loop-slot
invariant-loop-slot g l = record {
  limits : l.state.limits ≡ l.fn.state.limits;
  ready : IsReady l.state;
  reads : g.S.Source.reads l.fn.source l.source;
  cause : g.S.Source.faults l.source ≡ g.S.Source.faults l.fn.source;
  under : All (λ v. IsUnder l.visit v × IsInRange l.fn.state.limits v) l.visits;
  goes : g.S.Source.fits l.fn.source → IsLimitsOf (g.S.Source.volume l.fn.source) l.fn.state.limits → IsAhead (g.S.Source.volume l.fn.source) l.visit l.fn.ahead → (before : Lines) (done : List Step) → Tracks (g.S.Source.volume l.fn.source) before done l.fn.state l.fn.lines
      → StepsTo (here (g.S.Source.volume l.fn.source) l.of_inodes l.visit done) (Some l.visits);
  tracks : g.S.Source.fits l.fn.source → IsLimitsOf (g.S.Source.volume l.fn.source) l.fn.state.limits → IsAhead (g.S.Source.volume l.fn.source) l.visit l.fn.ahead → (before : Lines) (done : List Step) → Tracks (g.S.Source.volume l.fn.source) before done l.fn.state l.fn.lines
      → Tracks (g.S.Source.volume l.fn.source) before
      (along (g.S.Source.volume l.fn.source) l.of_inodes l.visit done (take l.slot l.visits) (done ++ (here (g.S.Source.volume l.fn.source) l.of_inodes l.visit done ∷ []))) l.state l.lines;
}
