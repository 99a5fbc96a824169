use Rattle.fv_walk.specs.Visits.{rooted}
use Rattle.fv_walk.proofs.Ranges.{root_is_visit}
use Rattle.fv_walk.proofs.visit.Visit.root.Goals as goal

pub returns-clause-range : goal.returns-clause-range
returns-clause-range c = root_is_visit (rooted c.args.table.now) c.args.label c.requires
