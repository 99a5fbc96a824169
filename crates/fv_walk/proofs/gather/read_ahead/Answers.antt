use Rattle.std.proofs.Common.{sym, ◌∙◌}
use Rattle.fv_walk.specs.Visits.{item_of}
use Rattle.fv_walk.proofs.Seeing.{found_is}
use Rattle.fv_walk.proofs.gather.read_ahead.Goals as goal

pub returns-clause-block : goal.returns-clause-block
returns-clause-block g c = λ fits x is.
    c.in_ok-item.ensures.block fits x is
    (found_is (g.S.Source.volume c.args.source.now) (item_of c.args.visit.now) c.in-Some.found x (sym c.in-Some.is ∙ c.find.ensures fits) is)
