use Rattle.std.proofs.Common.{sym, ◌∙◌}
use Rattle.fv_walk.specs.Visits.{item_of}
use Rattle.fv_walk.proofs.Seeing.{below_nowhere, below_block}
use Rattle.fv_walk.proofs.below.read_below.Goals as goal

pub returns-in_default-clause-below : goal.returns-in_default-clause-below
returns-in_default-clause-below g c = λ fits.
    below_nowhere (g.S.Source.volume c.args.source.now) (item_of c.args.visit.now) (sym c.in_default.is ∙ c.requires.found fits)

pub returns-clause-below : goal.returns-clause-below
returns-clause-below g c = λ fits.
    below_block (g.S.Source.volume c.args.source.now) (item_of c.args.visit.now) c.in-Some.found c.read.new.into c.spell.result
    (sym c.in-Some.is ∙ c.requires.found fits) (c.in_ok-read.ensures.gives fits) c.spell.ensures.below
