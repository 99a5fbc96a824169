use Rattle.std.proofs.Common.{true, sym, subst}
use Rattle.fv_faults.specs.Walks.{name_lines}
use Rattle.fv_walk.specs.declared.below.Below.{Below}
use Rattle.fv_walk.specs.Visits.{item_of}
use Rattle.fv_walk.specs.Noting.{AddsAll}
use Rattle.fv_walk.specs.Blocks.{files_at}
use Rattle.fv_walk.proofs.Naming.{nothing_says}
use Rattle.fv_walk.proofs.block.note_names.Goals as goal

pub returns-in-Nothing-clause-lines : goal.returns-in-Nothing-clause-lines
returns-in-Nothing-clause-lines c = λ met is.
    subst (λ (w : Below). AddsAll (name_lines c.args.block met (files_at (item_of c.args.visit.now) w)) c.args.lines.now c.args.lines.now true) (sym c.in-Nothing.is) (nothing_says c.args.block met c.args.lines.now)

pub returns-in-Node-clause-lines : goal.returns-in-Node-clause-lines
returns-in-Node-clause-lines c = λ met is.
    subst (λ (w : Below). AddsAll (name_lines c.args.block met (files_at (item_of c.args.visit.now) w)) c.args.lines.now c.args.lines.now true) (sym c.in-Node.is) (nothing_says c.args.block met c.args.lines.now)
