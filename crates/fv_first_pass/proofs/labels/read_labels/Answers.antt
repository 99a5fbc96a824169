use Rattle.std.proofs.Common.{◌∙◌, sym, ap}
use Rattle.fv_first_pass.specs.Heads.{labels_under}
use Rattle.fv_first_pass.proofs.Labelled.{has_labels}
use Rattle.fv_first_pass.proofs.labels.read_labels.Goals as goal

pub returns-clause-labels : goal.returns-clause-labels
returns-clause-labels g c = λ tells t root. has_labels t (g.D.Disk.shown c.args.disk.now).reads c.in_ok-labels.labels.items
    (c.in_ok-labels.ensures.value tells ∙ ap (λ r. labels_under (g.D.Disk.shown c.args.disk.now).reads r 64) (sym root))
