use Rattle.std.proofs.Common.{◌∙◌, ap}
use Rattle.fv_run.specs.Generating.{lines_said}
use Rattle.fv_run.proofs.Drawn.{all_said, few_commands}
use Rattle.fv_run.proofs.Generated.{renamed}
use Rattle.fv_run.proofs.generating.generate.Goals as goal

pub run_with-requires-clause-few : goal.run_with-requires-clause-few
run_with-requires-clause-few g c = few_commands c.args.seed c.args.count c.new-script.result c.new-script.ensures c.ranges.count.fits

pub returns : goal.returns
returns g c = renamed _ _ _ _ _ (ap lines_said c.new-script.ensures ∙ all_said c.args.seed c.args.count) c.run_with.ensures
