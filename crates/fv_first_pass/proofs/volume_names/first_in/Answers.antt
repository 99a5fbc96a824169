use Rattle.std.proofs.Common.{◌∙◌}
use Rattle.fv_image.specs.Views.{head_of}
use Rattle.fv_first_pass.specs.Heads.{is_earlier}
use Rattle.fv_first_pass.proofs.Earlier.{first_more}
use Rattle.fv_first_pass.proofs.volume_names.first_in.Goals as goal

pub loop-earlier-preserved : goal.loop-earlier-preserved
loop-earlier-preserved c = record {
  first = c.or-first.ensures ∙ first_more (is_earlier c.args.labels.now (head_of c.args.label.now)) c.loop-earlier.earlier c.loop-earlier.first c.named_in.result c.loop-earlier.invariant.first c.named_in.ensures;
}
