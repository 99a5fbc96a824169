use Rattle.std.proofs.Common.{◌∙◌, get_or, arith}
use Rattle.fv_first_pass.specs.Records.{free, is_named}
use Rattle.fv_first_pass.proofs.Snaps.{finds_first, finds_step}
use Rattle.fv_first_pass.proofs.names.first_named.Goals as goal

pub loop-k-init : goal.loop-k-init
loop-k-init c = record { first = finds_first (is_named (get_or c.args.site.now.label.snapshots c.args.j free)) c.args.site.now.label.snapshots }

pub loop-k-preserved : goal.loop-k-preserved
loop-k-preserved c = record {
  first = c.or-first.ensures ∙ finds_step (is_named (get_or c.args.site.now.label.snapshots c.args.j free)) c.args.site.now.label.snapshots c.loop-k.k c.loop-k.first c.named_by.result
      (let long = c.requires.site.snapshots in let low = c.loop-k-test.true in let most = c.requires.record in omega (arith, long, low, most)) c.loop-k.invariant.first c.named_by.ensures;
}
