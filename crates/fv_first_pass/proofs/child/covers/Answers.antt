use Rattle.std.proofs.Common.{◌≡◌, ◌/◌, ◌^◌, ◌∙◌, ap, arith}
use Rattle.std.specs.Prelude.{◌==◌}
use Rattle.std.specs.List.{list_any, range_with_len}
use Rattle.fv_model.specs.Space.{map_blocks}
use Rattle.fv_image.specs.Containers.{fan}
use Rattle.fv_first_pass.specs.Records.{free}
use Rattle.fv_first_pass.specs.Sites.{bare}
use Rattle.fv_first_pass.proofs.Covers.{any_to, any_first, any_step, any_last}
use Rattle.fv_first_pass.proofs.child.covers.Goals as goal

pub loop-j-init : goal.loop-j-init
loop-j-init c = record {
  any = c.meets-any.ensures
      ∙ ap (λ m. list_any (λ v. v / fan ^ c.args.level == c.args.number) (range_with_len c.args.site.now.label.span m)) c.map_blocks.ensures
      ∙ any_first (λ v. v / fan ^ c.args.level == c.args.number) c.args.site.now.label.span (map_blocks c.args.site.now.label.span) c.args.site.now.label.snapshots;
}

pub loop-j-preserved : goal.loop-j-preserved
loop-j-preserved c = record {
  any = c.either-any.ensures
      ∙ any_step (λ v. v / fan ^ c.args.level == c.args.number) c.args.site.now.label.span (map_blocks c.args.site.now.label.span) c.args.site.now.label.snapshots c.loop-j.j c.loop-j.any c.record_meets.result free
      (let long = c.requires.site.snapshots in let low = c.loop-j-test.true in omega (arith, long, low)) c.loop-j.invariant.any c.record_meets.ensures;
}

pub returns : goal.returns
returns c = c.loop-j.invariant.any ∙ ap (any_to (λ v. v / fan ^ c.args.level == c.args.number) c.args.site.now.label.span (map_blocks c.args.site.now.label.span) c.args.site.now.label.snapshots) (let past = c.loop-j-test.false in let end = c.loop-j.auto.j-end in let e : c.loop-j.j ≡ 24 = omega (arith, past, end) in e)
    ∙ any_last (bare 0) c.args.site.now.label c.args.level c.args.number c.requires.site.snapshots
