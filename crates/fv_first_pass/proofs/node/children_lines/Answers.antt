use Rattle.std.proofs.Common.{◌≡◌, ◌*◌, ◌++◌, ◌∙◌, take, ap, arith}
use Rattle.std.specs.Prelude.{flat_map}
use Rattle.std.specs.List.{enumerate_from, zip}
use Rattle.fv_image.specs.Containers.{fan}
use Rattle.fv_faults.specs.FirstPass.{child_lines}
use Rattle.fv_first_pass.specs.Sites.{bare}
use Rattle.fv_first_pass.proofs.Rows.{lines_step, lines_all}
use Rattle.fv_first_pass.proofs.node.children_lines.Goals as goal

pub loop-c-preserved : goal.loop-c-preserved
loop-c-preserved c = record {
  lines = lines_step (child_lines (bare c.args.site.now.blocks) c.args.site.now.label c.args.at c.args.level) (fan * c.args.number) c.loop-c.c c.args.places.now c.args.presences.now _ _ _
      (let low = c.loop-c-test.true in let long = c.told-places in omega (arith, low, long)) (let a = c.told-places in let b = c.told-presences in omega (arith, a, b)) c.loop-c.invariant.lines c.in_ok-child_lines.ensures;
}

pub returns : goal.returns
returns c = c.loop-c.invariant.lines ∙ ap (λ ls. c.args.found.now.items ++ ls)
    (ap (λ n. flat_map (child_lines (bare c.args.site.now.blocks) c.args.site.now.label c.args.at c.args.level) (enumerate_from (fan * c.args.number) (take n (zip c.args.places.now c.args.presences.now))))
    (let past = c.loop-c-test.false in let end = c.loop-c.auto.c-end in let e : c.loop-c.c ≡ 256 = omega (arith, past, end) in e)
    ∙ lines_all (child_lines (bare c.args.site.now.blocks) c.args.site.now.label c.args.at c.args.level) (fan * c.args.number) 256 c.args.places.now c.args.presences.now c.told-places c.told-presences)
