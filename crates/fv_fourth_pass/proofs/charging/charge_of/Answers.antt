use Rattle.std.proofs.Common.{rules, ◌≡◌, Bool, List, map, ap, sym, subst, ◌∙◌}
use Rattle.std.specs.Prelude.{Option}
use Rattle.fv_image.specs.Held.{layout_at}
use Rattle.fv_image.specs.Seen.{roots_of}
use Rattle.fv_image.specs.Views.{head_of}
use Rattle.fv_third_pass.specs.Volumes.{root_of}
use Rattle.fv_fourth_pass.specs.Silent.{AreSetsOf, left_of}
use Rattle.fv_fourth_pass.specs.Used.{HasSets}
use Rattle.fv_fourth_pass.proofs.Sets.{base_fits, has_sets, roots_wide}
use Rattle.fv_fourth_pass.proofs.charging.charge_of.Goals as goal

pub returns : goal.returns
unfolding Rattle.fv_image.specs.Views.head_of
returns c = λ t i known long size is.
    let s = c.args.slot in
    let low = c.requires.slot in
    let l = c.args.label.now in
    let w = (layout_at t i).view in
    let reached = c.args.reached.now in
    let sets = c.in_ok-sets.sets in
    let are : map root_of c.deref.result.now ≡ roots_of (head_of l) = search rules in
    let own : AreSetsOf reached s l sets.held sets.base (left_of l sets.base) =
    c.in_ok-sets.ensures.are are (roots_wide t i long size known reached is.silent.walked s low l is.label) (base_fits t i long size known reached is.silent.walked s low l is.label) in
    let left = c.left_of.ensures ∙ ap (left_of l) c.base.ensures in
    c.count_charge.ensures w s (subst (λ (o : Option (List Bool)). HasSets w s (head_of l) sets.held o) (sym left)
    (has_sets t i long size known reached is.silent.walked s low l is.label sets.held sets.base (left_of l sets.base) own is.silent.third))
