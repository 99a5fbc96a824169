use Rattle.std.proofs.Common.{rules, ◌≡◌, ◌≤◌, get_or, ◌∙◌, arith}
use Rattle.std.specs.Prelude.{Some, None}
use Rattle.fv_image.specs.Views.{head_of}
use Rattle.fv_root.specs.Finding.{root_found}
use Rattle.fv_second_pass.proofs.Volumes.{head_is, head_there}
use Rattle.fv_third_pass.specs.Counted.{label_of}
use Rattle.fv_third_pass.specs.Surveys.{layout_of}
use Rattle.fv_third_pass.proofs.ThirdSlots.{label_known, no_head}
use Rattle.fv_check.proofs.Counting.{none_counted, none_few, some_counted}
use Rattle.fv_check.proofs.totals.add_slot.Goals as goal

pub returns-in_default-clause-few : goal.returns-in_default-clause-few
returns-in_default-clause-few c = none_few c.args.slot c.args.totals.now c.requires.few

pub returns-in_default-clause-exact : goal.returns-in_default-clause-exact
returns-in_default-clause-exact c = λ i long silent are.
    let x = c.args.survey.now in
    let s = c.args.slot in
    let none : label_of (get_or x.known.now.labels.items s None) ≡ None = search rules in
    none_counted (layout_of x i).view s c.args.totals.now
    (head_is (root_found x.root.now) i x.known.now silent.walked.passed s c.requires.slot ∙ no_head (get_or x.known.now.labels.items s None) none) are

pub returns-clause-exact : goal.returns-clause-exact
returns-clause-exact c = λ i long silent are.
    let x = c.args.survey.now in
    let t = root_found x.root.now in
    let s = c.args.slot in
    let l = c.in-Some.label.now in
    let read : label_of (get_or x.known.now.labels.items s None) ≡ Some l = search rules in
    let is = label_known (get_or x.known.now.labels.items s None) l read in
    let least = c.requires.range.root.size.least in
    let size : 1 ≤ t.blocks = omega (arith, least) in
    let charge = c.in_ok-charge.ensures t i x.known.now long size (record { silent = silent; label = is }) in
    some_counted (layout_of x i).view s c.args.totals.now (head_of l) _ (head_there t i x.known.now silent.walked.passed s c.requires.slot l is)
    (omega arith) (let from = c.from.ensures in omega (arith, from, charge)) are
