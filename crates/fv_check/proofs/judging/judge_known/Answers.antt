use Rattle.std.proofs.Common.{◌≡◌, [], sym, subst}
use Rattle.std.specs.Prelude.{IfOk, IsTrue}
use Rattle.fv_disk.specs.Shown.{Image}
use Rattle.fv_image.specs.Layout.{root_place}
use Rattle.fv_image.specs.Held.{Layout, layout_at}
use Rattle.fv_root.specs.Finding.{root_found}
use Rattle.fv_faults.specs.FourthPass.{fourth_pass}
use Rattle.fv_faults.specs.Lines.{or_next}
use Rattle.fv_faults.specs.SecondPass.{second_pass}
use Rattle.fv_faults.specs.ThirdPass.{third_pass}
use Rattle.fv_faults.proofs.Adding.{none_added}
use Rattle.fv_third_pass.specs.Volumes.{IsWalked}
use Rattle.fv_check.specs.Judged.{IsJudged}
use Rattle.fv_check.proofs.Passed.{found_here, later_on, none_noted}
use Rattle.fv_check.proofs.judging.judge_known.Goals as goal

pub returns-then-has_lines-clause-says : goal.returns-then-has_lines-clause-says
returns-then-has_lines-clause-says g c = λ tells passed.
    let t = root_found c.args.root.now in
    let y : Layout = layout_at t (g.D.Disk.shown c.args.disk.now).reads in
    found_here y.view c.args.lines c.pass_two.new.lines (second_pass y) (or_next (third_pass y) (fourth_pass (root_place t.slot) y))
    (c.in_ok-reached.ensures.adds tells passed) c.requires.clean
    c.has_lines.ensures.ordered (c.has_lines.ensures.any.0 c.if-has_lines.true)

pub judge_walked-requires-clause-clean : goal.judge_walked-requires-clause-clean
judge_walked-requires-clause-clean g c = none_noted _ _ c.has_lines.ensures.any c.if-has_lines.false

pub returns-clause-says : goal.returns-clause-says
returns-clause-says g c = λ tells passed.
    let t = root_found c.args.root.now in
    let i : Image = (g.D.Disk.shown c.args.disk.now).reads in
    let mid = g.D.Disk.shown c.pass_two.new.disk in
    let y : Layout = layout_at t i in
    let same : mid.reads ≡ i = c.in_ok-reached.ensures.read.only_reads.stays.reads in
    let tells_mid : IsTrue mid.tells = rw c.in_ok-reached.ensures.read.only_reads.stays.tells tells in
    let adds = c.in_ok-reached.ensures.adds tells passed in
    let none : c.pass_two.new.lines.lines.keys ≡ [] = none_noted _ _ c.has_lines.ensures.any c.if-has_lines.false in
    let silent : second_pass y ≡ [] = none_added (second_pass y) c.args.lines c.pass_two.new.lines adds none in
    let walked : IsWalked t i c.args.known.now c.in_ok-reached.reached = record { passed = passed; silent = silent; reach = c.in_ok-reached.ensures.reach tells passed } in
    later_on y.view c.args.lines c.pass_two.new.lines (second_pass y) (or_next (third_pass y) (fourth_pass (root_place t.slot) y)) adds none _
    (subst (λ (j : Image). IfOk c.judge_walked.result (IsJudged (layout_at t j).view (or_next (third_pass (layout_at t j)) (fourth_pass (root_place t.slot) (layout_at t j))))) same
    (c.judge_walked.ensures.says tells_mid (subst (λ (j : Image). IsWalked t j c.args.known.now c.in_ok-reached.reached) (sym same) walked)))
