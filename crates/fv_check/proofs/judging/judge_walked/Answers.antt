use Rattle.std.proofs.Common.{◌≡◌, [], sym, subst}
use Rattle.std.specs.Prelude.{IsTrue}
use Rattle.fv_disk.specs.Shown.{Image}
use Rattle.fv_disk.proofs.Reading.{reads_whole}
use Rattle.fv_image.specs.Layout.{root_place}
use Rattle.fv_image.specs.Held.{Layout, layout_at}
use Rattle.fv_root.specs.Finding.{root_found}
use Rattle.fv_faults.specs.Adding.{Adds}
use Rattle.fv_faults.specs.FourthPass.{fourth_pass}
use Rattle.fv_faults.specs.ThirdPass.{third_pass}
use Rattle.fv_faults.proofs.Adding.{none_added}
use Rattle.fv_first_pass.specs.declared.verdict.Verdict.TheVariants.{Valid, Faults}
use Rattle.fv_fourth_pass.specs.Silent.{IsSilentOf}
use Rattle.fv_check.proofs.Passed.{found_here, found_last, found_later, found_none, none_noted}
use Rattle.fv_check.proofs.judging.judge_walked.Goals as goal

pub returns-then-has_lines-clause-says : goal.returns-then-has_lines-clause-says
returns-then-has_lines-clause-says g c = λ tells walked.
    let x = c.args.survey.now in
    let t = root_found x.root.now in
    let y : Layout = layout_at t (g.D.Disk.shown c.args.disk.now).reads in
    found_here y.view c.args.lines c.in_ok-third.third (third_pass y) (fourth_pass (root_place t.slot) y) (c.in_ok-third.ensures.adds tells walked) c.requires.clean
    c.has_lines.ensures.ordered (c.has_lines.ensures.any.0 c.if-has_lines.true)

pub returns-then-has_lines-2-clause-says : goal.returns-then-has_lines-2-clause-says
returns-then-has_lines-2-clause-says g c = λ tells walked.
    let x = c.args.survey.now in
    let t = root_found x.root.now in
    let i : Image = (g.D.Disk.shown c.args.disk.now).reads in
    let mid = g.D.Disk.shown c.pass_three.new.disk in
    let y : Layout = layout_at t i in
    let same : mid.reads ≡ i = c.in_ok-third.ensures.read.only_reads.stays.reads in
    let tells_mid : IsTrue mid.tells = rw c.in_ok-third.ensures.read.only_reads.stays.tells tells in
    let adds = c.in_ok-third.ensures.adds tells walked in
    let none : c.in_ok-third.third.lines.keys ≡ [] = none_noted _ _ c.has_lines.ensures.any c.if-has_lines.false in
    let silent : IsSilentOf x i = record { walked = walked; third = none_added (third_pass y) c.args.lines c.in_ok-third.third adds none } in
    found_later y.view c.args.lines c.in_ok-third.third (third_pass y) (fourth_pass (root_place t.slot) y) adds none (Faults c.in_ok-fourth.fourth)
    (found_last y.view c.in_ok-third.third c.in_ok-fourth.fourth (fourth_pass (root_place t.slot) y)
    (subst (λ (j : Image). Adds (fourth_pass (root_place t.slot) (layout_at t j)) c.in_ok-third.third c.in_ok-fourth.fourth) same
    (c.in_ok-fourth.ensures.adds tells_mid (subst (IsSilentOf x) (sym same) silent)))
    none c.has_lines-2.ensures.ordered (c.has_lines-2.ensures.any.0 c.if-has_lines-2.true))

pub returns-clause-says : goal.returns-clause-says
returns-clause-says g c = λ tells walked.
    let x = c.args.survey.now in
    let t = root_found x.root.now in
    let disk = g.D.Disk.shown c.args.disk.now in
    let i : Image = disk.reads in
    let mid = g.D.Disk.shown c.pass_three.new.disk in
    let y : Layout = layout_at t i in
    let same : mid.reads ≡ i = c.in_ok-third.ensures.read.only_reads.stays.reads in
    let tells_mid : IsTrue mid.tells = rw c.in_ok-third.ensures.read.only_reads.stays.tells tells in
    let adds = c.in_ok-third.ensures.adds tells walked in
    let none : c.in_ok-third.third.lines.keys ≡ [] = none_noted _ _ c.has_lines.ensures.any c.if-has_lines.false in
    let silent : IsSilentOf x i = record { walked = walked; third = none_added (third_pass y) c.args.lines c.in_ok-third.third adds none } in
    found_later y.view c.args.lines c.in_ok-third.third (third_pass y) (fourth_pass (root_place t.slot) y) adds none (Valid c.in_ok-totals.totals.volumes c.in_ok-totals.totals.charged)
    (found_none y.view c.in_ok-third.third c.in_ok-fourth.fourth (fourth_pass (root_place t.slot) y)
    (subst (λ (j : Image). Adds (fourth_pass (root_place t.slot) (layout_at t j)) c.in_ok-third.third c.in_ok-fourth.fourth) same
    (c.in_ok-fourth.ensures.adds tells_mid (subst (IsSilentOf x) (sym same) silent)))
    (none_noted _ _ c.has_lines-2.ensures.any c.if-has_lines-2.false) _ _
    (c.in_ok-totals.ensures i (reads_whole disk (g.met.D.Disk.laws c.args.disk.now) tells) silent))
