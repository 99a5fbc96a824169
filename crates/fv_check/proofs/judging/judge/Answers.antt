use Rattle.std.proofs.Common.{◌≡◌, [], sym, subst}
use Rattle.std.specs.Prelude.{IfOk, IsTrue}
use Rattle.fv_disk.specs.Shown.{Image}
use Rattle.fv_image.specs.Layout.{root_place}
use Rattle.fv_image.specs.Held.{Layout, layout_at}
use Rattle.fv_root.specs.Finding.{root_found}
use Rattle.fv_faults.specs.FirstPass.{first_pass}
use Rattle.fv_faults.specs.FourthPass.{fourth_pass}
use Rattle.fv_faults.specs.Lines.{or_next}
use Rattle.fv_faults.specs.SecondPass.{second_pass}
use Rattle.fv_faults.specs.ThirdPass.{third_pass}
use Rattle.fv_faults.proofs.Adding.{none_added}
use Rattle.fv_second_pass.specs.Told.{IsPassed}
use Rattle.fv_check.specs.Judged.{IsJudged}
use Rattle.fv_check.proofs.Passed.{found_here, later_on, none_noted}
use Rattle.fv_check.proofs.judging.judge.Goals as goal

pub returns-then-has_lines-clause-says : goal.returns-then-has_lines-clause-says
unfolding Rattle.fv_faults.specs.Faults.passes
returns-then-has_lines-clause-says g c = λ tells.
    let t = root_found c.args.root.now in
    let y : Layout = layout_at t (g.D.Disk.shown c.args.disk.now).reads in
    found_here y.view c.new-first.result c.pass_one.new.lines (first_pass (root_place t.slot) y) (or_next (second_pass y) (or_next (third_pass y) (fourth_pass (root_place t.slot) y)))
    (c.in_ok-known.ensures.adds tells) c.new-first.ensures.empty
    c.has_lines.ensures.ordered (c.has_lines.ensures.any.0 c.if-has_lines.true)

pub judge_read-requires : goal.judge_read-requires
judge_read-requires g c = record { size = c.requires; is_known = record { labels = c.in_ok-known.ensures.range }; clean = none_noted _ _ c.has_lines.ensures.any c.if-has_lines.false }

pub returns-clause-says : goal.returns-clause-says
unfolding Rattle.fv_faults.specs.Faults.passes
returns-clause-says g c = λ tells.
    let t = root_found c.args.root.now in
    let i : Image = (g.D.Disk.shown c.args.disk.now).reads in
    let mid = g.D.Disk.shown c.pass_one.new.disk in
    let y : Layout = layout_at t i in
    let same : mid.reads ≡ i = c.in_ok-known.ensures.read.only_reads.stays.reads in
    let tells_mid : IsTrue mid.tells = rw c.in_ok-known.ensures.read.only_reads.stays.tells tells in
    let adds = c.in_ok-known.ensures.adds tells in
    let none : c.pass_one.new.lines.lines.keys ≡ [] = none_noted _ _ c.has_lines.ensures.any c.if-has_lines.false in
    let silent : first_pass (root_place t.slot) y ≡ [] = none_added (first_pass (root_place t.slot) y) c.new-first.result c.pass_one.new.lines adds none in
    let passed : IsPassed t i c.in_ok-known.known = record { silent = silent; spells = c.in_ok-known.ensures.spells tells silent } in
    later_on y.view c.new-first.result c.pass_one.new.lines (first_pass (root_place t.slot) y) (or_next (second_pass y) (or_next (third_pass y) (fourth_pass (root_place t.slot) y))) adds none _
    (subst (λ (j : Image). IfOk c.judge_read.result (IsJudged (layout_at t j).view (or_next (second_pass (layout_at t j)) (or_next (third_pass (layout_at t j)) (fourth_pass (root_place t.slot) (layout_at t j)))))) same
    (c.judge_read.ensures.says tells_mid (subst (λ (j : Image). IsPassed t j c.in_ok-known.known) (sym same) passed)))
