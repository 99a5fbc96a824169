use Rattle.std.proofs.Common.{◌++◌, true, List, flat_map}
use Rattle.fv_faults.specs.declared.fault.Fault.{Fault}
use Rattle.fv_faults.specs.ThirdPass.{length_lines, level_lines}
use Rattle.fv_faults.specs.Walks.{Ground, Step, met_in, steps}
use Rattle.fv_faults.proofs.Adding.{adds_then}
use Rattle.fv_walk.specs.Visits.{rooted}
use Rattle.fv_third_pass.specs.Judged.{judged_lines}
use Rattle.fv_third_pass.proofs.Cells.{lengths_added}
use Rattle.fv_third_pass.proofs.Noting.{taken}
use Rattle.fv_third_pass.proofs.tables.note_table.Goals as goal

pub returns-clause-adds : goal.returns-clause-adds
unfolding Rattle.fv_third_pass.specs.Volumes.own_table
returns-clause-adds g c = λ fits clean.
    let volume : Ground = g.S.Source.volume c.args.source.now in
    let label = c.args.label in
    let r = rooted c.args.table.now in
    let ss : List Step = steps volume label r in
    let long : List Fault = flat_map (length_lines (flat_map met_in ss)) ss in
    let levels : List Fault = level_lines label 0 r.levels r.root in
    let fresh = c.new.result in
    let judge = c.in_ok-walked.walked.visitor.first in
    let judged = c.in_ok-walked.walked.lines in
    let noted = lengths_added volume label r clean c.requires fresh.records fresh.lines judge.lines (c.in_ok-walked.ensures.saw fits).0.adds in
    adds_then (judged_lines true c.args.last ss) (long ++ levels) c.args.lines judged c.note_table_levels.new.lines (c.in_ok-walked.ensures.adds fits clean)
    (adds_then long levels judged c.join_lines.new.lines c.note_table_levels.new.lines
    (taken long fresh.lines judge.lines judged c.join_lines.new.lines c.new.ensures noted c.in_ok-join_lines.ensures)
    c.in_ok-note_table_levels.ensures)

pub returns-clause-saw : goal.returns-clause-saw
returns-clause-saw g c = λ fits. (c.in_ok-walked.ensures.saw fits).1
