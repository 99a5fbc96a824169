use Rattle.std.proofs.Common.{rules, ◌≡◌, ◌++◌, List, flat_map, subst}
use Rattle.std.specs.Prelude.{IfOk}
use Rattle.fv_root.specs.Finding.{root_found}
use Rattle.fv_faults.specs.Adding.{Adds}
use Rattle.fv_faults.specs.Met.{IsClean}
use Rattle.fv_faults.specs.ThirdPass.{stamp_lines}
use Rattle.fv_faults.specs.Walks.{steps}
use Rattle.fv_walk.specs.declared.visit.Visit.{Visit}
use Rattle.fv_walk.specs.Visits.{rooted}
use Rattle.fv_second_pass.specs.Told.{ground_at}
use Rattle.fv_second_pass.proofs.Volumes.{volume_is}
use Rattle.fv_third_pass.specs.Surveys.{label_place}
use Rattle.fv_third_pass.specs.Twinned.{HasSeen, twin_lines}
use Rattle.fv_third_pass.specs.Volumes.{shown_one}
use Rattle.fv_third_pass.proofs.volume.walk_base.Goals as goal

pub returns-clause-adds : goal.returns-clause-adds
returns-clause-adds g c = λ tells is.
    let x = c.args.survey.now in
    let t = root_found x.root.now in
    let disk = g.D.Disk.shown c.args.disk.now in
    let place : c.from-at.result ≡ label_place x c.args.slot = search rules in
    let volume = ground_at t disk.reads c.args.slot c.args.parent.now.span in
    let r = rooted c.args.table.now in
    subst (λ at. IfOk c.judge_base.result (λ lines. (done : List Visit) → HasSeen done c.args.judge → IsClean (steps volume at r)
    → Adds (twin_lines done (shown_one volume at r) ++ flat_map (stamp_lines c.args.last) (steps volume at r)) c.args.judge.lines lines)) place
    (c.judge_base.ensures.adds (volume_is t disk x.known.now c.args.slot c.args.parent.now c.requires.slot tells c.requires.range.labels is))
