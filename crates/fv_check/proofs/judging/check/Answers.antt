use Rattle.std.proofs.Common.{◌≡◌, subst}
use Rattle.std.specs.Prelude.{Err, IfOk, IsTrue}
use Rattle.fv_disk.specs.Shown.{Image}
use Rattle.fv_disk.proofs.Reading.{reads_whole}
use Rattle.fv_image.specs.Layout.{root_place}
use Rattle.fv_image.specs.Held.{layout_at}
use Rattle.fv_root.specs.declared.find.Found.{Found}
use Rattle.fv_root.specs.declared.find.RootFault.{RootFault}
use Rattle.fv_root.specs.Finding.{root_found, Finds, HasReadCause}
use Rattle.fv_faults.specs.Faults.{passes}
use Rattle.fv_check.specs.Judged.{IsJudged}
use Rattle.fv_check.proofs.Answered.{checks_after, damaged_later, found_one}
use Rattle.fv_check.proofs.Passed.{has_verdict}
use Rattle.fv_check.proofs.judging.check.Goals as goal

pub returns-in-Ok : goal.returns-in-Ok
returns-in-Ok g c =
    let old = g.D.Disk.shown c.args.disk.now in
    let mid = g.D.Disk.shown c.find_root.new.disk in
    let t = root_found c.in-Ok.root in
    let r = c.judge.result in
    let same : mid.reads ≡ old.reads = c.in-Ok.ensures.only_reads.stays.reads in
    checks_after old mid (g.D.Disk.shown c.judge.new.disk) r c.in-Ok.ensures.only_reads c.in-Ok.ensures.cause c.judge.ensures.read (λ tells.
    let tells_mid : IsTrue mid.tells = rw c.in-Ok.ensures.only_reads.stays.tells tells in
    let is = c.in-Ok.ensures.finds tells in (
      found_one old.reads c.in-Ok.root is,
      has_verdict old.reads (reads_whole old (g.met.D.Disk.laws c.args.disk.now) tells) t is.root r
          (subst (λ (j : Image). IfOk r (IsJudged (layout_at t j).view (passes (root_place t.slot) (layout_at t j)))) same (c.judge.ensures.says tells_mid)),
    ))

pub returns-in-Err-Damaged : goal.returns-in-Err-Damaged
returns-in-Err-Damaged g c =
    let old = g.D.Disk.shown c.args.disk.now in
    let mid = g.D.Disk.shown c.find_root.new.disk in
    let bad = c.in-Err-Damaged in
    let calm : mid.faults ≡ old.faults = subst (λ (e : RootFault). HasReadCause {T = Found} old.faults mid.faults (Err e)) bad.field-0-is bad.ensures.cause in
    checks_after old mid (g.D.Disk.shown c.judge_roots.new.disk) c.judge_roots.result bad.ensures.only_reads calm c.judge_roots.ensures.read (λ tells.
    damaged_later old.reads mid.reads c.judge_roots.result bad.ensures.only_reads.stays.reads bad.field-0-0 bad.field-0-1 bad.field-0-2
    (subst (λ (e : RootFault). Finds old.reads (Err e)) bad.field-0-is (bad.ensures.finds tells))
    (c.judge_roots.ensures.says (rw bad.ensures.only_reads.stays.tells tells)))
