use Rattle.std.proofs.Common.{rules, ◌≡◌, arith, sym, subst, ◌∙◌}
use Rattle.std.specs.Prelude.{IsTrue, ◌==◌}
use Rattle.std.proofs.lemmas.Bool.{and_parts}
use Rattle.std.proofs.lemmas.Bool.Decides.{nat_tests}
use Rattle.fv_disk.specs.Shown.{Image}
use Rattle.fv_disk.proofs.Reading.{reads_whole}
use Rattle.fv_faults.specs.Adding.{Adds}
use Rattle.fv_third_pass.specs.declared.survey.VolumeSurvey.{VolumeSurvey}
use Rattle.fv_third_pass.specs.Surveys.{IsVolumeOf, IsVolumeSurvey, base_said_in, tables_said, visits_in}
use Rattle.fv_third_pass.specs.Twinned.{HasSeen}
use Rattle.fv_third_pass.proofs.WholeVolume.{alone_volume_added, volume_added}
use Rattle.fv_third_pass.proofs.third.note_volume.Goals as goal

pub note_alone-requires-clause-alone : goal.note_alone-requires-clause-alone
note_alone-requires-clause-alone g c =
    let test = (and_parts (c.args.label.now.parent == 0) _ (sym c.is_alone.ensures ∙ c.if-is_alone.true)).1 in
    grind (arith, nat_tests, test)

pub returns-then-is_alone : goal.returns-then-is_alone
returns-then-is_alone g c = record {
  adds = λ tells is.
      let v : VolumeSurvey = record { survey = c.args.survey; slot = c.args.slot; label = c.args.label; at = c.from-2.result; roots = c.as_slice.result } in
      let fits : IsVolumeSurvey v = record { range = c.requires.range; slot = c.requires.slot; label = c.requires.label; long = c.requires.long; place = search rules; roots = search rules; few = search rules } in
      let disk = g.D.Disk.shown c.args.disk.now in
      let mid = g.D.Disk.shown c.note_maps.new.disk in
      let mapped = c.in_ok-noted.noted in
      let alone = c.in_ok-alone.alone in
      let first : mid.reads ≡ disk.reads = c.in_ok-noted.ensures.read.only_reads.stays.reads in
      let tells_mid : IsTrue mid.tells = rw c.in_ok-noted.ensures.read.only_reads.stays.tells tells in
      let test = and_parts (v.label.now.parent == 0) _ (sym c.is_alone.ensures ∙ c.if-is_alone.true) in
      let none : v.label.now.parent ≡ 0 = let so = test.0 in grind (arith, nat_tests, so) in
      alone_volume_added v fits disk.reads (reads_whole disk (g.met.D.Disk.laws c.args.disk.now) tells) is none c.args.lines mapped alone
      (c.in_ok-noted.ensures.adds tells is)
      (subst (λ (i : Image). Adds (tables_said v i) mapped alone) first
      (c.in_ok-alone.ensures.adds tells_mid (subst (IsVolumeOf v) (sym first) is)));
  read = search rules;
}

pub returns : goal.returns
returns g c = record {
  adds = λ tells is.
      let v : VolumeSurvey = record { survey = c.args.survey; slot = c.args.slot; label = c.args.label; at = c.from-2.result; roots = c.as_slice.result } in
      let fits : IsVolumeSurvey v = record { range = c.requires.range; slot = c.requires.slot; label = c.requires.label; long = c.requires.long; place = search rules; roots = search rules; few = search rules } in
      let disk = g.D.Disk.shown c.args.disk.now in
      let mid = g.D.Disk.shown c.note_maps.new.disk in
      let late = g.D.Disk.shown c.note_own.new.disk in
      let mapped = c.in_ok-noted.noted in
      let judge = c.in_ok-judge.judge in
      let all = c.in_ok-all.all in
      let first : mid.reads ≡ disk.reads = c.in_ok-noted.ensures.read.only_reads.stays.reads in
      let second : late.reads ≡ disk.reads = c.in_ok-judge.ensures.read.only_reads.stays.reads ∙ first in
      let tells_mid : IsTrue mid.tells = rw c.in_ok-noted.ensures.read.only_reads.stays.tells tells in
      let tells_late : IsTrue late.tells = rw c.in_ok-judge.ensures.read.only_reads.stays.tells tells_mid in
      let is_mid = subst (IsVolumeOf v) (sym first) is in
      let has : HasSeen (visits_in v disk.reads) judge = subst (λ (i : Image). HasSeen (visits_in v i) judge) first (c.in_ok-judge.ensures.seen tells_mid is_mid) in
      volume_added v fits disk.reads (reads_whole disk (g.met.D.Disk.laws c.args.disk.now) tells) is c.args.lines mapped judge.lines all
      (c.in_ok-noted.ensures.adds tells is)
      (subst (λ (i : Image). Adds (tables_said v i) mapped judge.lines) first (c.in_ok-judge.ensures.adds tells_mid is_mid))
      (subst (λ (i : Image). Adds (base_said_in v i (visits_in v disk.reads)) judge.lines all) second
      (c.in_ok-all.ensures.adds tells_late (visits_in v disk.reads) has (subst (IsVolumeOf v) (sym second) is)));
  read = search rules;
}
