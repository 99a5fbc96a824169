use Rattle.std.proofs.Common.{rules, ◌≡◌, sym, subst, ◌∙◌}
use Rattle.std.specs.Prelude.{IsTrue}
use Rattle.fv_disk.specs.Shown.{Image}
use Rattle.fv_image.specs.Layout.{root_place}
use Rattle.fv_image.specs.Held.{layout_at}
use Rattle.fv_root.specs.Finding.{root_found}
use Rattle.fv_faults.specs.Adding.{Adds}
use Rattle.fv_faults.specs.ThirdPass.{map_lines}
use Rattle.fv_third_pass.specs.Counted.{IsCounted}
use Rattle.fv_third_pass.specs.Surveys.{IsSurveyOf}
use Rattle.fv_third_pass.specs.Volumes.{slots_to}
use Rattle.fv_third_pass.proofs.ThirdSlots.{pass_adds}
use Rattle.fv_third_pass.proofs.third.pass_three.Goals as goal

pub returns : goal.returns
returns g c = record {
  adds = λ tells walked.
      let x = c.args.survey.now in
      let t = root_found x.root.now in
      let disk = g.D.Disk.shown c.args.disk.now in
      let held = g.D.Disk.shown c.count_holders.new.disk in
      let mapped = g.D.Disk.shown c.note_map.new.disk in
      let first : held.reads ≡ disk.reads = c.in_ok-holders.ensures.read.only_reads.stays.reads in
      let second : mapped.reads ≡ disk.reads = c.in_ok-note_map.ensures.read.only_reads.stays.reads ∙ first in
      let tells_held : IsTrue held.tells = rw c.in_ok-holders.ensures.read.only_reads.stays.tells tells in
      let tells_mapped : IsTrue mapped.tells = rw c.in_ok-note_map.ensures.read.only_reads.stays.tells tells_held in
      let counts = c.in_ok-holders.ensures.counted tells (root_place t.slot) walked.passed.spells walked.passed.silent in
      pass_adds (layout_at t disk.reads) c.args.lines c.note_twice.new.lines c.note_map.new.lines c.in_ok-all.all
      (c.in_ok-note_twice.ensures (layout_at t disk.reads) counts)
      (subst (λ (i : Image). Adds (map_lines (layout_at t i)) c.note_twice.new.lines c.note_map.new.lines) first
      (c.in_ok-note_map.ensures.adds tells_held (subst (λ (i : Image). IsCounted (layout_at t i) c.in_ok-holders.holders) (sym first) counts)))
      (subst (λ (i : Image). Adds (slots_to (layout_at t i) 64) c.note_map.new.lines c.in_ok-all.all) second
      (c.in_ok-all.ensures.adds tells_mapped (subst (IsSurveyOf x) (sym second) walked)));
  read = search rules;
}
