use Rattle.std.proofs.Common.{rules}
use Rattle.fv_disk.proofs.Reading.{reads_whole}
use Rattle.fv_second_pass.proofs.Volumes.{volume_is}
use Rattle.fv_third_pass.specs.Surveys.{volume_in}
use Rattle.fv_third_pass.proofs.OneTable.{alone_added}
use Rattle.fv_third_pass.proofs.WholeVolume.{all_clean, root}
use Rattle.fv_third_pass.proofs.alone.note_alone.Goals as goal

pub returns-in-Ok : goal.returns-in-Ok
returns-in-Ok g c = record {
  adds = λ tells is.
      let v = c.args.volume.now in
      let fits = c.requires.volume in
      let disk = g.D.Disk.shown c.args.disk.now in
      let long = reads_whole disk (g.met.D.Disk.laws c.args.disk.now) tells in
      alone_added (volume_in v disk.reads) v.at v.label.now.now v.roots.now _ c.args.lines c.in-Ok.walked.lines c.requires.alone fits.few (all_clean v fits disk.reads long is)
      (c.in-Ok.ensures.adds (volume_is (root v fits) disk v.survey.now.known.now v.slot v.label.now fits.slot tells fits.range.labels (record { passed = is.walked.passed; label = is.label })));
  read = search rules;
}
