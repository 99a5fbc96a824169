use Rattle.fv_disk.proofs.Reading.{reads_whole}
use Rattle.fv_second_pass.proofs.Volumes.{volume_is}
use Rattle.fv_third_pass.proofs.WholeVolume.{all_clean, root}
use Rattle.fv_third_pass.proofs.volume.note_own.Goals as goal

pub returns-in-Ok-clause-seen : goal.returns-in-Ok-clause-seen
returns-in-Ok-clause-seen g c = λ tells is.
    let v = c.args.volume.now in
    let fits = c.requires in
    c.in-Ok.ensures.seen (volume_is (root v fits) (g.D.Disk.shown c.args.disk.now) v.survey.now.known.now v.slot v.label.now fits.slot tells fits.range.labels (record { passed = is.walked.passed; label = is.label }))

pub returns-in-Ok-clause-adds : goal.returns-in-Ok-clause-adds
returns-in-Ok-clause-adds g c = λ tells is.
    let v = c.args.volume.now in
    let fits = c.requires in
    let disk = g.D.Disk.shown c.args.disk.now in
    c.in-Ok.ensures.adds (volume_is (root v fits) disk v.survey.now.known.now v.slot v.label.now fits.slot tells fits.range.labels (record { passed = is.walked.passed; label = is.label }))
    (all_clean v fits disk.reads (reads_whole disk (g.met.D.Disk.laws c.args.disk.now) tells) is)
