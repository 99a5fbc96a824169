use Rattle.std.proofs.Common.{◌≤◌, Bool, List, map, drop, arith, sym, ap, subst, ◌∙◌, ℕ}
use Rattle.std.specs.Prelude.{Option, ◌||◌}
use Rattle.fv_disk.proofs.Reading.{reads_whole}
use Rattle.fv_image.specs.Views.{head_of}
use Rattle.fv_root.specs.Finding.{root_found}
use Rattle.fv_second_pass.proofs.Volumes.{volume_is}
use Rattle.fv_third_pass.specs.Surveys.{volume_in}
use Rattle.fv_third_pass.specs.Volumes.{AreClean, root_of}
use Rattle.fv_fourth_pass.specs.Based.{IsOver}
use Rattle.fv_fourth_pass.specs.Placed.{IsBased}
use Rattle.fv_fourth_pass.specs.Silent.{any_of}
use Rattle.fv_fourth_pass.specs.Used.{is_out}
use Rattle.fv_fourth_pass.proofs.Sets.{rest_wide}
use Rattle.fv_fourth_pass.proofs.Silence.{silent_asked}
use Rattle.fv_fourth_pass.proofs.volume.note_walked.Goals as goal

pub returns-in-Ok-clause-adds : goal.returns-in-Ok-clause-adds
returns-in-Ok-clause-adds g c = λ tells is.
    let v = c.args.volume.now in
    let fits = c.requires.volume in
    let x = v.survey.now in
    let t = root_found x.root.now in
    let least = fits.range.root.size.least in
    let size : 1 ≤ t.blocks = omega (arith, least) in
    let s = v.slot in
    let l = v.label.now in
    let h = head_of l in
    let sets = c.args.sets.now in
    let disk = g.D.Disk.shown c.args.disk.now in
    let volume = volume_in v disk.reads in
    let asked = silent_asked t disk.reads (reads_whole disk (g.met.D.Disk.laws c.args.disk.now) tells) size x.known.now x.reached.now s fits.slot l v.roots.now sets is in
    let words = c.row_of-row.ensures in
    c.in-Ok.ensures.adds (volume_is t disk x.known.now s l fits.slot tells fits.range.labels asked.labelled) is.roots
    (subst (λ at. AreClean volume at v.roots.now) (sym fits.place) asked.clean)
    (subst (λ (row : List ℕ). IsBased volume.view s h sets.base row) (sym words) asked.based)
    (subst (λ (row : List ℕ). IsOver volume.view s h sets.held sets.base row) (sym words) asked.over)

pub returns-in-Ok-clause-exact : goal.returns-in-Ok-clause-exact
returns-in-Ok-clause-exact g c = λ tells is.
    let v = c.args.volume.now in
    let fits = c.requires.volume in
    let x = v.survey.now in
    let t = root_found x.root.now in
    let least = fits.range.root.size.least in
    let size : 1 ≤ t.blocks = omega (arith, least) in
    let s = v.slot in
    let l = v.label.now in
    let roots = v.roots.now in
    let disk = g.D.Disk.shown c.args.disk.now in
    let long = reads_whole disk (g.met.D.Disk.laws c.args.disk.now) tells in
    let asked = silent_asked t disk.reads long size x.known.now x.reached.now s fits.slot l roots c.args.sets.now is in
    let has = c.in_ok-shared.ensures (rest_wide t disk.reads long size x.known.now x.reached.now is.silent.walked s fits.slot l is.label roots is.roots) in
    c.in-Ok.ensures.exact (volume_is t disk x.known.now s l fits.slot tells fits.range.labels asked.labelled) is.roots
    (asked.shared c.in_ok-shared.shared (λ n. has n ∙ ap (λ (o : Option (List Bool)). any_of x.reached.now s (map root_of (drop 1 roots)) n || is_out o n) c.base.ensures))
