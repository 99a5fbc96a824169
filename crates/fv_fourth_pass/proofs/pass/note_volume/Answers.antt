use Rattle.std.proofs.Common.{rules, ◌≤◌, ◌≡◌, ◌++◌, ℕ, List, map, arith, sym, subst}
use Rattle.std.specs.Prelude.{IsTrue}
use Rattle.fv_disk.specs.Shown.{Image}
use Rattle.fv_disk.proofs.Reading.{reads_whole}
use Rattle.fv_image.specs.Held.{layout_at}
use Rattle.fv_image.specs.Seen.{roots_of}
use Rattle.fv_image.specs.Views.{head_of}
use Rattle.fv_root.specs.Finding.{root_found}
use Rattle.fv_faults.specs.Adding.{Adds}
use Rattle.fv_faults.specs.FourthPass.{place_lines, use_lines}
use Rattle.fv_faults.specs.SecondPass.{ground}
use Rattle.fv_third_pass.specs.Surveys.{label_place, layout_of}
use Rattle.fv_third_pass.specs.Volumes.{root_of}
use Rattle.fv_fourth_pass.specs.Filled.{HasFilled}
use Rattle.fv_fourth_pass.specs.Noted.{hinted_roots}
use Rattle.fv_fourth_pass.specs.Silent.{AreSetsOf, IsSilentAt, left_of}
use Rattle.fv_fourth_pass.specs.Summed.{IsSpace}
use Rattle.fv_fourth_pass.proofs.Sets.{base_fits, has_filled, has_sets, roots_wide}
use Rattle.fv_fourth_pass.proofs.Slots.{volume_added}
use Rattle.fv_fourth_pass.proofs.pass.note_volume.Given as given
use Rattle.fv_fourth_pass.proofs.pass.note_volume.Goals as goal
use Rattle.fv_fourth_pass.proofs.pass.note_volume.Goals.{After-drop-owned-2}

-- the sets are those of the volume
sets_are : (g : given.Over) (c : After-drop-owned-2 g) → IsTrue (g.D.Disk.shown c.args.disk.now).tells
    → IsSilentAt c.args.survey.now (g.D.Disk.shown c.args.disk.now).reads c.args.slot c.args.label.now
    → AreSetsOf c.args.survey.now.reached.now c.args.slot c.args.label.now c.in_ok-sets.sets.held c.in_ok-sets.sets.base (left_of c.args.label.now c.in_ok-sets.sets.base)
unfolding Rattle.fv_image.specs.Views.head_of
sets_are g c tells is =
    let x = c.args.survey.now in
    let t = root_found x.root.now in
    let disk = g.D.Disk.shown c.args.disk.now in
    let long = reads_whole disk (g.met.D.Disk.laws c.args.disk.now) tells in
    let least = c.requires.range.root.size.least in
    let size : 1 ≤ t.blocks = omega (arith, least) in
    let are : map root_of c.as_slice.result.now ≡ roots_of (head_of c.args.label.now) = search rules in
    c.in_ok-sets.ensures.are are
    (roots_wide t disk.reads long size x.known.now x.reached.now is.silent.walked c.args.slot c.requires.slot c.args.label.now is.label)
    (base_fits t disk.reads long size x.known.now x.reached.now is.silent.walked c.args.slot c.requires.slot c.args.label.now is.label)

-- what it takes
space_is : (g : given.Over) (c : After-drop-owned-2 g) → IsTrue (g.D.Disk.shown c.args.disk.now).tells
    → IsSilentAt c.args.survey.now (g.D.Disk.shown c.args.disk.now).reads c.args.slot c.args.label.now
    → IsSpace (layout_of c.args.survey.now (g.D.Disk.shown c.args.disk.now).reads).view c.args.slot (head_of c.args.label.now) c.count_space-space.result
unfolding Rattle.fv_image.specs.Views.head_of
space_is g c tells is =
    let x = c.args.survey.now in
    let t = root_found x.root.now in
    let disk = g.D.Disk.shown c.args.disk.now in
    let i = disk.reads in
    let long = reads_whole disk (g.met.D.Disk.laws c.args.disk.now) tells in
    let least = c.requires.range.root.size.least in
    let size : 1 ≤ t.blocks = omega (arith, least) in
    let s = c.args.slot in
    let low = c.requires.slot in
    let l = c.args.label.now in
    let w = (layout_at t i).view in
    let h = head_of l in
    let sets = c.in_ok-sets.sets in
    let own = sets_are g c tells is in
    let roots : map root_of c.as_slice.result.now ≡ roots_of h = search rules in
    c.count_space-space.ensures.exact w s
    (has_sets t i long size x.known.now x.reached.now is.silent.walked s low l is.label sets.held sets.base (left_of l sets.base) own is.silent.third)
    (subst (λ (row : List ℕ). HasFilled w s h sets.held row) (sym c.row_of.ensures)
    (has_filled t i long size x.known.now x.reached.now is.silent.walked s low l is.label sets.held sets.base (left_of l sets.base) own is.silent.third))
    (c.in_ok-walked.ensures.exact tells (record { silent = is.silent; label = is.label; roots = roots; sets = own }))

pub returns-clause-space : goal.returns-clause-space
returns-clause-space g c = λ tells is. space_is g c tells is

pub returns-clause-adds : goal.returns-clause-adds
unfolding Rattle.fv_image.specs.Views.head_of
returns-clause-adds g c = λ tells is.
    let x = c.args.survey.now in
    let t = root_found x.root.now in
    let i : Image = (g.D.Disk.shown c.args.disk.now).reads in
    let s = c.args.slot in
    let l = c.args.label.now in
    let w = (layout_at t i).view in
    let h = head_of l in
    let at = label_place x s in
    let sets = c.in_ok-sets.sets in
    let rs = c.as_slice.result.now in
    let noted = c.in_ok-walked.walked.lines in
    let new = c.note_use.new.lines in
    let roots : map root_of rs ≡ roots_of h = search rules in
    let place : c.from-2.result ≡ at = search rules in
    volume_added w s at h rs roots c.args.lines noted new
    (subst (λ n. Adds (hinted_roots (ground w s h) n rs ++ place_lines w s n h) c.args.lines noted) place
    (c.in_ok-walked.ensures.adds tells (record { silent = is.silent; label = is.label; roots = roots; sets = sets_are g c tells is })))
    (subst (λ n. Adds (use_lines w s n h) noted new) place (c.in_ok-note_use.ensures w s (space_is g c tells is).used))
