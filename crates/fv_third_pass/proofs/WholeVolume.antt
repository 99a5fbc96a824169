-- What is noted of a volume, part by part, where the first two passes found nothing: all that the third pass says of it.
use Rattle.std.proofs.Common.{◌≡◌, ◌++◌, ℕ, ◌≤◌, arith, sym, subst, length}
use Rattle.fv_disk.specs.Shown.{Image}
use Rattle.fv_image.specs.NewerRoot.{Taken}
use Rattle.fv_image.specs.Views.{head_of}
use Rattle.fv_root.specs.Finding.{root_found}
use Rattle.fv_faults.specs.declared.lines.Lines.{Lines}
use Rattle.fv_faults.specs.Adding.{Adds}
use Rattle.fv_faults.specs.ThirdPass.{volume_lines}
use Rattle.fv_faults.proofs.Adding.{adds_then}
use Rattle.fv_third_pass.specs.declared.survey.VolumeSurvey.{VolumeSurvey}
use Rattle.fv_third_pass.specs.Surveys.{IsVolumeOf, IsVolumeSurvey, base_said_in, label_place, layout_of, maps_said, tables_said, visits_in, volume_in}
use Rattle.fv_third_pass.specs.Volumes.{AreClean}
use Rattle.fv_third_pass.proofs.BaseParts.{none_noted}
use Rattle.fv_third_pass.proofs.SameLines.{same_adds}
use Rattle.fv_third_pass.proofs.VolumeLaw.{volume_same}
use Rattle.fv_third_pass.proofs.VolumeParts.{are_clean}

module _ (v : VolumeSurvey) (fits : IsVolumeSurvey v) where
  abbrev pub root : Taken
  root = root_found v.survey.now.root.now

  pub some_blocks : 1 ≤ root.blocks
  some_blocks = let least = fits.range.root.size.least in omega (arith, least)

  module _ (i : Image) (long : (b : ℕ) → length (i b) ≡ 4096) (is : IsVolumeOf v i) where
    pub all_clean : AreClean (volume_in v i) v.at v.roots.now
    unfolding head_of
    all_clean =
        subst (λ at. AreClean (volume_in v i) at v.roots.now) (sym fits.place)
        (are_clean root i long some_blocks v.survey.now.known.now v.survey.now.reached.now is.walked v.slot fits.slot v.label.now is.label v.roots.now fits.roots)

    pub volume_added : (old one two new : Lines) → Adds (maps_said v i) old one → Adds (tables_said v i) one two → Adds (base_said_in v i (visits_in v i)) two new
        → Adds (volume_lines (layout_of v.survey.now i) v.slot (label_place v.survey.now v.slot) (head_of v.label.now)) old new
    unfolding head_of
    volume_added old one two new first second third =
        let maps = maps_said v i in
        let tables = tables_said v i in
        let base = base_said_in v i (visits_in v i) in
        subst (λ at. Adds (volume_lines (layout_of v.survey.now i) v.slot at (head_of v.label.now)) old new) fits.place
        (same_adds ((maps ++ tables) ++ base) (volume_lines (layout_of v.survey.now i) v.slot v.at (head_of v.label.now)) old new
        (volume_same (layout_of v.survey.now i) v.slot v.at (head_of v.label.now) v.roots.now fits.roots all_clean)
        (adds_then (maps ++ tables) base old two new (adds_then maps tables old one two first second) third))

    -- of a volume without a base
    pub alone_volume_added : v.label.now.parent ≡ 0 → (old one new : Lines) → Adds (maps_said v i) old one → Adds (tables_said v i) one new
        → Adds (volume_lines (layout_of v.survey.now i) v.slot (label_place v.survey.now v.slot) (head_of v.label.now)) old new
    alone_volume_added none old one new first second =
        volume_added old one new new first second
        (none_noted root i long some_blocks v.survey.now.known.now v.survey.now.reached.now is.walked v.slot fits.slot v.label.now is.label none v.label.now.now (visits_in v i) new)
