use Rattle.std.proofs.Common.{rules, ◌++◌, ℕ, refl, sym, subst, ◌∙◌}
use Rattle.fv_disk.proofs.Reading.{reads_whole}
use Rattle.fv_image.specs.Held.{layout_at}
use Rattle.fv_image.specs.Seen.{roots_of}
use Rattle.fv_image.specs.Views.{Rooted, head_of}
use Rattle.fv_faults.specs.Adding.{Adds}
use Rattle.fv_faults.specs.SecondPass.{ground}
use Rattle.fv_faults.specs.ThirdPass.{map_kind_lines, span_lines}
use Rattle.fv_faults.specs.Walks.{steps}
use Rattle.fv_faults.proofs.Adding.{adds_then}
use Rattle.fv_third_pass.specs.Maps.{HasWords}
use Rattle.fv_third_pass.specs.Volumes.{AreReachIn, map_lines, reach_at}
use Rattle.fv_third_pass.proofs.VolumeParts.{has_words, ids_are, reach_in}
use Rattle.fv_third_pass.proofs.WholeVolume.{root, some_blocks}
use Rattle.fv_third_pass.proofs.third.note_maps.Goals as goal

pub returns : goal.returns
unfolding Rattle.fv_image.specs.Views.head_of
returns g c = record {
  adds = λ tells is.
      let v = c.args.volume.now in
      let fits = c.requires in
      let x = v.survey.now in
      let t = root v fits in
      let size = some_blocks v fits in
      let disk = g.D.Disk.shown c.args.disk.now in
      let i = disk.reads in
      let long = reads_whole disk (g.met.D.Disk.laws c.args.disk.now) tells in
      let s = v.slot in
      let l = v.label.now in
      let w = (layout_at t i).view in
      let h = head_of l in
      let of = λ (r : ℕ × Rooted). steps (ground w s h) v.at r.1 in
      let words = has_words t i long size x.known.now x.reached.now is.walked s fits.slot l is.label in
      let row : HasWords i w s c.row_of-row.result.now = subst (HasWords i w s) (sym c.row_of-row.ensures) words in
      let ids = ids_are t i long size x.known.now x.reached.now is.walked s fits.slot l is.label in
      let reach : AreReachIn l.span of (reach_at x.reached.now s) (roots_of h) =
      subst (λ at. AreReachIn l.span (λ r. steps (ground w s h) at r.1) (reach_at x.reached.now s) (roots_of h)) (sym fits.place)
      (reach_in t i long size x.known.now x.reached.now is.walked s fits.slot l is.label) in
      let one = c.note_span.new.lines in
      let two = c.note_map_kinds.new.lines in
      let three = c.note_root_maps.new.lines in
      adds_then (span_lines w s v.at h) (map_kind_lines w s v.at h ++ map_lines w s h of (roots_of h)) c.args.lines one three
      (c.in_ok-note_span.ensures w s (ids ∙ sym c.count_base_ids.ensures))
      (adds_then (map_kind_lines w s v.at h) (map_lines w s h of (roots_of h)) one two three
      (c.in_ok-note_map_kinds.ensures i w s row)
      (subst (λ rs. Adds (map_lines w s h of rs) two three) fits.roots
      (c.in_ok-note_root_maps.ensures.adds tells w s h of refl row (subst (AreReachIn l.span of (reach_at x.reached.now s)) (sym fits.roots) reach))));
  read = search rules;
}
