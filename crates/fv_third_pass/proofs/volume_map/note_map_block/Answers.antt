use Rattle.std.proofs.Common.{subst, ap, ◌∙◌, ℕ}
use Rattle.std.specs.Prelude.{Some}
use Rattle.fv_image.specs.Views.{block_in}
use Rattle.fv_faults.specs.Adding.{Adds}
use Rattle.fv_first_pass.specs.Passed.{spelled}
use Rattle.fv_third_pass.specs.Bits.{differing}
use Rattle.fv_third_pass.proofs.VolumeMaps.{same_lines}
use Rattle.fv_third_pass.proofs.volume_map.note_map_block.Goals as goal

pub returns-clause-adds : goal.returns-clause-adds
returns-clause-adds g c = λ tells.
    let i = (g.D.Disk.shown c.args.disk.now).reads in
    subst (λ ls. Adds ls c.args.lines.now c.note_block.new.lines)
    (ap (λ (at : ℕ). differing 6 (Some at) c.args.reach.now c.args.k c.in_ok-block.block) (c.from.ensures ∙ c.place_of.ensures i)
    ∙ same_lines 6 _ c.args.reach.now c.args.k c.in_ok-block.block (block_in (spelled i c.args.word)) (c.in_ok-block.ensures.bits tells))
    c.in_ok-note_block.ensures
