use Rattle.std.proofs.Common.{subst, sym}
use Rattle.fv_model.specs.Space.{map_blocks}
use Rattle.fv_faults.specs.Adding.{Adds}
use Rattle.fv_third_pass.specs.Maps.{reach_to}
use Rattle.fv_third_pass.proofs.VolumeMaps.{reach_added}
use Rattle.fv_third_pass.proofs.volume_map.note_reach.Goals as goal

pub returns-clause-adds : goal.returns-clause-adds
returns-clause-adds g c = λ tells w s h ss span words is.
    reach_added (g.D.Disk.shown c.args.disk.now).reads w s h c.args.map.slot ss c.args.row.now c.args.reach.now words is c.args.lines.now c.note_blocks.new.lines
    (subst (λ n. Adds (reach_to (g.D.Disk.shown c.args.disk.now).reads c.args.row.now n c.args.map.slot c.args.reach.now (map_blocks n)) c.args.lines.now c.note_blocks.new.lines) (sym span)
    (c.in_ok-note_blocks.ensures.adds tells))
