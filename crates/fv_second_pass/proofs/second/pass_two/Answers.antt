use Rattle.fv_image.specs.Held.{layout_at}
use Rattle.fv_root.specs.Finding.{root_found}
use Rattle.fv_second_pass.proofs.SlotSteps.{pass_adds}
use Rattle.fv_second_pass.proofs.second.pass_two.Goals as goal

pub returns-clause-adds : goal.returns-clause-adds
returns-clause-adds g c = λ tells passed.
    pass_adds (layout_at (root_found c.args.root.now) (g.D.Disk.shown c.args.disk.now).reads) c.args.lines.now c.note_slots.new.lines (c.in_ok-volumes.ensures.adds tells passed)
