use Rattle.std.proofs.Common.{rules}
use Rattle.fv_volumes.proofs.SlotReads.{row_fault}
use Rattle.fv_volumes.proofs.load.find_map_blocks.Goals as goal

pub returns-clause-fault : goal.returns-clause-fault
returns-clause-fault g c = λ tells.
    row_fault (g.D.Disk.shown c.args.disk.now).reads c.args.container.now.map c.args.span c.args.slot c.map_vvbn-first.result _ c.find_row.result (c.find_row.ensures.fault tells) (search rules)
