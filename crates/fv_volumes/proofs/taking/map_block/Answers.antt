use Rattle.std.proofs.Common.{rules, ◌≡◌, None}
use Rattle.fv_volmap.specs.Slots.{slot_at}
use Rattle.fv_volumes.proofs.MapBlocks.{empty_block}
use Rattle.fv_volumes.proofs.taking.map_block.Goals as goal

pub returns-in-None : goal.returns-in-None
returns-in-None c =
    let none : slot_at c.args.maps.now c.args.slot ≡ None = search rules in
    rw none (empty_block c.args.maps.now.span c.args.index)
