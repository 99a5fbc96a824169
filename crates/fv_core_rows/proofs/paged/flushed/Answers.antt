use Rattle.std.proofs.Common.{arith}
use Rattle.fv_container.proofs.Laws.{blocks_at_most}
use Rattle.fv_core_rows.proofs.paged.flushed.Goals as goal

pub flush-requires-clause-room : goal.flush-requires-clause-room
flush-requires-clause-room g c =
    let most = blocks_at_most c.set_data.new.container in
    omega (arith, c.set_data.ensures.size, most, c.free_count.ensures.room, c.requires.few, c.if-free_count-entries.false)
