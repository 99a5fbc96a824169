use Rattle.std.proofs.Common.{◌≡◌, length, rules, arith}
use Rattle.fv_container.proofs.Laws.{blocks_at_most}
use Rattle.fv_core_rows.proofs.containers.written.Goals as goal

pub flush-requires-clause-room : goal.flush-requires-clause-room
flush-requires-clause-room g c =
    let size : length c.in_ok-container.container.map.entries ≡ c.args.entries = grind (rules, c.with_data.ensures.size, c.ok-2.ensures, c.branch-container.ensures, c.in_ok-container.is, c.in_ok-container.was) in
    let most = blocks_at_most c.in_ok-container.container in
    omega (arith, size, most, c.free_count.ensures.room, c.requires, c.if-free_count-entries.false)
