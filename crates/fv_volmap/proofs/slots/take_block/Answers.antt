use Rattle.fv_bits.proofs.Laws.{read_back}
use Rattle.fv_volmap.proofs.Copies.{is_taken}
use Rattle.fv_volmap.proofs.slots.take_block.Goals as goal

pub returns-clause-taken : goal.returns-clause-taken
returns-clause-taken c =
    let from = c.args.from.now in
    let old = c.args.map.now in
    let new = c.from_block.new.self in
    let block = c.to_block.new.into in
    let took = is_taken from old new c.args.index block c.from_block.result c.requires.long c.to_block.ensures c.from_block.ensures.taken c.from_block.ensures.past in
    λ v place. read_back from old new c.args.index block c.to_block.ensures took v place
