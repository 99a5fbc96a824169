use Rattle.std.proofs.Common.{◌∙◌}
use Rattle.std.proofs.lemmas.List.{with_items_is}
use Rattle.fv_bits.proofs.Seen.{block_taken_seen}
use Rattle.fv_bits.proofs.map.BitMap.from_block.Goals as goal

pub returns-clause-taken : goal.returns-clause-taken
returns-clause-taken c =
    let kept = with_items_is c.self.inside.words c.put.new.words (c.put.auto.words ∙ c.deref_mut.ensures.len) in
    block_taken_seen _ _ _ _ _ _ _ _ _ c.self.view_is c.self.invariant c.deref_mut.ensures.value c.put.ensures c.in_default.ensures.none c.read-read.ensures.bits kept
