use Rattle.std.proofs.Common.{◌∙◌}
use Rattle.std.proofs.lemmas.List.{with_items_is}
use Rattle.fv_bits.proofs.Seen.{put_stored_seen}
use Rattle.fv_bits.proofs.map.BitMap.set.Goals as goal

pub invariant_of-self : goal.invariant_of-self
invariant_of-self c =
    let kept = with_items_is c.self.inside.words c.set.new.words (c.set.auto.words ∙ c.deref_mut.ensures.len) in
    put_stored_seen _ _ _ _ _ _ _ _ c.self.view_is c.self.invariant c.deref_mut.ensures.value c.set.ensures c.requires kept
