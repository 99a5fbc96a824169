use Rattle.std.proofs.Common.{◌∙◌}
use Rattle.std.proofs.lemmas.List.{with_items_is}
use Rattle.fv_bits.proofs.Seen.{copy_seen, copy_stored_seen}
use Rattle.fv_bits.proofs.map.BitMap.copy_from.Goals as goal

pub invariant_of-self : goal.invariant_of-self
invariant_of-self c =
    let kept = with_items_is c.self.inside.words c.copy.new.words (c.copy.auto.words ∙ c.deref_mut.ensures.len) in
    copy_stored_seen _ _ _ _ _ _ _ _ _ c.self.view_is c.other.view_is c.other.invariant c.deref.ensures.value c.copy.ensures c.requires kept

pub returns : goal.returns
returns c =
    let kept = with_items_is c.self.inside.words c.copy.new.words (c.copy.auto.words ∙ c.deref_mut.ensures.len) in
    copy_seen _ _ _ _ _ _ _ _ _ c.self.view_is c.other.view_is c.deref.ensures.value c.copy.ensures c.requires kept
