use Rattle.std.proofs.Common.{◌∙◌}
use Rattle.std.proofs.lemmas.List.{with_items_is}
use Rattle.fv_bits.proofs.Seen.{unite_seen, unite_stored_seen}
use Rattle.fv_bits.proofs.map.BitMap.or.Goals as goal

pub invariant_of-self : goal.invariant_of-self
invariant_of-self c =
    let kept = with_items_is c.self.inside.words c.unite.new.words (c.unite.auto.words ∙ c.deref_mut.ensures.len) in
    unite_stored_seen _ _ _ _ _ _ _ _ _ _ c.self.view_is c.self.invariant c.deref_mut.ensures.value c.other.view_is c.other.invariant c.deref.ensures.value c.unite.ensures c.requires kept

pub returns : goal.returns
returns c =
    let kept = with_items_is c.self.inside.words c.unite.new.words (c.unite.auto.words ∙ c.deref_mut.ensures.len) in
    unite_seen _ _ _ _ _ _ _ _ _ _ c.self.view_is c.self.invariant c.deref_mut.ensures.value c.other.view_is c.other.invariant c.deref.ensures.value c.unite.ensures c.requires kept
