use Rattle.std.proofs.Common.{ap, ◌∙◌, arith}
use Rattle.fv_bits.specs.Stored.{map_of}
use Rattle.fv_bits.proofs.Maps.{new_stored, new_map}
use Rattle.fv_bits.proofs.map.BitMap.new.Goals as goal

pub invariant_of-result : goal.invariant_of-result
invariant_of-result c =
    rw (c.in_ok-words.ensures.items_if_clones_equal (λ _ same. same)) (new_stored c.args.len _ (omega arith) (omega arith))

pub returns : goal.returns
returns c = record {
  empty = ap (map_of c.args.len) (c.in_ok-words.ensures.items_if_clones_equal (λ _ same. same)) ∙ new_map c.args.len _;
}
