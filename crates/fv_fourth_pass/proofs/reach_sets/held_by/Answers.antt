use Rattle.std.proofs.Common.{◌<◌, ◌∙◌, Bool, List, length, arith, ap}
use Rattle.std.proofs.lemmas.List.{length-replicate}
use Rattle.fv_bits.specs.Members.{is_member}
use Rattle.fv_bits.proofs.Laws.{is_member-replicate}
use Rattle.fv_fourth_pass.proofs.Unions.{next_held}
use Rattle.fv_fourth_pass.proofs.reach_sets.held_by.Goals as goal

pub loop-k-init : goal.loop-k-init
loop-k-init c = record {
  size = ap (λ (bits : List Bool). length bits) c.in_ok-held.ensures.empty ∙ length-replicate _ _;
  has = λ wide v. ap (λ (bits : List Bool). is_member bits v) c.in_ok-held.ensures.empty ∙ is_member-replicate _ v;
}

pub loop-k-preserved : goal.loop-k-preserved
loop-k-preserved c =
    let low : c.loop-k.k < length c.args.roots.now = (let test = c.loop-k-test.true in let end = c.loop-k.auto.k-end in omega (arith, test, end)) in
    record {
      size = c.add_reach.ensures.size ∙ c.loop-k.invariant.size;
      has = λ wide v.
          next_held c.args.reached.now c.args.slot c.args.roots.now c.loop-k.k _ low c.args.span c.loop-k.held c.add_reach.new.held c.loop-k.invariant.size wide
          c.add_reach.ensures.adds (c.loop-k.invariant.has wide) v;
    }
