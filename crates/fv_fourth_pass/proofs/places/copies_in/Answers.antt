use Rattle.std.proofs.Common.{◌≡◌, List, Bool, arith, length, ap, ◌∙◌}
use Rattle.std.proofs.lemmas.List.{length-replicate}
use Rattle.fv_bits.specs.Members.{is_member}
use Rattle.fv_bits.proofs.Laws.{is_member-replicate}
use Rattle.fv_fourth_pass.proofs.Copies.{copies_all, copies_none}
use Rattle.fv_fourth_pass.proofs.places.copies_in.Goals as goal

pub loop-vvbn-init : goal.loop-vvbn-init
loop-vvbn-init c =
    let size : length c.in_ok-copies.copies ≡ length c.args.base.now = ap (λ (bits : List Bool). length bits) c.in_ok-copies.ensures.empty ∙ length-replicate _ _ ∙ c.len.ensures in
    record {
      has = copies_none c.args.base.now c.args.row.now c.in_ok-copies.copies size (λ v. ap (λ (bits : List Bool). is_member bits v) c.in_ok-copies.ensures.empty ∙ is_member-replicate _ v);
      size = size;
    }

pub loop-vvbn-preserved : goal.loop-vvbn-preserved
loop-vvbn-preserved c = record { has = c.add_copy.ensures.has c.loop-vvbn.invariant.has; size = c.add_copy.ensures.size }

pub returns : goal.returns
returns c = copies_all c.args.base.now c.args.row.now c.loop-vvbn.copies c.loop-vvbn.vvbn
    (let past = c.loop-vvbn-test.false in let end = c.loop-vvbn.auto.vvbn-end in let is = c.len-vvbn-end.ensures in omega (arith, past, end, is)) c.loop-vvbn.invariant.has
