use Rattle.std.proofs.Common.{◌≤◌, ◌∙◌, Bool, List, length, arith, ap}
use Rattle.std.proofs.lemmas.List.{length-replicate}
use Rattle.fv_bits.specs.Members.{is_member}
use Rattle.fv_bits.proofs.Laws.{is_member-replicate}
use Rattle.fv_fourth_pass.proofs.Unions.{low_all, low_none}
use Rattle.fv_fourth_pass.proofs.reach_sets.copied_to.Goals as goal

pub loop-number-init : goal.loop-number-init
loop-number-init c = record {
  size = ap (λ (bits : List Bool). length bits) c.in_ok-copy.ensures.empty ∙ length-replicate _ _;
  low = λ fits. low_none c.args.from.now c.in_ok-copy.copy (λ v. ap (λ (bits : List Bool). is_member bits v) c.in_ok-copy.ensures.empty ∙ is_member-replicate _ v);
}

pub returns-clause-same : goal.returns-clause-same
returns-clause-same c = λ fits v.
    let long : length c.args.from.now ≤ c.loop-number.number =
    (let past = c.loop-number-test.false in let end = c.loop-number.auto.number-end in let is = c.len-number-end.ensures in omega (arith, past, end, is)) in
    low_all c.args.from.now c.loop-number.copy c.loop-number.number (c.loop-number.invariant.low fits) long v
