use Rattle.std.proofs.Common.{◌≡◌, ◌∙◌, sym, ap, cond, true, false, nat_lt, get_or, length, map, inl, inr, arith}
use Rattle.std.proofs.lemmas.Bool.{cases_lt}
use Rattle.std.proofs.lemmas.Bool.Decides.{nat_tests}
use Rattle.std.proofs.lemmas.List.{get_or_past, length-map}
use Rattle.fv_tree.specs.Spelled.{hole}
use Rattle.fv_tables.specs.Alike.{hintless}
use Rattle.fv_tree.proofs.Blanked.{got_hintless, same_items}
use Rattle.fv_tree.proofs.blank.blank_all.Goals as goal

pub returns : goal.returns
returns c =
    let old = c.args.children.now in
    let new = c.loop-slot.children in
    let each = c.loop-slot.invariant.each in
    let long : length new ≡ length old = c.loop-slot.invariant.long ∙ sym c.told-children in
    same_items hole new (map hintless old) (long ∙ sym (length-map old hintless)) (λ slot. elim (cases_lt slot 128) [
      | inl lt ↦
          let test : nat_lt slot c.loop-slot.slot ≡ true = grind (arith, nat_tests, lt, c.loop-slot-test.false) in
          each slot ∙ ap (λ b. cond b (hintless (get_or old slot hole)) (get_or old slot hole)) test ∙ sym (got_hintless old slot)
      | inr le ↦ get_or_past new slot hole (omega (arith, le, c.loop-slot.invariant.long)) ∙ sym (got_hintless old slot ∙ ap hintless (get_or_past old slot hole (omega (arith, le, c.told-children))))
    ])
