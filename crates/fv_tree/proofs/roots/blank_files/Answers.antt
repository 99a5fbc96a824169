use Rattle.std.proofs.Common.{◌≡◌, ◌∙◌, sym, ap, cond, true, nat_lt, get_or, length, map, inl, inr, arith}
use Rattle.std.proofs.lemmas.Bool.{cases_lt}
use Rattle.std.proofs.lemmas.Bool.Decides.{nat_tests}
use Rattle.std.proofs.lemmas.List.{get_or_past, length-map}
use Rattle.fv_tables.specs.Told.{free_record}
use Rattle.fv_tables.specs.Alike.{hintless_record}
use Rattle.fv_tree.proofs.Blanked.{same_items}
use Rattle.fv_tree.proofs.BlankedRoots.{got_root}
use Rattle.fv_tree.proofs.roots.blank_files.Goals as goal

pub returns : goal.returns
returns c =
    let old = c.args.files.now in
    let new = c.loop-slot.files in
    let each = c.loop-slot.invariant.each in
    let long : length new ≡ length old = c.loop-slot.invariant.long ∙ sym c.told-files in
    same_items free_record new (map hintless_record old) (long ∙ sym (length-map old hintless_record)) (λ slot. elim (cases_lt slot 16) [
      | inl lt ↦
          let test : nat_lt slot c.loop-slot.slot ≡ true = grind (arith, nat_tests, lt, c.loop-slot-test.false) in
          each slot ∙ ap (λ b. cond b (hintless_record (get_or old slot free_record)) (get_or old slot free_record)) test ∙ sym (got_root old slot)
      | inr le ↦ get_or_past new slot free_record (omega (arith, le, c.loop-slot.invariant.long)) ∙ sym (got_root old slot ∙ ap hintless_record (get_or_past old slot free_record (omega (arith, le, c.told-files))))
    ])
