use Rattle.std.proofs.Common.{ℕ, ◌++◌, ap, subst, ◌∙◌}
use Rattle.std.specs.Prelude.{Option}
use Rattle.std.specs.Ordering.{nat_cmp}
use Rattle.std.specs.BTreeMap as maps
use Rattle.fv_faults.specs.Adding.{Adds}
use Rattle.fv_faults.proofs.Adding.{adds_then}
use Rattle.fv_third_pass.specs.declared.twins.Id.{Id}
use Rattle.fv_third_pass.specs.declared.twins.IdJudge.{IdJudge}
use Rattle.fv_third_pass.specs.Twinned.{IsKept, id_against, id_cmp, vvbn_against}
use Rattle.fv_third_pass.proofs.Firsts.{lines_are, seen_more}
use Rattle.fv_third_pass.proofs.twins.IdJudgeVisitor.see.Goals as goal

pub returns : goal.returns
returns c =
    let v = c.args.visit.now in
    let judge = c.args.self.now in
    let after : IdJudge = record { ids = c.keep_vvbn.new.ids; vvbns = c.keep_id.new.vvbns; lines = c.note_id.new.lines } in
    record {
      seen = λ done has. seen_more done v judge after has
          (subst (λ (i : Id). IsKept id_cmp i v.pointer.vvbn judge.ids after.ids) c.id_of-id.ensures c.in_ok-keep_vvbn.ensures)
          (subst (λ (i : Id). IsKept nat_cmp v.pointer.vvbn i judge.vvbns after.vvbns) c.id_of-id.ensures c.in_ok-keep_id.ensures);
      adds = λ done has. subst (λ ls. Adds ls judge.lines after.lines)
          (ap (λ (o : Option ℕ). vvbn_against v.block v.pointer.vvbn o ++ id_against v.block c.id_of-id.result c.id_with-first_id.result) c.vvbn_with-first_vvbn.ensures
          ∙ ap (λ (o : Option Id). vvbn_against v.block v.pointer.vvbn (maps.get id_cmp judge.ids c.id_of-id.result) ++ id_against v.block c.id_of-id.result o) c.id_with-first_id.ensures
          ∙ ap (λ (i : Id). vvbn_against v.block v.pointer.vvbn (maps.get id_cmp judge.ids i) ++ id_against v.block i (maps.get nat_cmp judge.vvbns v.pointer.vvbn)) c.id_of-id.ensures
          ∙ lines_are done v judge has)
          (adds_then (vvbn_against v.block v.pointer.vvbn c.vvbn_with-first_vvbn.result) (id_against v.block c.id_of-id.result c.id_with-first_id.result) judge.lines c.note_vvbn.new.lines c.note_id.new.lines
          c.in_ok-note_vvbn.ensures c.in_ok-note_id.ensures);
    }
