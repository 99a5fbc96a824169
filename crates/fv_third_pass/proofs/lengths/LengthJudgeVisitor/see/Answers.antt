use Rattle.std.proofs.Common.{sym, subst}
use Rattle.std.proofs.lemmas.List.{append-nil}
use Rattle.fv_faults.specs.Adding.{Adds}
use Rattle.fv_third_pass.specs.Lengths.{cell_lines}
use Rattle.fv_third_pass.proofs.lengths.LengthJudgeVisitor.see.Goals as goal

pub returns : goal.returns
returns c = record {
  records = c.keep_records.ensures;
  adds = subst (λ ls. Adds ls c.args.self.now.lines c.note_cell.new.lines) (sym (append-nil (cell_lines c.args.self.now.records c.args.visit.now))) c.in_ok-note_cell.ensures;
}
