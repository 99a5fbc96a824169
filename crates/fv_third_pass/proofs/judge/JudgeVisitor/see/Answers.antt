use Rattle.std.proofs.Common.{refl, sym, subst}
use Rattle.std.proofs.lemmas.List.{append-nil}
use Rattle.fv_faults.specs.Adding.{Adds}
use Rattle.fv_faults.proofs.Adding.{adds_then}
use Rattle.fv_walk.specs.Sights.{Sight}
use Rattle.fv_third_pass.specs.Judged.{judged, own_lines, stamps_of}
use Rattle.fv_third_pass.proofs.judge.JudgeVisitor.see.Goals as goal

pub returns : goal.returns
returns c =
    let s : Sight = record { visit = c.args.visit.now; at = c.args.at; below = c.args.below.now } in
    record {
      own = refl;
      now = refl;
      adds = subst (λ ls. Adds ls c.args.self.now.lines c.note_past.new.lines) (sym (append-nil (judged c.args.self.now.own c.args.self.now.last s)))
          (adds_then (own_lines c.args.self.now.own s) (stamps_of c.args.self.now.last s) c.args.self.now.lines c.note_own.new.lines c.note_past.new.lines c.in_ok-note_own.ensures c.in_ok-note_past.ensures);
    }
