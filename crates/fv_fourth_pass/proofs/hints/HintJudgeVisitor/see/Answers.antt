use Rattle.std.proofs.Common.{Bool, not, ◌||◌, ℕ, ◌==◌, sym, subst}
use Rattle.std.proofs.lemmas.List.{append-nil}
use Rattle.fv_image.specs.HintRules.{is_known}
use Rattle.fv_faults.specs.Adding.{Adds}
use Rattle.fv_faults.specs.Lines.{line, unless}
use Rattle.fv_faults.proofs.Adding.{adds_then}
use Rattle.fv_walk.specs.Sights.{Sight}
use Rattle.fv_fourth_pass.specs.Hinted.{hints_of, judged, unknowns_of}
use Rattle.fv_fourth_pass.proofs.hints.HintJudgeVisitor.see.Goals as goal

pub returns : goal.returns
returns c =
    let s : Sight = record { visit = c.args.visit.now; at = c.args.at; below = c.args.below.now } in
    record {
      adds = subst (λ ls. Adds ls c.args.self.now.lines c.note_unknown.new.lines) (sym (append-nil (judged s)))
          (adds_then (hints_of s) (unknowns_of s) c.args.self.now.lines c.note_hint.new.lines c.note_unknown.new.lines c.in_ok-note_hint.ensures
          (subst (λ (n : ℕ). Adds (unless (not (is_known s.visit.pointer) || (n == 0)) (line 12 s.visit.block 0 n)) c.note_hint.new.lines c.note_unknown.new.lines) c.unknown_in.ensures
          (subst (λ (b : Bool). Adds (unless (not b || (c.unknown_in.result == 0)) (line 12 s.visit.block 0 c.unknown_in.result)) c.note_hint.new.lines c.note_unknown.new.lines) c.is_known.ensures
          c.in_ok-note_unknown.ensures)));
    }
