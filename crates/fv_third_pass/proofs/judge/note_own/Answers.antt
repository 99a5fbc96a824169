use Rattle.std.proofs.Common.{Bool, ℕ, ◌++◌, subst, sym}
use Rattle.fv_image.specs.ReachRules.{kind_of}
use Rattle.fv_faults.specs.Adding.{Adds}
use Rattle.fv_faults.specs.Lines.{expects}
use Rattle.fv_faults.proofs.Adding.{adds_then}
use Rattle.fv_walk.specs.Visits.{item_of}
use Rattle.fv_walk.specs.Sights.{Sight}
use Rattle.fv_third_pass.specs.Files.{levels_of}
use Rattle.fv_third_pass.specs.Judged.{kinds_of, marks_of, own_lines}
use Rattle.fv_third_pass.proofs.judge.note_own.Goals as goal

pub returns : goal.returns
returns c =
    let s : Sight = record { visit = c.args.visit.now; at = c.args.at; below = c.args.below.now } in
    let shown = adds_then (marks_of s) (levels_of s) c.note_kind.new.lines c.note_mark.new.lines c.note_files.new.lines c.in_ok-note_mark.ensures c.in_ok-note_files.ensures in
    subst (λ (b : Bool). Adds (own_lines b s) c.args.lines.now c.note_files.new.lines) (sym c.if-not-own.false)
    (adds_then (kinds_of s) (marks_of s ++ levels_of s) c.args.lines.now c.note_kind.new.lines c.note_files.new.lines
    (subst (λ (n : ℕ). Adds (expects 9 c.args.visit.now.block (kind_of (item_of c.args.visit.now)) n) c.args.lines.now c.note_kind.new.lines) c.kind_found.ensures
    (subst (λ (n : ℕ). Adds (expects 9 c.args.visit.now.block n c.kind_found.result) c.args.lines.now c.note_kind.new.lines) c.kind_of.ensures c.in_ok-note_kind.ensures))
    shown)
