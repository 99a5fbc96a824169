-- Lines are answered, one after another.
use Rattle.std.proofs.Common.{◌≡◌, ◌<◌, ℕ, ◌+◌, ◌++◌, List, [], ◌∷◌, length, map, take, sym, ap, subst, ◌∙◌, arith, append_assoc, append-nil}
use Rattle.std.specs.Prelude.{Some, None, Result, Ok, Err, IfErr, IsTrue}
use Rattle.std.proofs.lemmas.List.{length-append}
use Rattle.fv_disk.specs.declared.Failed.{Failed}
use Rattle.fv_disk.specs.Shown.{Shown}
use Rattle.fv_model.specs.Machines.{Machine}
use Rattle.fv_model.specs.Runs.{Line, after_line}
use Rattle.fv_model.specs.Lines.{line_of, lines}
use Rattle.fv_model.specs.Texts.{done_text}
use Rattle.fv_script.specs.Telling.{Tells, unnamed}
use Rattle.fv_script.proofs.ScriptLines.{no_line}
use Rattle.fv_lines.specs.declared.reading.Found.TheVariants as found
use Rattle.fv_lines.specs.Held.{Held, none_taken}
use Rattle.fv_lines.specs.Reading.{to_come, unread, Finds}
use Rattle.fv_reference_run.specs.declared.ending.Fault.{Fault}
use Rattle.fv_reference_run.specs.declared.ending.Fault.TheVariants.{Source, Sink, Memory}
use Rattle.fv_reference_run.specs.declared.program.Turn.TheVariants.{Answered, Ended}
use Rattle.fv_reference_run.specs.Endings.{Ends}
use Rattle.fv_reference_run.specs.Output.{line_text, replies_text, output}
use Rattle.fv_reference_run.specs.Answering.{Answers}
use Rattle.fv_reference_run.specs.Running.{Steps, Runs}
use Rattle.fv_reference_run.proofs.Answered.{ends_given}
use Rattle.fv_reference_run.proofs.Endings.{ends_none, ends_then, ends_wanting, ends_asked, ends_unasked}
use Rattle.fv_script.proofs.Prefixes.{IsPart, IsCutShort, in_front, before, cut_behind, none_of, whole_of}

module _ (m : Machine) (old_held : Held) (old : Shown) (held : Held) (mid : Shown) (line : List ℕ) where
  lines_gone : (old_bytes : List ℕ) → old_bytes ≡ [] → lines old_bytes ≡ []
  lines_gone old_bytes none = ap lines none ∙ ap (λ (ls : List (List ℕ)). map line_of ls) no_line

  pub step_ended : Finds old_held old held mid line (Ok found.End) → Steps m old_held old m held mid (Ok Ended)
  step_ended finds = record {
    goes_on = λ tells. (lines_gone (unread old_held old) (finds.reads tells).found.0, finds.asks.given);
    part = λ tells. tt;
    ends = ends_asked old mid found.End finds.asks;
  }

  pub step_failed : (e : Failed) (new_m : Machine) → Finds old_held old held mid line (Err e) → Steps m old_held old new_m held mid (Err Source)
  step_failed e new_m finds = record {
    goes_on = λ tells. tt;
    part = λ tells. none_of old.given (replies_text m (lines (unread old_held old))) mid.given finds.asks.given;
    ends = ends_unasked old mid e finds.asks;
  }

  -- more bytes than can be counted
  pub step_past : (new_m : Machine) → Finds old_held old held mid line (Ok found.PastLimit) → Steps m old_held old new_m held mid (Err Memory)
  step_past new_m finds = record {
    goes_on = λ tells. tt;
    part = λ tells. none_of old.given (replies_text m (lines (unread old_held old))) mid.given finds.asks.given;
    ends = ends_wanting old mid (ends_asked old mid found.PastLimit finds.asks);
  }

  module _ (finds : Finds old_held old held mid line (Ok found.Line)) (new_m : Machine) (new : Shown) where
    told : IsTrue old.tells → IsTrue mid.tells
    told tells = rw finds.asks.rests.stays.tells tells

    next_is : IsTrue old.tells → lines (unread old_held old) ≡ line_of line ∷ lines (unread held mid)
    next_is tells = (finds.reads tells).found.0

    so_far : Ends old mid None
    so_far = ends_asked old mid found.Line finds.asks

    pub step_answered : Answers m (line_of line) mid new_m new (Ok tt) → Steps m old_held old new_m held new (Ok Answered)
    step_answered answers = record {
      goes_on = λ tells. (
        line_of line,
        next_is tells ∙ ap (λ (left : List ℕ). line_of line ∷ lines (held.bytes ++ to_come held.ended left)) (sym answers.left),
        answers.after,
        answers.all (told tells) ∙ ap (λ (l : List ℕ). l ++ line_text m (line_of line)) finds.asks.given,
      );
      part = λ tells. tt;
      ends = ends_then old mid new None so_far answers.ends;
    }

    front_of : (ls : List Line) → lines (unread old_held old) ≡ line_of line ∷ ls → IsPart mid.given (line_text m (line_of line)) new.given → IsPart old.given (replies_text m (lines (unread old_held old))) new.given
    front_of ls is part =
        let front = in_front mid.given (line_text m (line_of line)) (replies_text (after_line m (line_of line)) ls) new.given part in
        (front.0, front.1 ∙ ap (λ (l : List ℕ). l ++ take front.0 (replies_text m (line_of line ∷ ls))) finds.asks.given ∙ ap (λ (l : List Line). old.given ++ take front.0 (replies_text m l)) (sym is))

    pub step_unanswered : (fault : Fault) → Answers m (line_of line) mid new_m new (Err fault) → Steps m old_held old new_m held new (Err fault)
    step_unanswered fault answers = record {
      goes_on = λ tells. tt;
      part = λ tells. front_of (lines (unread held mid)) (next_is tells) (answers.part (told tells));
      ends = ends_then old mid new (Some fault) so_far answers.ends;
    }

-- what is still to be given, where so many lines are answered
abbrev pub still : Machine → List Line → ℕ → List ℕ
still m ls count = replies_text m ls ++ done_text (count + length ls)

some_text : (count : ℕ) → 0 < length (done_text count)
some_text count = omega arith

-- so many lines are answered, and the output goes on from here
pub record StandsAt (first_m : Machine) (all : List Line) (old : Shown) (m : Machine) (held : Held) (now : Shown) (count : ℕ) : Type 0 where
  pub given : IsTrue old.tells → (so_far : List ℕ) × (now.given ≡ old.given ++ so_far) × (so_far ++ still m (lines (unread held now)) count ≡ output first_m all)
  pub ends : Ends old now None

pub stands_first : (m : Machine) (old : Shown) (limit : ℕ) → StandsAt m (lines old.ends.left) old m (none_taken limit) old 0
stands_first m old limit = record {
  given = λ tells. ([], sym (append-nil old.given), ap (λ (n : ℕ). replies_text m (lines old.ends.left) ++ done_text n) (omega arith));
  ends = ends_none old;
}

module _ (first_m : Machine) (all : List Line) (old : Shown) (m : Machine) (held : Held) (now : Shown) (count : ℕ) (so_far : StandsAt first_m all old m held now count) (new_m : Machine) (new_held : Held) (new : Shown) where
  told_now : IsTrue old.tells → IsTrue now.tells
  told_now tells = rw so_far.ends.rests.stays.tells tells

  goes : (line : Line) (ls rest : List Line) (given : List ℕ) → ls ≡ line ∷ rest → new_m ≡ after_line m line → given ++ still m ls count ≡ output first_m all
      → (given ++ line_text m line) ++ still new_m rest (count + 1) ≡ output first_m all
  goes line ls rest given is after so =
      let counted : count + 1 + length rest ≡ count + length (line ∷ rest) = omega arith in
      append_assoc given (line_text m line) (still new_m rest (count + 1))
      ∙ ap (λ (l : List ℕ). given ++ l) (sym (append_assoc (line_text m line) (replies_text new_m rest) (done_text (count + 1 + length rest)))
      ∙ ap (λ (x : Machine). (line_text m line ++ replies_text x rest) ++ done_text (count + 1 + length rest)) after
      ∙ ap (λ (n : ℕ). replies_text m (line ∷ rest) ++ done_text n) counted
      ∙ ap (λ (l : List Line). still m l count) (sym is)) ∙ so

  pub stands_next : Steps m held now new_m new_held new (Ok Answered) → StandsAt first_m all old new_m new_held new (count + 1)
  stands_next steps = record {
    given = λ tells.
        let g = so_far.given tells in
        let s = steps.goes_on (told_now tells) in (
          g.0 ++ line_text m s.0,
          s.3 ∙ ap (λ (l : List ℕ). l ++ line_text m s.0) g.1 ∙ append_assoc old.given g.0 (line_text m s.0),
          goes s.0 (lines (unread held now)) (lines (unread new_held new)) g.0 s.1 s.2 g.2,
        );
    ends = ends_then old now new None so_far.ends steps.ends;
  }

  -- a fault on the way
  pub stops : (fault : Fault) → Steps m held now new_m new_held new (Err fault) → Runs first_m all old new (Err fault)
  stops fault steps = record {
    given = λ tells.
        let g = so_far.given tells in
        let left : List Line = lines (unread held now) in
        let more = before now.given (replies_text m left) (done_text (count + length left)) new.given (some_text (count + length left)) (steps.part (told_now tells)) in
        subst (λ (l : List ℕ). IsCutShort old.given l new.given) g.2 (cut_behind old.given g.0 (still m left count) now.given new.given g.1 more);
    ends = ends_then old now new (Some fault) so_far.ends steps.ends;
  }

  -- no line is left, and the count is given
  module _ (steps : Steps m held now new_m new_held new (Ok Ended)) (last : Shown) where
    only_count : (ls : List Line) → ls ≡ [] → still m ls count ≡ done_text count
    only_count ls none = rw none (ap done_text (omega arith))

    so : IsTrue old.tells → (given : List ℕ) × (new.given ≡ old.given ++ given) × (given ++ done_text count ≡ output first_m all)
    so tells =
        let g = so_far.given tells in
        let s = steps.goes_on (told_now tells) in
        (g.0, s.1 ∙ g.1, ap (λ (l : List ℕ). g.0 ++ l) (sym (only_count (lines (unread held now)) s.0)) ∙ g.2)

    over : Ends old new None
    over = ends_then old now new None so_far.ends steps.ends

    pub ends : (result : Result Unit Fault) → Tells new (done_text count) last (unnamed result) → IfErr result (λ fault. fault ≡ Sink) → Runs first_m all old last result
    ends (Ok tt) tells sink = record {
      given = λ t.
          let g = so t in
          tells.gives.all (rw over.rests.stays.tells t) ∙ ap (λ (l : List ℕ). l ++ done_text count) g.1 ∙ append_assoc old.given g.0 (done_text count) ∙ ap (λ (l : List ℕ). old.given ++ l) g.2;
      ends = ends_then old new last None over (ends_given new last (done_text count) (Ok tt) tells sink);
    }
    ends (Err fault) tells sink = record {
      given = λ t.
          let g = so t in
          subst (λ (l : List ℕ). IsCutShort old.given l last.given) g.2 (cut_behind old.given g.0 (done_text count) new.given last.given g.1 (tells.gives.part (rw over.rests.stays.tells t)));
      ends = ends_then old new last (Some fault) over (ends_given new last (done_text count) (Err fault) tells sink);
    }

-- more lines than can be counted
pub too_many : (first_m : Machine) (all : List Line) (old : Shown) (m : Machine) (held : Held) (now : Shown) (count : ℕ) → StandsAt first_m all old m held now count → Runs first_m all old now (Err Memory)
too_many first_m all old m held now count so_far = record {
  given = λ tells.
      let g = so_far.given tells in
      let left : List Line = lines (unread held now) in
      let more : 0 < length (still m left count) = omega (arith, length-append (replies_text m left) (done_text (count + length left)), some_text (count + length left)) in
      subst (λ (l : List ℕ). IsCutShort old.given l now.given) g.2 (before old.given g.0 (still m left count) now.given more (whole_of old.given g.0 now.given g.1));
  ends = ends_wanting old now so_far.ends;
}
