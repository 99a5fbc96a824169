-- A line is answered.
use Rattle.std.proofs.Common.{◌≡◌, ◌≢◌, ℕ, ◌++◌, Bool, true, false, List, refl, sym, ap, ◌∙◌}
use Rattle.std.specs.Prelude.{Option, Some, None, Result, Ok, Err, IfErr}
use Rattle.fv_disk.specs.Shown.{Shown}
use Rattle.fv_model.specs.declared.answers.Refusal.{Refusal}
use Rattle.fv_model.specs.declared.answers.Reply.{Reply}
use Rattle.fv_model.specs.declared.answers.Reply.TheVariants.{Refused}
use Rattle.fv_model.specs.declared.commands.Command.{Command}
use Rattle.fv_model.specs.Machines.{Machine}
use Rattle.fv_model.specs.Refusals.{next, refusal}
use Rattle.fv_model.specs.Replies.{answer, is_open, Allows, AllowsBy, IsAnswer}
use Rattle.fv_model.specs.Runs.{Line, Says, after_line}
use Rattle.fv_script.specs.Telling.{Tells, unnamed}
use Rattle.fv_lines.proofs.Counting.{told, untold}
use Rattle.fv_reference_run.specs.declared.ending.Fault.{Fault}
use Rattle.fv_reference_run.specs.declared.ending.Fault.TheVariants.{Usage, Sink, Memory}
use Rattle.fv_reference_run.specs.Endings.{fault_in, Ends}
use Rattle.fv_reference_run.specs.Output.{answer_text, line_text, spoken}
use Rattle.fv_reference_run.specs.Answering.{Answers}
use Rattle.fv_reference_run.proofs.Endings.{no_fault, ends_none, ends_wanting}
use Rattle.fv_script.proofs.Prefixes.{none_of, part_of}

-- a reply that is allowed is spoken as the machine's line
open_or_not : (undecided : Bool) (expected reply : Reply) → IsAnswer undecided expected reply → spoken undecided reply ≡ answer_text None undecided expected
open_or_not true expected reply is = rw (is.2) refl
open_or_not false expected reply is = rw is refl

refused_or_not : (r : Option Refusal) (m : Machine) (c : Command) (reply : Reply) → AllowsBy r m c reply → spoken (is_open m c) reply ≡ answer_text r (is_open m c) (answer m c)
refused_or_not (Some r) m c reply is = rw is (of_refusal (is_open m c) r)
  where
    of_refusal : (undecided : Bool) (r : Refusal) → spoken undecided (Refused r) ≡ answer_text (Some r) undecided (answer m c)
    of_refusal true r = refl
    of_refusal false r = refl
refused_or_not None m c reply is = open_or_not (is_open m c) (answer m c) reply is

sink_understood : (fault : Fault) → fault ≡ Sink → Some fault ≢ Some Usage
sink_understood fault is e = cc

pub ends_given : (old new : Shown) (bytes : List ℕ) (result : Result Unit Fault) → Tells old bytes new (unnamed result) → IfErr result (λ fault. fault ≡ Sink) → Ends old new (fault_in result)
ends_given old new bytes (Ok done) tells sink = record { rests = tells.gives.rests; counts = told old new bytes tells; understood = no_fault }
ends_given old new bytes (Err fault) tells sink = record {
  rests = tells.gives.rests;
  counts = rw sink (untold old new bytes _ tells);
  understood = sink_understood fault sink;
}

-- the machine's next, and its line
answered : (m new_m : Machine) (line : Line) (bytes : List ℕ) (old new : Shown) (result : Result Unit Fault) → new_m ≡ after_line m line → line_text m line ≡ bytes
    → Tells old bytes new (unnamed result) → IfErr result (λ fault. fault ≡ Sink) → Answers m line old new_m new result
answered m new_m line bytes old new (Ok done) after is tells sink = record {
  after = after;
  all = λ t. tells.gives.all t ∙ ap (λ (l : List ℕ). old.given ++ l) (sym is);
  part = λ t. tt;
  left = tells.gives.left;
  ends = ends_given old new bytes (Ok done) tells sink;
}
answered m new_m line bytes old new (Err fault) after is tells sink = record {
  after = tt;
  all = λ t. tt;
  part = λ t. part_of old.given (line_text m line) new.given (rw is (tells.gives.part t));
  left = tells.gives.left;
  ends = ends_given old new bytes (Err fault) tells sink;
}

pub answers : (m new_m : Machine) (c : Command) (reply : Reply) (old new : Shown) (result : Result Unit Fault) → Allows m c reply → new_m ≡ next m c
    → Tells old (spoken (is_open m c) reply) new (unnamed result) → IfErr result (λ fault. fault ≡ Sink) → Answers m (Says c) old new_m new result
answers m new_m c reply old new result allowed after tells sink =
    answered m new_m (Says c) (spoken (is_open m c) reply) old new result after (sym (refused_or_not (refusal m c) m c reply allowed)) tells sink

-- a line that says no command
pub refuses : (m : Machine) (line : Line) (bytes : List ℕ) (old new : Shown) (result : Result Unit Fault) → after_line m line ≡ m → line_text m line ≡ bytes
    → Tells old bytes new (unnamed result) → IfErr result (λ fault. fault ≡ Sink) → Answers m line old m new result
refuses m line bytes old new result stays is tells sink = answered m m line bytes old new result (sym stays) is tells sink

-- there is no memory for a command
pub wants : (m new_m : Machine) (line : Line) (host : Shown) → Answers m line host new_m host (Err Memory)
wants m new_m line host = record {
  after = tt;
  all = λ tells. tt;
  part = λ tells. none_of host.given (line_text m line) host.given refl;
  left = refl;
  ends = ends_wanting host host (ends_none host);
}
