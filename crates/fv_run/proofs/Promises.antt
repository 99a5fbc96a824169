-- The laws of isolation and of the guarantee, of each line of a run.
use Rattle.std.proofs.Common.{◌≡◌, ◌≢◌, ℕ, zero, suc, Bool, true, false, List, [], ◌∷◌, get_or, add-one, Option, Some, None, refl, sym, subst, ◌∙◌}
use Rattle.std.specs.Prelude.{cond, if◌then◌else◌}
use Rattle.fv_model.specs.declared.answers.Refusal.{Refusal}
use Rattle.fv_model.specs.declared.answers.Refusal.TheVariants.{VolumeFull}
use Rattle.fv_model.specs.declared.answers.Reply.{Reply}
use Rattle.fv_model.specs.declared.answers.Reply.TheVariants.{Done, Refused}
use Rattle.fv_model.specs.declared.commands.Command.{Command}
use Rattle.fv_model.specs.declared.commands.Command.TheVariants.{New, Put, Cut, Remove}
use Rattle.fv_model.specs.Machines.{Machine}
use Rattle.fv_model.specs.Space.{IsAdmitted}
use Rattle.fv_model.specs.Effects.{effect}
use Rattle.fv_model.specs.Refusals.{refusal}
use Rattle.fv_model.specs.Replies.{Allows, AllowsBy, answer, is_open, IsAnswer}
use Rattle.fv_model.specs.Runs.{Line, Says, NoCommand, OutOfRange, after, after_line, AnswersAll}
use Rattle.fv_laws.specs.Isolation.{IsSameAt}
use Rattle.fv_laws.specs.Guarantee.{is_change, is_overcharged}
use Rattle.fv_laws.proofs.Changes.{others_stay}
use Rattle.fv_laws.proofs.Alike.{isolated}
use Rattle.fv_laws.proofs.Guarantee.{guaranteed}
use Rattle.fv_laws.proofs.Admission.{admitted_after}
use Rattle.fv_run.specs.Promises.{AreGuaranteed, AreIsolated, home_of, line_at}

-- ---- the machine after one line more

after_suc : (m : Machine) (lines : List Line) (k : ℕ) → after m lines (suc k) ≡ after_line (after m lines k) (line_at lines k)
after_suc m [] zero = refl
after_suc m [] (suc k) = refl
after_suc m (line ∷ lines) zero = refl
after_suc m (line ∷ lines) (suc k) = after_suc (after_line m line) lines k

-- ---- isolation

same_by : (m : Machine) (line : Line) (name : List ℕ) → home_of line ≢ Some name → IsSameAt name m (after_line m line)
same_by m (Says command) name other = others_stay m command name other
same_by m NoCommand name other = refl
same_by m OutOfRange name other = refl

same_next : (m : Machine) (lines : List Line) (k : ℕ) (name : List ℕ) → home_of (line_at lines k) ≢ Some name → IsSameAt name (after m lines k) (after m lines (suc k))
same_next m lines k name other = subst (IsSameAt name (after m lines k)) (sym (after_suc m lines k)) (same_by (after m lines k) (line_at lines k) name other)

same_all : (m : Machine) (lines : List Line) (name : List ℕ) → ((k : ℕ) → home_of (line_at lines k) ≢ Some name) → (k : ℕ) → IsSameAt name m (after m lines k)
same_all m lines name none zero = refl
same_all m lines name none (suc k) = same_next m lines k name (none k) ∙ same_all m lines name none k

pub are_isolated : (m : Machine) (lines : List Line) → IsAdmitted m → AreIsolated m lines
are_isolated m lines admitted = record {
  others = λ k name other. subst (λ (n : ℕ). IsSameAt name (after m lines k) (after m lines n)) (sym (add-one k)) (same_next m lines k name other);
  untouched = same_all m lines;
  home_decides = λ k command name other says keeps alike. isolated (after m lines k) other name command (admitted_after m lines k admitted) keeps alike;
}

-- ---- the guarantee

-- the reply to line k is one that its machine allows
allowed_at : (m : Machine) (lines : List Line) (replies : List Reply) (k : ℕ) (command : Command) → AnswersAll m lines replies → line_at lines k ≡ Says command
    → Allows (after m lines k) command (get_or replies k Done)
allowed_at m [] replies zero command all says = absurd cc
allowed_at m [] replies (suc k) command all says = absurd cc
allowed_at m (line ∷ lines) [] k command all says = absurd all
allowed_at m (Says c ∷ lines) (reply ∷ replies) zero command all says = let same : c ≡ command = cc in subst (λ (c : Command). Allows m c reply) same all.0
allowed_at m (NoCommand ∷ lines) (reply ∷ replies) zero command all says = absurd cc
allowed_at m (OutOfRange ∷ lines) (reply ∷ replies) zero command all says = absurd cc
allowed_at m (line ∷ lines) (reply ∷ replies) (suc k) command all says = allowed_at (after_line m line) lines replies k command all.1 says

-- a change that is accepted is answered by `ok`
done_by : (m : Machine) (command : Command) (reply : Reply) → is_change command ≡ true → IsAnswer (is_open m command) (answer m command) reply → reply ≡ Done
unfolding answer
done_by m (New v f reserve) reply change is = is
done_by m (Put v f i block) reply change is = is
done_by m (Cut v f length) reply change is = is
done_by m (Remove v f) reply change is = is
done_by m command reply change is = absurd cc

answered_by : (m : Machine) (command : Command) (reply : Reply) (over : Bool) → is_change command ≡ true → refusal m command ≡ cond over (Some VolumeFull) None → Allows m command reply
    → reply ≡ (if over then Refused VolumeFull else Done)
answered_by m command reply true change is allowed = subst (λ (r : Option Refusal). AllowsBy r m command reply) is allowed
answered_by m command reply false change is allowed = done_by m command reply change (subst (λ (r : Option Refusal). AllowsBy r m command reply) is allowed)

pub are_guaranteed : (m : Machine) (lines : List Line) → IsAdmitted m → AreGuaranteed m lines
are_guaranteed m lines admitted = record {
  refused = λ k command name says change. guaranteed (after m lines k) name command (admitted_after m lines k admitted) change;
  answered = λ replies all k command name says change.
      answered_by (after m lines k) command (get_or replies k Done) (is_overcharged (effect (after m lines k) command) name) change.changes
      (guaranteed (after m lines k) name command (admitted_after m lines k admitted) change) (allowed_at m lines replies k command all says);
}
