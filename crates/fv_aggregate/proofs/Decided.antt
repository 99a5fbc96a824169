-- Commands that make a volume are decided by the volumes alone, and nothing is decided for the others.
use Rattle.std.proofs.Common.{◌≡◌, ◌⊎◌, ⊎_elim, ℕ, true, false, true≢false, Result, Ok, Err, is_some, refl, sym, subst}
use Rattle.std.specs.Prelude.{IfOk}
use Rattle.fv_model.specs.declared.answers.Refusal.{Refusal}
use Rattle.fv_model.specs.declared.answers.Reply.{Reply}
use Rattle.fv_model.specs.declared.answers.Reply.TheVariants.{Done}
use Rattle.fv_model.specs.declared.commands.Command.{Command}
use Rattle.fv_model.specs.declared.commands.Command.TheVariants.{VolCreate, CloneCreate, Mirror, Clean, Work}
use Rattle.fv_volume.specs.States.{States}
use Rattle.fv_aggregate.specs.declared.fault.Fault.{Fault}
use Rattle.fv_aggregate.specs.Commands.{is_built, managed_by, takes_steps}
use Rattle.fv_aggregate.specs.Deciding.{makes_volume, DecidesMaking, IsDecided}

-- what was done was admitted
pub done_decided : (cause : Refusal → Type 0) (admitted : Type 0) → admitted → (result : Result Reply Fault) → IfOk result (λ reply. reply ≡ Done) → IfOk result (IsDecided cause admitted)
done_decided cause admitted it (Ok reply) done = subst (IsDecided cause admitted) (sym done) it
done_decided cause admitted it (Err fault) done = tt

one_undecided : (states : States) (blocks : ℕ) (c : Command) → makes_volume c ≡ false → (reply : Reply) → DecidesMaking states blocks c reply
one_undecided states blocks (VolCreate name size kind) none reply = absurd (true≢false none)
one_undecided states blocks (CloneCreate clone parent snapshot size kind) none reply = absurd (true≢false none)
one_undecided states blocks (Mirror source snapshot mirror size kind) none reply = absurd (true≢false none)
one_undecided states blocks c none reply = tt

-- a command that makes no volume
pub undecided : (states : States) (blocks : ℕ) (c : Command) → makes_volume c ≡ false → (result : Result Reply Fault) → IfOk result (DecidesMaking states blocks c)
undecided states blocks c none (Ok reply) = one_undecided states blocks c none reply
undecided states blocks c none (Err fault) = tt

-- such is each on a whole volume, and each that isn't built
pub managed_undecided : (c : Command) → (is_some (managed_by c) ≡ true) ⊎ (is_built c ≡ false) → makes_volume c ≡ false
unfolding is_built
managed_undecided (VolCreate name size kind) either = absurd (⊎_elim (λ some. true≢false (sym some)) (λ none. true≢false none) either)
managed_undecided (CloneCreate clone parent snapshot size kind) either = absurd (⊎_elim (λ some. true≢false (sym some)) (λ none. true≢false none) either)
managed_undecided (Mirror source snapshot mirror size kind) either = absurd (⊎_elim (λ some. true≢false (sym some)) (λ none. true≢false none) either)
managed_undecided c either = refl

-- nor takes one of these steps
pub managed_at_once : (c : Command) → (is_some (managed_by c) ≡ true) ⊎ (is_built c ≡ false) → takes_steps c ≡ false
unfolding is_built
managed_at_once (Clean name) either = absurd (⊎_elim (λ some. true≢false (sym some)) (λ none. true≢false none) either)
managed_at_once (Work steps) either = absurd (⊎_elim (λ some. true≢false (sym some)) (λ none. true≢false none) either)
managed_at_once c either = refl
