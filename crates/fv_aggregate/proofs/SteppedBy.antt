-- What calls of background steps do as `apply` tells it: the machine stays.
use Rattle.std.proofs.Common.{◌≡◌, ℕ, Bool, true, false, not, Option, Some, None, Result, Ok, Err, refl, sym, ap, subst, ◌∙◌, arith}
use Rattle.std.specs.Prelude.{if◌then◌else◌, IfErr, IsNone, IsTrue, OnErr, OnOk}
use Rattle.fv_disk.specs.Shown.{IsDisk, Shown}
use Rattle.fv_model.specs.declared.answers.Refusal.{Refusal}
use Rattle.fv_model.specs.declared.answers.Refusal.TheVariants.{Range}
use Rattle.fv_model.specs.declared.answers.Reply.{Reply}
use Rattle.fv_model.specs.declared.answers.Reply.TheVariants.{Done, Refused}
use Rattle.fv_model.specs.declared.commands.Command.TheVariants.{Work}
use Rattle.fv_model.specs.Machines.{Machine}
use Rattle.fv_model.specs.Numbers.{is_step_count}
use Rattle.fv_model.specs.Refusals.{conditions, refusal}
use Rattle.fv_model.specs.Replies.{answer, Allows, AllowsBy}
use Rattle.fv_aggregate.specs.declared.fault.Fault.{Fault}
use Rattle.fv_aggregate.specs.declared.fault.Fault.TheVariants.{DiskFault, Damaged, Memory, Failed}
use Rattle.fv_aggregate.specs.declared.session.Session.{Session}
use Rattle.fv_aggregate.specs.Calls.{GoesFor, IsUntouched, SameCounts}
use Rattle.fv_aggregate.specs.Cleaning.{GoesInSteps, HasStepsFault, TakesAll}
use Rattle.fv_aggregate.specs.Standing.{StandsAfter, StandsFor, StandsReady}
use Rattle.fv_aggregate.specs.Working.{AreKnown, Backs, HasWorkFault, StaysFor, Works}
use Rattle.fv_aggregate.proofs.Calls.{reads_itself}
use Rattle.fv_aggregate.proofs.Keeping.{keeps_same}
use Rattle.fv_aggregate.proofs.Worked.{backs_ok}
use Rattle.fv_aggregate.proofs.WorkedCalls.{backs_err}

-- ---- any call of steps

module _ {T : Type 0} (count : ℕ) (d : Shown) (s : Session) (fresh : IsNone s.failed) (e : Shown) (n : Session) where
  pub in_steps : (r : Result T Fault) → Backs count d s e n r → GoesInSteps d s e n r
  in_steps r is = record { ends = is.ends; stands = is.stands; done = done r is.done; fault = fault r is.fault; within = is.within }
    where
      done : (r : Result T Fault) → OnOk r (IsNone n.failed × SameCounts d e) → OnOk r (IsNone s.failed × (IsNone n.failed × SameCounts d e))
      done (Ok x) is = (fresh, is)
      done (Err f) is = tt

      fault : (r : Result T Fault) → IfErr r (HasWorkFault d e n) → IfErr r (HasStepsFault d s e n)
      fault (Ok x) is = tt
      fault (Err DiskFault) is = record { reason = fresh; counts = is.0; session = is.1; disk = tt }
      fault (Err (Damaged at want found)) is = record { reason = is.0; counts = is.1.0; session = is.1.1; disk = fresh }
      fault (Err Memory) is = record { reason = fresh; counts = is.0; session = is.1; disk = tt }
      fault (Err (Failed faults)) is = absurd is

  -- where the session stands for a machine it does so afterwards
  pub goes_for_steps : (r : Result T Fault) → Backs count d s e n r → IsTrue d.tells → (last m : Machine) → StandsFor d s last m
      → GoesFor d last m m e n r
  goes_for_steps r is tells last m stands = record {
    any_moment = stays.any_moment;
    done = done r is.done;
    still = still r;
    whole = is.whole tells last m stands;
  }
    where
      stays : StaysFor d last m e n
      stays = is.stays tells last m stands

      done : (r : Result T Fault) → OnOk r (IsNone n.failed × SameCounts d e) → OnOk r (StandsAfter e n last m m)
      done (Ok x) is = stays.stands is.0
      done (Err f) is = tt

      still : (r : Result T Fault) → IsNone n.failed → OnErr r (StandsAfter e n last m m)
      still (Ok x) none = tt
      still (Err f) none = stays.stands none

-- what was done is done, whatever is answered
pub backs_done : {T U : Type 0} (count : ℕ) (d : Shown) (s : Session) (e : Shown) (n : Session) (x : T) (y : U)
    → Backs count d s e n (Ok x) → Backs count d s e n (Ok y)
backs_done count d s e n x y is = record {
  ends = is.ends;
  stands = is.stands;
  done = is.done;
  fault = tt;
  pending = is.pending;
  within = is.within;
  numbers = is.numbers;
  whole = λ tells last m stands. tt;
  stays = is.stays;
}

-- ---- `work`

asked_in : (m : Machine) (steps : ℕ) → refusal m (Work steps) ≡ (if not (is_step_count steps) then Some Range else None)
unfolding conditions
asked_in m steps = refl

pub far_allows : (m : Machine) (steps : ℕ) → is_step_count steps ≡ false → Allows m (Work steps) (Refused Range)
far_allows m steps far = subst (λ (r : Option Refusal). AllowsBy r m (Work steps) (Refused Range))
    (sym (asked_in m steps ∙ ap (λ (b : Bool). if not b then Some Range else None) far)) refl

pub work_allows : (m : Machine) (steps : ℕ) → is_step_count steps ≡ true → Allows m (Work steps) Done
unfolding answer
work_allows m steps near = subst (λ (r : Option Refusal). AllowsBy r m (Work steps) Done)
    (sym (asked_in m steps ∙ ap (λ (b : Bool). if not b then Some Range else None) near)) refl

module _ {D : Type 0} (steps : ℕ) (shown : D → Shown) (before : D) (laws : IsDisk (shown before)) (old : Session) (fresh : IsNone old.failed)
    (ready : StandsReady (shown before) old) where
  -- their number is out of range
  pub takes_none : is_step_count steps ≡ false → TakesAll steps (shown before) before old (shown before) before old (Ok (Refused Range))
  takes_none far = record {
    goes = in_steps 0 d old fresh d old (Ok (Refused Range)) rests;
    numbers = rests.numbers;
    goes_for = goes_for_steps 0 d old fresh d old (Ok (Refused Range)) rests;
    reply = λ tells last m stands. far_allows m steps far;
    takes = record { far = λ far. (refl, (refl, refl)); taken = λ near. absurd (both near); idle = λ near. absurd (both near); undone = λ tells last m is none still. tt; calm = λ few. reads_itself d };
  }
    where
      d : Shown
      d = shown before

      rests : Backs 0 d old d old (Ok (Refused Range))
      rests = backs_ok d d laws old old 0 (reads_itself d) fresh ready (omega arith) (omega arith) (keeps_same old.volumes old.volumes refl)
          (λ tells last m is. is) (Refused Range) refl

      both : is_step_count steps ≡ true → ⊥
      both near = let wrong : ◌≡◌ {A = Bool} true false = sym near ∙ far in cc

  module _ (near : is_step_count steps ≡ true) (after : D) (new : Session) where
    not_far : {X : Type 0} → is_step_count steps ≡ false → X
    not_far far = absurd (let wrong : ◌≡◌ {A = Bool} true false = sym near ∙ far in cc)

    pub takes_all : (taken : ℕ) → Works steps (shown before) old (shown after) new (Ok taken)
        → (AreKnown old.volumes → ◌≡◌ {A = Result ℕ Fault} (Ok taken) (Ok 0) × IsUntouched before old after new)
        → TakesAll steps (shown before) before old (shown after) after new (Ok Done)
    takes_all taken works idle = record {
      goes = in_steps steps (shown before) old fresh (shown after) new (Ok Done) done;
      numbers = done.numbers;
      goes_for = goes_for_steps steps (shown before) old fresh (shown after) new (Ok Done) done;
      reply = λ tells last m stands. work_allows m steps near;
      takes = record { far = λ far. not_far far; taken = λ near. (refl, (taken, works.worked)); idle = λ near known. (refl, (idle known).1); undone = λ tells last m is none still. tt; calm = works.calm };
    }
      where
        done : Backs {T = Reply} steps (shown before) old (shown after) new (Ok Done)
        done = backs_done steps (shown before) old (shown after) new taken Done works.backs

    pub takes_fault : (f : Fault) → Works steps (shown before) old (shown after) new (Err f)
        → (AreKnown old.volumes → ◌≡◌ {A = Result ℕ Fault} (Err f) (Ok 0) × IsUntouched before old after new)
        → TakesAll steps (shown before) before old (shown after) after new (Err f)
    takes_fault f works idle = record {
      goes = in_steps steps (shown before) old fresh (shown after) new (Err f) undone;
      numbers = undone.numbers;
      goes_for = goes_for_steps steps (shown before) old fresh (shown after) new (Err f) undone;
      reply = λ tells last m stands. tt;
      takes = record { far = λ far. not_far far; taken = λ near. tt; idle = λ near known. (let wrong = (idle known).0 in absurd cc); undone = works.undone; calm = works.calm };
    }
      where
        undone : Backs {T = Reply} steps (shown before) old (shown after) new (Err f)
        undone = backs_err steps steps (omega arith) (shown before) old (shown after) new f works.backs
