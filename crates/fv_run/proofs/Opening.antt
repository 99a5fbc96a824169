-- A run up to its opened session, and a run that isn't opened.
use Rattle.std.proofs.Common.{◌≡◌, ◌⊎◌, inl, inr, ⊎_elim, ℕ, List, [], length, sym, ap, ◌∙◌, refl, arith, append-nil}
use Rattle.std.specs.Prelude.{Some, Result, Err, IsTrue}
use Rattle.fv_disk.specs.Shown.{Ends, Image, Shown, IsDisk, IsSettled, Rose}
use Rattle.fv_disk.specs.Crash.{Leaves}
use Rattle.fv_disk.proofs.Moments.{started, goes_on}
use Rattle.fv_disk.proofs.Resting.{settled_image}
use Rattle.fv_model.specs.Machines.{Machine}
use Rattle.fv_model.specs.Runs.{Line}
use Rattle.fv_image.specs.WholeMachine.{machine_of}
use Rattle.fv_root.specs.Finding.{IsNoAggregate}
use Rattle.fv_lines.specs.Counts.{Counts}
use Rattle.fv_aggregate.specs.declared.fault.OpenFault.{OpenFault}
use Rattle.fv_aggregate.specs.declared.fault.OpenFault.TheVariants as opening
use Rattle.fv_aggregate.specs.declared.session.Session.{Session}
use Rattle.fv_aggregate.specs.Causes.{HasOpenCause, IsOpenFault, IsUnwritten}
use Rattle.fv_run.specs.declared.ending.Fault.{Fault}
use Rattle.fv_run.specs.declared.ending.Fault.TheVariants.{NotAggregate, Disk, Memory, Damaged}
use Rattle.fv_run.specs.Built.{lines_built}
use Rattle.fv_run.specs.Endings.{count_of, IsWholeFault, of_opening}
use Rattle.fv_run.specs.Running.{HasFollowed, HasReason, IsAtRest, IsOverLimit, IsUnopened, Ran, Survives, SurvivesFrom}
use Rattle.fv_run.proofs.EndsKept.{counts_kept, counts_rose}
use Rattle.fv_run.proofs.ProbesAlong.{probes_answered}
use Rattle.fv_run.proofs.Admitted.{image_is_admitted}
use Rattle.fv_run.proofs.Acked.{acked_part, up_to_take}
use Rattle.fv_run.proofs.Following.{follows_first}
use Rattle.fv_run.proofs.KeepingUp.{keeps_up_unread}
use Rattle.fv_run.proofs.Promises.{are_guaranteed, are_isolated}
use Rattle.fv_run.proofs.Sessions.{not_damaged}
use Rattle.fv_run.proofs.Surviving.{after_some}
use Rattle.fv_run.proofs.Answered.{survives}

module _ (limit : ℕ) (old mid : Shown) (laws : IsDisk old) (unwritten : IsUnwritten old mid) where
  abbrev script : List Line
  script = lines_built old.ends.left

  first_image : (m : Machine) → machine_of old.reads ≡ Some m → IsSettled old → (g : List ℕ) → g ≡ old.given → (c : Image) → old.images c → Survives m script old.given c g
  first_image m is settled g same c now = survives m script old.given c g [] (same ∙ sym (append-nil old.given))
      (after_some m script 0 0 [] c refl (omega arith) (up_to_take 0 script (omega arith)) (omega arith) (omega arith) (ap machine_of (settled_image old c settled now) ∙ is))

  pub crash_opened : (m : Machine) → machine_of old.reads ≡ Some m → IsSettled old → Leaves old mid (Survives m script old.given)
  crash_opened m is settled = goes_on old old mid (Survives m script old.given)
      (started old (Survives m script old.given) laws (λ c now. first_image m is settled old.given refl c now))
      unwritten.time (λ c now. first_image m is settled mid.given unwritten.kept.given c (unwritten.images c now))

  pub crash_unsettled : (m : Machine) → Leaves old mid (SurvivesFrom m script old)
  crash_unsettled m = goes_on old old mid (SurvivesFrom m script old)
      (started old (SurvivesFrom m script old) laws (λ c now. inl (now, refl)))
      unwritten.time (λ c now. inl (unwritten.images c now, unwritten.kept.given))

  none_given : (m : Machine) → HasFollowed m script old mid
  none_given m = record {
    output = [];
    given = unwritten.kept.given ∙ sym (append-nil old.given);
    follows = follows_first m script 0 [] tt;
    probes = probes_answered m script old.reads [] [] [] 0 refl (omega arith) tt (λ k less. absurd (omega (arith, less)))
        (λ k less. absurd (omega (arith, less)));
  }

  none_taken : IsOverLimit limit old mid → ⊥
  none_taken past = let same : mid.ends.left ≡ old.ends.left = ap (λ (e : Ends). e.left) unwritten.kept.ends in omega (arith, past.taken, ap (λ (l : List ℕ). length l) same)

  rested : (m : Machine) (result : Result Unit Fault) → machine_of old.reads ≡ Some m → IsSettled mid → IsAtRest m script result old mid
  rested m result is settled = record {
    output = [];
    given = unwritten.kept.given ∙ sym (append-nil old.given);
    count = 0;
    acknowledged = rw (acked_part script [] 0 refl (omega arith)) (up_to_take 0 script (omega arith));
    all = omega arith;
    answered = omega arith;
    asked = inl (omega (arith, acked_part script [] 0 refl (omega arith), up_to_take 0 script (omega arith)));
    machine = ap machine_of unwritten.reads ∙ is;
    settled = settled;
  }

  module _ (rest : IsTrue old.tells → ¬ Rose old.write_faults mid.write_faults → IsSettled mid) where
    unopened : (fault : Fault) → Counts old mid (count_of fault) → HasReason limit old mid fault → (IsTrue old.tells → (m : Machine) → machine_of old.reads ≡ Some m → IsWholeFault fault) → (IsTrue old.tells → IsNoAggregate old.reads → IsUnopened (Err fault)) → Ran limit old mid (Err fault)
    unopened fault counts reason no_damage how = record {
      replies = λ tells m is. none_given m;
      done = λ tells m is. tt;
      crash = λ tells m is settled. crash_opened m is settled;
      crash_from = λ tells m is. crash_unsettled m;
      at_rest = λ tells m is calm. rested m (Err fault) is (rest tells calm);
      pointed = λ tells. tt;
      no_damage = no_damage;
      isolated = λ tells m is. are_isolated m script (image_is_admitted old.reads m is);
      guaranteed = λ tells m is. are_guaranteed m script (image_is_admitted old.reads m is);
      counts = counts;
      reason = reason;
      unopened = how;
      quiet_for = λ tells m is output given asks. unwritten.reads;
      quiet = λ tells output given asks. unwritten.reads;
      opened = λ tells. inr (refl, unwritten);
      cut_off = λ tells past. absurd (none_taken past);
      keeps_up = λ tells. keeps_up_unread limit old mid (Err fault) (unwritten.kept.given ∙ sym (append-nil old.given)) (ap (λ (e : Ends). e.left) unwritten.kept.ends);
    }

    pub not_open : (fault : OpenFault) → (IsTrue old.tells → (m : Machine) → machine_of old.reads ≡ Some m → (fault ≡ opening.DiskFault) ⊎ (fault ≡ opening.Memory)) → (IsTrue old.tells → IsOpenFault old.reads fault)
        → HasOpenCause {T = Session} old.faults mid.faults (Err fault) → Ran limit old mid (Err (of_opening fault))
    not_open opening.DiskFault whole is cause = unopened Disk (counts_rose unwritten.kept cause) tt (λ tells m stands. tt) (λ tells none. tt)
    not_open opening.Memory whole is cause = unopened Memory (counts_kept unwritten.kept cause) tt (λ tells m stands. tt) (λ tells none. tt)
    not_open opening.NotAggregate whole is cause = unopened NotAggregate (counts_kept unwritten.kept cause) (unwritten, is) (λ tells m stands. neither (whole tells m stands)) (λ tells none. tt)
      where
        neither : (opening.NotAggregate ≡ opening.DiskFault) ⊎ (opening.NotAggregate ≡ opening.Memory) → ⊥
        neither one = ⊎_elim (λ (e : opening.NotAggregate ≡ opening.DiskFault). cc) (λ (e : opening.NotAggregate ≡ opening.Memory). cc) one
    not_open (opening.Damaged at want found) whole is cause = unopened Damaged (counts_kept unwritten.kept cause) (λ tells. inl (unwritten, (at, want, found, is tells))) (λ tells m stands. neither (whole tells m stands)) (λ tells none. absurd (not_damaged old.reads at want found none (is tells)))
      where
        neither : (opening.Damaged at want found ≡ opening.DiskFault) ⊎ (opening.Damaged at want found ≡ opening.Memory) → ⊥
        neither one = ⊎_elim (λ (e : opening.Damaged at want found ≡ opening.DiskFault). cc) (λ (e : opening.Damaged at want found ≡ opening.Memory). cc) one
