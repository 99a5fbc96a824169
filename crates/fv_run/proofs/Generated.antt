-- A run of a script that was drawn, from its beginning: its session was opened, or it wasn't.
use Rattle.std.proofs.Common.{◌≡◌, ◌⊎◌, inl, inr, ⊎_elim, ℕ, ◌++◌, List, take, sym, ap, subst, refl, ◌∙◌, arith, append-nil}
use Rattle.std.specs.Prelude.{Some, None, Result, Ok, Err, IsTrue, IfErr, OnOk}
use Rattle.fv_disk.specs.Shown.{Ends, Image, Shown, IsDisk, IsSettled, Rose}
use Rattle.fv_disk.specs.Crash.{Leaves}
use Rattle.fv_disk.proofs.Moments.{goes_on, started, then, weaken}
use Rattle.fv_disk.proofs.Resting.{settled_image}
use Rattle.fv_model.specs.Machines.{Machine}
use Rattle.fv_model.specs.Runs.{Line}
use Rattle.fv_image.specs.WholeMachine.{machine_of}
use Rattle.fv_root.specs.Finding.{IsNoAggregate}
use Rattle.fv_lines.specs.Counts.{Counts}
use Rattle.fv_lines.proofs.Counting.{counts_then}
use Rattle.fv_aggregate.specs.declared.fault.OpenFault.{OpenFault}
use Rattle.fv_aggregate.specs.declared.fault.OpenFault.TheVariants as opening
use Rattle.fv_aggregate.specs.declared.session.Session.{Session}
use Rattle.fv_aggregate.specs.Calls.{SameCounts}
use Rattle.fv_aggregate.specs.Causes.{HasOpenCause, IsOpenFault, IsUnwritten}
use Rattle.fv_aggregate.specs.Opening.{IsOpened}
use Rattle.fv_aggregate.specs.PathShown.{HasPathsOf}
use Rattle.fv_aggregate.specs.Standing.{StandsFor, StandsReady}
use Rattle.fv_run.specs.declared.ending.Fault.{Fault}
use Rattle.fv_run.specs.declared.ending.Fault.TheVariants.{Usage, Unsound, NotAggregate, Source, Sink, Disk, Memory, Damaged, Limit}
use Rattle.fv_run.specs.Answering.{BeginsFor}
use Rattle.fv_run.specs.Endings.{count_of, IsWholeFault, of_opening, raised_by}
use Rattle.fv_run.specs.Generating.{GaveNone, GaveUpTo, Generates, HasGenerated, HasReasonFor, IsHurtWithin, Outlasts, OutlastsFrom, summary_of}
use Rattle.fv_run.specs.Running.{IsUnopened}
use Rattle.fv_run.proofs.EndsKept.{counts_kept, counts_rose}
use Rattle.fv_run.proofs.Sessions.{not_damaged, not_opened}
use Rattle.fv_run.proofs.Summed.{GeneratesOpen, IsLateFault}

module _ (lines : List Line) (old mid : Shown) (laws : IsDisk old) (unwritten : IsUnwritten old mid) where
  -- nothing is given while the aggregate is opened
  first_image : (m : Machine) → machine_of old.reads ≡ Some m → IsSettled old → (g : List ℕ) → g ≡ old.given → (c : Image) → old.images c → Outlasts m lines old.given c g
  first_image m is settled g same c now = record {
    part = 0;
    given = same ∙ sym (append-nil old.given);
    count = 0;
    all = omega arith;
    acknowledged = λ some. absurd (omega (arith, some));
    machine = ap machine_of (settled_image old c settled now) ∙ is;
  }

  crash_opened : (m : Machine) → machine_of old.reads ≡ Some m → IsSettled old → Leaves old mid (Outlasts m lines old.given)
  crash_opened m is settled = goes_on old old mid (Outlasts m lines old.given)
      (started old (Outlasts m lines old.given) laws (λ c now. first_image m is settled old.given refl c now))
      unwritten.time (λ c now. first_image m is settled mid.given unwritten.kept.given c (unwritten.images c now))

  crash_unsettled : (m : Machine) → Leaves old mid (OutlastsFrom m lines old)
  crash_unsettled m = goes_on old old mid (OutlastsFrom m lines old)
      (started old (OutlastsFrom m lines old) laws (λ c now. inl (now, refl)))
      unwritten.time (λ c now. inl (unwritten.images c now, unwritten.kept.given))

  same_left : mid.ends.left ≡ old.ends.left
  same_left = ap (λ (e : Ends). e.left) unwritten.kept.ends

  -- ---- it wasn't opened

  module _ (rest : IsTrue old.tells → ¬ Rose old.write_faults mid.write_faults → IsSettled mid) where
    unopened : (fault : Fault) → Counts old mid (count_of fault) → HasReasonFor lines old mid fault → (IsTrue old.tells → (m : Machine) → machine_of old.reads ≡ Some m → IsWholeFault fault) → (IsTrue old.tells → IsNoAggregate old.reads → IsUnopened (Err fault))
        → ((line : List ℕ) → GaveUpTo line old mid fault) → GaveNone old mid fault → Generates lines old mid (Err fault)
    unopened fault counts reason no_damage how given silent = record {
      done = λ tells m is. tt;
      crash = λ tells m is settled. crash_opened m is settled;
      crash_from = λ tells m is. crash_unsettled m;
      at_rest = λ tells m is calm. record { settled = rest tells calm; first = record { count = 0; all = omega arith; machine = ap machine_of unwritten.reads ∙ is } };
      given = λ tells m is. given (summary_of m lines);
      no_damage = no_damage;
      silent = silent;
      counts = counts;
      reason = reason;
      unopened = how;
      opened = λ tells. inr (refl, unwritten);
      left = same_left;
    }

    pub not_open : (fault : OpenFault) → (IsTrue old.tells → (m : Machine) → machine_of old.reads ≡ Some m → (fault ≡ opening.DiskFault) ⊎ (fault ≡ opening.Memory)) → (IsTrue old.tells → IsOpenFault old.reads fault)
        → HasOpenCause {T = Session} old.faults mid.faults (Err fault) → Generates lines old mid (Err (of_opening fault))
    not_open opening.DiskFault whole is cause = unopened Disk (counts_rose unwritten.kept cause) tt (λ tells m stands. tt) (λ tells none. tt) (λ line. unwritten.kept.given) unwritten.kept.given
    not_open opening.Memory whole is cause = unopened Memory (counts_kept unwritten.kept cause) tt (λ tells m stands. tt) (λ tells none. tt) (λ line. unwritten.kept.given) unwritten.kept.given
    not_open opening.NotAggregate whole is cause = unopened NotAggregate (counts_kept unwritten.kept cause) (unwritten, is) (λ tells m stands. neither (whole tells m stands)) (λ tells none. tt) (λ line. unwritten.kept.given) unwritten.kept.given
      where
        neither : (opening.NotAggregate ≡ opening.DiskFault) ⊎ (opening.NotAggregate ≡ opening.Memory) → ⊥
        neither one = ⊎_elim (λ (e : opening.NotAggregate ≡ opening.DiskFault). cc) (λ (e : opening.NotAggregate ≡ opening.Memory). cc) one
    not_open (opening.Damaged at want found) whole is cause = unopened Damaged (counts_kept unwritten.kept cause) (λ tells. inl (unwritten, (at, want, found, is tells))) (λ tells m stands. neither (whole tells m stands)) (λ tells none. absurd (not_damaged old.reads at want found none (is tells))) (λ line. unwritten.kept.given) unwritten.kept.given
      where
        neither : (opening.Damaged at want found ≡ opening.DiskFault) ⊎ (opening.Damaged at want found ≡ opening.Memory) → ⊥
        neither one = ⊎_elim (λ (e : opening.Damaged at want found ≡ opening.DiskFault). cc) (λ (e : opening.Damaged at want found ≡ opening.Memory). cc) one

  -- ---- it was

  module _ (session : Session) (new : Shown) (stands : StandsReady mid session) (stood : IsTrue old.tells → (m : Machine) → machine_of old.reads ≡ Some m → StandsFor mid session m m) (calm : SameCounts old mid)
      (loaded : IsTrue old.tells → IsOpened old.reads session) (begins : session.pending ≡ 0)
      (opened_paths : IsTrue old.tells → (m : Machine) → machine_of old.reads ≡ Some m → HasPathsOf old.reads mid.reads session) where
    machine : IsTrue old.tells → (m : Machine) → machine_of old.reads ≡ Some m → BeginsFor mid session m
    machine tells m is = record {
      stands = stood tells m is;
      pending = begins;
      paths = subst (λ (i : Image). HasPathsOf i mid.reads session) (sym unwritten.reads) (opened_paths tells m is);
    }

    mid_told : IsTrue old.tells → IsTrue mid.tells
    mid_told tells = rw unwritten.kept.tells tells

    calm_since : ¬ Rose old.write_faults new.write_faults → ¬ Rose mid.write_faults new.write_faults
    calm_since none rose = none (subst (λ (n : ℕ). Rose n new.write_faults) calm.write_faults rose)

    since_given : (output : List ℕ) → new.given ≡ mid.given ++ output → new.given ≡ old.given ++ output
    since_given output is = is ∙ ap (λ (l : List ℕ). l ++ output) unwritten.kept.given

    meanwhile : (m : Machine) → Leaves mid new (Outlasts m lines mid.given) → Leaves mid new (Outlasts m lines old.given)
    meanwhile m crash = subst (λ (g : List ℕ). Leaves mid new (Outlasts m lines g)) unwritten.kept.given crash

    open_counts : Counts old mid None
    open_counts = counts_kept unwritten.kept calm.faults

    done_since : (m : Machine) (result : Result Unit Fault) → OnOk result (HasGenerated m lines mid new) → OnOk result (HasGenerated m lines old new)
    done_since m (Ok done) h = record { settled = h.settled; stands = h.stands; given = since_given (summary_of m lines) h.given }
    done_since m (Err fault) h = tt

    gave_since : (line : List ℕ) (fault : Fault) → GaveUpTo line mid new fault → GaveUpTo line old new fault
    gave_since line Usage is = is ∙ unwritten.kept.given
    gave_since line Unsound is = is ∙ unwritten.kept.given
    gave_since line NotAggregate is = is ∙ unwritten.kept.given
    gave_since line Source is = is ∙ unwritten.kept.given
    gave_since line Sink is = (is.0, is.1, since_given (take is.0 line) is.2)
    gave_since line Disk is = is ∙ unwritten.kept.given
    gave_since line Memory is = is ∙ unwritten.kept.given
    gave_since line Damaged is = is ∙ unwritten.kept.given
    gave_since line Limit is = is ∙ unwritten.kept.given

    gaves_since : (line : List ℕ) (result : Result Unit Fault) → IfErr result (GaveUpTo line mid new) → IfErr result (GaveUpTo line old new)
    gaves_since line (Ok done) is = tt
    gaves_since line (Err fault) is = gave_since line fault is

    silent_by : (fault : Fault) → GaveNone mid new fault → GaveNone old new fault
    silent_by Usage is = is ∙ unwritten.kept.given
    silent_by Unsound is = is ∙ unwritten.kept.given
    silent_by NotAggregate is = is ∙ unwritten.kept.given
    silent_by Source is = is ∙ unwritten.kept.given
    silent_by Sink is = tt
    silent_by Disk is = is ∙ unwritten.kept.given
    silent_by Memory is = is ∙ unwritten.kept.given
    silent_by Damaged is = is ∙ unwritten.kept.given
    silent_by Limit is = is ∙ unwritten.kept.given

    silent_since : (result : Result Unit Fault) → IfErr result (GaveNone mid new) → IfErr result (GaveNone old new)
    silent_since (Ok done) is = tt
    silent_since (Err fault) is = silent_by fault is

    reason_by : (fault : Fault) → IsLateFault lines mid.reads session new fault → HasReasonFor lines old new fault
    reason_by Usage is = is
    reason_by Unsound is = is
    reason_by NotAggregate is = absurd is
    reason_by Source is = is
    reason_by Sink is = tt
    reason_by Disk is = tt
    reason_by Memory is = tt
    reason_by Damaged is = λ tells. inr (record { first = session; opened = loaded tells; meets = subst (λ (i : Image). IsHurtWithin lines i session new) unwritten.reads is })
    reason_by Limit is = is

    reason_since : (result : Result Unit Fault) → IfErr result (IsLateFault lines mid.reads session new) → IfErr result (HasReasonFor lines old new)
    reason_since (Ok done) is = tt
    reason_since (Err fault) is = reason_by fault is

    pub generates : (result : Result Unit Fault) → GeneratesOpen lines session mid new result → Generates lines old new result
    generates result r = record {
      done = λ tells m is. done_since m result (r.done (mid_told tells) m (machine tells m is));
      crash = λ tells m is settled. then old mid new (Outlasts m lines old.given) (crash_opened m is settled) (meanwhile m (r.crash (mid_told tells) m (machine tells m is)));
      crash_from = λ tells m is. then old mid new (OutlastsFrom m lines old) (crash_unsettled m)
          (weaken mid new (Outlasts m lines old.given) (OutlastsFrom m lines old) (λ (c : Image) (g : List ℕ) s. inr s) (meanwhile m (r.crash (mid_told tells) m (machine tells m is))));
      at_rest = λ tells m is none. r.at_rest (mid_told tells) m (machine tells m is) (calm_since none);
      given = λ tells m is. gaves_since (summary_of m lines) result (r.given (mid_told tells) m (machine tells m is));
      no_damage = λ tells m is. r.no_damage (mid_told tells) m (machine tells m is);
      silent = silent_since result r.silent;
      counts = counts_then old mid new (raised_by result) open_counts r.counts;
      reason = reason_since result r.reason;
      unopened = λ tells none. absurd (not_opened mid session (mid_told tells) stands (rw unwritten.reads none));
      opened = λ tells. inl (session, loaded tells);
      left = r.left ∙ same_left;
    }

-- the lines by whatever name
pub renamed : (lines others : List Line) (old new : Shown) (result : Result Unit Fault) → lines ≡ others → Generates lines old new result → Generates others old new result
renamed lines others old new result is holds = subst (λ (l : List Line). Generates l old new result) is holds
