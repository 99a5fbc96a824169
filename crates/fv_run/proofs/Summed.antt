-- All lines of a script are applied; then come the last consistency point and the line that tells of them.
use Rattle.std.proofs.Common.{◌≡◌, ◌⊎◌, ⊎_elim, ℕ, ◌-◌, ◌<◌, ◌++◌, List, [], length, take, refl, sym, ap, subst, ◌∙◌, arith, append-nil}
use Rattle.std.specs.Prelude.{Some, None, Result, Ok, Err, IsNone, IsTrue, IfErr, OnOk}
use Rattle.std.proofs.lemmas.List.{take_all}
use Rattle.fv_disk.specs.Shown.{Ends, Image, Shown, Rose}
use Rattle.fv_disk.specs.Crash.{Leaves}
use Rattle.fv_disk.specs.Partly.{PartlyGiven}
use Rattle.fv_disk.proofs.Moments.{then, weaken}
use Rattle.fv_model.specs.Machines.{Machine}
use Rattle.fv_model.specs.Runs.{Line, after}
use Rattle.fv_image.specs.WholeMachine.{machine_of}
use Rattle.fv_script.specs.Summary.{summary}
use Rattle.fv_lines.specs.Counts.{Counts}
use Rattle.fv_lines.proofs.Counting.{counts_then}
use Rattle.fv_lines.proofs.Counting as counting
use Rattle.fv_aggregate.specs.Commands.{AsksPoint}
use Rattle.fv_aggregate.specs.declared.fault.Fault.{Fault as SessionFault}
use Rattle.fv_aggregate.specs.declared.fault.Fault.TheVariants as session_fault
use Rattle.fv_aggregate.specs.declared.session.Session.{Session}
use Rattle.fv_aggregate.specs.Calls.{Goes, GoesFor}
use Rattle.fv_aggregate.specs.Causes.{KeepsEnds}
use Rattle.fv_aggregate.specs.Standing.{OneOf, StandsFor, charged_in}
use Rattle.fv_run.specs.declared.ending.Fault.{Fault}
use Rattle.fv_run.specs.declared.ending.Fault.TheVariants.{Usage, Unsound, NotAggregate, Source, Sink, Disk, Memory, Damaged, Limit}
use Rattle.fv_run.specs.declared.generating.Tally.{Tally}
use Rattle.fv_run.specs.Answering.{BeginsFor, HasApplied}
use Rattle.fv_run.specs.Endings.{count_of, IsWholeFault, of_session, raised_by}
use Rattle.fv_run.specs.Generating.{accepted, AppliedAt, GaveNone, GaveUpTo, HasGenerated, IsAfterFirst, IsAtRestAfter, IsCallFault, IsHurtWithin, Outlasts, Silent, summary_of, TellsSummary, WasCut}
use Rattle.fv_run.proofs.EndsKept.{counts_kept, counts_rose}
use Rattle.fv_run.proofs.Sessions.{hurt_by, hurt_last, images_stand, never_failed, reads_stand, rests_standing_for}

-- a fault that a run may end with once its session is open
abbrev pub IsLateFault : List Line → Image → Session → Shown → Fault → Type 0
IsLateFault lines i first new Sink = Unit {0}
IsLateFault lines i first new Disk = Unit {0}
IsLateFault lines i first new Memory = Unit {0}
IsLateFault lines i first new Damaged = IsHurtWithin lines i first new
IsLateFault lines i first new fault = ⊥

-- of a session that was opened at `mid`
pub record GeneratesOpen (lines : List Line) (first : Session) (mid new : Shown) (result : Result Unit Fault) : Type 0 where
  pub done : IsTrue mid.tells → (m : Machine) → BeginsFor mid first m → OnOk result (HasGenerated m lines mid new)
  pub crash : IsTrue mid.tells → (m : Machine) → BeginsFor mid first m → Leaves mid new (Outlasts m lines mid.given)
  pub at_rest : IsTrue mid.tells → (m : Machine) → BeginsFor mid first m → ¬ Rose mid.write_faults new.write_faults → IsAtRestAfter m lines new
  pub given : IsTrue mid.tells → (m : Machine) → BeginsFor mid first m → IfErr result (GaveUpTo (summary_of m lines) mid new)
  pub no_damage : IsTrue mid.tells → (m : Machine) → BeginsFor mid first m → IfErr result IsWholeFault
  pub silent : IfErr result (GaveNone mid new)
  pub counts : Counts mid new (raised_by result)
  pub reason : IfErr result (IsLateFault lines mid.reads first new)
  pub left : new.ends.left ≡ mid.ends.left

-- before a byte of the line is given
outlasts : (m : Machine) (lines : List Line) (before : List ℕ) (c : Image) (g : List ℕ) → Silent m lines before c g → Outlasts m lines before c g
outlasts m lines before c g s = record {
  part = 0;
  given = s.1 ∙ sym (append-nil before);
  count = s.0.count;
  all = s.0.all;
  acknowledged = λ some. absurd (omega (arith, some));
  machine = s.0.machine;
}

-- ---- a run that was cut

gave_up : (lines : List Line) (i : Image) (first : Session) (line : List ℕ) (old new : Shown) (fault : Fault) → IsCallFault lines i first new fault → new.given ≡ old.given → GaveUpTo line old new fault
gave_up lines i first line old new Usage is same = same
gave_up lines i first line old new Unsound is same = same
gave_up lines i first line old new NotAggregate is same = same
gave_up lines i first line old new Source is same = same
gave_up lines i first line old new Sink is same = absurd is
gave_up lines i first line old new Disk is same = same
gave_up lines i first line old new Memory is same = same
gave_up lines i first line old new Damaged is same = same
gave_up lines i first line old new Limit is same = same

gave_none : (old new : Shown) (fault : Fault) → new.given ≡ old.given → GaveNone old new fault
gave_none old new Usage same = same
gave_none old new Unsound same = same
gave_none old new NotAggregate same = same
gave_none old new Source same = same
gave_none old new Sink same = tt
gave_none old new Disk same = same
gave_none old new Memory same = same
gave_none old new Damaged same = same
gave_none old new Limit same = same

late : (lines : List Line) (i : Image) (first : Session) (new : Shown) (fault : Fault) → IsCallFault lines i first new fault → IsLateFault lines i first new fault
late lines i first new Usage is = is
late lines i first new Unsound is = is
late lines i first new NotAggregate is = is
late lines i first new Source is = is
late lines i first new Sink is = tt
late lines i first new Disk is = tt
late lines i first new Memory is = tt
late lines i first new Damaged is = is
late lines i first new Limit is = is

pub cut_open : (lines : List Line) (first : Session) (mid new : Shown) (fault : Fault) → WasCut lines first mid new fault → GeneratesOpen lines first mid new (Err fault)
cut_open lines first mid new fault cut = record {
  done = λ tells m begins. tt;
  crash = λ tells m begins. weaken mid new (Silent m lines mid.given) (Outlasts m lines mid.given) (outlasts m lines mid.given) (cut.crash tells m begins);
  at_rest = cut.at_rest;
  given = λ tells m begins. gave_up lines mid.reads first (summary_of m lines) mid new fault cut.reason cut.given;
  no_damage = cut.no_damage;
  silent = gave_none mid new fault cut.given;
  counts = cut.counts;
  reason = late lines mid.reads first new fault cut.reason;
  left = cut.left;
}

-- ---- the last point

module _ (lines : List Line) (first : Session) (mid : Shown) (session : Session) (end : Shown) (tally : Tally) (all : tally.lines ≡ length lines) (s : AppliedAt lines [] first mid session end tally.lines tally.accepted) where
  end_told : IsTrue mid.tells → IsTrue end.tells
  end_told tells = rw s.counts.tells tells

  calm_since : (new : Shown) → ¬ Rose mid.write_faults new.write_faults → ¬ Rose end.write_faults new.write_faults
  calm_since new calm rose = calm (subst (λ (n : ℕ). Rose n new.write_faults) s.writes rose)

  module _ (next : Session) (point : Shown) (meanwhile : IsTrue end.tells → (before m : Machine) → StandsFor end session before m → Leaves end point (λ c g. OneOf before m m c × (g ≡ end.given))) (keeps : KeepsEnds end point) where
    some : (m : Machine) (a : HasApplied m lines mid session end tally.lines) (c : Image) → OneOf (after m lines a.point) (after m lines tally.lines) (after m lines tally.lines) c → IsAfterFirst m lines c
    some m a c one =
        let now : machine_of c ≡ Some (after m lines tally.lines) → IsAfterFirst m lines c = λ e. record { count = tally.lines; all = s.within; machine = e } in
        ⊎_elim
        (λ (e : machine_of c ≡ Some (after m lines a.point)). record { count = a.point; all = let most = a.most in let within = s.within in omega (arith, most, within); machine = e })
        (λ (others : (machine_of c ≡ Some (after m lines tally.lines)) ⊎ (machine_of c ≡ Some (after m lines tally.lines))). ⊎_elim now now others)
        one

    crash_point : IsTrue mid.tells → (m : Machine) → BeginsFor mid first m → Leaves mid point (Silent m lines mid.given)
    crash_point tells m begins =
        let a = s.applied tells m begins in
        then mid end point (Silent m lines mid.given) (s.crash tells m begins)
        (weaken end point (λ c g. OneOf (after m lines a.point) (after m lines tally.lines) (after m lines tally.lines) c × (g ≡ end.given)) (Silent m lines mid.given)
        (λ (c : Image) (g : List ℕ) one. (some m a c one.0, one.1 ∙ s.given)) (meanwhile (end_told tells) (after m lines a.point) (after m lines tally.lines) a.stands))

    -- it wasn't made
    point_cut : (fault : Fault) → Counts end point (count_of fault) → (IsTrue end.tells → (before m : Machine) → StandsFor end session before m → ¬ Rose end.write_faults point.write_faults → StandsFor point next before m)
        → (IsTrue mid.tells → (m : Machine) → BeginsFor mid first m → IsWholeFault fault) → IsCallFault lines mid.reads first point fault → WasCut lines first mid point fault
    point_cut fault counts still no_damage reason = record {
      crash = crash_point;
      at_rest = λ tells m begins calm.
          let a = s.applied tells m begins in
          let stands = still (end_told tells) (after m lines a.point) (after m lines tally.lines) a.stands (calm_since point calm) in
          record {
            settled = stands.settled;
            first = record { count = a.point; all = let most = a.most in let within = s.within in omega (arith, most, within); machine = reads_stand point next (after m lines a.point) (after m lines tally.lines) stands };
          };
      no_damage = no_damage;
      counts = counts_then mid end point (count_of fault) s.counts counts;
      reason = reason;
      given = keeps.given ∙ s.given;
      left = ap (λ (e : Ends). e.left) keeps.ends ∙ s.left;
    }

    -- it was made, and the line was given, or not
    module _ (done : IsTrue end.tells → (before m : Machine) → StandsFor end session before m → StandsFor point next m m) (calm : point.faults ≡ end.faults)
        (charged : ℕ) (sums : (last m : Machine) → StandsFor point next last m → charged ≡ charged_in m) (new : Shown) where
      point_told : IsTrue mid.tells → IsTrue point.tells
      point_told tells = rw keeps.tells (end_told tells)

      point_counts : Counts mid point None
      point_counts = counts_then mid end point None s.counts (counts_kept keeps calm)

      point_given : point.given ≡ mid.given
      point_given = keeps.given ∙ s.given

      stands_point : IsTrue mid.tells → (m : Machine) → BeginsFor mid first m → StandsFor point next (after m lines tally.lines) (after m lines tally.lines)
      stands_point tells m begins = let a = s.applied tells m begins in done (end_told tells) (after m lines a.point) (after m lines tally.lines) a.stands

      abbrev bytes : List ℕ
      bytes = summary tally.lines tally.accepted (tally.lines - tally.accepted) charged

      same_text : (a b c d e f : ℕ) → a ≡ b → c ≡ d → e ≡ f → summary a c (a - c) e ≡ summary b d (b - d) f
      same_text a b c d e f one two three = rw (one, two, three) refl

      -- the line is that of the machine
      bytes_are : IsTrue mid.tells → (m : Machine) → BeginsFor mid first m → bytes ≡ summary_of m lines
      bytes_are tells m begins = same_text tally.lines (length lines) tally.accepted (accepted m lines) charged (charged_in (after m lines (length lines))) all
          (s.accepted tells m begins ∙ ap (accepted m) (take_all tally.lines lines (let e = all in omega (arith, e))))
          (sums (after m lines tally.lines) (after m lines tally.lines) (stands_point tells m begins) ∙ ap (λ (n : ℕ). charged_in (after m lines n)) all)

      at_last : (tells : IsTrue mid.tells) (m : Machine) → BeginsFor mid first m → (c : Image) (g : List ℕ) → PartlyGiven point bytes c g → Outlasts m lines mid.given c g
      at_last tells m begins c g part =
          let k = part.1 (point_told tells) in
          record {
            part = k.0;
            given = k.1 ∙ ap (λ (l : List ℕ). l ++ take k.0 bytes) point_given ∙ ap (λ (l : List ℕ). mid.given ++ take k.0 l) (bytes_are tells m begins);
            count = tally.lines;
            all = s.within;
            acknowledged = λ some. all;
            machine = images_stand point next (after m lines tally.lines) (after m lines tally.lines) (stands_point tells m begins) c part.0;
          }

      module _ (result : Result Unit Fault) (told : TellsSummary point tally charged new result) where
        crash_told : IsTrue mid.tells → (m : Machine) → BeginsFor mid first m → Leaves mid new (Outlasts m lines mid.given)
        crash_told tells m begins = then mid point new (Outlasts m lines mid.given)
            (weaken mid point (Silent m lines mid.given) (Outlasts m lines mid.given) (outlasts m lines mid.given) (crash_point tells m begins))
            (weaken point new (PartlyGiven point bytes) (Outlasts m lines mid.given) (at_last tells m begins) told.tells.any_moment)

        stands_new : IsTrue mid.tells → (m : Machine) → BeginsFor mid first m → StandsFor new next (after m lines tally.lines) (after m lines tally.lines)
        stands_new tells m begins = rests_standing_for point new next (after m lines tally.lines) (after m lines tally.lines) told.tells.gives.rests (stands_point tells m begins)

        rested : IsTrue mid.tells → (m : Machine) → BeginsFor mid first m → IsAtRestAfter m lines new
        rested tells m begins = record {
          settled = (stands_new tells m begins).settled;
          first = record { count = tally.lines; all = s.within; machine = reads_stand new next (after m lines tally.lines) (after m lines tally.lines) (stands_new tells m begins) };
        }

        left_told : new.ends.left ≡ mid.ends.left
        left_told = told.tells.gives.left ∙ ap (λ (e : Ends). e.left) keeps.ends ∙ s.left

      told_all : (result : Result Unit Fault) → TellsSummary point tally charged new result → GeneratesOpen lines first mid new result
      told_all (Ok nothing) told = record {
        done = λ tells m begins. record {
          settled = (stands_new (Ok nothing) told tells m begins).settled;
          stands = reads_stand new next (after m lines tally.lines) (after m lines tally.lines) (stands_new (Ok nothing) told tells m begins) ∙ ap (λ (n : ℕ). Some (after m lines n)) all;
          given = told.tells.gives.all (point_told tells) ∙ ap (λ (l : List ℕ). l ++ bytes) point_given ∙ ap (λ (l : List ℕ). mid.given ++ l) (bytes_are tells m begins);
        };
        crash = crash_told (Ok nothing) told;
        at_rest = λ tells m begins none. rested (Ok nothing) told tells m begins;
        given = λ tells m begins. tt;
        no_damage = λ tells m begins. tt;
        silent = tt;
        counts = counts_then mid point new None point_counts (counting.told point new bytes told.tells);
        reason = tt;
        left = left_told (Ok nothing) told;
      }
      told_all (Err fault) told = record {
        done = λ tells m begins. tt;
        crash = crash_told (Err fault) told;
        at_rest = λ tells m begins none. rested (Err fault) told tells m begins;
        given = λ tells m begins. subst (λ (f : Fault). GaveUpTo (summary_of m lines) mid new f) (sym told.sink)
            (subst (λ (l : List ℕ). (k : ℕ) × (k < length l) × (new.given ≡ mid.given ++ take k l)) (bytes_are tells m begins)
            (let part = told.tells.gives.part (point_told tells) in (part.0, part.1, part.2 ∙ ap (λ (l : List ℕ). l ++ take part.0 bytes) point_given)));
        no_damage = λ tells m begins. subst IsWholeFault (sym told.sink) tt;
        silent = subst (λ (f : Fault). GaveNone mid new f) (sym told.sink) tt;
        counts = counts_then mid point new (count_of fault) point_counts (subst (λ (f : Fault). Counts point new (count_of f)) (sym told.sink) (counting.untold point new bytes (record {}) told.tells));
        reason = subst (λ (f : Fault). IsLateFault lines mid.reads first new f) (sym told.sink) tt;
        left = left_told (Err fault) told;
      }

  -- the point was made, and the line was given, or not
  pub generated_whole : (next : Session) (point : Shown) → Goes {T = Unit {0}} 0 AsksPoint end session point next (Ok tt)
      → (IsTrue end.tells → (before m : Machine) → StandsFor end session before m → GoesFor {T = Unit {0}} end before m m point next (Ok tt))
      → (IsTrue end.tells → (before m : Machine) → StandsFor end session before m → StandsFor point next m m)
      → (charged : ℕ) → ((last m : Machine) → StandsFor point next last m → charged ≡ charged_in m)
      → (new : Shown) (result : Result Unit Fault) → TellsSummary point tally charged new result → GeneratesOpen lines first mid new result
  generated_whole next point goes goes_for done charged sums new result told = told_all next point (λ tells before m stands. (goes_for tells before m stands).any_moment) goes.ends done goes.done.counts.faults charged sums new result told

  -- it wasn't made
  pub point_failed : (next : Session) (point : Shown) (fault : SessionFault) → Goes {T = Unit {0}} 0 AsksPoint end session point next (Err fault)
      → (IsTrue end.tells → (before m : Machine) → StandsFor end session before m → GoesFor {T = Unit {0}} end before m m point next (Err fault))
      → (IsTrue end.tells → (before m : Machine) → StandsFor end session before m → IsNone next.failed → StandsFor point next before m)
      → WasCut lines first mid point (of_session fault)
  point_failed next point session_fault.DiskFault goes goes_for kept = point_cut next point (λ tells before m stands. (goes_for tells before m stands).any_moment) goes.ends Disk
      (counts_rose goes.ends goes.fault.counts.faults)
      (λ tells before m stands calm. kept tells before m stands (goes.fault.session.by_read calm)) (λ tells m begins. tt) tt
  point_failed next point session_fault.Memory goes goes_for kept = point_cut next point (λ tells before m stands. (goes_for tells before m stands).any_moment) goes.ends Memory
      (counts_kept goes.ends goes.fault.counts.faults)
      (λ tells before m stands calm. kept tells before m stands goes.fault.session) (λ tells m begins. tt) tt
  point_failed next point (session_fault.Damaged at want found) goes goes_for kept = point_cut next point (λ tells before m stands. (goes_for tells before m stands).any_moment) goes.ends Damaged
      (counts_kept goes.ends goes.fault.counts.faults)
      (λ tells before m stands calm. absurd (goes_for tells before m stands).whole)
      (λ tells m begins. let a = s.applied tells m begins in absurd (goes_for (end_told tells) (after m lines a.point) (after m lines tally.lines) a.stands).whole)
      (record {
        count = tally.lines;
        all = s.within;
        call = hurt_last lines tally.lines mid.reads first end.reads session point (omega (arith, all)) (λ told. s.course (subst IsTrue (goes.ends.tells ∙ s.counts.tells) told)) s.opened
            (next, (goes.stands goes.fault.session, hurt_by 0 AsksPoint end session point next at want found goes.ends.tells goes.fault.reason));
      })
  point_failed next point (session_fault.Failed faults) goes goes_for kept = absurd (never_failed session.failed faults s.ready.unfailed goes.fault.reason)
