-- An aggregate was checked, and told of.
use Rattle.std.proofs.Common.{◌≡◌, inl, inr, ℕ, ◌<◌, ◌++◌, List, [], ◌∷◌, length, take, refl, sym, ap, subst, ◌∙◌, arith, append_assoc, append-nil}
use Rattle.std.specs.Prelude.{Some, None, Result, Ok, Err, IsTrue, IfErr, OnOk}
use Rattle.std.specs.FinMap as fin
use Rattle.std.specs.Option.{option_and_then}
use Rattle.std.proofs.lemmas.Grind.{flat_map-append}
use Rattle.fv_disk.specs.declared.Failed.{Failed}
use Rattle.fv_disk.specs.Shown.{Ends, Image, Shown, IsDisk}
use Rattle.fv_disk.specs.DiskCalls.{OnlyReads}
use Rattle.fv_disk.specs.Crash.{Leaves}
use Rattle.fv_disk.specs.Partly.{PartlyGiven}
use Rattle.fv_disk.proofs.Moments.{goes_on, started, then, weaken}
use Rattle.fv_disk.proofs.Resting.{stays_on}
use Rattle.fv_model.specs.Machines.{Machine}
use Rattle.fv_image.specs.Held.{layout_at}
use Rattle.fv_image.specs.Volumes.{told}
use Rattle.fv_image.specs.NewerRoot.{Taken}
use Rattle.fv_image.specs.WholeMachine.{machine_at, machine_of}
use Rattle.fv_image.proofs.SoundTests.{machine_under, tells_from}
use Rattle.fv_root.specs.Finding.{IsNoAggregate}
use Rattle.fv_faults.specs.declared.fault.Fault.{Fault as Line}
use Rattle.fv_faults.specs.declared.lines.Lines.{Lines}
use Rattle.fv_faults.proofs.Whole.{no_lines_of_machine, no_lines_where_sound}
use Rattle.fv_first_pass.specs.declared.fault.CheckFault.{CheckFault}
use Rattle.fv_first_pass.specs.declared.fault.CheckFault.TheVariants as checking
use Rattle.fv_first_pass.specs.declared.verdict.Verdict.{Verdict}
use Rattle.fv_first_pass.specs.declared.verdict.Verdict.TheVariants.{Faults}
use Rattle.fv_first_pass.specs.Causes.{HasCheckCause}
use Rattle.fv_first_pass.specs.Verdicts.{IsValid, Says, charges}
use Rattle.fv_script.specs.Telling.{Tells}
use Rattle.fv_script.proofs.Told as telling
use Rattle.fv_lines.specs.Counts.{Counts}
use Rattle.fv_lines.proofs.Counting as counting
use Rattle.fv_run.specs.declared.ending.Fault.{Fault}
use Rattle.fv_run.specs.declared.ending.Fault.TheVariants.{Unsound, NotAggregate, Sink, Disk, Memory}
use Rattle.fv_run.specs.CheckTexts.{fault_text, faults_text, valid_text}
use Rattle.fv_run.specs.Checking.{AreLinesOf, HasSaid, IsCheckEnd, IsChecked, IsOfBefore, IsTextOf, TellsText}
use Rattle.fv_run.specs.Endings.{IsWholeFault, of_check, raised_by}
use Rattle.fv_run.proofs.Sessions.{no_root}

-- ---- images

long_blocks : (disk : Shown) → IsDisk disk → IsTrue disk.tells → (b : ℕ) → length (disk.reads b) ≡ 4096
long_blocks disk laws tells b = (laws.blocks disk.moment disk.reads disk.given (laws.counts_now disk.moment disk.reads (omega arith) (laws.read_is_image tells)) b).long

-- what is no aggregate stands for no machine
no_machine : (i : Image) (m : Machine) → IsNoAggregate i → machine_of i ≡ Some m → ⊥
unfolding machine_of
no_machine i m none stands = differ (sym (ap (option_and_then (λ (t : Taken). machine_at t i)) (no_root i none)) ∙ stands)
  where
    differ : None ≡ Some m → ⊥
    differ e = cc

-- a verdict on the image of a machine tells of that machine
valid_machine : (i : Image) (volumes charged : ℕ) (m : Machine) → IsValid i volumes charged → machine_of i ≡ Some m → valid_text volumes charged ≡ valid_text (fin.len m.volumes) (charges m)
valid_machine i volumes charged m valid is =
    let same : told (layout_at valid.taken i).view ≡ m = (tells_from (layout_at valid.taken i) m (sym (machine_under i valid.taken valid.root) ∙ is)).machine in
    ap (λ (n : ℕ). valid_text n charged) (valid.volumes ∙ ap (λ (t : Machine). fin.len t.volumes) same) ∙ ap (λ (c : ℕ). valid_text (fin.len m.volumes) c) (valid.charged ∙ ap charges same)

-- ---- the aggregate was checked

module _ (old mid : Shown) (laws : IsDisk old) (reads : OnlyReads old mid) where
  crash_read : Leaves old mid (IsOfBefore old)
  crash_read = goes_on old old mid (IsOfBefore old) (started old (IsOfBefore old) laws (λ c now. now)) reads.time reads.stays.no_more

  same_left : mid.ends.left ≡ old.ends.left
  same_left = ap (λ (e : Ends). e.left) reads.ends

  calm : mid.faults ≡ old.faults → Counts old mid None
  calm same = record { tells = reads.stays.tells; source = ap (λ (e : Ends). e.source_faults) reads.ends; sink = ap (λ (e : Ends). e.sink_faults) reads.ends; disk = same }

  -- ---- it says nothing

  silent : (fault : Fault) → (IsTrue old.tells → HasSaid old mid (Err fault)) → (IsTrue old.tells → (m : Machine) → machine_of old.reads ≡ Some m → IsWholeFault fault) → IsCheckEnd fault → Counts old mid (raised_by {T = Unit} (Err fault)) → IsChecked old mid (Err fault)
  silent fault says whole only counts = record {
    says = says;
    valid = λ tells m is. tt;
    whole = whole;
    only = only;
    stays = reads.stays;
    crash = crash_read;
    counts = counts;
    write_faults = reads.write_faults;
    left = same_left;
  }

  pub unchecked : (fault : CheckFault) → HasCheckCause {T = Verdict} old.faults mid.faults (Err fault) → (IsTrue old.tells → Says old.reads (Err fault)) → IsChecked old mid (Err (of_check fault))
  unchecked checking.DiskFault cause says = silent Disk (λ tells. reads.given) (λ tells m is. tt) tt (record { tells = reads.stays.tells; source = ap (λ (e : Ends). e.source_faults) reads.ends; sink = ap (λ (e : Ends). e.sink_faults) reads.ends; disk = cause })
  unchecked checking.Memory cause says = silent Memory (λ tells. reads.given) (λ tells m is. tt) tt (calm cause)
  unchecked checking.NotAggregate cause says = silent NotAggregate (λ tells. (says tells, reads.given)) (λ tells m is. no_machine old.reads m (says tells) is) tt (calm cause)

  -- ---- it was told of

  module _ (same : mid.faults ≡ old.faults) (new : Shown) where
    mid_told : IsTrue old.tells → IsTrue mid.tells
    mid_told tells = rw reads.stays.tells tells

    since : (text : List ℕ) → new.given ≡ mid.given ++ text → new.given ≡ old.given ++ text
    since text is = is ∙ ap (λ (l : List ℕ). l ++ text) reads.given

    told_so : (text : List ℕ) (done : Result Unit Failed) (end : Result Unit Fault) → Tells mid text new done → (IsTrue old.tells → HasSaid old new end)
        → (IsTrue old.tells → (m : Machine) → machine_of old.reads ≡ Some m → OnOk end (new.given ≡ old.given ++ valid_text (fin.len m.volumes) (charges m)))
        → (IsTrue old.tells → (m : Machine) → machine_of old.reads ≡ Some m → IfErr end IsWholeFault) → IfErr end IsCheckEnd → Counts mid new (raised_by end) → IsChecked old new end
    told_so text done end tells says valid whole only counts = record {
      says = says;
      valid = valid;
      whole = whole;
      only = only;
      stays = stays_on old mid new reads.stays tells.gives.rests.stays;
      crash = then old mid new (IsOfBefore old) crash_read (weaken mid new (PartlyGiven mid text) (IsOfBefore old) (λ c g partly. reads.stays.no_more c partly.0) tells.any_moment);
      counts = counting.counts_then old mid new (raised_by end) (calm same) counts;
      write_faults = tells.gives.rests.write_faults ∙ reads.write_faults;
      left = tells.gives.left ∙ same_left;
    }

    untold : (text : List ℕ) (fault : Fault) → (IsTrue old.tells → IsTextOf old.reads text) → TellsText mid text new (Err fault) → IsChecked old new (Err fault)
    untold text fault is tells = subst (λ (f : Fault). IsChecked old new (Err f)) (sym tells.sink)
        (told_so text (Err (record {})) (Err Sink) tells.tells (λ told. (text, is told, part told)) (λ told m stands. tt) (λ told m stands. tt) tt (counting.untold mid new text (record {}) tells.tells))
      where
        part : IsTrue old.tells → (k : ℕ) × (k < length text) × (new.given ≡ old.given ++ take k text)
        part told = let gave = tells.tells.gives.part (mid_told told) in (gave.0, gave.1, since (take gave.0 text) gave.2)

    pub told_valid : (volumes charged : ℕ) → (IsTrue old.tells → IsValid old.reads volumes charged) → (result : Result Unit Fault) → TellsText mid (valid_text volumes charged) new result → IsChecked old new result
    told_valid volumes charged is (Ok done) tells =
        told_so (valid_text volumes charged) (Ok tt) (Ok tt) tells.tells
        (λ told. (valid_text volumes charged, record { volumes = volumes; charged = charged; valid = is told; line = refl }, given told))
        (λ told m stands. given told ∙ ap (λ (l : List ℕ). old.given ++ l) (valid_machine old.reads volumes charged m (is told) stands))
        (λ told m stands. tt) tt (counting.told mid new (valid_text volumes charged) tells.tells)
      where
        given : IsTrue old.tells → new.given ≡ old.given ++ valid_text volumes charged
        given told = since (valid_text volumes charged) (tells.tells.gives.all (mid_told told))
    told_valid volumes charged is (Err fault) tells = untold (valid_text volumes charged) fault (λ told. inl (record { volumes = volumes; charged = charged; valid = is told; line = refl })) tells

    module _ (lines : Lines) (is : IsTrue old.tells → Says old.reads (Ok (Faults lines))) where
      are_lines : IsTrue old.tells → AreLinesOf old.reads (faults_text lines.lines.keys)
      are_lines tells = record {
        gates = (is tells).0;
        some = (is tells).1.1;
        unsound = λ volumes charged valid. (is tells).1.1 (no_lines_where_sound old.reads (long_blocks old laws tells) valid.taken valid.root valid.sound);
        lines = ap faults_text (is tells).1.0;
      }

      pub told_faults : TellsText mid (faults_text lines.lines.keys) new (Ok tt) → IsChecked old new (Err Unsound)
      told_faults tells =
          told_so (faults_text lines.lines.keys) (Ok tt) (Err Unsound) tells.tells
          (λ told. (faults_text lines.lines.keys, are_lines told, since (faults_text lines.lines.keys) (tells.tells.gives.all (mid_told told))))
          (λ told m stands. tt) (λ told m stands. (is told).1.1 (no_lines_of_machine old.reads (long_blocks old laws told) m stands)) tt (counting.told mid new (faults_text lines.lines.keys) tells.tells)

      pub untold_faults : (fault : Fault) → TellsText mid (faults_text lines.lines.keys) new (Err fault) → IsChecked old new (Err fault)
      untold_faults fault tells = untold (faults_text lines.lines.keys) fault (λ told. inr (are_lines told)) tells

-- ---- line by line

-- the lines of some faults were given, and these are left
pub record HasTold (old : Shown) (all : List Line) (now : Shown) (rest : List Line) : Type 0 where
  pub front : List Line
  pub are : all ≡ front ++ rest
  pub tells : Tells old (faults_text front) now (Ok tt)

pub starts : (disk : Shown) (all : List Line) → IsDisk disk → HasTold disk all disk all
starts disk all laws = record { front = []; are = refl; tells = telling.nothing disk laws }

texts_of : (front : List Line) (line : Line) (rest : List Line) → faults_text front ++ (fault_text line ++ faults_text rest) ≡ faults_text (front ++ (line ∷ rest))
texts_of front line rest = sym (flat_map-append fault_text front (line ∷ rest))

pub told_one : (old mid new : Shown) (all rest left : List Line) (line : Line) (text : List ℕ) → HasTold old all mid rest → rest ≡ line ∷ left → text ≡ fault_text line → TellsText mid text new (Ok tt) → HasTold old all new left
told_one old mid new all rest left line text so_far first is tells = record {
  front = so_far.front ++ line ∷ [];
  are = so_far.are ∙ ap (λ (l : List Line). so_far.front ++ l) first ∙ sym (append_assoc so_far.front (line ∷ []) left);
  tells = telling.told old new (faults_text so_far.front ++ text) (faults_text (so_far.front ++ line ∷ [])) (Ok tt)
      (telling.both old mid new (faults_text so_far.front) text (Ok tt) so_far.tells tells.tells)
      (ap (λ (l : List ℕ). faults_text so_far.front ++ l) (is ∙ sym (append-nil (fault_text line))) ∙ texts_of so_far.front line []);
}

pub told_all : (old now : Shown) (all : List Line) → HasTold old all now [] → TellsText old (faults_text all) now (Ok tt)
told_all old now all so_far = record { tells = telling.told old now (faults_text so_far.front) (faults_text all) (Ok tt) so_far.tells (ap faults_text (sym (so_far.are ∙ append-nil so_far.front))); sink = tt }

pub stopped_at : (old mid new : Shown) (all rest left : List Line) (line : Line) (text : List ℕ) (fault : Fault) → HasTold old all mid rest → rest ≡ line ∷ left → text ≡ fault_text line → TellsText mid text new (Err fault)
    → TellsText old (faults_text all) new (Err fault)
stopped_at old mid new all rest left line text fault so_far first is tells = record {
  tells = telling.told old new (faults_text so_far.front ++ (text ++ faults_text left)) (faults_text all) (Err (record {}))
      (telling.both old mid new (faults_text so_far.front) (text ++ faults_text left) (Err (record {})) so_far.tells (telling.stopped mid new text (faults_text left) (record {}) tells.tells))
      (ap (λ (l : List ℕ). faults_text so_far.front ++ (l ++ faults_text left)) is ∙ texts_of so_far.front line left ∙ ap faults_text (sym (so_far.are ∙ ap (λ (l : List Line). so_far.front ++ l) first)));
  sink = tells.sink;
}
