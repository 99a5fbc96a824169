-- Calls of background steps one after another, the placing of files before them, and a slot in which nothing is to be done.
use Rattle.std.proofs.Common.{◌≡◌, ◌≤◌, ◌+◌, ◌⊎◌, ℕ, Bool, true, false, cond, true≢false, List, length, Option, Some, None, Result, Ok, Err, inl, inr, ⊎_elim, refl, sym, ap, subst, ◌∙◌, arith}
use Rattle.std.specs.Prelude.{IfErr, IsNone, IsTrue, OnOk}
use Rattle.fv_disk.specs.Shown.{Image, IsDisk, Rose, Shown}
use Rattle.fv_disk.specs.DiskCalls.{OnlyReads}
use Rattle.fv_disk.proofs.Moments.{then, weaken}
use Rattle.fv_model.specs.Machines.{Machine}
use Rattle.fv_image.specs.WholeMachine.{machine_of}
use Rattle.fv_store.specs.Held.{StandsOn}
use Rattle.fv_pool.specs.declared.pool.Pool.{Pool}
use Rattle.fv_pool.specs.declared.fault.VolumeFault.{VolumeFault}
use Rattle.fv_pool.specs.declared.fault.VolumeFault.TheVariants as volume
use Rattle.fv_pool.specs.Calls.{Reads}
use Rattle.fv_pool.specs.Causes.{IsNoDamage}
use Rattle.fv_volume.specs.declared.state.VolumeState.{VolumeState}
use Rattle.fv_volume.specs.Held.{IsPlaceFault}
use Rattle.fv_volume.specs.States.{States, state_at}
use Rattle.fv_cleaner.specs.Cleaning.{MovesIn}
use Rattle.fv_cleaner.specs.Left.{left_in}
use Rattle.fv_cp.specs.Held.{IsHeld}
use Rattle.fv_cp.specs.Lent.{FitTogether}
use Rattle.fv_cp.specs.Placing.{ArePlaced, AreReady, FailsToPlace, HaveNoFiles, HaveRoom, IsIdle, KeepCores}
use Rattle.fv_cp.specs.Settling.{StillHeld}
use Rattle.fv_cp.proofs.Flushing.{files_there}
use Rattle.fv_aggregate.specs.declared.fault.Fault.{Fault}
use Rattle.fv_aggregate.specs.declared.fault.Fault.TheVariants.{DiskFault, Damaged, Memory, Failed}
use Rattle.fv_aggregate.specs.declared.session.Session.{Session}
use Rattle.fv_aggregate.specs.Calls.{HasDamage, Runs, SameCounts}
use Rattle.fv_aggregate.specs.Commands.{AsksNothing, AsksPlacing, AsksTable}
use Rattle.fv_aggregate.specs.Known.{KeepsNumbers}
use Rattle.fv_aggregate.specs.Looking.{Breaks}
use Rattle.fv_aggregate.specs.Standing.{OneOf, StandsAfter, StandsFor, StandsReady}
use Rattle.fv_aggregate.specs.Working.{is_unclean, step_room, todo_at, AreLaid, Backs, HasWorkDamage, HasWorkFault, PlacesAll, StaysFor, TakesStep}
use Rattle.fv_aggregate.proofs.Calls.{reads_itself}
use Rattle.fv_aggregate.proofs.Damages.{no_copies, nothing_copies}
use Rattle.fv_aggregate.proofs.Keeping.{keeps_core, keeps_same}
use Rattle.fv_aggregate.proofs.Looked.{machine_read, reads_alone}
use Rattle.fv_aggregate.proofs.PointEnds.{files_to_place, has_full_room, still_for, still_stands, HasStayed}
use Rattle.fv_aggregate.proofs.Returned.{breaks_beside}
use Rattle.fv_aggregate.proofs.Worked.{backs_fault, backs_ok, FaultCause}

-- ---- a fault is a fault, whatever would have been answered

pub backs_err : {T U : Type 0} (a c : ℕ) → a ≤ c → (d : Shown) (s : Session) (e : Shown) (n : Session) (f : Fault)
    → Backs {T = T} a d s e n (Err f) → Backs {T = U} c d s e n (Err f)
backs_err a c most d s e n f is = record {
  ends = is.ends;
  stands = is.stands;
  done = tt;
  fault = is.fault;
  pending = (let few = is.pending in omega (arith, few, most));
  within = is.within;
  numbers = is.numbers;
  whole = is.whole;
  stays = is.stays;
}

-- ---- one call after another

module _ {T : Type 0} (x : T) (a b c : ℕ) (most : a + b ≤ c) (d : Shown) (s : Session) (e : Shown) (n : Session)
    (first : Backs a d s e n (Ok x)) (g : Shown) (p : Session) where
  counts_on : SameCounts e g → SameCounts d g
  counts_on counts =
      let was = first.done.1 in record { faults = counts.faults ∙ was.faults; write_faults = counts.write_faults ∙ was.write_faults }

  faults_on : (f : Fault) → HasWorkFault e g p f → HasWorkFault d g p f
  faults_on DiskFault is =
      let same = first.done.1 in (
        record {
          faults = subst (λ (k : ℕ). Rose k g.faults) same.faults is.0.faults;
          write_faults = λ calm. is.0.write_faults
              (λ rose. calm (subst (λ (k : ℕ). Rose k g.write_faults) same.write_faults rose)) ∙ same.write_faults;
        },
        record {
          by_write = λ rose. is.1.by_write (subst (λ (k : ℕ). Rose k g.write_faults) (sym same.write_faults) rose);
          by_read = λ calm. is.1.by_read (λ rose. calm (subst (λ (k : ℕ). Rose k g.write_faults) same.write_faults rose));
        },
      )
  faults_on (Damaged at want found) is = (is.0, (counts_on is.1.0, is.1.1))
  faults_on Memory is = (counts_on is.0, is.1)
  faults_on (Failed faults) is = absurd is

  module _ (last m : Machine) (was : StaysFor d last m e n) where
    abbrev mid : StandsAfter e n last m m
    mid = was.stands first.done.0

    abbrev point : Machine
    point = mid.point

    later : (i : Image) (bytes : List ℕ) → OneOf point m m i × (bytes ≡ e.given) → OneOf last m m i × (bytes ≡ d.given)
    later i bytes one = (⊎_elim (λ old. at_point mid.one old) (λ rest. inr rest) one.0, one.1 ∙ first.ends.given)
      where
        at_point : (point ≡ last) ⊎ (point ≡ m) → machine_of i ≡ Some point → OneOf last m m i
        at_point (inl same) is = inl (is ∙ ap (λ (k : Machine). Some k) same)
        at_point (inr same) is = inr (inl (is ∙ ap (λ (k : Machine). Some k) same))

    after_both : StandsAfter g p point m m → StandsAfter g p last m m
    after_both is = record { point = is.point; one = ⊎_elim (λ same. at same mid.one) (λ same. inr same) is.one; stands = is.stands }
      where
        at : is.point ≡ point → (point ≡ last) ⊎ (point ≡ m) → (is.point ≡ last) ⊎ (is.point ≡ m)
        at same (inl old) = inl (same ∙ old)
        at same (inr now) = inr (same ∙ now)

    stays_then : StaysFor e point m g p → StaysFor d last m g p
    stays_then second = record {
      any_moment = then d e g (λ i bytes. OneOf last m m i × (bytes ≡ d.given)) was.any_moment
          (weaken e g (λ i bytes. OneOf point m m i × (bytes ≡ e.given)) (λ i bytes. OneOf last m m i × (bytes ≡ d.given))
          later second.any_moment);
      stands = λ none. after_both (second.stands none);
    }

  pub backs_then : {U : Type 0} (r : Result U Fault) → Backs b e n g p r → Backs c d s g p r
  backs_then r second = record {
    ends = record {
      tells = second.ends.tells ∙ first.ends.tells;
      given = second.ends.given ∙ first.ends.given;
      ends = second.ends.ends ∙ first.ends.ends;
    };
    stands = second.stands;
    done = done r second.done;
    fault = fault r second.fault;
    pending = (let one = first.pending in let two = second.pending in omega (arith, one, two, most));
    within = (let one = first.within in let two = second.within in omega (arith, one, two));
    numbers = λ none slot known. second.numbers none slot (first.numbers first.done.0 slot known);
    whole = λ tells last m is.
        let after : StandsAfter e n last m m = (first.stays tells last m is).stands first.done.0 in
        second.whole (subst IsTrue (sym first.ends.tells) tells) after.point m after.stands;
    stays = λ tells last m is.
        let was = first.stays tells last m is in
        let after : StandsAfter e n last m m = was.stands first.done.0 in
        stays_then last m was (second.stays (subst IsTrue (sym first.ends.tells) tells) after.point m after.stands);
  }
    where
      done : {U : Type 0} (r : Result U Fault) → OnOk r (IsNone p.failed × SameCounts e g) → OnOk r (IsNone p.failed × SameCounts d g)
      done (Ok y) is = (is.0, counts_on is.1)
      done (Err f) is = tt

      fault : {U : Type 0} (r : Result U Fault) → IfErr r (HasWorkFault e g p) → IfErr r (HasWorkFault d g p)
      fault (Ok y) is = tt
      fault (Err f) is = faults_on f is

-- ---- room was made

module _ (d : Shown) (s : Session) (fresh : IsNone s.failed) (e : Shown) (n : Session) where
  pub backs_room : (x : Unit {0}) → n.pending ≤ s.pending → Runs step_room AsksNothing (λ m. m) d s e n (Ok x)
      → Backs {T = Unit {0}} 0 d s e n (Ok x)
  backs_room x few runs = record {
    ends = runs.goes.ends;
    stands = runs.goes.stands;
    done = (runs.goes.done.goes_on, runs.goes.done.counts);
    fault = tt;
    pending = omega (arith, few);
    within = omega (arith, few);
    numbers = runs.numbers;
    whole = λ tells last m is. tt;
    stays = λ tells last m is. let goes = runs.goes_for tells last m is in
        record { any_moment = goes.any_moment; stands = λ none. goes.done };
  }

  no_table : (slot : ℕ) (snapshot : Option (List ℕ)) (cell : Bool) → AsksNothing ≡ AsksTable slot snapshot cell → ⊥
  no_table slot snapshot cell e = cc

  room_damage : (at want found : ℕ) → HasDamage step_room AsksNothing d s e n at want found → HasWorkDamage e n at want found
  room_damage at want found (inl (reads, inl now)) = record { session = s; asked = AsksNothing; part = inl now }
  room_damage at want found (inl (reads, inr after)) = absurd (no_table after.read.slot after.read.snapshot after.read.cell after.read.asks)
  room_damage at want found (inr (inl (past, behind))) =
      absurd (no_table behind.read.slot behind.read.snapshot behind.read.cell behind.read.asks)
  room_damage at want found (inr (inr (inl bad))) = no_copies AsksNothing nothing_copies _ s d s bad
  room_damage at want found (inr (inr (inr (past, behind)))) = no_copies AsksNothing nothing_copies _ s e n behind.bad

  pub backs_unroomed : (f : Fault) → n.pending ≤ s.pending → Runs {T = Unit {0}} step_room AsksNothing (λ m. m) d s e n (Err f)
      → Backs {T = Unit {0}} 0 d s e n (Err f)
  backs_unroomed f few runs = record {
    ends = runs.goes.ends;
    stands = runs.goes.stands;
    done = tt;
    fault = by f runs;
    pending = omega (arith, few);
    within = omega (arith, few);
    numbers = runs.numbers;
    whole = λ tells last m is. (runs.goes_for tells last m is).whole;
    stays = λ tells last m is. let goes = runs.goes_for tells last m is in
        record { any_moment = goes.any_moment; stands = λ none. goes.still none };
  }
    where
      both : (o : Option ℕ) (k : ℕ) → IsNone o → o ≡ Some k → ⊥
      both o k none some = cc

      by : (f : Fault) → Runs {T = Unit {0}} step_room AsksNothing (λ m. m) d s e n (Err f) → HasWorkFault d e n f
      by DiskFault runs = (runs.goes.fault.counts, runs.goes.fault.session)
      by (Damaged at want found) runs = (
        room_damage at want found runs.goes.fault.reason,
        (runs.goes.fault.counts, runs.goes.fault.session),
      )
      by Memory runs = (runs.goes.fault.counts, runs.goes.fault.session)
      by (Failed faults) runs = absurd (both s.failed faults fresh runs.goes.fault.reason)

-- ---- files were placed

module _ (d e : Shown) (laws : IsDisk d) (s : Session) (fresh : IsNone s.failed) (ready : StandsReady d s) (long : length s.volumes ≡ 64)
    (q : Pool) (new : States) (still : StillHeld d s.pool s.volumes e q new) where
  abbrev pub placed : Session
  placed = record s { volumes = new; pool = q }

  stayed : HasStayed d s e placed
  stayed = record { still = still; parts = refl }

  reads : OnlyReads d e
  reads = still.placed.only_reads

  kept_numbers : KeepsNumbers s.volumes new
  kept_numbers = keeps_core s.volumes new still.placed.cores

  pub placed_ok : e.faults ≡ d.faults → Backs {T = Unit {0}} 0 d s e placed (Ok tt)
  placed_ok calm = backs_ok d e laws s placed 0 reads fresh (still_stands d s e placed stayed ready) (omega arith) (omega arith) kept_numbers
      (λ tells last m is. still_for d s e placed stayed last m long is) tt calm

  unplaced : (fault : VolumeFault) → FailsToPlace d s.pool s.volumes e fault
      → (at want found : ℕ) → fault ≡ volume.Damaged at want found → HasWorkDamage e placed at want found
  unplaced fault fails at want found is =
      let lacks : FailsToPlace d s.pool s.volumes e (volume.Damaged at want found) = subst (FailsToPlace d s.pool s.volumes e) is fails in
      record {
        session = s;
        asked = AsksPlacing lacks.slot;
        part = inl (inr (inl (record {
          files = files_to_place d e s at want found fresh lacks;
          comes = inl refl;
          before = λ other. lacks.done;
        })));
      }

  pub placed_err : (fault : VolumeFault) (n : Session) (f : Fault) → Breaks e fault placed n f → IsPlaceFault d e fault
      → FailsToPlace d s.pool s.volumes e fault
      → (IsTrue d.tells → (before : Machine) → IsHeld d s.pool s.volumes before → HaveRoom s.pool s.volumes → IsNoDamage fault)
      → Backs {T = Unit {0}} 0 d s e n (Err f)
  placed_err fault n f breaks cause fails enough = backs_fault d e laws s placed 0 reads fresh (still_stands d s e placed stayed ready)
      (omega arith) (omega arith) kept_numbers
      (λ tells last m is. still_for d s e placed stayed last m long is) fault n f breaks (by fault cause) (unplaced fault fails)
      (λ tells last m is. let full = has_full_room d s last m is in
      enough tells last is.held (record { numbers = full.numbers; blocks = full.free }))
    where
      by : (g : VolumeFault) → IsPlaceFault d e g → FaultCause d.faults e.faults g
      by (volume.Refused r) c = c
      by volume.DiskFault c = c
      by (volume.Damaged at want found) c = c
      by volume.Memory c = c

-- so it is of the session whose parts these are
module _ {D : Type 0} (shown : D → Shown) (first second : D) (laws : IsDisk (shown first)) (v was : Session) (same : v ≡ was)
    (fresh : IsNone was.failed) (ready : StandsReady (shown first) was) (fit : IsNone v.failed → FitTogether v.pool v.volumes)
    (q : Pool) (new : States) (are : ArePlaced (shown first) v.pool v.volumes (shown second) q new)
    (stands : StandsOn (shown second) q.store.pairs)
    (ready_now : AreReady (shown second) q new) where
  its_fresh : IsNone v.failed
  its_fresh = subst (λ (n : Session). IsNone n.failed) (sym same) fresh

  its_ready : StandsReady (shown first) v
  its_ready = subst (StandsReady (shown first)) (sym same) ready

  still_held : StillHeld (shown first) v.pool v.volumes (shown second) q new
  still_held = record { placed = are; stands = stands; ready = ready_now }

  its_long : length v.volumes ≡ 64
  its_long = (fit its_fresh).housed.long

  pub places_ok : (shown second).faults ≡ (shown first).faults → HaveNoFiles new → IsIdle first v.pool v.volumes second q new
      → PlacesAll shown first was second (record v { volumes = new; pool = q }) (Ok tt)
  places_ok calm none idle = subst (λ (n : Session). PlacesAll shown first n second (record v { volumes = new; pool = q }) (Ok tt)) same
      (record {
        backs = placed_ok (shown first) (shown second) laws v its_fresh its_ready its_long q new still_held calm;
        long = are.fit.housed.long;
        none = none;
        cores = are.cores;
        idle = λ bare. let as_was = idle bare in (as_was.1.1, λ j. record v { volumes = as_was.1.0 j; pool = as_was.0 j });
        only_reads = are.only_reads;
        laid = λ tells last m is. laid last m is;
        filed = tt;
      })
    where
      read : Reads (shown first) q (shown second) q
      read = record { leaves = record { map = refl; containers = refl; kept = refl; found = refl; version = refl }; only_reads = are.only_reads; stands = stands }

      laid : (last m : Machine) → StandsFor (shown first) v last m → AreLaid (shown first) v (shown second).reads q new m
      laid last m is = record {
        image = are.only_reads.stays.reads;
        machine = sym (machine_read (shown first) (shown second) q q read new) ∙ are.machine last is.held ∙ is.machine;
        found = are.found;
        version = are.version;
        others = are.others;
        entries = are.entries;
        unused = are.unused last is.held;
        rest = are.rest;
      }

  pub places_err : (fault : VolumeFault) (n : Session) (f : Fault) → Breaks (shown second) fault (record v { volumes = new; pool = q }) n f
      → IsPlaceFault (shown first) (shown second) fault → FailsToPlace (shown first) v.pool v.volumes (shown second) fault
      → (IsTrue (shown first).tells → (before : Machine) → IsHeld (shown first) v.pool v.volumes before → HaveRoom v.pool v.volumes
      → IsNoDamage fault)
      → PlacesAll shown first was second n (Err f)
  places_err fault n f breaks cause fails enough = subst (λ (k : Session). PlacesAll shown first k second n (Err f)) same (record {
    backs = placed_err (shown first) (shown second) laws v its_fresh its_ready its_long q new still_held fault n f breaks cause fails
        enough;
    long = ap length (breaks_beside (shown second) fault (record v { volumes = new; pool = q }) n f breaks).1 ∙ are.fit.housed.long;
    none = tt;
    cores = subst (KeepCores v.volumes) (sym (breaks_beside (shown second) fault (record v { volumes = new; pool = q }) n f breaks).1)
        are.cores;
    idle = λ bare. tt;
    only_reads = are.only_reads;
    laid = λ tells last m is. tt;
    filed = files_there (shown first) v.pool v.volumes (shown second) fault fails;
  })

-- ---- a slot in which nothing is to be done

none_todo : (i : Image) (pool : Pool) (o : Option VolumeState) → is_unclean o ≡ false → todo_at i pool o ≡ 0
none_todo i pool None e = refl
none_todo i pool (Some x) e = by x.known refl
  where
    by : (b : Bool) → x.known ≡ b → todo_at i pool (Some x) ≡ 0
    by true k = ap (λ (b : Bool). cond b 0 (left_in i pool x)) k
    by false k = absurd (true≢false (sym (ap (λ (b : Bool). cond b false true) k) ∙ e))

pub idle_step : (d : Shown) → IsDisk d → (s : Session) → IsNone s.failed → StandsReady d s → HaveNoFiles s.volumes
    → (slot : ℕ) → is_unclean (state_at s.volumes slot) ≡ false → TakesStep slot d s d s (Ok false)
idle_step d laws s fresh ready none slot known = record {
  backs = backs_ok d d laws s s 1 (reads_itself d) fresh ready (omega arith) (omega arith)
      (keeps_same s.volumes s.volumes refl) (λ tells last m is. is) false refl;
  only_reads = reads_itself d;
  none = none;
  steps = (reads_alone d d s.pool (reads_itself d) ready.stands.cache, refl);
  unled = by (state_at s.volumes slot);
  roots = λ unclean. absurd (true≢false (sym unclean ∙ known));
  falls = λ tells last m is. none_todo d.reads s.pool (state_at s.volumes slot) known;
  undone = tt;
}
  where
    by : (o : Option VolumeState) → MovesIn d s.pool o s.pool
    by None = tt
    by (Some x) = (λ told clear v differ. absurd (differ refl), λ told clear v differ. absurd (differ refl))
