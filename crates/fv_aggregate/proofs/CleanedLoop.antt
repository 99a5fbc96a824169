-- The steps of `clean` one after another, until none is left, and the command.
use Rattle.std.proofs.Common.{◌≡◌, ◌≤◌, ◌<◌, ◌+◌, ℕ, Bool, true, false, List, Option, Some, Result, Ok, Err, inl, inr, ⊎_elim, refl, sym, ap, subst, ◌∙◌, arith}
use Rattle.std.specs.Prelude.{IsNone, IsTrue}
use Rattle.std.proofs.lemmas.Bool.{cases_eq}
use Rattle.fv_disk.specs.Shown.{Image, IsDisk, Shown}
use Rattle.fv_disk.specs.DiskCalls.{OnlyReads}
use Rattle.fv_disk.proofs.Moments.{weaken}
use Rattle.fv_disk.proofs.Resting.{reads_then}
use Rattle.fv_model.specs.declared.commands.Command.TheVariants.{Clean}
use Rattle.fv_model.specs.Machines.{Machine}
use Rattle.fv_model.specs.Refusals.{next}
use Rattle.fv_laws.proofs.Changes.{same_name}
use Rattle.fv_volume.specs.declared.state.VolumeState.{VolumeState}
use Rattle.fv_volume.specs.Slots.{is_named, sum_of, HasName}
use Rattle.fv_volume.specs.States.{States, state_at, with_state}
use Rattle.fv_cleaner.specs.Cleaning.{known_now, FinishesAt, FinishesIn}
use Rattle.fv_cp.specs.Lent.{FitTogether}
use Rattle.fv_cp.specs.Placing.{AreReady, HaveNoFiles}
use Rattle.fv_aggregate.specs.declared.fault.Fault.{Fault}
use Rattle.fv_aggregate.specs.declared.fault.Fault.TheVariants.{Damaged}
use Rattle.fv_aggregate.specs.declared.session.Session.{Session}
use Rattle.fv_aggregate.specs.Calls.{GoesFor}
use Rattle.fv_aggregate.specs.Cleaning.{CleansOnce, Learns}
use Rattle.fv_aggregate.specs.Commands.{dirty_limit, AsksNothing}
use Rattle.fv_aggregate.specs.Standing.{OneOf, StandsFor, StandsReady}
use Rattle.fv_aggregate.specs.Working.{is_unclean, most_steps, step_room, todo, Backs, HasKnownRoots}
use Rattle.fv_aggregate.proofs.Calls.{reads_itself}
use Rattle.fv_aggregate.proofs.CleanedKnown.{commits_known, fit_known, known, numbers_known, ready_known, stands_for_known, stands_known}
use Rattle.fv_aggregate.proofs.CleanedMost.{most_todo, todo_most}
use Rattle.fv_aggregate.proofs.Keeping.{keeps_same}
use Rattle.fv_aggregate.proofs.Replaced.{here}
use Rattle.fv_aggregate.proofs.SteppedBy.{in_steps}
use Rattle.fv_aggregate.proofs.Worked.{backs_ok, unclean_there, IsThere}
use Rattle.fv_aggregate.proofs.WorkedCalls.{backs_err, backs_then}

-- ---- so many steps

-- So many steps of the volume of a slot were taken, and it doesn't know all its places yet. After the first one no file is in memory, and each one more
-- leaves less to do.
pub record HasCleaned (slot : ℕ) (d : Shown) (s : Session) (count : ℕ) (e : Shown) (n : Session) : Type 0 where
  pub backs : Backs {T = Unit {0}} count d s e n (Ok tt)
  pub unclean : is_unclean (state_at n.volumes slot) ≡ true
  pub named : (name : List ℕ) → HasName s.volumes slot name → HasName n.volumes slot name
  pub falls : IsTrue d.tells → (last m : Machine) → StandsFor d s last m → 0 < count → HaveNoFiles n.volumes × (todo e n + count ≤ most_todo + 1)
  pub less : IsTrue d.tells → (last m : Machine) → StandsFor d s last m → HaveNoFiles s.volumes → HaveNoFiles n.volumes × (todo e n + count ≤ todo d s)
  pub calm : s.pending + count + step_room ≤ dirty_limit + 1 → OnlyReads d e

pub cleaned_none : (slot : ℕ) (d : Shown) → IsDisk d → (s : Session) → IsNone s.failed → StandsReady d s → is_unclean (state_at s.volumes slot) ≡ true → HasCleaned slot d s 0 d s
cleaned_none slot d laws s fresh ready unclean = record {
  backs = backs_ok d d laws s s 0 (reads_itself d) fresh ready (omega arith) (omega arith) (keeps_same s.volumes s.volumes refl) (λ tells last m is. is) tt refl;
  unclean = unclean;
  named = λ name has. has;
  falls = λ tells last m is some. absurd (omega (arith, some));
  less = λ tells last m is none. (none, omega arith);
  calm = λ few. reads_itself d;
}

-- a step whatever it answered is a step
backs_unit : {T : Type 0} (x : T) (c : ℕ) (d : Shown) (s : Session) (g : Shown) (p : Session) → Backs {T = T} c d s g p (Ok x) → Backs {T = Unit {0}} c d s g p (Ok tt)
backs_unit x c d s g p is = record { ends = is.ends; stands = is.stands; done = is.done; fault = tt; pending = is.pending; within = is.within; numbers = is.numbers; whole = λ tells last m was. tt; stays = is.stays }

module _ (slot : ℕ) (d : Shown) (s : Session) (count : ℕ) (e : Shown) (n : Session) (was : HasCleaned slot d s count e n) (g : Shown) (p : Session) where
  pub all_backs : {T : Type 0} (r : Result T Fault) → Backs 1 e n g p r → Backs (count + 1) d s g p r
  all_backs r is = backs_then tt count 1 (count + 1) (omega arith) d s e n was.backs g p r is

  -- no point was made for so many steps, nor for one more
  pub calm_on : (r : Result Bool Fault) → CleansOnce slot e n g p r → s.pending + (count + 1) + step_room ≤ dirty_limit + 1 → OnlyReads d g
  calm_on r once few =
      let so_far = was.backs.pending in
      reads_then d e g (was.calm (omega (arith, few))) (once.calm (omega (arith, few, so_far)))

  -- as many steps were left as were taken, so all have room where all that was left has
  pub calm_all : (r : Result Bool Fault) → CleansOnce slot e n g p r → IsTrue d.tells → (last m : Machine) → StandsFor d s last m → HaveNoFiles s.volumes → s.pending + todo d s + step_room ≤ dirty_limit → OnlyReads d g
  calm_all r once tells last m is none few = let most = (was.less tells last m is none).1 in calm_on r once (omega (arith, few, most))

  pub cleaned_more : CleansOnce slot e n g p (Ok true) → HasCleaned slot d s (count + 1) g p
  cleaned_more once = record {
    backs = all;
    unclean = once.unclean;
    named = λ name has. once.named name (was.named name has);
    falls = λ tells last m is some. (
      once.none,
      ⊎_elim
          (λ (first : count ≡ 0).
          let at = (all.stays tells last m is).stands all.done.0 in
          let most = todo_most g p once.long at.point m at.stands in
          omega (arith, first, most))
          (λ (later : count ≡ 0 → ⊥).
          let so_far = was.falls tells last m is (omega (arith, later)) in
          let at = (was.backs.stays tells last m is).stands was.backs.done.0 in
          let less = once.falls (subst IsTrue (sym was.backs.ends.tells) tells) at.point m at.stands so_far.0 refl in
          let before = so_far.1 in
          omega (arith, less, before))
          (cases_eq count 0),
    );
    less = λ tells last m is none.
        let so_far = was.less tells last m is none in
        let at = (was.backs.stays tells last m is).stands was.backs.done.0 in
        let fell = once.falls (subst IsTrue (sym was.backs.ends.tells) tells) at.point m at.stands so_far.0 refl in
        (once.none, (let before = so_far.1 in omega (arith, fell, before)));
    calm = calm_on (Ok true) once;
  }
    where
      all : Backs {T = Unit {0}} (count + 1) d s g p (Ok tt)
      all = backs_unit true (count + 1) d s g p (all_backs (Ok true) once.backs)

-- ---- as a call that takes steps

-- the machine after the call is another one, which no moment stands for
later_moments : (last m next : Machine) (given : List ℕ) (i : Image) (bytes : List ℕ) → OneOf last m m i × (bytes ≡ given) → OneOf last m next i × (bytes ≡ given)
later_moments last m next given i bytes one = (⊎_elim (λ old. inl old) (λ rest. inr (inl (⊎_elim (λ same. same) (λ same. same) rest))) one.0, one.1)

pub for_failed : {T U : Type 0} (c : ℕ) (d : Shown) (s : Session) (e : Shown) (n : Session) (f : Fault) → Backs {T = T} c d s e n (Err f) → IsTrue d.tells → (last m next : Machine) → StandsFor d s last m → GoesFor {T = U} d last m next e n (Err f)
for_failed c d s e n f is tells last m next stands =
    let stays = is.stays tells last m stands in
    record {
      any_moment = weaken d e (λ i bytes. OneOf last m m i × (bytes ≡ d.given)) (λ i bytes. OneOf last m next i × (bytes ≡ d.given)) (later_moments last m next d.given) stays.any_moment;
      done = tt;
      still = λ none. stays.stands none;
      whole = is.whole tells last m stands;
    }

-- ---- how it ends

module _ (slot : ℕ) (d : Shown) (s : Session) (fresh : IsNone s.failed) (name : List ℕ) (has : HasName s.volumes slot name) where
  abbrev after : Machine → Machine
  after m = next m (Clean name)

  -- a step failed
  pub learns_fault : (count : ℕ) (e : Shown) (n : Session) (was : HasCleaned slot d s count e n) (g : Shown) (p : Session) (f : Fault) → CleansOnce slot e n g p (Err f) → Learns after slot d s g p (Err f)
  learns_fault count e n was g p f once = record {
    goes = in_steps (count + 1) d s fresh g p (Err f) (backs_err (count + 1) (count + 1) (omega arith) d s g p f is);
    numbers = is.numbers;
    known = tt;
    goes_for = λ tells last m stands. for_failed (count + 1) d s g p f is tells last m (after m) stands;
    keeps = record {
      undone = λ tells last m stands none still.
          let so_far = was.less tells last m stands none in
          let at = (was.backs.stays tells last m stands).stands was.backs.done.0 in
          let same = once.undone (subst IsTrue (sym was.backs.ends.tells) tells) at.point m at.stands so_far.0 still in
          let most = so_far.1 in omega (arith, same, most);
      calm = calm_all slot d s count e n was g p (Err f) once;
    };
  }
    where
      is : Backs {T = Bool} (count + 1) d s g p (Err f)
      is = all_backs slot d s count e n was g p (Err f) once.backs

  -- each of so many steps left something to do
  pub learns_endless : (e : Shown) (n : Session) (count : ℕ) → most_steps ≤ count → HasCleaned slot d s count e n → Learns after slot d s e n (Err (Damaged 0 most_steps (most_steps + 1)))
  learns_endless e n count past was = record {
    goes = record {
      ends = was.backs.ends;
      stands = was.backs.stands;
      done = tt;
      fault = record { reason = record { session = s; asked = AsksNothing; part = inr (inr (refl, refl)) }; counts = was.backs.done.1; session = was.backs.done.0; disk = fresh };
      within = was.backs.within;
    };
    numbers = was.backs.numbers;
    known = tt;
    goes_for = λ tells last m stands. let most = (was.falls tells last m stands (omega (arith, past))).1 in absurd (omega (arith, most, past));
    keeps = record {
      undone = λ tells last m stands none still. let most = (was.less tells last m stands none).1 in omega (arith, most);
      calm = λ tells last m stands none few. let most = (was.less tells last m stands none).1 in was.calm (omega (arith, few, most));
    };
  }

  -- none was left to take
  module _ (count : ℕ) (e : Shown) (n : Session) (was : HasCleaned slot d s count e n) (g : Shown) (p : Session) (once : CleansOnce slot e n g p (Ok false)) (fit : FitTogether p.pool p.volumes) where
    abbrev pub there : IsThere (state_at p.volumes slot)
    there = unclean_there (state_at p.volumes slot) once.unclean

    abbrev pub x : VolumeState
    x = there.x

    pub all : Backs {T = Unit {0}} (count + 1) d s g p (Ok tt)
    all = backs_unit false (count + 1) d s g p (all_backs slot d s count e n was g p (Ok false) once.backs)

    abbrev pub finished : Session
    finished = known g p fit (all.stands all.done.0) slot x there.is

    its_name : x.name ≡ name
    its_name = same_name x.name name (sym (ap (λ (o : Option VolumeState). is_named o name) there.is) ∙ (once.named name (was.named name has)).named)

    pub learns_done : Learns after slot d s g finished (Ok tt)
    learns_done = record {
      goes = record {
        ends = all.ends;
        stands = λ none. stands_known g p fit (all.stands all.done.0) slot x there.is;
        done = (fresh, (all.done.0, all.done.1));
        fault = tt;
        within = all.within;
      };
      numbers = λ none k known. numbers_known p.pool p.volumes slot x there.is fit k (all.numbers all.done.0 k known);
      known = ap is_unclean (here p.volumes fit.housed.long slot x (known_now x) there.is);
      goes_for = λ tells last m stands.
          let stays = all.stays tells last m stands in
          let at = stays.stands all.done.0 in
          record {
            any_moment = weaken d g (λ i bytes. OneOf last m m i × (bytes ≡ d.given)) (λ i bytes. OneOf last m (after m) i × (bytes ≡ d.given)) (later_moments last m (after m) d.given) stays.any_moment;
            done = record {
              point = at.point;
              one = at.one;
              stands = subst (λ (q : List ℕ). StandsFor g finished at.point (next m (Clean q))) its_name
                  (stands_for_known g p fit (all.stands all.done.0) slot x there.is there.unclean once.none (subst HasKnownRoots there.is (once.roots refl)) at.point m at.stands);
            };
            still = λ none. tt;
            whole = tt;
          };
      keeps = record { undone = λ tells last m stands none still. tt; calm = calm_all slot d s count e n was g p (Ok false) once };
    }

-- ---- the end of cleaning

module _ (slot : ℕ) (p : Session) (unclean : is_unclean (state_at p.volumes slot) ≡ true) (fit : FitTogether p.pool p.volumes) (new : States) (is : FinishesAt p.volumes slot new) where
  abbrev its : IsThere (state_at p.volumes slot)
  its = unclean_there (state_at p.volumes slot) unclean

  -- the volume is called known
  pub is_finished : new ≡ with_state p.volumes slot (Some (known_now (unclean_there (state_at p.volumes slot) unclean).x))
  is_finished = subst (λ (o : Option VolumeState). FinishesIn p.volumes slot o new) its.is is

  pub finished_fit : FitTogether p.pool new
  finished_fit = subst (FitTogether p.pool) (sym is_finished) (fit_known p.pool p.volumes slot its.x its.is fit)

  pub finished_commits : sum_of new ≡ sum_of p.volumes
  finished_commits = ap sum_of is_finished ∙ commits_known p.pool p.volumes slot its.x its.is fit

  pub finished_ready : (d : Shown) → AreReady d p.pool p.volumes → AreReady d p.pool new
  finished_ready d ready = subst (AreReady d p.pool) (sym is_finished) (ready_known p.pool p.volumes slot its.x its.is fit d ready)

-- Once a step found nothing to take, the volume is called known.
pub learns_finished : (slot : ℕ) (d : Shown) (s : Session) (fresh : IsNone s.failed) (name : List ℕ) (has : HasName s.volumes slot name) (count : ℕ) (e : Shown) (n : Session) (was : HasCleaned slot d s count e n) (g : Shown) (p : Session) (once : CleansOnce slot e n g p (Ok false))
    → FitTogether p.pool p.volumes → (new : States) → FinishesAt p.volumes slot new → Learns (λ m. next m (Clean name)) slot d s g (record p { volumes = new }) (Ok tt)
learns_finished slot d s fresh name has count e n was g p once fit new is =
    subst (λ (ss : States). Learns (λ m. next m (Clean name)) slot d s g (record p { volumes = ss }) (Ok tt)) (sym (is_finished slot p once.unclean fit new is)) (learns_done slot d s fresh name has count e n was g p once fit)
