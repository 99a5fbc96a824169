-- Steps that are looked for slot by slot, and steps one after another.
use Rattle.std.proofs.Common.{◌≡◌, ◌≢◌, ◌≤◌, ◌<◌, ◌+◌, ℕ, Bool, true, false, true≢false, cond, length, Option, Some, None, Result, Ok, Err, ⊎_elim, refl, sym, ap, subst, ◌∙◌, arith}
use Rattle.std.specs.Prelude.{IsNone, IsTrue}
use Rattle.std.proofs.lemmas.Bool.{cases_eq}
use Rattle.fv_container.specs.Chains.{Slots, container_at, slot_count}
use Rattle.fv_disk.specs.Shown.{Image, IsDisk, Shown}
use Rattle.fv_disk.specs.DiskCalls.{OnlyReads}
use Rattle.fv_disk.proofs.Resting.{reads_then}
use Rattle.fv_model.specs.Machines.{Machine}
use Rattle.fv_pool.specs.declared.pool.Pool.{Pool}
use Rattle.fv_pool.specs.Calls.{Reads}
use Rattle.fv_volume.specs.declared.state.VolumeState.{VolumeState}
use Rattle.fv_volume.specs.States.{States, state_at, with_state}
use Rattle.fv_cleaner.specs.Cleaning.{StepsIn}
use Rattle.fv_cleaner.specs.Left.{left_in}
use Rattle.fv_cp.specs.Placing.{HaveNoFiles}
use Rattle.fv_aggregate.specs.declared.fault.Fault.{Fault}
use Rattle.fv_aggregate.specs.declared.session.Session.{Session}
use Rattle.fv_aggregate.specs.Commands.{dirty_limit}
use Rattle.fv_aggregate.specs.Standing.{StandsAfter, StandsFor, StandsReady}
use Rattle.fv_aggregate.specs.Working.{step_room, is_unclean, todo, todo_at, Backs, FallsSince, SeeksStep, StepsSince, TakesFirst, AreKnown, TakesStep, Works, WorksOnce}
use Rattle.fv_aggregate.proofs.Calls.{reads_itself}
use Rattle.fv_aggregate.proofs.Keeping.{keeps_same}
use Rattle.fv_aggregate.proofs.Looked.{reads_alone, stands_for_read, stands_read}
use Rattle.fv_aggregate.proofs.Worked.{backs_ok}
use Rattle.fv_aggregate.proofs.WorkedCalls.{backs_err, backs_then}
use Rattle.fv_aggregate.proofs.WorkedOthers.{left_read, none_slots, same_slots}
use Rattle.fv_aggregate.proofs.WorkedParts.{moved_on}

-- ---- slot by slot

todo_read : (d e : Shown) (p q : Pool) → Reads d p e q → (o : Option VolumeState) → todo_at e.reads q o ≡ todo_at d.reads p o
todo_read d e p q reads None = refl
todo_read d e p q reads (Some z) = ap (λ (n : ℕ). cond z.known 0 n) (left_read d e p q z reads.leaves reads.only_reads)

-- So many slots have nothing to do, and nothing changed but the cache.
pub record HasSought (d : Shown) (s : Session) (count : ℕ) (e : Shown) (n : Session) : Type 0 where
  pub reads : Reads d s.pool e n.pool
  pub same : n ≡ record s { pool = n.pool }
  pub calm : e.faults ≡ d.faults
  pub none : IsTrue d.tells → (last m : Machine) → StandsFor d s last m → (k : ℕ) → k < count → todo_at d.reads s.pool (state_at s.volumes k) ≡ 0

pub sought_none : (d : Shown) (s : Session) → StandsReady d s → HasSought d s 0 d s
sought_none d s ready = record {
  reads = reads_alone d d s.pool (reads_itself d) ready.stands.cache;
  same = refl;
  calm = refl;
  none = λ tells last m is k low. absurd (omega (arith, low));
}

module _ (d : Shown) (laws : IsDisk d) (s : Session) (fresh : IsNone s.failed) (ready : StandsReady d s) (long : length s.volumes ≡ 64) (none : HaveNoFiles s.volumes) (few : s.pending + step_room ≤ dirty_limit) (count : ℕ) (e : Shown) (n : Session) (was : HasSought d s count e n) where
  volumes_same : n.volumes ≡ s.volumes
  volumes_same = ap (λ (k : Session). k.volumes) was.same

  pub sought_fresh : IsNone n.failed
  sought_fresh = subst IsNone (sym (ap (λ (k : Session). k.failed) was.same)) fresh

  pub sought_stands : StandsReady e n
  sought_stands = subst (StandsReady e) (sym was.same) (stands_read d e s n.pool was.reads ready)

  pub sought_files : HaveNoFiles n.volumes
  sought_files = subst HaveNoFiles (sym volumes_same) none

  pub sought_few : n.pending + step_room ≤ dirty_limit
  sought_few = subst (λ (k : Session). k.pending + step_room ≤ dirty_limit) (sym was.same) few

  sought_for : (last m : Machine) → StandsFor d s last m → StandsFor e n last m
  sought_for last m is = subst (λ (k : Session). StandsFor e k last m) (sym was.same) (stands_for_read d e s n.pool was.reads last m is)

  sought_backs : Backs {T = Unit {0}} 0 d s e n (Ok tt)
  sought_backs = backs_ok d e laws s n 0 was.reads.only_reads sought_fresh sought_stands
      (let same : n.pending ≡ s.pending = ap (λ (k : Session). k.pending) was.same in omega (arith, same))
      (let same : n.pending ≡ s.pending = ap (λ (k : Session). k.pending) was.same in omega (arith, same))
      (keeps_same s.volumes n.volumes volumes_same) (λ tells last m is. sought_for last m is) tt was.calm

  todo_same : todo e n ≡ todo d s
  todo_same = same_slots (todo_at e.reads n.pool) (todo_at d.reads s.pool) s.volumes n.volumes (ap length volumes_same)
      (λ k. ap (λ (ss : States). todo_at e.reads n.pool (state_at ss k)) volumes_same ∙ todo_read d e s.pool n.pool was.reads (state_at s.volumes k))

  -- the next slot has nothing to do, either
  pub sought_more : (g : Shown) (p : Session) → TakesStep count e n g p (Ok false) → HasSought d s (count + 1) g p
  sought_more g p step = record {
    reads = record {
      leaves = record {
        map = step.steps.0.leaves.map ∙ was.reads.leaves.map;
        containers = step.steps.0.leaves.containers ∙ was.reads.leaves.containers;
        kept = step.steps.0.leaves.kept ∙ was.reads.leaves.kept;
        found = step.steps.0.leaves.found ∙ was.reads.leaves.found;
        version = step.steps.0.leaves.version ∙ was.reads.leaves.version;
      };
      only_reads = reads_then d e g was.reads.only_reads step.steps.0.only_reads;
      stands = step.steps.0.stands;
    };
    same = step.steps.1 ∙ (λ j. record (was.same j) { pool = p.pool });
    calm = step.backs.done.1.faults ∙ was.calm;
    none = λ tells last m is k low. ⊎_elim
        (λ (at : k ≡ count).
        let its = step.falls (subst IsTrue (sym was.reads.only_reads.stays.tells) tells) last m (sought_for last m is) in
        ap (λ (i : ℕ). todo_at d.reads s.pool (state_at s.volumes i)) at ∙ sym (ap (λ (ss : States). todo_at e.reads n.pool (state_at ss count)) volumes_same ∙ todo_read d e s.pool n.pool was.reads (state_at s.volumes count)) ∙ its)
        (λ (other : k ≢ count). was.none tells last m is k (omega (arith, low, other)))
        (cases_eq k count);
  }

  -- a step of the next slot is the first one
  first_step : (p : Session) (o : Option VolumeState) → StepsIn e n.pool n.volumes count o p.pool p.volumes true
      → ((k : ℕ) → k < count → todo_at d.reads s.pool (state_at s.volumes k) ≡ 0) → TakesFirst d.reads s.pool s.volumes p
  first_step p None steps idle = absurd (true≢false steps.0)
  first_step p (Some x) steps idle =
      let moved = moved_on e n.pool x p.pool steps.volume steps.cleans in
      let same : steps.volume.slot ≡ x.slot = ap (λ (z : VolumeState). z.slot) moved.same in
      record {
        slot = count;
        volume = steps.volume;
        volumes = steps.others ∙ ap (λ (ss : States). with_state ss count (Some steps.volume)) volumes_same;
        containers = λ k differ. moved.others k (λ at. differ (at ∙ sym same)) ∙ ap (λ (c : Slots). container_at c k) was.reads.leaves.containers;
        idle = idle;
      }

  -- the next slot has a step
  pub sought_step : (g : Shown) (p : Session) → TakesStep count e n g p (Ok true) → SeeksStep d s g p (Ok true)
  sought_step g p step = record {
    backs = backs_then tt 0 1 1 (omega arith) d s e n sought_backs g p (Ok true) step.backs;
    only_reads = reads_then d e g was.reads.only_reads step.only_reads;
    none = step.none;
    falls = λ tells last m is. let less = step.falls (subst IsTrue (sym was.reads.only_reads.stays.tells) tells) last m (sought_for last m is) in omega (arith, less, todo_same);
    first = λ tells last m is. first_step p (state_at n.volumes count) step.steps.0 (was.none tells last m is);
    undone = tt;
  }

  -- it fails
  pub sought_fault : (g : Shown) (p : Session) (f : Fault) → TakesStep count e n g p (Err f) → SeeksStep d s g p (Err f)
  sought_fault g p f step = record {
    backs = backs_then tt 0 1 1 (omega arith) d s e n sought_backs g p (Err f) step.backs;
    only_reads = reads_then d e g was.reads.only_reads step.only_reads;
    none = step.none;
    falls = λ tells last m is. tt;
    first = λ tells last m is. tt;
    undone = step.undone ∙ todo_same;
  }

  -- none has
  pub sought_all : 64 ≤ count → SeeksStep d s e n (Ok false)
  sought_all all = record {
    backs = backs_ok d e laws s n 1 was.reads.only_reads sought_fresh sought_stands
        (let same : n.pending ≡ s.pending = ap (λ (k : Session). k.pending) was.same in omega (arith, same))
        (let same : n.pending ≡ s.pending = ap (λ (k : Session). k.pending) was.same in omega (arith, same))
        (keeps_same s.volumes n.volumes volumes_same) (λ tells last m is. sought_for last m is) false was.calm;
    only_reads = was.reads.only_reads;
    none = sought_files;
    falls = λ tells last m is.
        let zero : todo d s ≡ 0 = none_slots (todo_at d.reads s.pool) s.volumes (λ k low. was.none tells last m is k (omega (arith, low, long, all))) in
        (zero, todo_same ∙ zero);
    first = λ tells last m is. tt;
    undone = tt;
  }

-- ---- steps one after another

-- So many steps were taken, each of which found one to take. After the first one no file is in memory, and what is left falls by each since the
-- files in memory were placed for it. Where each step has room no point is made.
pub record HasGone {D : Type 0} (shown : D → Shown) (d : D) (s : Session) (count : ℕ) (e : D) (n : Session) : Type 0 where
  pub backs : Backs {T = Unit {0}} count (shown d) s (shown e) n (Ok tt)
  pub falls : IsTrue (shown d).tells → (last m : Machine) → StandsFor (shown d) s last m → HaveNoFiles s.volumes
      → HaveNoFiles n.volumes × (todo (shown e) n + count ≤ todo (shown d) s)
  pub none : HaveNoFiles s.volumes → HaveNoFiles n.volumes
  pub start : count ≡ 0 → (e ≡ d) × (n ≡ s)
  pub bare : 0 < count → HaveNoFiles n.volumes
  pub since : IsTrue (shown d).tells → (last m : Machine) → StandsFor (shown d) s last m → 0 < count
      → FallsSince (shown d) s (shown e) n m count
  pub calm : s.pending + count + step_room ≤ dirty_limit + 1 → OnlyReads (shown d) (shown e)

pub gone_none : {D : Type 0} (shown : D → Shown) (d : D) → IsDisk (shown d) → (s : Session) → IsNone s.failed → StandsReady (shown d) s
    → HasGone shown d s 0 d s
gone_none shown d laws s fresh ready = record {
  backs = backs_ok (shown d) (shown d) laws s s 0 (reads_itself (shown d)) fresh ready (omega arith) (omega arith)
      (keeps_same s.volumes s.volumes refl) (λ tells last m is. is) tt refl;
  falls = λ tells last m is none. (none, omega arith);
  none = λ none. none;
  start = λ zero. (refl, refl);
  bare = λ some. absurd (omega (arith, some));
  since = λ tells last m is some. absurd (omega (arith, some));
  calm = λ few. reads_itself (shown d);
}

module _ {D : Type 0} (shown : D → Shown) (d : D) (s : Session) (count : ℕ) (e : D) (n : Session) (was : HasGone shown d s count e n)
    (g : D) (p : Session) where
  stood : IsTrue (shown d).tells → (last m : Machine) → StandsFor (shown d) s last m → StandsAfter (shown e) n last m m
  stood tells last m is = (was.backs.stays tells last m is).stands was.backs.done.0

  tells_on : IsTrue (shown d).tells → IsTrue (shown e).tells
  tells_on tells = subst IsTrue (sym was.backs.ends.tells) tells

  -- the step placed the files, where it was the first one
  placed_first : count ≡ 0 → (m : Machine) (took : Bool) → StepsSince (shown e) n (shown g) p m took
      → StepsSince (shown d) s (shown g) p m took
  placed_first zero m took is =
      let same = was.start zero in
      subst (λ (k : Session). StepsSince (shown d) k (shown g) p m took) same.1
      (subst (λ (z : D). StepsSince (shown z) n (shown g) p m took) same.0 is)

  -- no point was made for so many, nor for one more
  calm_on : (r : Result Bool Fault) → WorksOnce (shown e) n (shown g) p r → s.pending + (count + 1) + step_room ≤ dirty_limit + 1
      → OnlyReads (shown d) (shown g)
  calm_on r once few =
      let so_far = was.backs.pending in
      reads_then (shown d) (shown e) (shown g) (was.calm (omega (arith, few))) (once.calm (omega (arith, few, so_far)))

  pub gone_more : WorksOnce (shown e) n (shown g) p (Ok true) → HasGone shown d s (count + 1) g p
  gone_more once = record {
    backs = backs_as (backs_then tt count 1 (count + 1) (omega arith) (shown d) s (shown e) n was.backs (shown g) p (Ok true) once.backs);
    falls = λ tells last m is none.
        let so_far = was.falls tells last m is none in
        let at = stood tells last m is in
        let less = once.falls (tells_on tells) at.point m at.stands so_far.0 in
        (once.none, (let all = so_far.1 in omega (arith, less, all)));
    none = λ none. once.none;
    start = λ zero. absurd (omega (arith, zero));
    bare = λ some. once.none;
    since = λ tells last m is some. since tells last m is;
    calm = calm_on (Ok true) once;
  }
    where
      backs_as : Backs {T = Bool} (count + 1) (shown d) s (shown g) p (Ok true) → Backs {T = Unit {0}} (count + 1) (shown d) s (shown g) p (Ok tt)
      backs_as is = record { ends = is.ends; stands = is.stands; done = is.done; fault = tt; pending = is.pending; within = is.within; numbers = is.numbers; whole = λ tells last m stands. tt; stays = is.stays }

      since : IsTrue (shown d).tells → (last m : Machine) → StandsFor (shown d) s last m → FallsSince (shown d) s (shown g) p m (count + 1)
      since tells last m is = ⊎_elim
          (λ (zero : count ≡ 0).
          let at = stood tells last m is in
          let one = placed_first zero m true (once.since (tells_on tells) at.point m at.stands) in
          record { placed = one.placed; falls = (let less = one.falls in omega (arith, less, zero)) })
          (λ (later : count ≡ 0 → ⊥).
          let at = stood tells last m is in
          let so_far = was.since tells last m is (omega (arith, later)) in
          let less = once.falls (tells_on tells) at.point m at.stands (was.bare (omega (arith, later))) in
          record { placed = so_far.placed; falls = (let all = so_far.falls in omega (arith, less, all)) })
          (cases_eq count 0)

  -- none was left to take
  pub gone_early : (asked : ℕ) → count < asked → WorksOnce (shown e) n (shown g) p (Ok false) → Works asked (shown d) s (shown g) p (Ok count)
  gone_early asked low once = record {
    backs = backs_as (backs_then tt count 1 asked (omega (arith, low)) (shown d) s (shown e) n was.backs (shown g) p (Ok false) once.backs);
    worked = record {
      most = omega (arith, low);
      fewer = λ tells last m is less. let at = stood tells last m is in once.least (tells_on tells) at.point m at.stands;
      falls = λ tells last m is none.
          let so_far = was.falls tells last m is none in
          let at = stood tells last m is in
          let left = once.falls (tells_on tells) at.point m at.stands so_far.0 in
          let all = so_far.1 in let before = left.0 in let after = left.1 in omega (arith, all, before, after);
      since = λ tells last m is unknown some. since tells last m is;
      none = λ none. once.none;
    };
    undone = λ tells last m is none still. tt;
    calm = λ few. calm_on (Ok false) once (omega (arith, few, low));
  }
    where
      backs_as : Backs {T = Bool} asked (shown d) s (shown g) p (Ok false) → Backs {T = ℕ} asked (shown d) s (shown g) p (Ok count)
      backs_as is = record { ends = is.ends; stands = is.stands; done = is.done; fault = tt; pending = is.pending; within = is.within; numbers = is.numbers; whole = λ tells last m stands. tt; stays = is.stays }

      since : IsTrue (shown d).tells → (last m : Machine) → StandsFor (shown d) s last m → FallsSince (shown d) s (shown g) p m count
      since tells last m is = ⊎_elim
          (λ (zero : count ≡ 0).
          let at = stood tells last m is in
          let one = placed_first zero m false (once.since (tells_on tells) at.point m at.stands) in
          record { placed = one.placed; falls = (let after = one.falls.1 in omega (arith, after, zero)) })
          (λ (later : count ≡ 0 → ⊥).
          let at = stood tells last m is in
          let so_far = was.since tells last m is (omega (arith, later)) in
          let left = once.falls (tells_on tells) at.point m at.stands (was.bare (omega (arith, later))) in
          record { placed = so_far.placed; falls = (let all = so_far.falls in let before = left.0 in let after = left.1 in omega (arith, all, before, after)) })
          (cases_eq count 0)

  pub gone_fault : (asked : ℕ) → count < asked → (f : Fault) → WorksOnce (shown e) n (shown g) p (Err f)
      → Works asked (shown d) s (shown g) p (Err f)
  gone_fault asked low f once = record {
    backs = backs_err (count + 1) asked (omega (arith, low)) (shown d) s (shown g) p f
        (backs_then tt count 1 (count + 1) (omega arith) (shown d) s (shown e) n was.backs (shown g) p (Err f) once.backs);
    worked = tt;
    undone = λ tells last m is none still.
        let so_far = was.falls tells last m is none in
        let at = stood tells last m is in
        let same = once.undone (tells_on tells) at.point m at.stands so_far.0 still in
        let all = so_far.1 in omega (arith, same, all);
    calm = λ few. calm_on (Err f) once (omega (arith, few, low));
  }

pub gone_all : {D : Type 0} (shown : D → Shown) (d : D) (s : Session) (asked : ℕ) (e : D) (n : Session) → HasGone shown d s asked e n
    → Works asked (shown d) s (shown e) n (Ok asked)
gone_all shown d s asked e n was = record {
  backs = record { ends = was.backs.ends; stands = was.backs.stands; done = was.backs.done; fault = tt; pending = was.backs.pending; within = was.backs.within; numbers = was.backs.numbers; whole = λ tells last m is. tt; stays = was.backs.stays };
  worked = record {
    most = omega arith;
    fewer = λ tells last m is less. absurd (omega (arith, less));
    falls = λ tells last m is none. (was.falls tells last m is none).1;
    since = λ tells last m is unknown some. was.since tells last m is some;
    none = was.none;
  };
  undone = λ tells last m is none still. tt;
  calm = was.calm;
}

-- ---- no step at all

known_left : (i : Image) (pool : Pool) (o : Option VolumeState) → is_unclean o ≡ false → todo_at i pool o ≡ 0
known_left i pool None known = refl
known_left i pool (Some x) known = by x.known known
  where
    by : (b : Bool) → cond b false true ≡ false → cond b 0 (left_in i pool x) ≡ 0
    by true known = refl
    by false wrong = absurd cc

-- All places are known, so nothing is left to do, and nothing is done.
pub gone_known : {D : Type 0} (shown : D → Shown) (d : D) → IsDisk (shown d) → (s : Session) (asked : ℕ) → IsNone s.failed → StandsReady (shown d) s
    → length s.volumes ≡ slot_count → AreKnown s.volumes → Works asked (shown d) s (shown d) s (Ok 0)
gone_known shown d laws s asked fresh ready long known = record {
  backs = backs_ok (shown d) (shown d) laws s s asked (reads_itself (shown d)) fresh ready (omega arith) (omega arith)
      (keeps_same s.volumes s.volumes refl) (λ tells last m is. is) 0 refl;
  worked = record {
    most = omega arith;
    fewer = λ tells last m is less. zero;
    falls = λ tells last m is none. omega arith;
    since = λ tells last m is unknown some. absurd (unknown known);
    none = λ none. none;
  };
  undone = λ tells last m is none still. tt;
  calm = λ few. reads_itself (shown d);
}
  where
    zero : todo (shown d) s ≡ 0
    zero = none_slots (todo_at (shown d).reads s.pool) s.volumes (λ k low. known_left (shown d).reads s.pool (state_at s.volumes k) (known k (omega (arith, low, long))))
