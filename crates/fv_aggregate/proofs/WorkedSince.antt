-- The volumes of a session once its files in memory were placed, and one step after that.
--
-- An example: a file of a mirror is in memory. A step places it, and then fills in two pointers of the mirror. What was left to do is counted
-- between the two, and falls by two.
use Rattle.std.proofs.Common.{◌≡◌, ◌≤◌, ◌<◌, ◌+◌, Bool, true, false, Result, Ok, Err, inl, inr, ⊎_elim, sym, ap, subst, ◌∙◌, arith}
use Rattle.std.specs.Prelude.{IfOk, IsNone, IsTrue, OnErr, OnOk}
use Rattle.std.proofs.lemmas.Bool.{cases_lt}
use Rattle.fv_disk.specs.Shown.{IsDisk, Shown}
use Rattle.fv_disk.specs.DiskCalls.{OnlyReads}
use Rattle.fv_disk.proofs.Resting.{reads_then}
use Rattle.fv_model.specs.Machines.{Machine}
use Rattle.fv_cp.specs.Placing.{HaveNoFiles, KeepCores}
use Rattle.fv_aggregate.specs.declared.fault.Fault.{Fault}
use Rattle.fv_aggregate.specs.declared.session.Session.{Session}
use Rattle.fv_aggregate.specs.Adding.{IsPointed}
use Rattle.fv_aggregate.specs.Calls.{IsUnpointed, Runs}
use Rattle.fv_aggregate.specs.Commands.{dirty_limit, AsksNothing}
use Rattle.fv_aggregate.specs.LeftOver.{todo_under}
use Rattle.fv_aggregate.specs.Reclaiming.{HasPointed}
use Rattle.fv_aggregate.specs.Standing.{StandsAfter, StandsFor}
use Rattle.fv_aggregate.specs.Working.{step_room, todo, AreLaid, ArePointed, Backs, Falls, FilesPlaced, NoneLeft, PlacesAll, SeeksStep, StepsSince, TakesFirstIf, WorksOnce}
use Rattle.fv_aggregate.proofs.Calls.{reads_itself}
use Rattle.fv_aggregate.proofs.Standing.{stands_for_last}
use Rattle.fv_aggregate.proofs.WorkedCalls.{backs_err, backs_room, backs_then}
use Rattle.fv_aggregate.proofs.WorkedOthers.{todo_loaded}

-- What is said of a session for which room for a step was made.
pub record MadeRoom {D : Type 0} (shown : D → Shown) (first : D) (s : Session) (second : D) (n : Session) : Type 0 where
  pub backs : Backs {T = Unit {0}} 0 (shown first) s (shown second) n (Ok tt)
  pub left : IsTrue (shown first).tells → (last m : Machine) → StandsFor (shown first) s last m → HaveNoFiles s.volumes
      → todo (shown second) n ≡ todo (shown first) s
  pub files : HaveNoFiles s.volumes → HaveNoFiles n.volumes
  pub cores : KeepCores s.volumes n.volumes
  pub calm : s.pending + step_room ≤ dirty_limit → (second ≡ first) × (n ≡ s)
  pub none : dirty_limit < s.pending + step_room → HaveNoFiles n.volumes
  pub point : IsTrue (shown first).tells → (last m : Machine) → StandsFor (shown first) s last m → dirty_limit < s.pending + step_room
      → HasPointed step_room s (shown second) n m
  pub shows : IsTrue (shown first).tells → (last m : Machine) → StandsFor (shown first) s last m → dirty_limit < s.pending + step_room
      → todo (shown second) n ≡ todo_under n.pool.found (shown second).reads

-- so it is behind the call that makes room
pub room_made : {D : Type 0} (shown : D → Shown) (first : D) (s : Session) (second : D) (n : Session) (x : Unit {0}) → IsNone s.failed → n.pending ≤ s.pending
    → Runs step_room AsksNothing (λ m. m) (shown first) s (shown second) n (Ok x)
    → (IsTrue (shown first).tells → (last m : Machine) → StandsFor (shown first) s last m → HaveNoFiles s.volumes → todo (shown second) n ≡ todo (shown first) s)
    → (HaveNoFiles s.volumes → HaveNoFiles n.volumes) → KeepCores s.volumes n.volumes → (s.pending + step_room ≤ dirty_limit → (second ≡ first) × (n ≡ s))
    → (dirty_limit < s.pending + step_room → IsPointed (shown first) s n)
    → (IsTrue (shown first).tells → (last m : Machine) → StandsFor (shown first) s last m → dirty_limit < s.pending + step_room → HasPointed step_room s (shown second) n m)
    → (IsTrue (shown first).tells → (last m : Machine) → StandsFor (shown first) s last m → dirty_limit < s.pending + step_room → todo (shown second) n ≡ todo_under n.pool.found (shown second).reads)
    → MadeRoom shown first s second n
room_made shown first s second n x fresh few runs left files cores calm pointed point shows = record {
  backs = backs_room (shown first) s fresh (shown second) n x few runs;
  left = left;
  files = files;
  cores = cores;
  calm = calm;
  none = λ past. (pointed past).none;
  point = point;
  shows = shows;
}

-- where a point wasn't made without a file in memory, as much is left as before
pub left_unpointed : (d : Shown) (s : Session) (e : Shown) (n : Session) → IsUnpointed d s e n → HaveNoFiles s.volumes → todo e n ≡ todo d s
left_unpointed d s e n is bare =
    let loads = is.loads bare in todo_loaded d e s n loads.0 is.only_reads (ap (λ (k : Session). k.volumes) loads.1)

-- where the disk is as it was, it was only read
pub still_reads : {D : Type 0} (shown : D → Shown) (before after : D) → after ≡ before → OnlyReads (shown before) (shown after)
still_reads {D = D} shown before after same = subst (λ (z : D). OnlyReads (shown before) (shown z)) (sym same) (reads_itself (shown before))

-- ---- files were placed

module _ {D : Type 0} (shown : D → Shown) (first second third : D) (s n o : Session) (made : MadeRoom shown first s second n)
    (placed : PlacesAll shown second n third o (Ok tt)) where
  pub ready_backs : Backs {T = Unit {0}} 0 (shown first) s (shown third) o (Ok tt)
  ready_backs = backs_then tt 0 0 0 (omega arith) (shown first) s (shown second) n made.backs (shown third) o (Ok tt) placed.backs

  tells_then : IsTrue (shown first).tells → IsTrue (shown third).tells
  tells_then tells = subst IsTrue (sym ready_backs.ends.tells) tells

  tells_second : IsTrue (shown first).tells → IsTrue (shown second).tells
  tells_second tells = subst IsTrue (sym made.backs.ends.tells) tells

  stood : IsTrue (shown first).tells → (last m : Machine) → StandsFor (shown first) s last m → StandsAfter (shown third) o last m m
  stood tells last m is = (ready_backs.stays tells last m is).stands ready_backs.done.0

  idle_same : HaveNoFiles s.volumes → todo (shown third) o ≡ todo (shown second) n
  idle_same none = let idle = placed.idle (made.files none) in λ j. todo (shown (idle.0 j)) (idle.1 j)

  -- the files in memory were placed, and no point was made
  laid : IsTrue (shown first).tells → (last m : Machine) → StandsFor (shown first) s last m → s.pending + step_room ≤ dirty_limit
      → AreLaid (shown first) s (shown third).reads o.pool o.volumes m
  laid tells last m is within =
      let same = made.calm within in
      let stands : StandsFor (shown second) n last m =
      subst (λ (z : D). StandsFor (shown z) n last m) (sym same.0) (subst (λ (k : Session). StandsFor (shown first) k last m) (sym same.1) is) in
      let by : AreLaid (shown second) n (shown third).reads o.pool o.volumes m = placed.laid (tells_second tells) last m stands in
      subst (λ (k : Session). AreLaid (shown first) k (shown third).reads o.pool o.volumes m) same.1
      (subst (λ (z : D). AreLaid (shown z) n (shown third).reads o.pool o.volumes m) same.0 by)

  -- a point placed them
  pointed : IsDisk (shown second) → IsTrue (shown first).tells → (last m : Machine) → StandsFor (shown first) s last m
      → dirty_limit < s.pending + step_room → ArePointed s (shown third).reads o.pool o.volumes m
  pointed laws tells last m is past =
      let idle = placed.idle (made.none past) in
      let point = made.point tells last m is past in
      let by : ArePointed s (shown second).reads n.pool n.volumes m = record {
        next = point.next;
        found = point.stands.held.found.reads;
        machine = stands_for_last (shown second) n.pool n.volumes m point.stands.held (shown second).reads
            (laws.read_is_image (tells_second tells));
        shown = made.shows tells last m is past;
      } in
      subst (λ (k : Session). ArePointed s (shown third).reads k.pool k.volumes m) (sym idle.1)
      (subst (λ (z : D). ArePointed s (shown z).reads n.pool n.volumes m) (sym idle.0) by)

  pub files_placed : IsDisk (shown second) → IsTrue (shown first).tells → (last m : Machine) → StandsFor (shown first) s last m
      → FilesPlaced (shown first) s m
  files_placed laws tells last m is = record {
    at = (shown third).reads;
    pool = o.pool;
    volumes = o.volumes;
    none = placed.none;
    cores = λ k. placed.cores k ∙ made.cores k;
    way = ⊎_elim (λ past. inr (past, pointed laws tells last m is past)) (λ within. inl (within, laid tells last m is within))
        (cases_lt dirty_limit (s.pending + step_room));
    same = λ bare. idle_same bare ∙ made.left tells last m is bare;
  }

  -- ---- one step after that

  falls_from : (e : Shown) (p : Session) → todo (shown third) o ≡ todo (shown first) s → (r : Result Bool Fault)
      → IfOk r (Falls (shown third) o e p) → IfOk r (Falls (shown first) s e p)
  falls_from e p same (Ok true) is = omega (arith, same, is)
  falls_from e p same (Ok false) is = (sym same ∙ is.0, is.1)
  falls_from e p same (Err f) is = tt

  module _ (laws : IsDisk (shown second)) (last_disk : D) (p : Session) where
    pub worked_once : (r : Result Bool Fault) → SeeksStep (shown third) o (shown last_disk) p r → WorksOnce (shown first) s (shown last_disk) p r
    unfolding files_placed
    worked_once r seeks = record {
      backs = backs_then tt 0 1 1 (omega arith) (shown first) s (shown third) o ready_backs (shown last_disk) p r seeks.backs;
      none = on r seeks.none;
      least = λ tells last m is. least r (falls tells last m is);
      falls = λ tells last m is none. falls_from (shown last_disk) p (idle_same none ∙ made.left tells last m is none) r (falls tells last m is);
      since = λ tells last m is.
          let at = stood tells last m is in
          since r tells last m is (falls tells last m is) (seeks.first (tells_then tells) at.point m at.stands);
      undone = λ tells last m is none still. undone r (idle_same none ∙ made.left tells last m is none) seeks.undone;
      calm = λ within. reads_then (shown first) (shown third) (shown last_disk)
          (reads_then (shown first) (shown second) (shown third) (still_reads shown first second (made.calm within).0) placed.only_reads)
          seeks.only_reads;
    }
      where
        falls : IsTrue (shown first).tells → (last m : Machine) → StandsFor (shown first) s last m
            → IfOk r (Falls (shown third) o (shown last_disk) p)
        falls tells last m is = let at = stood tells last m is in seeks.falls (tells_then tells) at.point m at.stands

        on : (r : Result Bool Fault) → HaveNoFiles p.volumes → OnOk r (HaveNoFiles p.volumes)
        on (Ok b) is = is
        on (Err f) is = tt

        least : (r : Result Bool Fault) → IfOk r (Falls (shown third) o (shown last_disk) p) → IfOk r (NoneLeft (shown last_disk) p)
        least (Ok true) is = tt
        least (Ok false) is = is.1
        least (Err f) is = tt

        since : (r : Result Bool Fault) → IsTrue (shown first).tells → (last m : Machine) → StandsFor (shown first) s last m
            → IfOk r (Falls (shown third) o (shown last_disk) p) → IfOk r (TakesFirstIf (shown third).reads o.pool o.volumes p)
            → IfOk r (StepsSince (shown first) s (shown last_disk) p m)
        since (Ok took) tells last m is less first = record { placed = files_placed laws tells last m is; falls = less; first = first }
        since (Err f) tells last m is less first = tt

        undone : (r : Result Bool Fault) → todo (shown third) o ≡ todo (shown first) s → OnErr r (todo (shown last_disk) p ≡ todo (shown third) o)
            → OnErr r (todo (shown last_disk) p ≡ todo (shown first) s)
        undone (Ok b) same is = tt
        undone (Err f) same is = is ∙ same

-- ---- a fault before it

pub unworked : (d : Shown) (s : Session) (e : Shown) (n : Session) (f : Fault) → Backs {T = Unit {0}} 0 d s e n (Err f)
    → (HaveNoFiles s.volumes → IsNone n.failed → todo e n ≡ todo d s) → (s.pending + step_room ≤ dirty_limit → OnlyReads d e)
    → WorksOnce d s e n (Err f)
unworked d s e n f is undone calm = record {
  backs = backs_err 0 1 (omega arith) d s e n f is;
  none = tt;
  least = λ tells last m was. tt;
  falls = λ tells last m was none. tt;
  since = λ tells last m was. tt;
  undone = λ tells last m was none still. undone none still;
  calm = calm;
}

pub unplaced_work : {D : Type 0} (shown : D → Shown) (first second third : D) (s n o : Session) (f : Fault)
    → MadeRoom shown first s second n → PlacesAll shown second n third o (Err f) → WorksOnce (shown first) s (shown third) o (Err f)
unplaced_work shown first second third s n o f made placed = unworked (shown first) s (shown third) o f
    (backs_then tt 0 0 0 (omega arith) (shown first) s (shown second) n made.backs (shown third) o (Err f) placed.backs)
    (λ none still. absurd (placed.filed (made.files none)))
    (λ within. reads_then (shown first) (shown second) (shown third) (still_reads shown first second (made.calm within).0) placed.only_reads)
