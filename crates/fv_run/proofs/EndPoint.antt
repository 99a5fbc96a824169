-- The last consistency point of a run that ended well, as the run has it.
use Rattle.std.proofs.Common.{◌≡◌, ◌+◌, ◌∙◌, ℕ, false, List, length, refl, sym, subst, arith}
use Rattle.std.specs.Prelude.{Ok, IsTrue}
use Rattle.fv_disk.specs.Shown.{Image, IsDisk, IsSettled, Shown}
use Rattle.fv_disk.specs.DiskCalls.{Stays}
use Rattle.fv_disk.specs.HostCalls.{Rests}
use Rattle.fv_disk.proofs.Resting.{settled_image}
use Rattle.fv_model.specs.Machines.{Machine}
use Rattle.fv_model.specs.Runs.{after, Line}
use Rattle.fv_lines.specs.Reading.{unread}
use Rattle.fv_image.specs.Held.{view_at}
use Rattle.fv_root.specs.Finding.{root_found}
use Rattle.fv_cp.specs.Choosing.{LeavesRoom}
use Rattle.fv_cp.specs.Placing.{HaveNoFiles}
use Rattle.fv_aggregate.specs.Commands.{AsksPoint}
use Rattle.fv_aggregate.specs.declared.session.Session.{Session}
use Rattle.fv_aggregate.specs.Calls.{Goes}
use Rattle.fv_aggregate.specs.LeftOver.{todo_under}
use Rattle.fv_aggregate.specs.Reclaiming.{HasPointed, Points}
use Rattle.fv_aggregate.specs.Standing.{StandsFor, StandsReady}
use Rattle.fv_aggregate.specs.Working.{todo}
use Rattle.fv_aggregate.proofs.MadeRoom.{entries_still}
use Rattle.fv_run.specs.Answering.{BeginsFor, HasAnswered, IsAtEnd}
use Rattle.fv_run.specs.Promises.{line_at}
use Rattle.fv_run.specs.Built.{lines_built}
use Rattle.fv_run.specs.Left.{works_of, AllKeepTodo, FallsBy}
use Rattle.fv_run.specs.Running.{still_disk, takes, IsLastFor}
use Rattle.fv_run.proofs.Courses.{pointed_on, stands_on}
use Rattle.fv_run.proofs.LastPoint.{all_lines}
use Rattle.fv_run.proofs.LeftAlong.{lower_behind}
use Rattle.fv_run.proofs.PointsMade.{cps_more, gone_next, HasMade, points_made}
use Rattle.fv_run.proofs.Ran.{PointedOpen}
use Rattle.fv_run.proofs.Sessions.{rests_standing, rests_standing_for, stays_standing_for}

-- a disk that is settled has its image alone
still : (disk : Shown) → IsDisk disk → IsTrue disk.tells → IsSettled disk → Stays disk (still_disk disk.reads)
still disk laws tells settled = record {
  tells = sym tells;
  reads = refl;
  no_more = λ c is. subst disk.images (sym is) (laws.read_is_image tells);
  no_fewer = λ c now. settled_image disk c settled now;
}

-- ---- what a point left is there still while the disk rests

pointed_still : (want : ℕ) (last next : Session) (point new : Shown) (m : Machine) → Rests point new → HasPointed want last point next m → HasPointed want last new next m
pointed_still want last next point new m rests is = record {
  next = is.next;
  stands = rests_standing_for point new next m m rests is.stands;
  room = subst (λ (i : Image). LeavesRoom (view_at (root_found next.pool.found) i) want) (sym rests.stays.reads) is.room;
  entries = entries_still want last next point new rests.stays.reads is.entries;
}

-- ---- the point behind all lines

module _ (limit : ℕ) (session : Session) (mid : Shown) (last : Session) (end : Shown) (count : ℕ) (at_end : IsAtEnd limit session mid last end count) (laws : IsDisk end) (next : Session) (point : Shown)
    (goes : Goes {T = Unit {0}} 0 AsksPoint end last point next (Ok tt)) (points : Points {T = Unit {0}} 0 end last point next (Ok tt))
    (stays : IsTrue end.tells → (before m : Machine) → StandsFor end last before m → HaveNoFiles last.volumes → todo point next ≡ todo end last)
    (shown : IsTrue end.tells → (before m : Machine) → StandsFor end last before m → todo point next ≡ todo_under next.pool.found point.reads) (new : Shown) (rests : Rests point new) (tells : IsTrue mid.tells) (begins : session.pending ≡ 0) where
  abbrev L : List Line
  L = lines_built mid.ends.left

  end_tells : IsTrue end.tells
  end_tells = subst IsTrue (sym at_end.stands.counts.tells) tells

  for_machine : (m : Machine) → BeginsFor mid session m → IsLastFor m L mid.reads end.reads last new next
  for_machine m stands = record {
    count = a.applied.point;
    all = let most = a.applied.most in let within = a.applied.within in omega (arith, most, within);
    stood = subst (λ (n : ℕ). StandsFor (still_disk end.reads) last (after m L a.applied.point) (after m L n)) all
        (stays_standing_for end (still_disk end.reads) last (after m L a.applied.point) (after m L count) (still end laws end_tells a.applied.stands.settled) a.applied.stands);
    quiet = λ none. a.applied.counted.quiet (λ line low. none line (let same = all in omega (arith, low, same)));
    pointed = subst (λ (n : ℕ). HasPointed 0 last new next (after m L n)) all
        (pointed_still 0 last next point new (after m L count) rests (points.point end_tells (after m L a.applied.point) (after m L count) a.applied.stands));
  }
    where
      a : HasAnswered m L (lines_built (unread at_end.held end)) mid last end count
      a = at_end.stands.answers tells m stands

      all : count ≡ length L
      all = let within = a.applied.within in let most = all_lines limit session mid last end count at_end tells in omega (arith, within, most)

  lower : (m : Machine) → BeginsFor mid session m → HaveNoFiles session.volumes → AllKeepTodo m L
      → FallsBy (works_of L) (todo mid session) (todo_under next.pool.found new.reads)
  lower m begun none keep =
      let a = at_end.stands.answers tells m begun in
      let within = a.applied.within in
      let most = all_lines limit session mid last end count at_end tells in
      lower_behind m L mid.reads session end.reads last count point.reads new.reads next (omega (arith, within, most)) none
      (at_end.stands.less tells m begun) (stays end_tells (after m L a.applied.point) (after m L count) a.applied.stands)
      (shown end_tells (after m L a.applied.point) (after m L count) a.applied.stands)
      rests.stays.reads keep

  made : ((line : ℕ) → takes (line_at L line) ≡ false) → HasMade L count session.pool.found last.pool.found
  made once = points_made L once count mid.reads session end.reads last (at_end.stands.course tells)

  stands_now : StandsReady new next
  stands_now = rests_standing point new next rests (goes.stands goes.done.goes_on)

  new_tells : IsTrue new.tells
  new_tells = subst IsTrue (sym (rests.stays.tells ∙ goes.ends.tells)) end_tells

  pub pointed_open : PointedOpen session mid new
  pointed_open = record {
    before = end.reads;
    last = last;
    next = next;
    over = stands_on end last end_tells at_end.stands.ready.stands;
    counted = λ once. record {
      points = (made once).points + 1;
      least = (let all = all_lines limit session mid last end count at_end tells in let cps = cps_more L (length L) count all in let least = (made once).least in omega (arith, cps, least));
      most = (let most = (made once).most in omega (arith, most));
      generation = gone_next (made once).points session.pool.found last.pool.found next.pool.found (made once).gone points.left.next;
    };
    counts = (stands_now.stands.found new_tells).reads;
    quiet = λ none. (at_end.stands.counted tells begins).quiet (λ line low. none line);
    left = pointed_on end new last next end_tells points.left;
    stands = stands_now;
    machine = for_machine;
    lowered = lower;
  }
