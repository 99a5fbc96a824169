-- Lines are applied, one after another, whatever is said of them.
use Rattle.std.proofs.Common.{◌≡◌, inl, false, ℕ, ◌+◌, List, ◌∷◌, drop, arith}
use Rattle.fv_disk.specs.Shown.{Shown}
use Rattle.fv_disk.specs.HostCalls.{Rests}
use Rattle.fv_model.specs.Machines.{Machine}
use Rattle.fv_model.specs.Runs.{Line, after, after_line}
use Rattle.fv_aggregate.specs.declared.session.Session.{Session}
use Rattle.fv_aggregate.specs.Standing.{StandsAfter}
use Rattle.fv_run.specs.Running.{asks_point, pending_behind, rooms_along}
use Rattle.fv_run.specs.Answering.{BeginsFor, HasApplied, IsCounted, StandsOnward}
use Rattle.fv_run.proofs.Acked.{up_to_take}
use Rattle.fv_run.proofs.Counted.{counted_none, counted_still}
use Rattle.fv_run.proofs.Following.{left_below}
use Rattle.fv_run.proofs.Sessions.{point_stays, rests_standing_for}
use Rattle.fv_run.proofs.Surviving.{IsOnward, onward}

-- before the first line
pub none_applied : (m : Machine) (lines : List Line) (old : Shown) (session : Session) → BeginsFor old session m → HasApplied m lines old session old 0
none_applied m lines old session begins = record {
  within = omega arith;
  point = 0;
  least = up_to_take 0 lines (omega arith);
  most = omega arith;
  asked = inl (omega (arith, up_to_take 0 lines (omega arith)));
  counted = counted_none (rooms_along m lines) lines old session begins.pending;
  stands = begins.stands;
}

-- while the disk rests
pub still_applied : (m : Machine) (lines : List Line) (old : Shown) (session : Session) (now : Shown) (count : ℕ) → HasApplied m lines old session now count → (mid : Shown) → Rests now mid → HasApplied m lines old session mid count
still_applied m lines old session now count so_far mid rests = record {
  within = so_far.within;
  point = so_far.point;
  least = so_far.least;
  most = so_far.most;
  asked = so_far.asked;
  counted = counted_still (rooms_along m lines) lines old session now count so_far.counted mid rests.stays.reads;
  stands = rests_standing_for now mid session (after m lines so_far.point) (after m lines count) rests so_far.stands;
}

-- the next line is applied
module _ (m : Machine) (lines : List Line) (line : Line) (rest : List Line) (old : Shown) (session : Session) (mid : Shown) (count : ℕ) (is : line ∷ rest ≡ drop count lines) (so_far : HasApplied m lines old session mid count)
    (next_session : Session) (end : Shown) (calm : asks_point (rooms_along m lines count) (pending_behind (rooms_along m lines) lines count) line ≡ false → end.reads ≡ mid.reads) where
  -- the last point stays where the line asks for none
  pub stays : (now : Machine) (stands : StandsAfter end next_session (after m lines so_far.point) (after m lines count) now) → asks_point (rooms_along m lines count) (pending_behind (rooms_along m lines) lines count) line ≡ false → stands.point ≡ after m lines so_far.point
  stays now stands none = point_stays mid end session next_session (after m lines so_far.point) (after m lines count) (after m lines count) now (calm none) so_far.stands stands

  module _ (stands : StandsOnward end next_session (after m lines so_far.point) (after m lines count) line) where
    pub next_point : IsOnward m lines rest line count is end next_session
    next_point = onward m lines rest line count is end next_session so_far.point so_far.least so_far.most so_far.asked stands (stays (after_line (after m lines count) line) stands.after)

    pub applied_one : (new : Shown) → Rests end new → IsCounted (rooms_along m lines) lines old next_session new (count + 1) → HasApplied m lines old next_session new (count + 1)
    applied_one new rests counted = record {
      within = let below = left_below count lines rest line is in omega (arith, below);
      point = next_point.point;
      least = next_point.least;
      most = next_point.most;
      asked = next_point.asked;
      counted = counted;
      stands = rests_standing_for end new next_session (after m lines next_point.point) (after m lines (count + 1)) rests next_point.stands;
    }
