-- What a point by its plan leaves, of the volumes as they were given: the laws of `Ending` over the volumes that are marked, and the
-- regions that are chosen.
use Rattle.std.proofs.Common.{◌≡◌, ◌≤◌, ℕ, List, Bool, length}
use Rattle.std.specs.Prelude.{IsTrue}
use Rattle.fv_disk.specs.Shown.{Shown}
use Rattle.fv_disk.specs.Crash.{Leaves}
use Rattle.fv_model.specs.Machines.{Machine}
use Rattle.fv_aggmap.specs.Space.{free_blocks}
use Rattle.fv_delay.specs.ByThreshold.{threshold_for}
use Rattle.fv_delay.specs.Holding.{counts_of}
use Rattle.fv_root.specs.Commits.{IsCommitted, OldOrNew}
use Rattle.fv_pool.specs.declared.pool.Pool.{Pool}
use Rattle.fv_volumes.specs.Housed.{settled_at}
use Rattle.fv_volume.specs.States.{States, state_at}
use Rattle.fv_cp.specs.declared.planning.Plan.{Plan}
use Rattle.fv_cp.specs.Choosing.{CanChoose, asked_with, holdings, marked_at, missing_for, regions_chosen}
use Rattle.fv_cp.specs.Course.{HasCome, root_with}
use Rattle.fv_cp.specs.Lent.{FitTogether, IsLent}
use Rattle.fv_cp.specs.Planning.{AreCounted, IsPlan, LeaveDelays, is_set, taken}
use Rattle.fv_cp.specs.Points.{IsPoint, IsSwitched, OldOrLent}
use Rattle.fv_cp.proofs.Ending.{moments, point}
use Rattle.fv_cp.proofs.Marking.{fit_marked, lent_marked}
use Rattle.fv_cp.proofs.Pointing.{come_chosen, marked_chosen, none_left}

module _ (disk : Shown) (pool : Pool) (given : States) (before : Machine) (lent : IsLent disk pool given before) (fit : FitTogether pool given) (want : ℕ) (delays : List Bool) (can : CanChoose disk pool given want delays) (plan : Plan)
    (planned : AreCounted pool.containers given delays → asked_with (regions_chosen pool given want) given ≤ free_blocks pool.map → IsPlan (holdings pool.containers given) (threshold_for (counts_of (holdings pool.containers given)) (missing_for pool given want)) plan)
    (now : States) (marked : (s : ℕ) → state_at now s ≡ marked_at (is_set plan.due) given s) (long : length now ≡ 64) (labels : List ℕ) (left : Pool) (mid : Shown)
    (told : Type 0) (come : HasCome (taken plan (holdings pool.containers now)) told disk pool now 64 labels left mid) (tells : IsTrue disk.tells) (leaves : told) where
  fit_now : FitTogether pool now
  fit_now = fit_marked given now (is_set plan.due) marked pool long fit

  lent_now : IsLent disk pool now before
  lent_now = lent_marked given now (is_set plan.due) marked disk pool before lent

  -- what a crash leaves while the new root is written
  pub moments_by : (new : Shown) → (IsTrue mid.tells → Leaves mid new (OldOrNew mid left.found (root_with pool labels) left.map.next)) → Leaves disk new (OldOrLent disk pool given before)
  moments_by = moments disk pool now before lent_now fit_now labels left mid given want told
      (come_chosen disk pool given before lent fit want delays can plan planned now marked told fit_now.housed labels left mid come) tells leaves
      (marked_chosen disk pool given before lent fit want delays can plan planned now marked) fit.housed.long

  -- and what the point leaves
  pub point_by : (new : Shown) → (IsTrue mid.tells → IsCommitted mid left.found (root_with pool labels) left.map.next new) → (last : Pool) (stay : States) → IsSwitched left (root_with pool labels) last → last.containers ≡ left.containers → last.kept ≡ left.kept
      → ((s : ℕ) → state_at stay s ≡ settled_at labels now s) → (after : List Bool) → LeaveDelays plan (holdings pool.containers now) 64 plan.delays after → IsPoint disk pool given want new last stay after
  point_by new committed last stay switched containers kept settled after leave = point disk pool now before lent_now fit_now labels left mid given want told
      (come_chosen disk pool given before lent fit want delays can plan planned now marked told fit_now.housed labels left mid come) tells leaves
      (marked_chosen disk pool given before lent fit want delays can plan planned now marked) fit.housed.long
      new committed last stay switched containers kept settled after
      (none_left disk pool given before lent fit want delays can plan planned now marked after leave)
