-- The parts of a session after a step of one of its volumes was asked for, taken or not: they fit together, the commits have the sum that they had, and
-- calls can be made on the volumes.
use Rattle.std.proofs.Common.{◌≡◌, ◌≤◌, ◌+◌, ℕ, true, false, ap, sym}
use Rattle.std.specs.Prelude.{IsNone}
use Rattle.fv_disk.specs.Shown.{IsDisk, Shown}
use Rattle.fv_disk.specs.DiskCalls.{OnlyReads}
use Rattle.fv_store.specs.Held.{StandsOn}
use Rattle.fv_pool.specs.declared.pool.Pool.{Pool}
use Rattle.fv_pool.specs.BlocksOver.{LoadsPool}
use Rattle.fv_volume.specs.Slots.{sum_of}
use Rattle.fv_volume.specs.States.{States, state_at}
use Rattle.fv_cleaner.specs.Cleaning.{CleansAt}
use Rattle.fv_cp.specs.Lent.{FitTogether}
use Rattle.fv_cp.specs.Placing.{HaveNoFiles}
use Rattle.fv_aggregate.specs.declared.session.Session.{Session}
use Rattle.fv_aggregate.specs.Parts.{AreSet}
use Rattle.fv_aggregate.specs.Standing.{StandsReady}
use Rattle.fv_aggregate.specs.Working.{is_unclean, step_room}
use Rattle.fv_aggregate.proofs.Ready.{ready_set}
use Rattle.fv_aggregate.proofs.Worked.{failed_fit, failed_ready, may_step, none_commits, none_fit, none_ready, took_commits, took_fit, took_ready, MayStep}

pub record KeepsSet (v : Session) (q : Pool) (new : States) : Type 0 where
  pub fresh : IsNone v.failed
  pub fit : FitTogether q new
  pub commits : sum_of v.volumes ≡ sum_of new
  pub ready : AreSet q new

module _ (d e : Shown) (laws : IsDisk d) (v was : Session) (same : v ≡ was) (slot : ℕ) (fresh : IsNone was.failed) (ready : StandsReady d was)
    (none : HaveNoFiles was.volumes) (few : was.pending + step_room ≤ 256) (unclean : is_unclean (state_at was.volumes slot) ≡ true)
    (inside : IsNone v.failed → FitTogether v.pool v.volumes) (reads : OnlyReads d e) (q : Pool) (cache : StandsOn e q.store.pairs)
    (new : States) where
  may : MayStep d v slot
  may = may_step d v was same slot fresh ready none few unclean

  fit : FitTogether v.pool v.volumes
  fit = inside may.fresh

  pub took_set : CleansAt d v.pool v.volumes slot q new true → KeepsSet v q new
  took_set cleans = record {
    fresh = may.fresh;
    fit = took_fit d e laws v slot may fit reads q cache new cleans;
    commits = sym (took_commits d e laws v slot may fit reads q cache new cleans);
    ready = ready_set e q new (took_ready d e laws v slot may fit reads q cache new cleans);
  }

  pub none_set : CleansAt d v.pool v.volumes slot q new false → KeepsSet v q new
  none_set cleans = record {
    fresh = may.fresh;
    fit = none_fit d e laws v slot may fit reads q cache new cleans;
    commits = sym (none_commits d e laws v slot may fit reads q cache new cleans);
    ready = ready_set e q new (none_ready d e laws v slot may fit reads q cache new cleans);
  }

  pub failed_set : LoadsPool d v.pool q → new ≡ v.volumes → KeepsSet v q new
  failed_set loads still = record {
    fresh = may.fresh;
    fit = failed_fit d e laws v slot may fit reads q loads cache new still;
    commits = ap sum_of (sym still);
    ready = ready_set e q new (failed_ready d e laws v slot may fit reads q loads cache new still);
  }
