-- Calls that can be made on the volumes of a session: what they need beside the cache is said of the session alone.
use Rattle.std.proofs.Common.{◌≡◌, ℕ, Option, Some, None, true≢false, length, sym, subst}
use Rattle.std.specs.Prelude.{IfSome, IsNone}
use Rattle.fv_disk.specs.Shown.{Shown}
use Rattle.fv_store.specs.Held.{Pairs, StandsOn}
use Rattle.fv_pool.specs.declared.pool.Pool.{Pool}
use Rattle.fv_pool.specs.Calls.{Reads}
use Rattle.fv_volume.specs.declared.state.VolumeState.{VolumeState}
use Rattle.fv_volume.specs.OneVolume.{IsReady}
use Rattle.fv_volume.specs.States.{States, state_at, with_state}
use Rattle.fv_cp.specs.Placing.{AreReady, IsReadyIn}
use Rattle.fv_aggregate.specs.declared.session.Session.{Session}
use Rattle.fv_aggregate.specs.Parts.{silent, AreSet}
use Rattle.fv_aggregate.specs.Standing.{Stands, StandsReady}
use Rattle.fv_aggregate.proofs.Changed.{ready_changed}
use Rattle.fv_aggregate.proofs.Looked.{ready_read}
use Rattle.fv_aggregate.proofs.Returned.{put_back}

-- ---- from one disk to another

module _ (d e : Shown) (pool : Pool) (cache : StandsOn e pool.store.pairs) where
  one_over : (x : VolumeState) → IsReady d pool x → IsReady e pool x
  one_over x is = record {
    lent = record { within = is.lent.within; stands = cache; few = is.lent.few; entries = is.lent.entries };
    labelled = is.labelled;
    booked = is.booked;
    blocks = is.blocks;
    changed = is.changed;
    fresh = is.fresh;
  }

  ready_over : (states : States) → AreReady d pool states → AreReady e pool states
  ready_over states ready s = by (state_at states s) (ready s)
    where
      by : (o : Option VolumeState) → IfSome o (IsReadyIn d pool s) → IfSome o (IsReadyIn e pool s)
      by None is = tt
      by (Some x) is = record { slot = is.slot; ready = one_over x is.ready }

-- each cache is right over a disk that tells nothing
pub stands_silent : (pairs : Pairs) → StandsOn silent pairs
stands_silent pairs = record { same = λ tells pvbn block has. absurd (true≢false (sym tells)) }

pub ready_set : (d : Shown) (pool : Pool) (states : States) → AreReady d pool states → AreSet pool states
ready_set d pool states ready = ready_over d silent pool (stands_silent pool.store.pairs) states ready

pub set_ready : (d : Shown) (pool : Pool) (states : States) → StandsOn d pool.store.pairs → AreSet pool states → AreReady d pool states
set_ready d pool states cache set = ready_over silent d pool cache states set

-- ---- sessions

-- calls can be made on the volumes of a session that hasn't failed, where it stands on the disk
pub stands_ready : (d : Shown) (v s : Session) → v ≡ s → (IsNone v.failed → AreSet v.pool v.volumes) → (IsNone s.failed → Stands d s) → IsNone s.failed → StandsReady d s
stands_ready d v s same set stands fresh = record {
  stands = stands fresh;
  ready = set_ready d s.pool s.volumes (stands fresh).cache (subst (λ (n : Session). AreSet n.pool n.volumes) same (set (subst (λ (n : Session). IsNone n.failed) (sym same) fresh)));
}

-- ---- a volume was lent to a call

module _ (d e : Shown) (v s : Session) (same : v ≡ s) (stands : StandsReady d s) (q : Pool) (reads : Reads d v.pool e q) (slot : ℕ) (x y : VolumeState) (there : state_at v.volumes slot ≡ Some x) where
  ready_before : AreReady d v.pool v.volumes
  ready_before = subst (λ (n : Session). AreReady d n.pool n.volumes) (sym same) stands.ready

  -- it is as it was
  pub set_lent : y ≡ x → AreSet q (with_state v.volumes slot (Some y))
  set_lent still = subst (AreSet q) (sym (put_back v.volumes slot x y there still)) (ready_set e q v.volumes (ready_read d e v.pool q reads v.volumes ready_before))

  -- it changed
  pub set_changed : y ≡ record x { now = y.now; map = y.map; files = y.files; numbers = y.numbers; ledger = y.ledger; changed = y.changed } → IsReady e q y → length v.volumes ≡ 64 → AreSet q (with_state v.volumes slot (Some y))
  set_changed now ready long = ready_set e q (with_state v.volumes slot (Some y)) (ready_changed d e v.pool q v.volumes slot x y there reads now ready long ready_before)
