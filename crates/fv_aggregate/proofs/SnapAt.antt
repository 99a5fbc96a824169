-- What a command did to the snapshots of the volume of a slot, by what the call on the volumes did.
use Rattle.std.proofs.Common.{◌≡◌, ◌<◌, ◌≤◌, ⊎_elim, ℕ, List, length, Option, Some, None, Result, sym, ap, subst, ◌∙◌}
use Rattle.std.specs.Prelude.{IfSome}
use Rattle.std.proofs.lemmas.Bool.{cases_lt}
use Rattle.std.proofs.lemmas.List.{get_or_past, get_or-set_same}
use Rattle.std.proofs.lemmas.Option.{none-some, same_Some}
use Rattle.fv_disk.specs.Shown.{Shown}
use Rattle.fv_model.specs.declared.commands.Command.{Command}
use Rattle.fv_model.specs.declared.commands.Command.TheVariants.{SnapDelete}
use Rattle.fv_pool.specs.declared.fault.VolumeFault.{VolumeFault}
use Rattle.fv_pool.specs.declared.pool.Pool.{Pool}
use Rattle.fv_volume.specs.declared.state.VolumeState.{VolumeState}
use Rattle.fv_volume.specs.OneVolume.{IsReady}
use Rattle.fv_volume.specs.States.{States, state_at, with_state}
use Rattle.fv_snapshot.specs.Deleting.{DeletesAt}
use Rattle.fv_aggregate.specs.Commands.{snapped_by}
use Rattle.fv_aggregate.specs.Looking.{IsSnapAimed, SnapsAt, SnapsState}

-- a volume that is there is the one of its slot, where it is put there
put_there : (states : States) (slot : ℕ) (x y : VolumeState) → state_at states slot ≡ Some x → state_at (with_state states slot (Some y)) slot ≡ Some y
put_there states slot x y there = get_or-set_same states slot (Some y) None (⊎_elim
    (λ (low : slot < length states). low)
    (λ (past : length states ≤ slot). absurd (none-some x (sym (get_or_past states slot None past) ∙ there)))
    (cases_lt slot (length states)))

pub put_in : (states new : States) (slot : ℕ) (x y : VolumeState) → new ≡ with_state states slot (Some y) → state_at states slot ≡ Some x → state_at new slot ≡ Some y
put_in states new slot x y row there = ap (λ (t : States). state_at t slot) row ∙ put_there states slot x y there

-- A snapshot was removed, or not.
pub deleted_at : (d : Shown) (p : Pool) (states : States) (slot others : ℕ) (c : Command) (volume name : List ℕ) → c ≡ SnapDelete volume name → IsSnapAimed states slot c → (e : Shown) (q : Pool) (new : States) (r : Result Unit VolumeFault) → DeletesAt d p states slot name e q new r
    → IfSome (state_at new slot) (IsReady e q) → SnapsAt d p states slot others c e q new r
deleted_at d p states slot others c volume name is aimed e q new r did ready = record {
  state = did.state;
  there = did.there;
  now = did.now;
  row = did.row;
  did = subst (λ (k : Command). SnapsState d p states slot did.state others k e q did.now r) (sym is) (called, did.deletes);
  ready = subst (λ (o : Option VolumeState). IfSome o (IsReady e q)) (put_in states new slot did.state did.now did.row did.there) ready;
}
  where
    called : volume ≡ did.state.name
    called = same_Some volume did.state.name (sym (ap snapped_by is) ∙ aimed.snaps ∙ ap (λ (z : VolumeState). Some z.name) (same_Some aimed.state did.state (sym aimed.there ∙ did.there)))
