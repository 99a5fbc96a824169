-- Calls on the snapshots of a volume leave it where it was, and the root.
use Rattle.std.proofs.Common.{◌≡◌, ◌<◌, ℕ, List, length, Option, Some, None, true, Result, Ok, Err, refl, sym, ap, subst, ◌∙◌, inl, arith}
use Rattle.std.specs.Prelude.{IfSome, OnErr, OnOk, is_some}
use Rattle.std.proofs.lemmas.List.{get_or-set_same}
use Rattle.fv_container.specs.Chains.{slot_count}
use Rattle.fv_disk.specs.Shown.{Shown as Disk}
use Rattle.fv_pool.specs.declared.fault.VolumeFault.{VolumeFault}
use Rattle.fv_pool.specs.declared.pool.Pool.{Pool}
use Rattle.fv_volume.specs.declared.state.VolumeState.{VolumeState}
use Rattle.fv_volume.specs.Held.{IsPlacedAs}
use Rattle.fv_volume.specs.OneVolume.{IsReady}
use Rattle.fv_volume.specs.Slots.{HasName, is_named}
use Rattle.fv_volume.specs.States.{States, state_at}
use Rattle.fv_volumes.proofs.Staying.{only_itself}
use Rattle.fv_snapshot.specs.Creating.{IsSnapped}
use Rattle.fv_snapshot.specs.Deleting.{DeletesAt, IsUnsnapped}
use Rattle.fv_snapshot.specs.Restoring.{IsTurned}
use Rattle.fv_volume_rows.specs.Held.{AreFit, AreHeld, KeepsPlace, LeavesPlace, LeavesRoot}
use Rattle.fv_volume_rows.proofs.Fitting.{fit_left, held_left, placed_place, placed_root}

-- a volume of which nothing changed keeps its place
place_itself : (x : VolumeState) → KeepsPlace x x
place_itself x = record { slot = refl; span = refl; base = refl }

-- a pool of which nothing changed keeps the root
root_itself : (d : Disk) (p : Pool) (slot : ℕ) → LeavesRoot d d p p slot
root_itself d p slot = record {
  stays = (only_itself d).stays;
  found = refl;
  version = refl;
  committed = refl;
  kept = λ b. inl refl;
  others = λ s other. refl;
  there = refl;
  count = refl;
  parents = refl;
}

-- Nothing was done.
pub leaves_itself : (d : Disk) (p : Pool) (x : VolumeState) → LeavesPlace d d p p x x
leaves_itself d p x = record { place = place_itself x; root = root_itself d p x.slot }

-- What changed of the files was placed, and then the volume changed, but not its place.
placed_then : (d e : Disk) (p q : Pool) (x mid y : VolumeState) → IsPlacedAs d p x e q mid → KeepsPlace mid y → LeavesPlace d e p q x y
placed_then d e p q x mid y placed then =
    let first = placed_place x mid placed.keeps in
    record {
      place = record { slot = then.slot ∙ first.slot; span = then.span ∙ first.span; base = then.base ∙ first.base };
      root = placed_root d e p q x mid placed.room placed.rest placed.goes;
    }

-- A snapshot was made, or not.
pub created_leaves : (d e : Disk) (p q : Pool) (x y : VolumeState) (name : List ℕ) (r : Result Unit VolumeFault) → OnOk r (IsSnapped d p x e q name y) → OnErr r (IsPlacedAs d p x e q y) → LeavesPlace d e p q x y
created_leaves d e p q x y name (Ok done) is failed = placed_then d e p q x is.mid y is.placed (subst (KeepsPlace is.mid) (sym is.now) (record { slot = refl; span = refl; base = refl }))
created_leaves d e p q x y name (Err fault) is failed = placed_then d e p q x y y failed (place_itself y)

-- One was removed, or not.
pub deleted_leaves : (d e : Disk) (p q : Pool) (x y : VolumeState) (name : List ℕ) (r : Result Unit VolumeFault) → OnOk r (IsUnsnapped d p x e q name y) → OnErr r (IsPlacedAs d p x e q y) → LeavesPlace d e p q x y
deleted_leaves d e p q x y name (Ok done) is failed = placed_then d e p q x is.mid y is.placed (subst (KeepsPlace is.mid) (sym is.now) (record { slot = refl; span = refl; base = refl }))
deleted_leaves d e p q x y name (Err fault) is failed = placed_then d e p q x y y failed (place_itself y)

-- A volume of a name is one.
named_there : (o : Option VolumeState) (name : List ℕ) → is_named o name ≡ true → is_some o ≡ true
named_there None name is = is
named_there (Some x) name is = refl

pub has_there : (xs : States) (slot : ℕ) (name : List ℕ) → HasName xs slot name → is_some (state_at xs slot) ≡ true
has_there xs slot name has = named_there (state_at xs slot) name has.named

-- So it was removed from the volume of a slot, or not.
module _ (d e : Disk) (p q : Pool) (xs ys : States) (slot : ℕ) (name : List ℕ) (r : Result Unit VolumeFault) (within : slot < slot_count)
    (did : DeletesAt d p xs slot name e q ys r) (ready : IfSome (state_at ys slot) (IsReady e q)) (held : AreHeld d p xs) where
  leaves : LeavesPlace d e p q did.state did.now
  leaves = deleted_leaves d e p q did.state did.now name r did.deletes.done did.deletes.failed

  inside : slot < length xs
  inside = let long = held.long in omega (arith, within, long)

  now_ready : IsReady e q did.now
  now_ready = subst (λ (o : Option VolumeState). IfSome o (IsReady e q)) (ap (λ (zs : States). state_at zs slot) did.row ∙ get_or-set_same xs slot (Some did.now) None inside) ready

  -- Calls can be made on each,
  pub deleted_held : AreHeld e q ys
  deleted_held = subst (λ (zs : States). AreHeld e q zs) (sym did.row)
      (held_left d e p q xs slot did.state did.now held within did.there leaves.place.slot now_ready leaves.root)

  -- and a point.
  pub deleted_fit : AreFit d p xs → AreFit e q ys
  deleted_fit fit = subst (λ (zs : States). AreFit e q zs) (sym did.row)
      (fit_left d e p q xs slot did.state did.now fit within did.there leaves.place now_ready.labelled leaves.root)

-- The table of one was made the active one, or not.
pub restored_leaves : (d : Disk) (p : Pool) (x y : VolumeState) (name : List ℕ) (r : Result Unit VolumeFault) → OnOk r (IsTurned x name y) → OnErr r (y ≡ x) → LeavesPlace d d p p x y
restored_leaves d p x y name (Ok done) is failed = record { place = subst (KeepsPlace x) (sym is.now) (record { slot = refl; span = refl; base = refl }); root = root_itself d p x.slot }
restored_leaves d p x y name (Err e) is failed = subst (LeavesPlace d d p p x) (sym failed) (leaves_itself d p x)
