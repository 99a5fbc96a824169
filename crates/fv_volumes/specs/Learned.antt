-- What loading gives volumes that stand on others, once all volumes were read.
use Rattle.std.specs.Prelude.{◌≡◌, ◌<◌, ◌≤◌, ℕ, length, Option, Some, None}
use Rattle.fv_image.specs.Volumes.{snap_at}
use Rattle.fv_volume.specs.declared.state.Base.{Base}
use Rattle.fv_volume.specs.declared.state.Snap.{Snap}
use Rattle.fv_volume.specs.declared.state.VolumeState.{VolumeState}
use Rattle.fv_volume.specs.KnownBase.{KeepsRest, KnowsIn, KnowsSnap}
use Rattle.fv_volume.specs.States.{States, head_in, snap_in, state_at}

-- The volume of a slot, if there is one, learned that of these, and kept the rest.
abbrev pub LearnsIn : States → ℕ → Option VolumeState → Option VolumeState → Type 0
LearnsIn states s None now = now ≡ None
LearnsIn states s (Some x) now = (y : VolumeState) × ((now ≡ Some y) × (KeepsRest x y × KnowsIn states s y))

-- the volumes of the first slots learned it, and the others are as they were
pub record HaveLearned (count : ℕ) (old new : States) : Type 0 where
  pub long : length new ≡ length old
  pub done : (s : ℕ) → s < count → LearnsIn old s (state_at old s) (state_at new s)
  pub others : (s : ℕ) → count ≤ s → state_at new s ≡ state_at old s

-- The parent of a volume is there, and so is the parent's snapshot; the volume knows both.
pub record IsStoodOn (states : States) (x : VolumeState) (b : Base) : Type 0 where
  pub parent : VolumeState
  pub there : state_at states b.parent ≡ Some parent
  pub snap : Snap
  pub found : snap_at (head_in parent) b.slot ≡ Some (snap_in snap)
  pub knows : KnowsSnap parent snap x b
