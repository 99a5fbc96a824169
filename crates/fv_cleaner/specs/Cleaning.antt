-- Clean steps of the volumes of an aggregate, and the end of cleaning.
use Rattle.std.specs.Prelude.{◌≡◌, ℕ, Bool, true, false, Option, Some, None}
use Rattle.fv_disk.specs.Shown.{Shown as Disk}
use Rattle.fv_pool.specs.declared.pool.Pool.{Pool}
use Rattle.fv_volume.specs.declared.state.VolumeState.{VolumeState}
use Rattle.fv_volume.specs.States.{States, state_at, with_state}
use Rattle.fv_cleaner.specs.Stepping.{CleansVolume, MovesOutside, MovesUnled}

-- a volume was stepped on, and no other one changed
pub record Steps (disk : Disk) (pool : Pool) (old : States) (slot : ℕ) (x : VolumeState) (left : Pool) (new : States) (took : Bool) : Type 0 where
  pub volume : VolumeState
  pub cleans : CleansVolume disk pool x left volume took
  pub others : new ≡ with_state old slot (Some volume)

abbrev pub StepsIn : Disk → Pool → States → ℕ → Option VolumeState → Pool → States → Bool → Type 0
StepsIn disk pool old slot None left new took = (took ≡ false) × ((left ≡ pool) × (new ≡ old))
StepsIn disk pool old slot (Some x) left new took = Steps disk pool old slot x left new took

-- what a clean step of the volume of a slot did; a free slot has nothing to do
abbrev pub CleansAt : Disk → Pool → States → ℕ → Pool → States → Bool → Type 0
CleansAt disk pool old slot left new took = StepsIn disk pool old slot (state_at old slot) left new took

-- only blocks to which no known pointer leads got another place, and none of the table that a clone stands on
abbrev pub MovesIn : Disk → Pool → Option VolumeState → Pool → Type 0
MovesIn disk pool None left = Unit {0}
MovesIn disk pool (Some x) left = MovesUnled disk pool x left × MovesOutside disk pool x left

abbrev pub MovesAt : Disk → Pool → States → ℕ → Pool → Type 0
MovesAt disk pool old slot left = MovesIn disk pool (state_at old slot) left

-- all places of a volume are known, and its label waits to be written
abbrev pub known_now : VolumeState → VolumeState
known_now x = record x { known = true; changed = true }

abbrev pub FinishesIn : States → ℕ → Option VolumeState → States → Type 0
FinishesIn old slot None new = new ≡ old
FinishesIn old slot (Some x) new = new ≡ with_state old slot (Some (known_now x))

abbrev pub FinishesAt : States → ℕ → States → Type 0
FinishesAt old slot new = FinishesIn old slot (state_at old slot) new
