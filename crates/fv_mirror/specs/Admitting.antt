-- When a mirror is admitted, and why it is refused, by the volumes that are kept in memory.
use Rattle.std.specs.Prelude.{◌≡◌, ◌≤◌, ◌+◌, ◌⊎◌, ℕ, true, false, List, None}
use Rattle.fv_charge.specs.Ledgers.{committed}
use Rattle.fv_model.specs.declared.answers.Refusal.{Refusal}
use Rattle.fv_model.specs.declared.answers.Refusal.TheVariants.{NoVolume, VolumeExists, VolumeFull, NoSnapshot, AggregateFull, Range, TooMany}
use Rattle.fv_model.specs.declared.commands.Kind.{Kind}
use Rattle.fv_model.specs.Machines.{capacity}
use Rattle.fv_model.specs.Numbers.{greatest_span, is_size}
use Rattle.fv_model.specs.Space.{span_of}
use Rattle.fv_volmap.specs.Slots.{IsVolume}
use Rattle.fv_volume.specs.declared.state.VolumeState.{VolumeState}
use Rattle.fv_volume.specs.Asking.{snap_named}
use Rattle.fv_volume.specs.Cloning.{base_on, count_in}
use Rattle.fv_volume.specs.Mirroring.{ledger_of_mirror}
use Rattle.fv_volume.specs.Slots.{HasName, IsFirstFree, NoneHasName, sum_of}
use Rattle.fv_volume.specs.States.{States}
use Rattle.fv_volumes.specs.declared.admit.Wanted.{Wanted}
use Rattle.fv_volumes.specs.Creating.{RefusesWanted}
use Rattle.fv_clone.specs.Admitting.{HasParent, HasSource, IsAsked}
use Rattle.fv_mirror.specs.declared.admitting.Admitted.{Admitted}

-- What is asked is as of a clone: a size that a volume can have, a snapshot that is there, and a name that no volume has (`IsAsked`).

-- what is wanted of a mirror of the snapshot of a map slot: it is charged for the snapshot's numbers, and its span is no less than the volume's
abbrev pub wanted_of : VolumeState → ℕ → ℕ → Kind → Wanted
wanted_of y slot size kind = record { size = size; kind = kind; ids = 0; at_least = y.span; charge = count_in y slot; need = 0 }

-- A mirror that is asked finds no place. The maps of its source are whole, so the count is that of the snapshot's ids.
pub record FindsNoPlace (states : States) (blocks : ℕ) (source snapshot name : List ℕ) (size : ℕ) (kind : Kind) (r : Refusal) : Type 0 where
  pub asked : IsAsked states source snapshot name size
  pub maps : IsVolume asked.source.home.volume.map
  pub lacks : RefusesWanted states blocks (wanted_of asked.source.home.volume asked.source.snap.slot size kind) r

-- what each refusal of a mirror comes from
abbrev pub Refuses : States → ℕ → List ℕ → List ℕ → List ℕ → ℕ → Kind → Refusal → Type 0
Refuses states blocks source snapshot name size kind NoVolume = (is_size size ≡ true) × NoneHasName states source
Refuses states blocks source snapshot name size kind NoSnapshot = (is_size size ≡ true) × ((home : HasParent states source) × (snap_named home.volume.snapshots snapshot ≡ None))
Refuses states blocks source snapshot name size kind VolumeExists = (is_size size ≡ true) × (HasSource states source snapshot × ((slot : ℕ) × HasName states slot name))
Refuses states blocks source snapshot name size kind Range = (is_size size ≡ false) ⊎ FindsNoPlace states blocks source snapshot name size kind Range
Refuses states blocks source snapshot name size kind TooMany = FindsNoPlace states blocks source snapshot name size kind TooMany
Refuses states blocks source snapshot name size kind VolumeFull = FindsNoPlace states blocks source snapshot name size kind VolumeFull
Refuses states blocks source snapshot name size kind AggregateFull = FindsNoPlace states blocks source snapshot name size kind AggregateFull
Refuses states blocks source snapshot name size kind other = ⊥

-- A mirror is admitted: it has this slot and this span, is of this snapshot, and copies so many blocks.
pub record Admits (states : States) (blocks : ℕ) (name : List ℕ) (size : ℕ) (kind : Kind) (a : Admitted) : Type 0 where
  pub asked : IsAsked states a.source.name a.source.snapshot name size
  pub source_is : a.source ≡ base_on asked.source.home.volume asked.source.snap
  pub maps : IsVolume asked.source.home.volume.map
  pub count_is : a.count ≡ count_in asked.source.home.volume asked.source.snap.slot
  pub span_is : a.span ≡ span_of size 0 asked.source.home.volume.span
  pub most : a.span ≤ greatest_span
  pub free : IsFirstFree states a.slot
  pub fits : a.count ≤ size
  pub room : sum_of states + committed (ledger_of_mirror a.count size kind a.span) ≤ capacity blocks

-- A mirror that was admitted can be made still: what of this a consistency point leaves, whatever the disk tells. It doesn't say that the count is
-- the map slot's still. No call needs it: what is copied goes by the map. Where the disk tells, it is so, since the snapshot's table stays, and a
-- slot has as many numbers as its table has ids.
pub record CanMake (states : States) (blocks : ℕ) (name : List ℕ) (size : ℕ) (kind : Kind) (a : Admitted) : Type 0 where
  pub asked : IsAsked states a.source.name a.source.snapshot name size
  pub source_is : a.source ≡ base_on asked.source.home.volume asked.source.snap
  pub span_is : a.span ≡ span_of size 0 asked.source.home.volume.span
  pub most : a.span ≤ greatest_span
  pub free : IsFirstFree states a.slot
  pub fits : a.count ≤ size
  pub room : sum_of states + committed (ledger_of_mirror a.count size kind a.span) ≤ capacity blocks
