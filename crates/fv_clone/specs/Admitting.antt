-- When a clone is admitted, and why it is refused, by the volumes that are kept in memory.
use Rattle.std.specs.Prelude.{◌≡◌, ◌<◌, ◌≤◌, ◌+◌, ◌⊎◌, ℕ, Bool, true, false, List, Option, Some, None}
use Rattle.std.specs.Option.{option_map_or}
use Rattle.fv_charge.specs.Ledgers.{committed}
use Rattle.fv_container.specs.Chains.{slot_count}
use Rattle.fv_model.specs.declared.answers.Refusal.{Refusal}
use Rattle.fv_model.specs.declared.answers.Refusal.TheVariants.{NoVolume, VolumeExists, NoSnapshot, AggregateFull, Range, TooMany, VolumeInUse, ParentNotClean}
use Rattle.fv_model.specs.declared.commands.Kind.{Kind}
use Rattle.fv_model.specs.Machines.{capacity}
use Rattle.fv_model.specs.Numbers.{greatest_span, is_size}
use Rattle.fv_model.specs.Space.{span_of}
use Rattle.fv_volmap.specs.Slots.{IsVolume}
use Rattle.fv_volume.specs.declared.state.Base.{Base}
use Rattle.fv_volume.specs.declared.state.Snap.{Snap}
use Rattle.fv_volume.specs.declared.state.VolumeState.{VolumeState}
use Rattle.fv_volume.specs.Asking.{snap_named}
use Rattle.fv_volume.specs.Cloning.{base_on, count_in}
use Rattle.fv_volume.specs.Slots.{HasName, IsFirstFree, NoneHasName, sum_of}
use Rattle.fv_volume.specs.States.{States, ledger_of_empty, state_at}
use Rattle.fv_volumes.specs.declared.admit.Wanted.{Wanted}
use Rattle.fv_volumes.specs.Creating.{LacksPlace}
use Rattle.fv_clone.specs.declared.admitting.Admitted.{Admitted}

-- ---- what is asked

-- a volume has this name, and none of a lesser slot has it
pub record HasParent (states : States) (parent : List ℕ) : Type 0 where
  pub slot : ℕ
  pub within : slot < slot_count
  pub has : HasName states slot parent
  pub volume : VolumeState
  pub there : state_at states slot ≡ Some volume

-- and it has a snapshot of this name
pub record HasSource (states : States) (parent snapshot : List ℕ) : Type 0 where
  pub home : HasParent states parent
  pub snap : Snap
  pub found : snap_named home.volume.snapshots snapshot ≡ Some snap

-- The size is one that a volume can have, the snapshot that a clone is asked of is there, and no volume has the clone's name.
pub record IsAsked (states : States) (parent snapshot name : List ℕ) (size : ℕ) : Type 0 where
  pub size_is : is_size size ≡ true
  pub source : HasSource states parent snapshot
  pub name_is : NoneHasName states name

-- ---- the parent

-- whether a volume with this base is being split from it
abbrev pub is_split : Option Base → Bool
is_split base = option_map_or (λ (b : Base). b.splitting) base false

-- the span of a clone that stands on the snapshot of a map slot
abbrev pub span_for : VolumeState → ℕ → ℕ → ℕ
span_for y slot size = span_of size (count_in y slot) y.span

-- A clone of this span can stand on the snapshot of a map slot of a volume.
pub record CanStand (y : VolumeState) (slot size span : ℕ) : Type 0 where
  pub whole : is_split y.base ≡ false
  pub known : y.known ≡ true
  pub maps : IsVolume y.map
  pub span_is : span ≡ span_for y slot size
  pub most : span ≤ greatest_span

-- What is wanted of a clone of this size and kind that can stand on it: the snapshot's ids are counted, and the span is no less than the volume's. It
-- is charged for nothing.
pub record IsWantedOn (y : VolumeState) (slot size : ℕ) (kind : Kind) (wanted : Wanted) : Type 0 where
  pub whole : is_split y.base ≡ false
  pub known : y.known ≡ true
  pub maps : IsVolume y.map
  pub wanted_is : wanted ≡ record { size = size; kind = kind; ids = count_in y slot; at_least = y.span; charge = 0; need = 0 }

-- It would be too wide.
pub record IsTooWide (y : VolumeState) (slot size : ℕ) : Type 0 where
  pub whole : is_split y.base ≡ false
  pub known : y.known ≡ true
  pub maps : IsVolume y.map
  pub wide : greatest_span < span_for y slot size

-- Why none can: the volume is being split from its base, a place of it isn't known, or the clone would be too wide.
abbrev pub RefusesParent : VolumeState → ℕ → ℕ → Refusal → Type 0
RefusesParent y slot size VolumeInUse = is_split y.base ≡ true
RefusesParent y slot size ParentNotClean = (is_split y.base ≡ false) × (y.known ≡ false)
RefusesParent y slot size Range = IsTooWide y slot size
RefusesParent y slot size other = ⊥

-- ---- the answer

-- The parent refuses a clone that is asked.
pub record ParentRefuses (states : States) (parent snapshot name : List ℕ) (size : ℕ) (r : Refusal) : Type 0 where
  pub asked : IsAsked states parent snapshot name size
  pub refuses : RefusesParent asked.source.home.volume asked.source.snap.slot size r

-- A clone that is asked and that its parent doesn't refuse has no place.
pub record FindsNoPlace (states : States) (blocks : ℕ) (parent snapshot name : List ℕ) (size : ℕ) (kind : Kind) (r : Refusal) : Type 0 where
  pub asked : IsAsked states parent snapshot name size
  pub span : ℕ
  pub can : CanStand asked.source.home.volume asked.source.snap.slot size span
  pub lacks : LacksPlace states blocks (committed (ledger_of_empty size kind span)) r

-- what each refusal of a clone comes from
abbrev pub Refuses : States → ℕ → List ℕ → List ℕ → List ℕ → ℕ → Kind → Refusal → Type 0
Refuses states blocks parent snapshot name size kind Range = (is_size size ≡ false) ⊎ ParentRefuses states parent snapshot name size Range
Refuses states blocks parent snapshot name size kind NoVolume = (is_size size ≡ true) × NoneHasName states parent
Refuses states blocks parent snapshot name size kind NoSnapshot = (is_size size ≡ true) × ((home : HasParent states parent) × (snap_named home.volume.snapshots snapshot ≡ None))
Refuses states blocks parent snapshot name size kind VolumeExists = (is_size size ≡ true) × (HasSource states parent snapshot × ((slot : ℕ) × HasName states slot name))
Refuses states blocks parent snapshot name size kind VolumeInUse = ParentRefuses states parent snapshot name size VolumeInUse
Refuses states blocks parent snapshot name size kind ParentNotClean = ParentRefuses states parent snapshot name size ParentNotClean
Refuses states blocks parent snapshot name size kind TooMany = FindsNoPlace states blocks parent snapshot name size kind TooMany
Refuses states blocks parent snapshot name size kind AggregateFull = FindsNoPlace states blocks parent snapshot name size kind AggregateFull
Refuses states blocks parent snapshot name size kind other = ⊥

-- A clone is admitted: it has this slot, this span, and this to stand on. It speaks of names, of the slots in use, of what the ledgers commit, and of
-- the parent's snapshot with the numbers in its map slot.
pub record Admits (states : States) (blocks : ℕ) (name : List ℕ) (size : ℕ) (kind : Kind) (a : Admitted) : Type 0 where
  pub asked : IsAsked states a.base.name a.base.snapshot name size
  pub base_is : a.base ≡ base_on asked.source.home.volume asked.source.snap
  pub can : CanStand asked.source.home.volume asked.source.snap.slot size a.span
  pub free : IsFirstFree states a.slot
  pub room : sum_of states + committed (ledger_of_empty size kind a.span) ≤ capacity blocks

-- ---- what is left of it behind a point

-- What of `CanStand` a consistency point leaves, whatever the disk tells: the span is one for some number of ids.
pub record CanCarry (y : VolumeState) (size span : ℕ) : Type 0 where
  pub whole : is_split y.base ≡ false
  pub known : y.known ≡ true
  pub ids : ℕ
  pub span_is : span ≡ span_of size ids y.span
  pub most : span ≤ greatest_span

-- A clone that was admitted can be made still.
pub record CanMake (states : States) (blocks : ℕ) (name : List ℕ) (size : ℕ) (kind : Kind) (a : Admitted) : Type 0 where
  pub asked : IsAsked states a.base.name a.base.snapshot name size
  pub base_is : a.base ≡ base_on asked.source.home.volume asked.source.snap
  pub can : CanCarry asked.source.home.volume size a.span
  pub free : IsFirstFree states a.slot
  pub room : sum_of states + committed (ledger_of_empty size kind a.span) ≤ capacity blocks

-- it stands on the snapshot that is asked
pub record IsBaseNamed (parent snapshot : List ℕ) (b : Base) : Type 0 where
  pub parent_is : b.name ≡ parent
  pub snapshot_is : b.snapshot ≡ snapshot
