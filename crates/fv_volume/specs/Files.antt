-- When volumes are volumes of the machine that they stand for.
use Rattle.std.specs.Prelude.{◌≡◌, ◌≢◌, ◌≤◌, ◌==◌, ℕ, true, false, None, IfSome, get_or, is_some}
use Rattle.std.specs.List.{list_any}
use Rattle.fv_disk.specs.Shown.{Image}
use Rattle.fv_codec.specs.Blocks.{IsLabel, last_place}
use Rattle.fv_model.specs.Numbers.{greatest_span}
use Rattle.fv_model.specs.Spelling.{is_name}
use Rattle.fv_model.specs.Machines.{Machine}
use Rattle.fv_laws.specs.WellFormed.{IsWellTable}
use Rattle.fv_laws.specs.Positions.{HasNoReserve}
use Rattle.fv_image.specs.Views.{Head, View}
use Rattle.fv_image.specs.Volumes.{snap_at}
use Rattle.fv_image.specs.Mapped.{AreInSlots}
use Rattle.fv_image.specs.WholeMachine.{has_form}
use Rattle.fv_charge.specs.Ledgers.{IsLedgerOf}
use Rattle.fv_volmap.specs.Slots.{Volume as Maps, slot_at, slot_of_base}
use Rattle.fv_volume.specs.declared.state.VolumeState.{VolumeState}
use Rattle.fv_pool.specs.declared.pool.Pool.{Pool}
use Rattle.fv_volume.specs.Labels.{label_said}
use Rattle.fv_volume.specs.SnapRecords.{AreSayable}
use Rattle.fv_volume.specs.States.{States, state_at, head_in, view_over}
use Rattle.fv_volume.specs.Trees.{Trees, active_in, volume_now, machine_in}

-- Of the slots of a volume's maps those of its snapshots are used beside the active one, and that of its base, if it has one.
pub record HasSlotsOf (h : Head) (maps : Maps) : Type 0 where
  pub each : (k : ℕ) → k ≢ 0 → k ≢ slot_of_base → is_some (slot_at maps k) ≡ is_some (snap_at h k)
  pub base : is_some (slot_at maps slot_of_base) ≡ is_some h.base

-- The active one alone is used.
abbrev pub IsOneMap : Maps → Type 0
IsOneMap maps = (k : ℕ) → k ≢ 0 → slot_at maps k ≡ None

-- A volume's snapshots stand in their slots, and each has its map.
abbrev pub HasOwnSlots : VolumeState → Type 0
HasOwnSlots x = HasSlotsOf (head_in x) x.map × AreInSlots (head_in x)

-- What a volume's label and its commit rest on, whatever its tables hold: its numbers, its name, its snapshots, that each has its map, and that no
-- map waits but a snapshot's. It looks at no image.
pub record IsLabelled (slot : ℕ) (x : VolumeState) : Type 0 where
  pub slot_is : x.slot ≡ slot
  pub form : has_form (head_in x) ≡ true
  pub span : x.span ≤ greatest_span
  pub map : x.map.span ≡ x.span
  pub snapshots : AreSayable (head_in x)
  pub slots : HasSlotsOf (head_in x) x.map
  pub waits : (k : ℕ) → get_or x.fresh k false ≡ true → list_any (λ p. p.slot == k) (head_in x).snapshots ≡ true
  pub counts : x.ledger.span ≡ x.span
  pub levels : x.active.levels ≤ 2
  pub named : is_name x.name ≡ true
  pub label : (container height : ℕ) → container ≤ last_place → 1 ≤ height → height ≤ 2 → IsLabel (label_said x container height)

-- A volume in its slot: its label can be written, its active table is well-formed after the changes that it counts, and its ledger is that
-- of the volume which the view tells with the trees in memory.
pub record IsState (w : View) (trees : Trees) (slot : ℕ) (x : VolumeState) : Type 0 where
  pub labelled : IsLabelled slot x
  pub table : IsWellTable x.now (active_in w trees slot)
  pub reserves : HasNoReserve (active_in w trees slot)
  pub ledger : IsLedgerOf (volume_now w trees slot (head_in x)) x.ledger

-- no two slots have one name
abbrev pub AreNamed : States → Type 0
AreNamed states = (s k : ℕ) → IfSome (state_at states s) (λ x. IfSome (state_at states k) (λ y. x.name ≡ y.name → s ≡ k))

-- The volumes by slot. A slot without a volume has no trees.
pub record AreStates (w : View) (trees : Trees) (states : States) : Type 0 where
  pub each : (s : ℕ) → IfSome (state_at states s) (IsState w trees s)
  pub names : AreNamed states
  pub empty : (s : ℕ) → state_at states s ≡ None → trees s ≡ None

-- A clause on the machine that a session stands for, over each image of which its volumes are volumes.
abbrev pub Over : Pool → States → Trees → (Machine → Type 0) → Type 0
Over pool states trees says = (i : Image) → AreStates (view_over pool states i) trees states → says (machine_in pool states trees i)
