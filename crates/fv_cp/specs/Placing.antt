-- What the placing of files leaves of a session: of one volume, and of all.
use Rattle.std.specs.Prelude.{◌≡◌, ◌<◌, ◌≤◌, ◌+◌, ◌⊎◌, ℕ, false, Option, Some, None, IfSome}
use Rattle.std.specs.List.{sum_by}
use Rattle.std.specs.Option.{option_map}
use Rattle.fv_disk.specs.Shown.{Shown}
use Rattle.fv_disk.specs.DiskCalls.{OnlyReads}
use Rattle.fv_bits.specs.Members.{is_member}
use Rattle.fv_model.specs.Machines.{Machine}
use Rattle.fv_image.specs.Reclaimed.{IsAllocatable}
use Rattle.fv_container.specs.declared.entry.Entry.{Entry}
use Rattle.fv_container.specs.Chains.{Slots, container_at, own_entry}
use Rattle.fv_pool.specs.declared.fault.VolumeFault.{VolumeFault}
use Rattle.fv_pool.specs.declared.pool.Pool.{Pool}
use Rattle.fv_volume.specs.declared.state.VolumeState.{VolumeState}
use Rattle.fv_aggmap.specs.Space.{Space, blocks_of, free_blocks}
use Rattle.fv_volmap.specs.Slots.{empty_volume}
pub use Rattle.fv_volume.specs.Held.{core_of, pending_by, HasNoFiles, HasNumbers, HasPlaceCause, HasSpent, HasWholeMap, IsPlaceFault, IsPlacedAs, IsReadyIn, MayFail}
use Rattle.fv_pool.specs.BlocksOver.{HasShapeOf, LoadsPool}
use Rattle.fv_pool.specs.Placing.{KeepsUnused}
use Rattle.fv_volume.specs.SnapRecords.{hole}
use Rattle.fv_volume.specs.States.{States, state_at, with_state}
use Rattle.fv_cp.specs.Held.{machine_held, IsHeld}
use Rattle.fv_cp.specs.Lent.{asked_all, blocks_asked, maps_waiting, FitTogether}

-- ---- one volume

-- the volume of a slot was placed, and is the slot's
pub record IsSlotPlaced (disk : Shown) (pool : Pool) (states : States) (s : ℕ) (x : VolumeState) (after : Shown) (left : Pool) (stay : States) : Type 0 where
  pub now : VolumeState
  pub row : stay ≡ with_state states s (Some now)
  pub placed : IsPlacedAs disk pool x after left now

-- nothing is said of a slot without a volume
abbrev pub PlacesSlot : Shown → Pool → States → ℕ → Option VolumeState → Shown → Pool → States → Type 0
PlacesSlot disk pool states s None after left stay = Unit {0}
PlacesSlot disk pool states s (Some x) after left stay = IsSlotPlaced disk pool states s x after left stay

-- ---- all volumes

-- how many blocks a flush of all volumes places at most
abbrev pub pending_files : States → ℕ
pending_files states = sum_by pending_by states

-- Each volume with files in memory has more free numbers than blocks are pending, and more blocks are free than are pending.
pub record HaveRoom (pool : Pool) (states : States) : Type 0 where
  pub numbers : (s : ℕ) → HasNumbers (state_at states s)
  pub blocks : pending_files states < free_blocks pool.map

-- Then it is so after the placing, which took no more blocks than there are fewer pending.
pub record HaveSpent (pool : Pool) (states : States) (left : Pool) (stay : States) : Type 0 where
  pub fewer : pending_files stay ≤ pending_files states
  pub numbers : (s : ℕ) → HasNumbers (state_at stay s)
  pub blocks : free_blocks pool.map + pending_files stay ≤ free_blocks left.map + pending_files states

-- calls can be made on each volume
abbrev pub AreReady : Shown → Pool → States → Type 0
AreReady disk pool states = (s : ℕ) → IfSome (state_at states s) (IsReadyIn disk pool s)

-- no volume has files in memory
abbrev pub HaveNoFiles : States → Type 0
HaveNoFiles states = (s : ℕ) → HasNoFiles (state_at states s)

-- so much stays of each
abbrev pub KeepCores : States → States → Type 0
KeepCores states stay = (s : ℕ) → option_map core_of (state_at stay s) ≡ option_map core_of (state_at states s)

-- An entry leads to a block where a volume's can lie, and which the root on the disk doesn't hold: it was placed since the last point.
pub record IsSpareEntry (space : Space) (now : Option Entry) : Type 0 where
  pub entry : Entry
  pub stands : now ≡ Some entry
  pub lies : IsAllocatable (blocks_of space) entry.pvbn
  pub spare : is_member space.committed entry.pvbn ≡ false

-- each entry is as it was, or leads to such a block
abbrev pub PlacesEntries : Space → Slots → Slots → Type 0
PlacesEntries space old new = (s v : ℕ) → (own_entry (container_at new s) v ≡ own_entry (container_at old s) v) ⊎ IsSpareEntry space (own_entry (container_at new s) v)

-- each container has as many entries as before, and its tree the same places on the disk
abbrev pub KeepShapes : Slots → Slots → Type 0
KeepShapes old new = (s : ℕ) → HasShapeOf (container_at old s) (container_at new s)

-- a volume without what the placing of its files changes: its active root, the numbers in use and the trees in memory
abbrev pub but_placed : VolumeState → VolumeState
but_placed x = record x { active = record { levels = 0; root = hole }; map = empty_volume 0; files = None }

-- without a file in memory nothing changed, and no call was made of the disk
abbrev pub IsIdle : {D : Type 0} → D → Pool → States → D → Pool → States → Type 0
IsIdle disk pool states after left stay = HaveNoFiles states → (left ≡ pool) × ((stay ≡ states) × (after ≡ disk))

-- the volumes are as they were but for that
abbrev pub AreButPlaced : States → States → Type 0
AreButPlaced states stay = (s : ℕ) → option_map but_placed (state_at stay s) ≡ option_map but_placed (state_at states s)

-- of a volume without files in memory nothing is placed: it stays, and so does its container
abbrev pub RestsPlaced : Pool → States → Pool → States → Type 0
RestsPlaced pool states left stay = (s : ℕ) → HasNoFiles (state_at states s) → (state_at stay s ≡ state_at states s) × (container_at left.containers s ≡ container_at pool.containers s)

-- Under each number that the active map of a volume doesn't have once files are placed, its entry stays.
abbrev pub LeavesUnused : Pool → Pool → States → Type 0
LeavesUnused pool left stay = (s : ℕ) → IfSome (state_at stay s) (λ y. KeepsUnused pool.containers left.containers s y.map)

-- What changed of the files of volumes was placed, or a part of it. The volumes are what they were between points, and stand for the
-- machine that they stood for. The disk was only read.
pub record ArePlaced (disk : Shown) (pool : Pool) (states : States) (after : Shown) (left : Pool) (stay : States) : Type 0 where
  pub held : (before : Machine) → IsHeld disk pool states before → IsHeld after left stay before
  pub machine : (before : Machine) → IsHeld disk pool states before → machine_held after left stay ≡ machine_held disk pool states
  pub fit : FitTogether left stay
  pub found : left.found ≡ pool.found
  pub version : left.version ≡ pool.version
  -- the map of the root that counts stays; the next root's may differ
  pub committed : left.map.committed ≡ pool.map.committed
  pub cores : KeepCores states stay
  -- what a point asks for stays, and so do the maps that wait
  pub asked : blocks_asked stay ≡ blocks_asked states
  pub all : asked_all stay ≡ asked_all states
  pub waiting : maps_waiting stay ≡ maps_waiting states
  pub spent : (before : Machine) → IsHeld disk pool states before → HaveRoom pool states → HaveSpent pool states left stay
  pub others : AreButPlaced states stay
  pub entries : PlacesEntries pool.map pool.containers left.containers
  -- no tree of a container moves on the disk, and no slot has another parent
  pub shapes : KeepShapes pool.containers left.containers
  pub parents : left.containers.parents ≡ pool.containers.parents
  pub unused : (before : Machine) → IsHeld disk pool states before → LeavesUnused pool left stay
  -- a volume without files in memory stays, and so does its container
  pub rest : RestsPlaced pool states left stay
  pub only_reads : OnlyReads disk after
  -- without a file in memory only leaves came into memory
  pub idle : HaveNoFiles states → LoadsPool disk pool left × (stay ≡ states)

-- ---- why it isn't done

-- no slot before one has files in memory
abbrev pub HaveNoneBefore : States → ℕ → Type 0
HaveNoneBefore states slot = (s : ℕ) → s < slot → HasNoFiles (state_at states s)

-- The files of the volume of a slot weren't placed, once those of the slots before it were: `mid` is the pool then, and `between` are the
-- volumes. No slot before it has files in memory then. The volume, each one behind it and their containers are as they were, and where
-- none of those slots has files in memory all is. `after` is the disk behind the failure.
pub record FailsToPlace (disk : Shown) (pool : Pool) (states : States) (after : Shown) (e : VolumeFault) : Type 0 where
  pub mid : Pool
  pub between : States
  pub placed : ArePlaced disk pool states after mid between
  pub slot : ℕ
  pub entries : container_at mid.containers slot ≡ container_at pool.containers slot
  pub state : VolumeState
  pub there : state_at between slot ≡ Some state
  pub own : state_at states slot ≡ Some state
  pub done : HaveNoneBefore between slot
  pub ahead : (s : ℕ) → slot ≤ s → (state_at between s ≡ state_at states s) × (container_at mid.containers s ≡ container_at pool.containers s)
  pub first : HaveNoneBefore states slot → (mid ≡ pool) × (between ≡ states)
  pub fails : MayFail after mid (Some state) e
