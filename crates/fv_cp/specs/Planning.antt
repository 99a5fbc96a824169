-- What a point reclaims, by a threshold in front of each volume, and what is known of delayed entries then.
use Rattle.std.specs.Prelude.{◌≡◌, ◌≢◌, ◌≤◌, ◌<◌, ◌⊎◌, ℕ, Bool, true, false, ◌&&◌, ◌||◌, List, [], ◌++◌, Option, Some, None, IfSome, get_or, replicate}
use Rattle.fv_aggmap.specs.Space.{free_blocks}
use Rattle.fv_container.specs.Chains.{Slots, paged_at}
use Rattle.fv_container.specs.Paged.{Paged}
use Rattle.fv_delay.specs.declared.counts.Count.{Count}
use Rattle.fv_delay.specs.declared.threshold.Table.{Table}
use Rattle.fv_delay.specs.declared.threshold.Threshold.{Threshold}
use Rattle.fv_delay.specs.ByThreshold.{AreTakenHere, IsTable, TakesAll, behind, counts_before, taken_in, takes_some, threshold_for}
use Rattle.fv_delay.specs.Delay.{AreKnown, AreSure}
use Rattle.fv_delay.specs.Holding.{Holding, counts_of}
use Rattle.fv_pool.specs.declared.pool.Pool.{Pool}
use Rattle.fv_volume.specs.declared.state.VolumeState.{VolumeState}
use Rattle.fv_volume.specs.States.{States, state_at}
use Rattle.fv_volmap.specs.Slots.{Volume}
use Rattle.fv_volume.specs.Writing.{HasMapLeaves}
use Rattle.fv_cp.specs.declared.planning.Plan.{Plan}
use Rattle.fv_cp.specs.Choosing.{asked_with, counts_at, holdings, missing_for, regions_chosen}

-- whether a slot is marked in a list
abbrev pub is_set : List Bool → ℕ → Bool
is_set marks s = get_or marks s false

abbrev pub no_threshold : Threshold
no_threshold = record { count = 0; left = 0 }

-- the threshold in front of the first region of the volume of a slot
abbrev pub start_at : Plan → ℕ → Threshold
start_at plan s = get_or plan.starts s no_threshold

-- ---- what is counted

abbrev pub no_table : Table
no_table = record { all = 0; full = 0; partial = replicate 64 0 }

-- a table for each slot
abbrev pub AreTables : (ℕ → Option Holding) → List Table → Type 0
AreTables volumes tables = (s : ℕ) → s < 64 → IsTable (get_or tables s no_table) (counts_at s (volumes s))

-- no slot has a volume
abbrev pub no_holding : ℕ → Option Holding
no_holding s = None

-- whether the volume of a slot is counted: it changed, or an entry of it may be delayed
abbrev pub is_counted : Bool → Option VolumeState → Bool
is_counted may_delay None = false
is_counted may_delay (Some x) = may_delay || x.changed

-- Of a container whose volume is counted it is known which entries are holes.
abbrev pub IsSlotKnown : Slots → States → ℕ → Bool → Type 0
IsSlotKnown containers states s may_delay = is_counted may_delay (state_at states s) ≡ true → IfSome (paged_at containers s) AreKnown

abbrev pub AreSlotsKnown : Slots → States → List Bool → Type 0
AreSlotsKnown containers states delays = (s : ℕ) → s < 64 → IsSlotKnown containers states s (get_or delays s true)

-- It is known of those whose volume changed, or of the others: `is_counted false` says that a slot has a volume that changed.
abbrev pub AreKnownAmong : Bool → Slots → States → List Bool → Type 0
AreKnownAmong changed containers states delays = (s : ℕ) → s < 64 → is_counted false (state_at states s) ≡ changed → IsSlotKnown containers states s (get_or delays s true)

-- The containers of the volumes that aren't among them stay.
abbrev pub AreOthersLeft : Bool → States → Slots → Slots → Type 0
AreOthersLeft changed states old new = (s : ℕ) → is_counted false (state_at states s) ≢ changed → paged_at new s ≡ paged_at old s

-- What is known so is as the container's map says.
abbrev pub IsSlotSure : Slots → States → ℕ → Bool → Type 0
IsSlotSure containers states s may_delay = is_counted may_delay (state_at states s) ≡ true → IfSome (paged_at containers s) AreSure

abbrev pub AreSlotsSure : Slots → States → List Bool → Type 0
AreSlotsSure containers states delays = (s : ℕ) → s < 64 → IsSlotSure containers states s (get_or delays s true)

-- A volume that isn't counted, since it hasn't changed and no entry of it may be delayed, has no delayed entry.
abbrev pub IsSlotCounted : Slots → States → ℕ → Bool → Type 0
IsSlotCounted containers states s may_delay = may_delay ≡ false → IfSome (state_at states s) (λ x. x.changed ≡ false) → counts_at s (holdings containers states s) ≡ []

abbrev pub AreCounted : Slots → States → List Bool → Type 0
AreCounted containers states delays = (s : ℕ) → s < 64 → IsSlotCounted containers states s (get_or delays s true)

-- a slot that isn't marked has no volume with delayed entries
abbrev pub FlagsDelayed : Slots → States → List Bool → Type 0
FlagsDelayed containers states delays = (s : ℕ) → s < 64 → get_or delays s true ≡ false → counts_at s (holdings containers states s) ≡ []

-- Regions have a table of their own, and are added to another one.
pub record IsAdded (counts : List Count) (table old new : Table) : Type 0 where
  pub own : IsTable table counts
  pub all : (others : List Count) → IsTable old others → IsTable new (others ++ counts)

-- ---- the plan

-- A plan by a threshold for all volumes: that in front of each volume is the one behind those before it, a volume is due where one of its
-- regions is taken, and of one that isn't marked no entry is delayed.
pub record IsPlan (volumes : ℕ → Option Holding) (threshold : Threshold) (plan : Plan) : Type 0 where
  pub starts : (s : ℕ) → s < 64 → start_at plan s ≡ behind threshold (counts_before volumes s)
  pub due : (s : ℕ) → s < 64 → is_set plan.due s ≡ takes_some (behind threshold (counts_before volumes s)) (counts_at s (volumes s))
  pub delays : (s : ℕ) → s < 64 → get_or plan.delays s true ≡ false → counts_at s (volumes s) ≡ []

-- A plan for what the space rule lacks where so many blocks are wanted: by the threshold for the regions that are chosen where the volumes
-- with them ask for no more blocks than are free, and else by none. Each volume with delayed entries is marked.
pub record Plans (pool : Pool) (states : States) (want : ℕ) (delays : List Bool) (plan : Plan) : Type 0 where
  pub planned : AreCounted pool.containers states delays → asked_with (regions_chosen pool states want) states ≤ free_blocks pool.map
      → IsPlan (holdings pool.containers states) (threshold_for (counts_of (holdings pool.containers states)) (missing_for pool states want)) plan
  pub flags : AreCounted pool.containers states delays → FlagsDelayed pool.containers states plan.delays
  pub none : AreCounted pool.containers states delays → free_blocks pool.map < asked_with (regions_chosen pool states want) states
      → (s : ℕ) → s < 64 → is_set plan.due s ≡ false

-- ---- what is in memory

-- What the writing of a volume by a plan needs of its container in memory: where a region is reclaimed it is known which entries are
-- holes, and where the volume is written the leaves with the entries of its maps' blocks are there.
pub record HasLeaves (plan : Plan) (s : ℕ) (x : VolumeState) (paged : Paged) : Type 0 where
  pub known : is_set plan.due s ≡ true → AreKnown paged
  pub maps : (is_set plan.due s || x.changed) ≡ true → HasMapLeaves x paged

-- What is in memory of a container is as its map says, and the leaves of the regions that are taken are there.
pub record IsReclaimable (plan : Plan) (s : ℕ) (map : Volume) (paged : Paged) : Type 0 where
  pub sure : is_set plan.due s ≡ true → AreSure paged
  pub taken : is_set plan.due s ≡ true → AreTakenHere (start_at plan s) map paged

-- so it is of a slot that has a volume
abbrev pub HasLeavesAt : Plan → ℕ → Option VolumeState → Option Paged → Type 0
HasLeavesAt plan s state container = IfSome state (λ x. IfSome container (HasLeaves plan s x))

abbrev pub HaveLeaves : Plan → Slots → States → Type 0
HaveLeaves plan containers states = (s : ℕ) → s < 64 → HasLeavesAt plan s (state_at states s) (paged_at containers s)

-- whether a plan takes a region of the volume of a slot
abbrev pub takes_of : Plan → ℕ → Option Holding → ℕ → Bool
takes_of plan s None region = false
takes_of plan s (Some x) region = is_set plan.due s && taken_in (start_at plan s) x region

-- the regions that a plan takes of all volumes, by slot and number
abbrev pub taken : Plan → (ℕ → Option Holding) → ℕ → ℕ → Bool
taken plan volumes s = takes_of plan s (volumes s)

-- ---- what is known behind a reclaim

-- each region with delayed entries of the volume of a slot is taken
abbrev pub TakesAllOf : Plan → ℕ → Option Holding → Type 0
TakesAllOf plan s None = ⊥
TakesAllOf plan s (Some x) = (is_set plan.due s ≡ true) × TakesAll (start_at plan s) x

-- A slot isn't marked any more only where each region of its volume with delayed entries is taken. The other marks stay.
pub record LeavesDelays (plan : Plan) (s : ℕ) (volume : Option Holding) (old new : List Bool) : Type 0 where
  pub known : get_or new s true ≡ false → (get_or old s true ≡ false) ⊎ TakesAllOf plan s volume
  pub others : (k : ℕ) → k ≢ s → get_or new k true ≡ get_or old k true

-- So it is with the first slots.
pub record LeaveDelays (plan : Plan) (volumes : ℕ → Option Holding) (count : ℕ) (old new : List Bool) : Type 0 where
  pub done : (s : ℕ) → s < count → get_or new s true ≡ false → (get_or old s true ≡ false) ⊎ TakesAllOf plan s (volumes s)
  pub rest : (s : ℕ) → count ≤ s → get_or new s true ≡ get_or old s true
