-- Which regions a consistency point reclaims: those that are chosen for what the space rule lacks.
use Rattle.std.specs.Prelude.{◌≡◌, ◌<◌, ◌≤◌, ℕ, ◌+◌, ◌-◌, ◌*◌, ◌^◌, ◌==◌, max, min, ◌||◌, Bool, true, false, List, [], Option, Some, None, IfSome, length, map, sum_by}
use Rattle.std.specs.List.{list_any, range_with_len}
use Rattle.std.specs.Option.{option_map, option_map_or}
use Rattle.fv_disk.specs.Shown.{Shown}
use Rattle.fv_aggmap.specs.Space.{free_blocks}
use Rattle.fv_model.specs.Machines.{capacity, first_block}
use Rattle.fv_model.specs.Space.{overhead}
use Rattle.fv_image.specs.Seen.{seen}
use Rattle.fv_image.specs.Views.{View, own, leaves_room, overheads}
use Rattle.fv_image.specs.VolumeRules.{commits_seen}
use Rattle.fv_container.specs.Chains.{Slots, container_at, slot_count}
use Rattle.fv_container.specs.Mapped.{Mapped}
use Rattle.fv_delay.specs.declared.counts.Count.{Count}
use Rattle.fv_delay.specs.declared.regions.Region.{Region}
use Rattle.fv_delay.specs.Choice.{chosen, regions_counted, total}
use Rattle.fv_delay.specs.Holding.{Holding, all_delayed, counts_in, counts_of, held_by}
use Rattle.fv_pool.specs.declared.pool.Pool.{Pool}
use Rattle.fv_volume.specs.declared.state.VolumeState.{VolumeState}
use Rattle.fv_volume.specs.States.{States, state_at}
use Rattle.fv_cp.specs.Known.{AreKnown}
use Rattle.fv_cp.specs.Lent.{blocks_asked}

-- ---- the volumes

abbrev pub holding_with : Option VolumeState → Option Mapped → Option Holding
holding_with None container = None
holding_with (Some x) None = None
holding_with (Some x) (Some container) = Some (held_by x.map container)

-- the volume of each slot with its container
abbrev pub holdings : Slots → States → ℕ → Option Holding
holdings containers states s = holding_with (state_at states s) (container_at containers s)

-- the regions of a slot that have delayed entries
abbrev pub counts_at : ℕ → Option Holding → List Count
counts_at s volume = option_map_or (counts_in s) volume []

-- ---- what is missing

-- the greatest number of 64 bits
abbrev pub greatest_number : ℕ
greatest_number = 2 ^ 64 - 1

-- The blocks that a volume claims by the space rule: twice its overhead, and the entries that it owns, which its ledger charges. What its
-- reserves need isn't claimed. The charge is just the entries of its own for each volume that isn't being split from its base. One that is
-- being split is charged for numbers of data that have no entry of their own yet, and those would have to be taken off; no volume of a
-- session is being split (`IsLabelled.form`).
abbrev pub claimed_by : Option VolumeState → ℕ
claimed_by None = 0
claimed_by (Some x) = 2 * overhead x.span + x.ledger.charge

-- those that all volumes claim
abbrev pub claimed : States → ℕ
claimed states = sum_by claimed_by states

-- The blocks that the space rule lacks before any reclaim, where so many are wanted: what the volumes claim, what they have delayed and
-- what is wanted, less the blocks behind the fixed ones. A sum past 64 bits is taken for the greatest number of them.
unfoldable pub missing_for : Pool → States → ℕ → ℕ
missing_for pool states want = min ((max 256 want + claimed states) + total (counts_of (holdings pool.containers states))) greatest_number - (pool.found.blocks - first_block pool.found.blocks)

-- What the space rule lacks for a view where so many blocks are wanted and so many entries are delayed: all overheads twice, the entries
-- that are the volumes' own, what is delayed and what is wanted, less the blocks behind the fixed ones.
unfoldable pub lacking : View → ℕ → ℕ → ℕ
lacking w delayed want = (2 * overheads w + own w + delayed + max 256 want) - (w.blocks - first_block w.blocks)

-- What is counted as missing by the ledgers of volumes is just what the space rule lacks by the entries of a view, with what the volumes
-- have delayed. Where less than 2^63 is wanted no sum passes 64 bits.
abbrev pub CountsMissing : Pool → States → View → ℕ → Type 0
CountsMissing pool states w want = want < 2 ^ 63 → missing_for pool states want ≡ lacking w (all_delayed (holdings pool.containers states)) want

-- ---- the choice

-- the regions that a point reclaims: exactly those that are chosen for what is missing
abbrev pub regions_chosen : Pool → States → ℕ → List Region
regions_chosen pool states want = regions_counted (chosen (counts_of (holdings pool.containers states)) (missing_for pool states want))

-- whether a list has a region of a slot
abbrev pub has_slot : List Region → ℕ → Bool
has_slot regions slot = list_any (λ r. r.slot == slot) regions

-- ---- what is left

-- The space rule holds, and with the room that was wanted where the commits leave that in the capacity.
pub record LeavesRoom (w : View) (want : ℕ) : Type 0 where
  pub rule : leaves_room w 0 ≡ true
  pub wanted : commits_seen (seen w) + want ≤ capacity w.blocks → leaves_room w want ≡ true

-- ---- the volumes that are written

-- a volume that is said to have changed where it is to be written
abbrev pub marked_as : Bool → VolumeState → VolumeState
marked_as marks x = record x { changed = marks || x.changed }

-- in a volume without a change no region is reclaimed
abbrev pub ReclaimsChanged : (ℕ → ℕ → Bool) → States → Type 0
ReclaimsChanged regions states = (s : ℕ) → IfSome (state_at states s) (λ x. x.changed ≡ false → (r : ℕ) → regions s r ≡ false)

-- the volume of a slot, said to have changed where its slot is marked
abbrev pub marked_at : (ℕ → Bool) → States → ℕ → Option VolumeState
marked_at marks states s = option_map (marked_as (marks s)) (state_at states s)

-- the volumes so
abbrev pub marked : (ℕ → Bool) → States → States
marked marks states = map (marked_at marks states) (range_with_len 0 slot_count)

-- the blocks that a point asks for that writes these volumes, too
abbrev pub asked_marked : (ℕ → Bool) → States → ℕ
asked_marked marks states = blocks_asked (marked marks states)

-- the blocks that a point asks for that reclaims some regions
abbrev pub asked_with : List Region → States → ℕ
asked_with regions states = asked_marked (has_slot regions) states

-- the volumes of the first slots are marked, and the others are as they were
pub record AreMarkedTo (marks : ℕ → Bool) (states now : States) (count : ℕ) : Type 0 where
  pub long : length now ≡ slot_count
  pub done : (s : ℕ) → s < count → state_at now s ≡ marked_at marks states s
  pub others : (s : ℕ) → count ≤ s → state_at now s ≡ state_at states s

-- ---- what a point needs

-- What a point needs so that the space rule holds behind it: it is known of which volumes that haven't changed an entry may be delayed,
-- and there is room for the volumes that changed or have a region that is chosen.
pub record CanChoose (disk : Shown) (pool : Pool) (states : States) (want : ℕ) (delays : List Bool) : Type 0 where
  pub known : AreKnown disk.reads pool.found delays
  pub room : asked_with (regions_chosen pool states want) states ≤ free_blocks pool.map
