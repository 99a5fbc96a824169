-- The course of a consistency point: what waits is written, then slot by slot a volume is written where it changed, and named by the
-- labels of the new root.
use Rattle.std.specs.Prelude.{◌≡◌, ◌≢◌, ◌≤◌, ◌<◌, ℕ, true, false, Bool, List, Option, Some, None, Ok, All, IfSome, IsTrue, length, get_or, drop, cond, slice_set}
use Rattle.std.specs.List.{sum_by}
use Rattle.std.specs.FinMap as fin
use Rattle.fv_disk.specs.Shown.{Image, Shown}
use Rattle.fv_disk.specs.Sparing.{Spares}
use Rattle.fv_bits.specs.Members.{is_member}
use Rattle.fv_codec.specs.declared.root.Root.{Root}
use Rattle.fv_codec.specs.Blocks.{last_place}
use Rattle.fv_model.specs.Machines.{Machine}
use Rattle.fv_image.specs.Views.{entry_count}
use Rattle.fv_root.specs.declared.find.Found.{Found}
use Rattle.fv_root.specs.Commits.{next_found}
use Rattle.fv_store.specs.Held.{StandsOn}
use Rattle.fv_container.specs.Clean.{IsCleanOn}
use Rattle.fv_container.specs.Mapped.{IsMapped, Mapped}
use Rattle.fv_container.specs.Paged.{Paged}
use Rattle.fv_container.specs.Chains.{Slots, container_at, paged_at, slot_count, with_container}
use Rattle.fv_container.specs.Leading.{HasEmptied}
use Rattle.fv_aggmap.specs.Space.{Space, blocks_of, free_blocks}
use Rattle.fv_delay.specs.Delay.{IsHereIn}
use Rattle.fv_delay.specs.Reclaims.{HasGivenSome, HasReclaimed, HasStayed, goes_with}
use Rattle.fv_pool.specs.declared.pool.Pool.{Pool}
use Rattle.fv_volume.specs.declared.state.VolumeState.{VolumeState}
use Rattle.fv_pool.specs.Keeping.{seen}
use Rattle.fv_volume.specs.States.{States, state_at}
use Rattle.fv_volume.specs.Stored.{AreSpacedIn, IsStored, is_map_written, place_at, stays}
use Rattle.fv_volumes.specs.Housed.{AreHoused, as_written}
use Rattle.fv_cp.specs.Lent.{IsLent, asked_by}
use Rattle.fv_volume.specs.Writing.{HasOwnBlocks, IsRightMemory, IsTaken, IsWritten, on_disk}

-- ---- one slot

-- the leaves of some regions of a container are in memory
abbrev pub AreHereIn : (ℕ → Bool) → Paged → Type 0
AreHereIn regions paged = (r : ℕ) → regions r ≡ true → IsHereIn paged r

-- so it is with each container and the regions of its slot
abbrev pub HaveHere : (ℕ → ℕ → Bool) → Slots → Type 0
HaveHere regions containers = (s : ℕ) → s < 64 → IfSome (paged_at containers s) (AreHereIn (regions s))

-- some regions of the slot's volume were reclaimed, then it was written, and the labels name it
pub record IsSlotWritten (regions : ℕ → Bool) (x : VolumeState) (s : ℕ) (labels : List ℕ) (pool : Pool) (disk : Shown) (now : List ℕ) (left : Pool) (after : Shown) : Type 0 where
  pub old : Paged
  pub there : paged_at pool.containers s ≡ Some old
  pub few : length pool.containers.containers ≡ slot_count
  -- the container and the space once the regions were reclaimed
  pub mid : Paged
  pub space : Space
  pub stayed : HasStayed old mid
  pub given : HasGivenSome pool.map space
  pub reclaimed : IsTrue disk.tells → IsCleanOn disk.reads old → AreHereIn regions old → HasReclaimed x.map regions old pool.map mid space
  pub new : Paged
  pub long : length new.map.entries ≡ entry_count x.span
  pub valid : IsMapped new.map
  pub label : ℕ
  pub within : label < blocks_of pool.map
  pub named : now ≡ slice_set labels s label
  pub containers : left.containers ≡ with_container pool.containers s (Some new)
  pub written : IsTrue disk.tells → HasOwnBlocks x mid.map space → IsCleanOn disk.reads mid → IsWritten x mid.map disk.reads space label new.map after.reads left.map
  pub memory : IsTrue disk.tells → HasOwnBlocks x mid.map space → IsCleanOn disk.reads mid → IsRightMemory new

-- nothing was written
pub record IsPassed (labels : List ℕ) (pool : Pool) (disk : Shown) (now : List ℕ) (left : Pool) (after : Shown) : Type 0 where
  pub named : now ≡ labels
  pub containers : left.containers ≡ pool.containers
  pub map : left.map ≡ pool.map
  pub reads : after.reads ≡ disk.reads

abbrev pub GoesPast : (ℕ → ℕ → Bool) → Option VolumeState → ℕ → List ℕ → Pool → Shown → List ℕ → Pool → Shown → Type 0
GoesPast regions None s labels pool disk now left after = IsPassed labels pool disk now left after
GoesPast regions (Some x) s labels pool disk now left after = cond x.changed (IsSlotWritten (regions s) x s labels pool disk now left after) (IsPassed labels pool disk now left after)

-- ---- the first slots

-- the root of a point: the one that was found, with the pool's version and these labels
abbrev pub root_with : Pool → List ℕ → Root
root_with pool labels = record pool.found.root { version = pool.version; labels = labels }

-- what is found once that counts
abbrev pub found_with : Pool → List ℕ → Found
found_with pool labels = next_found pool.found (root_with pool labels)

-- the blocks of the entries that stay are in one image as in another
abbrev pub StaysFrom : VolumeState → Mapped → Image → Image → Type 0
StaysFrom x map first i = (v : ℕ) → stays x v ≡ true → place_at map v ≢ 0 → i (place_at map v) ≡ first (place_at map v)

-- Some regions of a slot's volume were reclaimed, and then it was written. It stands in an image, where the entries that stay have the
-- blocks that they had in the first.
pub record IsRenewed (regions : ℕ → Bool) (pool : Pool) (first : Image) (s : ℕ) (x : VolumeState) (label : ℕ) (container : Option Paged) (i : Image) : Type 0 where
  pub old : Paged
  pub was : paged_at pool.containers s ≡ Some old
  pub mid : Paged
  pub reclaimed : HasEmptied old (goes_with x.map old.map regions) mid
  pub new : Paged
  pub now : container ≡ Some new
  pub valid : IsMapped new.map
  pub stored : IsStored x mid.map label new.map i
  pub memory : IsRightMemory new
  pub stay : StaysFrom x old.map first i
  -- the blocks of the maps that were written have places that the root on the disk doesn't hold
  pub fresh : (v : ℕ) → is_map_written x v ≡ true → is_member pool.map.committed (place_at new.map v) ≡ false

-- the place of a label that the new root names before a point writes anything: that of the root on the disk, and none for a slot without a
-- volume
abbrev pub label_lent : Option VolumeState → ℕ → ℕ
label_lent None place = 0
label_lent (Some x) place = place

-- so it names all
pub record AreNamedFor (states : States) (before now : List ℕ) : Type 0 where
  pub long : length now ≡ 64
  pub places : All (λ place. place ≤ last_place) now
  pub each : (s : ℕ) → s < 64 → get_or now s 0 ≡ label_lent (state_at states s) (get_or before s 0)

-- so it names those of the first slots, and the others as before
pub record ClearedTo (states : States) (before now : List ℕ) (count : ℕ) : Type 0 where
  pub long : length now ≡ 64
  pub places : All (λ place. place ≤ last_place) now
  pub done : (s : ℕ) → s < count → get_or now s 0 ≡ label_lent (state_at states s) (get_or before s 0)
  pub rest : (s : ℕ) → count ≤ s → get_or now s 0 ≡ get_or before s 0

-- the slot is as it was lent, and the entries that stay have the blocks that they had in the first image
pub record IsAsLent (pool : Pool) (states : States) (first : Image) (s : ℕ) (now : Option VolumeState) (label : ℕ) (container : Option Paged) (i : Image) : Type 0 where
  pub state : now ≡ state_at states s
  pub lies : container ≡ paged_at pool.containers s
  pub named : label ≡ label_lent (state_at states s) (get_or pool.found.root.labels s 0)
  pub stay : (x : VolumeState) (map : Mapped) → state_at states s ≡ Some x → container_at pool.containers s ≡ Some map → StaysFrom x map first i

-- What a slot is in the course, by its volume, the place of its label and its container: its volume was written, if it is one of the first
-- and it changed, and else the slot is as it was lent.
pub data IsOnCourse (regions : ℕ → ℕ → Bool) (pool : Pool) (states : States) (first : Image) (count s : ℕ) (now : Option VolumeState) (label : ℕ) (container : Option Paged) (i : Image) : Type 0 where
  renewed : (x : VolumeState) → s < count → state_at states s ≡ Some x → x.changed ≡ true → now ≡ Some (as_written x label) → IsRenewed (regions s) pool first s x label container i → IsOnCourse regions pool states first count s now label container i
  as_lent : IfSome (state_at states s) (λ x. x.changed ≡ true → count ≤ s) → IsAsLent pool states first s now label container i → IsOnCourse regions pool states first count s now label container i

-- The first slots are written: the volumes are spaced, and each slot is on its course since the blocks that waited were written.
pub record IsCourse (regions : ℕ → ℕ → Bool) (pool : Pool) (states : States) (first : Image) (count : ℕ) (labels : List ℕ) (next : List Bool) (containers : Slots) (i : Image) : Type 0 where
  pub now : ℕ → Option VolumeState
  pub spaced : AreSpacedIn pool.found.blocks next now (container_at containers)
  pub each : (s : ℕ) → s < 64 → IsOnCourse regions pool states first count s (now s) (get_or labels s 0) (paged_at containers s) i

-- the blocks that the volumes of the slots from one on ask for
abbrev pub asked_from : ℕ → States → ℕ
asked_from slot states = sum_by asked_by (drop slot states)

-- The volumes of the first slots are written: what holds of any disk, and what holds of one on which they stood, where what is told of the
-- leaves in memory holds.
pub record HasCome (regions : ℕ → ℕ → Bool) (told : Type 0) (disk : Shown) (pool : Pool) (states : States) (count : ℕ) (labels : List ℕ) (left : Pool) (now : Shown) : Type 0 where
  pub long : length labels ≡ 64
  pub places : All (λ place. place ≤ last_place) labels
  pub free : (s : ℕ) → s < 64 → state_at states s ≡ None → get_or labels s 0 ≡ 0
  pub stands : StandsOn now left.store.pairs
  pub housed : AreHoused left.containers states
  -- the containers of the other slots are as they were lent
  pub rest : (s : ℕ) → count ≤ s → paged_at left.containers s ≡ paged_at pool.containers s
  pub room : asked_from count states ≤ free_blocks left.map
  pub committed : left.map.committed ≡ pool.map.committed
  pub found : left.found ≡ pool.found
  pub version : left.version ≡ pool.version
  pub kept : left.kept ≡ fin.empty
  pub spares : Spares (IsTaken (on_disk pool.map)) disk now (Ok tt)
  pub written : IsTrue disk.tells → (before : Machine) → IsLent disk pool states before → told → IsCourse regions pool states (seen pool.kept disk.reads) count labels left.map.next left.containers now.reads
