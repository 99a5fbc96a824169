-- A clean step of a volume.
use Rattle.std.specs.Prelude.{◌≡◌, ◌≢◌, ◌≤◌, ◌<◌, ◌⊎◌, ℕ, Bool, true, false, List, ◌∷◌, map, All, Option, Some, None, Ok, get_or}
use Rattle.std.specs.List.{list_any}
use Rattle.fv_disk.specs.Shown.{Shown as Disk}
use Rattle.fv_codec.specs.declared.pointer.Pointer.{Pointer}
use Rattle.fv_codec.specs.Blocks.{last_place}
use Rattle.fv_container.specs.Chains.{TellsEntries, container_at, own_entry}
use Rattle.fv_image.specs.Views.{Placed}
use Rattle.fv_image.specs.HintRules.{is_known, is_unknown}
use Rattle.fv_aggmap.specs.Space.{free_blocks}
use Rattle.fv_places.specs.ByKind.{form_of, shape_in, pointers_by}
use Rattle.fv_volmap.specs.Slots.{Volume as Maps, has, slot_at, slot_of_base, taken_in}
use Rattle.fv_pool.specs.declared.pool.Pool.{Pool}
use Rattle.fv_pool.specs.BlocksOver.{LeavesPool}
use Rattle.fv_pool.specs.Moving.{MovesBlock}
use Rattle.fv_volume.specs.declared.state.Snap.{Snap}
use Rattle.fv_volume.specs.declared.state.VolumeState.{VolumeState}
use Rattle.fv_volume.specs.Placements.{with_places}
use Rattle.fv_cleaner.specs.declared.searching.Found.{Found}
use Rattle.fv_cleaner.specs.Filling.{FillsBlock, FillsPlaces}
use Rattle.fv_cleaner.specs.Searching.{CanFollow, IsClear, IsNext, LeadBelow, Lies, Searches, holds_unknown, lies_in, pointers_of}

abbrev pub root_of_snap : Snap → Pointer
root_of_snap q = q.table.root

-- the root pointers of a volume's label, that of the active table first
abbrev pub roots_of : VolumeState → List Pointer
roots_of x = x.active.root ∷ map root_of_snap x.snapshots

-- where a root's pointer is unknown its block holds no unknown pointer
abbrev pub IsRootClear : Lies → Pointer → Type 0
IsRootClear at p = is_unknown p ≡ true → IsClear at p.vvbn

-- what the search from a root says: it's clear, or a block was found that is to be cleaned next
abbrev pub SearchesRoot : Lies → Pointer → List ℕ → Option Found → Type 0
SearchesRoot at p block None = IsRootClear at p
SearchesRoot at p block (Some f) = Searches at p.vvbn block (Some f)

-- and that from all of them
abbrev pub SearchesRoots : Lies → List Pointer → List ℕ → Option Found → Type 0
SearchesRoots at ps block None = All (IsRootClear at) ps
SearchesRoots at ps block (Some f) = Searches at 0 block (Some f)

-- ---- roots

-- an unknown pointer's place, 0 for a known one
pub record IsPlaceOf (told : Type 0) (at : Lies) (p : Pointer) (place : ℕ) : Type 0 where
  pub known : is_unknown p ≡ false → place ≡ 0
  pub some : is_unknown p ≡ true → place ≢ 0
  pub range : place ≤ last_place
  pub lies : told → is_unknown p ≡ true → (x : Placed) × ((at p.vvbn ≡ Some x) × (place ≡ x.pvbn))

-- the places of the root pointers by map slot, 0 for the active table's
pub record ArePlacesOf (told : Type 0) (at : Lies) (x : VolumeState) (places : List ℕ) : Type 0 where
  pub active : IsPlaceOf told at x.active.root (get_or places 0 0)
  pub snapshots : All (λ (q : Snap). IsPlaceOf told at q.table.root (get_or places q.slot 0)) x.snapshots

-- The root pointers got their places, where one was unknown.
pub record FillsRoots (told : Type 0) (at : Lies) (x y : VolumeState) : Type 0 where
  pub unknown : list_any is_unknown (roots_of x) ≡ true
  pub places : List ℕ
  pub are : ArePlacesOf told at x places
  pub state : y ≡ with_places x places

abbrev pub PlacesRoots : Type 0 → Lies → VolumeState → VolumeState → Bool → Type 0
PlacesRoots told at x y true = FillsRoots told at x y
PlacesRoots told at x y false = (list_any is_unknown (roots_of x) ≡ false) × (y ≡ x)

-- ---- a step

-- One block of a volume was cleaned: of the blocks that lie under its VVBNs it was to be cleaned next, it lies elsewhere under its VVBN, and each
-- pointer in it is known now. But for hints it says what it said. Whatever the disk tells, what was read held an unknown pointer.
pub record CleansBlock (disk : Disk) (pool : Pool) (x : VolumeState) (left : Pool) (y : VolumeState) : Type 0 where
  pub vvbn : ℕ
  pub low : vvbn ≤ last_place
  pub taken : taken_in x.map.slots vvbn ≡ true
  pub within : vvbn < x.map.span
  pub kind : ℕ
  pub least : 2 ≤ kind
  pub greatest : kind ≤ 7
  pub was : List ℕ
  pub shaped : shape_in (form_of kind) was ≡ Ok tt
  pub unknown : list_any is_unknown (pointers_by (form_of kind) was) ≡ true
  pub block : List ℕ
  pub next : TellsEntries disk pool.containers → (place : ℕ) × IsNext (lies_in x.map pool x.slot disk.reads) vvbn (record { pvbn = place; kind = kind; block = was })
  pub fills : FillsBlock kind was block
  pub places : TellsEntries disk pool.containers → FillsPlaces (lies_in x.map pool x.slot disk.reads) kind was block
  pub moves : MovesBlock disk pool x.slot vvbn kind block left
  pub state : y ≡ record x { changed = true }

-- Each root leads to a clear block, and the root pointers got their places, or none was unknown.
pub record CleansRoots (disk : Disk) (pool : Pool) (x : VolumeState) (left : Pool) (y : VolumeState) (some : Bool) : Type 0 where
  pub clear : TellsEntries disk pool.containers → All (IsRootClear (lies_in x.map pool x.slot disk.reads)) (roots_of x)
  pub roots : PlacesRoots (TellsEntries disk pool.containers) (lies_in x.map pool x.slot disk.reads) x y some
  pub leaves : LeavesPool pool left

-- What a clean step did: a block was cleaned, or the roots were; false where there was nothing to do.
abbrev pub CleansVolume : Disk → Pool → VolumeState → Pool → VolumeState → Bool → Type 0
CleansVolume disk pool x left y true = CleansBlock disk pool x left y ⊎ CleansRoots disk pool x left y true
CleansVolume disk pool x left y false = CleansRoots disk pool x left y false

-- ---- why a step fails

-- Nothing stands in the way of a clean step: entries are told, the unknown pointers of the volume can be followed, from the roots too, and a
-- block is free.
pub record CanClean (disk : Disk) (pool : Pool) (x : VolumeState) : Type 0 where
  pub told : TellsEntries disk pool.containers
  pub follow : CanFollow (lies_in x.map pool x.slot disk.reads)
  pub roots : LeadBelow (lies_in x.map pool x.slot disk.reads) 8 (roots_of x)
  pub free : 1 ≤ free_blocks pool.map

-- ---- what may move

-- A known pointer leads to no block with an unknown one: not from the roots, and not in a block of the volume. So it is by rule 12.
abbrev pub LeadsClear : Lies → Pointer → Type 0
LeadsClear at p = (y : Placed) → is_known p ≡ true → at p.vvbn ≡ Some y → holds_unknown y ≡ false

pub record LeadClear (at : Lies) (ps : List Pointer) : Type 0 where
  pub roots : All (LeadsClear at) ps
  pub blocks : (w : ℕ) (x : Placed) → at w ≡ Some x → All (LeadsClear at) (pointers_of x)

-- a pointer doesn't tell the place of the block under a VVBN
abbrev pub IsUntold : ℕ → Pointer → Type 0
IsUntold v p = p.vvbn ≡ v → is_known p ≡ false

-- Each pointer to the block under a VVBN is unknown: from the roots, and in each block of the volume.
pub record IsUnled (at : Lies) (ps : List Pointer) (v : ℕ) : Type 0 where
  pub roots : All (IsUntold v) ps
  pub blocks : (w : ℕ) (x : Placed) → at w ≡ Some x → All (IsUntold v) (pointers_of x)

-- The rule on moving: only a block to which no known pointer leads gets another place under its VVBN. `at` is what lay under the VVBNs before.
abbrev pub MovesUnled : Disk → Pool → VolumeState → Pool → Type 0
MovesUnled disk pool x left = TellsEntries disk pool.containers → LeadClear (lies_in x.map pool x.slot disk.reads) (roots_of x)
    → (v : ℕ) → own_entry (container_at left.containers x.slot) v ≢ own_entry (container_at pool.containers x.slot) v
    → IsUnled (lies_in x.map pool x.slot disk.reads) (roots_of x) v

-- No block of the table that a clone stands on holds an unknown pointer: its parent knows all places.
abbrev pub IsBaseClear : Lies → Maps → Type 0
IsBaseClear at map = (v : ℕ) (x : Placed) → has v (slot_at map slot_of_base) ≡ true → at v ≡ Some x → holds_unknown x ≡ false

-- So no block of that table gets another place, and its clone's own container no entry for it.
abbrev pub MovesOutside : Disk → Pool → VolumeState → Pool → Type 0
MovesOutside disk pool x left = TellsEntries disk pool.containers → IsBaseClear (lies_in x.map pool x.slot disk.reads) x.map
    → (v : ℕ) → own_entry (container_at left.containers x.slot) v ≢ own_entry (container_at pool.containers x.slot) v → has v (slot_at x.map slot_of_base) ≡ false
