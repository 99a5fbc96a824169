-- A search for a block to clean: one that holds an unknown pointer, and whose unknown pointers all lead to blocks that hold none.
--
-- An example: the node 7 leads to the nodes 8 and 9 by unknown pointers, 8 holds none and 9 holds one, to a cell. So 9 is to be cleaned, and 7
-- once 9 is.
use Rattle.std.specs.Prelude.{◌≡◌, ◌≢◌, ◌≤◌, ◌<◌, ℕ, Bool, true, false, List, length, Option, Some, None, Ok, get_or}
use Rattle.std.specs.List.{list_any}
use Rattle.std.specs.Option.{option_map}
use Rattle.fv_disk.specs.Shown.{Image}
use Rattle.fv_disk.specs.declared.fault.BlockFault.{BlockFault}
use Rattle.fv_disk.specs.declared.fault.BlockFault.TheVariants.{DiskFault, Damaged, Memory}
use Rattle.fv_codec.specs.declared.pointer.Pointer.{Pointer}
use Rattle.fv_codec.specs.Blocks.{last_place}
use Rattle.fv_container.specs.declared.entry.Entry.{Entry}
use Rattle.fv_container.specs.Mapped.{IsEntry}
use Rattle.fv_tables.specs.Spelled.{hole}
use Rattle.fv_image.specs.Views.{Placed}
use Rattle.fv_image.specs.HintRules.{is_unknown}
use Rattle.fv_places.specs.ByKind.{form_of, shape_in, pointers_by}
use Rattle.fv_volmap.specs.Slots.{Volume as Maps, taken_in}
use Rattle.fv_pool.specs.declared.pool.Pool.{Pool}
use Rattle.fv_pool.specs.Keeping.{Blocks, seen}
use Rattle.fv_pool.specs.BlocksOver.{held_entry}
use Rattle.fv_cleaner.specs.declared.searching.Found.{Found}

-- what lies under each VVBN of a volume
abbrev pub Lies : Type 0
Lies = ℕ → Option Placed

-- a block by its entry: the kept one, or what stands on the disk
abbrev pub placed_by : Blocks → Image → Option Entry → Option Placed
placed_by kept i entry = option_map (λ (e : Entry). record { pvbn = e.pvbn; kind = e.kind; block = seen kept i e.pvbn }) entry

-- the block under a VVBN that a slot of the maps has
abbrev pub lies_in : Maps → Pool → ℕ → Image → Lies
lies_in map pool slot i v = placed_by pool.kept i (held_entry map pool.containers slot v)

abbrev pub pointers_of : Placed → List Pointer
pointers_of x = pointers_by (form_of x.kind) x.block

-- whether a block holds an unknown pointer
abbrev pub holds_unknown : Placed → Bool
holds_unknown x = list_any is_unknown (pointers_of x)

-- the block under a VVBN holds none
pub record IsClear (at : Lies) (v : ℕ) : Type 0 where
  pub block : Placed
  pub there : at v ≡ Some block
  pub none : holds_unknown block ≡ false

-- The block under a VVBN holds one. It has the shape of its kind.
pub record IsUnclear (at : Lies) (v : ℕ) (x : Placed) : Type 0 where
  pub there : at v ≡ Some x
  pub least : 2 ≤ x.kind
  pub greatest : x.kind ≤ 7
  pub shaped : shape_in (form_of x.kind) x.block ≡ Ok tt
  pub unknown : holds_unknown x ≡ true

-- each unknown pointer of a list, up to an index, leads to a block that holds none
abbrev pub AreClear : Lies → List Pointer → ℕ → Type 0
AreClear at ps end = (i : ℕ) → i < end → is_unknown (get_or ps i hole) ≡ true → IsClear at (get_or ps i hole).vvbn

-- The block under a VVBN is to be cleaned next: it holds an unknown pointer, and what such pointers of it lead to holds none. A node over cells,
-- of kind 2, leads to data.
pub record IsNext (at : Lies) (v : ℕ) (x : Placed) : Type 0 where
  pub unclear : IsUnclear at v x
  pub below : 2 < x.kind → AreClear at (pointers_of x) (length (pointers_of x))

-- a block that was found, which was read
abbrev pub found_block : Found → List ℕ → Placed
found_block f block = record { pvbn = f.entry.pvbn; kind = f.entry.kind; block = block }

-- what a search of one block says: it holds no unknown pointer, or it was read and does
abbrev pub Looks : Lies → ℕ → List ℕ → Option Found → Type 0
Looks at v block None = IsClear at v
Looks at v block (Some f) = IsUnclear at f.vvbn (found_block f block)

-- each unknown pointer of a list from an index on, up to another one, leads to a block that holds none
abbrev pub AreClearFrom : Lies → List Pointer → ℕ → ℕ → Type 0
AreClearFrom at ps from end = (i : ℕ) → from ≤ i → i < end → is_unknown (get_or ps i hole) ≡ true → IsClear at (get_or ps i hole).vvbn

-- what the search under the pointers from an index on says: what the unknown ones lead to holds none, or a block was read that does
abbrev pub LooksFrom : Lies → List Pointer → ℕ → List ℕ → Option Found → Type 0
LooksFrom at ps from block None = AreClearFrom at ps from (length ps)
LooksFrom at ps from block (Some f) = IsUnclear at f.vvbn (found_block f block)

-- what the search under the pointers of a block of a kind says: what the unknown ones lead to holds none, or a block was read that does
abbrev pub LooksBelow : Lies → ℕ → List Pointer → List ℕ → Option Found → Type 0
LooksBelow at kind ps block None = 2 < kind → AreClear at ps (length ps)
LooksBelow at kind ps block (Some f) = IsUnclear at f.vvbn (found_block f block)

-- what the search from a root says: its block holds no unknown pointer, or a block was found that is to be cleaned next
abbrev pub Searches : Lies → ℕ → List ℕ → Option Found → Type 0
Searches at v block None = IsClear at v
Searches at v block (Some f) = IsNext at f.vvbn (found_block f block)

-- A block that was found has a number that a slot of the maps has, and the entry of a node or of an inode block. Whatever the disk tells, what
-- was read has the shape of its kind and holds an unknown pointer.
pub record IsFoundIn (map : Maps) (f : Found) (block : List ℕ) : Type 0 where
  pub low : f.vvbn ≤ last_place
  pub taken : taken_in map.slots f.vvbn ≡ true
  pub entry : IsEntry f.entry
  pub least : 2 ≤ f.entry.kind
  pub greatest : f.entry.kind ≤ 7
  pub shaped : shape_in (form_of f.entry.kind) block ≡ Ok tt
  pub unknown : list_any is_unknown (pointers_by (form_of f.entry.kind) block) ≡ true

-- ---- why a search fails

-- a VVBN leads to a block of a kind below another, which has a place
pub record LeadsBelow (at : Lies) (kind v : ℕ) : Type 0 where
  pub block : Placed
  pub there : at v ≡ Some block
  pub some : block.pvbn ≢ 0
  pub lower : block.kind < kind

-- so does each unknown pointer of a list
abbrev pub LeadBelow : Lies → ℕ → List Pointer → Type 0
LeadBelow at kind ps = (i : ℕ) → i < length ps → is_unknown (get_or ps i hole) ≡ true → LeadsBelow at kind (get_or ps i hole).vvbn

-- The unknown pointers of a volume can be followed: each block of it has the shape of its kind, and each unknown pointer of one leads to a block
-- of a lower kind. Those of a sound image can. Where one can't, the search tells damage.
pub record CanFollow (at : Lies) : Type 0 where
  pub shaped : (v : ℕ) (x : Placed) → at v ≡ Some x → shape_in (form_of x.kind) x.block ≡ Ok tt
  pub below : (v : ℕ) (x : Placed) → at v ≡ Some x → LeadBelow at x.kind (pointers_of x)

-- a fault of the disk, or want of memory
abbrev pub IsUndamaged : BlockFault → Type 0
IsUndamaged DiskFault = Unit {0}
IsUndamaged (Damaged at want found) = ⊥
IsUndamaged Memory = Unit {0}
