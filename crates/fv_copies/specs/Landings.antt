-- Copies that landed: each stands in a block that was free, at the place that a new container has under its VVBN.
use Rattle.std.specs.Prelude.{◌≡◌, ◌≢◌, ◌≤◌, ◌<◌, ◌+◌, ℕ, Bool, true, false, ◌||◌, ◌==◌, List, length, slice_set, All, None, Some, IsTrue}
use Rattle.std.specs.List.{list_any}
use Rattle.std.specs.FinMap as fin
use Rattle.fv_bits.specs.Members.{is_member}
use Rattle.fv_disk.specs.declared.fault.BlockFault.{BlockFault}
use Rattle.fv_disk.specs.declared.fault.BlockFault.TheVariants.{DiskFault, Damaged, Memory}
use Rattle.fv_aggmap.specs.Space.{Space, IsFree, IsFull, free_blocks}
use Rattle.fv_container.specs.declared.entry.Entry.{Entry}
use Rattle.fv_container.specs.Mapped.{entry_under}
use Rattle.fv_container.specs.Paged.{Paged}
use Rattle.fv_container.specs.Clean.{IsCleanOn}
use Rattle.fv_container.specs.Spelled.{names}
use Rattle.fv_pool.specs.declared.pool.Pool.{Pool}
use Rattle.fv_copies.specs.Copying.{Content, Copy}

-- how many places there may be
abbrev pub place_count : ℕ
place_count = 1048576

-- no place is marked
abbrev pub AreUnmarked : List Bool → Type 0
AreUnmarked marks = (b : ℕ) → is_member marks b ≡ false

-- a container has a hole under a number below its entries
pub record Lacks (container : Paged) (v : ℕ) : Type 0 where
  pub within : v < length container.map.entries
  pub hole : entry_under container.map v ≡ None

-- ---- one block

-- a free block is taken and marked
pub record TakesMarked (map : Space) (marks : List Bool) (b : ℕ) (map_after : Space) (marks_after : List Bool) : Type 0 where
  pub free : IsFree map b
  pub taken : map_after ≡ record map { next = slice_set map.next b true }
  pub noted : marks_after ≡ slice_set marks b true
  pub within : b < length map.next
  pub marked : b < length marks
  pub room : free_blocks map ≤ free_blocks map_after + 1

-- why none is: no block is free, told at the place of the root
abbrev pub IsNoBlock : Space → ℕ → BlockFault → Type 0
IsNoBlock map root DiskFault = ⊥
IsNoBlock map root (Damaged at want found) = (at ≡ root) × ((want ≡ 1) × ((found ≡ 0) × IsFull map))
IsNoBlock map root Memory = ⊥

-- ---- all of them

-- Since the map was `start`, the blocks that are marked were taken: each was free.
pub record AreMarked (start : Space) (marks : List Bool) (map : Space) : Type 0 where
  pub committed : map.committed ≡ start.committed
  pub long : length map.next ≡ length start.next
  pub next : (b : ℕ) → is_member map.next b ≡ (is_member start.next b || is_member marks b)
  pub free : (b : ℕ) → is_member marks b ≡ true → IsFree start b

-- What copies leave of a container, the marks and the map, whatever the disk tells.
pub record Lands (old : Paged) (marks : List Bool) (map : Space) (new : Paged) (marks_after : List Bool) (map_after : Space) : Type 0 where
  pub long : length new.map.entries ≡ length old.map.entries
  pub tree : new.map.tree ≡ old.map.tree
  pub marked : (start : Space) → AreMarked start marks map → AreMarked start marks_after map_after

-- the blocks that are marked are given back: the map is as it was before they were taken
abbrev pub GivesBack : Space → List Bool → Space → Type 0
GivesBack map marks map_after = (start : Space) → AreMarked start marks map → map_after ≡ start

-- A copy stands on the disk in a block that is marked and isn't kept, and the container leads to it.
pub record IsLanded (container : Paged) (marks : List Bool) (pool : Pool) (content : Content) (c : Copy) : Type 0 where
  pub entry : Entry
  pub there : entry_under container.map c.vvbn ≡ Some entry
  pub kind : entry.kind ≡ c.kind
  pub marked : is_member marks entry.pvbn ≡ true
  pub unkept : fin.get pool.kept entry.pvbn ≡ None
  pub block : content.reads entry.pvbn ≡ c.block

-- whether a number is that of some copy
abbrev pub is_copied : List Copy → ℕ → Bool
is_copied copies v = list_any (λ (c : Copy). v == c.vvbn) copies

-- an entry of a container leads to a block
pub record LeadsTo (container : Paged) (b : ℕ) : Type 0 where
  pub number : ℕ
  pub entry : Entry
  pub there : entry_under container.map number ≡ Some entry
  pub place : entry.pvbn ≡ b

-- All copies landed, each in a block of its own. The blocks that are marked are those that the container leads to. Under each other number the container has a hole, and no node of it lies anywhere.
pub record HasLanded (container : Paged) (marks : List Bool) (pool : Pool) (content : Content) (copies : List Copy) : Type 0 where
  pub tells : IsTrue content.tells
  pub clean : IsCleanOn content.reads container
  pub nowhere : (b : ℕ) → names container.map.tree b ≡ false
  pub held : (b : ℕ) → is_member marks b ≡ true → is_member pool.map.next b ≡ true
  pub each : All (IsLanded container marks pool content) copies
  pub holes : (v : ℕ) → is_copied copies v ≡ false → entry_under container.map v ≡ None
  pub led : (v : ℕ) (e : Entry) → entry_under container.map v ≡ Some e → is_member marks e.pvbn ≡ true
  pub back : (b : ℕ) → is_member marks b ≡ true → LeadsTo container b
  pub apart : (v w : ℕ) → w ≢ v → (e f : Entry) → entry_under container.map v ≡ Some e → entry_under container.map w ≡ Some f → f.pvbn ≢ e.pvbn
