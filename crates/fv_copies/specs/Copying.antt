-- Copies of the blocks under the numbers of a slot, without places. An example: a slot has the numbers 40 and 41. Under 40 the chain of the volume's
-- containers has a node at block 300, and under 41 data at block 301. The copies are (40, kind 2, the node with each place in it unknown) and
-- (41, kind 1, the data), in this order.
use Rattle.std.specs.Prelude.{◌≡◌, ◌≤◌, ◌++◌, ◌∷◌, ◌⊎◌, ℕ, zero, suc, Bool, true, cond, List, [], map, All, None, Some, Result, Ok, Err, IfSome, IsTrue}
use Rattle.std.specs.FinMap as fin
use Rattle.fv_bits.specs.Members.{is_member}
use Rattle.fv_disk.specs.Shown.{Image, Shown as Disk}
use Rattle.fv_disk.specs.Crash.{Leaves}
use Rattle.fv_disk.specs.Sparing.{LeftBefore}
use Rattle.fv_disk.specs.declared.fault.BlockFault.{BlockFault}
use Rattle.fv_disk.specs.declared.fault.BlockFault.TheVariants.{DiskFault, Damaged, Memory}
use Rattle.fv_aggmap.specs.Space.{Space, IsFree}
use Rattle.fv_container.specs.declared.entry.Entry.{Entry}
use Rattle.fv_container.specs.Chains.{IsLeafDamage, chain_entry, container_at}
use Rattle.fv_container.specs.Spelled.{names}
use Rattle.fv_pool.specs.declared.pool.Pool.{Pool}
use Rattle.fv_pool.specs.BlocksOver.{TellsEntries, tree_in}
use Rattle.fv_pool.specs.Keeping.{seen}
use Rattle.fv_places.specs.ByKind.{form_of, shape_in}
use Rattle.fv_places.specs.Changed.{Blanks}

-- a copy under its number: the kind of the block, and the block without places
pub record Copy : Type 0 where
  pub vvbn : ℕ
  pub kind : ℕ
  pub block : List ℕ

-- a kind of an entry
pub record IsCopyKind (kind : ℕ) : Type 0 where
  pub least : 1 ≤ kind
  pub greatest : kind ≤ 8

-- a fault that isn't damage
abbrev pub IsUndamaged : BlockFault → Type 0
IsUndamaged DiskFault = Unit {0}
IsUndamaged (Damaged at want found) = ⊥
IsUndamaged Memory = Unit {0}

-- a number alone, where it is a member of a map
abbrev pub copies_at : List Bool → ℕ → List ℕ
copies_at bits v = cond (is_member bits v) (v ∷ []) []

-- the members of a map below a number, ascending: the numbers of the copies
unfoldable pub copies_below : List Bool → ℕ → List ℕ
copies_below bits zero = []
copies_below bits (suc n) = copies_below bits n ++ copies_at bits n

-- ---- what is copied

-- a block that isn't free: a root holds it, or it can't be allocated
abbrev pub IsTaken : Space → ℕ → Type 0
IsTaken space b = IsFree space b → ⊥

-- A copy of the block that is seen at the first entry along the chain of a slot. That block has the shape of its kind, and the copy is it with
-- each place in it unknown.
pub record IsCopy (disk : Disk) (pool : Pool) (slot : ℕ) (c : Copy) : Type 0 where
  pub entry : Entry
  pub there : chain_entry pool.containers slot c.vvbn ≡ Some entry
  pub kind : c.kind ≡ entry.kind
  pub shaped : shape_in (form_of entry.kind) (seen pool.kept disk.reads entry.pvbn) ≡ Ok tt
  pub blank : Blanks (form_of entry.kind) (seen pool.kept disk.reads entry.pvbn) c.block

-- What is copied lies still while free blocks are written: entries are told, and neither a node of a container nor the block under a number
-- of the map is free.
pub record IsSource (disk : Disk) (pool : Pool) (slot : ℕ) (bits : List Bool) : Type 0 where
  pub tells : TellsEntries disk pool.containers
  pub nodes : (s b : ℕ) → names (tree_in (container_at pool.containers s)) b ≡ true → IsTaken pool.map b
  pub blocks : (v : ℕ) → is_member bits v ≡ true → IfSome (chain_entry pool.containers slot v) (λ e. IsTaken pool.map e.pvbn)

-- A number has an entry along the chain of a slot, and the block there has the shape of its kind.
pub record HasShape (disk : Disk) (pool : Pool) (slot v : ℕ) : Type 0 where
  pub entry : Entry
  pub there : chain_entry pool.containers slot v ≡ Some entry
  pub shape : shape_in (form_of entry.kind) (seen pool.kept disk.reads entry.pvbn) ≡ Ok tt

-- So nothing about it is damaged: the leaves of containers stand where they have to, too.
pub record IsWholeAt (disk : Disk) (pool : Pool) (slot v : ℕ) : Type 0 where
  pub leaves : (at want found : ℕ) → IsLeafDamage disk.reads pool.containers at want found → ⊥
  pub has : HasShape disk pool slot v

-- so it is with each number of a map
pub record IsWhole (disk : Disk) (pool : Pool) (slot : ℕ) (bits : List Bool) : Type 0 where
  pub leaves : (at want found : ℕ) → IsLeafDamage disk.reads pool.containers at want found → ⊥
  pub each : (v : ℕ) → is_member bits v ≡ true → HasShape disk pool slot v

-- ---- what was copied

-- Copies of the blocks under some numbers were taken, in this order, after some others, where `got` says what was taken.
pub record HasCopied (disk : Disk) (pool : Pool) (slot : ℕ) (numbers : List ℕ) (got : List Copy → Type 0) (before : List Copy) : Type 0 where
  pub copies : List Copy
  pub numbers_are : map (λ (c : Copy). c.vvbn) copies ≡ numbers
  pub each : All (IsCopy disk pool slot) copies
  pub taken : got (before ++ copies)

-- what a disk tells of its content, and the bytes that were given out
pub record Content : Type 0 where
  pub tells : Bool
  pub reads : Image
  pub given : List ℕ

abbrev pub content_of : Disk → Content
content_of disk = record { tells = disk.tells; reads = disk.reads; given = disk.given }

-- What a sink leaves of pool and disk: the containers, and each block that isn't free, also in what a crash at any moment leaves. What was
-- free may be taken, kept no more, and written; no block is kept anew, and none is given back. A quiet one gives no bytes out.
pub record LeavesTaken (quiet : Type 0) (disk : Disk) (pool : Pool) (after : Disk) (left : Pool) : Type 0 where
  pub containers : left.containers ≡ pool.containers
  pub found : left.found ≡ pool.found
  pub version : left.version ≡ pool.version
  pub committed : left.map.committed ≡ pool.map.committed
  pub free : (b : ℕ) → IsFree left.map b → IsFree pool.map b
  pub held : (b : ℕ) → is_member pool.map.next b ≡ true → is_member left.map.next b ≡ true
  pub kept : (b : ℕ) → IsTaken pool.map b → fin.get left.kept b ≡ fin.get pool.kept b
  pub fewer : (b : ℕ) → (fin.get left.kept b ≡ None) ⊎ (fin.get left.kept b ≡ fin.get pool.kept b)
  pub tells : after.tells ≡ disk.tells
  pub given : quiet → after.given ≡ disk.given
  pub ends : quiet → after.ends ≡ disk.ends
  pub reads : IsTrue disk.tells → (b : ℕ) → IsTaken pool.map b → after.reads b ≡ disk.reads b
  pub images : (c : Image) → after.images c → LeftBefore (IsTaken pool.map) disk c
  pub any_moment : Leaves disk after (λ c g. LeftBefore (IsTaken pool.map) disk c × (quiet → g ≡ disk.given))

-- the count of failed writes and barriers: it stays where nothing of the disk failed, and never falls
abbrev pub HasWriteCause : {T : Type 0} → ℕ → ℕ → Result T BlockFault → Type 0
HasWriteCause before now (Ok x) = now ≡ before
HasWriteCause before now (Err DiskFault) = before ≤ now
HasWriteCause before now (Err (Damaged at want found)) = now ≡ before
HasWriteCause before now (Err Memory) = now ≡ before
