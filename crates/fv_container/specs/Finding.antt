-- Rows of entries that are found at once.
use Rattle.std.specs.Prelude.{◌≡◌, ◌<◌, ◌≤◌, ◌+◌, ◌/◌, ◌%◌, ℕ, false, List, length, get_or, Option, None, IfSome}
use Rattle.std.specs.Global.{Box}
use Rattle.fv_disk.specs.Shown.{Image, Shown}
use Rattle.fv_disk.specs.declared.fault.BlockFault.{BlockFault}
use Rattle.fv_codec.specs.declared.container.ContainerLeaf.{ContainerLeaf}
use Rattle.fv_container.specs.declared.entry.Entry.{Entry}
use Rattle.fv_container.specs.Mapped.{IsHeld, Mapped, entry_under}
use Rattle.fv_container.specs.Paged.{Leaves, Paged, is_here, leaf_here}
use Rattle.fv_container.specs.Reading.{IsBadNode, LooksUp}
use Rattle.fv_container.specs.Spelled.{pair_of}

abbrev pub Row : Type 0
Row = List (Option Entry)

-- a row has the entries of a map under the VVBNs from one on
abbrev pub AreEntries : Mapped → ℕ → Row → Type 0
AreEntries map first row = (k : ℕ) → k < length row → get_or row k None ≡ entry_under map (first + k)

-- no leaf of so many VVBNs from one on is in memory
abbrev pub AreAway : Paged → ℕ → ℕ → Type 0
AreAway paged first count = (k : ℕ) → k < count → is_here paged ((first + k) / 256) ≡ false

-- the entries of a row, from a number on up to an end, are such that a leaf can hold
abbrev pub AreHeld : ℕ → ℕ → Row → Type 0
AreHeld from end row = (k : ℕ) → from ≤ k → k < end → IfSome (get_or row k None) IsHeld

-- why the entries of so many VVBNs from one on aren't found: the leaf of one of them
pub record IsRowFault (i : Image) (tree : List ℕ) (first count : ℕ) (fault : BlockFault) : Type 0 where
  pub number : ℕ
  pub within : number < count
  pub leaf : IsBadNode i (get_or tree ((first + number) / 256) 0) 0 fault

-- the entries of a row, from a number on up to an end, are those of one leaf, in memory or at a place
abbrev pub LooksUpFrom : Shown → ℕ → Option (Box ContainerLeaf) → ℕ → ℕ → ℕ → Row → Type 0
LooksUpFrom disk at leaf first from end row = (k : ℕ) → from ≤ k → k < end → LooksUp disk at ((first + k) % 256) leaf (pair_of (get_or row k None))

-- so many entries of a row are those of their leaves
abbrev pub LooksUpRow : Shown → Leaves → List ℕ → ℕ → ℕ → Row → Type 0
LooksUpRow disk leaves tree first count row = (k : ℕ) → k < count → LooksUp disk (get_or tree ((first + k) / 256) 0) ((first + k) % 256) (leaf_here leaves ((first + k) / 256)) (pair_of (get_or row k None))
