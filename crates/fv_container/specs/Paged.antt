-- A container with what of it is in memory.
use Rattle.std.specs.Prelude.{◌≡◌, ◌<◌, ◌+◌, ◌*◌, ◌/◌, ◌%◌, ℕ, zero, suc, Bool, true, false, not, ◌&&◌, ◌||◌, ◌==◌, List, length, map, replicate, get_or, slice_set, nat_lt, nat_le, if◌then◌else◌, Option, Some, None, IfSome}
use Rattle.std.specs.Option.{is_some}
use Rattle.std.specs.List.{range_with_len}
use Rattle.std.specs.Global.{Box}
use Rattle.fv_disk.specs.Shown.{Image}
use Rattle.fv_codec.specs.declared.container.ContainerLeaf.{ContainerLeaf}
use Rattle.fv_codec.specs.Blocks.{IsEntry as IsLeafEntry, last_place, leaf_at}
use Rattle.fv_image.specs.Containers.{entry_in, level_width, lying}
use Rattle.fv_container.specs.declared.entry.Entry.{Entry}
use Rattle.fv_container.specs.Mapped.{Mapped, empty_map}
use Rattle.fv_container.specs.Spelled.{pair_of}

-- The map, and by region, the 256 entries of a leaf: whether its leaf is in memory, whether it is known which of its entries are holes, and
-- whether what of these two is in memory is as the map says.
pub record Paged : Type 0 where
  pub map : Mapped
  pub here : List Bool
  pub known : List Bool
  pub sure : List Bool

-- a container of holes: no leaf is in memory, and of each region it is known that its entries are holes
abbrev pub empty_paged : ℕ → Paged
empty_paged entries = record { map = empty_map entries; here = replicate (level_width entries 0) false; known = replicate (level_width entries 0) true; sure = replicate (level_width entries 0) true }

-- whether the leaf of a region is in memory, whether it is known which of its entries are holes, and whether that is as the map says
abbrev pub is_here : Paged → ℕ → Bool
is_here paged k = get_or paged.here k false

abbrev pub is_known : Paged → ℕ → Bool
is_known paged k = get_or paged.known k false

abbrev pub is_sure : Paged → ℕ → Bool
is_sure paged k = get_or paged.sure k false

-- ---- leaves in memory

abbrev pub Leaves : Type 0
Leaves = List (Option (Box ContainerLeaf))

abbrev pub leaf_here : Leaves → ℕ → Option (Box ContainerLeaf)
leaf_here leaves k = get_or leaves k None

abbrev pub here_of : Leaves → List Bool
here_of leaves = map is_some leaves

-- an entry of a leaf as PVBN and kind
abbrev pub pair_at : ContainerLeaf → ℕ → ℕ × ℕ
pair_at leaf c = (get_or leaf.pvbns c 0, get_or leaf.kinds c 0)

-- a leaf that can be written as that of a region
pub record IsLeafFor (k : ℕ) (leaf : ContainerLeaf) : Type 0 where
  pub index : leaf.index ≡ k
  pub pvbns : length leaf.pvbns ≡ 256
  pub kinds : length leaf.kinds ≡ 256
  pub range : (c : ℕ) → c < 256 → IsLeafEntry (pair_at leaf c)

abbrev pub AreWell : Leaves → Type 0
AreWell leaves = (k : ℕ) → IfSome (leaf_here leaves k) (λ b. IsLeafFor k b.value)

-- ---- what is in memory, and what the map says

-- a test of each number below one
unfoldable pub all_below : ℕ → (ℕ → Bool) → Bool
all_below zero test = true
all_below (suc n) test = all_below n test && test n

abbrev pub is_same_pair : ℕ × ℕ → ℕ × ℕ → Bool
is_same_pair p q = (p.0 == q.0) && (p.1 == q.1)

abbrev pub is_same_bit : Bool → Bool → Bool
is_same_bit a b = (a && b) || (not a && not b)

-- whether the leaf of a region is as the entries say; where it isn't in memory nothing is asked
unfoldable pub is_as_said : List (Option Entry) → ℕ → Option (Box ContainerLeaf) → Bool
is_as_said es k None = true
is_as_said es k (Some b) = all_below 256 (λ c. is_same_pair (pair_at b.value c) (pair_of (get_or es (256 * k + c) None)))

-- whether the bits of a region say which of its entries aren't holes
unfoldable pub is_right : List (Option Entry) → ℕ → List Bool → Bool
is_right es k used = all_below 256 (λ c. is_same_bit (get_or used (256 * k + c) false) (is_some (get_or es (256 * k + c) None)))

abbrev pub is_told : List (Option Entry) → ℕ → Option (Box ContainerLeaf) → List Bool → Bool
is_told es k leaf used = is_as_said es k leaf && is_right es k used

-- what is known of the regions once one was read
abbrev pub sure_after : List Bool → List (Option Entry) → ℕ → Leaves → List Bool → List Bool
sure_after sure es k leaves used = slice_set sure k (is_told es k (leaf_here leaves k) used)

-- what is in memory of a region is as the map says, where that is known
abbrev pub IsSureOf : List (Option Entry) → ℕ → Bool → Option (Box ContainerLeaf) → List Bool → Type 0
IsSureOf es k false leaf used = Unit {0}
IsSureOf es k true leaf used = is_told es k leaf used ≡ true

-- ---- a container that is opened

-- an entry by its PVBN and kind
abbrev pub entry_for : ℕ × ℕ → Option Entry
entry_for pair = if (nat_lt 0 pair.1 && (nat_lt pair.1 9 && nat_le pair.0 last_place)) then Some (record { pvbn = pair.0; kind = pair.1 }) else None

-- an entry of the leaf at a place; 0 is no place, and an absent leaf holds holes
abbrev pub pair_there : Image → ℕ → ℕ → ℕ × ℕ
pair_there i place c = entry_in (lying leaf_at i place) c

-- the entries that the leaves at some places spell
unfoldable pub entries_spelled : Image → List ℕ → ℕ → List (Option Entry)
entries_spelled i places count = map (λ v. entry_for (pair_there i (get_or places (v / 256) 0) (v % 256))) (range_with_len 0 count)
