-- The map that a container's tree on the disk spells. A tree is named by the place of its root, its height,
-- which counts the levels of inner nodes, and its number of entries. Leaves are level 0, the root has the
-- height as its level, and the nodes of a level are numbered from 0.
use Rattle.std.specs.Prelude.{◌≡◌, ◌≢◌, ◌<◌, ◌≤◌, ◌+◌, ◌-◌, ◌*◌, ◌/◌, ◌%◌, ℕ, zero, suc, max, Bool, true, ◌||◌, List, Option, Some, None, Result, Ok, Err, get_or, nat_lt, nat_le, ◌==◌, if◌then◌else◌}
use Rattle.std.specs.List.{list_all, range_with_len}
use Rattle.fv_disk.specs.Shown.{Image}
use Rattle.fv_model.specs.Numbers.{ceil_div}
use Rattle.fv_codec.specs.declared.shape.Shape.{Shape}
use Rattle.fv_codec.specs.declared.container.ContainerLeaf.{ContainerLeaf}
use Rattle.fv_codec.specs.declared.container.ContainerInner.{ContainerInner}
use Rattle.fv_codec.specs.Fields.{Verdict, in_range, reading, verdict_of, ◌then◌}
use Rattle.fv_codec.specs.Blocks.{inner_at, leaf_at}

-- the entries of a leaf, and the children of an inner node
abbrev pub fan : ℕ
fan = 256

-- the most entries that a tree of two levels of inner nodes covers
abbrev pub most_entries : ℕ
most_entries = 16777216

-- how many nodes a level has: the leaves cover the entries, each level covers the one below it, and above
-- the leaves there is at least one
abbrev pub level_width : ℕ → ℕ → ℕ
level_width entries zero = ceil_div entries fan
level_width entries (suc level) = max 1 (ceil_div (level_width entries level) fan)

-- the least height, at least 1, whose fan-out covers the leaves
abbrev pub height_of : ℕ → ℕ
height_of entries = if nat_le (level_width entries 0) fan then 1 else 2

-- what stands at a place, where it has its shape; 0 is no place
abbrev pub shaped : {X : Type 0} → Result X Shape → Option X
shaped (Ok x) = Some x
shaped (Err fault) = None

abbrev pub lying : {X : Type 0} → (List ℕ → Result X Shape) → Image → ℕ → Option X
lying read i zero = None
lying read i (suc p) = shaped (read (i (suc p)))

-- a child's place; an absent node has no child
abbrev pub child_in : Option ContainerInner → ℕ → ℕ
child_in None c = 0
child_in (Some n) c = get_or n.children c 0

-- an entry as PVBN and kind, (0, 0) for a hole; an absent leaf holds holes
abbrev pub entry_in : Option ContainerLeaf → ℕ → ℕ × ℕ
entry_in None c = (0, 0)
entry_in (Some l) c = (get_or l.pvbns c 0, get_or l.kinds c 0)

-- the place of node q at so many steps below the root, or 0 where it is absent; the root is node 0 of its level
unfoldable pub node_below : Image → ℕ → ℕ → ℕ → ℕ
node_below i root zero q = if q == 0 then root else 0
node_below i root (suc steps) q = child_in (lying inner_at i (node_below i root steps (q / fan))) (q % fan)

-- The entry of a VVBN as PVBN and kind, read from the leaves by number: a number past the entries is a hole.
unfoldable pub container_entry : Image → ℕ → ℕ → ℕ → ℕ → ℕ × ℕ
container_entry i root height entries v =
    if nat_lt v entries then entry_in (lying leaf_at i (node_below i root height (v / fan))) (v % fan) else (0, 0)

-- ---- the nodes of a tree

-- the place of node q of a level
abbrev pub node_of : Image → ℕ → ℕ → ℕ → ℕ → ℕ
node_of i root height level q = node_below i root (height - level) q

-- a block that the tree names: one of its nodes
pub record IsNodePlace (i : Image) (root height entries b : ℕ) : Type 0 where
  pub level : ℕ
  pub number : ℕ
  pub below : level ≤ height
  pub within : number < level_width entries level
  pub place : b ≡ node_of i root height level number
  pub some : b ≢ 0

-- the verdict on a block as a node by its shape alone, a leaf's at level 0 and an inner node's above, whatever position it names
abbrev pub node_shape : ℕ → List ℕ → Verdict
node_shape zero block = verdict_of (leaf_at block)
node_shape (suc level) block = verdict_of (inner_at block)

-- what a block says as the leaf of this index, or as the inner node of this level and number
abbrev pub judged : {X : Type 0} → Result X Shape → (X → Verdict) → Result X Shape
judged (Err fault) asks = Err fault
judged (Ok x) asks = reading (asks x) x

unfoldable pub leaf_for : ℕ → List ℕ → Result ContainerLeaf Shape
leaf_for index block = judged (leaf_at block) (λ l. in_range index index l.index)

unfoldable pub inner_for : ℕ → ℕ → List ℕ → Result ContainerInner Shape
inner_for level number block = judged (inner_at block) (λ n. in_range level level n.level then in_range number number n.place)

-- the verdict on a block as the node of this level and number: its shape, and then that it is the one of its position
abbrev pub node_verdict : ℕ → ℕ → List ℕ → Verdict
node_verdict zero number block = verdict_of (leaf_for number block)
node_verdict (suc level) number block = verdict_of (inner_for (suc level) number block)

-- each node that isn't absent has its shape. A node is taken by where the pointer led, so the tree spells its entries all the same
-- where one names another position.
pub record IsShapedTree (i : Image) (root height entries : ℕ) : Type 0 where
  pub nodes : (level number : ℕ) → level ≤ height → number < level_width entries level → node_of i root height level number ≢ 0
      → node_shape level (i (node_of i root height level number)) ≡ Ok tt

-- each node that isn't absent is the one of its position
pub record IsWholeTree (i : Image) (root height entries : ℕ) : Type 0 where
  pub nodes : (level number : ℕ) → level ≤ height → number < level_width entries level → node_of i root height level number ≢ 0
      → node_verdict level number (i (node_of i root height level number)) ≡ Ok tt

-- what a block has, as the node of this level and number, past so many entries: a leaf holes, and an inner node no child of which all
-- leaves lie there; a block without its shape has nothing
abbrev pub has_none_past : ℕ → ℕ → ℕ → List ℕ → Bool
has_none_past entries zero number block =
    list_all (λ c. nat_lt (number * fan + c) entries || ((entry_in (shaped (leaf_at block)) c).1 == 0)) (range_with_len 0 fan)
has_none_past entries (suc level) number block =
    list_all (λ c. nat_lt (number * fan + c) (level_width entries level) || (child_in (shaped (inner_at block)) c == 0)) (range_with_len 0 fan)

-- no node of a tree has anything past its entries
pub record HasNonePast (i : Image) (root height entries : ℕ) : Type 0 where
  pub nodes : (level number : ℕ) → level ≤ height → number < level_width entries level → node_of i root height level number ≢ 0
      → has_none_past entries level number (i (node_of i root height level number)) ≡ true

-- a node without its shape: its place, and the wanted and the found number
pub record IsNodeFault (i : Image) (root height entries at want found : ℕ) : Type 0 where
  pub node : IsNodePlace i root height entries at
  pub fault : node_shape node.level (i at) ≡ Err (record { want = want; found = found })
