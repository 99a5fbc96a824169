-- A tree over what a source of blocks holds, and why its calls fail.
use Rattle.std.specs.Prelude.{◌≡◌, ◌≢◌, ◌≤◌, ◌⊎◌, ℕ, zero, suc, List, Option, Some, None, Err}
use Rattle.std.specs.Option.{option_map}
use Rattle.std.specs.Ordering.{nat_cmp}
use Rattle.std.specs.BTreeMap as tree
use Rattle.std.specs.FinMap as fin
use Rattle.fv_disk.specs.Shown.{Rose}
use Rattle.fv_disk.specs.declared.fault.BlockFault.{BlockFault}
use Rattle.fv_disk.specs.declared.fault.BlockFault.TheVariants.{DiskFault, Damaged, Memory}
use Rattle.fv_codec.specs.declared.pointer.Pointer.{Pointer}
use Rattle.fv_codec.specs.Blocks.{node_at}
use Rattle.fv_model.specs.Trees as trees
use Rattle.fv_model.specs.Trees.{fan, Spot, spot_cmp}
use Rattle.fv_tree.specs.declared.kept.Tree.{Tree}
use Rattle.fv_tree.specs.declared.kept.KeptNode.{KeptNode}
use Rattle.fv_tree.specs.Spelled.{Under, Rooted, pointer_at, stamp_in, block_at}
use Rattle.fv_tree.specs.Sources.{Shown, HasCause, IsCalm, IsDamaged, WasDamaged}

-- the blocks of a source as a function
abbrev pub under : Shown → Under
under source v = fin.get source.held v

-- the pointers of a node that is in memory
abbrev pub children_in : tree.BTreeMap Spot KeptNode → ℕ → ℕ → Option (List Pointer)
children_in nodes level place = option_map (λ kept. kept.children) (tree.get spot_cmp nodes (level, place))

abbrev pub node_in : Tree → ℕ → ℕ → Option (List Pointer)
node_in t = children_in t.nodes

-- the content of a cell that is in memory
abbrev pub cell_in : Tree → ℕ → Option (List ℕ)
cell_in t index = option_map (λ kept. kept.block.value) (tree.get nat_cmp t.cells index)

-- nothing but the cells in memory differs
pub record IsSameButCells (old new : Tree) : Type 0 where
  pub owner : new.owner ≡ old.owner
  pub levels : new.levels ≡ old.levels
  pub root : new.root ≡ old.root
  pub nodes : new.nodes ≡ old.nodes

-- nothing but the nodes in memory differs
pub record IsSameBut (old new : Tree) : Type 0 where
  pub owner : new.owner ≡ old.owner
  pub levels : new.levels ≡ old.levels
  pub root : new.root ≡ old.root
  pub cells : new.cells ≡ old.cells

-- a tree over blocks
abbrev pub standing : Under → Tree → Rooted
standing blocks t = record {
  under = blocks;
  owner = t.owner;
  levels = t.levels;
  root = t.root;
  nodes = node_in t;
  cells = cell_in t;
}

-- What a tree is seen as: the machine's levels and stamps of one file, and the blocks of its cells.
pub record Shows (t : Rooted) (seen : trees.Tree) (contents : fin.FinMap nat_cmp (List ℕ)) : Type 0 where
  pub levels : seen.levels ≡ t.levels
  pub stamps : (level place : ℕ) → fin.get seen.stamps (level, place) ≡ stamp_in (pointer_at t level place)
  pub blocks : (index : ℕ) → fin.get contents index ≡ block_at t index

-- the block to which a pointer leads hasn't the shape of a node
pub record IsBlockDamage (old new : Shown) (p : Pointer) (at want found : ℕ) : Type 0 where
  pub some : p.stamp ≢ 0
  pub block : List ℕ
  pub lies : fin.get old.held p.vvbn ≡ Some block
  pub fault : node_at block ≡ Err (record { want = want; found = found })
  pub read : at ≡ new.read_at p

-- a cell or node isn't in memory, so that it is loaded where a pointer leads to it
abbrev pub IsUnread : Rooted → ℕ → ℕ → Type 0
IsUnread t zero place = t.cells place ≡ None
IsUnread t (suc level) place = t.nodes (suc level) place ≡ None

-- the block of a node of the tree, which isn't in memory, hasn't its shape
pub record IsNodeDamage (t : Rooted) (old new : Shown) (at want found : ℕ) : Type 0 where
  pub level : ℕ
  pub place : ℕ
  pub low : 1 ≤ level
  pub high : level ≤ t.levels
  pub unread : IsUnread t level place
  pub damage : IsBlockDamage old new (pointer_at t level place) at want found

-- a pointer leads to a VVBN that isn't held
abbrev pub LeadsAway : Under → Pointer → Type 0
LeadsAway blocks p = (p.stamp ≢ 0) × (blocks p.vvbn ≡ None)

-- so does one of the tree, to what isn't in memory
pub record LacksBlock (t : Rooted) : Type 0 where
  pub level : ℕ
  pub place : ℕ
  pub high : level ≤ t.levels
  pub unread : IsUnread t level place
  pub away : LeadsAway t.under (pointer_at t level place)

-- why a load of this pointer failed
abbrev pub PointerFails : Type 0 → Shown → Shown → Pointer → BlockFault → Type 0
PointerFails told old new p e = HasCause old new e × (told → IsDamaged e → LeadsAway (under old) p)

-- Why the node to which this pointer leads wasn't loaded: as for the source, or its block was given and hasn't its shape.
-- Which block that was is known where content is told.
abbrev pub LoadFails : Type 0 → Shown → Shown → Pointer → BlockFault → Type 0
LoadFails told old new p DiskFault = Rose old.faults new.faults × (new.damages ≡ old.damages)
LoadFails told old new p (Damaged at want found) =
    (new.faults ≡ old.faults) × ((WasDamaged old new at want found × (told → LeadsAway (under old) p)) ⊎ ((new.damages ≡ old.damages) × (told → IsBlockDamage old new p at want found)))
LoadFails told old new p Memory = IsCalm old new

-- Why a call of a tree failed, where `old` is what the source showed at the call and `new` what it shows afterwards. Where content is
-- told, the source answered damage of a pointer of the tree, or the damage is that of a node of the tree.
abbrev pub Fails : Type 0 → Rooted → Shown → Shown → BlockFault → Type 0
Fails told t old new DiskFault = Rose old.faults new.faults × (new.damages ≡ old.damages)
Fails told t old new (Damaged at want found) =
    (new.faults ≡ old.faults) × ((WasDamaged old new at want found × (told → LacksBlock t)) ⊎ ((new.damages ≡ old.damages) × (told → IsNodeDamage t old new at want found)))
Fails told t old new Memory = IsCalm old new
