-- Taking the places out of the pointers that a later flush writes.
--
-- An example: a file has the blocks 0 and 1 under one node, and block 0 was written since the last flush. So the node changed. Then its
-- pointers to both blocks and the root have PVBN 0. A flush that hides places writes the node with two unknown pointers, and leads to it by one.
use Rattle.std.specs.Prelude.{◌≡◌, ◌⊎◌, ℕ, ◌+◌, ◌/◌, Bool, true, ◌||◌, ◌==◌, cond, map, List, Option, is_some}
use Rattle.std.specs.Option.{option_map}
use Rattle.std.specs.BTreeMap as maps
use Rattle.fv_codec.specs.declared.pointer.Pointer.{Pointer}
use Rattle.fv_model.specs.Trees.{fan, Spot, spot_cmp}
use Rattle.fv_tables.specs.Alike.{hintless}
use Rattle.fv_tree.specs.declared.kept.Tree.{Tree}
use Rattle.fv_tree.specs.declared.kept.KeptNode.{KeptNode}
use Rattle.fv_tree.specs.Spelled.{Under, pointer_at}
use Rattle.fv_tree.specs.Sources.{Use}
use Rattle.fv_tree.specs.Standing.{standing, children_in, node_in}
use Rattle.fv_tree.specs.Writing.{IsAlike}
use Rattle.fv_tree.specs.Flushing.{Loaded, loaded_over, changed_in, changed_of, placed_in, placed_of, IsSound}
use Rattle.fv_tree.specs.Leading.{LeadsNoMore}
use Rattle.fv_tree.specs.Stored.{IsStoredWell}
use Rattle.fv_tree.specs.Unknown.{LeadsUnknown}
use Rattle.fv_tree.specs.Readying.{KeepsReady}
use Rattle.fv_tree.specs.Costs.{changes_in, pending}

-- whether a later flush writes the pointer to a position: it is the root, or stands in a node that changed
abbrev pub will_be_written : Loaded → ℕ → ℕ → Bool
will_be_written s level place = level == s.tree.levels || s.changed (level + 1) (place / fan)

-- so each pointer that a later flush writes tells no place
abbrev pub WritesUnknown : Loaded → Type 0
WritesUnknown s = (level place : ℕ) → will_be_written s level place ≡ true → (pointer_at s.tree level place).pvbn ≡ 0

-- the pointers of a node in memory, without places where it changed
abbrev pub hintless_in : KeptNode → List Pointer
hintless_in kept = cond kept.changed (map hintless kept.children) kept.children

-- The nodes in memory that changed have no places in their pointers. All other nodes stay, and what differs from its block stays so.
pub record BlanksNodes (old new : maps.BTreeMap Spot KeptNode) : Type 0 where
  pub children : (level place : ℕ) → children_in new level place ≡ option_map hintless_in (maps.get spot_cmp old (level, place))
  pub changed : (level place : ℕ) → changed_in new level place ≡ changed_in old level place
  pub placed : (level place : ℕ) → placed_in new level place ≡ placed_in old level place
  pub count : changes_in new ≡ changes_in old

-- Each pointer that a later flush writes tells no place any more, and all else is as before: over whatever blocks, the tree is seen as it was,
-- stands on them if it did, and leads to the same ones from the same places.
pub record Blanks (old new : Tree) : Type 0 where
  pub owner : new.owner ≡ old.owner
  pub levels : new.levels ≡ old.levels
  pub cells : new.cells ≡ old.cells
  pub root : new.root ≡ hintless old.root
  pub kept : (level place : ℕ) → is_some (node_in new level place) ≡ is_some (node_in old level place)
  pub changed : (level place : ℕ) → changed_of new level place ≡ changed_of old level place
  pub placed : (level place : ℕ) → placed_of new level place ≡ placed_of old level place
  pub pending : pending new ≡ pending old
  pub pointers : (held : Under) (level place : ℕ)
      → pointer_at (standing held new) level place
      ≡ cond (will_be_written (loaded_over held old) level place) (hintless (pointer_at (standing held old) level place)) (pointer_at (standing held old) level place)
  pub alike : (held : Under) → IsAlike (standing held old) (standing held new)
  pub sound : (held : Under) (used : ℕ → Option Use) → IsSound used (loaded_over held old) → IsSound used (loaded_over held new)
  pub leads : (held : Under) → LeadsNoMore (loaded_over held old) (loaded_over held new)
  pub keeps : (held : Under) → LeadsNoMore (loaded_over held new) (loaded_over held old)
  pub stored_well : (held : Under) → IsStoredWell (loaded_over held old) → IsStoredWell (loaded_over held new)
  pub leads_unknown : (held : Under) → LeadsUnknown (loaded_over held old) → LeadsUnknown (loaded_over held new)
  pub keeps_ready : KeepsReady old new

-- a place has the pointer that it had, which may tell no place any more; all else of it is as before
pub record IsBlanked (old new : Loaded) (level place : ℕ) : Type 0 where
  pub vvbn : (pointer_at new.tree level place).vvbn ≡ (pointer_at old.tree level place).vvbn
  pub stamp : (pointer_at new.tree level place).stamp ≡ (pointer_at old.tree level place).stamp
  pub pvbn : ((pointer_at new.tree level place).pvbn ≡ 0) ⊎ ((pointer_at new.tree level place).pvbn ≡ (pointer_at old.tree level place).pvbn)
  pub changed : new.changed level place ≡ old.changed level place
  pub placed : new.placed level place ≡ old.placed level place
