-- From which tree of a table a block is led to.
--
-- A table's trees are numbered by `None`, its inode file, and `Some n`, the tree of file n. An example: where two records lead to one
-- root, its VVBN is led to from two trees, so the trees of that table don't lie apart.
use Rattle.std.specs.Prelude.{◌≡◌, ◌≢◌, ℕ, Bool, true, Option, Some, None}
use Rattle.std.specs.Option.{option_map}
use Rattle.fv_codec.specs.declared.pointer.Pointer.{Pointer}
use Rattle.fv_codec.specs.Blocks.{greatest_word}
use Rattle.fv_tables.specs.Spelled.{Under, stored}
use Rattle.fv_tables.specs.Told.{file_at}
use Rattle.fv_tree.specs.Sources.{Use}
use Rattle.fv_tree.specs.Flushing.{Loaded, IsSound}
use Rattle.fv_tree.specs.Beside.{unread, LeadsTo}
use Rattle.fv_tree.specs.Stored.{IsStoredWell, TellsPlaces}
use Rattle.fv_tree.specs.Unknown.{LeadsUnknown}

-- the trees of a table as they stand to their blocks
abbrev pub Trees : Type 0
Trees = Option ℕ → Option Loaded

-- a tree, where there is one, leads to this VVBN
abbrev pub LeadsIn : Option Loaded → ℕ → Type 0
LeadsIn None v = ⊥
LeadsIn (Some s) v = LeadsTo s v

abbrev pub LeadsFrom : Trees → Option ℕ → ℕ → Type 0
LeadsFrom x a v = LeadsIn (x a) v

-- some tree of a table leads to this VVBN
pub record LeadsAny (x : Trees) (v : ℕ) : Type 0 where
  pub tree : Option ℕ
  pub leads : LeadsFrom x tree v

-- a tree, where there is one, stands on its blocks
abbrev pub StandsIn : (ℕ → Option Use) → Option Loaded → Type 0
StandsIn used None = Unit {0}
StandsIn used (Some s) = IsSound used s

-- no VVBN is led to from two trees of a table
abbrev pub AreApart : Trees → Type 0
AreApart x = (a b : Option ℕ) (v : ℕ) → a ≢ b → LeadsFrom x a v → LeadsFrom x b v → ⊥

-- what no tree of a table leads to isn't in use
abbrev pub AreLed : (ℕ → Option Use) → Trees → Type 0
AreLed used x = (v : ℕ) → ((a : Option ℕ) → LeadsFrom x a v → ⊥) → used v ≡ None

-- What a tree leads to is as its pointers say. The block of each node names its position. An unknown pointer stands only where the one that leads
-- to it is unknown, too. In a volume of which every place is known each pointer tells its place.
pub record IsAsSaid (known : Bool) (s : Loaded) : Type 0 where
  pub positions : IsStoredWell s
  pub leads : LeadsUnknown s
  pub places : known ≡ true → TellsPlaces s

-- so it is of a tree, where there is one
abbrev pub StoredIn : Bool → Option Loaded → Type 0
StoredIn known None = Unit {0}
StoredIn known (Some s) = IsAsSaid known s

-- so it is of each tree of a table
abbrev pub AreStoredWell : Bool → Trees → Type 0
AreStoredWell known x = (a : Option ℕ) → StoredIn known (x a)

-- the trees of a table of which nothing is in memory
abbrev pub stored_trees : Under → ℕ → Pointer → Trees
stored_trees blocks levels root None = Some (unread (stored blocks greatest_word levels root))
stored_trees blocks levels root (Some n) = option_map (λ r. unread (stored blocks n r.levels r.root)) (file_at (stored blocks greatest_word levels root) n)

-- ---- trees alike

-- A tree stands to its blocks as another does: with the same pointers, and the same places of both differ from their blocks.
pub record IsAlike (s r : Loaded) : Type 0 where
  pub tree : s.tree ≡ r.tree
  pub changed : (level place : ℕ) → s.changed level place ≡ r.changed level place

-- a tree, where there is one, is as another, where there is one
abbrev pub AlikeIn : Option Loaded → Option Loaded → Type 0
AlikeIn None None = Unit {0}
AlikeIn (Some s) (Some r) = IsAlike s r
AlikeIn None (Some r) = ⊥
AlikeIn (Some s) None = ⊥

-- so is each tree of a table
abbrev pub AreAlike : Trees → Trees → Type 0
AreAlike x y = (a : Option ℕ) → AlikeIn (x a) (y a)
