-- The blocks that lie under a tree, and those that go with a removal.
use Rattle.std.specs.Prelude.{◌≡◌, ◌⊎◌, ℕ, Bool, cond, None}
use Rattle.std.specs.FinMap as fin
use Rattle.fv_tree.specs.declared.kept.Tree.{Tree}
use Rattle.fv_tree.specs.Spelled.{Under, pointer_at, stamp_in}
use Rattle.fv_tree.specs.Sources.{Shown, IsCalm}
use Rattle.fv_tree.specs.Standing.{standing, under}
use Rattle.fv_tree.specs.Flushing.{Leads, IsSound, loaded_over, placed_of}
use Rattle.fv_tree.specs.Erasing.{StandsAt, HoldsCells, IsErased}
use Rattle.fv_tree.specs.Altering.{Alters}

-- a block to which the tree led, at a place that no longer stands
pub record IsDropped (blocks : Under) (old new : Tree) (vvbn : ℕ) : Type 0 where
  pub level : ℕ
  pub place : ℕ
  pub led : Leads (loaded_over blocks old) level place vvbn
  pub goes : (pointer_at (standing blocks new) level place).stamp ≡ 0

-- Each block that is dropped goes out of use, and may go out of the map. All others stay, in use as they were and in the map.
pub record Releases (old new : Shown) (dropped : ℕ → Type 0) : Type 0 where
  pub gone : (v : ℕ) → dropped v → new.used v ≡ None
  pub used : (v : ℕ) → (dropped v → ⊥) → new.used v ≡ old.used v
  pub held : (v : ℕ) → (dropped v → ⊥) → fin.get new.held v ≡ fin.get old.held v
  pub unused : (v : ℕ) → old.used v ≡ None → new.used v ≡ None
  pub may_go : (v : ℕ) → (fin.get new.held v ≡ fin.get old.held v) ⊎ (fin.get new.held v ≡ None)
  pub calm : IsCalm old new

-- what still stands stood, and leads to the block to which it led
pub record KeepsBlocks (blocks : Under) (old new : Tree) : Type 0 where
  pub stood : (level place : ℕ) → StandsAt (standing blocks new) level place → StandsAt (standing blocks old) level place
  pub number : (level place : ℕ) → StandsAt (standing blocks new) level place → (pointer_at (standing blocks new) level place).vvbn ≡ (pointer_at (standing blocks old) level place).vvbn
  pub block : (level place : ℕ) → StandsAt (standing blocks new) level place → placed_of new level place ≡ placed_of old level place
  pub hint : (level place : ℕ) → StandsAt (standing blocks new) level place → (pointer_at (standing blocks new) level place).pvbn ≡ (pointer_at (standing blocks old) level place).pvbn

-- Cells were removed by a change with the stamp s, over the blocks that there were before.
pub record Removes (old new : Shown) (t u : Tree) (gone : ℕ → Bool) (start s : ℕ) : Type 0 where
  pub cells : (i : ℕ) → stamp_in (pointer_at (standing (under old) u) 0 i) ≡ cond (gone i) None (stamp_in (pointer_at (standing (under old) t) 0 i))
  pub erased : HoldsCells (standing (under old) t) → IsErased (standing (under old) t) (standing (under old) u) gone start s
  pub keeps : KeepsBlocks (under old) t u
  pub sound : IsSound old.used (loaded_over (under old) t) → IsSound old.used (loaded_over (under old) u)
  pub released : Releases old new (IsDropped (under old) t u)
  pub strays : IsSound old.used (loaded_over (under old) t) → new.strays ≡ old.strays
  pub alters : Alters s (loaded_over (under old) t) (loaded_over (under old) u)
