-- One tree beside another: what it leads to, and what a change of one leaves of the blocks of the other.
use Rattle.std.specs.Prelude.{◌≡◌, ◌≤◌, ℕ, true, false, None, is_some}
use Rattle.std.specs.FinMap as fin
use Rattle.fv_tables.specs.Kept.{over}
use Rattle.fv_tree.specs.Spelled.{Under, Rooted}
use Rattle.fv_tree.specs.Sources.{Shown}
use Rattle.fv_tree.specs.Flushing.{Loaded, Leads}

-- what isn't in memory of a tree stands in the block to which its pointer leads
pub record IsLaid (s : Loaded) : Type 0 where
  pub nodes : (level place : ℕ) → 1 ≤ level → s.tree.nodes level place ≡ None → s.placed level place ≡ true
  pub cells : (index : ℕ) → s.tree.cells index ≡ None → s.placed 0 index ≡ true

-- the tree over other blocks
abbrev pub loaded_on : Under → Loaded → Loaded
loaded_on n s = record { tree = over n s.tree; changed = s.changed; placed = s.placed }

-- a tree of which nothing is in memory
abbrev pub unread : Rooted → Loaded
unread t = record { tree = t; changed = λ level place. false; placed = λ level place. true }

-- a tree leads to the block under this VVBN
pub record LeadsTo (s : Loaded) (v : ℕ) : Type 0 where
  pub level : ℕ
  pub place : ℕ
  pub leads : Leads s level place v

-- What a change of one tree leaves, by the VVBNs to which it led before and leads afterwards: a block that is held and wasn't one of
-- those stays, in the map and in use. Where the tree leads now it led before, or no block was held there.
pub record Spares (old new : Shown) (before after : ℕ → Type 0) : Type 0 where
  pub stays : (v : ℕ) → is_some (fin.get old.held v) ≡ true → (before v → ⊥) → (fin.get new.held v ≡ fin.get old.held v) × (new.used v ≡ old.used v)
  pub leads : (v : ℕ) → after v → (before v → ⊥) → fin.get old.held v ≡ None

-- no VVBN is one of both
abbrev pub LieApart : (ℕ → Type 0) → (ℕ → Type 0) → Type 0
LieApart one other = (v : ℕ) → one v → other v → ⊥
