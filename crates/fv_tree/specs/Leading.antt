-- What a tree leads to, before a change and after it.
use Rattle.std.specs.Prelude.{◌≡◌, ℕ}
use Rattle.fv_tree.specs.declared.kept.Tree.{Tree}
use Rattle.fv_tree.specs.Spelled.{pointer_at}
use Rattle.fv_tree.specs.Sources.{Shown}
use Rattle.fv_tree.specs.Flushing.{Loaded, Leads, Stands, loaded}

-- What a tree leads to now it led to before, from the same place.
abbrev pub LeadsNoMore : Loaded → Loaded → Type 0
LeadsNoMore old new = (level place v : ℕ) → Leads new level place v → Leads old level place v

-- The pointers to what a tree leads to tell the places that they told before.
abbrev pub KeepsHints : Loaded → Loaded → Type 0
KeepsHints old new = (level place v : ℕ) → Leads new level place v → (pointer_at new.tree level place).pvbn ≡ (pointer_at old.tree level place).pvbn

-- A call that places and drops nothing. The tree stands on its blocks if it did, and it leads to the same blocks.
pub record Carries (old new : Shown) (t u : Tree) : Type 0 where
  pub stands : Stands old t → Stands new u
  pub leads : LeadsNoMore (loaded old t) (loaded new u)
  pub keeps : LeadsNoMore (loaded new u) (loaded old t)
  pub hints : KeepsHints (loaded old t) (loaded new u)
