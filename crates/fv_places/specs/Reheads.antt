-- A volume gets another head: roots that are the same but for hints, another base, another word on whether its places are known. No entry
-- changes. An example: once all nodes of a volume are clean, `clean` fills in the pointers of its label and says that all places are
-- known; its tables stay, so the machine changes in that one word.
use Rattle.std.specs.Prelude.{◌≡◌, ◌≢◌, ℕ, Bool, true, List, [], ◌∷◌, Option, Some}
use Rattle.fv_tables.specs.Reached.{is_listed}
use Rattle.fv_tables.specs.Alike.{hintless}
use Rattle.fv_image.specs.Views.{Rooted, Snap, Footing, Head, View}
use Rattle.fv_image.specs.Chains.{place}
use Rattle.fv_image.specs.Staying.{own_items}
use Rattle.fv_image.specs.Moves.{StandsAlone}

-- a root that is the same but for its hint
pub record IsSameRoot (r q : Rooted) : Type 0 where
  pub levels : q.levels ≡ r.levels
  pub root : hintless q.root ≡ hintless r.root

-- the same snapshots, one by one, but for the hints of their roots
abbrev pub AreSameSnaps : List Snap → List Snap → Type 0
AreSameSnaps [] [] = Unit {0}
AreSameSnaps [] (q ∷ qs) = ⊥
AreSameSnaps (p ∷ ps) [] = ⊥
AreSameSnaps (p ∷ ps) (q ∷ qs) = (q.slot ≡ p.slot) × ((q.name ≡ p.name) × (IsSameRoot p.table q.table × AreSameSnaps ps qs))

-- a head with these in place of its own
abbrev pub headed : Head → Rooted → List Snap → Option Footing → Bool → Head
headed h active snapshots base known = record h { active = active; snapshots = snapshots; base = base; known = known }

-- The volume of slot s has them in the second view; all else is as in the first, and no volume stands on it.
pub record Reheads (w u : View) (s : ℕ) (h : Head) (active : Rooted) (snapshots : List Snap) (base : Option Footing)
    (known : Bool) : Type 0 where
  pub blocks : u.blocks ≡ w.blocks
  pub version : u.version ≡ w.version
  pub was : w.head s ≡ Some h
  pub now : u.head s ≡ Some (headed h active snapshots base known)
  pub others : (k : ℕ) → k ≢ s → u.head k ≡ w.head k
  pub entries : (k v : ℕ) → u.entry k v ≡ w.entry k v
  pub alone : StandsAlone w s
  pub same_active : IsSameRoot h.active active
  pub same_snapshots : AreSameSnaps h.snapshots snapshots
  -- what its roots reach is found where it was, also where it no longer has a base
  pub finds : (v : ℕ) → is_listed (own_items w s h) v ≡ true → place u s v ≡ place w s v
