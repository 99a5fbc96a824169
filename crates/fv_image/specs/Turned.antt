-- What a snapshot that is made, removed or restored does to a view: one volume has another active table or other snapshots, and no entry
-- changes.
use Rattle.std.specs.Prelude.{◌≡◌, ◌≢◌, ℕ, not, nat_lt, List, [], ◌∷◌, filter, Some, if◌then◌else◌}
use Rattle.fv_model.specs.Spelling.{is_same_name}
use Rattle.fv_image.specs.Views.{Rooted, Snap, Footing, Head, View}
use Rattle.fv_image.specs.Volumes.{snap_at}

-- a head with another active table and other snapshots
abbrev pub turned : Head → Rooted → List Snap → Head
turned h active snapshots = record h { active = active; snapshots = snapshots }

-- The volume of a slot has these in the second view; all else is as in the first.
pub record Turns (w u : View) (s : ℕ) (h : Head) (active : Rooted) (snapshots : List Snap) : Type 0 where
  pub blocks : u.blocks ≡ w.blocks
  pub version : u.version ≡ w.version
  pub was : w.head s ≡ Some h
  pub now : u.head s ≡ Some (turned h active snapshots)
  pub others : (k : ℕ) → k ≢ s → u.head k ≡ w.head k
  pub entries : (k v : ℕ) → u.entry k v ≡ w.entry k v

-- each clone of the volume finds its snapshot still
pub record KeepsBases (w : View) (s : ℕ) (h : Head) (snapshots : List Snap) : Type 0 where
  pub each : (k : ℕ) (g : Head) (b : Footing) → w.head k ≡ Some g → g.base ≡ Some b → b.parent ≡ s → snap_at (turned h h.active snapshots) b.slot ≡ snap_at h b.slot

-- ---- lists of snapshots, which rise by their slots

-- with one more, before the first of a greater slot
unfoldable pub added : Snap → List Snap → List Snap
added p [] = p ∷ []
added p (q ∷ qs) = if nat_lt p.slot q.slot then p ∷ (q ∷ qs) else q ∷ added p qs

-- without that of a name
abbrev pub without : List ℕ → List Snap → List Snap
without name ps = filter (λ p. not (is_same_name p.name name)) ps
