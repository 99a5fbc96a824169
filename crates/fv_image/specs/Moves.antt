-- When a block may get another place under its VVBN, and what is then the same.
use Rattle.std.specs.Prelude.{◌≡◌, ◌≢◌, ◌⊎◌, ◌<◌, ◌≤◌, ℕ, zero, suc, Bool, true, false, not, ◌&&◌, ◌||◌, Some, ◌==◌}
use Rattle.std.specs.List.{list_all}
use Rattle.std.specs.Option.{is_none, option_map_or}
use Rattle.fv_codec.specs.declared.inode.InodeRecord.{InodeRecord}
use Rattle.fv_laws.proofs.Lists.{In}
use Rattle.fv_tables.specs.Told.{file_at}
use Rattle.fv_tables.specs.Reached.{Item, items}
use Rattle.fv_tables.specs.Alike.{SaysAlike}
use Rattle.fv_image.specs.Views.{Placed, Rooted, Footing, Head, View, kind_at}
use Rattle.fv_image.specs.Volumes.{standing_of}
use Rattle.fv_image.specs.Seen.{roots_of}
use Rattle.fv_image.specs.ReachRules.{kind_of}
use Rattle.fv_image.specs.Chains.{parent_in, span_at, place}

-- whether a volume, asked for a VVBN, comes to the entry of slot s: its own, or along its parents where they have none
unfoldable pub finds_in : View → ℕ → ℕ → ℕ → ℕ → Bool
finds_in w zero k s v = k == s
finds_in w (suc n) k s v = (k == s) || (is_none (w.entry k v) && option_map_or (λ p. finds_in w n p s v) (parent_in (w.head k)) false)

-- every pointer of a volume to a VVBN is unknown, in each of its tables
abbrev pub LeadsUnknownTo : View → ℕ → Head → ℕ → Type 0
LeadsUnknownTo w s h v = (m : ℕ) (r : Rooted) → In {X = ℕ × Rooted} (m, r) (roots_of h)
    → list_all (λ (e : Item). not (e.pointer.vvbn == v) || (e.pointer.pvbn == 0)) (items (standing_of w s r)) ≡ true

-- The moving rule: the block of a volume may get another place under its VVBN where every pointer to it is unknown, in this volume and in
-- all clones that find it here.
abbrev pub MayMove : View → ℕ → ℕ → Type 0
MayMove w s v = (k : ℕ) (h : Head) → w.head k ≡ Some h → finds_in w 64 k s v ≡ true → LeadsUnknownTo w k h v

-- no volume stands on that of a slot
abbrev pub StandsAlone : View → ℕ → Type 0
StandsAlone w s = (k : ℕ) (g : Head) (b : Footing) → w.head k ≡ Some g → g.base ≡ Some b → b.parent ≢ s

-- The block that VVBN v of the volume of slot s was found at lies elsewhere, in an entry of the volume's own. It says the same but for
-- hints. No other entry changes.
pub record Moves (w u : View) (s v : ℕ) (was now : Placed) : Type 0 where
  pub blocks : u.blocks ≡ w.blocks
  pub version : u.version ≡ w.version
  pub heads : (k : ℕ) → u.head k ≡ w.head k
  pub alone : StandsAlone w s
  pub low : v < span_at w s
  pub there : place w s v ≡ Some was
  pub here : u.entry s v ≡ Some now
  pub others : (k q : ℕ) → (k ≢ s) ⊎ (q ≢ v) → u.entry k q ≡ w.entry k q
  pub kind : now.kind ≡ was.kind
  pub says : SaysAlike was.kind was.block now.block

-- What soundness gives of one root of a volume: its levels have their bounds, and each block has the kind of its position.
pub record FitsRoot (w : View) (s : ℕ) (r : Rooted) : Type 0 where
  pub levels : r.levels ≤ 2
  pub files : (k : ℕ) (f : InodeRecord) → file_at (standing_of w s r).inode k ≡ Some f → f.levels ≤ 3
  pub kinds : list_all (λ (e : Item). kind_at (place w s e.pointer.vvbn) == kind_of e) (items (standing_of w s r)) ≡ true

-- and of all of them
abbrev pub FitsRoots : View → ℕ → Head → Type 0
FitsRoots w s h = (m : ℕ) (r : Rooted) → In {X = ℕ × Rooted} (m, r) (roots_of h) → FitsRoot w s r
