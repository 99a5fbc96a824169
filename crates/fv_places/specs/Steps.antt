-- What the two steps that move a block ask for. A clean step fills in all places of a node or an inode block: of a block with the pointers
-- 7 (place unknown) and 8 (at 300) it writes 7 (at 420) and 8 (at 300) to another place. A split step gives a clone its own copy of a
-- block, or writes one of its own anew, with each place unknown: 7 and 8 (both unknown).
use Rattle.std.specs.Prelude.{◌≡◌, ◌≢◌, ℕ, Bool, true, false, Some, not, ◌||◌, ◌==◌}
use Rattle.std.specs.List.{list_all}
use Rattle.std.specs.Option.{is_some}
use Rattle.fv_codec.specs.declared.pointer.Pointer.{Pointer}
use Rattle.fv_laws.proofs.Lists.{In}
use Rattle.fv_tables.specs.Reached.{Item, items}
use Rattle.fv_image.specs.Views.{Placed, Rooted, Footing, Head, View}
use Rattle.fv_image.specs.Chains.{place}
use Rattle.fv_image.specs.Volumes.{standing_of}
use Rattle.fv_image.specs.Seen.{roots_of}
use Rattle.fv_image.specs.BlockRules.{is_fine}
use Rattle.fv_image.specs.ReachRules.{shape_for, is_hint, is_of_position}
use Rattle.fv_image.specs.HintRules.{is_unknown, is_true_hint, is_in_label}
use Rattle.fv_image.specs.Moves.{LeadsUnknownTo}
use Rattle.fv_places.specs.Inside.{StandsIn}

-- All pointers to the block are unknown, and the new one has the shape and the position that the old one had.
pub record IsLoose (w : View) (s : ℕ) (h : Head) (v : ℕ) (was now : Placed) : Type 0 where
  pub unknown : LeadsUnknownTo w s h v
  pub shapes : (e : Item) → is_fine (shape_for e was.block) ≡ true → is_fine (shape_for e now.block) ≡ true
  pub positions : (e : Item) → is_of_position e was.block ≡ true → is_of_position e now.block ≡ true

-- A clone that isn't being split moves only what it has an entry of its own for. What it shares with its base stays where it is.
abbrev pub IsOwn : View → ℕ → Head → ℕ → Type 0
IsOwn w s h v = (b : Footing) → h.base ≡ Some b → b.splitting ≡ false → is_some (w.entry s v) ≡ true

-- no pointer in the block under a VVBN is unknown
abbrev pub is_clear_under : ℕ → Item → Bool
is_clear_under v e = not (is_unknown e.pointer) || (is_in_label e || not (e.holder.vvbn == v))

-- What a clean step has done with the block: each pointer in it is known and right, and what it leads to holds no unknown one.
pub record IsFilled (w u : View) (s : ℕ) (h : Head) (now : Placed) : Type 0 where
  pub known : (q : Pointer) → StandsIn now q → q.stamp ≢ 0 → q.pvbn ≢ 0
  pub right : (q : Pointer) → StandsIn now q → q.stamp ≢ 0 → is_true_hint q (place u s q.vvbn) ≡ true
  pub ranges : (q : Pointer) → StandsIn now q → q.stamp ≢ 0 → is_hint w.blocks q.pvbn ≡ true
  pub leaf : (m : ℕ) (r : Rooted) → In {X = ℕ × Rooted} (m, r) (roots_of h) → (q : Pointer) → StandsIn now q → q.stamp ≢ 0
      → list_all (is_clear_under q.vvbn) (items (standing_of w s r)) ≡ true

-- a pointer is known, or stands in the label: what is left of a table whose nodes are all filled
abbrev pub is_known_or_label : Item → Bool
is_known_or_label e = not (is_unknown e.pointer) || is_in_label e
