-- All that the rules on tables look at, as one value. Views of which this is equal are sound alike.
use Rattle.std.specs.Prelude.{ℕ, Bool, not, ◌&&◌, List, [], ◌∷◌, map, flat_map, Option, None, nat_lt, if◌then◌else◌}
use Rattle.std.specs.List.{range_with_len}
use Rattle.std.specs.Option.{is_some, option_map, option_map_or, option_and_then}
use Rattle.fv_codec.specs.declared.inode.InodeRecord.{InodeRecord}
use Rattle.fv_model.specs.Volumes.{Volume}
use Rattle.fv_model.specs.Space.{map_blocks}
use Rattle.fv_tables.specs.Told.{records}
use Rattle.fv_tables.specs.Reached.{Item, items}
use Rattle.fv_image.specs.Views.{Placed, Rooted, Footing, Head, View, map_kind, map_vvbn}
use Rattle.fv_image.specs.Chains.{place}
use Rattle.fv_image.specs.Volumes.{standing_of, snap_at, volume_told}

-- a pointer that a root reaches
pub record Reached : Type 0 where
  pub item : Item
  -- where its VVBN is found along the chain of bases; none where that is a hole
  pub at : Option Placed
  -- whether the volume has an entry of its own under that VVBN
  pub own : Bool

-- a root of a volume with the map slot of what it reaches, the records of its files and its pointers
pub record Root : Type 0 where
  pub map : ℕ
  pub rooted : Rooted
  pub files : List (ℕ × InodeRecord)
  pub reached : List Reached

-- a pointer that a volume's base table reaches
pub record Based : Type 0 where
  pub item : Item
  -- whether the volume has an entry of its own under that VVBN; not asked while it is being split
  pub own : Bool

pub record VolumeSeen : Type 0 where
  pub head : Head
  pub volume : Volume
  -- the active one, and then those of snapshots
  pub roots : List Root
  -- what its base table reaches; nothing without a base
  pub base : List Based

pub record Seen : Type 0 where
  pub blocks : ℕ
  -- of the format
  pub version : ℕ
  -- by slot
  pub volume : ℕ → Option VolumeSeen

-- ---- of a view

abbrev pub reached_at : View → ℕ → Item → Reached
reached_at w s e = record { item = e; at = place w s e.pointer.vvbn; own = is_some (w.entry s e.pointer.vvbn) }

unfoldable pub root_seen : View → ℕ → ℕ → Rooted → Root
root_seen w s slot r = record {
  map = slot;
  rooted = r;
  files = records (standing_of w s r);
  reached = map (reached_at w s) (items (standing_of w s r));
}

-- the roots of a volume by map slot
abbrev pub roots_of : Head → List (ℕ × Rooted)
roots_of h = (0, h.active) ∷ map (λ p. (p.slot, p.table)) h.snapshots

-- The blocks that a volume has beside what its roots reach, in a version of the format: their VVBNs, each with its kind. In version 1 they are
-- those of the maps of used slots.
abbrev pub own_blocks : ℕ → Head → List (ℕ × ℕ)
own_blocks version h = flat_map (λ (r : ℕ × Rooted). map (λ k. (map_vvbn h.span r.0 k, map_kind)) (range_with_len 0 (map_blocks h.span))) (roots_of h)

-- the root of the table that a volume stands on, which is one of its parent's
abbrev pub base_root : View → Footing → Option Rooted
base_root w b = option_and_then (λ g. option_map (λ p. p.table) (snap_at g b.slot)) (w.head b.parent)

abbrev pub based_at : View → ℕ → Bool → Item → Based
based_at w s splitting e = record { item = e; own = not splitting && is_some (w.entry s e.pointer.vvbn) }

abbrev pub based_on : View → ℕ → Footing → Rooted → List Based
based_on w s b r = map (based_at w s b.splitting) (items (standing_of w b.parent r))

unfoldable pub base_seen : View → ℕ → Option Footing → List Based
base_seen w s base = option_map_or (λ b. option_map_or (based_on w s b) (base_root w b) []) base []

unfoldable pub volume_seen : View → ℕ → Head → VolumeSeen
volume_seen w s h = record {
  head = h;
  volume = volume_told w s h;
  roots = map (λ r. root_seen w s r.0 r.1) (roots_of h);
  base = base_seen w s h.base;
}

-- the head of a slot, of which there are 64
abbrev pub head_at : View → ℕ → Option Head
head_at w s = if nat_lt s 64 then w.head s else None

unfoldable pub seen : View → Seen
seen w = record { blocks = w.blocks; version = w.version; volume = λ s. option_map (volume_seen w s) (head_at w s) }
