-- What may change in a view so that its machine and its soundness stay: where a consistency point places blocks anew and lets others go.
use Rattle.std.specs.Prelude.{◌≡◌, ℕ, true, false, List, [], flat_map, Option, Some}
use Rattle.std.specs.Option.{is_some, option_map_or}
use Rattle.fv_tables.specs.Reached.{Item, items, is_listed}
use Rattle.fv_image.specs.Views.{Rooted, Footing, Head, View}
use Rattle.fv_image.specs.Volumes.{standing_of}
use Rattle.fv_image.specs.Seen.{roots_of, base_root}

-- what these roots of a volume reach
abbrev pub items_of : View → ℕ → List (ℕ × Rooted) → List Item
items_of w s rs = flat_map (λ (r : ℕ × Rooted). items (standing_of w s r.1)) rs

-- what the roots of a volume reach
abbrev pub own_items : View → ℕ → Head → List Item
own_items w s h = items_of w s (roots_of h)

-- what the base table of a volume reaches
abbrev pub base_items : View → Option Footing → List Item
base_items w base = option_map_or (λ b. option_map_or (λ r. items (standing_of w b.parent r)) (base_root w b) []) base []

-- The second view has the heads of the first, and the entries under all that roots reach. All other entries may differ, but none comes
-- under what the base table of a clone reaches, unless the clone is being split.
pub record StaysHeld (w u : View) : Type 0 where
  pub blocks : u.blocks ≡ w.blocks
  pub version : u.version ≡ w.version
  pub heads : (s : ℕ) → u.head s ≡ w.head s
  pub kept : (s : ℕ) (h : Head) (v : ℕ) → w.head s ≡ Some h → is_listed (own_items w s h) v ≡ true → u.entry s v ≡ w.entry s v
  pub based : (s : ℕ) (h : Head) (b : Footing) (v : ℕ) → w.head s ≡ Some h → h.base ≡ Some b → b.splitting ≡ false
      → is_listed (base_items w (Some b)) v ≡ true → is_some (u.entry s v) ≡ is_some (w.entry s v)
