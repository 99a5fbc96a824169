-- A mirror: a new volume gets a copy of each block that a root of another reaches, under the same VVBN, with each place in it unknown. An
-- example: a snapshot has its root at VVBN 40, which leads to the data under 41 and 42. The mirror has entries of its own under 40, 41 and
-- 42, and its label's pointer leads to 40, place unknown.
use Rattle.std.specs.Prelude.{◌≡◌, ◌<◌, ℕ, true, Some, None}
use Rattle.fv_tables.specs.Reached.{Item, items, is_listed}
use Rattle.fv_tables.specs.Alike.{hintless, SaysAlike}
use Rattle.fv_image.specs.Views.{Placed, Rooted, Head, View}
use Rattle.fv_image.specs.Chains.{place}
use Rattle.fv_image.specs.Volumes.{standing_of}
use Rattle.fv_image.specs.BlockRules.{is_fine}
use Rattle.fv_image.specs.ReachRules.{shape_for, is_of_position}
use Rattle.fv_places.specs.Inside.{IsBlank}

-- The block under a VVBN of the volume of slot s is copied to the volume of slot t.
pub record Copies (w : View) (s : ℕ) (u : View) (t : ℕ) (v : ℕ) : Type 0 where
  pub from : Placed
  pub copy : Placed
  pub there : place w s v ≡ Some from
  pub here : u.entry t v ≡ Some copy
  pub kind : copy.kind ≡ from.kind
  pub says : SaysAlike from.kind from.block copy.block
  pub blank : IsBlank copy

-- The volume of slot t has the table of a root of the volume of slot s, block by block.
pub record Mirrors (w u : View) (s t : ℕ) (r : Rooted) (g : Head) : Type 0 where
  pub head : u.head t ≡ Some g
  pub base : g.base ≡ None
  pub levels : g.active.levels ≡ r.levels
  pub root : hintless g.active.root ≡ hintless r.root
  pub start : g.active.root.pvbn ≡ 0
  pub wide : (v : ℕ) → is_listed (items (standing_of w s r)) v ≡ true → v < g.span
  pub copies : (v : ℕ) → is_listed (items (standing_of w s r)) v ≡ true → Copies w s u t v

-- The copies have the shapes and positions of what they copy.
pub record KeepsForms (w : View) (s : ℕ) (u : View) (t : ℕ) : Type 0 where
  pub shapes : (e : Item) (v : ℕ) (c : Copies w s u t v) → is_fine (shape_for e c.from.block) ≡ true
      → is_fine (shape_for e c.copy.block) ≡ true
  pub positions : (e : Item) (v : ℕ) (c : Copies w s u t v) → is_of_position e c.from.block ≡ true → is_of_position e c.copy.block ≡ true
