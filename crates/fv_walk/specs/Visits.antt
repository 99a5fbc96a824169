-- The pointers that a walk comes to, as the definitions of walks have them.
use Rattle.std.specs.Prelude.{◌≢◌, ℕ, ◌-◌, ◌^◌, ◌<◌, ◌≤◌, Bool, not, ◌||◌, ◌==◌}
use Rattle.fv_codec.specs.Blocks.{greatest_word}
use Rattle.fv_model.specs.Trees.{fan}
use Rattle.fv_tables.specs.Reached.{Item}
use Rattle.fv_image.specs.Views.{Rooted}
use Rattle.fv_faults.specs.Walks.{root_item}
use Rattle.fv_faults.specs.Met.{Spot}
use Rattle.fv_walk.specs.declared.visit.Table.{Table}
use Rattle.fv_walk.specs.declared.visit.Visit.{Visit}

abbrev pub rooted : Table → Rooted
rooted t = record { levels = t.levels; root = t.root }

abbrev pub item_of : Visit → Item
item_of v = record { owner = v.owner; levels = v.levels; level = v.level; place = v.place; pointer = v.pointer; holder = v.holder }

abbrev pub spot_of : Visit → Spot
spot_of v = (item_of v, v.block)

abbrev pub visit_of : Spot → Visit
visit_of s = record {
  owner = s.0.owner;
  levels = s.0.levels;
  level = s.0.level;
  place = s.0.place;
  pointer = s.0.pointer;
  holder = s.0.holder;
  block = s.1;
}

abbrev pub root_visit : Rooted → ℕ → Visit
root_visit r label = visit_of (root_item r, label)

-- a node or an inode block, and not a data block
abbrev pub leads_on : Visit → Bool
leads_on v = not (v.level == 0) || (v.owner == greatest_word)

-- the level is that of a tree, and the range is one of its level
pub record IsVisit (v : Visit) : Type 0 where
  pub level : v.level ≤ 3
  pub place : v.place < fan ^ (3 - v.level)

-- a pointer under another one: a level below it, or the root of a file's tree under an inode block
pub record IsUnder (over v : Visit) : Type 0 where
  pub is : IsVisit v
  pub lower : over.level ≢ 0 → v.level < over.level
