-- The ids of what is reached: an item is the cell or the mark at its position, with the stamp of its pointer.
use Rattle.std.specs.Prelude.{ℕ, Bool, not, ◌&&◌, List, map, ◌==◌, if◌then◌else◌}
use Rattle.std.specs.FinSet as set
use Rattle.fv_codec.specs.Blocks.{greatest_word}
use Rattle.fv_model.specs.Places.{Owner, InodeFile, OfFile, placed, Id, Ids}
use Rattle.fv_tables.specs.Reached.{Item, is_listed}

-- the owner that a number in a node stands for: a file's number, or the inode file
abbrev pub owner_of : ℕ → Owner
owner_of n = if n == greatest_word then InodeFile else OfFile n

abbrev pub id_of : Item → Id
id_of e = (placed (owner_of e.owner) (e.level, e.place), e.pointer.stamp)

-- the ids of a list of items
abbrev pub ids_in : List Item → Ids
ids_in es = set.from_list (map id_of es)

-- whether a VVBN is one of some items and not one of others
abbrev pub is_charged : List Item → List Item → ℕ → Bool
is_charged es out v = is_listed es v && not (is_listed out v)
