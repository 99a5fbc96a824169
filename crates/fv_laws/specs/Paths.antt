-- The places that a change of a table stamps.
use Rattle.std.specs.Prelude.{ℕ, ◌+◌, ◌*◌, List, ◌++◌, length, map, filter, flat_map, nat_le, sum_by}
use Rattle.std.specs.FinMap as fin
use Rattle.std.specs.FinSet as set
use Rattle.fv_model.specs.Trees.{spots_over, written_spots}
use Rattle.fv_model.specs.Tables.{File, Table, inode_cell, free_number}
use Rattle.fv_model.specs.Places.{InodeFile, OfFile, Place, placed, ids_of}
use Rattle.fv_model.specs.Volumes.{Volume}
use Rattle.fv_model.specs.Space.{map_blocks}

-- the cell of file n in the inode file, and the marks over it
abbrev pub inode_path : Table → ℕ → List Place
inode_path t n = map (placed InodeFile) (written_spots t.inode (inode_cell n))

abbrev pub new_path : Table → List Place
new_path t = inode_path t (free_number t)

-- and cell i of file n, with the marks over it and those that a growth of levels makes
abbrev pub put_path : Table → ℕ → File → ℕ → List Place
put_path t n f i = map (placed (OfFile n)) (written_spots f.tree i) ++ inode_path t n

-- and the cells that go, with the marks over them
abbrev pub cut_path : Table → ℕ → File → ℕ → List Place
cut_path t n f length = map (placed (OfFile n)) (flat_map (spots_over f.tree.levels) (filter (λ i. nat_le length i) (fin.keys f.blocks))) ++ inode_path t n

abbrev pub rm_path : Table → ℕ → List Place
rm_path t n = map (placed InodeFile) (spots_over t.inode.levels (inode_cell n))

-- the ids of all tables of a volume, counted one table after another, and its maps
abbrev pub ids_and_maps : Volume → ℕ
ids_and_maps x =
    set.len (ids_of x.active) + sum_by (λ t. set.len (ids_of t)) (fin.values x.snapshots) + map_blocks x.span * fin.len x.snapshots
