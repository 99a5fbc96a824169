-- Tables of files, and the four changes of a table.
use Rattle.std.specs.Prelude.{ℕ, ◌+◌, ◌/◌, max, List, [], ◌∷◌, map, filter, find, nat_lt, nat_le, Option}
use Rattle.std.specs.List.{prefix_len, range_with_len}
use Rattle.std.specs.Ordering.{nat_cmp}
use Rattle.std.specs.FinMap as fin
use Rattle.fv_model.specs.Spelling.{is_same_name}
use Rattle.fv_model.specs.Trees.{Tree, least_levels, written, erased}

-- a file: its cells are the indexes of `blocks`, and their stamps and those of their marks stand in `tree`
pub record File : Type 0 where
  pub name : List ℕ
  pub length : ℕ
  pub reserve : ℕ
  pub blocks : fin.FinMap nat_cmp (List ℕ)
  pub tree : Tree

-- files by number, with distinct names; and the inode file, which has a cell for each 16 numbers of which one is used
pub record Table : Type 0 where
  pub files : fin.FinMap nat_cmp File
  pub inode : Tree

abbrev pub empty_table : Table
empty_table = record { files = fin.empty; inode = record { levels = 0; stamps = fin.empty } }

-- the inode file's cell for a file number
abbrev pub inode_cell : ℕ → ℕ
inode_cell n = n / 16

-- the number of a new file: the least that is free
abbrev pub free_number : Table → ℕ
free_number t = prefix_len (λ n. fin.contains_key t.files n) (range_with_len 0 (fin.len t.files + 1))

-- the file of a name, with its number
abbrev pub file_named : Table → List ℕ → Option (ℕ × File)
file_named t name = find (λ e. is_same_name e.1.name name) (fin.entries t.files)

-- a change with the stamp s makes a file of length 0
unfoldable pub new : Table → List ℕ → ℕ → ℕ → Table
new t name reserve s = record {
  files = fin.insert t.files (free_number t) (record {
    name = name;
    length = 0;
    reserve = reserve;
    blocks = fin.empty;
    tree = record { levels = least_levels reserve; stamps = fin.empty };
  });
  inode = written s (inode_cell (free_number t)) t.inode;
}

-- the file after cell i was written; it reaches at least just past the cell
abbrev pub file_put : File → ℕ → List ℕ → ℕ → File
file_put f i block s = record {
  name = f.name;
  length = max f.length (i + 1);
  reserve = f.reserve;
  blocks = fin.insert f.blocks i block;
  tree = written s i f.tree;
}

-- a change with the stamp s writes cell i of file f, whose number is n
unfoldable pub put : Table → ℕ → File → ℕ → List ℕ → ℕ → Table
put t n f i block s = record {
  files = fin.insert t.files n (file_put f i block s);
  inode = written s (inode_cell n) t.inode;
}

-- the file after its cells from `length` on were removed
abbrev pub file_cut : File → ℕ → ℕ → File
file_cut f length s = let left = fin.retain_keys f.blocks (λ i. nat_lt i length) in record {
  name = f.name;
  length = length;
  reserve = f.reserve;
  blocks = left;
  tree = erased s (least_levels f.reserve) (filter (λ i. nat_le length i) (fin.keys f.blocks)) (fin.keys left) f.tree;
}

-- a change with the stamp s cuts file f, whose number is n, to a length; its inode cell is stamped even where no cell goes
unfoldable pub cut : Table → ℕ → File → ℕ → ℕ → Table
cut t n f length s = record {
  files = fin.insert t.files n (file_cut f length s);
  inode = written s (inode_cell n) t.inode;
}

-- a change with the stamp s removes file n; its inode cell stays, stamped, while another file is there
unfoldable pub rm : Table → ℕ → ℕ → Table
rm t n s = let left = fin.remove t.files n in record {
  files = left;
  inode = erased s 0 (inode_cell n ∷ []) (map inode_cell (fin.keys left)) t.inode;
}
