-- The files of an inode file by their names.
use Rattle.std.specs.Prelude.{ℕ, ◌*◌, ◌^◌, List, map}
use Rattle.std.specs.List.{range_with_len}
use Rattle.std.specs.BTreeMap as tree
use Rattle.std.specs.FinMap as fin
use Rattle.fv_codec.specs.declared.inode.InodeRecord.{InodeRecord}
use Rattle.fv_model.specs.Spelling.{name_cmp}
use Rattle.fv_model.specs.Trees.{fan}
use Rattle.fv_tables.specs.Spelled.{Rooted}
use Rattle.fv_tables.specs.Told.{listed, records_each, file_at}
use Rattle.fv_inode.specs.Files.{name_of}

-- numbers by names
abbrev pub Numbers : Type 0
Numbers = fin.FinMap name_cmp ℕ

-- a map in memory as a finite map
abbrev pub numbers_in : tree.BTreeMap (List ℕ) ℕ → Numbers
numbers_in m = fin.from_entries m.entries

-- the numbers of so many numbers' files, from one number on, by their names
unfoldable pub names_from : Rooted → ℕ → ℕ → Numbers
names_from t number count = fin.from_entries {R = name_cmp} (map (λ (e : ℕ × InodeRecord). (name_of e.1, e.0)) (listed (file_at t) (range_with_len number count)))

-- the numbers of all files by their names
abbrev pub names_told : Rooted → Numbers
names_told t = names_from t 0 (records_each * fan ^ t.levels)
