-- What a cut and a removal take of a well-formed table, and what of that stays charged.
--
-- An example: a snapshot has a file of two blocks in an inode block of its own, whose root leads to a node over both. A cut to one block takes
-- one place, and three blocks stay charged: the block that goes, the node and the inode block. So the volume needs two blocks more.
use Rattle.std.specs.Prelude.{◌≡◌, ℕ, ◌+◌, nat_le, Bool, Option, Some, None}
use Rattle.fv_model.specs.Tables.{File, inode_cell}
use Rattle.fv_laws.specs.WellFormed.{IsWellTable}
use Rattle.fv_laws.specs.Positions.{taken_by_cut, taken_by_rm}
use Rattle.fv_tables.specs.Told.{Standing, file_in, table_told}
use Rattle.fv_tree.specs.declared.taken.Taken.{Taken}
use Rattle.fv_tree.specs.Flushing.{Loaded}
use Rattle.fv_tree.specs.Taking.{staying_with}
use Rattle.fv_files.specs.Apart.{Trees}
use Rattle.fv_files.specs.Sharing.{staying_in, staying_by_removal}

-- the blocks of a tree that stay charged when these cells go, where there is one
abbrev pub staying_where : Option Loaded → (ℕ → Bool) → (ℕ → Bool) → ℕ
staying_where None shared goes = 0
staying_where (Some s) shared goes = staying_with s shared goes

-- by a cut of file n to a length: over the cells that go, and over its cell of the inode file
abbrev pub staying_by_cut : Trees → (ℕ → Bool) → ℕ → ℕ → ℕ
staying_by_cut x shared n length = staying_where (x (Some n)) shared (nat_le length) + staying_in (x None) shared (inode_cell n)

-- A cut of file n to a length takes so much of a table, if that is well-formed.
pub record CutTakes (x : Standing) (trees : Trees) (shared : ℕ → Bool) (n length : ℕ) (taken : Taken) : Type 0 where
  pub gone : (now : ℕ) (f : File) → IsWellTable now (table_told x) → file_in x n ≡ Some f → taken.gone ≡ taken_by_cut f length
  pub staying : (now : ℕ) → IsWellTable now (table_told x) → taken.staying ≡ staying_by_cut trees shared n length

-- and so the removal of file n
pub record RemovalTakes (x : Standing) (trees : Trees) (shared : ℕ → Bool) (n : ℕ) (taken : Taken) : Type 0 where
  pub gone : (now : ℕ) (f : File) → IsWellTable now (table_told x) → file_in x n ≡ Some f → taken.gone ≡ taken_by_rm (table_told x) n f
  pub staying : (now : ℕ) → IsWellTable now (table_told x) → taken.staying ≡ staying_by_removal trees shared n
