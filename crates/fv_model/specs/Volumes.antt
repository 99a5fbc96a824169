-- Volumes: what each of them holds.
use Rattle.std.specs.Prelude.{ℕ, Bool, List, Option}
use Rattle.std.specs.FinMap as fin
use Rattle.fv_model.specs.declared.commands.Kind.{Kind}
use Rattle.fv_model.specs.Spelling.{name_cmp}
use Rattle.fv_model.specs.Tables.{Table}

-- what a clone stands on: a snapshot of its parent, with that snapshot's table, and whether it is being split from it
pub record Base : Type 0 where
  pub parent : List ℕ
  pub snapshot : List ℕ
  pub table : Table
  pub splitting : Bool

pub record Volume : Type 0 where
  pub kind : Kind
  pub size : ℕ
  -- the greatest size that it can be given: twice its first size
  pub most : ℕ
  -- the numbers that its own blocks can have
  pub span : ℕ
  -- how many changes there were: the stamp of the last one
  pub now : ℕ
  pub active : Table
  pub snapshots : fin.FinMap name_cmp Table
  pub base : Option Base
  -- whether every place is known
  pub known : Bool
