-- Where a cell is read.
use Rattle.std.specs.Prelude.{ℕ, cond, is_some}
use Rattle.fv_tree.specs.Spelled.{Rooted, pointer_at}
use Rattle.fv_tree.specs.Sources.{Shown}

-- a cell in memory is read at 0, and another where a load of its pointer reads
abbrev pub cell_read_at : Rooted → Shown → ℕ → ℕ
cell_read_at t source index = cond (is_some (t.cells index)) 0 (source.read_at (pointer_at t 0 index))
