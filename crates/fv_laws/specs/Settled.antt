-- Whether the id at a place stays charged, or wasn't, when a change replaces or removes it; and how many do over a cell.
use Rattle.std.specs.Prelude.{ℕ, ◌+◌, ◌-◌, ◌/◌, ◌^◌, Bool, false, ◌&&◌, count_by, sum_by, List}
use Rattle.std.specs.List.{range_with_len}
use Rattle.std.specs.Option.{option_map_or}
use Rattle.std.specs.FinMap as fin
use Rattle.std.specs.FinSet as set
use Rattle.fv_model.specs.Trees.{fan, holds_one}
use Rattle.fv_model.specs.Places.{Owner, placed, Place, stamps_of}
use Rattle.fv_model.specs.Volumes.{Volume}
use Rattle.fv_laws.specs.Positions.{settled_ids}

-- a snapshot, or a base that isn't charged, has the id that stands at a place
abbrev pub is_settled : Volume → Place → Bool
is_settled x p = option_map_or (λ s. set.contains (settled_ids x) (p, s)) (fin.get (stamps_of x.active) p) false

-- how many do of a cell and the marks over it, up to a level
abbrev pub settled_over : Volume → Owner → ℕ → ℕ → ℕ
settled_over x o levels i = count_by (λ k. is_settled x (placed o (k, i / fan ^ k))) (range_with_len 0 (levels + 1))

-- how many do of all places of a tree of so many levels
abbrev pub settled_all : Volume → Owner → ℕ → ℕ
settled_all x o levels = sum_by (λ k. count_by (λ p. is_settled x (placed o (k, p))) (range_with_len 0 (fan ^ (levels - k)))) (range_with_len 0 (levels + 1))

-- how many do of the places over these cells, in a tree of so many levels
abbrev pub settled_with : Volume → Owner → ℕ → List ℕ → ℕ
settled_with x o levels cells =
    sum_by (λ k. count_by (λ p. holds_one cells (k, p) && is_settled x (placed o (k, p))) (range_with_len 0 (fan ^ (levels - k)))) (range_with_len 0 (levels + 1))
