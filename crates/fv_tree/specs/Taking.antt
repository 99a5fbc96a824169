-- What a removal of cells takes of a tree, by its pointers: the places that go, and the blocks that stay charged though they go or are replaced.
--
-- An example: a tree of one level has the cells 0, 1 and 2. With the cells from 1 on two places go: both cells. The mark over them stays,
-- but gets another stamp. So three blocks stay charged, where all are shared. With all cells from 0 on the mark goes, too: four places.
use Rattle.std.specs.Prelude.{◌≡◌, ℕ, ◌+◌, ◌-◌, ◌*◌, ◌^◌, ◌<◌, Bool, not, ◌&&◌, ◌==◌, nat_le, nat_eq, count_by, sum_by}
use Rattle.std.specs.List.{list_any, range_with_len}
use Rattle.fv_model.specs.Trees.{fan}
use Rattle.fv_tree.specs.declared.taken.Taken.{Taken}
use Rattle.fv_tree.specs.declared.taken.Part.{Part}
use Rattle.fv_tree.specs.declared.taken.Going.{Going}
use Rattle.fv_tree.specs.declared.taken.Going.TheVariants.{From, One}
use Rattle.fv_tree.specs.Spelled.{Rooted, pointer_at}
use Rattle.fv_tree.specs.Flushing.{Loaded}
use Rattle.fv_tree.specs.Counting.{is_staying}

-- the cells that go
abbrev pub goes_by : Going → ℕ → Bool
goes_by (From from) = nat_le from
goes_by (One index) = nat_eq index

-- whether one of these cells stands in the range of a place
unfoldable pub has_cell : Rooted → (ℕ → Bool) → ℕ → ℕ → Bool
has_cell t cells level place = list_any (λ i. not ((pointer_at t 0 i).stamp == 0) && cells i) (range_with_len (place * fan ^ level) (fan ^ level))

-- whether a place goes with these cells: its range has one of them, and no other
abbrev pub is_gone : Rooted → (ℕ → Bool) → ℕ → ℕ → Bool
is_gone t goes level place = has_cell t goes level place && not (has_cell t (λ i. not (goes i)) level place)

-- whether the block of a place stays charged though the place goes with these cells, or gets another stamp
abbrev pub is_staying_with : Loaded → (ℕ → Bool) → (ℕ → Bool) → ℕ → ℕ → Bool
is_staying_with s shared goes level place = has_cell s.tree goes level place && is_staying s shared level place

-- how many places under a place pass a test, itself among them: of each level those of its range
unfoldable pub counted_under : (ℕ → ℕ → Bool) → ℕ → ℕ → ℕ
counted_under test level place =
    sum_by (λ k. count_by (test k) (range_with_len (place * fan ^ (level - k)) (fan ^ (level - k)))) (range_with_len 0 (level + 1))

-- how many places of a tree go with these cells
abbrev pub gone_with : Rooted → (ℕ → Bool) → ℕ
gone_with t goes = counted_under (is_gone t goes) t.levels 0

-- how many blocks of a tree stay charged when these cells go
abbrev pub staying_with : Loaded → (ℕ → Bool) → (ℕ → Bool) → ℕ
staying_with s shared goes = counted_under (is_staying_with s shared goes) s.tree.levels 0

-- What a removal of these cells takes of a tree, of which no mark lies over holes alone.
pub record IsTaken (s : Loaded) (shared goes : ℕ → Bool) (taken : Taken) : Type 0 where
  pub gone : taken.gone ≡ gone_with s.tree goes
  pub staying : taken.staying ≡ staying_with s shared goes

-- the same of a place and all places under it, and which cells its range has
pub record IsPart (s : Loaded) (shared goes : ℕ → Bool) (level place : ℕ) (part : Part) : Type 0 where
  pub gone : part.taken.gone ≡ counted_under (is_gone s.tree goes) level place
  pub staying : part.taken.staying ≡ counted_under (is_staying_with s shared goes) level place
  pub some : part.some ≡ has_cell s.tree goes level place
  pub left : part.left ≡ has_cell s.tree (λ i. not (goes i)) level place

-- the same of so many places under a place, the first ones
pub record IsSum (s : Loaded) (shared goes : ℕ → Bool) (level place count : ℕ) (part : Part) : Type 0 where
  pub gone : part.taken.gone ≡ sum_by (counted_under (is_gone s.tree goes) (level - 1)) (range_with_len (place * fan) count)
  pub staying : part.taken.staying ≡ sum_by (counted_under (is_staying_with s shared goes) (level - 1)) (range_with_len (place * fan) count)
  pub some : part.some ≡ list_any (has_cell s.tree goes (level - 1)) (range_with_len (place * fan) count)
  pub left : part.left ≡ list_any (has_cell s.tree (λ i. not (goes i)) (level - 1)) (range_with_len (place * fan) count)

-- both numbers of what is taken lie below a bound
pub record AreBelow (bound : ℕ) (taken : Taken) : Type 0 where
  pub gone : taken.gone < bound
  pub staying : taken.staying < bound
