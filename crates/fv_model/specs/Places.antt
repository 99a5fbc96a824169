-- The places of a table and their ids: what one change can tell from another.
use Rattle.std.specs.Prelude.{ℕ, suc, List, [], ◌∷◌, ◌++◌, map, flat_map}
use Rattle.std.specs.declared.cmp.Ordering.{Ordering}
use Rattle.std.specs.Ordering.{nat_cmp, on, then_cmp}
use Rattle.std.specs.Cmp.Lexicographic.{slice_cmp}
use Rattle.std.specs.FinMap as fin
use Rattle.std.specs.FinSet as set
use Rattle.fv_model.specs.Trees.{Spot, Tree}
use Rattle.fv_model.specs.Tables.{Table}

-- whose tree a place is in
pub data Owner : Type 0 where
  InodeFile : Owner
  OfFile : (number : ℕ) → Owner

-- the place of a cell (level 0) or of a mark
pub record Place : Type 0 where
  pub owner : Owner
  pub level : ℕ
  pub index : ℕ

-- the inode file comes first, and then the files by number
abbrev pub rank : Owner → ℕ
rank InodeFile = 0
rank (OfFile n) = suc n

abbrev pub numbers : Place → List ℕ
numbers p = rank p.owner ∷ p.level ∷ p.index ∷ []

abbrev pub place_cmp : Place → Place → Ordering
place_cmp = on numbers (slice_cmp nat_cmp)

abbrev pub placed : Owner → Spot → Place
placed owner spot = record { owner = owner; level = spot.0; index = spot.1 }

-- a stamp at each place where a cell or mark stands
abbrev pub Stamps : Type 0
Stamps = fin.FinMap place_cmp ℕ

abbrev pub tree_entries : Owner → Tree → List (Place × ℕ)
tree_entries owner t = map (λ e. (placed owner e.0, e.1)) (fin.entries t.stamps)

-- the stamps of all files of a table and of its inode file
unfoldable pub stamps_of : Table → Stamps
stamps_of t =
    fin.from_entries (tree_entries InodeFile t.inode ++ flat_map (λ e. tree_entries (OfFile e.0) e.1.tree) (fin.entries t.files))

-- an id is a place with the stamp that stands there: owner, level, index and stamp
abbrev pub Id : Type 0
Id = Place × ℕ

abbrev pub id_cmp : Id → Id → Ordering
id_cmp = then_cmp (on (λ (i : Id). i.0) place_cmp) (on (λ (i : Id). i.1) nat_cmp)

abbrev pub Ids : Type 0
Ids = set.FinSet id_cmp

unfoldable pub ids : Stamps → Ids
ids stamps = set.from_list (fin.entries stamps)

-- the ids of a table
abbrev pub ids_of : Table → Ids
ids_of t = ids (stamps_of t)
