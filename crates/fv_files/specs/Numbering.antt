-- The numbers of a table's files, as they are held in memory.
use Rattle.std.specs.Prelude.{◌≡◌, ◌<◌, ℕ, Bool, cond, not, nat_eq, nat_lt, ◌&&◌, ◌||◌, List, Option, Some, None, is_some, IfSome}
use Rattle.std.specs.List.{list_any}
use Rattle.std.specs.Ordering.{nat_cmp}
use Rattle.std.specs.BTreeMap as maps
use Rattle.std.specs.BTreeSet as sets
use Rattle.std.specs.FinMap as fin
use Rattle.fv_model.specs.Numbers.{most_files}
use Rattle.fv_model.specs.Spelling.{is_same_name, name_cmp}
use Rattle.fv_model.specs.Tables.{File, Table}
use Rattle.fv_files.specs.declared.taken.TakenNumbers.{TakenNumbers}
use Rattle.fv_files.specs.declared.numbers.FileNumbers.{FileNumbers}

-- whether a number is taken: it is below the top and not among the free ones
abbrev pub is_taken : TakenNumbers → ℕ → Bool
is_taken t n = nat_lt n t.top && not (sets.contains nat_cmp t.free n)

-- whether a map has a number as a value
abbrev pub has_value : maps.BTreeMap (List ℕ) ℕ → ℕ → Bool
has_value m n = list_any (nat_eq n) (maps.values m)

-- the number of a name
abbrev pub number_of : FileNumbers → List ℕ → Option ℕ
number_of m name = maps.get name_cmp m.by_name name

-- the file of a number has this name
pub record HasName (t : Table) (n : ℕ) (name : List ℕ) : Type 0 where
  pub file : File
  pub there : fin.get t.files n ≡ Some file
  pub named : file.name ≡ name

-- The numbers are those of the files of a table. A name has a number exactly where the file of that number has the name, so no two files
-- have one name; and a number is taken exactly where a file has it.
pub record AreNumbersOf (m : FileNumbers) (t : Table) : Type 0 where
  pub found : (name : List ℕ) (n : ℕ) → number_of m name ≡ Some n → HasName t n name
  pub all : (name : List ℕ) (n : ℕ) → HasName t n name → number_of m name ≡ Some n
  pub taken : (n : ℕ) → n < most_files → is_taken m.taken n ≡ is_some (fin.get t.files n)

-- So it is of those in memory, where there are any.
abbrev pub AreNumbersIf : Option FileNumbers → Table → Type 0
AreNumbersIf numbers t = IfSome numbers (λ m. AreNumbersOf m t)

-- a name has a number now, which is taken; all else is as before
pub record IsNamed (m n : FileNumbers) (name : List ℕ) (number : ℕ) : Type 0 where
  pub names : (q : List ℕ) → number_of n q ≡ cond (is_same_name name q) (Some number) (number_of m q)
  pub taken : (k : ℕ) → k < most_files → is_taken n.taken k ≡ (nat_eq k number || is_taken m.taken k)

-- a name has none, and a number isn't taken any more; all else is as before
pub record IsUnnamed (m n : FileNumbers) (name : List ℕ) (number : ℕ) : Type 0 where
  pub names : (q : List ℕ) → number_of n q ≡ cond (is_same_name name q) None (number_of m q)
  pub taken : (k : ℕ) → is_taken n.taken k ≡ (not (nat_eq k number) && is_taken m.taken k)
