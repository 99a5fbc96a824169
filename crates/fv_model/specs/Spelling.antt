-- How names are spelled, and their order.
use Rattle.std.specs.Prelude.{◌≡◌, ℕ, ◌-◌, Bool, true, List, ◌++◌, length, take, replicate, nat_le, nat_eq, ◌&&◌, ◌||◌}
use Rattle.std.specs.List.{list_all}
use Rattle.std.specs.declared.cmp.Ordering.{Ordering}
use Rattle.std.specs.Ordering.{nat_cmp, eq_by_cmp}
use Rattle.std.specs.Cmp.Lexicographic.{slice_cmp}

-- a letter from a to z, a digit, or _
abbrev pub is_name_byte : ℕ → Bool
is_name_byte b = (nat_le 97 b && nat_le b 122) || (nat_le 48 b && nat_le b 57) || nat_eq b 95

-- a name is 1 to 64 such bytes
abbrev pub is_name : List ℕ → Bool
is_name word = nat_le 1 (length word) && nat_le (length word) 64 && list_all is_name_byte word

-- the order of names, byte by byte
abbrev pub name_cmp : List ℕ → List ℕ → Ordering
name_cmp = slice_cmp nat_cmp

abbrev pub is_same_name : List ℕ → List ℕ → Bool
is_same_name = eq_by_cmp name_cmp

-- the first `len` bytes of a field are a name, and the others are zero
pub record IsStored (bytes : List ℕ) (len : ℕ) : Type 0 where
  pub spelled : is_name (take len bytes) ≡ true
  pub within : length (take len bytes) ≡ len
  pub filled : bytes ≡ take len bytes ++ replicate (64 - length (take len bytes)) 0
