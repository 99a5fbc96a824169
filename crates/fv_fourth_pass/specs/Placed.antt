-- What rule 13 says of pointers: by the VVBNs of a volume's base under which it has entries of its own.
use Rattle.std.specs.Prelude.{◌≡◌, ◌≤◌, ◌<◌, ℕ, Bool, true, false, List, length, ◌&&◌, Option, Some}
use Rattle.std.specs.Option.{is_some}
use Rattle.fv_bits.specs.Members.{is_member}
use Rattle.fv_tables.specs.Reached.{is_listed}
use Rattle.fv_image.specs.Views.{Head, View}
use Rattle.fv_image.specs.Staying.{base_items}
use Rattle.fv_fourth_pass.specs.Based.{has_entry}
use Rattle.fv_fourth_pass.specs.Used.{is_out}

-- A set has the VVBNs that the base table of a volume reaches, and none where it has no base; and words tell which of them have an entry of its own.
pub record IsBased (w : View) (s : ℕ) (h : Head) (base : Option (List Bool)) (row : List ℕ) : Type 0 where
  pub based : (v : ℕ) → is_out base v ≡ is_listed (base_items w h.base) v
  pub entries : (v : ℕ) → is_out base v ≡ true → is_some (w.entry s v) ≡ has_entry row v

-- a VVBN of the base, if there is one, that has an entry of its own
abbrev pub is_copy_in : Option (List Bool) → List ℕ → ℕ → Bool
is_copy_in base row v = is_out base v && has_entry row v

-- a set has these
abbrev pub HasCopies : Option (List Bool) → List ℕ → List Bool → Type 0
HasCopies base row set = (v : ℕ) → is_member set v ≡ is_copy_in base row v

-- of the numbers below one, it has the copies, and no others
pub record HasCopiesTo (base : List Bool) (row : List ℕ) (bits : List Bool) (n : ℕ) : Type 0 where
  pub size : length bits ≡ length base
  pub low : (v : ℕ) → v < n → is_member bits v ≡ is_copy_in (Some base) row v
  pub rest : (v : ℕ) → n ≤ v → is_member bits v ≡ false
