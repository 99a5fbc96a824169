-- What a volume with a base has under the VVBNs that its base table reaches, and what it rests on, by sets of VVBNs and the words of its entries.
use Rattle.std.specs.Prelude.{◌≡◌, ◌<◌, ◌/◌, ℕ, Bool, not, ◌&&◌, List, count_by, get_or, Option, Some, None, ◌==◌}
use Rattle.std.specs.List.{range_with_len}
use Rattle.std.specs.Option.{is_none, is_some}
use Rattle.fv_bits.specs.Members.{is_member}
use Rattle.fv_tables.specs.Reached.{is_listed}
use Rattle.fv_image.specs.Views.{Head, View}
use Rattle.fv_image.specs.Staying.{own_items, base_items}
use Rattle.fv_fourth_pass.specs.Used.{is_out}

-- whether a word is one of an entry, and not of a hole
abbrev pub has_entry : List ℕ → ℕ → Bool
has_entry row v = not (get_or row v 0 / 16777216 == 0)

-- Sets have the VVBNs that the roots of a volume reach, and those that its base table reaches, where it has a base; and words tell which VVBNs have
-- an entry of its own.
pub record IsOver (w : View) (s : ℕ) (h : Head) (held : List Bool) (base : Option (List Bool)) (row : List ℕ) : Type 0 where
  pub reached : (v : ℕ) → v < h.span → is_member held v ≡ is_listed (own_items w s h) v
  pub based : (v : ℕ) → v < h.span → is_out base v ≡ is_listed (base_items w h.base) v
  pub known : is_none base ≡ is_none h.base
  pub entries : (v : ℕ) → v < h.span → is_some (w.entry s v) ≡ has_entry row v

-- a VVBN of the base that has an entry of its own
abbrev pub is_copied : List Bool → List ℕ → ℕ → Bool
is_copied base row v = is_member base v && has_entry row v

-- one that is reached, and has neither an entry of its own nor is of the base
abbrev pub rests_apart : List Bool → List Bool → List ℕ → ℕ → Bool
rests_apart held base row v = is_member held v && (not (has_entry row v) && not (is_member base v))

-- how many of so many VVBNs there are; where there is no base, none
abbrev pub copies : Option (List Bool) → List ℕ → ℕ → ℕ
copies None row n = 0
copies (Some base) row n = count_by (is_copied base row) (range_with_len 0 n)

abbrev pub resting : List Bool → Option (List Bool) → List ℕ → ℕ → ℕ
resting held None row n = 0
resting held (Some base) row n = count_by (rests_apart held base row) (range_with_len 0 n)
