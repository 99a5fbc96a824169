-- Which entries of a volume are its own and which are delayed, by what its roots reach and the words of its entries.
use Rattle.std.specs.Prelude.{◌≡◌, ◌<◌, ℕ, Bool, not, ◌&&◌, List, nat_lt, ◌==◌, if◌then◌else◌}
use Rattle.std.specs.List.{list_any}
use Rattle.std.specs.Option.{is_some}
use Rattle.fv_bits.specs.Members.{is_member}
use Rattle.fv_image.specs.Views.{Head, View, is_active_map, is_held_in, map_slot, used_slots}
use Rattle.fv_fourth_pass.specs.Based.{has_entry}

-- a map slot is in use
abbrev pub is_used_slot : Head → ℕ → Bool
is_used_slot h j = list_any (λ slot. slot == j) (used_slots h)

-- an entry is held: its VVBN is reached, or it is that of a map block whose slot is in use
abbrev pub is_kept : Head → List Bool → ℕ → Bool
is_kept h held v = if nat_lt v h.span then is_member held v else is_used_slot h (map_slot h.span v)

-- a volume's own entry, and a delayed one
abbrev pub is_own_by : Head → List Bool → List ℕ → ℕ → Bool
is_own_by h held row v = has_entry row v && (is_kept h held v && not (is_active_map h v))

abbrev pub is_delayed_by : Head → List Bool → List ℕ → ℕ → Bool
is_delayed_by h held row v = has_entry row v && not (is_kept h held v)

-- The set has the VVBNs that the volume holds, and the words tell which entries it has.
pub record HasFilled (w : View) (s : ℕ) (h : Head) (held : List Bool) (row : List ℕ) : Type 0 where
  pub reached : (v : ℕ) → v < h.span → is_member held v ≡ is_held_in w s h v
  pub entries : (v : ℕ) → is_some (w.entry s v) ≡ has_entry row v
