-- Rules 7, 8 and 14, and spans: there is no line exactly where the test of soundness holds.
use Rattle.std.proofs.Common.{◌≡◌, ℕ, true, List, []}
use Rattle.std.specs.Prelude.{nat_le}
use Rattle.std.specs.List.{range_with_len}
use Rattle.fv_image.specs.Maps.{area_bits}
use Rattle.fv_image.specs.Held.{Layout, held, is_held}
use Rattle.fv_image.specs.BlockRules.{agree, is_held_once, has_true_map}
use Rattle.fv_image.specs.Views.{leaves_room}
use Rattle.fv_image.specs.Seen.{seen}
use Rattle.fv_image.specs.Views.{View}
use Rattle.fv_image.specs.VolumeRules.{has_commits_in_capacity}
use Rattle.fv_faults.specs.declared.fault.Fault.{Fault}
use Rattle.fv_faults.specs.Lines.{line, unless}
use Rattle.fv_faults.specs.ThirdPass.{holders, twice_held, bit_lines, map_lines}
use Rattle.fv_faults.specs.FourthPass.{commit_lines, room_lines}
use Rattle.fv_faults.proofs.Clean.{all_from, clean_from, holds_from, none_from}

module _ (y : Layout) where
  abbrev once_line : ℕ → List Fault
  once_line b = unless (nat_le (holders y b) 1) (line 7 b 1 (holders y b))

  pub held_once : twice_held y ≡ [] → is_held_once y ≡ true
  unfolding twice_held is_held_once
  held_once none = all_from once_line (λ b. nat_le (holders y b) 1) (λ b. holds_from (nat_le (holders y b) 1) _) (held y) none

  pub none_twice : is_held_once y ≡ true → twice_held y ≡ []
  unfolding twice_held is_held_once
  none_twice once = clean_from once_line (λ b. nat_le (holders y b) 1) (λ b. none_from (nat_le (holders y b) 1) _) (held y) once

  abbrev bit_line : ℕ → List Fault
  bit_line b = bit_lines 8 b (is_held y b) (y.bit b)

  pub map_true : map_lines y ≡ [] → has_true_map y ≡ true
  unfolding map_lines has_true_map
  map_true none = all_from bit_line (λ b. agree (y.bit b) (is_held y b)) (λ b. holds_from (agree (y.bit b) (is_held y b)) _) (range_with_len 0 (area_bits y.view.blocks)) none

  pub no_bits : has_true_map y ≡ true → map_lines y ≡ []
  unfolding map_lines has_true_map
  no_bits true_map = clean_from bit_line (λ b. agree (y.bit b) (is_held y b)) (λ b. none_from (agree (y.bit b) (is_held y b)) _) (range_with_len 0 (area_bits y.view.blocks)) true_map

module _ (root : ℕ) (w : View) where
  pub fits_capacity : commit_lines root w ≡ [] → has_commits_in_capacity (seen w) ≡ true
  unfolding commit_lines has_commits_in_capacity seen
  fits_capacity none = holds_from _ _ none

  pub no_commits : has_commits_in_capacity (seen w) ≡ true → commit_lines root w ≡ []
  unfolding commit_lines has_commits_in_capacity seen
  no_commits fits = none_from _ _ fits

  pub has_room : room_lines root w ≡ [] → leaves_room w 0 ≡ true
  unfolding room_lines
  has_room none = holds_from _ _ none

  pub no_room_lines : leaves_room w 0 ≡ true → room_lines root w ≡ []
  unfolding room_lines
  no_room_lines room = none_from _ _ room
