-- What the volumes of an aggregate take of it, slot by slot.
use Rattle.std.specs.Prelude.{◌≡◌, ◌≤◌, ◌<◌, ℕ, ◌*◌, ◌^◌, sum_by, count_by, get_or, length, Some}
use Rattle.std.specs.List.{range_with_len}
use Rattle.std.specs.Option.{option_map_or}
use Rattle.fv_model.specs.Space.{use_of}
use Rattle.fv_image.specs.Views.{Head, View, is_delayed, is_own, vvbns}
use Rattle.fv_image.specs.Volumes.{volume_told}
use Rattle.fv_fourth_pass.specs.declared.space_sums.VolumeSpace.{VolumeSpace}
use Rattle.fv_fourth_pass.specs.declared.space_sums.Sums.{Sums}

-- The volume of a slot uses so many blocks, and so many of its entries are its own and delayed.
pub record IsSpace (w : View) (s : ℕ) (h : Head) (x : VolumeSpace) : Type 0 where
  pub used : x.used ≡ use_of (volume_told w s h)
  pub own : x.filled.own ≡ count_by (is_own w s h) (vvbns h.span)
  pub delayed : x.filled.delayed ≡ count_by (is_delayed w s h) (vvbns h.span)

-- how many entries of the volume of a slot are its own, and how many delayed; none where there is no volume
abbrev pub own_at : View → ℕ → ℕ
own_at w s = option_map_or (λ (h : Head). count_by (is_own w s h) (vvbns h.span)) (w.head s) 0

abbrev pub delayed_at : View → ℕ → ℕ
delayed_at w s = option_map_or (λ (h : Head). count_by (is_delayed w s h) (vvbns h.span)) (w.head s) 0

-- The same of a slot that may have no volume.
pub record IsSpaceAt (w : View) (s : ℕ) (x : VolumeSpace) : Type 0 where
  pub used : (h : Head) → w.head s ≡ Some h → x.used ≡ use_of (volume_told w s h)
  pub own : x.filled.own ≡ own_at w s
  pub delayed : x.filled.delayed ≡ delayed_at w s

-- They are the sums over the first so many slots.
pub record AreSums (w : View) (n : ℕ) (sums : Sums) : Type 0 where
  pub used : (s : ℕ) (h : Head) → s < n → w.head s ≡ Some h → get_or sums.uses.items s 0 ≡ use_of (volume_told w s h)
  pub own : sums.filled.own ≡ sum_by (own_at w) (range_with_len 0 n)
  pub delayed : sums.filled.delayed ≡ sum_by (delayed_at w) (range_with_len 0 n)

-- ---- bounds

pub record IsWithin (x : VolumeSpace) : Type 0 where
  pub used : x.used ≤ 2 ^ 56
  pub own : x.filled.own ≤ 2 ^ 33
  pub delayed : x.filled.delayed ≤ 2 ^ 33

pub record AreWithin (sums : Sums) : Type 0 where
  pub used : (s : ℕ) → get_or sums.uses.items s 0 ≤ 2 ^ 56
  pub own : sums.filled.own ≤ 2 ^ 33 * length sums.uses.items
  pub delayed : sums.filled.delayed ≤ 2 ^ 33 * length sums.uses.items
