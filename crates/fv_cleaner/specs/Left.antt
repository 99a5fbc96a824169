-- What is left to do in a volume of which no file is in memory: its pointers of which the place isn't known, each once for the block that holds
-- it.
--
-- An example: a mirror has its root under VVBN 7, which leads to the blocks under 8 and 9. The pointer in its label and the two in the node under
-- 7 are unknown, so three are left. A step that fills in the node leaves one.
use Rattle.std.specs.Prelude.{ℕ, ◌+◌, List, Option, Some, None, count_by, sum_by}
use Rattle.std.specs.List.{range_with_len}
use Rattle.fv_disk.specs.Shown.{Image}
use Rattle.fv_codec.specs.declared.pointer.Pointer.{Pointer}
use Rattle.fv_image.specs.Views.{Placed}
use Rattle.fv_image.specs.HintRules.{is_unknown}
use Rattle.fv_pool.specs.declared.pool.Pool.{Pool}
use Rattle.fv_volume.specs.declared.state.VolumeState.{VolumeState}
use Rattle.fv_cleaner.specs.Searching.{Lies, lies_in, pointers_of}
use Rattle.fv_cleaner.specs.Stepping.{roots_of}

-- how many pointers of a list are unknown
abbrev pub unknown_among : List Pointer → ℕ
unknown_among ps = count_by is_unknown ps

-- how many a block holds, where one lies there
abbrev pub unknown_inside : Option Placed → ℕ
unknown_inside None = 0
unknown_inside (Some x) = unknown_among (pointers_of x)

-- how many the blocks under the VVBNs below a number hold
abbrev pub unknown_under : Lies → ℕ → ℕ
unknown_under at span = sum_by (λ v. unknown_inside (at v)) (range_with_len 0 span)

-- those of the label, and those in the block under each VVBN that a slot of the volume's maps has
unfoldable pub left_in : Image → Pool → VolumeState → ℕ
left_in i pool x = unknown_among (roots_of x) + unknown_under (lies_in x.map pool x.slot i) x.map.span
