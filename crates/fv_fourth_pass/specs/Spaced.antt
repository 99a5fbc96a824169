-- What volumes commit and need, by the labels that were read.
use Rattle.std.specs.Prelude.{◌≡◌, ◌<◌, ℕ, ◌+◌, ◌*◌, List, sum_by, get_or, Option, Some, None, Result, Ok, Err, ◌==◌, if◌then◌else◌}
use Rattle.std.specs.List.{range_with_len}
use Rattle.fv_codec.specs.declared.shape.Shape.{Shape}
use Rattle.fv_codec.specs.declared.label.Label.{Label}
use Rattle.fv_model.specs.Space.{overhead, use_of}
use Rattle.fv_image.specs.Views.{Head, View}
use Rattle.fv_image.specs.Volumes.{volume_told}

-- by slot, how many blocks each volume uses
pub record HasUses (w : View) (uses : List ℕ) : Type 0 where
  pub each : (s : ℕ) (h : Head) → s < 64 → w.head s ≡ Some h → get_or uses s 0 ≡ use_of (volume_told w s h)

-- the overhead of a slot's volume
abbrev pub overhead_in : Option (Result Label Shape) → ℕ
overhead_in None = 0
overhead_in (Some (Ok l)) = overhead l.span
overhead_in (Some (Err shape)) = 0

-- what a slot's volume commits where it uses so many blocks
abbrev pub commit_in : Option (Result Label Shape) → ℕ → ℕ
commit_in None used = 0
commit_in (Some (Ok l)) used = 2 * overhead l.span + (if l.kind == 0 then l.size else used)
commit_in (Some (Err shape)) used = 0

-- of the first so many slots
unfoldable pub overheads_to : List (Option (Result Label Shape)) → ℕ → ℕ
overheads_to labels n = sum_by (λ s. overhead_in (get_or labels s None)) (range_with_len 0 n)

unfoldable pub commits_to : List (Option (Result Label Shape)) → List ℕ → ℕ → ℕ
commits_to labels uses n = sum_by (λ s. commit_in (get_or labels s None) (get_or uses s 0)) (range_with_len 0 n)
