-- A layout with another aggregate map holds the same blocks.
use Rattle.std.proofs.Common.{◌≡◌, ℕ, Bool, List, ap}
use Rattle.std.specs.Prelude.{◌==◌, count_by}
use Rattle.std.specs.List.{list_any}
use Rattle.fv_disk.specs.Shown.{Image}
use Rattle.fv_image.specs.NewerRoot.{Taken}
use Rattle.fv_image.specs.Held.{Layout, layout_at, with_bits}
use Rattle.fv_image.specs.Whole.{is_held_by, times_held}
use Rattle.fv_image.proofs.Heads.{head_told}
use Rattle.fv_image.proofs.Counted.{HasHeads}
use Rattle.fv_image.proofs.SameLayout.{held_by_with_bits}

-- ---- the aggregate map plays no part in a slot

pub heads_with_bits : (bits : ℕ → Bool) (t : Taken) (i : Image) → HasHeads (with_bits bits (layout_at t i))
unfolding layout_at
heads_with_bits bits t i = record { heads = head_told t i }

pub slot_with_bits : (bits : ℕ → Bool) (y : Layout) (s b : ℕ) → is_held_by (with_bits bits y) s b ≡ is_held_by y s b
slot_with_bits bits y s b = ap (λ (xs : List ℕ). list_any (λ x. x == b) xs) (held_by_with_bits bits y s)

pub times_with_bits : (bits : ℕ → Bool) (y : Layout) (s b : ℕ) → times_held (with_bits bits y) s b ≡ times_held y s b
times_with_bits bits y s b = ap (λ (xs : List ℕ). count_by (λ x. x == b) xs) (held_by_with_bits bits y s)
