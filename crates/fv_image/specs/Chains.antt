-- Where the blocks of a volume's tables are found. A clone shares blocks with the snapshot that it was made of, so under a VVBN
-- that it has no entry for, its parent's entry counts, then that of the parent's parent, and so on.
use Rattle.std.specs.Prelude.{ℕ, zero, suc, Option, None, nat_lt, if◌then◌else◌}
use Rattle.std.specs.Option.{option_map, option_map_or, option_and_then, option_or}
use Rattle.fv_tables.specs.Spelled.{Under}
use Rattle.fv_image.specs.Views.{Placed, Head, View}

-- the slot of the volume that a clone was made of
abbrev pub parent_in : Option Head → Option ℕ
parent_in head = option_and_then (λ h. option_map (λ b. b.parent) h.base) head

-- the first entry for a VVBN that isn't a hole, along so many volumes from a slot on
unfoldable pub along : View → ℕ → ℕ → ℕ → Option Placed
along w zero s v = None
along w (suc n) s v = option_or (w.entry s v) (option_and_then (λ p. along w n p v) (parent_in (w.head s)))

-- the span of the volume of a slot
abbrev pub span_at : View → ℕ → ℕ
span_at w s = option_map_or (λ h. h.span) (w.head s) 0

-- The place of a VVBN in a volume: the first entry along the volume and its parents, of which there are at most 64. For the
-- VVBN of a map block only the volume's own entry counts.
unfoldable pub place : View → ℕ → ℕ → Option Placed
place w s v = if nat_lt v (span_at w s) then along w 64 s v else w.entry s v

-- the block under each VVBN of a volume
unfoldable pub under : View → ℕ → Under
under w s v = option_map (λ x. x.block) (place w s v)
