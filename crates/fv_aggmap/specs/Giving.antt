-- Blocks that are given back: what the map of an aggregate holds afterwards.
use Rattle.std.specs.Prelude.{◌≡◌, ◌≤◌, ℕ, Bool, not, ◌&&◌}
use Rattle.fv_bits.specs.Members.{is_member}
use Rattle.fv_aggmap.specs.Space.{Space, free_blocks}

-- Some blocks won't be held by the next root any more. The root on the disk holds what it held, so such a block is free only once that root
-- is replaced.
pub record HasGiven (old : Space) (given : ℕ → Bool) (new : Space) : Type 0 where
  pub committed : new.committed ≡ old.committed
  pub held : (b : ℕ) → is_member new.next b ≡ (is_member old.next b && not (given b))
  pub count : free_blocks old ≤ free_blocks new
