-- Blocks that can be taken, and blocks that are held.
use Rattle.std.specs.Prelude.{◌≡◌, ◌≤◌, ◌⊎◌, ℕ, Bool, true, not, ◌&&◌, ◌||◌, nat_eq, List, Option, IfSome, IfNone}
use Rattle.std.specs.FinSet as set
use Rattle.std.specs.FinSet.{FinSet}
use Rattle.std.specs.Ordering.{nat_cmp}
use Rattle.fv_codec.specs.Blocks.{last_place}

-- the blocks that are free, whether the next root will hold a block, and for each block whether the root on the disk holds it
pub record Room : Type 0 where
  pub free : FinSet nat_cmp
  pub held : ℕ → Bool
  pub committed : List Bool

-- free blocks are places
pub record IsRoom (room : Room) : Type 0 where
  pub places : (b : ℕ) → set.contains room.free b ≡ true → (1 ≤ b) × (b ≤ last_place)

-- a free block is taken out, and the next root will hold it; there is none only where no block is free
pub record Takes (old new : Room) (result : Option ℕ) : Type 0 where
  pub none : IfNone result (set.len old.free ≡ 0)
  pub some : IfSome result (λ b. set.contains old.free b ≡ true)
  pub taken : IfSome result (λ b. new.free ≡ set.remove old.free b)
  pub held : IfSome result (λ b. (a : ℕ) → new.held a ≡ (nat_eq a b || old.held a))
  pub stays : IfNone result (new ≡ old)
  pub committed : new.committed ≡ old.committed

-- the next root won't hold a block, which may be free now
pub record Releases (old : Room) (b : ℕ) (new : Room) : Type 0 where
  pub free : (new.free ≡ old.free) ⊎ (new.free ≡ set.insert old.free b)
  pub held : (a : ℕ) → new.held a ≡ (not (nat_eq a b) && old.held a)
  pub committed : new.committed ≡ old.committed
