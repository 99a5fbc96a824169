-- What a store holds, and what its calls make of it.
use Rattle.std.specs.Prelude.{◌≡◌, ℕ, ◌-◌, ◌<◌, ◌≤◌, ◌⊎◌, not, List, ◌∷◌, length, take, filter, Contains, Option, IfSome, IfNone, Result, IsOk, OnOk, OnErr, IsTrue, nat_eq}
use Rattle.std.specs.List.{IsDistinct}
use Rattle.std.specs.Map.{keys_of, lookup}
use Rattle.fv_disk.specs.declared.Failed.{Failed}
use Rattle.fv_disk.specs.Shown.{Shown}

-- pairs of block number and block, the most recently used first
abbrev pub Pairs : Type 0
Pairs = List (ℕ × List ℕ)

-- the pairs, and how many there may be
pub record Held : Type 0 where
  pub pairs : Pairs
  pub capacity : ℕ

abbrev pub held : Pairs → ℕ → Held
held pairs capacity = record { pairs = pairs; capacity = capacity }

-- the block that is held under a number
abbrev pub block_at : Pairs → ℕ → Option (List ℕ)
block_at pairs pvbn = lookup (nat_eq pvbn) pairs

-- the pairs of all other numbers
unfoldable pub without : Pairs → ℕ → Pairs
without pairs pvbn = filter (λ pair. not (nat_eq pvbn pair.0)) pairs

-- one pair first, and then those of all other numbers
abbrev pub to_front : Pairs → ℕ → List ℕ → Pairs
to_front pairs pvbn block = (pvbn, block) ∷ without pairs pvbn

-- what holds of every store: no number is held twice, and there are no more pairs than there may be
pub record IsStore (store : Held) : Type 0 where
  pub distinct : IsDistinct nat_eq (keys_of store.pairs)
  pub bounded : length store.pairs ≤ store.capacity
  pub room : 0 < store.capacity

-- each held block is what the disk reads
pub record StandsOn (disk : Shown) (pairs : Pairs) : Type 0 where
  pub same : IsTrue disk.tells → (pvbn : ℕ) (block : List ℕ) → Contains pairs (pvbn, block) → block ≡ disk.reads pvbn

-- a new pair is put first, and a full list drops its last one; or the list stays, for want of memory
abbrev pub Keeps : Pairs → ℕ → ℕ → List ℕ → Pairs → Type 0
Keeps old capacity pvbn block new = (new ≡ (pvbn, block) ∷ take (capacity - 1) old) ⊎ (new ≡ old)

-- A held block is answered and comes to the front, and the call is done. Another one that was read is kept.
-- A failed read changes nothing.
pub record Gets (old : Held) (pvbn : ℕ) (new : Held) (block : List ℕ) (result : Result Unit Failed) : Type 0 where
  pub capacity : new.capacity ≡ old.capacity
  pub held : IfSome (block_at old.pairs pvbn) (λ was. IsOk result × (block ≡ was) × (new.pairs ≡ to_front old.pairs pvbn was))
  pub kept : IfNone (block_at old.pairs pvbn) (OnOk result (Keeps old.pairs old.capacity pvbn block new.pairs))
  pub failed : OnErr result (new.pairs ≡ old.pairs)

-- a held pair gets a new block and comes to the front, and without one the list stays
pub record Renews (old : Pairs) (pvbn : ℕ) (block : List ℕ) (new : Pairs) : Type 0 where
  pub held : IfSome (block_at old pvbn) (λ _. new ≡ to_front old pvbn block)
  pub absent : IfNone (block_at old pvbn) (new ≡ old)

-- A held block is renewed. After a failure no block is held under this number, and the others stay.
pub record Puts (old : Held) (pvbn : ℕ) (block : List ℕ) (new : Held) (result : Result Unit Failed) : Type 0 where
  pub capacity : new.capacity ≡ old.capacity
  pub done : OnOk result (Renews old.pairs pvbn block new.pairs)
  pub failed : OnErr result (new.pairs ≡ without old.pairs pvbn)

-- a held pair gets a new block and comes to the front, and another one is kept
pub record Holds (old : Pairs) (capacity pvbn : ℕ) (block : List ℕ) (new : Pairs) : Type 0 where
  pub held : IfSome (block_at old pvbn) (λ _. new ≡ to_front old pvbn block)
  pub kept : IfNone (block_at old pvbn) (Keeps old capacity pvbn block new)

-- The block is held afterwards, where memory is found for it. After a failure no block is held under this number, and the others stay.
pub record PutsHeld (old : Held) (pvbn : ℕ) (block : List ℕ) (new : Held) (result : Result Unit Failed) : Type 0 where
  pub capacity : new.capacity ≡ old.capacity
  pub done : OnOk result (Holds old.pairs old.capacity pvbn block new.pairs)
  pub failed : OnErr result (new.pairs ≡ without old.pairs pvbn)

-- the pairs of each number below one are gone, and there is no new pair
pub record KeepsFrom (first : ℕ) (old new : Pairs) : Type 0 where
  pub kept : (pvbn : ℕ) (block : List ℕ) → Contains new (pvbn, block) → (first ≤ pvbn) × Contains old (pvbn, block)
