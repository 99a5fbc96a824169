-- What a disk shows whose blocks are read through a cache.
use Rattle.std.specs.Prelude.{◌≡◌, ◌≤◌, ◌^◌, ℕ, None, ◌∷◌}
use Rattle.fv_disk.specs.Shown.{Shown, IsDisk}
use Rattle.fv_store.specs.Held.{Pairs, StandsOn, block_at}

-- What the disk shows that is lent. No call of a disk changes its ends, and those of a disk that is no host mean nothing: so the name of
-- the loan stands among them, and who lends a cache to code that knows it as a disk learns that it stands over the same disk still.
abbrev pub lent_shown : ℕ → Shown → Shown
lent_shown name disk = record disk { ends = record disk.ends { left = name ∷ disk.ends.left } }

-- what is held is what the disk reads, and has a number of 32 bits
pub record Caches (disk : Shown) (pairs : Pairs) : Type 0 where
  pub stands : StandsOn disk pairs
  pub small : (number : ℕ) → 2 ^ 32 ≤ number → block_at pairs number ≡ None

-- no law of a disk speaks of its ends
pub laws_lent : (name : ℕ) (disk : Shown) → IsDisk disk → IsDisk (lent_shown name disk)
laws_lent name disk laws = record {
  read_is_image = laws.read_is_image;
  counts_now = laws.counts_now;
  only_now = laws.only_now;
  earlier = laws.earlier;
  blocks = laws.blocks;
}
