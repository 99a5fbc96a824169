-- A root that was written is read again.
use Rattle.std.proofs.Common.{◌≡◌, ℕ, ◌<◌, ◌^◌, List, length, lit<, Ok, arith}
use Rattle.fv_codec.specs.declared.root.Root.{Root}
use Rattle.fv_codec.specs.Blocks.{root_at, IsRoot, greatest_word}
use Rattle.fv_codec.specs.Spelling.{root_bytes}
use Rattle.fv_codec.proofs.Places.{Allowed, placed_again}

pub root_again : (r : Root) → IsRoot r → r.generation < 2 ^ 64 → length r.labels ≡ 64 → root_at (root_bytes r) ≡ Ok r
unfolding root_at
root_again r is small long =
    let generation : Allowed 0 greatest_word r.generation = record { small = small; low = omega arith; high = omega (arith, small) } in
    let version : Allowed 1 1 r.version = record { small = omega (arith, is.greatest); low = is.least; high = is.greatest } in
    placed_again (λ (g v : ℕ) (ls : List ℕ). record { generation = g; version = v; labels = ls }) 0x4656524f4f543030 0 greatest_word r.generation 1 1 r.version 40 64 3520 r.labels (lit< tt) generation version is.labels long
