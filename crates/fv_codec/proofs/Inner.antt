-- A container's inner node that was written is read again.
use Rattle.std.proofs.Common.{◌≡◌, ℕ, ◌<◌, ◌^◌, List, length, lit<, Ok, arith}
use Rattle.fv_codec.specs.declared.container.ContainerInner.{ContainerInner}
use Rattle.fv_codec.specs.Blocks.{inner_at, IsContainerInner, greatest_word}
use Rattle.fv_codec.specs.Spelling.{inner_bytes}
use Rattle.fv_codec.proofs.Places.{placed_again}

pub inner_again : (n : ContainerInner) → IsContainerInner n → n.place < 2 ^ 64 → length n.children ≡ 256 → inner_at (inner_bytes n) ≡ Ok n
unfolding inner_at
inner_again n is place long =
    let made : ℕ → ℕ → List ℕ → ContainerInner = λ level place children. record { level = level; place = place; children = children } in
    placed_again made 0x465643494e4e4552 1 2 n.level 0 greatest_word n.place 1000 256 1024 n.children (lit< tt) (record { small = omega (arith, is.greatest); low = is.least; high = is.greatest }) (record { small = place; low = omega arith; high = omega (arith, place) }) is.children long
