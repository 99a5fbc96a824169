use Rattle.std.proofs.Common.{◌≤◌, ℕ, arith}
use Rattle.std.proofs.lemmas.List.Elements.{All-replicate}
use Rattle.fv_codec.specs.Blocks.{last_place}
use Rattle.fv_root.proofs.fresh.root_block.Goals as goal

pub encode-requires : goal.encode-requires
encode-requires c = record { least = omega arith; greatest = omega arith; labels = All-replicate (λ (place : ℕ). place ≤ last_place) 64 0 (omega arith) }
