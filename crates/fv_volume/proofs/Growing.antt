-- A container may grow to the entries that it has in the next version of the format.
use Rattle.std.proofs.Common.{◌≡◌, ◌+◌, ◌*◌, ◌/◌, ℕ, arith}
use Rattle.fv_model.specs.Space.{entries_by, map_blocks}
use Rattle.fv_container.specs.Mapped.{grown}
use Rattle.fv_volmap.specs.Slots.{stored_count}

pub grown_entries : (span : ℕ) → grown (entries_by 1 span) ≡ entries_by 2 span
grown_entries span =
    let least : grown (entries_by 1 span) ≡ span + stored_count * map_blocks span + 231 * ((span + stored_count * map_blocks span + 32792) / 32793) + 256 = omega arith in
    let blocks : (span + stored_count * map_blocks span + 32792) / 32793 ≡ map_blocks span = omega arith in
    omega (arith, least, blocks)
