-- The aggregate map of an image.
use Rattle.std.specs.Prelude.{◌*◌, ℕ, Bool, ◌&&◌, nat_lt}
use Rattle.fv_disk.specs.Shown.{Image}
use Rattle.fv_bits.specs.Bits.{bit_of_area}
use Rattle.fv_image.specs.Layout.{block_bits, area_blocks, area_place}
use Rattle.fv_image.specs.NewerRoot.{Taken}

-- how many bits the map area of a slot holds
abbrev pub area_bits : ℕ → ℕ
area_bits blocks = block_bits * area_blocks blocks

-- bit b of the aggregate map, which is the map area of the root's slot; past the area it is clear
unfoldable pub map_bit : Taken → Image → ℕ → Bool
map_bit t i b = nat_lt b (area_bits t.blocks) && bit_of_area (λ k. i (area_place t.blocks t.slot k)) b
