-- The aggregate map as it is read from its area.
use Rattle.std.specs.Prelude.{◌≡◌, ◌≤◌, ◌<◌, ◌/◌, ◌-◌, ◌*◌, ℕ, Bool, true, false, List, length}
use Rattle.fv_disk.specs.Shown.{Image}
use Rattle.fv_disk.specs.declared.fault.BlockFault.{BlockFault}
use Rattle.fv_disk.specs.declared.fault.BlockFault.TheVariants.{DiskFault, Damaged, Memory}
use Rattle.fv_bits.specs.Members.{is_member}
use Rattle.fv_image.specs.Layout.{block_bits, area_place}
use Rattle.fv_image.specs.Maps.{map_bit}
use Rattle.fv_root.specs.declared.find.Found.{Found}
use Rattle.fv_root.specs.Finding.{root_found}
use Rattle.fv_aggmap.specs.Space.{Space}

-- the first bit that is set past the last block, with its place in the map area and the last block's number
pub record IsPastMap (i : Image) (found : Found) (at want number : ℕ) : Type 0 where
  pub past : found.blocks ≤ number
  pub bit : map_bit (root_found found) i number ≡ true
  pub first : (b : ℕ) → found.blocks ≤ b → b < number → map_bit (root_found found) i b ≡ false
  pub place : at ≡ area_place found.blocks found.slot (number / block_bits)
  pub last : want ≡ found.blocks - 1

-- so many blocks of the map area were read: the set has the numbers whose bits are set there
pub record HasRead (i : Image) (found : Found) (count : ℕ) (map : List Bool) : Type 0 where
  pub len : length map ≡ found.blocks
  pub bits : (b : ℕ) → b < block_bits * count → is_member map b ≡ map_bit (root_found found) i b

-- both sets are those blocks whose bits are set in the map area of the root that was found
pub record IsLoaded (i : Image) (found : Found) (space : Space) : Type 0 where
  pub len : length space.committed ≡ found.blocks
  pub bits : (b : ℕ) → is_member space.committed b ≡ map_bit (root_found found) i b
  pub same : space.next ≡ space.committed

-- a fault, where the disk didn't fail and memory didn't run out
abbrev pub IsFault : Image → Found → BlockFault → Type 0
IsFault i found (Damaged at want number) = IsPastMap i found at want number
IsFault i found DiskFault = Unit {0}
IsFault i found Memory = Unit {0}
