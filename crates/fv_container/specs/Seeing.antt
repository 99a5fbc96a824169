-- The blocks to which leaves lead, in memory and on a disk.
use Rattle.std.specs.Prelude.{ℕ, zero, suc, Bool, false, ◌||◌, List, get_or, Option, Some, None}
use Rattle.std.specs.List.{list_any, range_with_len}
use Rattle.std.specs.Global.{Box}
use Rattle.fv_disk.specs.Shown.{Image}
use Rattle.fv_disk.specs.declared.fault.BlockFault.{BlockFault}
use Rattle.fv_codec.specs.declared.container.ContainerLeaf.{ContainerLeaf}
use Rattle.fv_container.specs.Paged.{Leaves, leaf_here}
use Rattle.fv_container.specs.Spelled.{is_at, names}
use Rattle.fv_container.specs.Reading.{IsLevelFault, pair_loaded}

-- whether an entry of the leaf of a region leads to a block: of the one in memory, or of that on the disk
unfoldable pub leads_seen : Image → ℕ → ℕ → ℕ → Option (Box ContainerLeaf) → ℕ → Bool
leads_seen i entries at region (Some leaf) b = names leaf.value.pvbns b
leads_seen i entries at region None b = list_any (λ c. is_at b (pair_loaded i entries at region c).0) (range_with_len 0 256)

-- and one of the first regions
unfoldable pub leads_first : Image → ℕ → Leaves → List ℕ → ℕ → ℕ → Bool
leads_first i entries leaves tree zero b = false
leads_first i entries leaves tree (suc k) b = leads_first i entries leaves tree k b || leads_seen i entries (get_or tree k 0) k (leaf_here leaves k) b

-- a fault of one of the first leaves
abbrev pub IsSomeFault : Image → List ℕ → ℕ → BlockFault → Type 0
IsSomeFault i tree count fault = IsLevelFault i 0 tree 0 count fault
