-- What rule 10 says of the records in an inode block: the levels of their files.
use Rattle.std.specs.Prelude.{ℕ, List, [], flat_map, ◌==◌, if◌then◌else◌}
use Rattle.std.specs.Option.{option_map_or}
use Rattle.fv_codec.specs.declared.inode.InodeRecord.{InodeRecord}
use Rattle.fv_faults.specs.declared.fault.Fault.{Fault}
use Rattle.fv_faults.specs.ThirdPass.{level_lines}
use Rattle.fv_walk.specs.declared.below.Below.{Below}
use Rattle.fv_walk.specs.declared.below.Below.TheVariants.{Nothing, Node, Inodes}
use Rattle.fv_walk.specs.Sights.{Sight}

-- of the record of a file in the block at a place; a free record says nothing
abbrev pub record_lines : ℕ → InodeRecord → List Fault
record_lines at r = if r.name_length == 0 then [] else level_lines at r.reserve r.levels r.root

abbrev pub levels_in : ℕ → Below → List Fault
levels_in at Nothing = []
levels_in at (Node n) = []
levels_in at (Inodes b) = flat_map (record_lines at) b.files

abbrev pub levels_of : Sight → List Fault
levels_of s = option_map_or (λ f. levels_in f.pvbn s.below) s.at []
