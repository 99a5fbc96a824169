-- What of an inode file goes with a file.
use Rattle.std.specs.Prelude.{◌≡◌, ◌⊎◌, ◌/◌, ℕ, nat_eq}
use Rattle.fv_tables.specs.Spelled.{Rooted}
use Rattle.fv_tables.specs.Told.{records_each}
use Rattle.fv_tree.specs.Taking.{gone_with}
use Rattle.fv_inode.specs.Changing.{HasNeighbor}

-- So many positions of an inode file go with file n: its cell and each mark over that alone, where no other file is in its inode block.
abbrev pub IsLost : Rooted → ℕ → ℕ → Type 0
IsLost t n count = (HasNeighbor t n × (count ≡ 0)) ⊎ ((HasNeighbor t n → ⊥) × (count ≡ gone_with t (nat_eq (n / records_each))))
