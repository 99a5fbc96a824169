-- The walk without stops from a pointer on, in the tree of the inode file or of another file.
use Rattle.std.specs.Prelude.{ℕ, Bool, true, false, not, ◌&&◌, List, [], flat_map, ◌==◌, if◌then◌else◌}
use Rattle.fv_tables.specs.Reached.{Item}
use Rattle.fv_image.specs.Views.{Placed}
use Rattle.fv_faults.specs.Walks.{Ground, pointers_under}
use Rattle.fv_faults.specs.Met.{Spot, plain, no_more, files_met}

-- what is met below a cell
abbrev pub cell_met : Ground → Bool → Item → Placed → List Spot
cell_met g true = files_met g
cell_met g false = no_more

abbrev pub met_from : Ground → Bool → Item → ℕ → List Spot
met_from g of_inodes e block = plain g (cell_met g of_inodes) e.level e block

-- what is met below a pointer that leads to a place
abbrev pub under_met : Ground → Bool → Item → Placed → List Spot
under_met g of_inodes e x = if (e.level == 0) && not of_inodes then []
    else flat_map (λ c. met_from g (of_inodes && not (e.level == 0)) c x.pvbn) (pointers_under e x)
