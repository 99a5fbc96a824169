-- Where the nodes of a container lie, level by level from the root down.
use Rattle.std.specs.Prelude.{ℕ, ◌/◌, ◌%◌, List, [], ◌∷◌, ◌++◌, map, flat_map, get_or, Option, ◌==◌, if◌then◌else◌}
use Rattle.std.specs.List.{range_with_len}
use Rattle.fv_disk.specs.Shown.{Image}
use Rattle.fv_codec.specs.declared.container.ContainerInner.{ContainerInner}
use Rattle.fv_codec.specs.declared.label.Label.{Label}
use Rattle.fv_codec.specs.Blocks.{inner_at}
use Rattle.fv_image.specs.Containers.{fan, level_width, lying, child_in}
use Rattle.fv_image.specs.Views.{entry_count}
use Rattle.fv_third_pass.specs.Words.{at_place}

-- the node over one, by the places of the nodes of the level over it
abbrev pub over : Image → List ℕ → ℕ → Option ContainerInner
over i above q = lying inner_at i (get_or above (q / fan) 0)

-- the places of the first so many nodes of a level, by those of the level over it
abbrev pub level_below : Image → List ℕ → ℕ → List ℕ
level_below i above n = map (λ q. child_in (over i above q) (q % fan)) (range_with_len 0 n)

-- the blocks of places
abbrev pub at_places : List ℕ → List ℕ
at_places places = flat_map at_place places

-- the places of a level's nodes in the container of a label
abbrev pub nodes_below : Image → Label → ℕ → List ℕ → List ℕ
nodes_below i l level above = level_below i above (level_width (entry_count l.span) level)

-- the blocks of the nodes below the root
abbrev pub below_blocks : Image → Label → List ℕ → List ℕ
below_blocks i l top = if l.height == 1 then at_places (nodes_below i l 0 top)
    else at_places (nodes_below i l 1 top) ++ at_places (nodes_below i l 0 (nodes_below i l 1 top))

-- the blocks of all nodes
abbrev pub node_blocks : Image → Label → List ℕ
node_blocks i l = at_places (l.container ∷ []) ++ below_blocks i l (l.container ∷ [])
