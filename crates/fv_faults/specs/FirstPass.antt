-- Pass 1: labels, bases, names of volumes and of snapshots, containers. It looks at rules 1 to 4, and hands on that labels and containers
-- can be read.
use Rattle.std.specs.Prelude.{ℕ, zero, suc, ◌-◌, ◌*◌, ◌/◌, ◌^◌, Bool, true, not, ◌&&◌, List, [], ◌∷◌, ◌++◌, map, flat_map, find, Result, Ok, Err, nat_le, ◌==◌, if◌then◌else◌}
use Rattle.std.specs.List.{list_any, range_with_len, enumerate_from, zip}
use Rattle.std.specs.Option.{is_some, option_map_or}
use Rattle.fv_codec.specs.declared.shape.Shape.{Shape}
use Rattle.fv_codec.specs.declared.label.Label.{Label}
use Rattle.fv_codec.specs.declared.container.ContainerLeaf.{ContainerLeaf}
use Rattle.fv_codec.specs.declared.container.ContainerInner.{ContainerInner}
use Rattle.fv_codec.specs.Blocks.{label_at, leaf_at, inner_at}
use Rattle.fv_model.specs.Spelling.{is_same_name}
use Rattle.fv_image.specs.Containers.{fan, height_of}
use Rattle.fv_image.specs.Views.{Snap, Footing, Head, View, slots, head_of, entry_count}
use Rattle.fv_image.specs.Held.{Lying, Layout}
use Rattle.fv_image.specs.Volumes.{snap_at}
use Rattle.fv_image.specs.Seen.{own_blocks, seen}
use Rattle.fv_image.specs.VolumeRules.{comes_to_end, share_name}
use Rattle.fv_image.specs.HintRules.{is_splitting}
use Rattle.fv_faults.specs.declared.fault.Fault.{Fault}
use Rattle.fv_faults.specs.Lines.{line, unless, expects, within, leads, or_next}
use Rattle.fv_faults.specs.Walks.{pointer_lines}

-- of each slot in use
abbrev pub in_slots : Layout → (ℕ → Lying → List Fault) → List Fault
in_slots y lines = flat_map (λ s. option_map_or (lines s) (y.label s) []) slots

-- Rule 2: where the root has the places of labels.
unfoldable pub root_lines : ℕ → Layout → List Fault
root_lines root y = in_slots y (λ s x. leads y.view.blocks root x.place)

-- ---- labels

-- whether a volume can stand on a snapshot of its parent: the snapshot is there, the parent's span isn't greater, and the parent is known
-- and isn't being split
abbrev pub can_carry : Head → Footing → Head → Bool
can_carry h b parent =
    is_some (snap_at parent b.slot) && (nat_le parent.span h.span && (parent.known && not (is_splitting parent.base)))

-- Rule 3, bases: a volume stands on a snapshot of a volume that can carry it, and its chain of bases comes to an end. A parent's label
-- without its shape says nothing here; it has its own line.
abbrev pub stands_on : Layout → ℕ → Head → Footing → Bool
stands_on y s h b =
    is_some (y.label b.parent) && (option_map_or (can_carry h b) (y.view.head b.parent) true && comes_to_end (seen y.view) 64 s)

unfoldable pub base_lines : Layout → ℕ → ℕ → Head → List Fault
base_lines y s at h = option_map_or (λ b. unless (stands_on y s h b) (line 3 at 1 0)) h.base []

-- Rule 4, names: no volume has the name of one in an earlier slot. It is held against the first of those.
unfoldable pub volume_names : Layout → ℕ → ℕ → List Fault
volume_names y s at = option_map_or (λ first. line 4 at first s ∷ [])
    (find (λ earlier. share_name (y.view.head earlier) (y.view.head s)) (range_with_len 0 s)) []

-- Rule 4, names: no snapshot has that of one in an earlier map slot of its volume.
unfoldable pub snap_names : ℕ → List Snap → List Snap → List Fault
snap_names at before [] = []
snap_names at before (p ∷ ps) =
    option_map_or (λ first. line 4 at first.slot p.slot ∷ []) (find (λ q. is_same_name q.name p.name) before) []
    ++ snap_names at (before ++ (p ∷ [])) ps

-- Rule 2: the container's root, its height, and the pointers in the label.
unfoldable pub label_numbers : ℕ → ℕ → Label → List Fault
label_numbers blocks at l =
    leads blocks at l.container
    ++ (within at (height_of (entry_count l.span)) (height_of (entry_count l.span)) l.height
    ++ (pointer_lines blocks l.span at l.root
    ++ flat_map (λ p. pointer_lines blocks l.span at p.table.root) (head_of l).snapshots))

-- the lines of a label below which the pass doesn't go
unfoldable pub label_stops : Layout → ℕ → ℕ → Label → List Fault
label_stops y s at l = label_numbers y.view.blocks at l ++ (volume_names y s at ++ snap_names at [] (head_of l).snapshots)

-- ---- containers

-- the VVBNs that have to have an entry, whatever roots reach: those of the maps of used slots
abbrev pub wanted : View → Label → List ℕ
wanted w l = map (λ (b : ℕ × ℕ). b.0) (own_blocks w.version (head_of l))

-- whether one of them lies among those that a node of a level covers; an entry is of level 0, a leaf of level 1
abbrev pub covers : List ℕ → ℕ → ℕ → Bool
covers vvbns level number = list_any (λ v. v / fan ^ level == number) vvbns

-- Rule 2 of the child of a node under a number, by its place and by a number that is 0 where there is none: it lies where a block of a
-- volume can, and its first entry isn't past the last. Where there is none, no VVBN under it has to have an entry.
abbrev pub child_lines : View → Label → ℕ → ℕ → ℕ × (ℕ × ℕ) → List Fault
child_lines w l at level c = if c.1.1 == 0
    then (if covers (wanted w l) level c.0 then leads w.blocks at 0 else [])
    else leads w.blocks at c.1.0 ++ within at 0 (entry_count l.span - 1) (c.0 * fan ^ level)

-- Rules 1, 4 and 2 of a leaf: its shape, its position, and its entries by their kinds.
abbrev pub leaf_lines : View → Label → ℕ → ℕ → Result ContainerLeaf Shape → List Fault
leaf_lines w l number at (Err shape) = line 1 at shape.want shape.found ∷ []
leaf_lines w l number at (Ok leaf) =
    expects 4 at number leaf.index
    ++ flat_map (child_lines w l at 0) (enumerate_from (fan * number) (zip leaf.pvbns leaf.kinds))

-- Rules 1, 4 and 2 of an inner node of a level.
abbrev pub inner_lines : View → Label → ℕ → ℕ → ℕ → Result ContainerInner Shape → List Fault
inner_lines w l level number at (Err shape) = line 1 at shape.want shape.found ∷ []
inner_lines w l level number at (Ok node) =
    expects 4 at level node.level
    ++ (expects 4 at number node.place
    ++ flat_map (child_lines w l at level) (enumerate_from (fan * number) (zip node.children node.children)))

-- a node at its position, and what is below it where it has no line
unfoldable pub node_below : Layout → ℕ → Label → ℕ → ℕ → List Fault
node_below y s l zero number = option_map_or (λ x. leaf_lines y.view l number x.place (leaf_at x.block)) (y.node s 0 number) []
node_below y s l (suc level) number = option_map_or (λ x.
    or_next (inner_lines y.view l (suc level) number x.place (inner_at x.block))
    (flat_map (node_below y s l level) (range_with_len (fan * number) fan)))
    (y.node s (suc level) number) []

-- ---- the pass

abbrev pub read_lines : Layout → ℕ → ℕ → Result Label Shape → List Fault
read_lines y s at (Err shape) = line 1 at shape.want shape.found ∷ []
read_lines y s at (Ok l) = base_lines y s at (head_of l) ++ or_next (label_stops y s at l) (node_below y s l l.height 0)

unfoldable pub first_pass : ℕ → Layout → List Fault
first_pass root y = or_next (root_lines root y) (in_slots y (λ s x. read_lines y s x.place (label_at x.block)))
