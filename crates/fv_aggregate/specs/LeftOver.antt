-- What is left to do in an image: the number that background steps bring down in a session (`todo`), by what the image shows.
--
-- An example: a mirror has its root under VVBN 7, which leads to the cells under 8 and 9, and no place is known. So three are left: the
-- pointer in its label, and the two in the node under 7.
use Rattle.std.specs.Prelude.{ℕ, ◌+◌, List, map, Option, None, cond}
use Rattle.fv_disk.specs.Shown.{Image}
use Rattle.fv_codec.specs.declared.pointer.Pointer.{Pointer}
use Rattle.fv_image.specs.Views.{Placed, Rooted, Head, View, is_held_in, sum_of_heads}
use Rattle.fv_image.specs.Chains.{place}
use Rattle.fv_image.specs.Held.{view_at}
use Rattle.fv_image.specs.Seen.{roots_of}
use Rattle.fv_root.specs.declared.find.Found.{Found}
use Rattle.fv_root.specs.Finding.{root_found}
use Rattle.fv_cleaner.specs.Left.{unknown_among, unknown_under}

-- the root pointers of a label, that of the active table first
abbrev pub roots_shown : Head → List Pointer
roots_shown h = map (λ (r : ℕ × Rooted). r.1.root) (roots_of h)

-- The block under a VVBN that a map of the volume holds, found along the chain of bases. What only the snapshot holds on which the volume
-- stands isn't among these: it belongs to a volume of which all places are known.
abbrev pub lies_shown : View → ℕ → Head → ℕ → Option Placed
lies_shown w s h v = cond (is_held_in w s h v) (place w s v) None

-- What is left to do in a volume: its unknown pointers, those of the label, and those in the block under each VVBN, once for the block.
-- In a volume of which all places are known nothing is.
unfoldable pub left_shown : View → ℕ → Head → ℕ
left_shown w s h = cond h.known 0 (unknown_among (roots_shown h) + unknown_under (lies_shown w s h) h.span)

-- that of all volumes
unfoldable pub todo_shown : View → ℕ
todo_shown w = sum_of_heads w (left_shown w)

-- and that of an image under a root
abbrev pub todo_under : Found → Image → ℕ
todo_under found i = todo_shown (view_at (root_found found) i)
