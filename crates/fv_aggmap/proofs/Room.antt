-- A map that was read from a sound image has free blocks for all overheads, and for what the space rule leaves beside them.
use Rattle.std.proofs.Common.{◌≡◌, ℕ, ◌+◌, ◌-◌, ◌<◌, ◌≤◌, Bool, List, true, false, not, length, ap, ◌∙◌, arith}
use Rattle.std.specs.Prelude.{max, slice_set}
use Rattle.fv_disk.specs.Shown.{Image}
use Rattle.fv_bits.specs.Members.{is_member}
use Rattle.fv_bits.proofs.Counts.{passing, passing_same}
use Rattle.fv_model.specs.Machines.{first_block}
use Rattle.fv_image.specs.Held.{Layout, layout_at, view_at}
use Rattle.fv_image.specs.Views.{overheads, leaves_room}
use Rattle.fv_image.specs.Soundness.{IsSound}
use Rattle.fv_image.proofs.Counted.{HasHeads, image_has_heads}
use Rattle.fv_image.proofs.Room.{clear_count, clear_room, sound_room}
use Rattle.fv_root.specs.declared.find.Found.{Found}
use Rattle.fv_root.specs.Finding.{root_found}
use Rattle.fv_aggmap.specs.Loading.{IsLoaded}
use Rattle.fv_aggmap.specs.Space.{Space, is_held, free_from, free_blocks, blocks_of, IsFree, IsFull}
use Rattle.fv_aggmap.proofs.Holding.{or_same}
use Rattle.fv_aggmap.proofs.Counting.{taken_count, released_count}
use Rattle.fv_image.proofs.Counts.{none_between}

-- both sets of a space are the bits of a layout's map
pub record HasMap (y : Layout) (space : Space) : Type 0 where
  pub len : blocks_of space ≡ y.view.blocks
  pub bits : (b : ℕ) → is_member space.committed b ≡ y.bit b
  pub same : space.next ≡ space.committed

pub map_when_loaded : (i : Image) (found : Found) (space : Space) → IsLoaded i found space → HasMap (layout_at (root_found found) i) space
unfolding layout_at view_at
map_when_loaded i found space loaded = record { len = loaded.len; bits = loaded.bits; same = loaded.same }

-- what is free in such a space is what has no bit
pub free_is_clear : (y : Layout) (space : Space) → HasMap y space → free_blocks space ≡ clear_count y
unfolding free_from
free_is_clear y space is =
    let first = first_block y.view.blocks in
    let n = y.view.blocks - first in
    let free : ℕ → Bool = λ b. not (is_held space.committed space.next b) in
    let here : (b : ℕ) → free b ≡ not (y.bit b) = λ b. ap (λ (next : List Bool). not (is_held space.committed next b)) is.same ∙ ap not (or_same (is_member space.committed b) ∙ is.bits b) in
    ap (λ (len : ℕ). passing free (first_block len) (len - first_block len)) is.len ∙ passing_same free (λ b. not (y.bit b)) first first n (λ j lt. here (first + j))

-- Where the space rule holds with so much room, as many blocks are free beside all overheads.
pub room_in_space : (y : Layout) (space : Space) (room : ℕ) → HasMap y space → HasHeads y → IsSound y → leaves_room y.view room ≡ true → overheads y.view + max 256 room ≤ free_blocks space
room_in_space y space room map heads is rule = omega (arith, free_is_clear y space map, clear_room y room heads is.blocks rule)

-- The same of a map that was read.
pub room_when_loaded : (i : Image) (found : Found) (space : Space) (room : ℕ) → IsLoaded i found space → IsSound (layout_at (root_found found) i)
    → leaves_room (view_at (root_found found) i) room ≡ true → overheads (view_at (root_found found) i) + max 256 room ≤ free_blocks space
unfolding layout_at
room_when_loaded i found space room loaded is rule =
    room_in_space (layout_at (root_found found) i) space room (map_when_loaded i found space loaded) (image_has_heads (root_found found) i) is rule

-- A sound image has free blocks for all overheads and 256 more.
pub room_when_sound : (i : Image) (found : Found) (space : Space) → IsLoaded i found space → IsSound (layout_at (root_found found) i) → overheads (view_at (root_found found) i) + 256 ≤ free_blocks space
unfolding layout_at
room_when_sound i found space loaded is =
    let y = layout_at (root_found found) i in
    omega (arith, free_is_clear y space (map_when_loaded i found space loaded), sound_room y (image_has_heads (root_found found) i) is)

-- ---- what callers know of a count

-- Where a block is free, a search finds one.
pub one_is_found : (space : Space) → 0 < free_blocks space → IsFull space → ⊥
unfolding free_from
one_is_found space some full =
    let first = first_block (blocks_of space) in
    let none = none_between (λ b. not (is_held space.committed space.next b)) first (blocks_of space - first) (λ b low high. ap not (full.held b low (omega (arith, low, high)))) in
    omega (arith, some, none)

-- A block that is taken leaves one free block less.
pub one_less : (old new : Space) (b : ℕ) → length old.next ≡ blocks_of old → IsFree old b → new ≡ record old { next = slice_set old.next b true } → free_blocks new + 1 ≡ free_blocks old
one_less old new b long free is = ap (λ (space : Space). free_blocks space + 1) is ∙ taken_count old.committed old.next (first_block (blocks_of old)) b long free

-- One that is released leaves no fewer.
pub no_fewer : (old new : Space) (b : ℕ) → length old.next ≡ blocks_of old → b < blocks_of old → new ≡ record old { next = slice_set old.next b false } → free_blocks old ≤ free_blocks new
no_fewer old new b long within is =
    let same = ap (λ (space : Space). free_blocks space) is in
    omega (arith, same, released_count old.committed old.next (first_block (blocks_of old)) b long within)
