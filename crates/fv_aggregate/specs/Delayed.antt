-- Whether entries are delayed in an aggregate that was just opened, by counts alone: of the blocks that are held, beside labels and nodes of
-- containers, those that lie under no entry that a volume holds.
use Rattle.std.specs.Prelude.{◌≡◌, ◌+◌, ℕ, Bool, true, false, not, ◌&&◌, ◌||◌, ◌==◌, List, [], length, count_by, sum_by, Option, Some, None}
use Rattle.std.specs.List.{list_any, range_with_len}
use Rattle.std.specs.FinSet as set
use Rattle.std.specs.Ordering.{nat_cmp}
use Rattle.fv_bits.specs.Members.{is_member}
use Rattle.fv_model.specs.Space.{map_blocks}
use Rattle.fv_container.specs.Chains.{Slots, map_in, paged_at, slot_count}
use Rattle.fv_container.specs.Freeing.{IsRoom, Room}
use Rattle.fv_container.specs.Mapped.{Mapped}
use Rattle.fv_container.specs.Paged.{Paged}
use Rattle.fv_container.specs.Spelled.{is_at, names}
use Rattle.fv_pool.specs.declared.pool.Pool.{Pool}
use Rattle.fv_volume.specs.declared.state.VolumeState.{VolumeState}
use Rattle.fv_volume.specs.States.{States, label_in_state, state_at}
use Rattle.fv_aggregate.specs.declared.delays.Left.{Left}

-- ---- blocks that are taken out of a set

-- a set of blocks loses those that pass a test
abbrev pub LosesThose : List Bool → (ℕ → Bool) → List Bool → Type 0
LosesThose old test new = (b : ℕ) → is_member new b ≡ (is_member old b && not (test b))

-- the blocks that are left, as a map of blocks none of which is free
abbrev pub room_left : Left → Room
room_left left = record { free = set.empty; held = is_member left.blocks; committed = [] }

pub is_room_left : (left : Left) → IsRoom (room_left left)
is_room_left left = record { places = λ b free. absurd (nothing b (set.contains-empty nat_cmp b) free) }
  where
    nothing : (b : ℕ) → {t : Bool} → t ≡ false → t ≡ true → ⊥
    nothing b none some = cc

-- ---- blocks under entries

-- whether a block is a node of a container
abbrev pub has_node : Option Mapped → ℕ → Bool
has_node None b = false
has_node (Some map) b = names map.tree b

-- whether it is a volume's label, or a node of its container
abbrev pub is_frame : Option VolumeState → Option Paged → ℕ → Bool
is_frame state container b = is_at b (label_in_state state) || has_node (map_in container) b

-- whether it is so of a volume of the first slots
abbrev pub is_framed : States → Slots → ℕ → ℕ → Bool
is_framed states containers count b = list_any (λ s. is_frame (state_at states s) (paged_at containers s) b) (range_with_len 0 count)

-- how many blocks the next root will hold beside labels and nodes
unfoldable pub blocks_under : Pool → States → ℕ
blocks_under pool states = count_by (λ b. is_member pool.map.next b && not (is_framed states pool.containers slot_count b)) (range_with_len 0 (length pool.map.next))

-- ---- entries that are held

-- How many VVBNs a volume holds: those that it is charged for, with the blocks of snapshots' maps, and those of its active map.
abbrev pub held_by : Option VolumeState → ℕ
held_by None = 0
held_by (Some x) = x.ledger.charge + map_blocks x.span

-- those of the volumes of the first slots
abbrev pub held_in : States → ℕ → ℕ
held_in states count = sum_by (λ s. held_by (state_at states s)) (range_with_len 0 count)

-- Whether the two differ. Over a sound image each VVBN that is held has an entry, so it is the number of delayed ones by which they do.
unfoldable pub has_more : Pool → States → Bool
has_more pool states = not (blocks_under pool states == held_in states slot_count)
