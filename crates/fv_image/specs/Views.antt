-- What an aggregate holds, as functions of numbers alone: the head of the volume in each slot, and what each VVBN
-- of it leads to, with the block itself. Images with equal views are told apart by nothing that is said of views.
use Rattle.std.specs.Prelude.{ℕ, zero, suc, ◌+◌, ◌-◌, ◌*◌, max, Bool, cond, not, ◌&&◌, List, [], ◌∷◌, map, take, filter_map, sum_by, count_by, Option, Some, None, nat_lt, nat_le, ◌==◌, if◌then◌else◌}
use Rattle.std.specs.List.{list_any, range_with_len, slice_get}
use Rattle.std.specs.Option.{is_some, option_map, option_map_or, option_and_then}
use Rattle.fv_bits.specs.Bits.{bit_of_area}
use Rattle.fv_codec.specs.declared.pointer.Pointer.{Pointer}
use Rattle.fv_codec.specs.declared.label.SnapRecord.{SnapRecord}
use Rattle.fv_codec.specs.declared.label.Label.{Label}
use Rattle.fv_model.specs.declared.commands.Kind.{Kind}
use Rattle.fv_model.specs.declared.commands.Kind.TheVariants.{Volume as Whole, File as ByFile, Thin}
use Rattle.fv_model.specs.Machines.{first_block}
use Rattle.fv_model.specs.Space.{map_blocks, entries_by, overhead}
pub use Rattle.fv_model.specs.Space.{map_slot, map_index}
use Rattle.fv_image.specs.Layout.{block_bits}

-- an entry of a container that isn't a hole: its place and its kind, with the block at that place
pub record Placed : Type 0 where
  pub pvbn : ℕ
  -- 1 for data, 2 to 4 for nodes of files, 5 for inode blocks, 6 and 7 for nodes of the inode file, 8 for map blocks
  pub kind : ℕ
  pub block : List ℕ

-- a table as a label names it: the levels of its inode file, and the pointer to that file's root
pub record Rooted : Type 0 where
  pub levels : ℕ
  pub root : Pointer

-- what is said of the snapshot in a map slot
pub record SnapSaid : Type 0 where
  pub name : List ℕ
  pub table : Rooted

-- what is said of a volume's snapshots, by map slot; none where the map slot has no snapshot
abbrev pub SnapsSaid : Type 0
SnapsSaid = ℕ → Option SnapSaid

-- a snapshot, with its map slot from 1 on
pub record Snap : Type 0 where
  pub slot : ℕ
  pub name : List ℕ
  pub table : Rooted

-- what a clone stands on: the slot of its parent, the map slot of the parent's snapshot, and whether it is being split
pub record Footing : Type 0 where
  pub parent : ℕ
  pub slot : ℕ
  pub splitting : Bool

-- what is said of a volume. Where its container lies isn't part of it.
pub record Head : Type 0 where
  pub name : List ℕ
  pub kind : Kind
  pub size : ℕ
  pub most : ℕ
  pub span : ℕ
  pub now : ℕ
  pub base : Option Footing
  pub known : Bool
  pub active : Rooted
  pub snapshots : List Snap

-- an aggregate with its volumes
pub record View : Type 0 where
  -- of the aggregate
  pub blocks : ℕ
  -- of the format
  pub version : ℕ
  -- by slot
  pub head : ℕ → Option Head
  -- by slot and VVBN; none for a hole
  pub entry : ℕ → ℕ → Option Placed

-- ---- the head of a slot

-- the kind of a space guarantee by its number
abbrev pub kind_named : ℕ → Kind
kind_named n = if n == 0 then Whole else (if n == 1 then ByFile else Thin)

-- a parent of 0 is none; else it is the parent's slot plus 1
abbrev pub footing_of : Label → Option Footing
footing_of l = if l.parent == 0 then None else Some (record { parent = l.parent - 1; slot = l.base_slot; splitting = l.splitting == 1 })

-- what a label says, with its name's own bytes alone, and with these snapshots
abbrev pub label_head : Label → List Snap → Head
label_head l snapshots = record {
  name = take l.name_length l.name;
  kind = kind_named l.kind;
  size = l.size;
  most = l.most;
  span = l.span;
  now = l.now;
  base = footing_of l;
  known = l.known == 1;
  active = record { levels = l.levels; root = l.root };
  snapshots = snapshots;
}

-- the map slots that a version of the format has for snapshots are those from 1 to this number
abbrev pub snapshot_slots : ℕ → ℕ
snapshot_slots version = cond (nat_lt 1 version) 255 24

-- a snapshot of which this is said, in its map slot
abbrev pub snap_told : ℕ → SnapSaid → Snap
snap_told slot x = record { slot = slot; name = x.name; table = x.table }

-- the snapshots that are told of, by map slots from 1 on
unfoldable pub snaps_told : ℕ → SnapsSaid → List Snap
snaps_told version said = filter_map (λ slot. option_map (snap_told slot) (said slot)) (range_with_len 1 (snapshot_slots version))

-- The head of a slot: what its label says, with the snapshots told of by map slot. Where a snapshot's name and root stand is
-- the version's affair; in version 1 it is the label, too.
unfoldable pub head_at_slot : ℕ → Label → SnapsSaid → Head
head_at_slot version l said = label_head l (snaps_told version said)

-- ---- version 1: a label with the records of its snapshots

-- what a record says. One that isn't used says nothing; its name has no byte.
abbrev pub said_by : SnapRecord → Option SnapSaid
said_by r = if r.name_length == 0 then None else Some (record { name = take r.name_length r.name; table = record { levels = r.levels; root = r.root } })

-- the label's first record is that of map slot 1, its last that of map slot 24
abbrev pub label_records : Label → SnapsSaid
label_records l zero = None
label_records l (suc j) = option_and_then said_by (slice_get l.snapshots j)

-- the snapshots of the used ones among the records from a map slot on
unfoldable pub snaps_from : ℕ → List SnapRecord → List Snap
snaps_from j [] = []
snaps_from j (r ∷ rs) = if r.name_length == 0 then snaps_from (j + 1) rs
    else record { slot = j; name = take r.name_length r.name; table = record { levels = r.levels; root = r.root } } ∷ snaps_from (j + 1) rs

-- the same head record by record: `head_at_slot` of a label with its own records (law `own_head`)
unfoldable pub head_of : Label → Head
head_of l = label_head l (snaps_from 1 l.snapshots)

-- ---- slots and VVBNs

-- the slots that volumes can have
unfoldable pub slots : List ℕ
slots = range_with_len 0 64

-- how many entries a container has: one for each VVBN of the span, and for each block of 25 maps
abbrev pub entry_count : ℕ → ℕ
entry_count span = entries_by 1 span

-- the numbers that have an entry: the VVBNs of the span, and those of map blocks behind them
unfoldable pub vvbns : ℕ → List ℕ
vvbns span = range_with_len 0 (entry_count span)

-- The VVBN of block k of the map of a slot; slot 0 has the active map, slots 1 to 24 have those of snapshots. The other side, slot and block by
-- the VVBN, are `map_slot` and `map_index`.
abbrev pub map_vvbn : ℕ → ℕ → ℕ → ℕ
map_vvbn span slot k = span + (slot * map_blocks span + k)

-- the kind of an entry that leads to a block of a map
abbrev pub map_kind : ℕ
map_kind = 8

-- what a VVBN behind the span belongs to: a slot of the volume's maps, and there a block of this kind, the one with this index
pub record Behind : Type 0 where
  pub slot : ℕ
  pub kind : ℕ
  pub index : ℕ

-- What lies behind the span, by VVBN: the blocks of 25 maps, slot after slot. So with a span of 40,960, of which a map has 2 blocks, 40,965 is
-- block 1 of the map of slot 2. A VVBN of the span isn't behind it, and past the last map lies nothing.
abbrev pub behind : ℕ → ℕ → Option Behind
behind span v = if nat_le span v && nat_lt v (entry_count span)
    then Some (record { slot = map_slot span v; kind = map_kind; index = map_index span v })
    else None

-- ---- the maps of a volume

-- the kind of an entry, 0 for a hole
abbrev pub kind_at : Option Placed → ℕ
kind_at None = 0
kind_at (Some x) = x.kind

-- what an entry leads to; a hole leads to nothing
abbrev pub block_in : Option Placed → List ℕ
block_in None = []
block_in (Some x) = x.block

-- bit v of the map of a slot, in the volume of slot s with this span; past its blocks it is clear
unfoldable pub volume_bit : View → ℕ → ℕ → ℕ → ℕ → Bool
volume_bit w s span slot v = nat_lt v (block_bits * map_blocks span) && bit_of_area (λ k. block_in (w.entry s (map_vvbn span slot k))) v

-- the map slots in use
abbrev pub used_slots : Head → List ℕ
used_slots h = 0 ∷ map (λ p. p.slot) h.snapshots

-- A VVBN of the span is held where it is in some map that is in use, and that of a map block while its slot is in use.
unfoldable pub is_held_in : View → ℕ → Head → ℕ → Bool
is_held_in w s h v = if nat_lt v h.span
    then list_any (λ slot. volume_bit w s h.span slot v) (used_slots h)
    else list_any (λ slot. slot == map_slot h.span v) (used_slots h)

-- the VVBNs of the active map's blocks
abbrev pub is_active_map : Head → ℕ → Bool
is_active_map h v = nat_le h.span v && nat_lt v (h.span + map_blocks h.span)

-- an entry is delayed where it isn't a hole though no map holds its VVBN: its block was freed in the volume and not yet in the aggregate
abbrev pub is_delayed : View → ℕ → Head → ℕ → Bool
is_delayed w s h v = is_some (w.entry s v) && not (is_held_in w s h v)

-- an entry is a volume's own where it is held and isn't a block of the active map
abbrev pub is_own : View → ℕ → Head → ℕ → Bool
is_own w s h v = is_some (w.entry s v) && (is_held_in w s h v && not (is_active_map h v))

-- ---- sums over the volumes

-- a number of each volume, summed over the slots in use
abbrev pub sum_of_heads : View → (ℕ → Head → ℕ) → ℕ
sum_of_heads w number = sum_by (λ s. option_map_or (number s) (w.head s) 0) slots

-- the delayed entries of all volumes
unfoldable pub delayed : View → ℕ
delayed w = sum_of_heads w (λ s h. count_by (is_delayed w s h) (vvbns h.span))

-- the entries that are the volumes' own
unfoldable pub own : View → ℕ
own w = sum_of_heads w (λ s h. count_by (is_own w s h) (vvbns h.span))

-- the overheads of all volumes
unfoldable pub overheads : View → ℕ
overheads w = sum_of_heads w (λ s h. overhead h.span)

-- The space rule: beside the volumes' own blocks and the delayed ones, there is room for all overheads twice, and for
-- 256 blocks, or for more where the event that asked for a consistency point needs more.
abbrev pub leaves_room : View → ℕ → Bool
leaves_room w room = nat_le (2 * overheads w + max 256 room) (w.blocks - first_block w.blocks - own w - delayed w)
