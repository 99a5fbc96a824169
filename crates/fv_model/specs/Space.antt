-- Space: what a volume is charged for, what its files' reserves still need, and what it commits of its aggregate.
-- A name that ends in `_by` takes the version of the format. The same name without it is that of version 1, the only one that there is today.
use Rattle.std.specs.Prelude.{◌≡◌, ℕ, zero, suc, ◌+◌, ◌-◌, ◌*◌, ◌/◌, ◌%◌, ◌^◌, ◌≤◌, max, Bool, true, false, cond, nat_lt, nat_le, List, [], ◌∷◌, ◌++◌, map, filter, flat_map, sum_by, count_by, Option, Some, None}
use Rattle.std.specs.List.{range_with_len}
use Rattle.std.specs.Option.{option_map_or}
use Rattle.std.specs.FinMap as fin
use Rattle.std.specs.FinSet as set
use Rattle.fv_model.specs.declared.commands.Kind.{Kind}
use Rattle.fv_model.specs.declared.commands.Kind.TheVariants.{Volume as Whole, File as ByFile, Thin}
use Rattle.fv_model.specs.Numbers.{ceil_div}
use Rattle.fv_model.specs.Trees.{fan, spots_over}
use Rattle.fv_model.specs.Tables.{File, Table, inode_cell}
use Rattle.fv_model.specs.Places.{Place, InodeFile, OfFile, placed, Stamps, Ids, ids_of, stamps_of}
use Rattle.fv_model.specs.Volumes.{Base, Volume}
use Rattle.fv_model.specs.Machines.{Machine, capacity}

-- the blocks of a map with a bit for each number of a span
abbrev pub map_blocks : ℕ → ℕ
map_blocks span = ceil_div span 32768

-- the ids that are in one of these tables
abbrev pub ids_in_any : List Table → Ids
ids_in_any [] = set.empty
ids_in_any (t ∷ ts) = set.union (ids_of t) (ids_in_any ts)

-- the ids of a clone's base; none for a volume that is no clone
abbrev pub base_ids : Option Base → Ids
base_ids None = set.empty
base_ids (Some base) = ids_of base.table

-- the ids that a volume isn't charged for: its base's, until it is being split
abbrev pub ids_left_out : Option Base → Ids
ids_left_out None = set.empty
ids_left_out (Some base) = cond base.splitting set.empty (ids_of base.table)

-- the ids of a volume's snapshots
abbrev pub kept_ids : Volume → Ids
kept_ids v = ids_in_any (fin.values v.snapshots)

-- the blocks that a snapshot costs beside those that it shares: its map, and from version 2 on its record
abbrev pub snapshot_blocks : ℕ → ℕ → ℕ
snapshot_blocks version span = cond (nat_lt 1 version) (map_blocks span + 1) (map_blocks span)

-- the ids in the active table or a snapshot, without those left out, and what each snapshot costs
abbrev pub charge_by : ℕ → Volume → ℕ
charge_by version v =
    set.len (set.difference (set.union (ids_of v.active) (kept_ids v)) (ids_left_out v.base))
    + snapshot_blocks version v.span * fin.len v.snapshots

unfoldable pub charge : Volume → ℕ
charge v = charge_by 1 v

-- the ranges of level k that meet the indexes below a reserve, in file n
unfoldable pub reserved_at : ℕ → ℕ → ℕ → List Place
reserved_at n reserve k =
    map (λ p. record { owner = OfFile n; level = k; index = p }) (filter (λ p. nat_lt (p * fan ^ k) reserve) (range_with_len 0 reserve))

-- all places that a reserve stands for: those ranges at each level of file n, and its inode cell with the marks over it
unfoldable pub reserved_places : ℕ → ℕ → File → List Place
reserved_places inode_levels n f = cond (nat_lt 0 f.reserve)
    (flat_map (reserved_at n f.reserve) (range_with_len 0 (f.tree.levels + 1)) ++ map (placed InodeFile) (spots_over inode_levels (inode_cell n)))
    []

-- whether a write at a place takes a block: nothing stands there, or what stands there is shared
unfoldable pub needs_block : Ids → Stamps → Place → Bool
needs_block shared stamps p = option_map_or (λ s. set.contains shared (p, s)) (fin.get stamps p) true

-- the ids that a snapshot or the base has, too; a base counts also while the volume is being split
abbrev pub shared_ids : Volume → Ids
shared_ids v = set.union (kept_ids v) (base_ids v.base)

abbrev pub is_file_kind : Kind → Bool
is_file_kind Whole = false
is_file_kind ByFile = true
is_file_kind Thin = false

-- the blocks that the reserves of a volume of kind `file` still need
unfoldable pub need : Volume → ℕ
need v = cond (is_file_kind v.kind)
    (sum_by (λ e. count_by (needs_block (shared_ids v) (stamps_of v.active)) (reserved_places v.active.inode.levels e.0 e.1)) (fin.entries v.active.files))
    0

abbrev pub use_of : Volume → ℕ
use_of v = charge v + need v

abbrev pub use_by : ℕ → Volume → ℕ
use_by version v = charge_by version v + need v

-- the nodes of 256 entries above n of them, up to one root
unfoldable pub nodes_above : ℕ → ℕ → ℕ
nodes_above zero n = 0
nodes_above (suc fuel) n = cond (nat_le n 256) 1 (ceil_div n 256 + nodes_above fuel (ceil_div n 256))

-- the entries of a container: one for each number of the span and for each block of 25 maps, from version 2 on of 256 maps and for 256 records
abbrev pub entries_by : ℕ → ℕ → ℕ
entries_by version span = cond (nat_lt 1 version) (span + 256 * map_blocks span + 256) (span + 25 * map_blocks span)

-- Behind the span lie the blocks of the maps, slot after slot: the slot whose map has the block of a number there, and which block of that map it
-- is. A span of 40,960 has 2 blocks to a map; so the number 40,965 is that of block 1 of the map of slot 2.
abbrev pub map_slot : ℕ → ℕ → ℕ
map_slot span v = (v - span) / map_blocks span

abbrev pub map_index : ℕ → ℕ → ℕ
map_index span v = (v - span) % map_blocks span

-- the leaves of a container
abbrev pub leaves_by : ℕ → ℕ → ℕ
leaves_by version span = ceil_div (entries_by version span) 256

abbrev pub leaves : ℕ → ℕ
leaves span = leaves_by 1 span

-- the blocks that a volume needs beside its data: a label, the active map, and its container (of at most 256^8 leaves)
abbrev pub overhead_by : ℕ → ℕ → ℕ
overhead_by version span = 1 + map_blocks span + leaves_by version span + nodes_above 8 (leaves_by version span)

unfoldable pub overhead : ℕ → ℕ
overhead span = overhead_by 1 span

-- what a volume of kind `volume` commits is its size, and what another commits is its use
abbrev pub promised : Volume → Kind → ℕ
promised v Whole = v.size
promised v ByFile = use_of v
promised v Thin = use_of v

abbrev pub promised_by : ℕ → Volume → Kind → ℕ
promised_by version v Whole = v.size
promised_by version v ByFile = use_by version v
promised_by version v Thin = use_by version v

abbrev pub commit : Volume → ℕ
commit v = 2 * overhead v.span + promised v v.kind

abbrev pub commit_by : ℕ → Volume → ℕ
commit_by version v = 2 * overhead_by version v.span + promised_by version v v.kind

-- the sum of all volumes' commits
abbrev pub commits : Machine → ℕ
commits m = sum_by (λ e. commit e.1) (fin.entries m.volumes)

-- the span of a new volume: a multiple of 4096 that has room for twice its size and for its base's ids, with 256 to spare,
-- and that isn't below the span of its parent or source
abbrev pub span_of : ℕ → ℕ → ℕ → ℕ
span_of size base at_least = 4096 * ceil_div (max (2 * size + base + 256) at_least) 4096

-- the rule that every command keeps: no volume uses more than its size, and all commits fit the capacity
pub record IsAdmitted (m : Machine) : Type 0 where
  pub volumes : (name : List ℕ) (v : Volume) → fin.get m.volumes name ≡ Some v → use_of v ≤ v.size
  pub aggregate : commits m ≤ capacity m.blocks
