-- The pointers in a block, by the kind of its entry. Data has none, whatever its bytes look like: a file may hold a copy of a node.
use Rattle.std.specs.Prelude.{◌%◌, Option, Bool, not, ◌&&◌, ◌≡◌, ◌≢◌, ◌<◌, ℕ, true, false, List, [], map, Some, ◌==◌, if◌then◌else◌, get_or}
use Rattle.std.specs.Option.{option_map_or}
use Rattle.fv_codec.specs.declared.pointer.Pointer.{Pointer}
use Rattle.fv_codec.specs.declared.inode.InodeRecord.{InodeRecord}
use Rattle.fv_model.specs.Trees.{fan}
use Rattle.fv_tables.specs.Spelled.{hole, pointers_in}
use Rattle.fv_tables.specs.Told.{records_each, records_in, free_record}
use Rattle.fv_tables.specs.Reached.{Item}
use Rattle.fv_image.specs.Views.{Placed, View, kind_at}
use Rattle.fv_image.specs.Chains.{place}
use Rattle.fv_image.specs.HintRules.{is_unknown, is_in_label}

-- none in data, the roots of files in an inode block, else those of a node
abbrev pub pointers_inside : Placed → List Pointer
pointers_inside x =
    if x.kind == 1 then [] else if x.kind == 5 then map (λ (r : InodeRecord). r.root) (records_in (Some x.block))
    else pointers_in (Some x.block)

-- those in the block under a VVBN of a volume
abbrev pub pointers_under : View → ℕ → ℕ → List Pointer
pointers_under w s v = option_map_or pointers_inside (place w s v) []

-- Where a position stands in the block that holds it: in an inode block by the number of its file, in a node by its place. An example:
-- cell 300 of a file stands at index 44 of its node, and the root of file 37 at index 5 of its inode block.
abbrev pub index_at : Option Placed → Item → ℕ
index_at at e = if kind_at at == 5 then e.owner % records_each else e.place % fan

-- a pointer stands in a block; past its last one there are holes
abbrev pub StandsIn : Placed → Pointer → Type 0
StandsIn x q = (i : ℕ) × (q ≡ get_or (pointers_inside x) i hole)

-- no place is known in a block
abbrev pub IsBlank : Placed → Type 0
IsBlank x = (q : Pointer) → StandsIn x q → q.pvbn ≡ 0

-- A block holds an unknown pointer: a node at one of its 128 indices, an inode block as the root of a file. Data holds none.
pub record HoldsUnknown (x : Placed) : Type 0 where
  pub not_data : x.kind ≢ 1
  pub node : x.kind ≢ 5 → (i : ℕ) × ((i < fan) × (is_unknown (get_or (pointers_in (Some x.block)) i hole) ≡ true))
  pub inode : x.kind ≡ 5 → (i : ℕ) × ((i < records_each) × ((is_unknown (get_or (records_in (Some x.block)) i free_record).root ≡ true)
      × (((get_or (records_in (Some x.block)) i free_record).name_length == 0) ≡ false)))

-- an unknown pointer that stands in the block under a VVBN
abbrev pub is_unknown_in : ℕ → Item → Bool
is_unknown_in v e = is_unknown e.pointer && (not (is_in_label e) && (e.holder.vvbn == v))
