-- What a block is by the kind of its entry, where it stands alone: 2 to 4, 6 and 7 are nodes, 5 is an inode block. Data (1) and volume maps
-- (8) are any bytes and have no pointers.
use Rattle.std.specs.Prelude.{ℕ, Bool, ◌&&◌, ◌||◌, List, [], map, Option, Some, None, Ok, nat_le, ◌==◌, if◌then◌else◌}
use Rattle.fv_codec.specs.declared.form.Form.{Form}
use Rattle.fv_codec.specs.declared.form.Form.TheVariants.{Node, Inodes}
use Rattle.fv_codec.specs.declared.pointer.Pointer.{Pointer}
use Rattle.fv_codec.specs.declared.inode.InodeRecord.{InodeRecord}
use Rattle.fv_codec.specs.Fields.{Verdict, verdict_of}
use Rattle.fv_codec.specs.Blocks.{node_at, inodes_at}
use Rattle.fv_tables.specs.Spelled.{pointers_in}
use Rattle.fv_tables.specs.Told.{records_in}

abbrev pub is_node : ℕ → Bool
is_node kind = (nat_le 2 kind && nat_le kind 4) || (nat_le 6 kind && nat_le kind 7)

-- what has pointers
abbrev pub form_of : ℕ → Option Form
form_of kind = if is_node kind then Some Node else if kind == 5 then Some Inodes else None

-- what the shape of a block says
abbrev pub shape_in : Option Form → List ℕ → Verdict
shape_in None block = Ok tt
shape_in (Some Node) block = verdict_of (node_at block)
shape_in (Some Inodes) block = verdict_of (inodes_at block)

-- the pointers of a block that has its shape: those of a node, or the roots of the 16 records of an inode block
abbrev pub pointers_by : Option Form → List ℕ → List Pointer
pointers_by None block = []
pointers_by (Some Node) block = pointers_in (Some block)
pointers_by (Some Inodes) block = map (λ (r : InodeRecord). r.root) (records_in (Some block))
