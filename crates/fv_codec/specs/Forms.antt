-- The forms of blocks on the way to a cell, and the pointer that leads nowhere.
use Rattle.std.specs.Prelude.{Bool, List, ℕ, is_ok}
use Rattle.fv_codec.specs.declared.form.Form.{Form}
use Rattle.fv_codec.specs.declared.form.Form.TheVariants.{Node, Inodes}
use Rattle.fv_codec.specs.declared.pointer.Pointer.{Pointer}
use Rattle.fv_codec.specs.Blocks.{node_at, inodes_at}

-- whether a block spells a node, or an inode block
abbrev pub has_form : Form → List ℕ → Bool
has_form Node block = is_ok (node_at block)
has_form Inodes block = is_ok (inodes_at block)

-- a pointer that leads to no block
abbrev pub hole : Pointer
hole = record { vvbn = 0; pvbn = 0; stamp = 0 }
