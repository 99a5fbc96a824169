use Rattle.std.proofs.Common.{◌≡◌, ◌++◌, ℕ, List, length, take}
use Rattle.fv_codec.specs.declared.inode.InodeRecord.{InodeRecord}
use Rattle.fv_faults.specs.Walks.{name_lines, used_from}
use Rattle.fv_walk.specs.Naming.{IsNames}
use Rattle.fv_walk.specs.Noting.{AddsAll}
use Rattle.fv_walk.proofs.names.Names.note_files.Given as goal

abbrev pub invariant-loop-slot : goal.invariant-loop-slot
invariant-loop-slot l = record {
  long : length l.files ≡ 16;
  lines : (met : List (ℕ × InodeRecord)) → IsNames met l.fn.self
      → AddsAll (name_lines l.block met (used_from l.first (take l.slot l.files))) l.fn.lines l.lines l.clean;
  names : (met : List (ℕ × InodeRecord)) → IsNames met l.fn.self → IsNames (met ++ used_from l.first (take l.slot l.files)) l.self;
}
