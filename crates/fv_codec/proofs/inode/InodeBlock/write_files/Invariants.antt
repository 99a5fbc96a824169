use Rattle.std.proofs.Common.{◌≡◌, ◌+◌, ◌*◌, ◌++◌, length, take}
use Rattle.std.specs.List.{flat_map}
use Rattle.fv_codec.specs.Spelling.{file_bytes}
use Rattle.fv_codec.proofs.inode.InodeBlock.write_files.Given as goal

abbrev pub invariant-loop-file : goal.invariant-loop-file
invariant-loop-file l = record {
  long : length l.page ≡ length l.fn.page + 240 * l.file-index;
  written : l.page ≡ l.fn.page ++ flat_map file_bytes (take l.file-index l.files);
}
