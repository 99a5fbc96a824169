use Rattle.std.proofs.Common.{◌≡◌, drop}
use Rattle.fv_codec.specs.Blocks.{all_free}
use Rattle.fv_inode.proofs.records.all_free.Given as goal

abbrev pub invariant-loop-file : goal.invariant-loop-file
invariant-loop-file l = all_free l.files ≡ all_free (drop l.file-index l.files)
