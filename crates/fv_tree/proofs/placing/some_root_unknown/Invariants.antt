use Rattle.std.proofs.Common.{◌≡◌, drop}
use Rattle.std.specs.List.{list_any}
use Rattle.fv_codec.specs.declared.inode.InodeRecord.{InodeRecord}
use Rattle.fv_tree.specs.Flushing.{is_unknown}
use Rattle.fv_tree.proofs.placing.some_root_unknown.Given as goal

abbrev pub invariant-loop-file : goal.invariant-loop-file
invariant-loop-file l = list_any (λ (r : InodeRecord). is_unknown r.root) l.files ≡ list_any (λ (r : InodeRecord). is_unknown r.root) (drop l.file-index l.files)
