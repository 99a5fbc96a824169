use Rattle.std.proofs.Common.{◌++◌, length, replicate, drop, ℕ, List, ap, ◌∙◌}
use Rattle.std.proofs.lemmas.List.{drop-replicate}
use Rattle.fv_inode.proofs.create.padded.Goals as goal

pub returns : goal.returns
returns c = ap (λ (x : List ℕ). x ++ drop (length c.args.bytes.now) (replicate 64 0)) c.copy_from_slice.ensures.after ∙ ap (λ (x : List ℕ). c.args.bytes.now ++ x) (drop-replicate (length c.args.bytes.now) 64 0)
