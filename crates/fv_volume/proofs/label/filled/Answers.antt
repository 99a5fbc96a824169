use Rattle.std.proofs.Common.{◌++◌, length, replicate, drop, ℕ, List, ap, ◌∙◌}
use Rattle.fv_volume.proofs.Naming.{zeros_left}
use Rattle.fv_volume.proofs.label.filled.Goals as goal

pub returns : goal.returns
returns c = ap (λ (x : List ℕ). x ++ drop (length c.args.bytes.now) (replicate 64 0)) c.copy_from_slice.ensures.after ∙ ap (λ (x : List ℕ). c.args.bytes.now ++ x) (zeros_left (length c.args.bytes.now))
