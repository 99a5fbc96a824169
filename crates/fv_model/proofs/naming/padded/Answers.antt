use Rattle.std.proofs.Common.{◌++◌, length, replicate, drop, ℕ, List, ap, ◌∙◌}
use Rattle.fv_model.proofs.Padding.{zeros_left}
use Rattle.fv_model.proofs.naming.padded.Goals as goal

-- src/naming.rt:60:1
pub returns : goal.returns
returns c = ap (λ (x : List ℕ). x ++ drop (length c.args.word.now) (replicate 64 0)) c.copy_from_slice.ensures.after ∙ ap (λ (x : List ℕ). c.args.word.now ++ x) (zeros_left (length c.args.word.now))
