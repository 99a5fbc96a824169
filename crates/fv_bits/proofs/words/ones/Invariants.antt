use Rattle.std.proofs.Common.{◌≡◌, ◌*◌, ◌≤◌, take, sum_by, count_ones}
use Rattle.fv_bits.proofs.words.ones.Given as goal

abbrev pub invariant-loop-word : goal.invariant-loop-word
invariant-loop-word l = record { value : l.total ≡ sum_by count_ones (take l.word-index l.words); bound : l.total ≤ 64 * l.word-index }
