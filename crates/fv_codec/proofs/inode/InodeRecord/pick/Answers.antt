use Rattle.std.proofs.Common.{arith}
use Rattle.fv_codec.proofs.Picked.{length_fits, reserve_fits, levels_fit}
use Rattle.fv_codec.proofs.inode.InodeRecord.pick.Goals as goal

pub overflow_cast-result : goal.overflow_cast-result
overflow_cast-result c = omega (arith, c.word_at.ensures, length_fits c.args.bytes.now c.requires.room c.requires.said)

pub overflow_cast-result-2 : goal.overflow_cast-result-2
overflow_cast-result-2 c = omega (arith, c.word_at-2.ensures, reserve_fits c.args.bytes.now c.requires.room c.requires.said)

pub overflow_cast-result-3 : goal.overflow_cast-result-3
overflow_cast-result-3 c = omega (arith, c.word_at-3.ensures, levels_fit c.args.bytes.now c.requires.room c.requires.said)
