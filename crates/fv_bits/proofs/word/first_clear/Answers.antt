use Rattle.std.proofs.Common.{rules}
use Rattle.fv_bits.proofs.Numbers.{first_clear_bit}
use Rattle.fv_bits.proofs.word.first_clear.Goals as goal

pub returns : goal.returns
returns c = search (rules, first_clear_bit)
