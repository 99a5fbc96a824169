use Rattle.std.proofs.Common.{refl, arith}
use Rattle.fv_codec.specs.Bytes.{zeros}
use Rattle.fv_codec.proofs.page.Page.new.Goals as goal

pub invariant_of-result : goal.invariant_of-result
unfolding zeros
invariant_of-result c = (omega arith, refl)
