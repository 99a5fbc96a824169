use Rattle.std.proofs.Common.{refl}
use Rattle.std.proofs.lemmas.List.{get_or-replicate}
use Rattle.fv_delay.proofs.threshold.Table.new.Goals as goal

pub returns : goal.returns
returns c = record {
  all = refl;
  full = refl;
  partial = λ n d lt. get_or-replicate 64 n 0 d lt;
}
