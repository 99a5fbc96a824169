use Rattle.std.proofs.Common.{false}
use Rattle.std.proofs.lemmas.List.{get_or-replicate}
use Rattle.fv_cp.proofs.planning.Plan.new.Goals as goal

pub returns : goal.returns
returns c = λ s inside. get_or-replicate 64 s false false inside
