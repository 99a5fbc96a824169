use Rattle.fv_script.proofs.Said.{same_block}
use Rattle.fv_script.proofs.files.put.Goals as goal

pub fill-requires-clause-zero : goal.fill-requires-clause-zero
fill-requires-clause-zero c = same_block _ _ _ _ _ _ _ _ c.in-Put.is
