use Rattle.fv_script.proofs.Befores.{goes_on}
use Rattle.fv_script.proofs.finding.before.Goals as goal

pub returns : goal.returns
returns c = goes_on _ _ _ _ c.pieces_without-whole.ensures.within c.pieces_without-whole.ensures.lacks c.count_before.ensures.value
