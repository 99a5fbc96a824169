use Rattle.fv_core_rows.proofs.Gone.{still_ready}
use Rattle.fv_core_rows.proofs.going_on.fill.Goals as goal

pub loop-index-preserved : goal.loop-index-preserved
loop-index-preserved g c = λ none. (still_ready _ _ _ _ _ _ _ _ c.apply-answer.ensures.goes none).stands
