use Rattle.fv_model.specs.Replies.{answer}
use Rattle.fv_reference.proofs.answers.answer.Goals as goal

pub returns-in-Len : goal.returns-in-Len
unfolding answer
returns-in-Len c = rw c.in-Len.is c.length.ensures
