-- What a call answers that leaves its reply in what it was lent.
use Rattle.std.proofs.Common.{◌≡◌, Result, Err, ap}
use Rattle.fv_model.specs.declared.answers.Reply.{Reply}
use Rattle.fv_aggregate.specs.Answers.{answer}

-- a fault is answered, whatever stands there
pub fails : {E : Type 0} (reply : Reply) (result : Result Unit E) (e : E) → result ≡ Err e → answer reply result ≡ Err e
fails reply result e is = ap (answer reply) is
