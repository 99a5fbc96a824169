-- What a call answers that leaves its reply in what it was lent.
use Rattle.std.specs.Prelude.{Result, Ok, Err}
use Rattle.fv_model.specs.declared.answers.Reply.{Reply}
use Rattle.fv_model.specs.declared.answers.Reply.TheVariants.{Content}

-- the reply, where the call was done, and else its fault
abbrev pub answer : {E : Type 0} → Reply → Result Unit E → Result Reply E
answer reply (Ok done) = Ok reply
answer reply (Err fault) = Err fault

-- a block is the reply
abbrev pub IsContent : Reply → Type 0
IsContent (Content block) = Unit {0}
IsContent reply = ⊥
