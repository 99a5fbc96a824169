-- What is granted to a snapshot that isn't refused.
use Rattle.std.specs.Prelude.{ℕ, Result, Ok, Err}
use Rattle.fv_model.specs.declared.answers.Refusal.{Refusal}
use Rattle.fv_snapshot.specs.declared.creating.Granted.{Granted}

-- the map slot that it gets
abbrev pub slot_granted : Result Granted Refusal → Result ℕ Refusal
slot_granted (Ok granted) = Ok granted.slot
slot_granted (Err r) = Err r
