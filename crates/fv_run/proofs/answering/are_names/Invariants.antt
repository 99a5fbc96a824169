use Rattle.std.proofs.Common.{◌≡◌, true, take}
use Rattle.std.specs.List.{All}
use Rattle.fv_model.specs.Spelling.{is_name}
use Rattle.fv_run.proofs.answering.are_names.Given as goal

abbrev pub invariant-loop-name : goal.invariant-loop-name
invariant-loop-name l = All (λ name. is_name name ≡ true) (take l.name-index l.names)
