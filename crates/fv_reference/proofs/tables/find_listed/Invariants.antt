use Rattle.std.proofs.Common.{◌≡◌, find}
use Rattle.fv_model.specs.Spelling.{is_same_name}
use Rattle.fv_reference.proofs.tables.find_listed.Given as goal

abbrev pub invariant-loop-number : goal.invariant-loop-number
invariant-loop-number l =
    find (λ e. is_same_name e.1.name l.name) l.number-iterator ≡ find (λ e. is_same_name e.1.name l.name) l.files.entries
