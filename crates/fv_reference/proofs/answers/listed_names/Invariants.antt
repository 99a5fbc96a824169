use Rattle.std.proofs.Common.{◌≡◌, ◌++◌, map}
use Rattle.fv_reference.proofs.answers.listed_names.Given as goal

abbrev pub invariant-loop-number : goal.invariant-loop-number
invariant-loop-number l = l.listed.items ++ map (λ e. (e.1.name, e.0)) l.number-iterator ≡ map (λ e. (e.1.name, e.0)) l.files.entries
