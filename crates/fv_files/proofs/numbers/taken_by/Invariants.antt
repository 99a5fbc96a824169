use Rattle.std.proofs.Common.{◌≡◌, ◌<◌, ◌||◌, ℕ, nat_eq}
use Rattle.std.specs.List.{list_any}
use Rattle.fv_model.specs.Numbers.{most_files}
use Rattle.fv_files.specs.Numbering.{has_value, is_taken}
use Rattle.fv_files.proofs.numbers.taken_by.Given as goal

-- what is taken, and what comes, are all values
abbrev pub invariant-loop-number : goal.invariant-loop-number
invariant-loop-number l = (n : ℕ) → n < most_files → (is_taken l.taken n || list_any (nat_eq n) l.number-iterator) ≡ has_value l.by_name n
