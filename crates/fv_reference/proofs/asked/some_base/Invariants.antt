use Rattle.std.proofs.Common.{◌≡◌, false}
use Rattle.std.specs.List.{list_any}
use Rattle.std.specs.Option.{option_map_or}
use Rattle.fv_reference.specs.Bases.{stands_on}
use Rattle.fv_reference.proofs.asked.some_base.Given as goal

abbrev pub invariant-loop-counted : goal.invariant-loop-counted
invariant-loop-counted l =
    list_any (λ e. option_map_or (λ b. stands_on b l.parent l.snapshot) e.1.base false) l.counted-iterator ≡ list_any (λ e. option_map_or (λ b. stands_on b l.parent l.snapshot) e.1.base false) l.volumes.entries
