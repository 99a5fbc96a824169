use Rattle.std.proofs.Common.{◌≡◌, ◌-◌, ◌∷◌, Some}
use Rattle.std.specs.Prelude.{min, not, count_by}
use Rattle.std.specs.List.{range_with_len}
use Rattle.fv_volmap.specs.Slots.{taken_in}
use Rattle.fv_volmap.proofs.slots.count_free.Given as goal

abbrev pub invariant-loop-v : goal.invariant-loop-v
invariant-loop-v l = l.count ≡ min l.most (count_by (λ v. not (taken_in (Some l.active ∷ l.others) v)) (range_with_len l.from (l.v - l.from)))
