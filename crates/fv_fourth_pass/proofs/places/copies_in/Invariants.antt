use Rattle.std.proofs.Common.{◌≡◌, length}
use Rattle.fv_fourth_pass.specs.Placed.{HasCopiesTo}
use Rattle.fv_fourth_pass.proofs.places.copies_in.Given as goal

abbrev pub invariant-loop-vvbn : goal.invariant-loop-vvbn
invariant-loop-vvbn l = record { has : HasCopiesTo l.base l.row l.copies l.vvbn; size : length l.copies ≡ length l.base }
