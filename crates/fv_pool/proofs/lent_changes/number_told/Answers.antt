use Rattle.std.specs.Prelude.{None}
use Rattle.fv_pool.proofs.lent_changes.number_told.Goals as goal

pub free_number-requires : goal.free_number-requires
free_number-requires g c = record { right = λ told. c.requires.right told None }
