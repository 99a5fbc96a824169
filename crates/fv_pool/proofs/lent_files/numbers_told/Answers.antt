use Rattle.std.specs.Prelude.{None}
use Rattle.fv_pool.proofs.lent_files.numbers_told.Goals as goal

pub numbers-requires : goal.numbers-requires
numbers-requires g c = record { right = λ told. c.requires.right told None }
