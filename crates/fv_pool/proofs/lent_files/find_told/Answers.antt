use Rattle.std.specs.Prelude.{None}
use Rattle.fv_pool.proofs.lent_files.find_told.Goals as goal

pub find_by-requires-clause-right : goal.find_by-requires-clause-right
find_by-requires-clause-right g c = λ told. c.requires.right told None

pub find-requires : goal.find-requires
find-requires g c = record { right = λ told. c.requires.right told None }
