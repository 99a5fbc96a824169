use Rattle.std.specs.Prelude.{None}
use Rattle.fv_pool.proofs.lent_files.list_told.Goals as goal

pub list-requires : goal.list-requires
list-requires g c = record { right = λ told. c.requires.right told None }
