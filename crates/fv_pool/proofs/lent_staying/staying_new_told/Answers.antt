use Rattle.std.specs.Prelude.{None}
use Rattle.fv_pool.proofs.lent_staying.staying_new_told.Goals as goal

pub staying_by_new-requires : goal.staying_by_new-requires
staying_by_new-requires g c = record { right = λ told. c.requires.right told None }
