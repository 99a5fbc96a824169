use Rattle.std.specs.Prelude.{None}
use Rattle.fv_pool.proofs.lent_changes.room_told.Goals as goal

pub added_by_new-requires-clause-right : goal.added_by_new-requires-clause-right
added_by_new-requires-clause-right g c = λ told. c.requires.right told None
