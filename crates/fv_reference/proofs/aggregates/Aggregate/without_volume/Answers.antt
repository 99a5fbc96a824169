use Rattle.fv_laws.proofs.Orders.{name_ties}
use Rattle.fv_reference.proofs.aggregates.Aggregate.without_volume.Goals as goal

pub remove-requires : goal.remove-requires
remove-requires c = record { ties = name_ties }
