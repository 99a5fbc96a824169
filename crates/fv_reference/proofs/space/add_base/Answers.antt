use Rattle.std.proofs.Common.{sym}
use Rattle.fv_model.specs.Places.{id_cmp}
use Rattle.fv_reference.specs.Maps.{set_of}
use Rattle.fv_reference.proofs.Finite.{union_end}
use Rattle.fv_laws.proofs.Orders.{id_total, id_ties}
use Rattle.fv_reference.proofs.space.add_base.Goals as goal

pub returns-in-None : goal.returns-in-None
returns-in-None c = rw c.in-None.is (sym (union_end id_total id_ties (set_of id_cmp c.args.ids.now)))
