use Rattle.fv_root.proofs.Fixed.{gate_spared}
use Rattle.fv_root.proofs.fresh.close_gate.Goals as goal

pub returns-clause-spares : goal.returns-clause-spares
returns-clause-spares g c = gate_spared _ c.args.at _ _ _ c.requires (g.met.D.Disk.laws c.args.disk.now) c.write.ensures
