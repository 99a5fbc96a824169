use Rattle.std.proofs.Common.{get_or}
use Rattle.fv_disk.proofs.Sparing.{spares_write}
use Rattle.fv_container.specs.Written.{IsElsewhere}
use Rattle.fv_container.proofs.Named.{elsewhere}
use Rattle.fv_container.proofs.write.write_node.Goals as goal

pub returns-clause-spares : goal.returns-clause-spares
returns-clause-spares g c =
    spares_write (IsElsewhere c.args.fresh.now) _ (get_or c.args.fresh.now c.args.node 0) _ _ _ (g.met.D.Disk.laws c.args.disk.now) (λ b away. elsewhere c.args.fresh.now c.args.node b c.requires.within c.if-fresh-node-eq0.false away) c.put_node.ensures.writes
