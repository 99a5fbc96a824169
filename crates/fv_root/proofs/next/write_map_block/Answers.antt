use Rattle.fv_root.specs.Commits.{IsOutside}
use Rattle.fv_disk.proofs.Sparing.{spares_write}
use Rattle.fv_root.proofs.next.write_map_block.Goals as goal

pub returns-clause-spares : goal.returns-clause-spares
returns-clause-spares g c = spares_write (IsOutside c.args.blocks c.args.slot) _ _ _ _ _ (g.met.D.Disk.laws c.args.disk.now) (λ b is. rw c.area_place.ensures (is.area c.args.k c.requires.within)) c.write.ensures
