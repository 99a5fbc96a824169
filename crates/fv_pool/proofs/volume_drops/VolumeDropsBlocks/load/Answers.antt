use Rattle.std.proofs.Common.{rules}
use Rattle.fv_pool.specs.Lending.{lent_by}
use Rattle.fv_pool.proofs.Fields.{loose_damage}
use Rattle.fv_pool.proofs.PlaceShown.{failed_shown, loaded_shown}
use Rattle.fv_pool.proofs.volume_drops.VolumeDropsBlocks.load.Goals as goal

pub returns-in-Ok-clause-loads : goal.returns-in-Ok-clause-loads
returns-in-Ok-clause-loads g c =
    let self = c.args.self.now in
    let read = c.read_pointed in
    let ok = c.in-Ok.ensures in
    loaded_shown (lent_by self.pool.now self.map.now (g.D.Disk.shown self.disk.now) self.steps.now self.home 0 self.strays self.noted) read.new.pool (g.D.Disk.shown read.new.disk) read.new.steps _ self.tells self.clean
    read.ensures.leaves read.ensures.only_reads c.args.pointer.now _ c.in-Ok.pvbn ok.block ok.place ok.range ok.step (search rules)

pub returns-in-Err-clause-loads : goal.returns-in-Err-clause-loads
returns-in-Err-clause-loads g c =
    let self = c.args.self.now in
    let read = c.read_pointed in
    failed_shown (lent_by self.pool.now self.map.now (g.D.Disk.shown self.disk.now) self.steps.now self.home 0 self.strays self.noted) read.new.pool (g.D.Disk.shown read.new.disk) read.new.steps _ self.tells self.clean
    read.ensures.leaves read.ensures.only_reads c.args.pointer.now _ c.note.new.noted c.note.result c.in-Err.fault c.note.ensures.same c.in-Err.ensures.loose (search rules) (search rules)

pub invariant_of-self-in-Err-clause-damage : goal.invariant_of-self-in-Err-clause-damage
invariant_of-self-in-Err-clause-damage g c =
    let self = c.args.self.now in
    let read = c.read_pointed.ensures in
    loose_damage read.leaves read.only_reads self.home self.noted c.note.new.noted _ c.in-Err.fault self.damage c.in-Err.ensures.loose c.note.ensures.notes
