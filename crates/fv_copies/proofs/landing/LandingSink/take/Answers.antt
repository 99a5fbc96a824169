use Rattle.std.proofs.Common.{rules, ◌≡◌, ◌/◌, Err, refl, sym, subst}
use Rattle.std.specs.Prelude.{IfErr, Result}
use Rattle.fv_disk.specs.declared.fault.BlockFault.{BlockFault}
use Rattle.fv_copies.specs.Copying.{IsUndamaged}
use Rattle.fv_copies.proofs.Leaving.{leaves_reads}
use Rattle.fv_copies.proofs.Landed.{bad_nowhere, block_found, lacks_laid, lacks_other, landed_more, lands_more, lands_taken, leaves_written}
use Rattle.fv_copies.proofs.landing.LandingSink.take.Goals as goal

-- no block could be taken
pub returns-in_err-pvbn-clause-lacks : goal.returns-in_err-pvbn-clause-lacks
returns-in_err-pvbn-clause-lacks g c = λ v other lacks. lacks_laid (g.D.Disk.shown c.args.disk.now) (c.args.vvbn / 256) c.args.self.now.container c.load.new.self c.in_ok-load.ensures.loaded v lacks

pub returns-in_err-pvbn-clause-leaves : goal.returns-in_err-pvbn-clause-leaves
returns-in_err-pvbn-clause-leaves g c = leaves_reads (Unit {0}) (g.D.Disk.shown c.args.disk.now) c.args.pool.now (g.D.Disk.shown c.load.new.disk) _ (g.met.D.Disk.laws c.args.disk.now)
    (record { map = c.in_err-pvbn.ensures.failed.0; containers = refl; kept = refl; found = refl; version = refl }) c.load.ensures.only_reads

pub returns-in_err-load-clause-enough : goal.returns-in_err-load-clause-enough
returns-in_err-load-clause-enough g c = λ ts landed some.
    let failed : c.from_residual.result ≡ Err c.in_err-load.field-0.0 = search rules in
    subst (λ (r : Result Unit BlockFault). IfErr r IsUndamaged) (sym failed)
    (bad_nowhere (g.D.Disk.shown c.args.disk.now).reads c.args.self.now.container.map.tree (c.args.vvbn / 256) c.in_err-load.field-0.0 landed.nowhere (c.in_err-load.ensures.fault landed.tells))

pub returns-in_err-pvbn-clause-enough : goal.returns-in_err-pvbn-clause-enough
returns-in_err-pvbn-clause-enough g c = λ ts landed some.
    let failed : c.from_residual-in_err-pvbn.result ≡ Err c.in_err-pvbn.field-0.0 = search rules in
    subst (λ (r : Result Unit BlockFault). IfErr r IsUndamaged) (sym failed) (block_found c.args.pool.now.map _ c.in_err-pvbn.field-0.0 some c.in_err-pvbn.ensures.fault)

-- it wasn't written
pub returns-in_err-put-clause-leaves : goal.returns-in_err-put-clause-leaves
returns-in_err-put-clause-leaves g c =
    let takes = c.in_ok-pvbn.ensures.taken in
    leaves_written (Unit {0}) (g.D.Disk.shown c.args.disk.now) c.args.pool.now (g.D.Disk.shown c.load.new.disk) c.in_ok-pvbn.pvbn c.args.block.now (g.D.Disk.shown c.put.new.disk) _ c.put.result
    (g.met.D.Disk.laws c.args.disk.now) c.load.ensures.only_reads takes.free takes.within takes.taken c.forget.ensures refl refl refl c.put.ensures.writes

pub returns-in_err-put-clause-goes : goal.returns-in_err-put-clause-goes
returns-in_err-put-clause-goes g c = lands_taken (g.D.Disk.shown c.args.disk.now) (c.args.vvbn / 256) c.in_ok-pvbn.pvbn c.args.self.now.container c.load.new.self c.args.self.now.marks c.take_marked.new.marks
    c.args.pool.now.map c.take_marked.new.map c.in_ok-load.ensures.loaded c.in_ok-pvbn.ensures.taken

-- it lies there
pub returns-clause-got : goal.returns-clause-got
returns-clause-got g c = λ ts landed.
    landed_more c.args.self.now.container c.args.self.now.marks c.args.pool.now (g.D.Disk.shown c.args.disk.now) (g.D.Disk.shown c.load.new.disk) c.args.vvbn c.in_ok-pvbn.pvbn c.args.kind c.args.block.now c.load.ensures.only_reads
    c.load.new.self c.in_ok-load.ensures.loaded c.requires.lacks c.take_marked.new.marks _ c.in_ok-pvbn.ensures.taken c.forget.ensures c.place.new.self c.place.ensures (g.D.Disk.shown c.put.new.disk) c.in_ok-put.ensures.writes ts landed

pub returns-clause-goes : goal.returns-clause-goes
returns-clause-goes g c =
    lands_more c.args.self.now.container c.args.self.now.marks c.args.pool.now (g.D.Disk.shown c.args.disk.now) (g.D.Disk.shown c.load.new.disk) c.args.vvbn c.in_ok-pvbn.pvbn c.args.kind c.args.block.now c.load.ensures.only_reads
    c.load.new.self c.in_ok-load.ensures.loaded c.requires.lacks c.take_marked.new.marks (record c.args.pool.now { map = c.take_marked.new.map; kept = c.forget.new.self }) c.in_ok-pvbn.ensures.taken c.forget.ensures c.place.new.self c.place.ensures

pub returns-clause-lacks : goal.returns-clause-lacks
returns-clause-lacks g c =
    lacks_other c.args.self.now.container c.args.self.now.marks c.args.pool.now (g.D.Disk.shown c.args.disk.now) (g.D.Disk.shown c.load.new.disk) c.args.vvbn c.in_ok-pvbn.pvbn c.args.kind c.args.block.now c.load.ensures.only_reads
    c.load.new.self c.in_ok-load.ensures.loaded c.requires.lacks c.take_marked.new.marks (record c.args.pool.now { map = c.take_marked.new.map; kept = c.forget.new.self }) c.in_ok-pvbn.ensures.taken c.forget.ensures c.place.new.self c.place.ensures

pub returns-clause-leaves : goal.returns-clause-leaves
returns-clause-leaves g c =
    let takes = c.in_ok-pvbn.ensures.taken in
    leaves_written (Unit {0}) (g.D.Disk.shown c.args.disk.now) c.args.pool.now (g.D.Disk.shown c.load.new.disk) c.in_ok-pvbn.pvbn c.args.block.now (g.D.Disk.shown c.put.new.disk) _ c.put.result
    (g.met.D.Disk.laws c.args.disk.now) c.load.ensures.only_reads takes.free takes.within takes.taken c.forget.ensures refl refl refl c.put.ensures.writes
