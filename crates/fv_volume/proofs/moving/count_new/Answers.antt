use Rattle.std.proofs.Common.{◌≡◌, ◌+◌, ◌∙◌, Err, rules}
use Rattle.fv_model.specs.Volumes.{Volume}
use Rattle.fv_laws.specs.Paths.{new_path}
use Rattle.fv_laws.specs.Positions.{staying}
use Rattle.fv_tables.specs.Told.{Standing, table_told}
use Rattle.fv_inode.specs.Files.{IsLeastFree}
use Rattle.fv_volume.proofs.CallCauses.{fails_then}
use Rattle.fv_volume.proofs.Charged.{told_before}
use Rattle.fv_volume.proofs.moving.count_new.Goals as goal

pub returns-in_err-staying-clause-cause : goal.returns-in_err-staying-clause-cause
returns-in_err-staying-clause-cause g c =
    let failed : c.from_residual-in_err-staying.result ≡ Err c.in_err-staying.field-0.0 = search rules in
    rw failed (fails_then (g.D.Disk.shown c.args.disk.now) (g.D.Disk.shown c.count_room.new.disk) c.args.pool.now c.count_room.new.pool c.count_room.ensures.reads c.args.volume.now c.count_room.new.volume c.count_room.ensures.same c.in_ok-added.ensures.cause (g.D.Disk.shown c.count_staying_new.new.disk).faults c.in_err-staying.field-0.0 c.in_err-staying.ensures.cause)

pub returns-clause-costs : goal.returns-clause-costs
returns-clause-costs g c = λ is free.
    let stays = told_before (g.D.Disk.shown c.args.disk.now) (g.D.Disk.shown c.count_room.new.disk) c.args.pool.now c.count_room.new.pool c.count_room.ensures.reads c.args.volume.now c.count_room.new.volume c.count_room.ensures.same (λ (s : Standing) (v : Volume). IsLeastFree s.inode c.args.number → c.in_ok-staying.staying ≡ staying v (new_path (table_told s))) c.in_ok-staying.ensures.staying is free in
    (λ j. c.in_ok-added.ensures.added is c.args.volume.now.now is.table j + stays j)

pub returns-clause-cause : goal.returns-clause-cause
returns-clause-cause g c = c.in_ok-staying.ensures.cause ∙ c.in_ok-added.ensures.cause
