use Rattle.std.proofs.Common.{◌≡◌, ◌+◌, ◌∙◌, Err, rules}
use Rattle.std.specs.Prelude.{Some}
use Rattle.fv_model.specs.Tables.{File}
use Rattle.fv_model.specs.Volumes.{Volume}
use Rattle.fv_laws.specs.Paths.{put_path}
use Rattle.fv_laws.specs.Positions.{staying}
use Rattle.fv_tables.specs.Told.{Standing, file_in, table_told}
use Rattle.fv_files.specs.Tables.{IsInfoOf}
use Rattle.fv_volume.specs.declared.tables.TableAsked.TheVariants.{Active}
use Rattle.fv_volume.proofs.RightTables.{known_after}
use Rattle.fv_volume.proofs.CallCauses.{fails_then}
use Rattle.fv_volume.proofs.Charged.{told_before}
use Rattle.fv_volume.proofs.moving.count_put.Goals as goal

pub count_staying-requires-clause-there : goal.count_staying-requires-clause-there
count_staying-requires-clause-there g c = known_after (g.D.Disk.shown c.args.disk.now) (g.D.Disk.shown c.count_added.new.disk) c.args.pool.now c.count_added.new.pool c.count_added.ensures.reads c.args.volume.now Active c.count_added.new.volume c.count_added.ensures.same (λ (s : Standing). IsInfoOf s.inode c.args.info.now) c.requires.there

pub returns-in_err-staying-clause-cause : goal.returns-in_err-staying-clause-cause
returns-in_err-staying-clause-cause g c =
    let failed : c.from_residual-in_err-staying.result ≡ Err c.in_err-staying.field-0.0 = search rules in
    rw failed (fails_then (g.D.Disk.shown c.args.disk.now) (g.D.Disk.shown c.count_added.new.disk) c.args.pool.now c.count_added.new.pool c.count_added.ensures.reads c.args.volume.now c.count_added.new.volume c.count_added.ensures.same c.in_ok-added.ensures.cause (g.D.Disk.shown c.count_staying.new.disk).faults c.in_err-staying.field-0.0 c.in_err-staying.ensures.cause)

pub returns-clause-costs : goal.returns-clause-costs
returns-clause-costs g c = λ is f there.
    let stays = told_before (g.D.Disk.shown c.args.disk.now) (g.D.Disk.shown c.count_added.new.disk) c.args.pool.now c.count_added.new.pool c.count_added.ensures.reads c.args.volume.now c.count_added.new.volume c.count_added.ensures.same (λ (s : Standing) (v : Volume). (f : File) → file_in s c.args.info.now.number ≡ Some f → c.in_ok-staying.staying ≡ staying v (put_path (table_told s) c.args.info.now.number f c.args.index)) c.in_ok-staying.ensures.staying is f there in
    (λ j. c.in_ok-added.ensures.added is c.args.volume.now.now f is.table there j + stays j)

pub returns-clause-cause : goal.returns-clause-cause
returns-clause-cause g c = c.in_ok-staying.ensures.cause ∙ c.in_ok-added.ensures.cause
