use Rattle.std.proofs.Common.{refl, subst, rules}
use Rattle.fv_files.specs.Tables.{table_in}
use Rattle.fv_pool.specs.Calls.{BlockCause}
use Rattle.fv_pool.specs.Lending.{lent_by, lent_for, sees}
use Rattle.fv_pool.proofs.CallCauses.{table_cause}
use Rattle.fv_pool.proofs.lent_files.cell_told.Goals as goal

pub returns-clause-cause : goal.returns-clause-cause
returns-clause-cause g c =
    let told = g.K.Guard.told in
    let disk = g.D.Disk.shown c.args.disk.now in
    let x = table_in (sees c.args.pool.now c.args.map.now disk c.args.home.now) c.args.files.now in
    let after = c.read_by_path.new.blocks in
    let old = lent_for c.args.pool.now c.args.map.now disk c.args.steps.now c.args.home.now 0 in
    let new = lent_by after.pool.now after.map.now (g.D.Disk.shown after.disk.now) after.steps.now after.home after.room after.strays after.noted in
    subst (λ (d : g.row.D.Denot). BlockCause told x (lent_for c.args.pool.now c.args.map.now disk c.args.steps.now c.args.home.now 0) (g.D.Disk.shown d).faults c.read_by_path.result) (search rules)
    (table_cause told x old new c.read_by_path.ensures.reads.4 refl c.read_by_path.result c.read_by_path.ensures.looks)
