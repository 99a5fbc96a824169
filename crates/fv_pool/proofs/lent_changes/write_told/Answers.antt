use Rattle.std.proofs.Common.{ℕ, OnOk, subst, rules}
use Rattle.fv_tables.specs.Spelled.{Under}
use Rattle.fv_files.specs.Calls.{WritesCell}
use Rattle.fv_files.specs.Tables.{changed, table_in}
use Rattle.fv_files.specs.Trees.{standing_in}
use Rattle.fv_volmap.specs.Slots.{Volume}
use Rattle.fv_pool.specs.Calls.{LeavesTable}
use Rattle.fv_pool.specs.DroppingLaws.{reads_drops}
use Rattle.fv_pool.specs.Lending.{lent_by, lent_for, sees, shown_over}
use Rattle.fv_pool.proofs.LeftTables.{left_over, leaves_table}
use Rattle.fv_pool.proofs.lent_changes.write_told.Goals as goal

pub returns-clause-leaves : goal.returns-clause-leaves
returns-clause-leaves g c =
    let told = g.K.Guard.told in
    let disk = g.D.Disk.shown c.args.disk.now in
    let after = c.write.new.blocks in
    let old = lent_for c.args.pool.now c.args.map.now disk c.open-steps.result c.args.home.now 0 in
    let new = lent_by after.pool.now after.map.now (g.D.Disk.shown after.disk.now) after.steps.now after.home after.room after.strays after.noted in
    let drops = reads_drops old new c.write.ensures.reads.4 in
    subst (λ (m : Volume). LeavesTable told (Unit {0}) (sees c.args.pool.now c.args.map.now disk c.args.home.now) (sees c.args.pool.now m disk c.args.home.now) c.args.files.now c.write.new.self c.args.stamp c.write.result) (search rules)
    (subst (λ (n : ℕ). LeavesTable told (Unit {0}) (shown_over (lent_for c.args.pool.now c.args.map.now disk n c.args.home.now 0)) (sees c.args.pool.now after.map.now disk c.args.home.now) c.args.files.now c.write.new.self c.args.stamp c.write.result) c.open-steps.ensures
    (leaves_table told (Unit {0}) (Unit {0}) old new drops c.args.files.now c.write.new.self c.args.stamp _ c.write.result c.write.ensures.changes c.write.ensures.alters (λ w. w) (λ t w. c.write.ensures.led t) (λ t w is. c.write.ensures.pending)))

pub returns-clause-written : goal.returns-clause-written
returns-clause-written g c = λ told.
    let disk = g.D.Disk.shown c.args.disk.now in
    let after = c.write.new.blocks in
    let old = lent_for c.args.pool.now c.args.map.now disk c.open-steps.result c.args.home.now 0 in
    let new = lent_by after.pool.now after.map.now (g.D.Disk.shown after.disk.now) after.steps.now after.home after.room after.strays after.noted in
    let drops = reads_drops old new c.write.ensures.reads.4 in
    let x = table_in (sees c.args.pool.now c.args.map.now disk c.args.home.now) c.args.files.now in
    subst (λ (m : Volume). OnOk c.write.result (WritesCell x (table_in (sees c.args.pool.now m disk c.args.home.now) c.write.new.self) c.args.info.now.number c.args.index c.args.stamp c.args.block.now)) (search rules)
    (subst (λ (u : Under). OnOk c.write.result (WritesCell x (standing_in u (changed c.write.new.self)) c.args.info.now.number c.args.index c.args.stamp c.args.block.now)) (left_over old new drops) (c.write.ensures.written told))
