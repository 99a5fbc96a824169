use Rattle.std.proofs.Common.{ℕ, OnOk, subst, rules}
use Rattle.fv_tables.specs.Spelled.{Under}
use Rattle.fv_tree.specs.Erasing.{HoldsCells}
use Rattle.fv_inode.specs.Files.{rooted}
use Rattle.fv_files.specs.Calls.{RemovesFile}
use Rattle.fv_files.proofs.Removed.{well_holds}
use Rattle.fv_files.specs.Tables.{changed, table_in, AreStanding}
use Rattle.fv_files.specs.Trees.{standing_in}
use Rattle.fv_volmap.specs.Slots.{Volume}
use Rattle.fv_pool.specs.Calls.{HasWellTable, LeavesTable}
use Rattle.fv_pool.specs.Lending.{lent_by, lent_for, sees, shown_over}
use Rattle.fv_pool.proofs.LeftTables.{left_over, leaves_table}
use Rattle.fv_pool.proofs.lent_removals.remove_told.Goals as goal

pub returns-clause-leaves : goal.returns-clause-leaves
returns-clause-leaves g c =
    let told = g.K.Guard.told in
    let disk = g.D.Disk.shown c.args.disk.now in
    let after = c.remove.new.blocks in
    let old = lent_for c.args.pool.now c.args.map.now disk c.open-steps.result c.args.home.now 0 in
    let new = lent_by after.pool.now after.map.now (g.D.Disk.shown after.disk.now) after.steps.now after.home 0 after.strays after.noted in
    let well = HasWellTable (sees c.args.pool.now c.args.map.now disk c.args.home.now) c.args.files.now in
    subst (λ (m : Volume). LeavesTable told well (sees c.args.pool.now c.args.map.now disk c.args.home.now) (sees c.args.pool.now m disk c.args.home.now) c.args.files.now c.remove.new.self c.args.stamp c.remove.result) (search rules)
    (subst (λ (n : ℕ). LeavesTable told well (shown_over (lent_for c.args.pool.now c.args.map.now disk n c.args.home.now 0)) (sees c.args.pool.now after.map.now disk c.args.home.now) c.args.files.now c.remove.new.self c.args.stamp c.remove.result) c.open-steps.ensures
    (leaves_table told (HoldsCells (rooted (shown_over old) c.args.files.now.inode)) well old new c.remove.ensures.calls.4 c.args.files.now c.remove.new.self c.args.stamp _ c.remove.result c.remove.ensures.changes c.remove.ensures.alters (λ w. well_holds (shown_over old) c.args.files.now w.0 w.1) (λ t w. c.remove.ensures.led t w.0 w.1) (λ t w is. c.remove.ensures.pending)))

pub returns-clause-removed : goal.returns-clause-removed
returns-clause-removed g c = λ told.
    let disk = g.D.Disk.shown c.args.disk.now in
    let after = c.remove.new.blocks in
    let old = lent_for c.args.pool.now c.args.map.now disk c.open-steps.result c.args.home.now 0 in
    let new = lent_by after.pool.now after.map.now (g.D.Disk.shown after.disk.now) after.steps.now after.home 0 after.strays after.noted in
    let source = sees c.args.pool.now c.args.map.now disk c.args.home.now in
    let x = table_in source c.args.files.now in
    subst (λ (m : Volume). OnOk c.remove.result (AreStanding source c.args.files.now → RemovesFile x (table_in (sees c.args.pool.now m disk c.args.home.now) c.remove.new.self) c.args.info.now.number c.args.stamp)) (search rules)
    (subst (λ (u : Under). OnOk c.remove.result (AreStanding source c.args.files.now → RemovesFile x (standing_in u (changed c.remove.new.self)) c.args.info.now.number c.args.stamp)) (left_over old new c.remove.ensures.calls.4) (c.remove.ensures.removed told))
