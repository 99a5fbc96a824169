use Rattle.std.proofs.Common.{◌≤◌, ◌+◌, ℕ, OnOk, subst, rules}
use Rattle.fv_laws.specs.WellFormed.{IsWellTable}
use Rattle.fv_tables.specs.Told.{table_told}
use Rattle.fv_files.specs.Pending.{pending_in}
use Rattle.fv_tables.specs.Spelled.{Under}
use Rattle.fv_files.specs.Calls.{CutsFile}
use Rattle.fv_files.specs.Tables.{changed, table_in, AreStanding}
use Rattle.fv_files.specs.Trees.{standing_in}
use Rattle.fv_volmap.specs.Slots.{Volume}
use Rattle.fv_pool.specs.Calls.{HasWellTable, LeavesTable}
use Rattle.fv_pool.specs.Lending.{lent_by, lent_for, sees, shown_over}
use Rattle.fv_pool.proofs.LeftTables.{both_sides, left_over, leaves_table, onok_well}
use Rattle.fv_pool.proofs.lent_removals.cut_told.Goals as goal

pub returns-clause-leaves : goal.returns-clause-leaves
returns-clause-leaves g c =
    let told = g.K.Guard.told in
    let disk = g.D.Disk.shown c.args.disk.now in
    let after = c.cut.new.blocks in
    let old = lent_for c.args.pool.now c.args.map.now disk c.open-steps.result c.args.home.now 0 in
    let new = lent_by after.pool.now after.map.now (g.D.Disk.shown after.disk.now) after.steps.now after.home 0 after.strays after.noted in
    let well = HasWellTable (sees c.args.pool.now c.args.map.now disk c.args.home.now) c.args.files.now in
    subst (λ (m : Volume). LeavesTable told well (sees c.args.pool.now c.args.map.now disk c.args.home.now) (sees c.args.pool.now m disk c.args.home.now) c.args.files.now c.cut.new.self c.args.stamp c.cut.result) (search rules)
    (subst (λ (n : ℕ). LeavesTable told well (shown_over (lent_for c.args.pool.now c.args.map.now disk n c.args.home.now 0)) (sees c.args.pool.now after.map.now disk c.args.home.now) c.args.files.now c.cut.new.self c.args.stamp c.cut.result) c.open-steps.ensures
    (leaves_table told (Unit {0}) well old new c.cut.ensures.calls.4 c.args.files.now c.cut.new.self c.args.stamp _ c.cut.result c.cut.ensures.changes c.cut.ensures.alters (λ w. tt) (λ t w. c.cut.ensures.led t)
    (λ t w is.
    both_sides (pending_in c.cut.new.self ≤ pending_in c.args.files.now + 14) c.cut.result c.cut.ensures.pending
    (onok_well (λ n. IsWellTable n (table_told (table_in (shown_over old) c.args.files.now))) (pending_in c.cut.new.self ≤ pending_in c.args.files.now + 14) c.cut.result is w.0 w.1 (c.cut.ensures.pending_done t)))))

pub returns-clause-cuts : goal.returns-clause-cuts
returns-clause-cuts g c =
    let disk = g.D.Disk.shown c.args.disk.now in
    let after = c.cut.new.blocks in
    let old = lent_for c.args.pool.now c.args.map.now disk c.open-steps.result c.args.home.now 0 in
    let new = lent_by after.pool.now after.map.now (g.D.Disk.shown after.disk.now) after.steps.now after.home 0 after.strays after.noted in
    let source = sees c.args.pool.now c.args.map.now disk c.args.home.now in
    let x = table_in source c.args.files.now in
    record {
      cut = λ told.
          subst (λ (m : Volume). OnOk c.cut.result (AreStanding source c.args.files.now → CutsFile x (table_in (sees c.args.pool.now m disk c.args.home.now) c.cut.new.self) c.args.info.now.number c.args.length c.args.stamp)) (search rules)
          (subst (λ (u : Under). OnOk c.cut.result (AreStanding source c.args.files.now → CutsFile x (standing_in u (changed c.cut.new.self)) c.args.info.now.number c.args.length c.args.stamp)) (left_over old new c.cut.ensures.calls.4) (c.cut.ensures.cut told));
      counted = c.cut.ensures.counted;
    }
