use Rattle.std.proofs.Common.{◌≡◌, ℕ, OnOk, subst, rules}
use Rattle.fv_model.specs.Tables.{new}
use Rattle.fv_tables.specs.Spelled.{Under}
use Rattle.fv_tables.specs.Told.{table_told}
use Rattle.fv_files.specs.Tables.{changed, table_in, AreStanding}
use Rattle.fv_files.specs.Trees.{standing_in}
use Rattle.fv_volmap.specs.Slots.{Volume}
use Rattle.fv_pool.specs.Calls.{LeavesTable}
use Rattle.fv_pool.specs.DroppingLaws.{reads_drops}
use Rattle.fv_pool.specs.Lending.{lent_by, lent_for, sees, shown_over}
use Rattle.fv_pool.proofs.LeftTables.{left_over, leaves_table}
use Rattle.std.specs.Prelude.{None}
use Rattle.fv_pool.proofs.lent_changes.create_told.Goals as goal

pub returns-clause-leaves : goal.returns-clause-leaves
returns-clause-leaves g c =
    let told = g.K.Guard.told in
    let disk = g.D.Disk.shown c.args.disk.now in
    let after = c.create.new.blocks in
    let old = lent_for c.args.pool.now c.args.map.now disk c.open-steps.result c.args.home.now 0 in
    let new = lent_by after.pool.now after.map.now (g.D.Disk.shown after.disk.now) after.steps.now after.home after.room after.strays after.noted in
    let drops = reads_drops old new c.create.ensures.reads.4 in
    subst (λ (m : Volume). LeavesTable told (Unit {0}) (sees c.args.pool.now c.args.map.now disk c.args.home.now) (sees c.args.pool.now m disk c.args.home.now) c.args.files.now c.create.new.self c.args.stamp c.create.result) (search rules)
    (subst (λ (n : ℕ). LeavesTable told (Unit {0}) (shown_over (lent_for c.args.pool.now c.args.map.now disk n c.args.home.now 0)) (sees c.args.pool.now after.map.now disk c.args.home.now) c.args.files.now c.create.new.self c.args.stamp c.create.result) c.open-steps.ensures
    (leaves_table told (Unit {0}) (Unit {0}) old new drops c.args.files.now c.create.new.self c.args.stamp _ c.create.result c.create.ensures.changes c.create.ensures.alters (λ w. w) (λ t w. c.create.ensures.led t) (λ t w is. c.create.ensures.pending)))

pub returns-clause-made : goal.returns-clause-made
returns-clause-made g c = λ told.
    let disk = g.D.Disk.shown c.args.disk.now in
    let after = c.create.new.blocks in
    let old = lent_for c.args.pool.now c.args.map.now disk c.open-steps.result c.args.home.now 0 in
    let new_one = lent_by after.pool.now after.map.now (g.D.Disk.shown after.disk.now) after.steps.now after.home after.room after.strays after.noted in
    let drops = reads_drops old new_one c.create.ensures.reads.4 in
    let source = sees c.args.pool.now c.args.map.now disk c.args.home.now in
    let x = table_told (table_in source c.args.files.now) in
    subst (λ (m : Volume). OnOk c.create.result (AreStanding source c.args.files.now → table_told (table_in (sees c.args.pool.now m disk c.args.home.now) c.create.new.self) ≡ new x c.args.name.now c.args.reserve c.args.stamp)) (search rules)
    (subst (λ (u : Under). OnOk c.create.result (AreStanding source c.args.files.now → table_told (standing_in u (changed c.create.new.self)) ≡ new x c.args.name.now c.args.reserve c.args.stamp)) (left_over old new_one drops) (c.create.ensures.made told))

pub create-requires-clause-right : goal.create-requires-clause-right
create-requires-clause-right g c = λ told. c.requires.right told None
