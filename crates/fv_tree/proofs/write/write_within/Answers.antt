use Rattle.std.proofs.Common.{◌≡◌, ◌≢◌, ◌≤◌, ◌<◌, ◌==◌, ◌/◌, ◌^◌, ℕ, Bool, false, not, ap, cond, Some, nat_eq, sym, ◌∙◌, arith, subst}
use Rattle.fv_codec.specs.declared.pointer.Pointer.{Pointer}
use Rattle.fv_model.specs.Trees.{fan}
use Rattle.fv_tree.specs.Spelled.{pointer_at}
use Rattle.fv_tree.specs.Sources.{Shown}
use Rattle.fv_tree.specs.Flushing.{loaded, placed_in}
use Rattle.fv_tree.proofs.Ready.{marked_is, cell_kept, unstamped, is_stamped}
use Rattle.fv_tree.specs.Standing.{standing, under}
use Rattle.fv_tree.specs.Writing.{IsAlike}
use Rattle.fv_tree.proofs.Altered.{cell_marked, leaves_alters, leaves_cells, leaves_then, only_leaves, way_alters}
use Rattle.fv_tree.proofs.Causes.{at_err}
use Rattle.fv_tree.proofs.Steps.{stamps_way, stamped_cells}
use Rattle.fv_tree.proofs.StillReady.{cells_put, ready_then, stamps_ready}
use Rattle.fv_tree.proofs.Within.{carries_within}
use Rattle.fv_tree.proofs.Writes.{same_alike, same_standing, within_base, written_is}
use Rattle.fv_tree.proofs.Calls.{loading_err, steady_loaded, steady_on, steady_uncelled}
use Rattle.fv_tree.specs.Costs.{cells_changed, cells_held, changes_in, Rises}
use Rattle.fv_tree.specs.Leading.{Carries}
use Rattle.fv_tree.specs.declared.kept.KeptCell.{KeptCell}
use Rattle.std.specs.BTreeMap as maps
use Rattle.std.proofs.lemmas.Result.{err_from_is_err_and}
use Rattle.fv_tree.proofs.write.write_within.Given as given
use Rattle.fv_tree.proofs.write.write_within.Goals as goal

pub returns-in_err-pointer-clause-failed : goal.returns-in_err-pointer-clause-failed
returns-in_err-pointer-clause-failed g c = λ told.
    at_err c.from_residual.result (same_alike (standing (under (g.B.Blocks.shown c.args.blocks.now)) c.args.tree.now) (standing (under (g.B.Blocks.shown c.keep_path.new.blocks)) c.keep_path.new.tree) (c.keep_path.ensures.loading.same told))

pub returns-in_err-keep_cell-clause-failed : goal.returns-in_err-keep_cell-clause-failed
returns-in_err-keep_cell-clause-failed g c = λ told.
    let t = standing (under (g.B.Blocks.shown c.args.blocks.now)) c.args.tree.now in
    let blocks = under (g.B.Blocks.shown c.keep_path.new.blocks) in
    let same = same_standing blocks c.keep_path.new.tree c.keep_cell.new.tree c.keep_cell.ensures.fields c.in_err-keep_cell.ensures.failed in
    at_err c.from_residual-in_err-keep_cell.result (subst (IsAlike t) (sym same) (same_alike t (standing blocks c.keep_path.new.tree) (c.keep_path.ensures.loading.same told)))

pub returns-clause-done : goal.returns-clause-done
returns-clause-done g c = λ told.
    let t = standing (under (g.B.Blocks.shown c.args.blocks.now)) c.args.tree.now in
    let blocks = under (g.B.Blocks.shown c.keep_path.new.blocks) in
    let v = standing blocks c.keep_path.new.tree in
    let u = standing blocks c.stamp_path.new.tree in
    let same = c.keep_path.ensures.loading.same told in
    written_is t v u c.args.index c.args.stamp c.args.block.now
    (within_base t v c.args.index c.args.stamp same c.requires.index (c.in_ok-pointer.ensures.kept told))
    (stamps_way blocks c.keep_path.new.tree c.keep_cell.new.tree c.stamp_path.new.tree c.args.index c.args.stamp c.keep_cell.ensures.fields c.stamp_path.ensures.stamps)
    (omega (arith, c.requires.stamp))
    (λ j. stamped_cells c.keep_path.new.tree c.keep_cell.new.tree c.stamp_path.new.tree c.args.index c.args.stamp c.args.block.now c.in_ok-keep_cell.ensures.cell c.stamp_path.ensures.stamps.cells j ∙ (λ k. cond (nat_eq j c.args.index) (Some c.args.block.now) (same.cells k j)))

pub returns-in_err-pointer-clause-leaves : goal.returns-in_err-pointer-clause-leaves
returns-in_err-pointer-clause-leaves g c = λ told. at_err c.from_residual.result (c.keep_path.ensures.loading.leaves told)

pub returns-in_err-pointer-clause-alters : goal.returns-in_err-pointer-clause-alters
returns-in_err-pointer-clause-alters g c = λ told.
    only_leaves c.args.stamp (loaded (g.B.Blocks.shown c.args.blocks.now) c.args.tree.now) (loaded (g.B.Blocks.shown c.keep_path.new.blocks) c.keep_path.new.tree) (c.keep_path.ensures.loading.leaves told)

pub returns-in_err-keep_cell-clause-leaves : goal.returns-in_err-keep_cell-clause-leaves
returns-in_err-keep_cell-clause-leaves g c = λ told.
    let new : Shown = g.B.Blocks.shown c.keep_path.new.blocks in
    let w = c.keep_path.new.tree in
    let v = c.keep_cell.new.tree in
    at_err c.from_residual-in_err-keep_cell.result (leaves_then (loaded (g.B.Blocks.shown c.args.blocks.now) c.args.tree.now) (loaded new w) (loaded new v) (c.keep_path.ensures.loading.leaves told)
    (leaves_cells (under new) w v c.keep_cell.ensures.fields c.in_err-keep_cell.ensures.same))

pub returns-in_err-keep_cell-clause-alters : goal.returns-in_err-keep_cell-clause-alters
returns-in_err-keep_cell-clause-alters g c = λ told.
    let new : Shown = g.B.Blocks.shown c.keep_path.new.blocks in
    let w = c.keep_path.new.tree in
    let v = c.keep_cell.new.tree in
    only_leaves c.args.stamp (loaded (g.B.Blocks.shown c.args.blocks.now) c.args.tree.now) (loaded new v)
    (leaves_then (loaded (g.B.Blocks.shown c.args.blocks.now) c.args.tree.now) (loaded new w) (loaded new v) (c.keep_path.ensures.loading.leaves told)
    (leaves_cells (under new) w v c.keep_cell.ensures.fields c.in_err-keep_cell.ensures.same))

pub returns-clause-alters : goal.returns-clause-alters
returns-clause-alters g c = λ told.
    let new : Shown = g.B.Blocks.shown c.keep_path.new.blocks in
    let i = c.args.index in
    let w = c.keep_path.new.tree in
    let v = c.keep_cell.new.tree in
    let u = c.stamp_path.new.tree in
    let path = c.in_ok-pointer.ensures in
    let cell = c.in_ok-keep_cell.ensures in
    let named : Bool = not (c.in_ok-pointer.pointer.stamp == 0) in
    let levels : v.levels ≡ c.args.tree.now.levels = cell.fields.levels ∙ path.loading.fields.levels in
    leaves_alters c.args.stamp (loaded (g.B.Blocks.shown c.args.blocks.now) c.args.tree.now) (loaded new w) (loaded new u) (path.loading.leaves told)
    (way_alters (under new) w v u i c.args.stamp named cell.fields cell.own cell.others c.stamp_path.ensures.stamps c.stamp_path.ensures.marks (omega (arith, c.requires.stamp)) (subst (λ n. i < fan ^ n) (sym levels) c.requires.index)
    (λ level low high. cell_kept (under new) w v i named cell.fields cell.own cell.others level (path.kept told level low (omega (arith, high, levels)))) cell.changed)

pub returns-clause-marked : goal.returns-clause-marked
returns-clause-marked g c = cell_marked c.keep_cell.new.tree c.stamp_path.new.tree c.args.index c.stamp_path.ensures.stamps.cells c.in_ok-keep_cell.ensures.changed

pub returns-in_err-pointer-clause-steady : goal.returns-in_err-pointer-clause-steady
returns-in_err-pointer-clause-steady g c = let p = err_from_is_err_and c.from_residual.result c.from_residual.ensures.1 in
    rw (p.1, p.2) (steady_loaded 6 1 (loading_err c.in_err-pointer.ensures.loading) c.keep_path.ensures.keeps_ready)

pub returns-in_err-keep_cell-clause-steady : goal.returns-in_err-keep_cell-clause-steady
returns-in_err-keep_cell-clause-steady g c = let cell = c.in_err-keep_cell.ensures in
    let p = err_from_is_err_and c.from_residual-in_err-keep_cell.result c.from_residual-in_err-keep_cell.ensures.1 in
    rw (p.1, p.2) (steady_uncelled c.keep_cell.new.tree 6 _ (steady_loaded 0 0 c.in_ok-pointer.ensures.loading c.keep_path.ensures.keeps_ready) cell.fields cell.same cell.failed cell.still cell.held cell.memory)

-- what the write carries over from the loaded tree
write_carries : (g : given.Over) (c : goal.After-stamp_path g) → g.B.Blocks.told → Carries (g.B.Blocks.shown c.keep_path.new.blocks) (g.B.Blocks.shown c.keep_path.new.blocks) c.keep_path.new.tree c.stamp_path.new.tree
write_carries g c told =
    let new : Shown = g.B.Blocks.shown c.keep_path.new.blocks in
    let i = c.args.index in
    let path = c.in_ok-pointer.ensures in
    let w = c.keep_path.new.tree in
    let v = c.keep_cell.new.tree in
    let u = c.stamp_path.new.tree in
    let cell = c.in_ok-keep_cell.ensures in
    let stamped = c.stamp_path.ensures.stamps in
    let named : Bool = not (c.in_ok-pointer.pointer.stamp == 0) in
    let some : c.args.stamp ≢ 0 = omega (arith, c.requires.stamp) in
    let levels : v.levels ≡ c.args.tree.now.levels = cell.fields.levels ∙ path.loading.fields.levels in
    let covers : i < fan ^ v.levels = subst (λ n. i < fan ^ n) (sym levels) c.requires.index in
    let same : c.in_ok-pointer.pointer.stamp ≡ (pointer_at (standing (under new) w) 0 i).stamp = ap (λ (p : Pointer). p.stamp) (path.pointer told ∙ sym ((path.loading.same told).pointers 0 i)) in
    let unplaced : (level : ℕ) → 1 ≤ level → level ≤ w.levels → (pointer_at (standing (under new) w) level (i / fan ^ level)).stamp ≡ 0 → placed_in w.nodes level (i / fan ^ level) ≡ false =
    λ level low high none. path.unplaced told level low (omega (arith, high, path.loading.fields.levels)) (ap (λ (p : Pointer). p.stamp) (sym ((path.loading.same told).pointers level (i / fan ^ level))) ∙ none) in
    carries_within new w v u i named cell.fields cell.own cell.others (λ e. unstamped c.in_ok-pointer.pointer (same ∙ e)) (λ there. is_stamped c.in_ok-pointer.pointer (λ e. there (sym same ∙ e))) unplaced covers
    (marked_is (under new) v u i c.args.stamp stamped c.stamp_path.ensures.marks some covers
    (λ level low high. cell_kept (under new) w v i named cell.fields cell.own cell.others level (path.kept told level low (omega (arith, high, levels))))
    cell.changed)

pub returns-clause-steady : goal.returns-clause-steady
returns-clause-steady g c = let w = c.keep_path.new.tree in
    let v = c.keep_cell.new.tree in
    let u = c.stamp_path.new.tree in
    let cell = c.in_ok-keep_cell.ensures in
    let stamped = c.stamp_path.ensures.stamps in
    let rises : Rises w u 6 1 = (let one = ap cells_changed stamped.cells in
    let held : cells_held u ≡ cells_held v = ap (λ (m : maps.BTreeMap ℕ KeptCell). maps.btree_map_len m) stamped.cells in
    let nodes = ap changes_in cell.fields.nodes in
    let more = c.stamp_path.ensures.changes in
    let few = v.few in record {
      pending = omega (arith, one, nodes, cell.count, more, few);
      cells = omega (arith, held, cell.held);
    }) in
    steady_on u 6 1 _ (steady_loaded 0 0 c.in_ok-pointer.ensures.loading c.in_ok-pointer.ensures.keeps_ready) (stamped.owner ∙ cell.fields.owner) (write_carries g c)
    (ready_then w v u (cells_put w v c.args.index c.args.block.now cell.fields cell.cell) (stamps_ready v u c.args.index c.args.stamp stamped (omega (arith, c.requires.stamp)))) rises tt
