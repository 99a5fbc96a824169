use Rattle.std.proofs.Common.{◌≡◌, ◌≤◌, ◌<◌, ◌/◌, ◌^◌, ℕ, true, false, is_some, refl, sym, ap, subst, ◌∙◌, arith}
use Rattle.std.proofs.lemmas.Result.{err_from_is_err_and}
use Rattle.std.specs.BTreeMap as tree
use Rattle.std.specs.Ordering.{nat_cmp}
use Rattle.fv_codec.specs.declared.pointer.Pointer.{Pointer}
use Rattle.fv_model.specs.Trees.{fan, Spot}
use Rattle.fv_tree.specs.declared.kept.KeptNode.{KeptNode}
use Rattle.fv_tree.specs.declared.kept.KeptCell.{KeptCell}
use Rattle.fv_tree.specs.Spelled.{pointer_at}
use Rattle.fv_tree.specs.Sources.{Shown}
use Rattle.fv_tree.specs.Standing.{standing, under, children_in}
use Rattle.fv_tree.specs.Erasing.{StandsAt}
use Rattle.fv_tree.specs.Writing.{IsAlike}
use Rattle.fv_tree.specs.Flushing.{loaded, placed_in}
use Rattle.fv_tree.proofs.Altered.{changed_up, leaves_cells, leaves_itself, leaves_then, refill_leaves, way_again}
use Rattle.fv_tree.proofs.Causes.{at_err}
use Rattle.fv_tree.proofs.Held.{same_self}
use Rattle.fv_tree.proofs.HeldCells.{filled_cell}
use Rattle.fv_tree.proofs.Ready.{cell_kept, cell_pointers, cell_there}
use Rattle.fv_tree.proofs.Refilled.{refilled_none, refilled_is, refills, remarked_is}
use Rattle.fv_tree.proofs.Seen.{remains_at_err}
use Rattle.fv_tree.proofs.Readied.{filled_way, has_way, way_as}
use Rattle.fv_tree.proofs.Removing.{none_past}
use Rattle.fv_tree.proofs.StillReady.{cells_put, marks_ready, ready_then}
use Rattle.fv_tree.proofs.Within.{carries_within}
use Rattle.fv_tree.proofs.Writes.{same_alike, same_standing}
use Rattle.fv_tree.proofs.Calls.{loading_err, loading_none, loading_ok, steady_loaded, steady_on, steady_uncelled}
use Rattle.fv_tree.specs.Costs.{cells_changed, cells_held, changes_in, Rises}
use Rattle.fv_tree.specs.Leading.{Carries}
use Rattle.fv_tree.proofs.kept.Tree.refill.Given as given
use Rattle.fv_tree.proofs.kept.Tree.refill.Goals as goal

pub returns-then-index-width-clause-place_by_place : goal.returns-then-index-width-clause-place_by_place
returns-then-index-width-clause-place_by_place g c = λ told.
    let t = standing (under (g.B.Blocks.shown c.args.blocks.now)) c.args.self.now in
    let past : fan ^ t.levels ≤ c.args.index = omega (arith, c.if-index-width.true, c.width.ensures.is) in
    refilled_none t t c.args.index c.args.block.now (same_self t) (none_past t c.args.index past)

pub returns-then-index-width-clause-refilled : goal.returns-then-index-width-clause-refilled
returns-then-index-width-clause-refilled g c = λ told. refills (standing (under (g.B.Blocks.shown c.args.blocks.now)) c.args.self.now) (standing (under (g.B.Blocks.shown c.args.blocks.now)) c.args.self.now) c.args.index c.args.block.now _ (returns-then-index-width-clause-place_by_place g c told)

pub returns-then-index-width-clause-leaves : goal.returns-then-index-width-clause-leaves
returns-then-index-width-clause-leaves g c = λ _ _ _. leaves_itself (loaded (g.B.Blocks.shown c.args.blocks.now) c.args.self.now)

pub returns-then-index-width-clause-steady : goal.returns-then-index-width-clause-steady
returns-then-index-width-clause-steady g c = steady_loaded 4 1 (loading_none g.B.Blocks.told (g.B.Blocks.shown c.args.blocks.now) c.args.self.now _ (g.met.B.Blocks.reads_nothing c.args.blocks.now) tt) (λ _ ready. ready)

pub returns-in_err-pointer-clause-failed : goal.returns-in_err-pointer-clause-failed
returns-in_err-pointer-clause-failed g c = λ told. remains_at_err c.from_residual.result (standing (under (g.B.Blocks.shown c.args.blocks.now)) c.args.self.now) (standing (under (g.B.Blocks.shown c.keep_path.new.blocks)) c.keep_path.new.tree) (at_err c.from_residual.result (same_alike (standing (under (g.B.Blocks.shown c.args.blocks.now)) c.args.self.now) (standing (under (g.B.Blocks.shown c.keep_path.new.blocks)) c.keep_path.new.tree) (c.keep_path.ensures.loading.same told)))

pub returns-in_err-pointer-clause-held : goal.returns-in_err-pointer-clause-held
returns-in_err-pointer-clause-held g c = λ ready.
    let p = err_from_is_err_and c.from_residual.result c.from_residual.ensures.1 in
    rw (p.1, p.2) (c.in_err-pointer.ensures.held (has_way c.args.self.now c.args.index ready.way))

pub returns-in_err-pointer-clause-leaves : goal.returns-in_err-pointer-clause-leaves
returns-in_err-pointer-clause-leaves g c = λ told _ _. c.keep_path.ensures.loading.leaves told

pub returns-in_err-pointer-clause-unchanged : goal.returns-in_err-pointer-clause-unchanged
returns-in_err-pointer-clause-unchanged g c = λ told. at_err c.from_residual.result (c.keep_path.ensures.loading.leaves told)

pub returns-in_err-pointer-clause-steady : goal.returns-in_err-pointer-clause-steady
returns-in_err-pointer-clause-steady g c = let p = err_from_is_err_and c.from_residual.result c.from_residual.ensures.1 in
    rw (p.1, p.2) (steady_loaded 4 1 (loading_err c.in_err-pointer.ensures.loading) c.keep_path.ensures.keeps_ready)

pub returns-then-pointer-eq0-clause-place_by_place : goal.returns-then-pointer-eq0-clause-place_by_place
returns-then-pointer-eq0-clause-place_by_place g c = λ told.
    let path = c.in_ok-pointer.ensures in
    refilled_none (standing (under (g.B.Blocks.shown c.args.blocks.now)) c.args.self.now) (standing (under (g.B.Blocks.shown c.keep_path.new.blocks)) c.keep_path.new.tree) c.args.index c.args.block.now (path.loading.same told)
    (ap (λ (p : Pointer). p.stamp) (sym (path.pointer told)) ∙ c.if-pointer-eq0.true)

pub returns-then-pointer-eq0-clause-refilled : goal.returns-then-pointer-eq0-clause-refilled
returns-then-pointer-eq0-clause-refilled g c = λ told. refills (standing (under (g.B.Blocks.shown c.args.blocks.now)) c.args.self.now) (standing (under (g.B.Blocks.shown c.keep_path.new.blocks)) c.keep_path.new.tree) c.args.index c.args.block.now _ (returns-then-pointer-eq0-clause-place_by_place g c told)

pub returns-then-pointer-eq0-clause-leaves : goal.returns-then-pointer-eq0-clause-leaves
returns-then-pointer-eq0-clause-leaves g c = λ told _ _. c.in_ok-pointer.ensures.loading.leaves told

pub returns-then-pointer-eq0-clause-steady : goal.returns-then-pointer-eq0-clause-steady
returns-then-pointer-eq0-clause-steady g c = steady_loaded 4 1 (loading_ok _ c.in_ok-pointer.ensures.loading) c.keep_path.ensures.keeps_ready

pub returns-in_err-keep_cell-clause-failed : goal.returns-in_err-keep_cell-clause-failed
returns-in_err-keep_cell-clause-failed g c = λ told.
    let t = standing (under (g.B.Blocks.shown c.args.blocks.now)) c.args.self.now in
    let blocks = under (g.B.Blocks.shown c.keep_path.new.blocks) in
    let same = same_standing blocks c.keep_path.new.tree c.keep_cell.new.tree c.keep_cell.ensures.fields c.in_err-keep_cell.ensures.failed in
    remains_at_err c.from_residual-in_err-keep_cell.result t (standing blocks c.keep_cell.new.tree) (at_err c.from_residual-in_err-keep_cell.result (subst (IsAlike t) (sym same) (same_alike t (standing blocks c.keep_path.new.tree) (c.keep_path.ensures.loading.same told))))

pub returns-in_err-keep_cell-clause-leaves : goal.returns-in_err-keep_cell-clause-leaves
returns-in_err-keep_cell-clause-leaves g c = λ told _ _.
    let new : Shown = g.B.Blocks.shown c.keep_path.new.blocks in
    leaves_then (loaded (g.B.Blocks.shown c.args.blocks.now) c.args.self.now) (loaded new c.keep_path.new.tree) (loaded new c.keep_cell.new.tree) (c.keep_path.ensures.loading.leaves told)
    (leaves_cells (under new) c.keep_path.new.tree c.keep_cell.new.tree c.keep_cell.ensures.fields c.in_err-keep_cell.ensures.same)

pub returns-in_err-keep_cell-clause-unchanged : goal.returns-in_err-keep_cell-clause-unchanged
returns-in_err-keep_cell-clause-unchanged g c = λ told.
    let new : Shown = g.B.Blocks.shown c.keep_path.new.blocks in
    at_err c.from_residual-in_err-keep_cell.result (leaves_then (loaded (g.B.Blocks.shown c.args.blocks.now) c.args.self.now) (loaded new c.keep_path.new.tree) (loaded new c.keep_cell.new.tree) (c.keep_path.ensures.loading.leaves told)
    (leaves_cells (under new) c.keep_path.new.tree c.keep_cell.new.tree c.keep_cell.ensures.fields c.in_err-keep_cell.ensures.same))

pub returns-in_err-keep_cell-clause-steady : goal.returns-in_err-keep_cell-clause-steady
returns-in_err-keep_cell-clause-steady g c = let cell = c.in_err-keep_cell.ensures in
    let p = err_from_is_err_and c.from_residual-in_err-keep_cell.result c.from_residual-in_err-keep_cell.ensures.1 in
    rw (p.1, p.2) (steady_uncelled c.keep_cell.new.tree 4 _ (steady_loaded 0 0 c.in_ok-pointer.ensures.loading c.keep_path.ensures.keeps_ready) cell.fields cell.same cell.failed cell.still cell.held cell.memory)

pub mark_path-requires : goal.mark_path-requires
mark_path-requires g c = λ level low high xs node.
    let i = c.args.index in
    let fields = c.in_ok-keep_cell.ensures.fields in
    filled_way c.keep_path.new.tree i (c.in_ok-pointer.ensures.way c.if-pointer-eq0.false) level low (omega (arith, high, fields.levels)) xs
    (ap (λ (nodes : tree.BTreeMap Spot KeptNode). children_in nodes level (i / fan ^ level)) (sym fields.nodes) ∙ node)

pub returns-clause-ready : goal.returns-clause-ready
returns-clause-ready g c = λ _.
    let v = c.keep_path.new.tree in
    let w = c.keep_cell.new.tree in
    let u = c.mark_path.new.tree in
    let i = c.args.index in
    let path = c.in_ok-pointer.ensures in
    let cell = c.in_ok-keep_cell.ensures in
    let marked = c.mark_path.ensures in
    let levels : u.levels ≡ c.args.self.now.levels = marked.fields.levels ∙ cell.fields.levels ∙ path.loading.fields.levels in
    let within : i < fan ^ c.args.self.now.levels = omega (arith, c.if-index-width.false, c.width.ensures.is) in record {
      covers = subst (λ n. i < fan ^ n) (sym levels) within;
      cell = filled_cell (tree.get nat_cmp u.cells i) (ap (λ (m : tree.BTreeMap ℕ KeptCell). is_some (tree.get nat_cmp m i)) marked.fields.cells ∙ cell_there v w i c.args.block.now cell.cell);
      way = way_as v u i (marked.fields.levels ∙ cell.fields.levels) (marked.fields.root ∙ cell.fields.root)
          (λ level place. marked.nodes level place ∙ ap (λ (nodes : tree.BTreeMap Spot KeptNode). children_in nodes level place) cell.fields.nodes) (path.way c.if-pointer-eq0.false);
    }

pub returns-clause-place_by_place : goal.returns-clause-place_by_place
returns-clause-place_by_place g c = λ told.
    let t = standing (under (g.B.Blocks.shown c.args.blocks.now)) c.args.self.now in
    let path = c.in_ok-pointer.ensures in
    let cell = c.in_ok-keep_cell.ensures in
    let marked = c.mark_path.ensures in
    refilled_is (under (g.B.Blocks.shown c.keep_path.new.blocks)) c.keep_path.new.tree c.keep_cell.new.tree c.mark_path.new.tree c.args.index c.args.block.now cell.fields cell.cell marked.fields marked.nodes
    t (path.loading.same told) (λ none. c.if-pointer-eq0.false (ap (λ (p : Pointer). p.stamp) (path.pointer told) ∙ none))

pub returns-clause-refilled : goal.returns-clause-refilled
returns-clause-refilled g c = λ told. refills (standing (under (g.B.Blocks.shown c.args.blocks.now)) c.args.self.now) (standing (under (g.B.Blocks.shown c.keep_path.new.blocks)) c.mark_path.new.tree) c.args.index c.args.block.now _ (returns-clause-place_by_place g c told)

pub returns-clause-leaves : goal.returns-clause-leaves
returns-clause-leaves g c = λ told stood own.
    let old : Shown = g.B.Blocks.shown c.args.blocks.now in
    let new : Shown = g.B.Blocks.shown c.keep_path.new.blocks in
    let i = c.args.index in
    let t = c.args.self.now in
    let v = c.keep_path.new.tree in
    let w = c.keep_cell.new.tree in
    let u = c.mark_path.new.tree in
    let path = c.in_ok-pointer.ensures in
    let cell = c.in_ok-keep_cell.ensures in
    let marked = c.mark_path.ensures in
    let levels : w.levels ≡ t.levels = cell.fields.levels ∙ path.loading.fields.levels in
    let stands : StandsAt (standing (under old) t) 0 i = λ none. c.if-pointer-eq0.false (ap (λ (p : Pointer). p.stamp) (path.pointer told) ∙ none) in
    let there : StandsAt (standing (under new) v) 0 i = λ none. stands (ap (λ (p : Pointer). p.stamp) (sym ((path.loading.same told).pointers 0 i)) ∙ none) in
    leaves_then (loaded old t) (loaded new v) (loaded new u) (path.loading.leaves told)
    (refill_leaves (under new) v w u i cell.fields cell.own cell.others marked.fields marked.nodes marked.marks (λ level low high. cell_kept (under new) v w i true cell.fields cell.own cell.others level (path.kept told level low (omega (arith, high, levels)))) cell.changed
    (way_again (loaded old t) (loaded new v) i (path.loading.leaves told) there (changed_up (loaded old t) old.used stood i stands own)))

-- what the refill carries over from the loaded tree
refill_carries : (g : given.Over) (c : goal.After-mark_path g) → g.B.Blocks.told → Carries (g.B.Blocks.shown c.keep_path.new.blocks) (g.B.Blocks.shown c.keep_path.new.blocks) c.keep_path.new.tree c.mark_path.new.tree
refill_carries g c told =
    let new : Shown = g.B.Blocks.shown c.keep_path.new.blocks in
    let i = c.args.index in
    let v = c.keep_path.new.tree in
    let w = c.keep_cell.new.tree in
    let cell = c.in_ok-keep_cell.ensures in
    let marked = c.mark_path.ensures in
    let there : StandsAt (standing (under new) v) 0 i = λ none. c.if-pointer-eq0.false (ap (λ (p : Pointer). p.stamp) (c.in_ok-pointer.ensures.pointer told ∙ sym ((c.in_ok-pointer.ensures.loading.same told).pointers 0 i)) ∙ none) in
    let unplaced : (level : ℕ) → 1 ≤ level → level ≤ v.levels → (pointer_at (standing (under new) v) level (i / fan ^ level)).stamp ≡ 0 → placed_in v.nodes level (i / fan ^ level) ≡ false =
    λ level low high none. c.in_ok-pointer.ensures.unplaced told level low (omega (arith, high, c.in_ok-pointer.ensures.loading.fields.levels)) (ap (λ (p : Pointer). p.stamp) (sym ((c.in_ok-pointer.ensures.loading.same told).pointers level (i / fan ^ level))) ∙ none) in
    let levels : w.levels ≡ c.args.self.now.levels = cell.fields.levels ∙ c.in_ok-pointer.ensures.loading.fields.levels in
    let within : i < fan ^ c.args.self.now.levels = omega (arith, c.if-index-width.false, c.width.ensures.is) in
    let covers : i < fan ^ w.levels = subst (λ n. i < fan ^ n) (sym levels) within in
    carries_within new v w c.mark_path.new.tree i true cell.fields cell.own cell.others (λ none. absurd (there none)) (λ _. refl) unplaced covers
    (remarked_is (under new) w c.mark_path.new.tree i marked.fields marked.nodes marked.marks
    (λ none. there (ap (λ (p : Pointer). p.stamp) (sym (cell_pointers (under new) v w i true cell.fields cell.own cell.others 0 i)) ∙ none))
    (λ level low high. cell_kept (under new) v w i true cell.fields cell.own cell.others level (c.in_ok-pointer.ensures.kept told level low (omega (arith, high, levels)))) cell.changed)

pub returns-clause-steady : goal.returns-clause-steady
returns-clause-steady g c = let w = c.keep_path.new.tree in
    let v = c.keep_cell.new.tree in
    let u = c.mark_path.new.tree in
    let path = c.in_ok-pointer.ensures in
    let cell = c.in_ok-keep_cell.ensures in
    let marked = c.mark_path.ensures in
    let rises : Rises w u 4 1 = (let one = ap cells_changed marked.fields.cells in
    let held : cells_held u ≡ cells_held v = ap (λ (m : tree.BTreeMap ℕ KeptCell). tree.btree_map_len m) marked.fields.cells in
    let nodes = ap changes_in cell.fields.nodes in
    let few = v.few in record {
      pending = omega (arith, one, nodes, cell.count, marked.changes, few);
      cells = omega (arith, held, cell.held);
    }) in
    steady_on u 4 1 _ (steady_loaded 0 0 path.loading path.keeps_ready) (marked.fields.owner ∙ cell.fields.owner) (refill_carries g c)
    (ready_then w v u (cells_put w v c.args.index c.args.block.now cell.fields cell.cell) (marks_ready v u marked.fields marked.nodes)) rises tt
