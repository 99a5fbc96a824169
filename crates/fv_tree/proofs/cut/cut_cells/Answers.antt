use Rattle.std.proofs.Common.{◌≡◌, ◌≤◌, ◌+◌, ◌/◌, ◌^◌, ap, get_or, length, refl, sym, subst, ◌∙◌, arith, ℕ, nat_le, inl, inr}
use Rattle.fv_tree.specs.Standing.{standing, under}
use Rattle.fv_tree.specs.Erasing.{StandsAt}
use Rattle.fv_tree.specs.Releasing.{Removes}
use Rattle.fv_tree.specs.Unlinking.{HasWay}
use Rattle.fv_model.specs.Trees.{fan}
use Rattle.std.specs.FinMap as fin
use Rattle.fv_tree.specs.Counting.{positions_of}
use Rattle.fv_tree.specs.Collecting.{AllBelow, Collects}
use Rattle.std.specs.BTreeMap as maps
use Rattle.fv_tree.specs.declared.kept.KeptCell.{KeptCell}
use Rattle.fv_tree.specs.Costs.{cells_changed, cells_held}
use Rattle.fv_tree.proofs.Bordered.{few_differ}
use Rattle.fv_tree.proofs.Causes.{calm_then}
use Rattle.fv_tree.proofs.Collected.{listed, next_listed, none_listed, not_yet, listed_past, way_held}
use Rattle.fv_tree.proofs.Counts.{alike_count, count_then, few_below}
use Rattle.fv_tree.proofs.Removing.{removes_nothing, removes_then, removes_as, removes_stands, removes_holds, same_over}
use Rattle.fv_tree.proofs.Writes.{same_alike}
use Rattle.fv_tree.proofs.Calls.{removing_done, removing_err}
use Rattle.fv_tree.specs.Calls.{ErasesCell}
use Rattle.std.proofs.lemmas.Result.{err_from_is_err_and}
use Rattle.fv_tree.proofs.cut.cut_cells.Goals as goal

pub loop-index-init : goal.loop-index-init
loop-index-init g c =
    let a = g.B.Blocks.shown c.args.blocks.now in
    let b = g.B.Blocks.shown c.keep_past.new.blocks in
    let u = c.keep_past.new.tree in
    let s = standing (under a) c.args.tree.now in
    let cells = c.as_slice-index-items.result.now in
    let now = c.in_ok-cells.ensures in
    let are : g.B.Blocks.told → Collects s 0 c.args.most cells = λ told. subst (Collects s 0 c.args.most) (sym c.as_slice-index-items.ensures.value) (now.cells told) in record {
      removes = λ told. removes_nothing a b _ u (listed cells 0) c.args.start c.args.stamp now.loading.untouched now.loading.counts.calm (now.loading.same told) (now.loading.blocks told) (now.loading.stands told) (now.loading.leaves told) (λ i _. none_listed cells i);
      count = λ told. let same = alike_count s (standing (under a) u) (same_alike s (standing (under a) u) (same_over (under a) (under b) c.args.tree.now u (ap (λ h v. fin.get h v) now.loading.untouched.held) (now.loading.same told))) in omega (arith, same);
      few = omega arith;
      marks = λ told level place changed. inl (now.loading.marks told level place changed);
      cells = (let same = ap cells_changed now.loading.fields.cells in omega (arith, same));
      held = (let same : cells_held u ≡ cells_held c.args.tree.now = ap (λ (m : maps.BTreeMap ℕ KeptCell). maps.btree_map_len m) now.loading.fields.cells in omega (arith, same));
      none = λ _. now.loading.changes;
      ordered = inl refl;
      calm = now.loading.counts.calm;
      owner = now.loading.fields.owner;
      room = omega (arith, now.loading.untouched.room);
      calls = g.met.B.Blocks.reads_go c.args.blocks.now c.keep_past.new.blocks now.loading.reads;
      ways = λ told j _ lt. way_held (under b) u s c.args.most (get_or cells j 0) now.loading.fields.levels (now.nodes told) ((are told).past j lt);
    }

pub loop-index-preserved : goal.loop-index-preserved
loop-index-preserved g c =
    let a = g.B.Blocks.shown c.args.blocks.now in
    let b = g.B.Blocks.shown c.loop-index.blocks in
    let d = g.B.Blocks.shown c.erase_cell-gone.new.blocks in
    let t = c.args.tree.now in
    let u = c.loop-index.tree in
    let w = c.erase_cell-gone.new.tree in
    let s = standing (under a) t in
    let cells = c.as_slice-index-items.result.now in
    let at = c.loop-index.index-index in
    let index = get_or cells at 0 in
    let was = c.loop-index.invariant in
    let now = c.erase_cell-gone.ensures in
    let are : g.B.Blocks.told → Collects s 0 c.args.most cells = λ told. subst (Collects s 0 c.args.most) (sym c.as_slice-index-items.ensures.value) (c.in_ok-cells.ensures.cells told) in
    let way : g.B.Blocks.told → HasWay u index = λ told. was.ways told at (omega arith) c.loop-index-test.true in
    let stands : g.B.Blocks.told → StandsAt (standing (under a) u) 0 index = λ told.
    removes_stands a b t u (listed cells at) c.args.start c.args.stamp (was.removes told) index ((are told).past at c.loop-index-test.true).stands (not_yet cells at at (are told).rising (omega arith) c.loop-index-test.true) in
    let erases : g.B.Blocks.told → ErasesCell (under a) b d u w index c.args.start c.args.stamp c.erase_cell-gone.result = λ told. now.erases (way told) (under a) (stands told) in
    let next : g.B.Blocks.told → Removes a d t w (listed cells (at + 1)) c.args.start c.args.stamp = λ told.
    removes_then a b d t u w (listed cells at) (listed cells (at + 1)) index c.args.start c.args.stamp (was.removes told) (erases told).goes (erases told).released (erases told).strays (next_listed cells at)
    (removes_holds a b t u (listed cells at) c.args.start c.args.stamp (was.removes told)) in record {
      removes = next;
      count = λ told.
          let small : length cells ≤ fan ^ 3 = few_below cells (fan ^ 3) (are told).rising (subst (λ xs. AllBelow xs (fan ^ 3)) (sym c.as_slice-index-items.ensures.value) c.in_ok-cells.ensures.bound) in
          let less = c.loop-index-test.true in
          let most = c.erase_cell-gone.ensures.few in
          let all = was.few in
          count_then (positions_of s) (positions_of (standing (under a) u)) (positions_of (standing (under a) w)) c.loop-index.count c.erase_cell-gone.result c.saturating_add-count.result (was.count told) (erases told).count
          (omega (arith, c.saturating_add-count.ensures, small, less, most, all));
      few = (let most = c.erase_cell-gone.ensures.few in let all = was.few in omega (arith, c.saturating_add-count.ensures, most, all));
      marks = λ told level place changed. elim (now.differs.marks level place changed) [
        | inl still ↦ was.marks told level place still
        | inr over ↦ inr (record { cell = index; far = (let far = ((are told).past at c.loop-index-test.true).far in let first : c.args.most / fan ^ 0 ≡ c.args.most = omega arith in let same : index / fan ^ 0 ≡ index = omega arith in omega (arith, far, first, same)); over = over })
      ];
      cells = (let less = now.differs.cells in let before = was.cells in omega (arith, less, before));
      held = (let less = now.differs.held in let before = was.held in omega (arith, less, before));
      none = λ e. absurd (omega (arith, e));
      ordered = inr now.differs.ordered;
      calm = calm_then a b d was.calm c.erase_cell-gone.ensures.calm;
      owner = c.erase_cell-gone.ensures.owner ∙ was.owner;
      room = omega (arith, was.room, c.erase_cell-gone.ensures.room);
      calls = g.met.B.Blocks.goes_on c.args.blocks.now c.loop-index.blocks c.erase_cell-gone.new.blocks was.calls c.erase_cell-gone.ensures.calls;
      ways = λ told j le lt.
          (erases told).goes.ways (get_or cells j 0) (removes_stands a d t w (listed cells (at + 1)) c.args.start c.args.stamp (next told) (get_or cells j 0) ((are told).past j lt).stands (not_yet cells (at + 1) j (are told).rising le lt)) (was.ways told j (omega (arith, le)) lt);
    }

pub returns-in_err-cells-clause-removing : goal.returns-in_err-cells-clause-removing
returns-in_err-cells-clause-removing g c = let p = err_from_is_err_and c.from_residual.result c.from_residual.ensures.1 in
    rw (p.1, p.2) (removing_err (nat_le c.args.most) c.args.start c.args.stamp c.in_err-cells.ensures.loading (g.met.B.Blocks.reads_go c.args.blocks.now c.keep_past.new.blocks))

pub returns-clause-removing : goal.returns-clause-removing
returns-clause-removing g c = let was = c.loop-index.invariant in
    removing_done c.loop-index.count
    (λ told.
    let a = g.B.Blocks.shown c.args.blocks.now in
    let t = c.args.tree.now in
    let s = standing (under a) t in
    let cells = c.as_slice-index-items.result.now in
    let are : Collects s 0 c.args.most cells = subst (Collects s 0 c.args.most) (sym c.as_slice-index-items.ensures.value) (c.in_ok-cells.ensures.cells told) in
    let all : c.loop-index.index-index ≡ length cells = omega (arith, c.loop-index-test.false, c.loop-index.auto.index-index-end) in
    removes_as a (g.B.Blocks.shown c.loop-index.blocks) t c.loop-index.tree (listed cells c.loop-index.index-index) (nat_le c.args.most) c.args.start c.args.stamp (c.loop-index.invariant.removes told)
    (λ i stands. subst (λ n. nat_le c.args.most i ≡ listed cells n i) (sym all) (listed_past s c.args.most cells are i stands)))
    was.count was.owner was.room was.held was.calls was.calm

pub returns-clause-pending : goal.returns-clause-pending
returns-clause-pending g c = λ told stands holds.
    let a = g.B.Blocks.shown c.args.blocks.now in
    let t = c.args.tree.now in
    let u = c.loop-index.tree in
    let was = c.loop-index.invariant in
    let removes = (returns-clause-removing g c).done told in
    elim was.ordered [
      | inl none ↦ (let less = was.none none in let cells = was.cells in omega (arith, less, cells))
      | inr ordered ↦ few_differ (under a) a.used t u c.args.most c.args.start c.args.stamp (removes.erased holds) (removes.sound stands) (was.marks told) ordered was.cells
    ]
