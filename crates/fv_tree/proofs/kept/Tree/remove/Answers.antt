use Rattle.std.proofs.Common.{◌≤◌, ◌^◌, nat_eq, refl, sym, ap, ◌∙◌, arith}
use Rattle.fv_tree.specs.Keeping.{IsSame}
use Rattle.std.specs.FinMap as fin
use Rattle.fv_codec.specs.declared.pointer.Pointer.{Pointer}
use Rattle.fv_model.specs.Trees.{fan}
use Rattle.fv_tree.specs.Standing.{standing, under}
use Rattle.fv_tree.specs.Erasing.{StandsAt}
use Rattle.fv_tree.specs.Flushing.{loaded}
use Rattle.fv_tree.proofs.Altered.{leaves_itself}
use Rattle.fv_tree.proofs.Causes.{calm_itself, calm_then, untouched_itself}
use Rattle.fv_tree.proofs.Counts.{alike_count}
use Rattle.fv_tree.proofs.Held.{same_self}
use Rattle.fv_tree.proofs.Released.{keeps_self}
use Rattle.fv_tree.proofs.Removing.{removal_after, removes_nothing, removes_one, same_over, none_past, not_a_hole, way_kept}
use Rattle.fv_tree.proofs.Writes.{same_alike}
use Rattle.fv_tree.proofs.Calls.{removing_done, removing_err, rises_but}
use Rattle.std.proofs.lemmas.Result.{err_from_is_err_and}
use Rattle.fv_tree.proofs.kept.Tree.remove.Given as given
use Rattle.fv_tree.proofs.kept.Tree.remove.Goals as goal

pub returns-then-index-width-clause-removal : goal.returns-then-index-width-clause-removal
returns-then-index-width-clause-removal g c = removal_after _ _ _ _ _ _ _ _ _ _ (removing_done 0
    (λ told.
    let shown = g.B.Blocks.shown c.args.blocks.now in
    let t = c.args.self.now in
    let past : fan ^ t.levels ≤ c.args.index = omega (arith, c.if-index-width.true, c.width.ensures.is) in
    removes_nothing shown shown t t (nat_eq c.args.index) c.args.start c.args.stamp (untouched_itself shown) (record { faults = omega arith; damages = omega arith; spent = omega arith })
    (same_self (standing (under shown) t)) (keeps_self (under shown) t) (λ stands. stands) (leaves_itself (loaded shown t)) (not_a_hole (standing (under shown) t) c.args.index (none_past (standing (under shown) t) c.args.index past)))
    (λ _. omega arith) refl (omega arith) (omega arith) (g.met.B.Blocks.goes_nothing c.args.blocks.now) (calm_itself (g.B.Blocks.shown c.args.blocks.now)))

pub returns-in_err-pointer-clause-removal : goal.returns-in_err-pointer-clause-removal
returns-in_err-pointer-clause-removal g c = let p = err_from_is_err_and c.from_residual.result c.from_residual.ensures.1 in
    rw (p.1, p.2) (removal_after _ _ _ _ _ _ _ _ _ _ (removing_err (nat_eq c.args.index) c.args.start c.args.stamp c.in_err-pointer.ensures.loading (g.met.B.Blocks.reads_go c.args.blocks.now c.keep_path.new.blocks)))

pub returns-then-pointer-eq0-clause-removal : goal.returns-then-pointer-eq0-clause-removal
returns-then-pointer-eq0-clause-removal g c = let path = c.in_ok-pointer.ensures.loading in
    let rises = rises_but c.args.self.now c.keep_path.new.tree 0 0 path.fields path.changes in
    removal_after _ _ _ _ _ _ _ _ _ _ (removing_done 0
    (λ told.
    let shown = g.B.Blocks.shown c.args.blocks.now in
    let t = c.args.self.now in
    let path = c.in_ok-pointer.ensures in
    removes_nothing shown (g.B.Blocks.shown c.keep_path.new.blocks) t c.keep_path.new.tree (nat_eq c.args.index) c.args.start c.args.stamp path.loading.untouched path.loading.counts.calm (path.loading.same told) (path.loading.blocks told) (path.carries told).stands (path.loading.leaves told)
    (not_a_hole (standing (under shown) t) c.args.index (ap (λ (p : Pointer). p.stamp) (sym (path.pointer told)) ∙ c.if-pointer-eq0.true)))
    (λ told.
    let a = g.B.Blocks.shown c.args.blocks.now in
    let t = c.args.self.now in
    let u = c.keep_path.new.tree in
    let path = c.in_ok-pointer.ensures in
    let same = alike_count (standing (under a) t) (standing (under a) u) (same_alike (standing (under a) t) (standing (under a) u) (same_over (under a) (under (g.B.Blocks.shown c.keep_path.new.blocks)) t u (ap (λ h v. fin.get h v) path.loading.untouched.held) (path.loading.same told))) in
    omega (arith, same))
    path.fields.owner (omega (arith, path.untouched.room)) (omega (arith, rises.cells)) (g.met.B.Blocks.reads_go c.args.blocks.now c.keep_path.new.blocks path.reads) path.counts.calm)

-- the tree as it was after the way came into memory, over the blocks from before
same_here : (g : given.Over) (c : goal.After-erase_cell g) → g.B.Blocks.told → IsSame (standing (under (g.B.Blocks.shown c.args.blocks.now)) c.args.self.now) (standing (under (g.B.Blocks.shown c.args.blocks.now)) c.keep_path.new.tree)
same_here g c told =
    let loading = c.in_ok-pointer.ensures.loading in
    same_over (under (g.B.Blocks.shown c.args.blocks.now)) (under (g.B.Blocks.shown c.keep_path.new.blocks)) c.args.self.now c.keep_path.new.tree (ap (λ h v. fin.get h v) loading.untouched.held) (loading.same told)

stands_here : (g : given.Over) (c : goal.After-erase_cell g) → g.B.Blocks.told → StandsAt (standing (under (g.B.Blocks.shown c.args.blocks.now)) c.keep_path.new.tree) 0 c.args.index
stands_here g c told none = c.if-pointer-eq0.false (ap (λ (p : Pointer). p.stamp) (c.in_ok-pointer.ensures.pointer told ∙ sym ((same_here g c told).pointers 0 c.args.index)) ∙ none)

pub returns-clause-removal : goal.returns-clause-removal
returns-clause-removal g c = let first = c.in_ok-pointer.ensures.loading in
    let erase = c.erase_cell.ensures in
    let rises = rises_but c.args.self.now c.keep_path.new.tree 0 0 first.fields first.changes in
    removal_after _ _ _ _ _ _ _ _ _ _ (removing_done _
    (λ told.
    let a = g.B.Blocks.shown c.args.blocks.now in
    let b = g.B.Blocks.shown c.keep_path.new.blocks in
    let t = c.args.self.now in
    let u = c.keep_path.new.tree in
    let path = c.in_ok-pointer.ensures in
    let way = way_kept (under b) u c.args.index t.levels path.loading.fields.levels (path.kept told) in
    removes_one a b _ t u _ c.args.index c.args.start c.args.stamp _ path.loading.untouched path.loading.counts.calm (path.loading.same told) (path.loading.blocks told) (path.carries told).stands (path.loading.leaves told)
    (erase.erases way (under a) (stands_here g c told)))
    (λ told.
    let a = under (g.B.Blocks.shown c.args.blocks.now) in
    let s = standing a c.args.self.now in
    let v = standing a c.keep_path.new.tree in
    let way = way_kept (under (g.B.Blocks.shown c.keep_path.new.blocks)) c.keep_path.new.tree c.args.index c.args.self.now.levels first.fields.levels (c.in_ok-pointer.ensures.kept told) in
    sym (alike_count s v (same_alike s v (same_here g c told))) ∙ (erase.erases way a (stands_here g c told)).count)
    (erase.owner ∙ first.fields.owner) (omega (arith, first.untouched.room, erase.room)) (omega (arith, rises.cells, erase.differs.held))
    (g.met.B.Blocks.goes_on c.args.blocks.now c.keep_path.new.blocks c.erase_cell.new.blocks (g.met.B.Blocks.reads_go c.args.blocks.now c.keep_path.new.blocks first.reads) erase.calls)
    (calm_then (g.B.Blocks.shown c.args.blocks.now) (g.B.Blocks.shown c.keep_path.new.blocks) (g.B.Blocks.shown c.erase_cell.new.blocks) first.counts.calm erase.calm))
