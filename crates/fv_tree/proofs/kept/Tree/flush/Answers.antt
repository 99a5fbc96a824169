use Rattle.std.proofs.Common.{◌≡◌, ℕ, ap, subst, ◌∙◌}
use Rattle.std.proofs.lemmas.Result.{err_from_is_err_and}
use Rattle.std.specs.BTreeMap as maps
use Rattle.fv_tree.specs.Spelled.{stored}
use Rattle.fv_tree.specs.Sources.{Shown}
use Rattle.fv_tree.specs.Standing.{under}
use Rattle.fv_tree.specs.Flushing.{ReachesOnce}
use Rattle.fv_tree.specs.declared.kept.KeptCell.{KeptCell}
use Rattle.fv_tree.proofs.Differing.{none_pending}
use Rattle.fv_tree.proofs.StoredFlush.{stored_flush, tells_flush}
use Rattle.fv_tree.proofs.Whole.{is_stored, reaches}
use Rattle.fv_tree.proofs.Calls.{flushes_err, flushes_ok, flushes_on}
use Rattle.fv_tree.proofs.kept.Tree.flush.Goals as goal

pub returns-in_err-flush_cells-clause-flushing : goal.returns-in_err-flush_cells-clause-flushing
returns-in_err-flush_cells-clause-flushing g c = let p = err_from_is_err_and c.from_residual.result c.from_residual.ensures.1 in
    rw (p.1, p.2) (flushes_err c.in_err-flush_cells.ensures.flushing)

pub returns-in_err-flush_nodes-clause-flushing : goal.returns-in_err-flush_nodes-clause-flushing
returns-in_err-flush_nodes-clause-flushing g c = let p = err_from_is_err_and c.from_residual-in_err-flush_nodes.result c.from_residual-in_err-flush_nodes.ensures.1 in
    rw (p.1, p.2) (flushes_err (flushes_on g.met.B.Blocks.goes_on g.met.B.Blocks.keeps_on c.in_ok-flush_cells.ensures.flushing c.in_err-flush_nodes.ensures.flushing))

pub returns-clause-flushing : goal.returns-clause-flushing
returns-clause-flushing g c = flushes_ok _ (flushes_on g.met.B.Blocks.goes_on g.met.B.Blocks.keeps_on c.in_ok-flush_cells.ensures.flushing c.in_ok-flush_nodes.ensures.flushing)

pub returns-clause-reaches : goal.returns-clause-reaches
returns-clause-reaches g c = λ told stands.
    let new : Shown = g.B.Blocks.shown c.flush_nodes.new.blocks in
    let t = c.flush_nodes.new.tree in
    let cells = c.in_ok-flush_cells.ensures in
    let nodes = c.in_ok-flush_nodes.ensures in
    let none : maps.btree_map_len t.cells ≡ 0 = ap (λ (m : maps.BTreeMap ℕ KeptCell). maps.btree_map_len m) nodes.cells ∙ cells.none in
    subst (λ owner. ReachesOnce new.used (stored (under new) owner c.args.self.now.levels t.root)) (nodes.flushing.left.owner ∙ cells.flushing.left.owner)
    (subst (λ levels. ReachesOnce new.used (stored (under new) t.owner levels t.root)) (nodes.flushing.left.levels ∙ cells.flushing.left.levels)
    (subst (ReachesOnce new.used) (is_stored t nodes.none none (under new)) (reaches t nodes.none none (under new) new.used (nodes.flushing.flushes told (cells.flushing.flushes told stands).sound).sound)))

pub returns-clause-pending : goal.returns-clause-pending
returns-clause-pending g c =
    let nodes = c.in_ok-flush_nodes.ensures in
    none_pending c.flush_nodes.new.tree nodes.none (ap (λ (m : maps.BTreeMap ℕ KeptCell). maps.btree_map_len m) nodes.cells ∙ c.in_ok-flush_cells.ensures.none)

pub returns-in_err-flush_cells-clause-stored_well : goal.returns-in_err-flush_cells-clause-stored_well
returns-in_err-flush_cells-clause-stored_well g c = λ told stands.
    stored_flush (g.B.Blocks.shown c.args.blocks.now) (g.B.Blocks.shown c.flush_cells.new.blocks) c.args.self.now c.flush_cells.new.tree stands (c.in_err-flush_cells.ensures.flushing.flushes told stands)

pub returns-in_err-flush_nodes-clause-stored_well : goal.returns-in_err-flush_nodes-clause-stored_well
returns-in_err-flush_nodes-clause-stored_well g c = λ told stands.
    stored_flush (g.B.Blocks.shown c.args.blocks.now) (g.B.Blocks.shown c.flush_nodes.new.blocks) c.args.self.now c.flush_nodes.new.tree stands ((returns-in_err-flush_nodes-clause-flushing g c).flushes told stands)

pub returns-clause-stored_well : goal.returns-clause-stored_well
returns-clause-stored_well g c = λ told stands.
    stored_flush (g.B.Blocks.shown c.args.blocks.now) (g.B.Blocks.shown c.flush_nodes.new.blocks) c.args.self.now c.flush_nodes.new.tree stands ((returns-clause-flushing g c).flushes told stands)

pub returns-in_err-flush_cells-clause-tells : goal.returns-in_err-flush_cells-clause-tells
returns-in_err-flush_cells-clause-tells g c = λ told stands.
    tells_flush (g.B.Blocks.shown c.args.blocks.now) (g.B.Blocks.shown c.flush_cells.new.blocks) c.args.self.now c.flush_cells.new.tree stands (c.in_err-flush_cells.ensures.flushing.flushes told stands)

pub returns-in_err-flush_nodes-clause-tells : goal.returns-in_err-flush_nodes-clause-tells
returns-in_err-flush_nodes-clause-tells g c = λ told stands.
    tells_flush (g.B.Blocks.shown c.args.blocks.now) (g.B.Blocks.shown c.flush_nodes.new.blocks) c.args.self.now c.flush_nodes.new.tree stands ((returns-in_err-flush_nodes-clause-flushing g c).flushes told stands)

pub returns-clause-tells : goal.returns-clause-tells
returns-clause-tells g c = λ told stands.
    tells_flush (g.B.Blocks.shown c.args.blocks.now) (g.B.Blocks.shown c.flush_nodes.new.blocks) c.args.self.now c.flush_nodes.new.tree stands ((returns-clause-flushing g c).flushes told stands)
