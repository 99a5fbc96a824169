use Rattle.std.proofs.Common.{◌≡◌, ℕ, Some, is_some, refl, ap, ◌∙◌, arith}
use Rattle.std.specs.Ordering.{nat_cmp}
use Rattle.std.specs.BTreeMap as maps
use Rattle.std.proofs.lemmas.Result.{err_from_is_err_and}
use Rattle.fv_tree.specs.declared.kept.KeptCell.{KeptCell}
use Rattle.fv_tree.specs.Flushing.{Flushes, Stands, cell_changed, loaded}
use Rattle.fv_tree.specs.Sources.{WasFree}
use Rattle.fv_tree.proofs.Anew.{flush_anew, free_now}
use Rattle.fv_tree.proofs.Gone.{changed_cell, flushes_still}
use Rattle.fv_tree.proofs.Differing.{fits_cell, marked_over, some_cell}
use Rattle.fv_tree.proofs.KeptUnder.{flush_keeps, found_names}
use Rattle.fv_tree.proofs.Stepped.{cell_step, cell_strays, found_step}
use Rattle.fv_tree.proofs.Calls.{counts_calm, flushes_failed, flushes_none}
use Rattle.fv_tree.specs.Costs.{cells_held}
use Rattle.fv_tree.proofs.flush.flush_first_cell.Goals as goal

pub returns-in-None-clause-flushing : goal.returns-in-None-clause-flushing
returns-in-None-clause-flushing g c = flushes_none c.args.blocks.now c.args.tree.now _ (g.met.B.Blocks.goes_nothing c.args.blocks.now) (λ v. g.met.B.Blocks.reads_keep v c.args.blocks.now c.args.blocks.now (g.met.B.Blocks.reads_nothing c.args.blocks.now))

pub returns-in_err-flush_cell-in-Some-clause-flushing : goal.returns-in_err-flush_cell-in-Some-clause-flushing
returns-in_err-flush_cell-in-Some-clause-flushing g c = let failed = c.in_err-flush_cell-in-Some.ensures in
    let some = some_cell c.args.tree.now.cells c.in-Some.cell.index (ap cell_changed c.in-Some.ensures.there.is ∙ c.in-Some.ensures.there.changed ∙ c.in_err-flush_cell-in-Some.ensures.changed) in
    let p = err_from_is_err_and c.from_residual.result c.from_residual.ensures.1 in
    rw (p.1, p.2) (flushes_failed failed.one failed.failed
    (λ told stands.
    flush_keeps {hides = c.args.hides} (g.B.Blocks.shown c.args.blocks.now) (g.B.Blocks.shown c.flush_cell.new.blocks) c.args.tree.now c.flush_cell.new.tree (λ v. g.B.Blocks.keeps v c.args.blocks.now c.flush_cell.new.blocks) stands (flushes_still (g.B.Blocks.shown c.args.blocks.now) (g.B.Blocks.shown c.flush_cell.new.blocks) c.args.tree.now c.flush_cell.new.tree failed.one.untouched.held failed.one.untouched.used failed.failed stands)
    (c.in_err-flush_cell-in-Some.ensures.keeps told (found_names (g.B.Blocks.shown c.args.blocks.now) c.args.tree.now c.in-Some.cell.index stands c.in-Some.ensures.there)))
    (λ none. absurd (omega (arith, some, none))))

pub returns-in_ok-flush_cell-in-Some-clause-flushing : goal.returns-in_ok-flush_cell-in-Some-clause-flushing
returns-in_ok-flush_cell-in-Some-clause-flushing g c = let did = c.in_ok-flush_cell-in-Some.ensures in
    let still = did.still in
    let forgets = c.forget_cell.ensures.forgets in
    let flushes : g.B.Blocks.told → Stands (g.B.Blocks.shown c.args.blocks.now) c.args.tree.now → Flushes c.args.hides (loaded (g.B.Blocks.shown c.args.blocks.now) c.args.tree.now) (g.B.Blocks.shown c.args.blocks.now).used (loaded (g.B.Blocks.shown c.flush_cell.new.blocks) c.forget_cell.new.tree) (g.B.Blocks.shown c.flush_cell.new.blocks).used = λ told stands. (cell_step c.args.hides (g.B.Blocks.shown c.args.blocks.now) (g.B.Blocks.shown c.flush_cell.new.blocks) c.args.tree.now c.flush_cell.new.tree c.forget_cell.new.tree c.in-Some.cell.index c.in-Some.ensures.there.cell stands c.in-Some.ensures.there.is (found_step (g.B.Blocks.shown c.args.blocks.now) (g.B.Blocks.shown c.flush_cell.new.blocks) c.args.tree.now c.flush_cell.new.tree c.in-Some.cell.index c.in-Some.ensures.there (c.in_ok-flush_cell-in-Some.ensures.cell told)) c.forget_cell.ensures.forgets).flushes in record {
      flushes = flushes;
      anew = λ told stands.
          let old = g.B.Blocks.shown c.args.blocks.now in
          let new = g.B.Blocks.shown c.flush_cell.new.blocks in
          let step = cell_step c.args.hides (g.B.Blocks.shown c.args.blocks.now) (g.B.Blocks.shown c.flush_cell.new.blocks) c.args.tree.now c.flush_cell.new.tree c.forget_cell.new.tree c.in-Some.cell.index c.in-Some.ensures.there.cell stands c.in-Some.ensures.there.is (found_step (g.B.Blocks.shown c.args.blocks.now) (g.B.Blocks.shown c.flush_cell.new.blocks) c.args.tree.now c.flush_cell.new.tree c.in-Some.cell.index c.in-Some.ensures.there (c.in_ok-flush_cell-in-Some.ensures.cell told)) c.forget_cell.ensures.forgets in
          flush_anew (loaded old c.args.tree.now) old.used (loaded new c.forget_cell.new.tree) new.used (WasFree g.B.Blocks.shown g.B.Blocks.goes c.args.blocks.now c.flush_cell.new.blocks) step.flushes
          (λ v placed. free_now g.B.Blocks.shown g.B.Blocks.goes c.args.blocks.now c.flush_cell.new.blocks (g.met.B.Blocks.goes_nothing c.args.blocks.now) c.in_ok-flush_cell-in-Some.ensures.one.calls v (step.fresh v placed));
      keeps = λ told stands.
          flush_keeps (g.B.Blocks.shown c.args.blocks.now) (g.B.Blocks.shown c.flush_cell.new.blocks) c.args.tree.now c.forget_cell.new.tree (λ v. g.B.Blocks.keeps v c.args.blocks.now c.flush_cell.new.blocks) stands (flushes told stands)
          (c.in_ok-flush_cell-in-Some.ensures.keeps told (found_names (g.B.Blocks.shown c.args.blocks.now) c.args.tree.now c.in-Some.cell.index stands c.in-Some.ensures.there));
      strays = λ told stands.
          cell_strays (g.B.Blocks.shown c.args.blocks.now) (g.B.Blocks.shown c.flush_cell.new.blocks) c.args.tree.now c.flush_cell.new.tree c.in-Some.cell.index c.in-Some.ensures.there.cell stands c.in-Some.ensures.there.is (found_step (g.B.Blocks.shown c.args.blocks.now) (g.B.Blocks.shown c.flush_cell.new.blocks) c.args.tree.now c.flush_cell.new.tree c.in-Some.cell.index c.in-Some.ensures.there (c.in_ok-flush_cell-in-Some.ensures.cell told));
      fits = λ told stands.
          let old = g.B.Blocks.shown c.args.blocks.now in
          let t = c.args.tree.now in
          let i = c.in-Some.cell.index in
          let found = c.in-Some.ensures.there in
          let there = found.is in
          let did = c.in_ok-flush_cell-in-Some.ensures in
          let held : maps.get nat_cmp c.flush_cell.new.tree.cells i ≡ maps.get nat_cmp t.cells i = ap (λ (cells : maps.BTreeMap ℕ KeptCell). maps.get nat_cmp cells i) did.still.cells in
          fits_cell old (g.B.Blocks.shown c.flush_cell.new.blocks) t c.flush_cell.new.tree c.forget_cell.new.tree c.in-Some.cell.changed
          (did.changes (λ changed some lt. marked_over old t 0 i stands (changed_cell t 0 i refl ∙ ap cell_changed there ∙ found.changed ∙ changed) some lt)) did.still.cells c.forget_cell.ensures.forgets.nodes c.forget_cell.ensures.changes
          (λ changed. c.forget_cell.ensures.fewer (ap cell_changed (held ∙ there) ∙ found.changed ∙ changed)) did.still_room did.one.room;
      enough = λ _ _ _. tt;
      left = record {
        owner = forgets.owner ∙ still.owner;
        levels = forgets.levels ∙ still.levels;
        root = λ none. forgets.root ∙ still.root none;
        cells = (let there : maps.get nat_cmp c.flush_cell.new.tree.cells c.in-Some.cell.index ≡ Some c.in-Some.ensures.there.cell = ap (λ (cells : maps.BTreeMap ℕ KeptCell). maps.get nat_cmp cells c.in-Some.cell.index) still.cells ∙ c.in-Some.ensures.there.is in
            let fewer = c.forget_cell.ensures.len (ap is_some there) in
            let held : cells_held c.flush_cell.new.tree ≡ cells_held c.args.tree.now = ap (λ (m : maps.BTreeMap ℕ KeptCell). maps.btree_map_len m) still.cells in omega (arith, fewer, held));
      };
      spent = did.one.spent;
      places = did.one.places;
      calls = did.one.calls;
      counts = counts_calm (g.B.Blocks.shown c.args.blocks.now) (g.B.Blocks.shown c.flush_cell.new.blocks) _ did.one.counts.calm;
      cause = tt;
    }
