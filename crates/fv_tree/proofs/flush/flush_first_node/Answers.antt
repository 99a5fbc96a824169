use Rattle.std.proofs.Common.{◌≡◌, ℕ, is_some, ap, ◌∙◌, arith}
use Rattle.std.proofs.lemmas.Result.{err_from_is_err_and}
use Rattle.fv_tree.specs.Flushing.{Flushes, Stands, loaded, node_changed}
use Rattle.fv_tree.specs.Sources.{WasFree}
use Rattle.fv_tree.proofs.Anew.{flush_anew, free_now}
use Rattle.fv_tree.proofs.Gone.{flushes_still, spot_changed}
use Rattle.fv_tree.proofs.Differing.{fits_node, marked_over, some_count}
use Rattle.fv_tree.proofs.KeptUnder.{flush_keeps, names_node}
use Rattle.fv_tree.proofs.Stepped.{node_step, node_strays}
use Rattle.fv_tree.proofs.Calls.{counts_calm, flushes_failed, flushes_none}
use Rattle.fv_tree.specs.Costs.{cells_held}
use Rattle.std.specs.BTreeMap as maps
use Rattle.fv_tree.specs.declared.kept.KeptCell.{KeptCell}
use Rattle.fv_tree.proofs.flush.flush_first_node.Goals as goal

pub returns-in_ok-flush_node-in-Some-clause-fewer : goal.returns-in_ok-flush_node-in-Some-clause-fewer
returns-in_ok-flush_node-in-Some-clause-fewer g c =
    let still = c.in_ok-flush_node-in-Some.ensures.still in
    omega (arith, c.forget_node.ensures.len (still.there c.in-Some.level c.in-Some.place ∙ ap is_some c.in-Some.ensures.there), still.len)

pub returns-in-None-clause-flushing : goal.returns-in-None-clause-flushing
returns-in-None-clause-flushing g c = flushes_none c.args.blocks.now c.args.tree.now _ (g.met.B.Blocks.goes_nothing c.args.blocks.now) (λ v. g.met.B.Blocks.reads_keep v c.args.blocks.now c.args.blocks.now (g.met.B.Blocks.reads_nothing c.args.blocks.now))

pub returns-in_err-flush_node-in-Some-clause-flushing : goal.returns-in_err-flush_node-in-Some-clause-flushing
returns-in_err-flush_node-in-Some-clause-flushing g c = let failed = c.in_err-flush_node-in-Some.ensures in
    let some = some_count c.args.tree.now.nodes (c.in-Some.level, c.in-Some.place) (ap node_changed c.in-Some.ensures.there ∙ c.in_err-flush_node-in-Some.ensures.changed) in
    let p = err_from_is_err_and c.from_residual.result c.from_residual.ensures.1 in
    rw (p.1, p.2) (flushes_failed failed.one failed.failed
    (λ told stands.
    flush_keeps {hides = c.args.hides} (g.B.Blocks.shown c.args.blocks.now) (g.B.Blocks.shown c.flush_node.new.blocks) c.args.tree.now c.flush_node.new.tree (λ v. g.B.Blocks.keeps v c.args.blocks.now c.flush_node.new.blocks) stands (flushes_still (g.B.Blocks.shown c.args.blocks.now) (g.B.Blocks.shown c.flush_node.new.blocks) c.args.tree.now c.flush_node.new.tree failed.one.untouched.held failed.one.untouched.used failed.failed stands)
    (c.in_err-flush_node-in-Some.ensures.keeps told (names_node (g.B.Blocks.shown c.args.blocks.now) c.args.tree.now c.in-Some.level c.in-Some.place c.first_node.new.into stands c.in-Some.ensures.there)))
    (λ none. absurd (omega (arith, some, none))))

pub returns-in_ok-flush_node-in-Some-clause-flushing : goal.returns-in_ok-flush_node-in-Some-clause-flushing
returns-in_ok-flush_node-in-Some-clause-flushing g c = let did = c.in_ok-flush_node-in-Some.ensures in
    let still = did.still in
    let forgets = c.forget_node.ensures.forgets in
    let flushes : g.B.Blocks.told → Stands (g.B.Blocks.shown c.args.blocks.now) c.args.tree.now → Flushes c.args.hides (loaded (g.B.Blocks.shown c.args.blocks.now) c.args.tree.now) (g.B.Blocks.shown c.args.blocks.now).used (loaded (g.B.Blocks.shown c.flush_node.new.blocks) c.forget_node.new.tree) (g.B.Blocks.shown c.flush_node.new.blocks).used = λ told stands. (node_step c.args.hides (g.B.Blocks.shown c.args.blocks.now) (g.B.Blocks.shown c.flush_node.new.blocks) c.args.tree.now c.flush_node.new.tree c.forget_node.new.tree c.in-Some.level c.in-Some.place c.first_node.new.into
    stands c.requires c.in-Some.ensures.there c.in-Some.ensures.lowest (c.in_ok-flush_node-in-Some.ensures.node told) c.forget_node.ensures.forgets).flushes in record {
      flushes = flushes;
      anew = λ told stands.
          let old = g.B.Blocks.shown c.args.blocks.now in
          let new = g.B.Blocks.shown c.flush_node.new.blocks in
          let step = node_step c.args.hides (g.B.Blocks.shown c.args.blocks.now) (g.B.Blocks.shown c.flush_node.new.blocks) c.args.tree.now c.flush_node.new.tree c.forget_node.new.tree c.in-Some.level c.in-Some.place c.first_node.new.into
          stands c.requires c.in-Some.ensures.there c.in-Some.ensures.lowest (c.in_ok-flush_node-in-Some.ensures.node told) c.forget_node.ensures.forgets in
          flush_anew (loaded old c.args.tree.now) old.used (loaded new c.forget_node.new.tree) new.used (WasFree g.B.Blocks.shown g.B.Blocks.goes c.args.blocks.now c.flush_node.new.blocks) step.flushes
          (λ v placed. free_now g.B.Blocks.shown g.B.Blocks.goes c.args.blocks.now c.flush_node.new.blocks (g.met.B.Blocks.goes_nothing c.args.blocks.now) c.in_ok-flush_node-in-Some.ensures.one.calls v (step.fresh v placed));
      keeps = λ told stands.
          flush_keeps (g.B.Blocks.shown c.args.blocks.now) (g.B.Blocks.shown c.flush_node.new.blocks) c.args.tree.now c.forget_node.new.tree (λ v. g.B.Blocks.keeps v c.args.blocks.now c.flush_node.new.blocks) stands (flushes told stands)
          (c.in_ok-flush_node-in-Some.ensures.keeps told (names_node (g.B.Blocks.shown c.args.blocks.now) c.args.tree.now c.in-Some.level c.in-Some.place c.first_node.new.into stands c.in-Some.ensures.there));
      strays = λ told stands.
          node_strays (g.B.Blocks.shown c.args.blocks.now) (g.B.Blocks.shown c.flush_node.new.blocks) c.args.tree.now c.flush_node.new.tree c.in-Some.level c.in-Some.place c.first_node.new.into stands c.in-Some.ensures.there (c.in_ok-flush_node-in-Some.ensures.node told);
      fits = λ told stands.
          let old = g.B.Blocks.shown c.args.blocks.now in
          let t = c.args.tree.now in
          let level = c.in-Some.level in
          let place = c.in-Some.place in
          let there = c.in-Some.ensures.there in
          let did = c.in_ok-flush_node-in-Some.ensures in
          fits_node old (g.B.Blocks.shown c.flush_node.new.blocks) t c.flush_node.new.tree c.forget_node.new.tree c.first_node.new.into.changed
          (did.changes (λ low changed some lt. marked_over old t level place stands (spot_changed t level place low ∙ ap node_changed there ∙ changed) some lt))
          did.still.cells c.forget_node.ensures.forgets.cells c.forget_node.ensures.changes (λ changed. c.forget_node.ensures.fewer (did.own ∙ ap node_changed there ∙ changed)) did.still_room did.one.room;
      enough = λ _ _ _. tt;
      left = record {
        owner = forgets.owner ∙ still.owner;
        levels = forgets.levels ∙ still.levels;
        root = λ none. forgets.root ∙ still.root none;
        cells = (let held : cells_held c.forget_node.new.tree ≡ cells_held c.args.tree.now = ap (λ (m : maps.BTreeMap ℕ KeptCell). maps.btree_map_len m) (forgets.cells ∙ still.cells) in omega (arith, held));
      };
      spent = did.one.spent;
      places = did.one.places;
      calls = did.one.calls;
      counts = counts_calm (g.B.Blocks.shown c.args.blocks.now) (g.B.Blocks.shown c.flush_node.new.blocks) _ did.one.counts.calm;
      cause = tt;
    }
