use Rattle.std.proofs.Common.{◌≡◌, ◌≤◌, ◌+◌, ℕ, ◌/◌, true, inl, inr, ◌^◌, ◌<◌, cond, List, Option, Some, nat_eq, sym, ap, refl, ◌∙◌, arith, subst}
use Rattle.std.specs.BTreeMap as tree
use Rattle.std.proofs.Math.Nat.{div-eq_of_lt, pow-le-pow_right}
use Rattle.std.proofs.lemmas.Bool.{cases_eq, cases_lt}
use Rattle.fv_model.specs.Trees.{fan, Spot}
use Rattle.fv_tree.specs.declared.kept.KeptNode.{KeptNode}
use Rattle.fv_tree.specs.declared.kept.KeptCell.{KeptCell}
use Rattle.fv_tree.specs.Costs.{cells_changed, cells_held, changes_in, pending}
use Rattle.fv_tree.specs.Standing.{standing, IsSameButCells}
use Rattle.fv_tree.specs.Writing.{IsAlike, HasNewLevels}
use Rattle.fv_tree.proofs.Causes.{at_err}
use Rattle.fv_tree.specs.Flushing.{loaded_over, changed_in}
use Rattle.fv_tree.specs.Leading.{KeepsHints, LeadsNoMore}
use Rattle.fv_tree.specs.Altering.{Leaves}
use Rattle.fv_tree.proofs.Altered.{cell_marked, only_leaves}
use Rattle.fv_tree.proofs.Grows.{grows_alters, grows_kept}
use Rattle.fv_tree.proofs.GrownReady.{ungrown_ready}
use Rattle.fv_tree.proofs.StillReady.{cells_same, ready_then}
use Rattle.fv_tree.proofs.Ready.{cells_again, cells_loaded}
use Rattle.fv_tree.proofs.Ungrown.{still_hints, still_same, still_sound, still_leads, still_keeps}
use Rattle.fv_tree.proofs.Past.{Raises, past_base}
use Rattle.fv_tree.proofs.Ways.{same_cells}
use Rattle.fv_tree.proofs.Steps.{stamps_way, stamped_cells, moved}
use Rattle.fv_tree.proofs.Writes.{same_alike, same_standing, hidden_same, levels_grow, written_is}
use Rattle.fv_tree.proofs.write.write_past.Goals as goal

pub returns-in_err-keep_new_levels-clause-failed : goal.returns-in_err-keep_new_levels-clause-failed
returns-in_err-keep_new_levels-clause-failed c = λ blocks.
    at_err c.from_residual.result (same_alike (standing blocks c.args.tree.now) (standing blocks c.keep_new_levels.new.tree) (hidden_same blocks c.args.tree.now c.keep_new_levels.new.tree c.args.index c.requires.past c.keep_new_levels.ensures.fields c.in_err-keep_new_levels.ensures.failed))

pub returns-in_err-keep_cell-clause-failed : goal.returns-in_err-keep_cell-clause-failed
returns-in_err-keep_cell-clause-failed c = λ blocks.
    let t = standing blocks c.args.tree.now in
    let same = same_standing blocks c.keep_new_levels.new.tree c.keep_cell.new.tree c.keep_cell.ensures.fields c.in_err-keep_cell.ensures.failed in
    at_err c.from_residual-in_err-keep_cell.result (subst (IsAlike t) (sym same) (same_alike t (standing blocks c.keep_new_levels.new.tree) (hidden_same blocks c.args.tree.now c.keep_new_levels.new.tree c.args.index c.requires.past c.keep_new_levels.ensures.fields c.in_ok-keep_new_levels.ensures.grows.old_nodes)))

pub returns-clause-done : goal.returns-clause-done
returns-clause-done c = λ blocks.
    let s = c.args.tree.now in
    let t = c.keep_new_levels.new.tree in
    let held = c.keep_cell.new.tree in
    let v = c.raise.new.tree in
    let u = c.stamp_path.new.tree in
    let fields = c.keep_new_levels.ensures.fields in
    let cells = c.keep_cell.ensures.fields in
    let raised : Raises s v c.args.index c.args.stamp = record {
      owner = c.raise.ensures.owner ∙ cells.owner ∙ fields.owner;
      root = c.raise.ensures.root;
      levels = c.raise.ensures.levels ∙ levels_grow s.levels c.args.index c.levels_over-levels.result c.requires.past c.levels_over-levels.ensures.least;
      far = c.requires.past;
      covers = subst (λ n. c.args.index < fan ^ n) (sym c.raise.ensures.levels) c.levels_over-levels.ensures.covers;
      nodes = subst (λ n. HasNewLevels s v n c.args.index c.args.stamp) (sym c.raise.ensures.levels) (moved s t v c.levels_over-levels.result c.args.index c.args.stamp (c.raise.ensures.nodes ∙ cells.nodes) c.in_ok-keep_new_levels.ensures.grows);
    } in
    let none : IsSameButCells v v = record { owner = refl; levels = refl; root = refl; nodes = refl } in
    written_is (standing blocks s) (standing blocks v) (standing blocks u) c.args.index c.args.stamp c.args.block.now
    (past_base blocks s v c.args.index c.args.stamp raised (omega (arith, c.requires.stamp)))
    (stamps_way blocks v v u c.args.index c.args.stamp none c.stamp_path.ensures.stamps)
    (omega (arith, c.requires.stamp))
    (λ j. stamped_cells t held u c.args.index c.args.stamp c.args.block.now c.in_ok-keep_cell.ensures.cell (c.stamp_path.ensures.stamps.cells ∙ c.raise.ensures.cells) j
    ∙ ap (λ (see : ℕ → Option (List ℕ)). cond (nat_eq j c.args.index) (Some c.args.block.now) (see j)) (same_cells s t fields.cells))

pub returns-in_err-keep_new_levels-clause-leaves : goal.returns-in_err-keep_new_levels-clause-leaves
returns-in_err-keep_new_levels-clause-leaves c = λ blocks.
    let fields = c.keep_new_levels.ensures.fields in
    let t = c.args.tree.now in
    let v = c.keep_new_levels.new.tree in
    at_err c.from_residual.result (still_same blocks t v c.args.index c.requires.past fields (hidden_same blocks t v c.args.index c.requires.past fields c.in_err-keep_new_levels.ensures.failed) c.keep_new_levels.ensures.brings)

pub returns-in_err-keep_new_levels-clause-alters : goal.returns-in_err-keep_new_levels-clause-alters
returns-in_err-keep_new_levels-clause-alters c = λ blocks.
    let fields = c.keep_new_levels.ensures.fields in
    let t = c.args.tree.now in
    let v = c.keep_new_levels.new.tree in
    only_leaves c.args.stamp (loaded_over blocks t) (loaded_over blocks v) (still_same blocks t v c.args.index c.requires.past fields (hidden_same blocks t v c.args.index c.requires.past fields c.in_err-keep_new_levels.ensures.failed) c.keep_new_levels.ensures.brings)

pub returns-in_err-keep_cell-clause-leaves : goal.returns-in_err-keep_cell-clause-leaves
returns-in_err-keep_cell-clause-leaves c = λ blocks.
    let fields = c.keep_new_levels.ensures.fields in
    let t = c.args.tree.now in
    let v = c.keep_new_levels.new.tree in
    at_err c.from_residual-in_err-keep_cell.result (subst (Leaves (loaded_over blocks t)) (sym (cells_loaded blocks v c.keep_cell.new.tree c.keep_cell.ensures.fields c.in_err-keep_cell.ensures.same))
    (still_same blocks t v c.args.index c.requires.past fields (hidden_same blocks t v c.args.index c.requires.past fields c.in_ok-keep_new_levels.ensures.grows.old_nodes) c.keep_new_levels.ensures.brings))

pub returns-in_err-keep_cell-clause-alters : goal.returns-in_err-keep_cell-clause-alters
returns-in_err-keep_cell-clause-alters c = λ blocks.
    let fields = c.keep_new_levels.ensures.fields in
    let t = c.args.tree.now in
    let v = c.keep_new_levels.new.tree in
    only_leaves c.args.stamp (loaded_over blocks t) (loaded_over blocks c.keep_cell.new.tree) (subst (Leaves (loaded_over blocks t)) (sym (cells_loaded blocks v c.keep_cell.new.tree c.keep_cell.ensures.fields c.in_err-keep_cell.ensures.same))
    (still_same blocks t v c.args.index c.requires.past fields (hidden_same blocks t v c.args.index c.requires.past fields c.in_ok-keep_new_levels.ensures.grows.old_nodes) c.keep_new_levels.ensures.brings))

pub returns-clause-alters : goal.returns-clause-alters
returns-clause-alters c =
    let grown = c.in_ok-keep_new_levels.ensures in
    let cell = c.in_ok-keep_cell.ensures in
    grows_alters c.args.tree.now c.keep_new_levels.new.tree c.keep_cell.new.tree c.raise.new.tree c.stamp_path.new.tree c.args.index c.args.stamp c.levels_over-levels.result c.args.block.now
    c.requires.past c.levels_over-levels.ensures.least c.levels_over-levels.ensures.covers grown.fields grown.grows grown.brings grown.blank grown.tops cell.fields cell.cell cell.changed cell.own cell.others
    c.raise.ensures.owner c.raise.ensures.nodes c.raise.ensures.cells c.raise.ensures.levels c.raise.ensures.root c.stamp_path.ensures.stamps c.stamp_path.ensures.marks c.requires.stamp

pub returns-clause-marked : goal.returns-clause-marked
returns-clause-marked c = cell_marked c.keep_cell.new.tree c.stamp_path.new.tree c.args.index (c.stamp_path.ensures.stamps.cells ∙ c.raise.ensures.cells) c.in_ok-keep_cell.ensures.changed

pub returns-in_err-keep_new_levels-clause-steady : goal.returns-in_err-keep_new_levels-clause-steady
returns-in_err-keep_new_levels-clause-steady c =
    let fields = c.keep_new_levels.ensures.fields in
    let t = c.args.tree.now in
    let v = c.keep_new_levels.new.tree in record {
      owner = c.keep_new_levels.ensures.fields.owner;
      stands = λ blocks used sound.
          still_sound blocks t v c.args.index c.requires.past fields (hidden_same blocks t v c.args.index c.requires.past fields c.in_err-keep_new_levels.ensures.failed) c.keep_new_levels.ensures.brings used sound;
      leads = λ blocks.
          still_leads blocks t v c.args.index c.requires.past fields (hidden_same blocks t v c.args.index c.requires.past fields c.in_err-keep_new_levels.ensures.failed) c.keep_new_levels.ensures.brings;
      keeps = λ blocks.
          still_keeps blocks t v c.args.index c.requires.past fields (hidden_same blocks t v c.args.index c.requires.past fields c.in_err-keep_new_levels.ensures.failed) c.keep_new_levels.ensures.brings;
      hints = λ blocks.
          still_hints blocks t v c.args.index c.requires.past fields (hidden_same blocks t v c.args.index c.requires.past fields c.in_err-keep_new_levels.ensures.failed) c.keep_new_levels.ensures.brings;
      keeps_ready = (ungrown_ready c.args.tree.now c.keep_new_levels.new.tree c.args.index c.requires.past c.keep_new_levels.ensures.fields c.keep_new_levels.ensures.brings);
      rises = (let fields = c.keep_new_levels.ensures.fields in
          let cells = ap cells_changed fields.cells in
          let held : cells_held c.keep_new_levels.new.tree ≡ cells_held c.args.tree.now = ap (λ (m : tree.BTreeMap ℕ KeptCell). tree.btree_map_len m) fields.cells in record {
            pending = omega (arith, cells, c.keep_new_levels.ensures.few_marks.changes);
            cells = omega (arith, held);
          });
    }

pub returns-in_err-keep_cell-clause-steady : goal.returns-in_err-keep_cell-clause-steady
returns-in_err-keep_cell-clause-steady c =
    let fields = c.keep_new_levels.ensures.fields in
    let t = c.args.tree.now in
    let v = c.keep_new_levels.new.tree in record {
      owner = c.keep_cell.ensures.fields.owner ∙ c.keep_new_levels.ensures.fields.owner;
      stands = λ blocks used sound.
          cells_again blocks used v c.keep_cell.new.tree c.keep_cell.ensures.fields c.in_err-keep_cell.ensures.same
          (still_sound blocks t v c.args.index c.requires.past fields (hidden_same blocks t v c.args.index c.requires.past fields c.in_ok-keep_new_levels.ensures.grows.old_nodes) c.keep_new_levels.ensures.brings used sound);
      leads = λ blocks.
          subst (LeadsNoMore (loaded_over blocks t)) (sym (cells_loaded blocks v c.keep_cell.new.tree c.keep_cell.ensures.fields c.in_err-keep_cell.ensures.same))
          (still_leads blocks t v c.args.index c.requires.past fields (hidden_same blocks t v c.args.index c.requires.past fields c.in_ok-keep_new_levels.ensures.grows.old_nodes) c.keep_new_levels.ensures.brings);
      keeps = λ blocks.
          subst (λ s. LeadsNoMore s (loaded_over blocks t)) (sym (cells_loaded blocks v c.keep_cell.new.tree c.keep_cell.ensures.fields c.in_err-keep_cell.ensures.same))
          (still_keeps blocks t v c.args.index c.requires.past fields (hidden_same blocks t v c.args.index c.requires.past fields c.in_ok-keep_new_levels.ensures.grows.old_nodes) c.keep_new_levels.ensures.brings);
      hints = λ blocks.
          subst (KeepsHints (loaded_over blocks t)) (sym (cells_loaded blocks v c.keep_cell.new.tree c.keep_cell.ensures.fields c.in_err-keep_cell.ensures.same))
          (still_hints blocks t v c.args.index c.requires.past fields (hidden_same blocks t v c.args.index c.requires.past fields c.in_ok-keep_new_levels.ensures.grows.old_nodes) c.keep_new_levels.ensures.brings);
      keeps_ready = (ready_then c.args.tree.now c.keep_new_levels.new.tree c.keep_cell.new.tree
          (ungrown_ready c.args.tree.now c.keep_new_levels.new.tree c.args.index c.requires.past c.keep_new_levels.ensures.fields c.keep_new_levels.ensures.brings)
          (cells_same c.keep_new_levels.new.tree c.keep_cell.new.tree c.keep_cell.ensures.fields c.in_err-keep_cell.ensures.failed));
      rises = (let fields = c.keep_new_levels.ensures.fields in
          let cell = c.in_err-keep_cell.ensures in
          let cells = ap cells_changed fields.cells in
          let nodes = ap changes_in cell.fields.nodes in
          let held : cells_held c.keep_new_levels.new.tree ≡ cells_held c.args.tree.now = ap (λ (m : tree.BTreeMap ℕ KeptCell). tree.btree_map_len m) fields.cells in record {
            pending = omega (arith, cells, nodes, cell.still, c.keep_new_levels.ensures.few_marks.changes);
            cells = omega (arith, held, cell.held);
          });
    }

pub returns-clause-steady : goal.returns-clause-steady
returns-clause-steady c =
    let grown = c.in_ok-keep_new_levels.ensures in
    let cell = c.in_ok-keep_cell.ensures in
    let kept = grows_kept c.args.tree.now c.keep_new_levels.new.tree c.keep_cell.new.tree c.raise.new.tree c.stamp_path.new.tree c.args.index c.args.stamp c.levels_over-levels.result c.args.block.now
    c.requires.past c.levels_over-levels.ensures.least c.levels_over-levels.ensures.covers grown.fields grown.grows grown.brings grown.blank grown.tops cell.fields cell.cell cell.changed cell.own cell.others
    c.raise.ensures.owner c.raise.ensures.nodes c.raise.ensures.cells c.raise.ensures.levels c.raise.ensures.root c.stamp_path.ensures.stamps c.stamp_path.ensures.marks c.requires.stamp in record {
      owner = c.stamp_path.ensures.stamps.owner ∙ c.raise.ensures.owner ∙ c.keep_cell.ensures.fields.owner ∙ c.keep_new_levels.ensures.fields.owner;
      stands = kept.sound;
      leads = kept.leads;
      keeps = kept.keeps;
      hints = kept.hints;
      keeps_ready = kept.ready;
      rises = (let s = c.args.tree.now in
          let t = c.keep_new_levels.new.tree in
          let h = c.keep_cell.new.tree in
          let v = c.raise.new.tree in
          let u = c.stamp_path.new.tree in
          let i = c.args.index in
          let levels = c.levels_over-levels.result in
          let few = c.levels_over-levels.ensures.few in
          let rises : v.levels ≡ levels = c.raise.ensures.levels in
          let cells : cells_changed u.cells ≡ cells_changed h.cells = ap cells_changed (c.stamp_path.ensures.stamps.cells ∙ c.raise.ensures.cells) in
          let before : cells_changed t.cells ≡ cells_changed s.cells = ap cells_changed grown.fields.cells in
          let nodes : v.nodes ≡ t.nodes = c.raise.ensures.nodes ∙ cell.fields.nodes in
          let same : changes_in v.nodes ≡ changes_in t.nodes = ap changes_in nodes in
          let one = cell.count in
          let fewest : pending u ≤ pending s + 6 = elim (cases_eq s.root.stamp 0) [
            | inl none ↦
                let still = grown.few_marks.unchanged none in
                let more = c.stamp_path.ensures.changes in
                omega (arith, few, rises, cells, before, same, one, more, still)
            | inr there ↦
                let lt : s.levels < levels = elim (cases_lt s.levels levels) [
                  | inl lt ↦ lt
                  | inr le ↦
                      let up : fan ^ levels ≤ fan ^ s.levels = pow-le-pow_right {n = fan} (omega arith) {i = levels} {j = s.levels} le in
                      let far = c.requires.past in
                      let covers = c.levels_over-levels.ensures.covers in
                      absurd (omega (arith, up, far, covers))
                ] in
                let changed : changed_in v.nodes v.levels (i / fan ^ v.levels) ≡ true =
                ap (λ (m : tree.BTreeMap Spot KeptNode). changed_in m v.levels (i / fan ^ v.levels)) nodes ∙ (λ j. changed_in t.nodes (rises j) (i / fan ^ rises j))
                ∙ ap (changed_in t.nodes levels) (div-eq_of_lt c.levels_over-levels.ensures.covers) ∙ (grown.tops there levels lt (omega arith)).changed in
                let least = c.stamp_path.ensures.top changed in
                let most = grown.few_marks.changes in
                omega (arith, few, rises, cells, before, same, one, least, most, lt)
          ] in
          let held : cells_held u ≡ cells_held h = ap (λ (m : tree.BTreeMap ℕ KeptCell). tree.btree_map_len m) (c.stamp_path.ensures.stamps.cells ∙ c.raise.ensures.cells) in
          let first : cells_held t ≡ cells_held s = ap (λ (m : tree.BTreeMap ℕ KeptCell). tree.btree_map_len m) grown.fields.cells in record {
            pending = fewest;
            cells = omega (arith, held, first, cell.held);
          });
    }
