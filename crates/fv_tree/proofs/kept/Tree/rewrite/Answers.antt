use Rattle.std.proofs.Common.{◌≡◌, ℕ, refl, ap, ◌∙◌, arith}
use Rattle.std.specs.BTreeMap as maps
use Rattle.fv_tree.specs.declared.kept.KeptCell.{KeptCell}
use Rattle.fv_tree.specs.Flushing.{loaded_over}
use Rattle.fv_tree.proofs.Stored.{stored_on, tells_on}
use Rattle.fv_tree.specs.Costs.{cells_changed, cells_held, changes_in}
use Rattle.fv_tree.specs.Standing.{standing}
use Rattle.fv_tree.proofs.Altered.{cell_marked}
use Rattle.fv_tree.proofs.Rewritten.{rewritten, rewritten_alters, rewritten_hints, rewritten_leads, rewritten_keeps, rewritten_sound, still_ready}
use Rattle.fv_tree.proofs.Seen.{writes}
use Rattle.fv_tree.proofs.kept.Tree.rewrite.Goals as goal

pub returns-clause-written : goal.returns-clause-written
returns-clause-written c = λ held.
    let put = c.put_content.ensures in
    writes (standing held c.args.self.now) (standing held c.stamp_path.new.tree) c.args.index c.args.stamp c.args.block.now
    (rewritten c.args.self.now c.put_content.new.tree c.stamp_path.new.tree c.args.index c.args.stamp c.args.block.now c.requires.ready c.requires.stamp
    put.fields put.cell put.changed put.own put.others c.stamp_path.ensures.stamps c.stamp_path.ensures.marks held)

pub returns-clause-place_by_place : goal.returns-clause-place_by_place
returns-clause-place_by_place c =
    let put = c.put_content.ensures in
    rewritten c.args.self.now c.put_content.new.tree c.stamp_path.new.tree c.args.index c.args.stamp c.args.block.now c.requires.ready c.requires.stamp
    put.fields put.cell put.changed put.own put.others c.stamp_path.ensures.stamps c.stamp_path.ensures.marks

pub returns-clause-rises : goal.returns-clause-rises
returns-clause-rises c =
    let v = c.put_content.new.tree in
    let put = c.put_content.ensures in
    let cells : cells_changed c.stamp_path.new.tree.cells ≡ cells_changed v.cells = ap cells_changed c.stamp_path.ensures.stamps.cells in
    let same : changes_in v.nodes ≡ changes_in c.args.self.now.nodes = ap changes_in put.fields.nodes in
    let more = c.stamp_path.ensures.changes in
    let one = put.count in
    let few = v.few in
    let held : cells_held c.stamp_path.new.tree ≡ cells_held v = ap (λ (m : maps.BTreeMap ℕ KeptCell). maps.btree_map_len m) c.stamp_path.ensures.stamps.cells in record {
      pending = omega (arith, cells, same, more, one, few);
      cells = omega (arith, held, put.held);
    }

pub returns-clause-marked : goal.returns-clause-marked
returns-clause-marked c = cell_marked c.put_content.new.tree c.stamp_path.new.tree c.args.index c.stamp_path.ensures.stamps.cells c.put_content.ensures.changed

pub returns-clause-alters : goal.returns-clause-alters
returns-clause-alters c =
    let put = c.put_content.ensures in
    let stamps = c.stamp_path.ensures.stamps in record {
      owner = stamps.owner ∙ put.fields.owner;
      levels = stamps.levels ∙ put.fields.levels;
      sound = rewritten_sound c.args.self.now c.put_content.new.tree c.stamp_path.new.tree c.args.index c.args.stamp c.args.block.now c.requires.ready c.requires.stamp put.fields put.cell put.changed put.own put.others c.stamp_path.ensures.stamps c.stamp_path.ensures.marks;
      leads = rewritten_leads c.args.self.now c.put_content.new.tree c.stamp_path.new.tree c.args.index c.args.stamp c.args.block.now c.requires.ready c.requires.stamp put.fields put.cell put.changed put.own put.others c.stamp_path.ensures.stamps c.stamp_path.ensures.marks;
      keeps = rewritten_keeps c.args.self.now c.put_content.new.tree c.stamp_path.new.tree c.args.index c.args.stamp c.args.block.now c.requires.ready c.requires.stamp put.fields put.cell put.changed put.own put.others c.stamp_path.ensures.stamps c.stamp_path.ensures.marks;
      stored_well = λ held. stored_on (loaded_over held c.args.self.now) (loaded_over held c.stamp_path.new.tree) (stamps.owner ∙ put.fields.owner) refl
          (rewritten_leads c.args.self.now c.put_content.new.tree c.stamp_path.new.tree c.args.index c.args.stamp c.args.block.now c.requires.ready c.requires.stamp put.fields put.cell put.changed put.own put.others c.stamp_path.ensures.stamps c.stamp_path.ensures.marks held);
      tells = λ held. tells_on (loaded_over held c.args.self.now) (loaded_over held c.stamp_path.new.tree)
          (rewritten_leads c.args.self.now c.put_content.new.tree c.stamp_path.new.tree c.args.index c.args.stamp c.args.block.now c.requires.ready c.requires.stamp put.fields put.cell put.changed put.own put.others c.stamp_path.ensures.stamps c.stamp_path.ensures.marks held)
          (rewritten_hints c.args.self.now c.put_content.new.tree c.stamp_path.new.tree c.args.index c.args.stamp c.args.block.now c.requires.ready c.requires.stamp put.fields put.cell put.changed put.own put.others c.stamp_path.ensures.stamps c.stamp_path.ensures.marks held);
      keeps_ready = still_ready c.args.self.now c.put_content.new.tree c.stamp_path.new.tree c.args.index c.args.stamp c.args.block.now c.requires.ready c.requires.stamp put.fields put.cell put.changed put.own put.others c.stamp_path.ensures.stamps c.stamp_path.ensures.marks;
      alters = rewritten_alters c.args.self.now c.put_content.new.tree c.stamp_path.new.tree c.args.index c.args.stamp c.args.block.now c.requires.ready c.requires.stamp put.fields put.cell put.changed put.own put.others c.stamp_path.ensures.stamps c.stamp_path.ensures.marks;
    }
