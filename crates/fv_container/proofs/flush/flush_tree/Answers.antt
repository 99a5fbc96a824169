use Rattle.std.proofs.Common.{◌∙◌}
use Rattle.fv_container.specs.Written.{root_number}
use Rattle.fv_container.proofs.Flushed.{root_placed, there_above}
use Rattle.fv_container.proofs.Moving.{all_bounded, all_moved, all_written}
use Rattle.fv_container.proofs.flush.flush_tree.Goals as goal

pub write_tree-requires-clause-rows : goal.write_tree-requires-clause-rows
write_tree-requires-clause-rows g c = record {
  few = c.requires.rows.few;
  long = c.requires.rows.long;
  well = c.requires.rows.well;
  nodes = c.take_places.ensures.len ∙ c.requires.rows.nodes;
  bounded = all_bounded c.args.leaves.now c.args.count c.args.tree.now c.args.dirty.now c.take_places.new.fresh c.take_places.new.places c.args.next.now c.args.fresh.now c.requires.rows
      c.take_places.ensures.len c.take_places.ensures.anew c.take_places.ensures.placed (g.F.Free.room c.args.map.now) (g.F.Free.room c.take_places.new.map) c.take_places.ensures.taken;
}

pub returns-clause-written : goal.returns-clause-written
returns-clause-written g c = λ tells. record {
  written = λ es size said apart over.
      all_written c.args.leaves.now c.args.count c.args.tree.now c.args.dirty.now c.take_places.new.fresh c.take_places.new.places c.args.next.now c.args.fresh.now c.requires.rows
      c.take_places.ensures.len c.take_places.ensures.anew c.take_places.ensures.placed es size (g.F.Free.room c.args.map.now) (g.F.Free.room c.take_places.new.map)
      (g.D.Disk.shown c.args.disk.now).reads (g.D.Disk.shown c.write_tree.new.disk).reads c.take_places.ensures.taken said apart over (λ b spared. c.in_ok-write_tree.ensures.spares.reads tells b spared) (c.in_ok-write_tree.ensures.written tells);
  there = λ m lt. (c.take_places.ensures.placed m lt).written;
  absent = λ m lt. (c.take_places.ensures.placed m lt).absent;
}

pub returns-clause-bounded : goal.returns-clause-bounded
returns-clause-bounded g c =
    all_bounded c.args.leaves.now c.args.count c.args.tree.now c.args.dirty.now c.take_places.new.fresh c.take_places.new.places c.args.next.now c.args.fresh.now c.requires.rows
    c.take_places.ensures.len c.take_places.ensures.anew c.take_places.ensures.placed (g.F.Free.room c.args.map.now) (g.F.Free.room c.take_places.new.map) c.take_places.ensures.taken

pub returns-clause-root : goal.returns-clause-root
returns-clause-root g c = (
  root_placed c.args.count c.take_places.new.places (c.take_places.ensures.len ∙ c.requires.rows.nodes) (λ m lt past is. (c.take_places.ensures.placed m lt).written (there_above c.args.leaves.now c.args.tree.now c.args.dirty.now c.args.count m past ∙ is)),
  all_bounded c.args.leaves.now c.args.count c.args.tree.now c.args.dirty.now c.take_places.new.fresh c.take_places.new.places c.args.next.now c.args.fresh.now c.requires.rows
      c.take_places.ensures.len c.take_places.ensures.anew c.take_places.ensures.placed (g.F.Free.room c.args.map.now) (g.F.Free.room c.take_places.new.map) c.take_places.ensures.taken (root_number c.args.count),
)

pub returns-clause-moved : goal.returns-clause-moved
returns-clause-moved g c =
    all_moved c.args.leaves.now c.args.count c.args.tree.now c.args.dirty.now c.take_places.new.fresh c.take_places.new.places c.args.next.now c.args.fresh.now c.requires.rows
    c.take_places.ensures.len c.take_places.ensures.anew c.take_places.ensures.placed
    c.put_left.new.into c.put_left.ensures.len c.put_left.ensures.left
    (g.F.Free.room c.args.map.now) (g.F.Free.room c.take_places.new.map) (g.F.Free.room c.release_places.new.map) (g.met.F.Free.laws c.args.map.now) c.take_places.ensures.taken c.release_places.ensures
