use Rattle.std.proofs.Common.{rules, List, Bool, length, ap, arith}
use Rattle.std.specs.Vec.{with_items}
use Rattle.std.proofs.lemmas.List.{length-set, with_items_is, places}
use Rattle.fv_container.proofs.Entries.{can_hold}
use Rattle.fv_container.proofs.Occupied.{below, occupied_put}
use Rattle.fv_container.proofs.Puts.{put_out, put_seen}
use Rattle.fv_container.proofs.container.Container.put.Goals as goal

pub put_in-changed-requires-clause-entry : goal.put_in-changed-requires-clause-entry
put_in-changed-requires-clause-entry c = can_hold c.args.entry c.requires.entry

pub invariant_of-self : goal.invariant_of-self
invariant_of-self c =
    let back = with_items_is c.self.inside.leaves c.put_in-changed.new.leaves (search (rules, places)) in
    let marked = with_items_is c.self.inside.dirty c.mark_changed.new.dirty (search (rules, places)) in (
      put_out c.args.self.now c.self.inside.told.entries c.of-self-inside.result.entries c.self.inside.tree.items c.self.inside.dirty.items c.deref_mut-2.result.now c.mark_changed.new.dirty (with_items c.self.inside.dirty c.mark_changed.new.dirty).items c.self.inside.leaves.items c.deref_mut.result.now c.put_in-changed.new.leaves (with_items c.self.inside.leaves c.put_in-changed.new.leaves).items
          c.self.inside.known.items c.self.inside.told.sure c.of-self-inside.result.sure c.self.inside.used c.put_bit.new.used c.self.inside.next.items c.self.inside.fresh.items c.self.inside.count c.args.vvbn c.args.entry c.put_in-changed.result c.is_some.result
          c.self.view_is c.self.invariant.0 c.requires.within c.requires.entry c.requires.loaded c.deref_mut.ensures.value back c.put_in-changed.ensures.puts c.put_in-changed.ensures.well c.put_in-changed.ensures.len
          c.of-self-inside.ensures.0 c.of-self-inside.ensures.1 (search (rules, places)) c.put_bit.ensures c.deref_mut-2.ensures.value marked c.mark_changed.ensures c.put_in-changed.ensures.other c.put_in-changed.ensures.same,
      record { leaves = c.self.invariant.1.leaves; tree = c.self.invariant.1.tree; dirty = c.self.invariant.1.dirty; next = c.self.invariant.1.next; fresh = c.self.invariant.1.fresh; known = c.self.invariant.1.known; used = omega (arith, ap (λ (l : List Bool). length l) c.put_bit.ensures, length-set c.self.inside.used c.args.vvbn c.is_some.result, c.self.invariant.1.used) },
      occupied_put c.self.inside.count c.args.vvbn c.is_some.result c.self.inside.used c.put_bit.new.used c.self.inside.occupied c.occupy.new.occupied c.self.invariant.2 (below c.args.self.now c.self.inside.told.entries c.self.inside.tree.items c.self.inside.dirty.items c.self.inside.leaves.items c.self.inside.known.items c.self.inside.told.sure c.self.inside.used c.self.inside.next.items c.self.inside.fresh.items c.self.inside.count c.args.vvbn c.self.view_is c.self.invariant.0 c.requires.within) c.put_bit.ensures c.occupy.ensures,
      c.self.invariant.3,
    )

pub returns : goal.returns
returns c =
    let back = with_items_is c.self.inside.leaves c.put_in-changed.new.leaves (search (rules, places)) in
    let marked = with_items_is c.self.inside.dirty c.mark_changed.new.dirty (search (rules, places)) in
    put_seen c.args.self.now c.self.inside.told.entries c.of-self-inside.result.entries c.self.inside.tree.items c.self.inside.dirty.items c.deref_mut-2.result.now c.mark_changed.new.dirty (with_items c.self.inside.dirty c.mark_changed.new.dirty).items c.self.inside.leaves.items c.deref_mut.result.now c.put_in-changed.new.leaves (with_items c.self.inside.leaves c.put_in-changed.new.leaves).items
    c.self.inside.known.items c.self.inside.told.sure c.of-self-inside.result.sure c.self.inside.used c.put_bit.new.used c.self.inside.next.items c.self.inside.fresh.items c.self.inside.count c.args.vvbn c.args.entry c.put_in-changed.result c.is_some.result
    c.self.view_is c.self.invariant.0 c.requires.within c.requires.entry c.requires.loaded c.deref_mut.ensures.value back c.put_in-changed.ensures.puts c.put_in-changed.ensures.well c.put_in-changed.ensures.len
    c.of-self-inside.ensures.0 c.of-self-inside.ensures.1 (search (rules, places)) c.put_bit.ensures c.deref_mut-2.ensures.value marked c.mark_changed.ensures c.put_in-changed.ensures.other c.put_in-changed.ensures.same
