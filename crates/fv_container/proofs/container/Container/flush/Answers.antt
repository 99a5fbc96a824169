use Rattle.std.proofs.Common.{rules, ◌≡◌, ◌<◌, ◌≤◌, ◌∙◌, ℕ, Bool, List, true, None, length, get_or, replicate, sym, ap, subst}
use Rattle.std.specs.FinSet as set
use Rattle.std.specs.Vec.{with_items}
use Rattle.std.proofs.lemmas.List.{with_items_is, places}
use Rattle.fv_codec.specs.Blocks.{last_place}
use Rattle.fv_container.specs.Mapped.{IsMapped, grown, node_count}
use Rattle.fv_container.specs.Paged.{Leaves, Paged}
use Rattle.fv_container.specs.Written.{root_number}
use Rattle.fv_container.proofs.Stored.{dropped_out, flushed_out, kept_out, moved_out, over_out, room_out, root_read, rows_out}
use Rattle.fv_container.proofs.container.Container.flush.Goals as goal

pub flush_tree-requires-clause-rows : goal.flush_tree-requires-clause-rows
flush_tree-requires-clause-rows g c = rw (c.deref_mut.ensures.value, c.deref_mut-2.ensures.value) (rows_out c.args.self.now c.self.inside.told.entries c.self.inside.tree.items c.deref-2.result.now c.self.inside.dirty.items c.deref-3.result.now c.self.inside.leaves.items c.deref.result.now c.self.inside.known.items c.self.inside.told.sure c.self.inside.used c.self.inside.next.items c.self.inside.fresh.items c.self.inside.count c.self.view_is c.self.invariant.0 c.deref.ensures.value c.deref-2.ensures.value c.deref-3.ensures.value)

pub flush_tree-requires-clause-room : goal.flush_tree-requires-clause-room
flush_tree-requires-clause-room g c = room_out c.args.self.now c.self.inside.told.entries c.self.inside.tree.items c.deref-2.result.now c.self.inside.dirty.items c.deref-3.result.now c.self.inside.leaves.items c.deref.result.now c.self.inside.known.items c.self.inside.told.sure c.self.inside.used c.self.inside.next.items c.self.inside.fresh.items c.self.inside.count c.self.view_is c.self.invariant.0 c.deref.ensures.value c.deref-2.ensures.value c.deref-3.ensures.value (set.len (g.F.Free.room c.args.map.now).free) c.requires.room

pub returns-clause-flushed : goal.returns-clause-flushed
returns-clause-flushed g c = λ tells apart clean.
    let now_is : c.swap.new.x.items ≡ c.flush_tree.new.next = ap (λ v. v.items) c.swap.ensures.x_after ∙ with_items_is c.self.inside.next c.flush_tree.new.next (search (rules, places)) in
    let given_is : (with_items c.self.inside.leaves c.drop_leaves.new.leaves).items ≡ replicate (length c.deref.result.now) None =
    with_items_is c.self.inside.leaves c.drop_leaves.new.leaves (search (rules, places)) ∙ c.drop_leaves.ensures ∙ ap (λ (l : Leaves). replicate (length l) None) (c.deref_mut-4.ensures.value ∙ sym c.deref.ensures.value) in
    let long : length c.flush_tree.new.next ≡ node_count c.self.inside.count = c.in_ok-flush_tree.ensures.lengths.len ∙ ap (λ (l : List ℕ). length l) c.deref_mut.ensures.value ∙ c.self.invariant.0.room in
    let root = root_read c.swap.new.x.items c.flush_tree.new.next c.root_number.result (root_number c.self.inside.count) c.index.result.now now_is c.root_number.ensures c.in_ok-flush_tree.ensures.root.0 c.index.ensures in
    flushed_out c.args.self.now c.self.inside.told.entries c.self.inside.tree.items c.deref-2.result.now c.self.inside.dirty.items c.deref-3.result.now c.self.inside.leaves.items c.deref.result.now c.self.inside.known.items c.self.inside.told.sure c.self.inside.used c.self.inside.next.items c.self.inside.fresh.items c.self.inside.count c.self.view_is c.self.invariant.0 c.deref.ensures.value c.deref-2.ensures.value c.deref-3.ensures.value (g.F.Free.room c.args.map.now) (g.D.Disk.shown c.args.disk.now).reads (g.D.Disk.shown c.flush_tree.new.disk).reads c.flush_tree.new.next c.swap.new.x.items (with_items c.self.inside.dirty c.fill.new.row).items (with_items c.self.inside.leaves c.drop_leaves.new.leaves).items now_is given_is long c.index.result.now (c.in_ok-flush_tree.ensures.written tells) apart clean root

pub returns-clause-over : goal.returns-clause-over
returns-clause-over g c = λ tells apart clean.
    let now_is : c.swap.new.x.items ≡ c.flush_tree.new.next = ap (λ v. v.items) c.swap.ensures.x_after ∙ with_items_is c.self.inside.next c.flush_tree.new.next (search (rules, places)) in
    let given_is : (with_items c.self.inside.leaves c.drop_leaves.new.leaves).items ≡ replicate (length c.deref.result.now) None =
    with_items_is c.self.inside.leaves c.drop_leaves.new.leaves (search (rules, places)) ∙ c.drop_leaves.ensures ∙ ap (λ (l : Leaves). replicate (length l) None) (c.deref_mut-4.ensures.value ∙ sym c.deref.ensures.value) in
    let long : length c.flush_tree.new.next ≡ node_count c.self.inside.count = c.in_ok-flush_tree.ensures.lengths.len ∙ ap (λ (l : List ℕ). length l) c.deref_mut.ensures.value ∙ c.self.invariant.0.room in
    over_out c.args.self.now c.self.inside.told.entries c.self.inside.tree.items c.deref-2.result.now c.self.inside.dirty.items c.deref-3.result.now c.self.inside.leaves.items c.deref.result.now c.self.inside.known.items c.self.inside.told.sure c.self.inside.used c.self.inside.next.items c.self.inside.fresh.items c.self.inside.count c.self.view_is c.self.invariant.0 c.deref.ensures.value c.deref-2.ensures.value c.deref-3.ensures.value (g.F.Free.room c.args.map.now) (g.D.Disk.shown c.args.disk.now).reads (g.D.Disk.shown c.flush_tree.new.disk).reads c.flush_tree.new.next c.swap.new.x.items (with_items c.self.inside.dirty c.fill.new.row).items (with_items c.self.inside.leaves c.drop_leaves.new.leaves).items now_is given_is long (c.in_ok-flush_tree.ensures.written tells) apart clean

pub returns-clause-moved : goal.returns-clause-moved
returns-clause-moved g c =
    let now_is : c.swap.new.x.items ≡ c.flush_tree.new.next = ap (λ v. v.items) c.swap.ensures.x_after ∙ with_items_is c.self.inside.next c.flush_tree.new.next (search (rules, places)) in
    let given_is : (with_items c.self.inside.leaves c.drop_leaves.new.leaves).items ≡ replicate (length c.deref.result.now) None =
    with_items_is c.self.inside.leaves c.drop_leaves.new.leaves (search (rules, places)) ∙ c.drop_leaves.ensures ∙ ap (λ (l : Leaves). replicate (length l) None) (c.deref_mut-4.ensures.value ∙ sym c.deref.ensures.value) in
    let long : length c.flush_tree.new.next ≡ node_count c.self.inside.count = c.in_ok-flush_tree.ensures.lengths.len ∙ ap (λ (l : List ℕ). length l) c.deref_mut.ensures.value ∙ c.self.invariant.0.room in
    moved_out c.args.self.now c.self.inside.told.entries c.self.inside.tree.items c.deref-2.result.now c.self.inside.dirty.items c.deref-3.result.now c.self.inside.leaves.items c.deref.result.now c.self.inside.known.items c.self.inside.told.sure c.self.inside.used c.self.inside.next.items c.self.inside.fresh.items c.self.inside.count c.self.view_is c.self.invariant.0 c.deref.ensures.value c.deref-2.ensures.value c.deref-3.ensures.value (g.F.Free.room c.args.map.now) (g.D.Disk.shown c.args.disk.now).reads (g.D.Disk.shown c.flush_tree.new.disk).reads c.flush_tree.new.next c.swap.new.x.items (with_items c.self.inside.dirty c.fill.new.row).items (with_items c.self.inside.leaves c.drop_leaves.new.leaves).items now_is given_is long (g.F.Free.room c.flush_tree.new.map) c.in_ok-flush_tree.ensures.moved

pub returns-clause-dropped : goal.returns-clause-dropped
returns-clause-dropped g c =
    let now_is : c.swap.new.x.items ≡ c.flush_tree.new.next = ap (λ v. v.items) c.swap.ensures.x_after ∙ with_items_is c.self.inside.next c.flush_tree.new.next (search (rules, places)) in
    let given_is : (with_items c.self.inside.leaves c.drop_leaves.new.leaves).items ≡ replicate (length c.deref.result.now) None =
    with_items_is c.self.inside.leaves c.drop_leaves.new.leaves (search (rules, places)) ∙ c.drop_leaves.ensures ∙ ap (λ (l : Leaves). replicate (length l) None) (c.deref_mut-4.ensures.value ∙ sym c.deref.ensures.value) in
    let long : length c.flush_tree.new.next ≡ node_count c.self.inside.count = c.in_ok-flush_tree.ensures.lengths.len ∙ ap (λ (l : List ℕ). length l) c.deref_mut.ensures.value ∙ c.self.invariant.0.room in
    dropped_out c.args.self.now c.self.inside.told.entries c.self.inside.tree.items c.deref-2.result.now c.self.inside.dirty.items c.deref-3.result.now c.self.inside.leaves.items c.deref.result.now c.self.inside.known.items c.self.inside.told.sure c.self.inside.used c.self.inside.next.items c.self.inside.fresh.items c.self.inside.count c.self.view_is c.self.invariant.0 c.deref.ensures.value c.deref-2.ensures.value c.deref-3.ensures.value (g.F.Free.room c.args.map.now) (g.D.Disk.shown c.args.disk.now).reads (g.D.Disk.shown c.flush_tree.new.disk).reads c.flush_tree.new.next c.swap.new.x.items (with_items c.self.inside.dirty c.fill.new.row).items (with_items c.self.inside.leaves c.drop_leaves.new.leaves).items now_is given_is long

-- what stays where a write failed
pub invariant_of-self : goal.invariant_of-self
invariant_of-self g c =
    let was = c.self.invariant.0 in (
      record {
        mapped = was.mapped;
        size = was.size;
        room = search (rules, places);
        anew = search (rules, places);
        long = was.long;
        known = was.known;
        sure = was.sure;
        bits = was.bits;
        well = was.well;
        learned = was.learned;
        held = was.held;
        told = was.told;
      },
      c.self.invariant.1,
      c.self.invariant.2,
      c.self.invariant.3,
    )

pub invariant_of-self-2 : goal.invariant_of-self-2
invariant_of-self-2 g c =
    let now_is : c.swap.new.x.items ≡ c.flush_tree.new.next = ap (λ v. v.items) c.swap.ensures.x_after ∙ with_items_is c.self.inside.next c.flush_tree.new.next (search (rules, places)) in
    let given_is : (with_items c.self.inside.leaves c.drop_leaves.new.leaves).items ≡ replicate (length c.deref.result.now) None =
    with_items_is c.self.inside.leaves c.drop_leaves.new.leaves (search (rules, places)) ∙ c.drop_leaves.ensures ∙ ap (λ (l : Leaves). replicate (length l) None) (c.deref_mut-4.ensures.value ∙ sym c.deref.ensures.value) in
    let long : length c.flush_tree.new.next ≡ node_count c.self.inside.count = c.in_ok-flush_tree.ensures.lengths.len ∙ ap (λ (l : List ℕ). length l) c.deref_mut.ensures.value ∙ c.self.invariant.0.room in
    let marked = with_items_is c.self.inside.dirty c.fill.new.row (search (rules, places)) in
    let back = with_items_is c.self.inside.fresh c.flush_tree.new.fresh (search (rules, places)) in
    let wide : length (with_items c.self.inside.dirty c.fill.new.row).items ≡ node_count c.self.inside.count =
    ap (λ (l : List Bool). length l) marked ∙ c.fill.ensures.len ∙ ap (λ (l : List Bool). length l) c.deref_mut-3.ensures.value ∙ c.self.invariant.0.mapped.dirty ∙ ap node_count (sym c.self.invariant.0.size) in
    let spare : length c.swap.new.y.items ≡ node_count c.self.inside.count = ap (λ v. length v.items) c.swap.ensures.y_after ∙ c.self.invariant.0.mapped.tree ∙ ap node_count (sym c.self.invariant.0.size) in
    let anew : length (with_items c.self.inside.fresh c.flush_tree.new.fresh).items ≡ node_count c.self.inside.count =
    ap (λ (l : List ℕ). length l) back ∙ c.in_ok-flush_tree.ensures.lengths.anew ∙ ap (λ (l : List ℕ). length l) c.deref_mut-2.ensures.value ∙ c.self.invariant.0.anew in (
      kept_out c.args.self.now c.self.inside.told.entries c.self.inside.tree.items c.deref-2.result.now c.self.inside.dirty.items c.deref-3.result.now c.self.inside.leaves.items c.deref.result.now c.self.inside.known.items c.self.inside.told.sure c.self.inside.used c.self.inside.next.items c.self.inside.fresh.items c.self.inside.count c.self.view_is c.self.invariant.0 c.deref.ensures.value c.deref-2.ensures.value c.deref-3.ensures.value (g.F.Free.room c.args.map.now) (g.D.Disk.shown c.args.disk.now).reads (g.D.Disk.shown c.flush_tree.new.disk).reads c.flush_tree.new.next c.swap.new.x.items (with_items c.self.inside.dirty c.fill.new.row).items (with_items c.self.inside.leaves c.drop_leaves.new.leaves).items now_is given_is long c.swap.new.y.items (with_items c.self.inside.fresh c.flush_tree.new.fresh).items wide c.in_ok-flush_tree.ensures.bounded (λ m lt. ap (λ (l : List Bool). get_or l m true) marked ∙ c.fill.ensures.all m (subst (λ (l : List Bool). m < length l) marked lt)) spare anew,
      record {
        leaves = c.self.invariant.1.leaves;
        tree = subst (λ n. node_count (grown c.self.inside.count) ≤ n) (sym (ap (λ v. v.cap) c.swap.ensures.x_after)) c.self.invariant.1.next;
        dirty = c.self.invariant.1.dirty;
        next = subst (λ n. node_count (grown c.self.inside.count) ≤ n) (sym (ap (λ v. v.cap) c.swap.ensures.y_after)) c.self.invariant.1.tree;
        fresh = c.self.invariant.1.fresh;
        known = c.self.invariant.1.known;
        used = c.self.invariant.1.used;
      },
      c.self.invariant.2,
      c.self.invariant.3,
    )

pub returns-clause-valid : goal.returns-clause-valid
returns-clause-valid g c = (subst (λ (p : Paged). IsMapped p.map) c.self.view_is c.self.invariant.0.mapped, (invariant_of-self-2 g c).0.mapped)

pub returns-clause-clean : goal.returns-clause-clean
returns-clause-clean g c = λ m lt.
    let marked = with_items_is c.self.inside.dirty c.fill.new.row (search (rules, places)) in
    ap (λ (l : List Bool). get_or l m true) marked ∙ c.fill.ensures.all m (subst (λ (l : List Bool). m < length l) marked lt)

pub returns-clause-root : goal.returns-clause-root
returns-clause-root g c =
    let now_is : c.swap.new.x.items ≡ c.flush_tree.new.next = ap (λ v. v.items) c.swap.ensures.x_after ∙ with_items_is c.self.inside.next c.flush_tree.new.next (search (rules, places)) in
    let first = c.in_ok-flush_tree.ensures.root in
    let root = root_read c.swap.new.x.items c.flush_tree.new.next c.root_number.result (root_number c.self.inside.count) c.index.result.now now_is c.root_number.ensures first.0 c.index.ensures in
    (subst (λ n. 1 ≤ n) (sym root) first.0, subst (λ n. n ≤ last_place) (sym root) first.1)
