use Rattle.std.proofs.Common.{rules, ◌≡◌, ◌≤◌, ◌<◌, ◌∙◌, ℕ, Bool, true, false, not, None, List, Option, length, get_or, replicate, refl, sym, ap, subst, arith}
use Rattle.std.specs.Prelude.{IsTrue}
use Rattle.std.specs.Option.{is_some}
use Rattle.std.specs.Vec.{vec_capacity, with_items}
use Rattle.std.proofs.lemmas.Bool.{and_parts, true≢false}
use Rattle.std.proofs.lemmas.List.{length-replicate, with_items_is, places}
use Rattle.fv_disk.specs.Shown.{Image}
use Rattle.fv_codec.specs.Blocks.{last_place}
use Rattle.fv_image.specs.Containers.{level_width}
use Rattle.fv_container.specs.declared.entry.Entry.{Entry}
use Rattle.fv_container.specs.Kept.{CanGrow}
use Rattle.fv_container.specs.Mapped.{grown, marks_above, node_count}
use Rattle.fv_container.specs.Paged.{Leaves, entries_spelled, leaf_here}
use Rattle.fv_container.specs.Reading.{TreeAt}
use Rattle.fv_container.proofs.Loaded.{here_at}
use Rattle.fv_container.proofs.Occupied.{none_occupied}
use Rattle.fv_container.proofs.Opened.{absent_at, marks_clean, opened_clean, opened_kept, opened_over, opened_spelled, spelled_long}
use Rattle.fv_container.proofs.Whole.{all_both, whole_bounded}
use Rattle.fv_container.proofs.container.Container.at.Given as given
use Rattle.fv_container.proofs.container.Container.at.Goals as goal

tree_is : (g : given.Over) (c : goal.After-of-told g) → (with_items c.in_ok-tree.tree c.read_tree.new.places).items ≡ c.read_tree.new.places
tree_is g c = with_items_is c.in_ok-tree.tree c.read_tree.new.places (search (rules, places))

-- the entries that are told
told_is : (g : given.Over) (c : goal.After-of-told g) → c.of-told.result.entries ≡ entries_spelled (g.D.Disk.shown c.args.disk.now).reads (with_items c.in_ok-tree.tree c.read_tree.new.places).items c.args.entries
told_is g c =
    c.of-told.ensures.0 ∙ ap (λ (l : List ℕ). entries_spelled (g.D.Disk.shown c.read_tree.new.disk).reads l c.args.entries) c.deref-3.ensures.value
    ∙ ap (λ (i : Image). entries_spelled i (with_items c.in_ok-tree.tree c.read_tree.new.places).items c.args.entries) c.in_ok-whole.ensures.read.only_reads.stays.reads

tree_at : (g : given.Over) (c : goal.After-of-told g) → IsTrue (g.D.Disk.shown c.args.disk.now).tells → TreeAt (g.D.Disk.shown c.args.disk.now).reads c.args.root c.args.height c.args.entries (with_items c.in_ok-tree.tree c.read_tree.new.places).items
tree_at g c tells = subst (TreeAt (g.D.Disk.shown c.args.disk.now).reads c.args.root c.args.height c.args.entries) (sym (tree_is g c)) (c.in_ok-whole.ensures.tree tells)

low : (g : given.Over) (c : goal.After-of-told g) (m : ℕ) → m < level_width c.args.entries 0 → get_or (with_items c.in_ok-tree.tree c.read_tree.new.places).items m 0 ≤ last_place
low g c m lt = subst (λ (l : List ℕ). get_or l m 0 ≤ last_place) (sym (tree_is g c)) (c.in_ok-whole.ensures.bounded m lt)

is_true : (b : Bool) → not b ≡ false → b ≡ true
is_true true is = refl
is_true false is = absurd (true≢false is)

high : (g : given.Over) (c : goal.After-of-told g) → not c.both-stands.result ≡ false → (m : ℕ) → get_or (with_items c.in_ok-tree.tree c.read_tree.new.places).items m 0 ≤ last_place
high g c is m =
    let parts = and_parts c.in_ok-whole.whole c.are_places.result (sym c.both-stands.ensures ∙ is_true c.both-stands.result is) in
    subst (λ (l : List ℕ). get_or l m 0 ≤ last_place) c.deref.ensures.value (c.are_places.ensures.whole parts.1 m)

long : (g : given.Over) (c : goal.After-of-told g) → length (with_items c.in_ok-tree.tree c.read_tree.new.places).items ≡ node_count c.args.entries
long g c = ap (λ (l : List ℕ). length l) (tree_is g c) ∙ (let read : length c.read_tree.new.places ≡ node_count c.args.entries = search (rules, places) in read)

dirty_is : (g : given.Over) (c : goal.After-of-told g) → c.in_ok-dirty.dirty.items ≡ marks_above c.args.entries (not c.both-stands.result)
dirty_is g c = search (rules, places)

leaves_is : (g : given.Over) (c : goal.After-of-told g) → c.in_ok-leaves.leaves.items ≡ replicate (level_width c.args.entries 0) None
leaves_is g c = search (rules, places)

wide : (g : given.Over) (c : goal.After-of-told g) → length c.in_ok-known.known.items ≡ level_width c.args.entries 0
wide g c = search (rules, places)

absent : (g : given.Over) (c : goal.After-of-told g) (k : ℕ) → k < level_width c.args.entries 0 → get_or c.in_ok-known.known.items k false ≡ true → get_or (with_items c.in_ok-tree.tree c.read_tree.new.places).items k 0 ≡ 0
absent g c k lt is = subst (λ (l : List ℕ). get_or l k 0 ≡ 0) c.deref-2.ensures.value (c.in_ok-known.ensures.absent k (rw c.leaf_count-regions.ensures lt) is)

room : (g : given.Over) (c : goal.After-of-told g) → (length c.in_ok-next.next.items ≡ node_count c.args.entries) × (length c.in_ok-fresh.fresh.items ≡ node_count c.args.entries)
room g c = (search (rules, places), search (rules, places))

used_is : (g : given.Over) (c : goal.After-of-told g) → c.in_ok-used.used ≡ replicate (grown c.args.entries) false
used_is g c = search (rules, places)

occupied_is : (g : given.Over) (c : goal.After-of-told g) → c.in_ok-occupied.occupied ≡ replicate (level_width (grown c.args.entries) 0) false
occupied_is g c = search (rules, places)

can_grow : (g : given.Over) (c : goal.After-of-told g)
    → CanGrow c.args.entries (record {
      leaves = vec_capacity c.in_ok-leaves.leaves;
      tree = vec_capacity (with_items c.in_ok-tree.tree c.read_tree.new.places);
      dirty = vec_capacity c.in_ok-dirty.dirty;
      next = vec_capacity c.in_ok-next.next;
      fresh = vec_capacity c.in_ok-fresh.fresh;
      known = vec_capacity c.in_ok-known.known;
      used = length c.in_ok-used.used;
    })
can_grow g c = record {
  leaves = search (rules, places);
  tree = search (rules, places);
  dirty = search (rules, places);
  next = search (rules, places);
  fresh = search (rules, places);
  known = search (rules, places);
  used = (let long = length-replicate {A = Bool} (grown c.args.entries) false in omega (arith, ap (λ (l : List Bool). length l) (used_is g c), long));
}

pub invariant_of-result : goal.invariant_of-result
invariant_of-result g c = (
  opened_kept (g.D.Disk.shown c.args.disk.now).reads c.args.entries (not c.both-stands.result) c.of-told.result.entries (with_items c.in_ok-tree.tree c.read_tree.new.places).items c.in_ok-dirty.dirty.items c.in_ok-leaves.leaves.items c.in_ok-known.known.items c.of-told.result.sure c.in_ok-used.used c.in_ok-next.next.items c.in_ok-fresh.fresh.items
      c.requires.few (told_is g c) (long g c) (low g c) (high g c) (dirty_is g c) (leaves_is g c) (wide g c) (absent g c) (c.of-told.ensures.1 ∙ c.deref-4.ensures.value) (used_is g c) (room g c).0 (room g c).1,
  can_grow g c,
  none_occupied c.args.entries (grown c.args.entries) (level_width (grown c.args.entries) 0) c.in_ok-used.used c.in_ok-occupied.occupied (omega arith) (used_is g c) (occupied_is g c),
  refl,
)

pub returns-clause-opened : goal.returns-clause-opened
returns-clause-opened g c = λ tells.
    opened_spelled (g.D.Disk.shown c.args.disk.now) c.args.root c.args.height c.args.entries (with_items c.in_ok-tree.tree c.read_tree.new.places).items c.in_ok-dirty.dirty.items c.of-told.result.entries tells (g.met.D.Disk.laws c.args.disk.now) (told_is g c) (tree_at g c tells) (c.in_ok-whole.ensures.above tells)

pub returns-clause-clean : goal.returns-clause-clean
returns-clause-clean g c = λ tells clean.
    opened_clean (g.D.Disk.shown c.args.disk.now).reads c.args.entries (not c.both-stands.result) c.of-told.result.entries (with_items c.in_ok-tree.tree c.read_tree.new.places).items c.in_ok-dirty.dirty.items c.in_ok-leaves.leaves.items c.in_ok-known.known.items c.of-told.result.sure c.in_ok-used.used c.in_ok-next.next.items c.in_ok-fresh.fresh.items
    c.requires.few (told_is g c) (long g c) (low g c) (high g c) (dirty_is g c) (leaves_is g c) (wide g c) (absent g c) (c.of-told.ensures.1 ∙ c.deref-4.ensures.value) (used_is g c) (room g c).0 (room g c).1
    (opened_over (g.D.Disk.shown c.args.disk.now) c.args.root c.args.height c.args.entries (with_items c.in_ok-tree.tree c.read_tree.new.places).items (marks_above c.args.entries (not c.both-stands.result)) tells (g.met.D.Disk.laws c.args.disk.now) (tree_at g c tells) clean)

pub returns-clause-kept : goal.returns-clause-kept
returns-clause-kept g c = λ tells clean m lt.
    let bounded = whole_bounded (g.D.Disk.shown c.args.disk.now).reads c.args.root c.args.height c.args.entries (with_items c.in_ok-tree.tree c.read_tree.new.places).items (tree_at g c tells) clean in
    let within : c.are_places.result ≡ true = c.are_places.ensures.kept (λ n. subst (λ (l : List ℕ). get_or l n 0 ≤ last_place) (sym c.deref.ensures.value) (bounded n)) in
    let all : c.both-stands.result ≡ true = all_both c.in_ok-whole.whole c.are_places.result c.both-stands.result c.both-stands.ensures (c.in_ok-whole.ensures.kept tells clean) within in
    let marks : c.in_ok-dirty.dirty.items ≡ marks_above c.args.entries false = dirty_is g c ∙ ap (λ (b : Bool). marks_above c.args.entries (not b)) all in
    ap (λ (l : List Bool). get_or l m true) marks ∙ marks_clean c.args.entries m (subst (λ (l : List Bool). m < length l) marks lt)

pub returns-clause-size : goal.returns-clause-size
returns-clause-size g c = ap (λ (l : List (Option Entry)). length l) (told_is g c) ∙ spelled_long (g.D.Disk.shown c.args.disk.now).reads (with_items c.in_ok-tree.tree c.read_tree.new.places).items c.args.entries

pub returns-clause-valid : goal.returns-clause-valid
returns-clause-valid g c = (invariant_of-result g c).0.mapped

pub returns-clause-absent : goal.returns-clause-absent
returns-clause-absent g c = λ k lt none. c.in_ok-known.ensures.there k (rw c.leaf_count-regions.ensures lt) (subst (λ (l : List ℕ). get_or l k 0 ≡ 0) (sym c.deref-2.ensures.value) none)

pub returns-clause-away : goal.returns-clause-away
returns-clause-away g c = λ k. here_at c.in_ok-leaves.leaves.items k ∙ ap (λ (l : Leaves). is_some (leaf_here l k)) (leaves_is g c) ∙ ap is_some (absent_at (level_width c.args.entries 0) k)
