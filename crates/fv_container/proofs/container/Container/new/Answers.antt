use Rattle.std.proofs.Common.{rules, ◌≡◌, ◌∙◌, Bool, List, true, false, None, length, replicate, refl, ap, arith}
use Rattle.std.proofs.lemmas.List.{length-replicate, places}
use Rattle.fv_image.specs.Containers.{level_width}
use Rattle.fv_container.specs.Mapped.{grown, marks_above, node_count}
use Rattle.fv_container.proofs.Occupied.{none_occupied}
use Rattle.fv_container.proofs.Opened.{made_empty, made_kept}
use Rattle.fv_container.proofs.container.Container.new.Goals as goal

pub invariant_of-result : goal.invariant_of-result
invariant_of-result c =
    let n = c.args.entries in
    let tree : c.in_ok-tree.tree.items ≡ replicate (node_count n) 0 = search (rules, places) in
    let dirty : c.in_ok-dirty.dirty.items ≡ marks_above n true = search (rules, places) in
    let leaves : c.in_ok-leaves.leaves.items ≡ replicate (level_width n 0) None = search (rules, places) in
    let known : c.in_ok-known.known.items ≡ replicate (level_width n 0) true = search (rules, places) in
    let next : c.in_ok-next.next.items ≡ replicate (node_count n) 0 = search (rules, places) in
    let fresh : c.in_ok-fresh.fresh.items ≡ replicate (node_count n) 0 = search (rules, places) in
    let used : c.in_ok-used.used ≡ replicate (grown n) false = search (rules, places) in (
      made_kept n c.of-told.result.entries c.in_ok-tree.tree.items c.in_ok-dirty.dirty.items c.in_ok-leaves.leaves.items c.in_ok-known.known.items c.of-told.result.sure c.in_ok-used.used c.in_ok-next.next.items c.in_ok-fresh.fresh.items
          c.requires c.of-told.ensures.0 tree dirty leaves known (c.of-told.ensures.1 ∙ c.deref.ensures.value) used next fresh,
      record {
        leaves = search (rules, places);
        tree = search (rules, places);
        dirty = search (rules, places);
        next = search (rules, places);
        fresh = search (rules, places);
        known = search (rules, places);
        used = (let long = length-replicate {A = Bool} (grown n) false in omega (arith, ap (λ (l : List Bool). length l) used, long));
      },
      none_occupied n (grown n) (level_width (grown n) 0) c.in_ok-used.used c.in_ok-occupied.occupied (omega arith) used (search (rules, places)),
      refl,
    )

pub returns : goal.returns
returns c =
    let n = c.args.entries in
    let tree : c.in_ok-tree.tree.items ≡ replicate (node_count n) 0 = search (rules, places) in
    let dirty : c.in_ok-dirty.dirty.items ≡ marks_above n true = search (rules, places) in
    let leaves : c.in_ok-leaves.leaves.items ≡ replicate (level_width n 0) None = search (rules, places) in
    let known : c.in_ok-known.known.items ≡ replicate (level_width n 0) true = search (rules, places) in
    record { empty = made_empty n c.of-told.result.entries c.in_ok-tree.tree.items c.in_ok-dirty.dirty.items c.in_ok-leaves.leaves.items c.in_ok-known.known.items c.of-told.result.sure c.of-told.ensures.0 tree dirty leaves known (c.of-told.ensures.1 ∙ c.deref.ensures.value) }
