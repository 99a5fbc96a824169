use Rattle.std.proofs.Common.{rules, ◌≡◌, true, false, get_or, subst, refl, ℕ, arith}
use Rattle.std.specs.Prelude.{slice_set}
use Rattle.std.proofs.lemmas.List.{places}
use Rattle.fv_container.specs.Paged.{pair_at}
use Rattle.fv_container.specs.Reading.{pair_loaded}
use Rattle.fv_container.proofs.Loaded.{comes_not, inside_of, kept_after, learned_out, unknown_away}
use Rattle.fv_container.proofs.Occupied.{occupied_after, reached}
use Rattle.fv_container.proofs.container.Container.learn.Goals as goal

pub returns-clause-learned : goal.returns-clause-learned
returns-clause-learned g c =
    let k = c.args.region in
    let inside = inside_of c.args.self.now c.self.inside.told.entries c.self.inside.tree.items c.self.inside.dirty.items c.self.inside.leaves.items c.self.inside.known.items c.self.inside.told.sure c.self.inside.used c.self.inside.next.items c.self.inside.fresh.items c.self.inside.count k c.self.view_is c.self.invariant.0 c.requires.within in
    let unknown : get_or c.self.inside.known.items k false ≡ false = search (rules, places) in
    let placed : c.index-2.result.now ≡ get_or c.self.inside.tree.items k 0 = search (rules, places) in
    learned_out (g.D.Disk.shown c.args.disk.now) c.args.self.now c.self.inside.told.entries c.of-self-inside.result.entries c.self.inside.tree.items c.self.inside.dirty.items c.self.inside.leaves.items c.self.inside.known.items (slice_set c.self.inside.known.items k true) c.self.inside.told.sure c.of-self-inside.result.sure c.self.inside.used c.learn_in.new.used c.self.inside.next.items c.self.inside.fresh.items c.self.inside.count k c.in_ok-leaf.leaf
    c.self.view_is c.self.invariant.0 inside unknown c.learn_in.ensures c.of-self-inside.ensures.0 refl (search (rules, places))
    (λ tells n lt. subst (λ (a : ℕ). pair_at c.in_ok-leaf.leaf n ≡ pair_loaded (g.D.Disk.shown c.args.disk.now).reads c.self.inside.count a k n) placed (c.in_ok-leaf.ensures.pairs tells n lt))

pub invariant_of-self : goal.invariant_of-self
invariant_of-self g c =
    let k = c.args.region in
    let inside = inside_of c.args.self.now c.self.inside.told.entries c.self.inside.tree.items c.self.inside.dirty.items c.self.inside.leaves.items c.self.inside.known.items c.self.inside.told.sure c.self.inside.used c.self.inside.next.items c.self.inside.fresh.items c.self.inside.count k c.self.view_is c.self.invariant.0 c.requires.within in
    let unknown : get_or c.self.inside.known.items k false ≡ false = search (rules, places) in
    let none = unknown_away c.self.inside.told.entries c.self.inside.tree.items c.self.inside.dirty.items c.self.inside.leaves.items c.self.inside.known.items c.self.inside.told.sure c.self.inside.used c.self.inside.next.items c.self.inside.fresh.items c.self.inside.count k c.self.invariant.0 unknown in (
      kept_after c.self.inside.told.entries c.of-self-inside.result.entries c.self.inside.tree.items c.self.inside.dirty.items c.self.inside.leaves.items c.self.inside.leaves.items c.self.inside.known.items (slice_set c.self.inside.known.items k true) c.self.inside.told.sure c.of-self-inside.result.sure c.self.inside.used c.learn_in.new.used c.self.inside.next.items c.self.inside.fresh.items c.self.inside.count k c.in_ok-leaf.leaf
          c.self.invariant.0 inside (comes_not k c.in_ok-leaf.leaf c.self.inside.leaves.items none c.self.invariant.0.well) c.learn_in.ensures c.of-self-inside.ensures.0 refl (search (rules, places)),
      record { leaves = c.self.invariant.1.leaves; tree = c.self.invariant.1.tree; dirty = c.self.invariant.1.dirty; next = c.self.invariant.1.next; fresh = c.self.invariant.1.fresh; known = c.self.invariant.1.known; used = omega (arith, c.learn_in.ensures.long, c.self.invariant.1.used) },
      occupied_after c.self.inside.count k c.self.inside.used c.learn_in.new.used c.self.inside.occupied c.occupy.new.occupied c.self.invariant.2 (reached c.args.self.now c.self.inside.told.entries c.self.inside.tree.items c.self.inside.dirty.items c.self.inside.leaves.items c.self.inside.known.items c.self.inside.told.sure c.self.inside.used c.self.inside.next.items c.self.inside.fresh.items c.self.inside.count k c.self.view_is c.self.invariant.0 c.requires.within) c.learn_in.ensures.others c.occupy.ensures,
      c.self.invariant.3,
    )
