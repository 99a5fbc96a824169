use Rattle.std.proofs.Common.{◌≡◌, ℕ, IsSome, sym, subst, refl, ◌∙◌, ap, arith}
use Rattle.fv_tree.specs.declared.kept.Tree.{Tree}
use Rattle.fv_tree.specs.Sources.{WasFree}
use Rattle.fv_tree.specs.Flushing.{IsPlaced, Stands, loaded}
use Rattle.fv_tree.specs.Altering.{PlacesAnew}
use Rattle.fv_tree.proofs.Brought.{some_same}
use Rattle.fv_files.proofs.Roots.{file_roots}
use Rattle.fv_files.proofs.Sums.{becomes_set, most_cost, set_fits, set_kept}
use Rattle.std.specs.BTreeMap as maps
use Rattle.std.specs.Ordering.{nat_cmp}
use Rattle.fv_files.specs.Calls.{Becomes}
use Rattle.fv_files.proofs.flush.flush_kept.Goals as goal

pub returns-in-Some-clause-flushes : goal.returns-in-Some-clause-flushes
returns-in-Some-clause-flushes g c =
    let is = c.flush-result.ensures in
    let written = (c.get_mut.follows.holds c.flush-result.new.self).3 (subst IsSome c.in-Some.ensures.value refl) in
    record {
      tree = c.in-Some.tree.now;
      next = c.flush-result.new.self;
      becomes =
          subst (λ (m : maps.BTreeMap ℕ Tree). Becomes m (c.get_mut.follows.lender c.flush-result.new.self) c.args.number c.in-Some.tree.now c.flush-result.new.self) c.trees.view_is
          (becomes_set c.trees.inside.by_number (c.get_mut.follows.lender c.flush-result.new.self) c.args.number c.in-Some.tree.now c.flush-result.new.self c.in-Some.ensures.value (c.get_mut.follows.holds c.flush-result.new.self).0 written.1 written.2);
      flushes = is.flushing.flushes;
      stored_well = is.stored_well;
      tells = λ told stands owner places. is.tells told stands refl places (file_roots (loaded (g.B.Blocks.shown c.args.blocks.now) c.in-Some.tree.now) (omega (arith, owner)));
      strays = is.flushing.strays;
      fits = is.flushing.fits;
      enough = is.flushing.enough;
      nothing = is.pending;
      left = is.flushing.left;
      pointer = is.pointer;
      spelled = is.stored;
      reaches = is.reaches;
      counts = is.flushing.counts;
      cause = is.flushing.cause;
    }

pub returns-in-Some-clause-anew : goal.returns-in-Some-clause-anew
returns-in-Some-clause-anew g c = λ told t u was now.
    let written = (c.get_mut.follows.holds c.flush-result.new.self).3 (subst IsSome c.in-Some.ensures.value refl) in
    let old = g.B.Blocks.shown c.args.blocks.now in
    let new = g.B.Blocks.shown c.flush-result.new.blocks in
    let free = WasFree g.B.Blocks.shown g.B.Blocks.goes c.args.blocks.now c.flush-result.new.blocks in
    let one : c.in-Some.tree.now ≡ t = some_same c.in-Some.tree.now t (c.in-Some.ensures.value ∙ ap (λ (m : maps.BTreeMap ℕ Tree). maps.get nat_cmp m c.args.number) c.trees.view_is ∙ was) in
    let two : c.flush-result.new.self ≡ u = some_same c.flush-result.new.self u (sym written.1 ∙ now) in
    subst (λ (w : Tree). Stands old w → PlacesAnew (loaded old w) free (loaded new u)) one (subst (λ (w : Tree). Stands old c.in-Some.tree.now → PlacesAnew (loaded old c.in-Some.tree.now) free (loaded new w)) two (c.flush-result.ensures.flushing.anew told))

pub returns-in-Some-clause-keeps : goal.returns-in-Some-clause-keeps
returns-in-Some-clause-keeps g c = λ told t u was now.
    let written = (c.get_mut.follows.holds c.flush-result.new.self).3 (subst IsSome c.in-Some.ensures.value refl) in
    let old = g.B.Blocks.shown c.args.blocks.now in
    let new = g.B.Blocks.shown c.flush-result.new.blocks in
    let Stays : Tree → Tree → Type 0 = λ x y. Stands old x → (v : ℕ) → (IsPlaced (loaded old x) (loaded new y) v → ⊥) → g.B.Blocks.keeps v c.args.blocks.now c.flush-result.new.blocks in
    let one : c.in-Some.tree.now ≡ t = some_same c.in-Some.tree.now t (c.in-Some.ensures.value ∙ ap (λ (m : maps.BTreeMap ℕ Tree). maps.get nat_cmp m c.args.number) c.trees.view_is ∙ was) in
    let two : c.flush-result.new.self ≡ u = some_same c.flush-result.new.self u (sym written.1 ∙ now) in
    subst (λ (w : Tree). Stays w u) one (subst (Stays c.in-Some.tree.now) two (c.flush-result.ensures.flushing.keeps told))

pub recounted-trees-inside-requires-clause-there : goal.recounted-trees-inside-requires-clause-there
recounted-trees-inside-requires-clause-there g c =
    let most = most_cost c.trees.inside.by_number c.args.number c.in-Some.tree.now (sym c.in-Some.ensures.value) in
    omega (arith, most, c.trees.invariant, c.cost_of-before.ensures)

pub recounted-trees-inside-requires-clause-fits : goal.recounted-trees-inside-requires-clause-fits
recounted-trees-inside-requires-clause-fits g c =
    let fits = set_fits c.trees.inside.by_number (c.get_mut.follows.lender c.flush-result.new.self) c.args.number c.in-Some.tree.now c.flush-result.new.self c.in-Some.ensures.value (c.get_mut.follows.holds c.flush-result.new.self).0 (omega (arith, c.len.ensures.small, c.len.ensures.len)) c.trees.inside.cost c.trees.invariant in
    omega (arith, fits, c.cost_of-before.ensures, c.cost_of.ensures)

pub invariant_of-trees : goal.invariant_of-trees
invariant_of-trees g c =
    set_kept c.trees.inside.by_number (c.get_mut.follows.lender c.flush-result.new.self) c.args.number c.in-Some.tree.now c.flush-result.new.self c.in-Some.ensures.value (c.get_mut.follows.holds c.flush-result.new.self).0 c.trees.inside.cost c.recounted-trees-inside.result c.trees.invariant
    (omega (arith, c.recounted-trees-inside.ensures, c.cost_of-before.ensures, c.cost_of.ensures))
