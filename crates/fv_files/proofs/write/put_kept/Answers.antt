use Rattle.std.proofs.Common.{IsSome, subst, refl, sym, ℕ, ap, ◌∙◌, arith}
use Rattle.fv_files.proofs.Sums.{becomes_set, most_cost, set_fits, set_kept}
use Rattle.std.specs.BTreeMap as maps
use Rattle.std.specs.Ordering.{nat_cmp}
use Rattle.fv_files.specs.Calls.{Becomes}
use Rattle.fv_tree.specs.declared.kept.Tree.{Tree}
use Rattle.fv_files.proofs.write.put_kept.Goals as goal

pub returns-in-Some-clause-puts : goal.returns-in-Some-clause-puts
returns-in-Some-clause-puts g c =
    let written = (c.get_mut.follows.holds c.put-result.new.self).3 (subst IsSome c.in-Some.ensures.value refl) in
    record {
      tree = c.in-Some.tree.now;
      next = c.put-result.new.self;
      becomes =
          subst (λ (m : maps.BTreeMap ℕ Tree). Becomes m (c.get_mut.follows.lender c.put-result.new.self) c.args.number c.in-Some.tree.now c.put-result.new.self) c.trees.view_is
          (becomes_set c.trees.inside.by_number (c.get_mut.follows.lender c.put-result.new.self) c.args.number c.in-Some.tree.now c.put-result.new.self c.in-Some.ensures.value (c.get_mut.follows.holds c.put-result.new.self).0 written.1 written.2);
      owner = c.put-result.ensures.steady.owner;
      written = c.put-result.ensures.written;
      stands = c.put-result.ensures.steady.stands;
      leads = c.put-result.ensures.steady.leads;
      keeps = c.put-result.ensures.steady.keeps;
      stored_well = c.put-result.ensures.steady.stored_well;
      tells = c.put-result.ensures.steady.tells;
      alters = c.put-result.ensures.alters;
      leaves = c.put-result.ensures.leaves;
      rises = c.put-result.ensures.steady.rises;
      failed = c.put-result.ensures.failed;
      untouched = c.put-result.ensures.steady.untouched;
      counts = c.put-result.ensures.steady.counts;
      cause = c.put-result.ensures.steady.cause;
    }

pub put-result-requires-clause-right : goal.put-result-requires-clause-right
put-result-requires-clause-right g c = λ told. c.requires.right told c.in-Some.tree.now (ap (λ (m : maps.BTreeMap ℕ Tree). maps.get nat_cmp m c.args.number) (sym c.trees.view_is) ∙ sym c.in-Some.ensures.value)

pub recounted-trees-inside-requires-clause-there : goal.recounted-trees-inside-requires-clause-there
recounted-trees-inside-requires-clause-there g c =
    let most = most_cost c.trees.inside.by_number c.args.number c.in-Some.tree.now (sym c.in-Some.ensures.value) in
    omega (arith, most, c.trees.invariant, c.cost_of-before.ensures)

pub recounted-trees-inside-requires-clause-fits : goal.recounted-trees-inside-requires-clause-fits
recounted-trees-inside-requires-clause-fits g c =
    let fits = set_fits c.trees.inside.by_number (c.get_mut.follows.lender c.put-result.new.self) c.args.number c.in-Some.tree.now c.put-result.new.self c.in-Some.ensures.value (c.get_mut.follows.holds c.put-result.new.self).0 (omega (arith, c.len.ensures.small, c.len.ensures.len)) c.trees.inside.cost c.trees.invariant in
    omega (arith, fits, c.cost_of-before.ensures, c.cost_of.ensures)

pub invariant_of-trees : goal.invariant_of-trees
invariant_of-trees g c =
    set_kept c.trees.inside.by_number (c.get_mut.follows.lender c.put-result.new.self) c.args.number c.in-Some.tree.now c.put-result.new.self c.in-Some.ensures.value (c.get_mut.follows.holds c.put-result.new.self).0 c.trees.inside.cost c.recounted-trees-inside.result c.trees.invariant
    (omega (arith, c.recounted-trees-inside.ensures, c.cost_of-before.ensures, c.cost_of.ensures))
