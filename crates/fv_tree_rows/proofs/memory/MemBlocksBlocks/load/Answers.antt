use Rattle.std.proofs.Common.{rules, ℕ, List, refl, sym, ap, ◌∙◌, arith}
use Rattle.std.specs.Ordering.{nat_cmp}
use Rattle.std.specs.Option.{option_map}
use Rattle.std.specs.BTreeMap as tree
use Rattle.fv_tree_rows.specs.InMemory.{held_in_memory, used_in_memory}
use Rattle.fv_tree_rows.proofs.Maps.{found}
use Rattle.fv_tree_rows.proofs.memory.MemBlocksBlocks.load.Goals as goal

pub returns-clause-loads : goal.returns-clause-loads
returns-clause-loads c = record {
  untouched = record { held = ap held_in_memory c.is_spent.ensures.blocks; used = ap used_in_memory c.is_spent.ensures.blocks; strays = c.is_spent.ensures.strays; room = omega (arith, c.is_spent.ensures.next); cost = refl; right = λ v pvbn right. right };
  gives = λ _ _. found (λ (kept : List ℕ × ℕ × ℕ). kept.0) c.args.self.now.blocks c.args.pointer.now.vvbn
      ∙ ap (λ (b : tree.BTreeMap ℕ (List ℕ × ℕ × ℕ)). option_map (λ (kept : List ℕ × ℕ × ℕ). kept.0) (tree.get nat_cmp b c.args.pointer.now.vvbn)) (sym c.is_spent.ensures.blocks)
      ∙ ap (option_map (λ (kept : List ℕ × ℕ × ℕ). kept.0)) (sym c.in-Some.ensures.value);
  answers = λ _. refl;
  range = omega arith;
  spent = search rules;
  counts = record { faults = omega (arith, c.is_spent.ensures.faults); damages = omega arith; spent = search rules; calm = record { faults = c.is_spent.ensures.faults; damages = refl; spent = search rules } };
  cause = tt;
  loose = λ _. tt;
}
