use Rattle.std.proofs.Common.{◌≡◌, ℕ, List, None, Some, cond, nat_eq, refl, ap, sym, ◌∙◌, arith}
use Rattle.std.specs.Ordering.{nat_cmp}
use Rattle.std.specs.Option.{option_map}
use Rattle.std.specs.BTreeMap as tree
use Rattle.std.specs.FinMap as fin
use Rattle.fv_tree_rows.specs.InMemory.{held_in_memory, use_in_memory, used_in_memory}
use Rattle.fv_tree_rows.proofs.Maps.{found, inserted, not_some, now_seen}
use Rattle.fv_tree_rows.proofs.memory.MemBlocksBlocks.place.Goals as goal

pub returns-clause-places : goal.returns-clause-places
returns-clause-places c =
    let m = c.args.self.now.blocks in
    let at = c.is_spent.new.self.next in
    let same = c.is_spent.ensures.blocks in
    let none : tree.get nat_cmp m at ≡ None = ap (λ (b : tree.BTreeMap ℕ (List ℕ × ℕ × ℕ)). tree.get nat_cmp b at) (sym same) ∙ not_some _ c.if-contains_key.ensures in
    let held = inserted (λ (kept : List ℕ × ℕ × ℕ). kept.0) c.is_spent.new.self.blocks c.insert.new.self at (c.args.block.now, c.pvbn_of-pvbn.result, c.args.kind) c.in-Ok.ensures.updates in
    let used = now_seen use_in_memory c.is_spent.new.self.blocks c.insert.new.self at (c.args.block.now, c.pvbn_of-pvbn.result, c.args.kind) c.in-Ok.ensures.updates in record {
      fresh = found (λ (kept : List ℕ × ℕ × ℕ). kept.0) m at ∙ ap (option_map (λ (kept : List ℕ × ℕ × ℕ). kept.0)) none;
      unused = ap (option_map use_in_memory) none;
      held = λ _. held ∙ ap (λ (b : tree.BTreeMap ℕ (List ℕ × ℕ × ℕ)). fin.insert (held_in_memory b) at c.args.block.now) same;
      used = λ v. used v ∙ ap (λ (b : tree.BTreeMap ℕ (List ℕ × ℕ × ℕ)). cond (nat_eq v at) (Some (use_in_memory (c.args.block.now, c.pvbn_of-pvbn.result, c.args.kind))) (used_in_memory b v)) same;
      vvbn = omega arith;
      pvbn = omega (arith, c.pvbn_of-pvbn.ensures);
      strays = c.is_spent.ensures.strays;
      room = omega (arith, c.is_spent.ensures.next);
      enough = λ _ _. tt;
      spent = c.is_spent.ensures.loads;
      failed = tt;
      counts = record {
        faults = omega (arith, c.is_spent.ensures.faults);
        damages = omega arith;
        spent = omega (arith, c.is_spent.ensures.loads);
        calm = record { faults = c.is_spent.ensures.faults; damages = refl; spent = omega (arith, c.is_spent.ensures.loads) };
      };
      cause = tt;
    }
