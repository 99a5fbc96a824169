use Rattle.std.proofs.Common.{◌≡◌, ℕ, List, is_some, inl, refl, sym, ap, ◌∙◌, arith}
use Rattle.std.specs.Ordering.{nat_cmp}
use Rattle.std.specs.BTreeMap as tree
use Rattle.fv_tree_rows.specs.InMemory.{use_in_memory, used_in_memory}
use Rattle.fv_tree_rows.proofs.Maps.{removed, no_longer_seen, some_seen}
use Rattle.fv_tree_rows.proofs.memory.MemBlocksBlocks.gone.Goals as goal

pub returns-clause-drops : goal.returns-clause-drops
returns-clause-drops c =
    let found : c.is_some-found.result ≡ is_some (used_in_memory c.args.self.now.blocks c.args.vvbn) = c.is_some-found.ensures ∙ ap is_some c.remove.ensures.value ∙ sym (some_seen use_in_memory (tree.get nat_cmp c.args.self.now.blocks c.args.vvbn)) in record {
      held = inl (removed (λ (kept : List ℕ × ℕ × ℕ). kept.0) c.args.self.now.blocks c.remove.new.self c.args.vvbn c.remove.ensures.updates);
      used = no_longer_seen use_in_memory c.args.self.now.blocks c.remove.new.self c.args.vvbn c.remove.ensures.updates;
      named = λ some. c.count_gone.ensures.named (found ∙ some);
      stray = λ none. c.count_gone.ensures.stray (found ∙ ap is_some none);
      room = omega arith;
      spent = refl;
      calm = record { faults = refl; damages = refl; spent = omega arith };
    }
