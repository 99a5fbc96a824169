use Rattle.std.proofs.Common.{◌≡◌, ◌≢◌, ◌<◌, ◌⊎◌, inl, inr, ◌/◌, ◌^◌, ℕ, true, false, ◌==◌, List, Option, Some, None, is_some, cond, nat_eq, refl, sym, ap, ◌∙◌, arith}
use Rattle.std.specs.BTreeMap as tree
use Rattle.std.specs.Ordering.{nat_cmp}
use Rattle.std.specs.Option.{option_map}
use Rattle.std.proofs.lemmas.Bool.{cases_eq}
use Rattle.std.proofs.lemmas.Bool.Decides.{nat_tests}
use Rattle.fv_codec.specs.declared.pointer.Pointer.{Pointer}
use Rattle.fv_model.specs.Trees.{fan, spot_cmp}
use Rattle.fv_tree.specs.declared.kept.Tree.{Tree}
use Rattle.fv_tree.specs.declared.kept.KeptCell.{KeptCell}
use Rattle.fv_tree.specs.declared.kept.KeptNode.{KeptNode}
use Rattle.fv_tree.specs.Spelled.{hole}
use Rattle.fv_tree.specs.Writing.{stamped}
use Rattle.fv_tree.specs.Flushing.{node_changed, cell_changed, cell_placed, placed_in, placed_of, changed_of}
use Rattle.fv_tree.proofs.Bordered.{cleared_marks}
use Rattle.fv_tree.proofs.erase.unlink.Goals as goal

cell_apart : (i lost level place : ℕ) → (lost < level) ⊎ (place ≢ i / fan ^ level) → level ≡ 0 → place ≡ i → ⊥
cell_apart i lost level place (inl lt) low e = absurd (omega (arith, lt, low))
cell_apart i lost level place (inr differs) low e = differs (e ∙ (let first : i ≡ i / fan ^ 0 = omega arith in first) ∙ ap (λ k. i / fan ^ k) (sym low))

-- what isn't on the way, or above the nodes that go
blocks_as : (t u : Tree) (i lost level place : ℕ) → (lost < level) ⊎ (place ≢ i / fan ^ level)
    → ((k : ℕ) → k ≢ i → tree.get nat_cmp u.cells k ≡ tree.get nat_cmp t.cells k)
    → ((level place : ℕ) → (lost < level) ⊎ (place ≢ i / fan ^ level) → placed_in u.nodes level place ≡ placed_in t.nodes level place)
    → placed_of u level place ≡ placed_of t level place
blocks_as t u i lost level place other cells nodes = elim (cases_eq level 0) [
  | inl low ↦ let test : (level == 0) ≡ true = grind (arith, nat_tests) in rw test (ap cell_placed (cells place (cell_apart i lost level place other low)))
  | inr high ↦ let test : (level == 0) ≡ false = grind (arith, nat_tests) in rw test (nodes level place other)
]

-- what isn't on the way
changed_as : (t u : Tree) (i level place : ℕ) → place ≢ i / fan ^ level
    → ((k : ℕ) → k ≢ i → tree.get nat_cmp u.cells k ≡ tree.get nat_cmp t.cells k)
    → ((level place : ℕ) → place ≢ i / fan ^ level → tree.get spot_cmp u.nodes (level, place) ≡ tree.get spot_cmp t.nodes (level, place))
    → changed_of u level place ≡ changed_of t level place
changed_as t u i level place differs cells nodes = elim (cases_eq level 0) [
  | inl low ↦ let test : (level == 0) ≡ true = grind (arith, nat_tests) in rw test (ap cell_changed (cells place (cell_apart i 0 level place (inr differs) low)))
  | inr high ↦ let test : (level == 0) ≡ false = grind (arith, nat_tests) in rw test (ap node_changed (nodes level place differs))
]

there : (o : Option KeptNode) (xs : List Pointer) → option_map (λ (kept : KeptNode). kept.children) o ≡ Some xs → is_some o ≡ true
there None xs e = absurd cc
there (Some kept) xs e = refl

pub returns-then-lost-tree-clause-unlinks : goal.returns-then-lost-tree-clause-unlinks
returns-then-lost-tree-clause-unlinks c = λ way.
    let t = c.args.tree.now in
    let now = c.clear.ensures in
    let test : nat_eq c.args.lost t.levels ≡ true = grind (arith, nat_tests, c.if-lost-tree.true) in record {
      owner = now.owner;
      levels = now.levels ∙ sym (ap (λ b. cond b c.args.start t.levels) test);
      root = now.root ∙ sym (ap (λ b. cond b hole (stamped t.root c.args.stamp)) test);
      lowest = λ lt. absurd (omega (arith, lt, c.if-lost-tree.true));
      above = λ level lt le. absurd (omega (arith, lt, le, c.if-lost-tree.true));
      others = λ lt. absurd (omega (arith, lt, c.if-lost-tree.true));
      marked = λ level lt le. absurd (omega (arith, lt, le, c.if-lost-tree.true));
      unmarked = λ lt. absurd (omega (arith, lt, c.if-lost-tree.true));
      forgotten = λ level low high. ap (option_map (λ (kept : KeptNode). kept.children)) (now.nodes level (c.args.index / fan ^ level));
      emptied = λ _ level place. ap (option_map (λ (kept : KeptNode). kept.children)) (now.nodes level place);
      cells = λ lt. absurd (omega (arith, lt, c.if-lost-tree.true));
      blocks = λ lt. absurd (omega (arith, lt, c.if-lost-tree.true));
    }

pub returns-else-lost-tree-clause-unlinks : goal.returns-else-lost-tree-clause-unlinks
returns-else-lost-tree-clause-unlinks c = λ way.
    let t = c.args.tree.now in
    let u = c.cut_way.new.tree in
    let now = c.cut_way.ensures in
    let test : nat_eq c.args.lost t.levels ≡ false = grind (arith, nat_tests, c.if-lost-tree.false) in record {
      owner = now.cuts.owner;
      levels = now.cuts.levels ∙ sym (ap (λ b. cond b c.args.start t.levels) test);
      root = now.cuts.root ∙ sym (ap (λ b. cond b hole (stamped t.root c.args.stamp)) test);
      lowest = λ _. now.cuts.lowest;
      above = now.cuts.above;
      others = λ _. now.cuts.others;
      marked = λ level lt le. let node = way level (omega (arith, lt)) le in now.changed level lt le (there (tree.get spot_cmp t.nodes (level, c.args.index / fan ^ level)) node.0 node.1);
      unmarked = λ _ level place differs. changed_as t u c.args.index level place differs now.cells now.same;
      forgotten = λ level low high. ap (option_map (λ (kept : KeptNode). kept.children)) (now.gone level low high);
      emptied = λ all. absurd (c.if-lost-tree.false all);
      cells = λ _ k differs. ap (option_map (λ (kept : KeptCell). kept.block.value)) (now.cells k differs);
      blocks = λ _ level place other. blocks_as t u c.args.index c.args.lost level place other now.cells now.placed;
    }

pub returns-then-lost-tree-clause-differs : goal.returns-then-lost-tree-clause-differs
returns-then-lost-tree-clause-differs c = cleared_marks c.args.tree.now c.clear.new.tree c.args.index c.clear.ensures.nodes c.clear.ensures.pending c.clear.ensures.held c.clear.ensures.ordered
