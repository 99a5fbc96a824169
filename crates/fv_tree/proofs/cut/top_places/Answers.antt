use Rattle.std.proofs.Common.{◌≡◌, ◌≤◌, ◌<◌, ◌-◌, ◌^◌, List, ℕ, [], ◌∷◌, ◌++◌, sym, ap, subst, ◌∙◌, arith}
use Rattle.fv_model.specs.Trees.{fan}
use Rattle.fv_tree.specs.Standing.{standing}
use Rattle.fv_tree.specs.Collecting.{AllBelow, Collects}
use Rattle.fv_tree.proofs.Collected.{none_below, first_below, none_at_top, none_so_far, one_at_top}
use Rattle.fv_tree.proofs.Levels.{fan_pos}
use Rattle.fv_tree.proofs.cut.top_places.Goals as goal

pub returns-then-tree-eq0-clause-places : goal.returns-then-tree-eq0-clause-places
returns-then-tree-eq0-clause-places c = λ held.
    let t = standing held c.args.tree.now in
    subst (Collects t t.levels c.args.most) (sym c.new-places.ensures.items) (none_at_top t c.args.most c.if-tree-eq0.true)

pub returns-then-most-width-clause-places : goal.returns-then-most-width-clause-places
returns-then-most-width-clause-places c = λ held.
    let t = standing held c.args.tree.now in
    let far : fan ^ t.levels ≤ c.args.most = omega (arith, c.if-most-width.true, c.width.ensures.is) in
    subst (Collects t t.levels c.args.most) (sym c.new-places.ensures.items) (none_so_far t c.args.most far)

pub returns-clause-places : goal.returns-clause-places
returns-clause-places c = λ held.
    let t = standing held c.args.tree.now in
    let near : c.args.most < fan ^ t.levels = omega (arith, c.if-most-width.false, c.width.ensures.is) in
    let items : c.add.new.places.items ≡ 0 ∷ [] = c.in_ok-add.ensures.added ∙ ap (λ (xs : List ℕ). xs ++ 0 ∷ []) c.new-places.ensures.items in
    subst (Collects t t.levels c.args.most) (sym items) (one_at_top t c.args.most c.if-tree-eq0.false near)

pub returns-then-tree-eq0-clause-bound : goal.returns-then-tree-eq0-clause-bound
returns-then-tree-eq0-clause-bound c = let most = fan ^ (3 - c.args.tree.now.levels) in subst (λ xs. AllBelow xs most) (sym c.new-places.ensures.items) (none_below most)

pub returns-then-most-width-clause-bound : goal.returns-then-most-width-clause-bound
returns-then-most-width-clause-bound c = let most = fan ^ (3 - c.args.tree.now.levels) in subst (λ xs. AllBelow xs most) (sym c.new-places.ensures.items) (none_below most)

pub returns-clause-bound : goal.returns-clause-bound
returns-clause-bound c =
    let most = fan ^ (3 - c.args.tree.now.levels) in
    let items : c.add.new.places.items ≡ 0 ∷ [] = c.in_ok-add.ensures.added ∙ ap (λ (xs : List ℕ). xs ++ 0 ∷ []) c.new-places.ensures.items in
    subst (λ xs. AllBelow xs most) (sym items) (first_below most (fan_pos (3 - c.args.tree.now.levels)))
