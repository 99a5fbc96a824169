-- The look-ups of the way to a cell, from the root down.
use Rattle.std.proofs.Common.{◌≡◌, ◌≤◌, ℕ, zero, suc, ◌+◌, ◌-◌, ◌/◌, ◌^◌, Bool, true, false, cond, ◌||◌, nat_cmp, refl, sym, ap, ◌∙◌, arith, ◌==◌, if◌then◌else◌}
use Rattle.std.proofs.lemmas.Bool.Decides.{nat_tests}
use Rattle.std.specs.BTreeMap as tree
use Rattle.fv_codec.specs.declared.pointer.Pointer.{Pointer}
use Rattle.fv_model.specs.Trees.{fan}
use Rattle.fv_tree.specs.declared.kept.Tree.{Tree}
use Rattle.fv_tree.specs.Spelled.{Rooted, Under, pointer_at, pointer_below}
use Rattle.fv_tree.specs.Standing.{standing}
use Rattle.fv_tree.specs.Flushing.{Loaded, cell_changed, changed_in, changed_of, loaded_over}
use Rattle.fv_tree.specs.Lookups.{cost_below, load_cost, place_cost, way_cost}
use Rattle.fv_tree.proofs.Below.{on_the_way}

-- what is a hole, or changed in memory, costs nothing
pub hole_costs : (cost : Pointer → ℕ) (changed : Bool) (p : Pointer) → p.stamp ≡ 0 → load_cost cost changed p ≡ 0
hole_costs cost true p none = refl
hole_costs cost false p none = let test : (p.stamp == 0) ≡ true = grind (arith, nat_tests) in ap (λ b. cond b 0 (cost p)) test

pub changed_costs : (cost : Pointer → ℕ) (changed : Bool) (p : Pointer) → changed ≡ true → load_cost cost changed p ≡ 0
changed_costs cost changed p is = ap (λ b. load_cost cost b p) is

pub loads_costs : (cost : Pointer → ℕ) (changed : Bool) (p : Pointer) → changed ≡ false → (p.stamp ≡ 0 → ⊥) → load_cost cost changed p ≡ cost p
loads_costs cost changed p same some = let test : (p.stamp == 0) ≡ false = grind (arith, nat_tests) in (λ i. cond (same i || test i) 0 (cost p))

-- a node over a cell
pub node_costs : (cost : Pointer → ℕ) (blocks : Under) (t : Tree) (level i place : ℕ) (p : Pointer) → 1 ≤ level → level ≤ t.levels → place ≡ i / fan ^ level → p ≡ pointer_below (standing blocks t) (t.levels - level) (i / fan ^ level)
    → load_cost cost (changed_in t.nodes level place) p ≡ place_cost cost (loaded_over blocks t) level (i / fan ^ level)
node_costs cost blocks t level i place p low high at is =
    let test : (level == 0) ≡ false = grind (arith, nat_tests) in
    (λ j. load_cost cost (changed_in t.nodes level (at j)) ((is ∙ sym (on_the_way (standing blocks t) level i high)) j))
    ∙ sym (ap (λ b. load_cost cost (if b then cell_changed (tree.get nat_cmp t.cells (i / fan ^ level)) else changed_in t.nodes level (i / fan ^ level)) (pointer_at (standing blocks t) level (i / fan ^ level))) test)

-- one step down
pub cost_step : (cost : Pointer → ℕ) (s : Loaded) (i level : ℕ) → 1 ≤ level → cost_below cost s i (suc level) ≡ place_cost cost s level (i / fan ^ level) + cost_below cost s i (suc (level - 1))
unfolding cost_below
cost_step cost s i level low = let n : level ≡ suc (level - 1) = omega arith in ap (λ m. place_cost cost s level (i / fan ^ level) + cost_below cost s i m) n

-- at the cell
pub cost_last : (cost : Pointer → ℕ) (s : Loaded) (i level : ℕ) → level ≡ 0 → cost_below cost s i (suc level) ≡ place_cost cost s 0 i
unfolding cost_below
cost_last cost s i level none =
    let first : i / fan ^ 0 ≡ i = omega arith in
    ap (λ n. place_cost cost s n (i / fan ^ n) + cost_below cost s i n) none ∙ (let sum : place_cost cost s 0 (i / fan ^ 0) + 0 ≡ place_cost cost s 0 (i / fan ^ 0) = omega arith in sum) ∙ ap (place_cost cost s 0) first

-- a cell whose pointer was found costs what the last place of its way does
pub found_costs : (old mid : Pointer → ℕ) (blocks : Under) (t : Tree) (i : ℕ) (p : Pointer) → mid ≡ old → p ≡ pointer_at (standing blocks t) 0 i
    → load_cost mid (cell_changed (tree.get nat_cmp t.cells i)) p ≡ place_cost old (loaded_over blocks t) 0 i
found_costs old mid blocks t i p cost at = λ j. load_cost (cost j) (cell_changed (tree.get nat_cmp t.cells i)) (at j)

-- two trees that are spelled alike and changed in the same places
costs_alike : (cost : Pointer → ℕ) (s u : Loaded) → ((level place : ℕ) → s.changed level place ≡ u.changed level place) → s.tree ≡ u.tree → (i k : ℕ) → cost_below cost s i k ≡ cost_below cost u i k
unfolding cost_below
costs_alike cost s u changed same i zero = refl
costs_alike cost s u changed same i (suc level) = λ j. load_cost cost (changed level (i / fan ^ level) j) (pointer_at (same j) level (i / fan ^ level)) + costs_alike cost s u changed same i level j

pub ways_alike : (cost : Pointer → ℕ) (s u : Loaded) → ((level place : ℕ) → s.changed level place ≡ u.changed level place) → s.tree ≡ u.tree → (i : ℕ) → way_cost cost s i ≡ way_cost cost u i
ways_alike cost s u changed same i = costs_alike cost s u changed same i (suc s.tree.levels) ∙ ap (λ (t : Rooted). cost_below cost u i (suc t.levels)) same
