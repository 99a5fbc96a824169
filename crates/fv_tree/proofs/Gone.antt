-- A cell or node of a tree that goes out of memory, and what the tree over its blocks is then.
use Rattle.std.proofs.Common.{◌≡◌, ◌≢◌, ◌≤◌, ℕ, ◌⊎◌, inl, inr, Bool, true, false, List, Option, Some, None, refl, sym, ap, subst, ◌∙◌, arith, ◌==◌, if◌then◌else◌}
use Rattle.std.specs.Ordering.{nat_cmp}
use Rattle.std.specs.Option.{option_map}
use Rattle.std.specs.BTreeMap as tree
use Rattle.std.specs.FinMap as fin
use Rattle.std.proofs.lemmas.Bool.{cases_eq}
use Rattle.std.proofs.lemmas.Bool.Decides.{nat_tests}
use Rattle.fv_model.specs.Trees.{Spot, spot_cmp}
use Rattle.fv_tree.specs.declared.kept.Tree.{Tree}
use Rattle.fv_tree.specs.declared.kept.KeptNode.{KeptNode}
use Rattle.fv_tree.specs.declared.kept.KeptCell.{KeptCell}
use Rattle.fv_tree.specs.Spelled.{Under, pointer_at}
use Rattle.fv_tree.specs.Sources.{Shown}
use Rattle.fv_tree.specs.Standing.{standing, under, node_in, cell_in}
use Rattle.fv_tree.specs.Flushing.{Stands, Flushes, ForgetsCell, ForgetsNode, loaded, changed_of, placed_of, changed_in, placed_in, node_changed, node_placed, cell_changed, cell_placed}
use Rattle.fv_tree.proofs.Cases.{some_none}
use Rattle.fv_tree.proofs.Unchanged.{IsMemory}
use Rattle.fv_tree.proofs.Forgotten.{Forgets}
use Rattle.fv_tree.proofs.Flushes.{flushes_nothing}

-- ---- what is in memory, cells and nodes

pub map_none : {X Y : Type 0} (f : X → Y) (o : Option X) → option_map f o ≡ None → o ≡ None
map_none f None e = refl
map_none f (Some x) e = some_none (Some (f x)) (f x) e refl

pub map_some : {X Y : Type 0} (f : X → Y) (o : Option X) (y : Y) → option_map f o ≡ Some y → (x : X) × (o ≡ Some x)
map_some f None y e = some_none None y refl e
map_some f (Some x) y e = (x, refl)

pub changed_cell : (t : Tree) (j c : ℕ) → j ≡ 0 → changed_of t j c ≡ cell_changed (tree.get nat_cmp t.cells c)
changed_cell t j c e = let test : (j == 0) ≡ true = grind (arith, nat_tests) in ap (λ b. if b then cell_changed (tree.get nat_cmp t.cells c) else changed_in t.nodes j c) test

pub spot_changed : (t : Tree) (j c : ℕ) → 1 ≤ j → changed_of t j c ≡ changed_in t.nodes j c
spot_changed t j c low = let test : (j == 0) ≡ false = grind (arith, nat_tests) in ap (λ b. if b then cell_changed (tree.get nat_cmp t.cells c) else changed_in t.nodes j c) test

pub cell_led : (t : Tree) (j c : ℕ) → j ≡ 0 → placed_of t j c ≡ cell_placed (tree.get nat_cmp t.cells c)
cell_led t j c e = let test : (j == 0) ≡ true = grind (arith, nat_tests) in ap (λ b. if b then cell_placed (tree.get nat_cmp t.cells c) else placed_in t.nodes j c) test

pub spot_led : (t : Tree) (j c : ℕ) → 1 ≤ j → placed_of t j c ≡ placed_in t.nodes j c
spot_led t j c low = let test : (j == 0) ≡ false = grind (arith, nat_tests) in ap (λ b. if b then cell_placed (tree.get nat_cmp t.cells c) else placed_in t.nodes j c) test

pub is_memory : (source : Shown) (t : Tree) → IsMemory (loaded source t)
is_memory source t = record {
  nodes = λ j c low none. spot_led t j c low ∙ ap node_placed (map_none (λ (kept : KeptNode). kept.children) (tree.get spot_cmp t.nodes (j, c)) none);
  cells = λ c none. cell_led t 0 c refl ∙ ap cell_placed (map_none (λ (kept : KeptCell). kept.block.value) (tree.get nat_cmp t.cells c) none);
}

-- a cell or node goes out of memory
pub record Goes (t u : Tree) (k q : ℕ) : Type 0 where
  pub owner : u.owner ≡ t.owner
  pub levels : u.levels ≡ t.levels
  pub root : u.root ≡ t.root
  pub own_node : 1 ≤ k → tree.get spot_cmp u.nodes (k, q) ≡ None
  pub own_cell : k ≡ 0 → tree.get nat_cmp u.cells q ≡ None
  pub nodes : (j c : ℕ) → 1 ≤ j → (j ≢ k) ⊎ (c ≢ q) → tree.get spot_cmp u.nodes (j, c) ≡ tree.get spot_cmp t.nodes (j, c)
  pub cells : (i : ℕ) → (k ≢ 0) ⊎ (i ≢ q) → tree.get nat_cmp u.cells i ≡ tree.get nat_cmp t.cells i

pub cell_goes : (t u : Tree) (q : ℕ) → ForgetsCell t u q → Goes t u 0 q
cell_goes t u q is = record {
  owner = is.owner;
  levels = is.levels;
  root = is.root;
  own_node = λ low. absurd (omega (arith, low));
  own_cell = λ _. is.own;
  nodes = λ j c _ _. ap (λ (nodes : tree.BTreeMap Spot KeptNode). tree.get spot_cmp nodes (j, c)) is.nodes;
  cells = λ i other. elim other [
    | inl level ↦ absurd (level refl)
    | inr differs ↦ is.others i differs
  ];
}

pub node_goes : (t u : Tree) (k q : ℕ) → 1 ≤ k → ForgetsNode t u k q → Goes t u k q
node_goes t u k q low is = record {
  owner = is.owner;
  levels = is.levels;
  root = is.root;
  own_node = λ _. is.own;
  own_cell = λ e. absurd (omega (arith, low, e));
  nodes = λ j c _ other. is.others j c other;
  cells = λ i _. ap (λ (cells : tree.BTreeMap ℕ KeptCell). tree.get nat_cmp cells i) is.cells;
}

module _ (t u : Tree) (k q : ℕ) (goes : Goes t u k q) where
  pub gone_changed : changed_of u k q ≡ false
  gone_changed = elim (cases_eq k 0) [
    | inl e ↦ changed_cell u k q e ∙ ap cell_changed (goes.own_cell e)
    | inr low ↦ spot_changed u k q (omega arith) ∙ ap node_changed (goes.own_node (omega arith))
  ]

  pub gone_led : placed_of u k q ≡ true
  gone_led = elim (cases_eq k 0) [
    | inl e ↦ cell_led u k q e ∙ ap cell_placed (goes.own_cell e)
    | inr low ↦ spot_led u k q (omega arith) ∙ ap node_placed (goes.own_node (omega arith))
  ]

  other_cell : {P : Type 0} (j c : ℕ) → j ≡ 0 → (j ≢ k) ⊎ (c ≢ q) → ((k ≢ 0) ⊎ (c ≢ q) → P) → P
  other_cell j c e (inl level) f = f (inl (λ g. level (e ∙ sym g)))
  other_cell j c e (inr differs) f = f (inr differs)

  pub other_changed : (j c : ℕ) → (j ≢ k) ⊎ (c ≢ q) → changed_of u j c ≡ changed_of t j c
  other_changed j c other = elim (cases_eq j 0) [
    | inl e ↦ changed_cell u j c e ∙ ap cell_changed (other_cell j c e other (goes.cells c)) ∙ sym (changed_cell t j c e)
    | inr low ↦ spot_changed u j c (omega arith) ∙ ap node_changed (goes.nodes j c (omega arith) other) ∙ sym (spot_changed t j c (omega arith))
  ]

  pub other_led : (j c : ℕ) → (j ≢ k) ⊎ (c ≢ q) → placed_of u j c ≡ placed_of t j c
  other_led j c other = elim (cases_eq j 0) [
    | inl e ↦ cell_led u j c e ∙ ap cell_placed (other_cell j c e other (goes.cells c)) ∙ sym (cell_led t j c e)
    | inr low ↦ spot_led u j c (omega arith) ∙ ap node_placed (goes.nodes j c (omega arith) other) ∙ sym (spot_led t j c (omega arith))
  ]

  pub other_node : (j c : ℕ) → 1 ≤ j → (j ≢ k) ⊎ (c ≢ q) → node_in u j c ≡ node_in t j c
  other_node j c low other = ap (option_map (λ (kept : KeptNode). kept.children)) (goes.nodes j c low other)

  pub other_content : (i : ℕ) → (k ≢ 0) ⊎ (i ≢ q) → cell_in u i ≡ cell_in t i
  other_content i other = ap (option_map (λ (kept : KeptCell). kept.block.value)) (goes.cells i other)

  pub gone_node : 1 ≤ k → node_in u k q ≡ None
  gone_node low = ap (option_map (λ (kept : KeptNode). kept.children)) (goes.own_node low)

  pub gone_cell : k ≡ 0 → cell_in u q ≡ None
  gone_cell e = ap (option_map (λ (kept : KeptCell). kept.block.value)) (goes.own_cell e)

-- ---- it needs no place

abbrev seen_held : fin.FinMap nat_cmp (List ℕ) → Under
seen_held h v = fin.get h v

pub forgets_is : (old new : Shown) (t u : Tree) (k q : ℕ) → new.held ≡ old.held → Goes t u k q → (changed_of t k q ≡ false) ⊎ ((pointer_at (standing (under old) t) k q).stamp ≡ 0) → Forgets (loaded old t) (loaded new u) k q
forgets_is old new t u k q held goes why = record {
  why = why;
  owner = goes.owner;
  levels = goes.levels;
  root = goes.root;
  under = ap seen_held held;
  own = gone_node t u k q goes;
  own_cell = gone_cell t u k q goes;
  nodes = other_node t u k q goes;
  cells = other_content t u k q goes;
  changed = gone_changed t u k q goes;
  changed_others = other_changed t u k q goes;
  placed_others = other_led t u k q goes;
}

pub flushes_still : {hides : Bool} (old new : Shown) (t u : Tree) → new.held ≡ old.held → new.used ≡ old.used → u ≡ t → Stands old t → Flushes hides (loaded old t) old.used (loaded new u) new.used
flushes_still {hides = hides} old new t u held used same stands =
    subst (λ v. Flushes hides (loaded old t) old.used (loaded new v) new.used) (sym same)
    (subst (λ h. Flushes hides (loaded old t) old.used (record { tree = standing (λ v. fin.get h v) t; changed = changed_of t; placed = placed_of t }) new.used) (sym held)
    (subst (λ w. Flushes hides (loaded old t) old.used (loaded old t) w) (sym used) (flushes_nothing (loaded old t) old.used stands)))
