-- What the trees in memory cost, where one is put, changed or taken out.
use Rattle.std.proofs.Common.{false, ◌≡◌, ◌≤◌, ◌<◌, ℕ, ◌+◌, ◌*◌, ◌^◌, List, Some, refl, sym, ap, ◌∙◌, arith}
use Rattle.std.specs.Prelude.{length, [], ◌∷◌, sum_by, unwrap_or}
use Rattle.std.specs.Option.{option_map}
use Rattle.std.specs.Ordering.{nat_cmp, is_eq}
use Rattle.std.specs.Cmp.{nat_cmp_total}
use Rattle.std.specs.Map.{remove_entry, set_value, values_of}
use Rattle.std.specs.BTreeMap as maps
use Rattle.std.proofs.lemmas.Bool.Decides.{nat_tests}
use Rattle.std.proofs.lemmas.List.Sums.{sum_by-cons}
use Rattle.std.proofs.lemmas.Map.{length-set_value}
use Rattle.std.proofs.lemmas.Map.Entries.{sum_by-insert_entry, sum_by-remove_entry, sum_by-set_value}
use Rattle.fv_tree.specs.declared.kept.Tree.{Tree}
use Rattle.fv_tree.specs.Costs.{cells_changed, changes_in, pending}
use Rattle.fv_files.specs.Calls.{Becomes}
use Rattle.fv_files.specs.Pending.{pending_trees, tree_cost}

abbrev pub cost_of : List (ℕ × Tree) → ℕ
cost_of es = sum_by tree_cost (values_of es)

pub cost_more : (e : ℕ × Tree) (es : List (ℕ × Tree)) → cost_of (e ∷ es) ≡ tree_cost e.1 + cost_of es
cost_more e es = sum_by-cons tree_cost e.1 (values_of es)

no_entries : (es : List (ℕ × Tree)) → length es ≡ 0 → cost_of es ≡ 0
no_entries [] e = refl
no_entries (x ∷ xs) e = absurd (omega (arith, e))

pub no_cost : (m : maps.BTreeMap ℕ Tree) → maps.btree_map_len m ≡ 0 → pending_trees m ≡ 0
no_cost m none = no_entries m.entries none

-- ---- what trees cost fits

tree_bound : (t : Tree) → tree_cost t ≤ 2 ^ 65 + 2
tree_bound t =
    let nodes : t.changed_nodes ≡ changes_in t.nodes = t.counted_nodes in
    let cells : t.changed_cells ≡ cells_changed t.cells = t.counted_cells in
    omega (arith, nodes, cells, t.fits_nodes, t.fits_cells)

cost_bound : (es : List (ℕ × Tree)) → cost_of es ≤ length es * (2 ^ 65 + 2)
cost_bound [] = omega arith
cost_bound (e ∷ es) =
    let more = cost_more e es in
    let one = tree_bound e.1 in
    let rest = cost_bound es in
    omega (arith, more, one, rest)

pub cost_fits : (m : maps.BTreeMap ℕ Tree) → maps.btree_map_len m < 2 ^ 63 → pending_trees m < 2 ^ 128
cost_fits m few = let most = cost_bound m.entries in omega (arith, most, few)

-- ---- a map that changes

module _ (m n : maps.BTreeMap ℕ Tree) (k : ℕ) where
  put_sum : (t : Tree) → maps.IsOrdered nat_cmp m → n.entries ≡ maps.insert_entry nat_cmp m.entries k t → pending_trees n + unwrap_or (option_map tree_cost (maps.get nat_cmp m k)) 0 ≡ pending_trees m + tree_cost t
  put_sum t ordered is = ap (λ (es : List (ℕ × Tree)). cost_of es + unwrap_or (option_map tree_cost (maps.get nat_cmp m k)) 0) is ∙ sum_by-insert_entry tree_cost nat_cmp_total m.entries k t ordered

  pub put_cost : (t : Tree) → maps.IsOrdered nat_cmp m → n.entries ≡ maps.insert_entry nat_cmp m.entries k t → pending_trees n ≤ pending_trees m + tree_cost t
  put_cost t ordered is = let sum = put_sum t ordered is in omega (arith, sum)

  pub put_fits : (t : Tree) → maps.IsOrdered nat_cmp m → n.entries ≡ maps.insert_entry nat_cmp m.entries k t → maps.btree_map_len n < 2 ^ 63 → (cost before : ℕ) → cost ≡ pending_trees m → before ≡ unwrap_or (option_map tree_cost (maps.get nat_cmp m k)) 0
      → cost + tree_cost t < 2 ^ 128 + before
  put_fits t ordered is few cost before kept was = let fits = cost_fits n few in let sum = put_sum t ordered is in omega (arith, fits, sum, kept, was)

  pub put_kept : (t : Tree) → maps.IsOrdered nat_cmp m → n.entries ≡ maps.insert_entry nat_cmp m.entries k t → (cost before new : ℕ) → cost ≡ pending_trees m → before ≡ unwrap_or (option_map tree_cost (maps.get nat_cmp m k)) 0
      → new + before ≡ cost + tree_cost t → new ≡ pending_trees n
  put_kept t ordered is cost before new kept was is_new = let sum = put_sum t ordered is in omega (arith, sum, kept, was, is_new)

  pub set_cost : (t u : Tree) → Some t ≡ maps.get nat_cmp m k → n.entries ≡ set_value (maps.is_at (nat_cmp k)) m.entries u → pending_trees n + pending t ≡ pending_trees m + pending u
  set_cost t u held is =
      let same : pending_trees n ≡ cost_of (set_value (maps.is_at (nat_cmp k)) m.entries u) = ap cost_of is in
      let exact : cost_of (set_value (maps.is_at (nat_cmp k)) m.entries u) + tree_cost t ≡ pending_trees m + tree_cost u = sum_by-set_value tree_cost (maps.is_at (nat_cmp k)) m.entries t u (sym held) in
      omega (arith, exact, same)

  -- a cost that is kept, where one tree is another one now
  module _ (t u : Tree) (held : Some t ≡ maps.get nat_cmp m k) (is : n.entries ≡ set_value (maps.is_at (nat_cmp k)) m.entries u) where
    pub set_fits : maps.btree_map_len m < 2 ^ 63 → (cost : ℕ) → cost ≡ pending_trees m → cost + tree_cost u < 2 ^ 128 + tree_cost t
    set_fits few cost kept =
        let length_is : maps.btree_map_len n ≡ maps.btree_map_len m = ap length is ∙ length-set_value (maps.is_at (nat_cmp k)) m.entries u in
        let fits = cost_fits n (omega (arith, length_is, few)) in
        let sum = set_cost t u held is in
        omega (arith, fits, sum, kept)

    pub set_kept : (cost new : ℕ) → cost ≡ pending_trees m → new + tree_cost t ≡ cost + tree_cost u → new ≡ pending_trees n
    set_kept cost new kept is_new = let sum = set_cost t u held is in omega (arith, sum, kept, is_new)

  -- one tree is another one now
  pub becomes_set : (t u : Tree) → Some t ≡ maps.get nat_cmp m k → n.entries ≡ set_value (maps.is_at (nat_cmp k)) m.entries u → maps.get nat_cmp n k ≡ Some u
      → ((j : ℕ) → is_eq (nat_cmp k j) ≡ false → maps.get nat_cmp n j ≡ maps.get nat_cmp m j) → Becomes m n k t u
  becomes_set t u held is now others = record {
    was = sym held;
    now = now;
    others = λ j differs. others j (let test : is_eq (nat_cmp k j) ≡ false = grind (arith, nat_tests, differs) in test);
    sum = set_cost t u held is;
  }

  module _ (is : n.entries ≡ remove_entry (maps.is_at (nat_cmp k)) m.entries) where
    left_cost : pending_trees n + unwrap_or (option_map tree_cost (maps.get nat_cmp m k)) 0 ≡ pending_trees m
    left_cost = ap (λ (es : List (ℕ × Tree)). cost_of es + unwrap_or (option_map tree_cost (maps.get nat_cmp m k)) 0) is ∙ sum_by-remove_entry tree_cost (maps.is_at (nat_cmp k)) m.entries

    -- a cost that is kept
    pub out_kept : (cost before new : ℕ) → cost ≡ pending_trees m → before ≡ unwrap_or (option_map tree_cost (maps.get nat_cmp m k)) 0 → new + before ≡ cost + 0 → new ≡ pending_trees n
    out_kept cost before new kept was is_new = omega (arith, left_cost, kept, was, is_new)

    pub out_less : pending_trees n ≤ pending_trees m
    out_less = omega (arith, left_cost)

    pub out_cost : (t : Tree) → maps.get nat_cmp m k ≡ Some t → pending_trees n + tree_cost t ≡ pending_trees m
    out_cost t held = let one : unwrap_or (option_map tree_cost (maps.get nat_cmp m k)) 0 ≡ tree_cost t = ap (λ o. unwrap_or (option_map tree_cost o) 0) held in omega (arith, left_cost, one)

-- what there is under a number is among them
pub any_cost : (m : maps.BTreeMap ℕ Tree) (k : ℕ) → unwrap_or (option_map tree_cost (maps.get nat_cmp m k)) 0 ≤ pending_trees m
any_cost m k =
    let left : cost_of (remove_entry (maps.is_at (nat_cmp k)) m.entries) + unwrap_or (option_map tree_cost (maps.get nat_cmp m k)) 0 ≡ pending_trees m = sum_by-remove_entry tree_cost (maps.is_at (nat_cmp k)) m.entries in
    omega (arith, left)

-- one is among them
pub most_cost : (m : maps.BTreeMap ℕ Tree) (k : ℕ) (t : Tree) → maps.get nat_cmp m k ≡ Some t → tree_cost t ≤ pending_trees m
most_cost m k t held =
    let one : unwrap_or (option_map tree_cost (maps.get nat_cmp m k)) 0 ≡ tree_cost t = ap (λ o. unwrap_or (option_map tree_cost o) 0) held in
    let most = any_cost m k in
    omega (arith, most, one)
