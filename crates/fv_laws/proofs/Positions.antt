-- The positions of a table are the places of its stamps, and there are as many ids.
use Rattle.std.proofs.Common.{◌≡◌, ℕ, ◌+◌, Bool, true, false, cond, List, [], ◌∷◌, ◌++◌, length, map, sum_by, Option, Some, None, is_some, refl, sym, ap, ◌∙◌, arith, T}
use Rattle.std.specs.Ordering.{nat_cmp}
use Rattle.std.specs.FinMap as fin
use Rattle.std.specs.FinMap.{find, is_sorted}
use Rattle.std.specs.FinMap.Entries.{below_all}
use Rattle.std.specs.FinSet as set
use Rattle.std.proofs.lemmas.List.Sums.{sum_by-cons}
use Rattle.fv_model.specs.Trees.{Spot, spot_cmp}
use Rattle.fv_model.specs.Tables.{File, Table}
use Rattle.fv_model.specs.Places.{Owner, InodeFile, OfFile, Place, place_cmp, placed, Stamps, Id, id_cmp, ids, stamps_of}
use Rattle.fv_laws.specs.Positions.{positions}
use Rattle.fv_laws.proofs.Orders.{place_total, spot_total, spot_ties, id_total}
use Rattle.fv_laws.proofs.Maps.{first, second}
use Rattle.fv_laws.proofs.Ids.{not_below}
use Rattle.fv_laws.proofs.Stamps.{or_else, found_append, found_in_tree, files_entries, no_inode, not_in_files}

-- one more where the key wasn't there
grown : (b : Bool) (n : ℕ) → cond b n (n + 1) ≡ n + cond b 0 1
grown true n = omega arith
grown false n = omega arith

none_after : (o : Option ℕ) → is_some (or_else o None) ≡ is_some o
none_after None = refl
none_after (Some x) = refl

-- a tree's entries put before those of others, none of which is in that tree
tree_first : (o : Owner) (es : List (Spot × ℕ)) (fs : List (Place × ℕ)) → ((p : Spot) → find place_cmp (placed o p) fs ≡ None)
    → fin.len (fin.from_entries {R = place_cmp} (map (λ e. (placed o e.0, e.1)) es ++ fs)) ≡ fin.len (fin.from_entries {R = spot_cmp} es) + fin.len (fin.from_entries {R = place_cmp} fs)
tree_first o [] fs apart = let none : fin.len (fin.from_entries {K = Spot} {X = ℕ} {R = spot_cmp} []) ≡ 0 = fin.len-empty spot_cmp ℕ in omega (arith, none)
tree_first o (e ∷ es) fs apart =
    let rest = tree_first o es fs apart in
    let all = map (λ (e : Spot × ℕ). (placed o e.0, e.1)) es ++ fs in
    let here : fin.contains_key (fin.from_entries {R = place_cmp} all) (placed o e.0) ≡ fin.contains_key (fin.from_entries {R = spot_cmp} es) e.0 =
    ap is_some (fin.get-from_entries place_total all (placed o e.0) ∙ found_append (placed o e.0) (map (λ (e : Spot × ℕ). (placed o e.0, e.1)) es) fs ∙ (λ i. or_else (found_in_tree o e.0 es i) (apart e.0 i)))
    ∙ none_after (find spot_cmp e.0 es) ∙ ap is_some (sym (fin.get-from_entries spot_total es e.0)) in
    let more : fin.len (fin.from_entries {R = place_cmp} ((placed o e.0, e.1) ∷ all)) ≡ fin.len (fin.from_entries {R = place_cmp} all) + cond (fin.contains_key (fin.from_entries {R = spot_cmp} es) e.0) 0 1 =
    fin.len-insert place_total (fin.from_entries {R = place_cmp} all) (placed o e.0) e.1 ∙ grown _ _ ∙ ap (λ b. fin.len (fin.from_entries {R = place_cmp} all) + cond b 0 1) here in
    let tree : fin.len (fin.from_entries {R = spot_cmp} (e ∷ es)) ≡ fin.len (fin.from_entries {R = spot_cmp} es) + cond (fin.contains_key (fin.from_entries {R = spot_cmp} es) e.0) 0 1 =
    fin.len-insert spot_total (fin.from_entries {R = spot_cmp} es) e.0 e.1 ∙ grown _ _ in
    omega (arith, rest, more, tree)

again : (m : fin.FinMap spot_cmp ℕ) → fin.from_entries {R = spot_cmp} (fin.entries m) ≡ m
again m = fin.same_map spot_total spot_ties _ _ (λ q. fin.get-from_entries spot_total (fin.entries m) q ∙ sym (fin.get-entries m q))

all_files : (es : List (ℕ × File)) → T (is_sorted nat_cmp es) → fin.len (fin.from_entries {R = place_cmp} (files_entries es)) ≡ sum_by (λ e. fin.len e.1.tree.stamps) es
all_files [] h = fin.len-empty place_cmp ℕ
all_files (e ∷ es) h =
    let rest : fin.len (fin.from_entries {R = place_cmp} (files_entries es)) ≡ sum_by (λ (e : ℕ × File). fin.len e.1.tree.stamps) es = all_files es (second (below_all nat_cmp e.0 es) (is_sorted nat_cmp es) h) in
    let one = tree_first (OfFile e.0) (fin.entries e.1.tree.stamps) (files_entries es) (λ p. not_in_files e.0 p es (first _ _ h)) in
    let same : fin.len (fin.from_entries {R = spot_cmp} (fin.entries e.1.tree.stamps)) ≡ fin.len e.1.tree.stamps = ap fin.len (again e.1.tree.stamps) in
    let sum = sum_by-cons (λ (e : ℕ × File). fin.len e.1.tree.stamps) e es in
    omega (arith, rest, one, same, sum)

-- A table has as many positions as places with a stamp.
pub positions_are : (t : Table) → fin.len (stamps_of t) ≡ positions t
unfolding stamps_of positions
positions_are t =
    let files = all_files (fin.entries t.files) (fin.entries_sorted t.files) in
    let one = tree_first InodeFile (fin.entries t.inode.stamps) (files_entries (fin.entries t.files)) (λ p. no_inode p (fin.entries t.files)) in
    let same : fin.len (fin.from_entries {R = spot_cmp} (fin.entries t.inode.stamps)) ≡ fin.len t.inode.stamps = ap fin.len (again t.inode.stamps) in
    omega (arith, files, one, same)

-- ---- ids

listed_ids : (es : List Id) → T (is_sorted place_cmp es) → set.len (set.from_list {R = id_cmp} es) ≡ length es
listed_ids [] h = set.len-empty id_cmp
listed_ids (e ∷ es) h =
    let rest : set.len (set.from_list {R = id_cmp} es) ≡ length es = listed_ids es (second (below_all place_cmp e.0 es) (is_sorted place_cmp es) h) in
    let absent : set.contains (set.from_list {R = id_cmp} es) e ≡ false = set.contains-from_list id_total es e ∙ not_below e.0 e.1 es (first _ _ h) in
    let more : set.len (set.from_list {R = id_cmp} (e ∷ es)) ≡ set.len (set.from_list {R = id_cmp} es) + 1 = set.len-insert id_total (set.from_list es) e ∙ ap (λ b. cond b (set.len (set.from_list {R = id_cmp} es)) (set.len (set.from_list {R = id_cmp} es) + 1)) absent in
    omega (arith, rest, more)

-- Each place with a stamp is one id.
pub len_ids : (m : Stamps) → set.len (ids m) ≡ fin.len m
unfolding ids
len_ids m = listed_ids (fin.entries m) (fin.entries_sorted m) ∙ sym (fin.len-entries m)
