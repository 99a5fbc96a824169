-- How many positions a cut and a removal take of a table.
use Rattle.std.proofs.Common.{◌≡◌, ℕ, suc, ◌+◌, ◌-◌, ◌*◌, ◌≤◌, ◌^◌, Bool, true, false, cond, nat_le, List, [], ◌∷◌, ◌++◌, length, get_or, inl, inr, sym, ap, subst, ◌∙◌, arith}
use Rattle.std.specs.Prelude.{Option, Some, None, is_some, map, flat_map, sum_by}
use Rattle.std.specs.List.{All, range_with_len}
use Rattle.std.specs.Ordering.{nat_cmp, eq_by_cmp}
use Rattle.std.specs.Cmp.{nat_cmp_total}
use Rattle.std.specs.FinMap as fin
use Rattle.std.proofs.Math.Nat.{pow-le-pow_right}
use Rattle.std.proofs.lemmas.Bool.Decides.{nat_tests}
use Rattle.std.proofs.lemmas.List.Concat.{length-flat_map}
use Rattle.std.proofs.lemmas.List.FromFn.{length-range_with_len, length-map-range_with_len}
use Rattle.std.proofs.lemmas.List.Sums.{sum_by-le}
use Rattle.fv_codec.specs.declared.inode.InodeRecord.{InodeRecord}
use Rattle.fv_model.specs.Trees.{fan, Spot, spot_cmp, least_levels}
use Rattle.fv_model.specs.Tables.{File, Table, inode_cell, file_cut, cut, rm}
use Rattle.fv_laws.specs.WellFormed.{IsWellTable}
use Rattle.fv_laws.specs.Positions.{cells_cut, cells_left, taken_by, taken_by_cut}
use Rattle.fv_laws.proofs.Lists.{In, in_map}
use Rattle.fv_laws.proofs.Tables.{there_key}
use Rattle.fv_laws.proofs.Moves.{part_cut, goes_cut, all_cut, part_rm, all_rm}
use Rattle.fv_laws.proofs.Orders.{spot_total, spot_ties}
use Rattle.fv_laws.proofs.Removals.{erased_len}
use Rattle.fv_tables.specs.Spelled.{Rooted, pointer_at, stamp_in}
use Rattle.fv_tables.specs.Told.{entry_or, listed, places, spots, stamp_at, tree_told, cells_told, file_at, Standing, tree_of, file_told, file_in, table_told}
use Rattle.fv_tables.proofs.Tables.{stamps_told, files_told}
use Rattle.fv_tree.specs.Counting.{positions_of}
use Rattle.fv_tree.specs.Erasing.{HoldsCells, IsErased}
use Rattle.fv_inode.proofs.Grown.{grown_tree}
use Rattle.fv_inode.proofs.Told.{inode_told}
use Rattle.fv_files.specs.Calls.{CutsFile, RemovesFile, TakesByCut, TakesByRemoval}
use Rattle.fv_files.proofs.Adding.{file_well, file_tree_is, grown_holds}
use Rattle.fv_files.proofs.Tables.{file_there}

-- ---- how many there can be

one_at_most : (b : Bool) (n m : ℕ) → m ≡ cond b n (n + 1) → m ≤ n + 1
one_at_most true n m e = omega (arith, e)
one_at_most false n m e = omega (arith, e)

few_entries : (es : List (Spot × ℕ)) → fin.len (fin.from_entries {R = spot_cmp} es) ≤ length es
few_entries [] = let none : fin.len (fin.empty {X = ℕ} {R = spot_cmp}) ≡ 0 = fin.len-empty spot_cmp ℕ in omega (arith, none)
few_entries (e ∷ es) =
    let rest = few_entries es in
    let more = one_at_most (fin.contains_key (fin.from_entries {R = spot_cmp} es) e.0) (fin.len (fin.from_entries {R = spot_cmp} es)) (fin.len (fin.insert (fin.from_entries {R = spot_cmp} es) e.0 e.1)) (fin.len-insert spot_total (fin.from_entries es) e.0 e.1) in
    omega (arith, rest, more)

few_listed : (f : Spot → Option ℕ) (ps : List Spot) → length (listed f ps) ≤ length ps
unfolding listed
few_listed f [] = omega arith
few_listed f (p ∷ ps) = let rest = few_listed f ps in so (f p) rest
  where
    so : (o : Option ℕ) → length (listed f ps) ≤ length ps → length (entry_or p o ++ listed f ps) ≤ suc (length ps)
    so None rest = omega (arith, rest)
    so (Some x) rest = omega (arith, rest)

-- the positions of one level
abbrev spots_at : ℕ → ℕ → List Spot
spots_at levels k = map (λ place. (k, place)) (places levels k)

few_spots : (levels : ℕ) → levels ≤ 3 → length (spots levels) ≤ 4 * fan ^ 3
unfolding spots
few_spots levels few =
    let all : All (λ k. length (spots_at levels k) ≤ fan ^ 3) (range_with_len 0 (levels + 1)) = (λ j d lt. short (get_or (range_with_len 0 (levels + 1)) j d)) in
    let sum : sum_by (λ k. length (spots_at levels k)) (range_with_len 0 (levels + 1)) ≤ length (range_with_len 0 (levels + 1)) * fan ^ 3 = sum_by-le (λ k. length (spots_at levels k)) (fan ^ 3) (range_with_len 0 (levels + 1)) all in
    let long : length (range_with_len 0 (levels + 1)) ≡ levels + 1 = length-range_with_len 0 (levels + 1) in
    let flat : length (flat_map (spots_at levels) (range_with_len 0 (levels + 1))) ≡ sum_by (λ k. length (spots_at levels k)) (range_with_len 0 (levels + 1)) = length-flat_map (spots_at levels) (range_with_len 0 (levels + 1)) in
    omega (arith, sum, long, flat, few)
  where
    short : (k : ℕ) → length (spots_at levels k) ≤ fan ^ 3
    short k =
        let long : length (spots_at levels k) ≡ fan ^ (levels - k) = length-map-range_with_len (λ (place : ℕ). (k, place)) 0 (fan ^ (levels - k)) in
        let up : fan ^ (levels - k) ≤ fan ^ 3 = pow-le-pow_right {n = fan} (omega arith) {i = levels - k} {j = 3} (omega (arith, few)) in
        omega (arith, long, up)

-- a tree of at most three levels has at most so many positions
pub few_positions : (t : Rooted) → t.levels ≤ 3 → positions_of t ≤ 4 * fan ^ 3
unfolding tree_told
few_positions t few =
    let entries = few_entries (listed (stamp_at t) (spots t.levels)) in
    let list = few_listed (stamp_at t) (spots t.levels) in
    let all = few_spots t.levels few in
    omega (arith, entries, list, all)

-- ---- a cut

cut_file : (t : Table) (n : ℕ) (f : File) (length s : ℕ) → fin.get (cut t n f length s).files n ≡ Some (file_cut f length s)
unfolding cut
cut_file t n f length s =
    fin.get-insert nat_cmp_total t.files n (file_cut f length s) n
    ∙ (let test : eq_by_cmp nat_cmp n n ≡ true = grind (arith, nat_tests) in ap (λ b. cond b (Some (file_cut f length s)) (fin.get t.files n)) test)

pub cut_counted : (x y : Standing) (n length s count : ℕ) (r q : InodeRecord) → file_at x.inode n ≡ Some r → file_at y.inode n ≡ Some q → CutsFile x y n length s → positions_of (tree_of x n r) ≡ positions_of (tree_of y n q) + count
    → TakesByCut x n length s count
cut_counted x y n length s count r q at now_at cuts sum now f le well there =
    let after : file_in y n ≡ Some (file_cut f length s) = sym (files_told y n) ∙ ap (λ (t : Table). fin.get t.files n) (cuts now f well there) ∙ cut_file (table_told x) n f length s in
    let tree : fin.len (file_cut f length s).tree.stamps ≡ positions_of (tree_of y n q) = ap (λ t. fin.len t.stamps) (file_tree_is y n q now_at (file_cut f length s) after) in
    let was : fin.len f.tree.stamps ≡ positions_of (tree_of x n r) = ap (λ t. fin.len t.stamps) (file_tree_is x n r at f there) in
    let long : fin.len (file_cut f length s).tree.stamps + taken_by_cut f length ≡ fin.len f.tree.stamps =
    erased_len now (least_levels f.reserve) (fin.keys f.blocks) (cells_left f length) (cells_cut f length) f.tree s (well.files n f (files_told x n ∙ there)).tree (part_cut now s (table_told x) well f length) (goes_cut now s (table_told x) well f length) (all_cut now s (table_told x) well f length) le in
    omega (arith, tree, was, long, sum)

-- ---- a removal

no_positions : (t : Rooted) → ((level place : ℕ) → stamp_in (pointer_at t level place) ≡ None) → positions_of t ≡ 0
no_positions t none =
    let empty : (tree_told t).stamps ≡ fin.empty = fin.same_map spot_total spot_ties _ _ (λ p. stamps_told t p.0 p.1 ∙ none p.0 p.1 ∙ sym (fin.get-empty spot_cmp p)) in
    ap fin.len empty ∙ fin.len-empty spot_cmp ℕ

-- a tree that is cut to nothing has none
pub nothing_left : (t u : Rooted) (start s own : ℕ) → (HoldsCells t → IsErased t u (nat_le 0) start s) → positions_of t ≡ positions_of u + own → HoldsCells t → positions_of t ≡ own
nothing_left t u start s own erases sum holds =
    let none : positions_of u ≡ 0 = no_positions u (λ level place. (erases holds).bare level place (λ i over stands. let all : nat_le 0 i ≡ true = grind (arith, nat_tests) in all)) in
    omega (arith, none, sum)

-- no mark of a file of a well-formed table lies over holes alone
pub tree_holds : (x : Standing) (n : ℕ) (r : InodeRecord) → file_at x.inode n ≡ Some r → (now : ℕ) → IsWellTable now (table_told x) → HoldsCells (tree_of x n r)
tree_holds x n r at now well =
    grown_holds (tree_of x n r) (least_levels r.reserve) (grown_tree now (least_levels r.reserve) (fin.keys (cells_told (tree_of x n r))) (tree_told (tree_of x n r)) (file_well x n r at now (file_told (tree_of x n r) r) well (file_there x n r at)))

goes : (t : Table) (n : ℕ) (f : File) → fin.get t.files n ≡ Some f → (j : ℕ) → In j (inode_cell n ∷ []) → In j (map inode_cell (fin.keys t.files))
goes t n f there j (inl same) = subst (λ c. In c (map inode_cell (fin.keys t.files))) same (in_map inode_cell n (fin.keys t.files) (there_key t.files n (ap is_some there)))
goes t n f there j (inr h) = absurd h

removed_len : (now s : ℕ) (t : Table) (well : IsWellTable now t) (n : ℕ) (f : File) → now ≤ s → fin.get t.files n ≡ Some f → fin.len (rm t n s).inode.stamps + taken_by t.inode (inode_cell n ∷ []) (map inode_cell (fin.keys (fin.remove t.files n))) ≡ fin.len t.inode.stamps
unfolding rm
removed_len now s t well n f le there =
    erased_len now 0 (map inode_cell (fin.keys t.files)) (map inode_cell (fin.keys (fin.remove t.files n))) (inode_cell n ∷ []) t.inode s well.inode (part_rm now s t well n) (goes t n f there) (all_rm now s t well n) le

pub removal_counted : (x y : Standing) (n s own count : ℕ) (r : InodeRecord) → file_at x.inode n ≡ Some r → RemovesFile x y n s → (HoldsCells (tree_of x n r) → positions_of (tree_of x n r) ≡ own) → positions_of x.inode ≡ positions_of y.inode + count
    → TakesByRemoval x n s (own + count)
removal_counted x y n s own count r at removes own_is sum now f le well there =
    let mine : positions_of (tree_of x n r) ≡ own = own_is (tree_holds x n r at now well) in
    let was : fin.len f.tree.stamps ≡ positions_of (tree_of x n r) = ap (λ t. fin.len t.stamps) (file_tree_is x n r at f there) in
    let inode : positions_of x.inode ≡ fin.len (table_told x).inode.stamps = ap (λ t. fin.len t.stamps) (inode_told x) in
    let after : positions_of y.inode ≡ fin.len (rm (table_told x) n s).inode.stamps = ap (λ t. fin.len t.stamps) (inode_told y ∙ ap (λ (t : Table). t.inode) (removes now well)) in
    let long = removed_len now s (table_told x) well n f le (files_told x n ∙ there) in
    omega (arith, mine, was, inode, after, long, sum)

pub as_many : (x : Standing) (n s count same : ℕ) → same ≡ count → TakesByRemoval x n s count → TakesByRemoval x n s same
as_many x n s count same is takes now f le well there = is ∙ takes now f le well there
