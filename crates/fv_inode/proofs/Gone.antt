-- A file that is taken away, to the machine.
use Rattle.std.proofs.Common.{◌≡◌, ◌≢◌, ℕ, ◌+◌, ◌-◌, ◌/◌, ◌^◌, ◌<◌, ◌++◌, ◌&&◌, ◌||◌, not, Bool, true, false, cond, List, [], ◌∷◌, map, filter, flat_map, length, nat_eq, nat_lt, refl, sym, ap, subst, ◌∙◌, arith, ⊎_elim}
use Rattle.std.specs.Prelude.{Option, Some, None, is_some}
use Rattle.std.specs.List.{list_any, range_with_len}
use Rattle.std.specs.Ordering.{nat_cmp, eq_by_cmp}
use Rattle.std.specs.Cmp.{nat_cmp_total}
use Rattle.std.specs.FinMap as fin
use Rattle.std.proofs.lemmas.Bool.{cases_eq, both_ways}
use Rattle.std.proofs.lemmas.Bool.Decides.{nat_tests}
use Rattle.std.proofs.lemmas.List.{append-nil}
use Rattle.fv_codec.specs.declared.pointer.Pointer.{Pointer}
use Rattle.fv_model.specs.Trees.{fan, Spot, Tree, levels_with, spots_over, spots_grown, holds_one, stamp_spots, written, written_spots, erased}
use Rattle.fv_model.specs.Tables.{File, inode_cell, rm}
use Rattle.fv_laws.specs.WellFormed.{IsTree}
use Rattle.fv_laws.proofs.Lists.{In, in_map, from_map, any_in, in_any}
use Rattle.fv_laws.proofs.Tables.{key_there, there_key}
use Rattle.fv_tables.specs.Spelled.{Rooted, pointer_at, stamp_in}
use Rattle.fv_tables.specs.Told.{records_each, tree_told, cells_told, file_at, Standing, file_in, table_told}
use Rattle.fv_tables.proofs.Tables.{stamps_told, files_told}
use Rattle.fv_tree.specs.Erasing.{StandsAt, IsGrownFrom, Erases}
use Rattle.fv_tree.proofs.Erased.{no_choice, stamp_there}
use Rattle.fv_inode.specs.Changing.{Rewrites, HasNeighbor, Takes}
use Rattle.fv_inode.proofs.Slots.{cell_within, block_there, cell_there}
use Rattle.fv_laws.proofs.Orders.{spot_total, spot_ties}
use Rattle.fv_inode.proofs.Machines.{shown, shown_tree, rewritten}
use Rattle.fv_inode.proofs.Placed.{KeepsOthers}
use Rattle.fv_inode.proofs.Told.{same_test, inode_told, take_file, files_in, in_is, has_file}
use Rattle.fv_inode.proofs.Grown.{any_true, and_true, some_of, stands_cell, grown_tree}

-- ---- elements of lists

some_in : (x : ℕ) (xs : List ℕ) → In x xs → nat_eq (length xs) 0 ≡ false
some_in x [] h = absurd h
some_in x (y ∷ ys) h = grind (arith, nat_tests)

pub same_tests : (i : ℕ) (xs : List ℕ) → list_any (nat_eq i) xs ≡ list_any (eq_by_cmp nat_cmp i) xs
same_tests i xs = λ j. list_any (λ k. sym (same_test i k) j) xs

-- ---- a removal that leaves the cell is a write of it

filter_all : (test : Spot → Bool) (f : ℕ → Spot) (ks : List ℕ) → ((k : ℕ) → test (f k) ≡ true) → filter test (map f ks) ≡ map f ks
filter_all test f [] all = refl
filter_all test f (k ∷ ks) all = ap (λ b. cond b (f k ∷ filter test (map f ks)) (filter test (map f ks))) (all k) ∙ ap (λ (ps : List Spot). f k ∷ ps) (filter_all test f ks all)

none_grown : (any : Bool) (levels : ℕ) → spots_grown any levels levels ≡ []
unfolding spots_grown
none_grown true levels = let none : levels - levels ≡ 0 = omega arith in ap (λ m. map (λ k. (k, 0)) (range_with_len (levels + 1) m)) none
none_grown false levels = refl

module _ (s start c : ℕ) (left : List ℕ) (t : Tree) (low : c < fan ^ t.levels) (there : In c left) (held : (p : Spot) → fin.get t.stamps p ≢ None → holds_one left p ≡ true) where
  levels : levels_with t.levels c ≡ t.levels
  unfolding levels_with
  levels = let test : nat_lt c (fan ^ t.levels) ≡ true = grind (arith, nat_tests, low) in rw test refl

  over : filter (holds_one left) (spots_over t.levels c) ≡ spots_over t.levels c
  unfolding spots_over
  over = filter_all (holds_one left) (λ k. (k, c / fan ^ k)) (range_with_len 0 (t.levels + 1))
      (λ k. any_true (λ i. nat_eq (i / fan ^ k) (c / fan ^ k)) c left there (let own : nat_eq (c / fan ^ k) (c / fan ^ k) ≡ true = grind (arith, nat_tests) in own))

  marks : filter (holds_one left) (flat_map (spots_over t.levels) (c ∷ [])) ≡ written_spots t c
  marks =
      ap (filter (holds_one left)) (append-nil (spots_over t.levels c)) ∙ over
      ∙ sym ((λ i. spots_over (levels i) c ++ spots_grown (nat_lt 0 (fin.len t.stamps)) t.levels (levels i))
      ∙ ap (λ ps. spots_over t.levels c ++ ps) (none_grown (nat_lt 0 (fin.len t.stamps)) t.levels) ∙ append-nil (spots_over t.levels c))

  stays : (p : Spot) (o : Option ℕ) → fin.get t.stamps p ≡ o → cond (holds_one left p) o None ≡ o
  stays p None e = no_choice (holds_one left p)
  stays p (Some v) e = ap (λ b. cond b (Some v) None) (held p (λ none. both_ways (is_some (fin.get t.stamps p)) (ap is_some none) (ap is_some e)))

  kept : fin.retain_keys t.stamps (holds_one left) ≡ t.stamps
  kept = fin.same_map spot_total spot_ties (fin.retain_keys t.stamps (holds_one left)) t.stamps
      (λ p. fin.get-retain_keys t.stamps (holds_one left) p (λ q e. ap (holds_one left) (sym (spot_ties p q e))) ∙ stays p (fin.get t.stamps p) refl)

  pub erased_beside : erased s start (c ∷ []) left t ≡ written s c t
  unfolding erased written
  erased_beside = λ i. record {
    levels = (ap (λ b. cond b start t.levels) (some_in c left there) ∙ sym levels) i;
    stamps = stamp_spots s (marks i) (kept i);
  }

-- ---- the cells of an inode file

-- each cell of an inode file has a file
abbrev pub HasFiles : Rooted → Type 0
HasFiles t = (cell : ℕ) → StandsAt t 0 cell → (n : ℕ) × (n / records_each ≡ cell) × (is_some (file_at t n) ≡ true)

stamped : (p : Pointer) → is_some (stamp_in p) ≡ true → p.stamp ≢ 0
stamped p some none = let test : stamp_in p ≡ None = rw none refl in both_ways (is_some (stamp_in p)) (ap is_some test) some

record IsValue {X : Type 0} (o : Option X) : Type 0 where
  value : X
  is : o ≡ Some value

value_of : {X : Type 0} (o : Option X) → is_some o ≡ true → IsValue o
value_of None e = absurd (grind (arith, e))
value_of (Some x) e = record { value = x; is = refl }

pub truths : (a b : Bool) → (a ≡ true → b ≡ true) → (b ≡ true → a ≡ true) → a ≡ b
truths true b there back = sym (there refl)
truths false true there back = back refl
truths false false there back = refl

module _ (x y : Standing) (n s : ℕ) (there : is_some (file_at x.inode n) ≡ true) (takes : Takes x.inode y.inode n s) (grown : IsGrownFrom 0 (tree_told x.inode)) (full : HasFiles x.inode) (others : KeepsOthers x y n) where
  abbrev t : Rooted
  t = x.inode

  abbrev left : fin.FinMap nat_cmp File
  left = fin.remove (table_told x).files n

  abbrev cells : List ℕ
  cells = map inode_cell (fin.keys left)

  left_is : (k : ℕ) → is_some (fin.get left k) ≡ is_some (cond (nat_eq k n) None (file_at t k))
  left_is k =
      ap is_some (fin.get-remove nat_cmp_total (table_told x).files n k ∙ (λ i. cond (same_test k n i) None (files_told x k i)))
      ∙ so (nat_eq k n)
    where
      so : (b : Bool) → is_some (cond b None (file_in x k)) ≡ is_some (cond b None (file_at t k))
      so true = refl
      so false = in_is x k

  -- the cell of a file that is left
  stays_in : (k : ℕ) → k ≢ n → is_some (file_at t k) ≡ true → In (inode_cell k) cells
  stays_in k differs some =
      let test : nat_eq k n ≡ false = grind (arith, nat_tests, differs) in
      in_map inode_cell k (fin.keys left) (there_key left k (left_is k ∙ ap (λ b. is_some (cond b None (file_at t k))) test ∙ some))

  record HasLeft (cell : ℕ) : Type 0 where
    number : ℕ
    differs : number ≢ n
    some : is_some (file_at t number) ≡ true
    at : number / 16 ≡ cell

  left_in : (cell : ℕ) → In cell cells → HasLeft cell
  left_in cell h =
      let found = from_map inode_cell cell (fin.keys left) h in
      let has : is_some (cond (nat_eq found.0 n) None (file_at t found.0)) ≡ true = sym (left_is found.0) ∙ key_there left found.0 found.1 in
      so found.0 found.2 (nat_eq found.0 n) refl has
    where
      so : (k : ℕ) → k / 16 ≡ cell → (b : Bool) → nat_eq k n ≡ b → is_some (cond b None (file_at t k)) ≡ true → HasLeft cell
      so k at true test has = absurd (grind (arith, has))
      so k at false test has = record { number = k; differs = λ e. both_ways (nat_eq k n) test (let yes : nat_eq k n ≡ true = grind (arith, nat_tests, e) in yes); some = has; at = at }

  -- the cell of a file stands
  file_stands : (k : ℕ) → is_some (file_at t k) ≡ true → is_some (stamp_in (pointer_at t 0 (k / 16))) ≡ true
  file_stands k some = cell_there t (k / 16) (block_there t k some)

  seen_at : (level place : ℕ) → is_some (fin.get (tree_told t).stamps (level, place)) ≡ is_some (stamp_in (pointer_at t level place))
  seen_at level place = ap is_some (stamps_told t level place)

  -- ---- while another file is beside it

  beside_in : HasNeighbor t n → In (n / 16) cells
  beside_in has = subst (λ c. In c cells) has.beside (stays_in has.other has.apart (ap is_some has.there))

  cell_in : HasNeighbor t n → (cell : ℕ) → StandsAt t 0 cell → In cell cells
  cell_in has cell stands = let file = full cell stands in ⊎_elim
      (λ (same : file.0 ≡ n). subst (λ c. In c cells) (sym (ap (λ m. m / 16) same) ∙ file.1) (beside_in has))
      (λ differs. subst (λ c. In c cells) file.1 (stays_in file.0 differs file.2))
      (cases_eq file.0 n)

  all_held : HasNeighbor t n → (p : Spot) → fin.get (tree_told t).stamps p ≢ None → holds_one cells p ≡ true
  all_held has p some =
      let under = grown.marks p.0 p.1 some in
      let stands : StandsAt t 0 under.0 = stamped (pointer_at t 0 under.0) (sym (seen_at 0 under.0) ∙ some_of (fin.get (tree_told t).stamps (0, under.0)) under.2) in
      any_true (λ i. nat_eq (i / fan ^ p.0) p.1) under.0 cells (cell_in has under.0 stands) (let at = under.1 in let test : nat_eq (under.0 / fan ^ p.0) p.1 ≡ true = grind (arith, nat_tests, at) in test)

  with_neighbor : HasNeighbor t n → Rewrites t y.inode n s None → tree_told y.inode ≡ erased s 0 (inode_cell n ∷ []) cells (tree_told t)
  unfolding tree_told
  with_neighbor has rewrites = rewritten t y.inode n s None rewrites ∙ sym (erased_beside s 0 (n / 16) cells (tree_told t) (cell_within t n there) (beside_in has) (all_held has))

  -- ---- alone in its inode block

  those : (i : ℕ) → list_any (nat_eq i) (n / 16 ∷ []) ≡ (is_some (fin.get (tree_told t).stamps (0, i)) && nat_eq (n / 16) i)
  those i = ⊎_elim
      (λ (same : i ≡ n / 16).
      let test : nat_eq i (n / 16) ≡ true = grind (arith, nat_tests, same) in
      let back : nat_eq (n / 16) i ≡ true = grind (arith, nat_tests, same) in
      let some : is_some (fin.get (tree_told t).stamps (0, i)) ≡ true = ap (λ c. is_some (fin.get (tree_told t).stamps (0, c))) same ∙ seen_at 0 (n / 16) ∙ file_stands n there in
      ap (λ b. b || false) test ∙ sym (λ j. some j && back j))
      (λ (differs : i ≢ n / 16).
      let test : nat_eq i (n / 16) ≡ false = grind (arith, nat_tests, differs) in
      let back : nat_eq (n / 16) i ≡ false = grind (arith, nat_tests, differs) in
      ap (λ b. b || false) test ∙ sym (ap (λ b. is_some (fin.get (tree_told t).stamps (0, i)) && b) back ∙ nothing (is_some (fin.get (tree_told t).stamps (0, i)))))
      (cases_eq i (n / 16))
    where
      nothing : (b : Bool) → (b && false) ≡ false
      nothing true = refl
      nothing false = refl

  rest : (HasNeighbor t n → ⊥) → (i : ℕ) → list_any (nat_eq i) cells ≡ (is_some (fin.get (tree_told t).stamps (0, i)) && not (nat_eq (n / 16) i))
  rest alone i = same_tests i cells ∙ truths (list_any (eq_by_cmp nat_cmp i) cells) _
      (λ e.
      let has = left_in i (any_in fin.nat_cmp-IsAntisymmetric i cells e) in
      let some : is_some (fin.get (tree_told t).stamps (0, i)) ≡ true = seen_at 0 i ∙ ap (λ c. is_some (stamp_in (pointer_at t 0 c))) (sym has.at) ∙ file_stands has.number has.some in
      let apart : n / 16 ≢ i = λ same. alone (let v = value_of (file_at t has.number) has.some in record { other = has.number; file = v.value; apart = has.differs; beside = has.at ∙ sym same; there = v.is }) in
      let test : nat_eq (n / 16) i ≡ false = grind (arith, nat_tests, apart) in
      (λ j. some j && not (test j)))
      (λ e.
      let both = and_true (is_some (fin.get (tree_told t).stamps (0, i))) (not (nat_eq (n / 16) i)) e in
      let file = full i (stamped (pointer_at t 0 i) (sym (seen_at 0 i) ∙ both.0)) in
      let at = file.1 in
      let differs : file.0 ≢ n = λ same. unlike (nat_eq (n / 16) i) both.1 (let here : n / 16 ≡ i = sym (ap (λ m. m / 16) same) ∙ at in let test : nat_eq (n / 16) i ≡ true = grind (arith, nat_tests, here) in test) in
      in_any nat_cmp_total i cells (subst (λ c. In c cells) at (stays_in file.0 differs file.2)))
    where
      unlike : (b : Bool) → not b ≡ true → b ≡ true → ⊥
      unlike true e is = both_ways true (sym e) is
      unlike false e is = both_ways false refl is

  by_itself : (HasNeighbor t n → ⊥) → Erases t y.inode (nat_eq (n / 16)) 0 s → tree_told y.inode ≡ erased s 0 (inode_cell n ∷ []) cells (tree_told t)
  by_itself alone erases =
      let contents = fin.remove (cells_told t) (n / 16) in
      sym (shown_tree y.inode (erased s 0 (n / 16 ∷ []) cells (tree_told t)) contents
      (erases (tree_told t) (cells_told t) contents (n / 16 ∷ []) cells (shown t) grown (record { those = those; rest = rest alone })
      (λ i. fin.get-remove nat_cmp_total (cells_told t) (n / 16) i ∙ (let turned : eq_by_cmp nat_cmp i (n / 16) ≡ nat_eq (n / 16) i = grind (arith, nat_tests) in ap (λ b. cond b None (fin.get (cells_told t) i)) turned))))

  tree : tree_told y.inode ≡ erased s 0 (inode_cell n ∷ []) cells (tree_told t)
  tree = ⊎_elim (λ beside. with_neighbor beside.0 beside.1) (λ alone. by_itself alone.0 alone.1) takes.tree

  -- A file that is taken away is the machine's removal of it.
  pub removed_told : table_told y ≡ rm (table_told x) n s
  unfolding rm
  removed_told = take_file x y n (erased s 0 (inode_cell n ∷ []) cells (table_told x).inode) (files_in x y n None takes.files others) (tree ∙ ap (erased s 0 (inode_cell n ∷ []) cells) (inode_told x))

-- ---- of a well-formed table

module _ (x : Standing) (now : ℕ) (is : IsTree now 0 (map inode_cell (fin.keys (table_told x).files)) (table_told x).inode) where
  all_full : HasFiles x.inode
  all_full cell stands =
      let seen : is_some (fin.get (table_told x).inode.stamps (0, cell)) ≡ true = ap (λ (t : Tree). is_some (fin.get t.stamps (0, cell))) (sym (inode_told x)) ∙ ap is_some (stamps_told x.inode 0 cell ∙ stamp_there (pointer_at x.inode 0 cell) stands) in
      let found = from_map inode_cell cell (fin.keys (table_told x).files) (stands_cell now 0 (map inode_cell (fin.keys (table_told x).files)) (table_told x).inode is cell seen) in
      (found.0, found.2, sym (has_file x found.0) ∙ key_there (table_told x).files found.0 found.1)

  -- A file that is taken away from a well-formed table is the machine's removal of it.
  pub removed_well : (y : Standing) (n s : ℕ) → is_some (file_at x.inode n) ≡ true → Takes x.inode y.inode n s → KeepsOthers x y n → table_told y ≡ rm (table_told x) n s
  removed_well y n s there takes others =
      removed_told x y n s there takes (subst (IsGrownFrom 0) (sym (inode_told x)) (grown_tree now 0 (map inode_cell (fin.keys (table_told x).files)) (table_told x).inode is)) all_full others
