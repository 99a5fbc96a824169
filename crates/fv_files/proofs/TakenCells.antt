-- What a removal takes by the pointers of a table's trees is what the machine's takes.
use Rattle.std.proofs.Common.{◌≡◌, ◌≢◌, ℕ, ◌+◌, ◌-◌, ◌*◌, ◌/◌, ◌^◌, Bool, true, false, not, ◌&&◌, nat_le, nat_lt, nat_eq, List, [], ◌∷◌, map, inl, inr, Option, Some, None, is_some, refl, sym, ap, subst, ◌∙◌, arith, ⊎_elim, cond}
use Rattle.std.specs.Prelude.{count_by, sum_by}
use Rattle.std.specs.List.{range_with_len}
use Rattle.std.specs.Option.{option_map}
use Rattle.std.specs.Ordering.{nat_cmp, eq_by_cmp}
use Rattle.std.specs.Cmp.{nat_cmp_total}
use Rattle.std.specs.FinMap as fin
use Rattle.std.proofs.lemmas.Bool.{both_ways}
use Rattle.std.proofs.lemmas.Bool.Decides.{nat_tests}
use Rattle.fv_codec.specs.declared.inode.InodeRecord.{InodeRecord}
use Rattle.fv_model.specs.Trees as trees
use Rattle.fv_model.specs.Trees.{fan, least_levels, holds_one}
use Rattle.fv_model.specs.Tables.{File, inode_cell}
use Rattle.fv_model.specs.Places.{OfFile, placed}
use Rattle.fv_model.specs.Volumes.{Volume}
use Rattle.fv_laws.specs.WellFormed.{IsTree, IsWellTable}
use Rattle.fv_laws.specs.Positions.{cells_cut, cells_left, staying, taken_by_cut, taken_by_rm, taken_over}
use Rattle.fv_laws.specs.Paths.{cut_path}
use Rattle.fv_laws.specs.Settled.{is_settled, settled_with}
use Rattle.fv_laws.proofs.Lists.{In, in_map, from_map, in_filter, from_filter}
use Rattle.fv_laws.proofs.Levels.{from_holds, holds}
use Rattle.fv_laws.proofs.Moves.{all_cut, part_cut}
use Rattle.fv_laws.proofs.Ranges.{counted_none, counted_same}
use Rattle.fv_laws.proofs.SettledCells.{cut_levels, cut_staying, rm_levels}
use Rattle.fv_laws.proofs.Tables.{key_there, there_key, kept_key, left_key}
use Rattle.fv_laws.proofs.Tests.{iff}
use Rattle.fv_tables.specs.Spelled.{Under, Rooted, pointer_at, stored}
use Rattle.fv_tables.specs.Told.{tree_told, file_at, Standing, tree_of, tree_or, file_in, table_told}
use Rattle.fv_tables.proofs.Tables.{files_told}
use Rattle.fv_tree.specs.Erasing.{StandsAt, HoldsCells}
use Rattle.fv_tree.specs.Counting.{is_staying, staying_at}
use Rattle.fv_tree.specs.Flushing.{Loaded, loaded_over, loaded}
use Rattle.fv_tree.specs.Standing.{standing, under}
use Rattle.fv_tree.specs.Taking.{has_cell, is_gone, is_staying_with, counted_under, gone_with, staying_with}
use Rattle.fv_tree.proofs.Spans.{sum_none, sum_same}
use Rattle.fv_tree.specs.declared.kept.Tree.{Tree}
use Rattle.fv_tree.specs.declared.taken.Taken.{Taken}
use Rattle.fv_tree.specs.Beside.{unread}
use Rattle.fv_tree.specs.Costs.{pending}
use Rattle.fv_tree.specs.Sources.{Shown}
use Rattle.fv_tree.proofs.Stays.{unchanged}
use Rattle.fv_tree.proofs.Taking.{all_stay, has_at, has_some, stands_test, test_stands}
use Rattle.fv_inode.specs.Changing.{HasNeighbor}
use Rattle.fv_inode.specs.Losing.{IsLost}
use Rattle.fv_inode.proofs.Grown.{cell_stands, grown_tree, stands_cell}
use Rattle.fv_inode.proofs.Told.{has_file, inode_told}
use Rattle.fv_files.specs.declared.files.Files.{Files}
use Rattle.fv_inode.specs.declared.info.Info.{Info}
use Rattle.fv_files.specs.Tables.{changed, loaded_trees, table_in, tree_in, tree_known, IsInfoOf}
use Rattle.fv_files.specs.Trees.{standing_in}
use Rattle.fv_files.specs.Sharing.{staying_in, staying_of, SettlesShared}
use Rattle.fv_files.specs.Taking.{staying_by_cut, staying_where, CutTakes, RemovalTakes}
use Rattle.fv_files.proofs.Counted.{tree_holds}
use Rattle.fv_files.specs.Right.{known_loaded}
use Rattle.fv_files.proofs.Stays.{known_is}
use Rattle.fv_files.proofs.Tables.{known_tree}
use Rattle.fv_files.proofs.Adding.{file_tree_is, grown_holds, stands_is}
use Rattle.fv_files.proofs.Settled.{here, levels_are, over_inode, own, tree_is}

-- ---- level by level

by_levels : (test goes : ℕ → ℕ → Bool) (levels : ℕ) → ((k p : ℕ) → test k p ≡ goes k p)
    → counted_under test levels 0 ≡ sum_by (λ k. count_by (goes k) (range_with_len 0 (fan ^ (levels - k)))) (range_with_len 0 (levels + 1))
unfolding counted_under
by_levels test goes levels same =
    sum_same (λ k. count_by (test k) (range_with_len (0 * fan ^ (levels - k)) (fan ^ (levels - k)))) (λ k. count_by (goes k) (range_with_len 0 (fan ^ (levels - k)))) 0 (levels + 1) (λ k low high. each k)
  where
    each : (k : ℕ) → count_by (test k) (range_with_len (0 * fan ^ (levels - k)) (fan ^ (levels - k))) ≡ count_by (goes k) (range_with_len 0 (fan ^ (levels - k)))
    each k =
        let start : 0 * fan ^ (levels - k) ≡ 0 = omega arith in
        ap (λ a. count_by (test k) (range_with_len a (fan ^ (levels - k)))) start
        ∙ counted_same (test k) (goes k) 0 (fan ^ (levels - k)) (λ p low high. same k p)

-- cells of a tree, told by a list
record AreCells (t : Rooted) (which : ℕ → Bool) (cells : List ℕ) : Type 0 where
  stands : (i : ℕ) → In i cells → StandsAt t 0 i
  passes : (i : ℕ) → In i cells → which i ≡ true
  all : (i : ℕ) → StandsAt t 0 i → which i ≡ true → In i cells

has_those : (t : Rooted) (which : ℕ → Bool) (cells : List ℕ) → AreCells t which cells → (k p : ℕ) → has_cell t which k p ≡ holds_one cells (k, p)
has_those t which cells are k p = iff (has_cell t which k p) (holds_one cells (k, p))
    (λ e. let one = has_at t which k p e in holds cells (k, p) one.0 (are.all one.0 one.1.1 one.1.2) one.1.0)
    (λ e. let cell = from_holds cells (k, p) e in has_some t which k p cell.0 cell.2 (are.stands cell.0 cell.1) (are.passes cell.0 cell.1))

gone_is : (t : Rooted) (goes : ℕ → Bool) (gone left : List ℕ) → AreCells t goes gone → AreCells t (λ i. not (goes i)) left → gone_with t goes ≡ taken_over t.levels gone left
gone_is t goes gone left are others = by_levels (is_gone t goes) (λ k p. holds_one gone (k, p) && not (holds_one left (k, p))) t.levels
    (λ k p j. has_those t goes gone are k p j && not (has_those t (λ i. not (goes i)) left others k p j))

-- ---- a file

told_levels : (t : Rooted) → (tree_told t).levels ≡ t.levels
unfolding tree_told
told_levels t = refl

module _ (x : Standing) (n : ℕ) (r : InodeRecord) (at : file_at x.inode n ≡ Some r) (now : ℕ) (f : File) (well : IsWellTable now (table_told x)) (there : file_in x n ≡ Some f) where
  abbrev t : Rooted
  t = tree_of x n r

  told : f.tree ≡ tree_told t
  told = file_tree_is x n r at f there

  in_table : fin.get (table_told x).files n ≡ Some f
  in_table = files_told x n ∙ there

  levels : f.tree.levels ≡ t.levels
  levels = ap (λ (u : trees.Tree). u.levels) told ∙ told_levels t

  stamp_is : (i : ℕ) → fin.contains_key f.tree.stamps (0, i) ≡ not (nat_eq (pointer_at t 0 i).stamp 0)
  stamp_is i = ap (λ (u : trees.Tree). fin.contains_key u.stamps (0, i)) told ∙ stands_is t 0 i

  stands_key : (i : ℕ) → StandsAt t 0 i → In i (fin.keys f.blocks)
  stands_key i stands = stands_cell now (least_levels f.reserve) (fin.keys f.blocks) f.tree (well.files n f in_table).tree i (stamp_is i ∙ stands_test t i stands)

  key_stands : (i : ℕ) → In i (fin.keys f.blocks) → StandsAt t 0 i
  key_stands i key = test_stands t i (sym (stamp_is i) ∙ cell_stands now (least_levels f.reserve) (fin.keys f.blocks) f.tree (well.files n f in_table).tree i key)

  cut_cells : (length : ℕ) → AreCells t (nat_le length) (cells_cut f length)
  cut_cells length = record {
    stands = λ i one. key_stands i (from_filter (λ i. nat_le length i) i (fin.keys f.blocks) one).0;
    passes = λ i one. (from_filter (λ i. nat_le length i) i (fin.keys f.blocks) one).1;
    all = λ i stands goes. in_filter (λ i. nat_le length i) i (fin.keys f.blocks) (stands_key i stands) goes;
  }

  left_cells : (length : ℕ) → AreCells t (λ i. not (nat_le length i)) (cells_left f length)
  left_cells length = record {
    stands = λ i one. key_stands i (part_cut now now (table_told x) well f length i one);
    passes = λ i one. let below : nat_lt i length ≡ true = (kept_key f.blocks (λ i. nat_lt i length) i one).0 in let no : nat_le length i ≡ false = grind (arith, nat_tests, below) in ap not no;
    all = λ i stands stays. ⊎_elim (λ left. left) (λ cut. absurd (both_ways (nat_le length i) (not_true (nat_le length i) stays) (from_filter (λ i. nat_le length i) i (fin.keys f.blocks) cut).1))
        (all_cut now now (table_told x) well f length i (stands_key i stands));
  }
    where
      not_true : (b : Bool) → not b ≡ true → b ≡ false
      not_true false e = refl
      not_true true e = sym e

  -- A cut takes so many of its places.
  pub cut_gone : (length : ℕ) → gone_with t (nat_le length) ≡ taken_by_cut f length
  cut_gone length = gone_is t (nat_le length) (cells_cut f length) (cells_left f length) (cut_cells length) (left_cells length)
      ∙ ap (λ l. taken_over l (cells_cut f length) (cells_left f length)) (sym levels) ∙ sym (cut_levels (table_told x) now well n f in_table length)

  -- A removal takes all.
  pub file_gone : gone_with t (nat_le 0) ≡ taken_over f.tree.levels (fin.keys f.blocks) []
  file_gone = gone_is t (nat_le 0) (fin.keys f.blocks) [] (record { stands = key_stands; passes = λ i one. every i; all = λ i stands goes. stands_key i stands })
      (record { stands = λ i one. absurd one; passes = λ i one. absurd one; all = λ i stands stays. absurd (both_ways (not (nat_le 0 i)) (ap not (every i)) stays) })
      ∙ ap (λ l. taken_over l (fin.keys f.blocks) []) (sym levels)
    where
      every : (i : ℕ) → nat_le 0 i ≡ true
      every i = grind (arith, nat_tests)

-- ---- the inode file

module _ (x : Standing) (n : ℕ) (now : ℕ) (f : File) (well : IsWellTable now (table_told x)) (there : file_in x n ≡ Some f) where
  abbrev files : fin.FinMap nat_cmp File
  files = (table_told x).files

  abbrev others : List ℕ
  others = map inode_cell (fin.keys (fin.remove files n))

  file_there : is_some (fin.get files n) ≡ true
  file_there = ap is_some (files_told x n ∙ there)

  inode_stamp : (i : ℕ) → fin.contains_key (table_told x).inode.stamps (0, i) ≡ not (nat_eq (pointer_at x.inode 0 i).stamp 0)
  inode_stamp i = ap (λ (u : trees.Tree). fin.contains_key u.stamps (0, i)) (sym (inode_told x)) ∙ stands_is x.inode 0 i

  stands_file : (i : ℕ) → StandsAt x.inode 0 i → In i (map inode_cell (fin.keys files))
  stands_file i stands = stands_cell now 0 (map inode_cell (fin.keys files)) (table_told x).inode well.inode i (inode_stamp i ∙ stands_test x.inode i stands)

  file_stands : (i : ℕ) → In i (map inode_cell (fin.keys files)) → StandsAt x.inode 0 i
  file_stands i one = test_stands x.inode i (sym (inode_stamp i) ∙ cell_stands now 0 (map inode_cell (fin.keys files)) (table_told x).inode well.inode i one)

  -- the files that are left
  other_file : (m : ℕ) → In m (fin.keys (fin.remove files n)) → m ≢ n
  other_file m one same = both_ways (is_some (fin.get (fin.remove files n) m))
      (ap is_some (fin.get-remove nat_cmp_total files n m) ∙ (let test : eq_by_cmp nat_cmp m n ≡ true = grind (arith, nat_tests, same) in ap (λ b. is_some (cond b None (fin.get files m))) test))
      (key_there (fin.remove files n) m one)

  left_file : (m : ℕ) → In m (fin.keys files) → m ≢ n → In m (fin.keys (fin.remove files n))
  left_file m one differs = there_key (fin.remove files n) m
      (ap is_some (fin.get-remove nat_cmp_total files n m) ∙ (let test : eq_by_cmp nat_cmp m n ≡ false = grind (arith, nat_tests, differs) in ap (λ b. is_some (cond b None (fin.get files m))) test) ∙ key_there files m one)

  neighbor : (m : ℕ) → In m (fin.keys (fin.remove files n)) → inode_cell m ≡ inode_cell n → HasNeighbor x.inode n
  neighbor m one beside = so (file_at x.inode m) refl (sym (has_file x m) ∙ key_there files m (left_key files n m one))
    where
      so : (o : Option InodeRecord) → file_at x.inode m ≡ o → is_some (file_at x.inode m) ≡ true → HasNeighbor x.inode n
      so None is some = absurd (both_ways (is_some (file_at x.inode m)) (ap is_some is) some)
      so (Some r) is some = record { other = m; file = r; apart = other_file m one; beside = beside; there = is }

  beside_in : HasNeighbor x.inode n → In (inode_cell n) others
  beside_in has = subst (λ c. In c others) has.beside (in_map inode_cell has.other (fin.keys (fin.remove files n)) (left_file has.other (there_key files has.other (has_file x has.other ∙ ap is_some has.there)) has.apart))

  own_cell : (HasNeighbor x.inode n → ⊥) → AreCells x.inode (nat_eq (inode_cell n)) (inode_cell n ∷ [])
  own_cell alone = record {
    stands = λ i one. file_stands i (own_in i one);
    passes = λ i one. same i one;
    all = λ i stands goes. inl (let e : inode_cell n ≡ i = grind (arith, nat_tests, goes) in e);
  }
    where
      own_in : (i : ℕ) → In i (inode_cell n ∷ []) → In i (map inode_cell (fin.keys files))
      own_in i (inl e) = subst (λ c. In c (map inode_cell (fin.keys files))) e (in_map inode_cell n (fin.keys files) (there_key files n file_there))
      own_in i (inr h) = absurd h

      same : (i : ℕ) → In i (inode_cell n ∷ []) → nat_eq (inode_cell n) i ≡ true
      same i (inl e) = grind (arith, nat_tests, e)
      same i (inr h) = absurd h

  other_cells : (HasNeighbor x.inode n → ⊥) → AreCells x.inode (λ i. not (nat_eq (inode_cell n) i)) others
  other_cells alone = record {
    stands = λ i one. let m = from_map inode_cell i (fin.keys (fin.remove files n)) one in
        file_stands i (subst (λ c. In c (map inode_cell (fin.keys files))) m.2 (in_map inode_cell m.0 (fin.keys files) (left_key files n m.0 m.1)));
    passes = λ i one.
        let m = from_map inode_cell i (fin.keys (fin.remove files n)) one in
        let differs : inode_cell n ≢ i = λ e. alone (neighbor m.0 m.1 (m.2 ∙ sym e)) in
        let test : nat_eq (inode_cell n) i ≡ false = grind (arith, nat_tests, differs) in
        ap not test;
    all = λ i stands stays.
        let m = from_map inode_cell i (fin.keys files) (stands_file i stands) in
        let differs : m.0 ≢ n = λ e. unlike (nat_eq (inode_cell n) i) stays (let same : inode_cell n ≡ i = sym (ap inode_cell e) ∙ m.2 in let test : nat_eq (inode_cell n) i ≡ true = grind (arith, nat_tests, same) in test) in
        subst (λ c. In c others) m.2 (in_map inode_cell m.0 (fin.keys (fin.remove files n)) (left_file m.0 m.1 differs));
  }
    where
      unlike : (b : Bool) → not b ≡ true → b ≡ true → ⊥
      unlike true e is = both_ways true (sym e) is
      unlike false e is = both_ways false refl is

  -- with another file beside it nothing goes
  none_goes : HasNeighbor x.inode n → taken_over x.inode.levels (inode_cell n ∷ []) others ≡ 0
  none_goes has =
      sum_same (λ k. count_by (λ p. holds_one (inode_cell n ∷ []) (k, p) && not (holds_one others (k, p))) (range_with_len 0 (fan ^ (x.inode.levels - k)))) (λ k. 0) 0 (x.inode.levels + 1)
      (λ k low high. counted_none (λ p. holds_one (inode_cell n ∷ []) (k, p) && not (holds_one others (k, p))) 0 (fan ^ (x.inode.levels - k)) (λ p least most. none k p (holds_one (inode_cell n ∷ []) (k, p)) refl))
      ∙ sum_none (range_with_len 0 (x.inode.levels + 1))
    where
      covers : (k p : ℕ) (i : ℕ) → In i (inode_cell n ∷ []) → i / fan ^ k ≡ p → holds_one others (k, p) ≡ true
      covers k p i (inl e) up = holds others (k, p) i (subst (λ c. In c others) e (beside_in has)) up
      covers k p i (inr h) up = absurd h

      none : (k p : ℕ) (b : Bool) → holds_one (inode_cell n ∷ []) (k, p) ≡ b → (holds_one (inode_cell n ∷ []) (k, p) && not (holds_one others (k, p))) ≡ false
      none k p false e = ap (λ b. b && not (holds_one others (k, p))) e
      none k p true e =
          let cell = from_holds (inode_cell n ∷ []) (k, p) e in
          (λ j. e j && not (covers k p cell.0 cell.1 cell.2 j))

  inode_levels : x.inode.levels ≡ (table_told x).inode.levels
  inode_levels = sym (told_levels x.inode) ∙ ap (λ (u : trees.Tree). u.levels) (inode_told x)

  -- What goes of the inode file with the file.
  pub inode_gone : (count : ℕ) → IsLost x.inode n count → count ≡ taken_over (table_told x).inode.levels (inode_cell n ∷ []) others
  inode_gone count (inl beside) = beside.1 ∙ sym (none_goes beside.0) ∙ ap (λ l. taken_over l (inode_cell n ∷ []) others) inode_levels
  inode_gone count (inr alone) = alone.1 ∙ gone_is x.inode (nat_eq (inode_cell n)) (inode_cell n ∷ []) others (own_cell alone.0) (other_cells alone.0) ∙ ap (λ l. taken_over l (inode_cell n ∷ []) others) inode_levels

  -- So the removal of a file takes what goes of its tree, and of the inode file.
  pub removal_gone : (its count : ℕ) → its ≡ taken_over f.tree.levels (fin.keys f.blocks) [] → IsLost x.inode n count → its + count ≡ taken_by_rm (table_told x) n f
  removal_gone its count of_file lost = (λ j. of_file j + inode_gone count lost j) ∙ sym (rm_levels (table_told x) now well n f (files_told x n ∙ there))

-- no mark of the inode file of a well-formed table lies over holes alone
pub inode_holds : (x : Standing) (now : ℕ) → IsWellTable now (table_told x) → HoldsCells x.inode
inode_holds x now well = grown_holds x.inode 0 (grown_tree now 0 (map inode_cell (fin.keys (table_told x).files)) (tree_told x.inode)
    (subst (IsTree now 0 (map inode_cell (fin.keys (table_told x).files))) (sym (inode_told x)) well.inode))

-- ---- what stays charged

module _ (x : Volume) (blocks : Under) (g : Files) (shared : ℕ → Bool) (told_is : x.active ≡ table_told (standing_in blocks (changed g))) (are : SettlesShared x (loaded_trees blocks g) shared)
    (n : ℕ) (r : InodeRecord) (at : file_at (standing blocks g.inode.tree) n ≡ Some r) (file : File) (there : fin.get x.active.files n ≡ Some file) (now : ℕ) (well : IsWellTable now x.active) where
  abbrev its_table : Standing
  its_table = standing_in blocks (changed g)

  abbrev its_tree : Loaded
  its_tree = own x blocks g shared told_is are n r at file there

  there_here : file_in its_table n ≡ Some file
  there_here = sym (files_told its_table n) ∙ ap (λ t. fin.get t.files n) (sym told_is) ∙ there

  tree_same : its_tree.tree ≡ tree_of its_table n r
  tree_same = tree_is x blocks g shared told_is are n r at file there (tree_in g n)

  abbrev gone_cells : ℕ → List ℕ
  gone_cells length = cells_cut file length

  same_cells : (length k p : ℕ) → has_cell its_tree.tree (nat_le length) k p ≡ holds_one (gone_cells length) (k, p)
  same_cells length k p = ap (λ (t : Rooted). has_cell t (nat_le length) k p) tree_same
      ∙ has_those (tree_of its_table n r) (nat_le length) (gone_cells length) (cut_cells its_table n r at now file (subst (IsWellTable now) told_is well) there_here length) k p

  same_stays : (k p : ℕ) → is_staying its_tree shared k p ≡ is_settled x (placed (OfFile n) (k, p))
  same_stays k p = sym (are.each (Some n) its_tree (here x blocks g shared told_is are n r at file there) k p)

  over_cut : (length : ℕ) → staying_where (loaded_trees blocks g (Some n)) shared (nat_le length) ≡ settled_with x (OfFile n) file.tree.levels (gone_cells length)
  over_cut length = ap (λ o. staying_where o shared (nat_le length)) (here x blocks g shared told_is are n r at file there)
      ∙ by_levels (is_staying_with its_tree shared (nat_le length)) (λ k p. holds_one (gone_cells length) (k, p) && is_settled x (placed (OfFile n) (k, p))) its_tree.tree.levels
      (λ k p j. same_cells length k p j && same_stays k p j)
      ∙ ap (λ l. settled_with x (OfFile n) l (gone_cells length)) (sym (levels_are x blocks g shared told_is are n r at file there))

  -- By a cut of the file so many blocks stay charged as it leaves ids charged.
  pub cut_stays : (length : ℕ) → staying_by_cut (loaded_trees blocks g) shared n length ≡ staying x (cut_path x.active n file length)
  cut_stays length = (λ j. over_cut length j + over_inode x blocks g shared told_is are n j) ∙ sym (cut_staying x now well n file there length)

-- ---- what the calls of a table tell

with_unread : (blocks : Under) (t : Tree) (shared : ℕ → Bool) (goes : ℕ → Bool) → pending t ≡ 0 → staying_with (loaded_over blocks t) shared goes ≡ staying_with (unread (standing blocks t)) shared goes
unfolding counted_under
with_unread blocks t shared goes none = λ j. staying_with (record { tree = standing blocks t; changed = λ level place. unchanged t none level place j; placed = λ level place. true }) shared goes

-- those of a file whose tree isn't in memory
pub stored_with : (blocks : Under) (f : Files) (info : Info) (t : Tree) (shared : ℕ → Bool) (goes : ℕ → Bool) (count : ℕ) → IsInfoOf (standing blocks f.inode.tree) info → tree_in f info.number ≡ None
    → standing blocks t ≡ stored blocks info.number info.levels info.root → pending t ≡ 0 → count ≡ staying_with (loaded_over blocks t) shared goes → count ≡ staying_where (loaded_trees blocks f (Some info.number)) shared goes
stored_with blocks f info t shared goes count is held stands none counts =
    counts ∙ with_unread blocks t shared goes none ∙ ap (λ s. staying_with (unread s) shared goes) stands ∙ ap (λ o. staying_where o shared goes) (sym (known_is blocks f info None is held))

pub cut_takes : (source : Shown) (f : Files) (info : Info) (shared : ℕ → Bool) (length : ℕ) (tree : Taken) (inode : ℕ) (taken : Taken) → IsInfoOf (standing (under source) f.inode.tree) info
    → (HoldsCells (tree_known (table_in source f) info) → tree.gone ≡ gone_with (tree_known (table_in source f) info) (nat_le length))
    → (HoldsCells (tree_known (table_in source f) info) → tree.staying ≡ staying_where (loaded_trees (under source) f (Some info.number)) shared (nat_le length))
    → inode ≡ staying_in (loaded_trees (under source) f None) shared (inode_cell info.number) → taken.gone ≡ tree.gone → taken.staying ≡ tree.staying + inode
    → CutTakes (table_in source f) (loaded_trees (under source) f) shared info.number length taken
cut_takes source f info shared length tree inode taken is gone stays over gone_is stays_is = record {
  gone = λ now file well there. gone_is ∙ gone (holds now well) ∙ ap (λ t. gone_with t (nat_le length)) (known_tree (table_in source f) info is)
      ∙ cut_gone (table_in source f) info.number is.file is.there now file well there length;
  staying = λ now well. stays_is ∙ (λ j. stays (holds now well) j + over j);
}
  where
    holds : (now : ℕ) → IsWellTable now (table_told (table_in source f)) → HoldsCells (tree_known (table_in source f) info)
    holds now well = subst HoldsCells (sym (known_tree (table_in source f) info is)) (tree_holds (table_in source f) info.number is.file is.there now well)

pub removal_takes : (source : Shown) (f : Files) (info : Info) (shared : ℕ → Bool) (tree inode taken : Taken) → IsInfoOf (standing (under source) f.inode.tree) info
    → (HoldsCells (tree_known (table_in source f) info) → tree.gone ≡ gone_with (tree_known (table_in source f) info) (nat_le 0))
    → (HoldsCells (tree_known (table_in source f) info) → tree.staying ≡ staying_where (loaded_trees (under source) f (Some info.number)) shared (nat_le 0))
    → (HoldsCells (standing (under source) f.inode.tree) → IsLost (standing (under source) f.inode.tree) info.number inode.gone)
    → inode.staying ≡ staying_in (loaded_trees (under source) f None) shared (inode_cell info.number) → taken.gone ≡ tree.gone + inode.gone → taken.staying ≡ tree.staying + inode.staying
    → RemovalTakes (table_in source f) (loaded_trees (under source) f) shared info.number taken
removal_takes source f info shared tree inode taken is gone stays lost over gone_is stays_is = record {
  gone = λ now file well there. gone_is
      ∙ removal_gone (table_in source f) info.number now file well there tree.gone inode.gone
      (gone (holds now well) ∙ ap (λ t. gone_with t (nat_le 0)) (known_tree (table_in source f) info is) ∙ file_gone (table_in source f) info.number is.file is.there now file well there)
      (lost (inode_holds (table_in source f) now well));
  staying = λ now well. stays_is ∙ (λ j. (stays (holds now well) ∙ whole now well) j + over j);
}
  where
    holds : (now : ℕ) → IsWellTable now (table_told (table_in source f)) → HoldsCells (tree_known (table_in source f) info)
    holds now well = subst HoldsCells (sym (known_tree (table_in source f) info is)) (tree_holds (table_in source f) info.number is.file is.there now well)

    kept_tree : (o : Option Tree) → (known_loaded (under source) info o).tree ≡ tree_or (option_map (standing (under source)) o) (stored (under source) info.number info.levels info.root)
    kept_tree None = refl
    kept_tree (Some t) = refl

    whole : (now : ℕ) → IsWellTable now (table_told (table_in source f)) → staying_where (loaded_trees (under source) f (Some info.number)) shared (nat_le 0) ≡ staying_of (loaded_trees (under source) f (Some info.number)) shared
    whole now well =
        let there = known_is (under source) f info (tree_in f info.number) is refl in
        ap (λ o. staying_where o shared (nat_le 0)) there
        ∙ all_stay (known_loaded (under source) info (tree_in f info.number)) shared (subst HoldsCells (sym (kept_tree (tree_in f info.number))) (holds now well))
        ∙ ap (λ o. staying_of o shared) (sym there)

-- as many stay over a source that holds and shares the same
pub staying_same : (t : Tree) (old mid : Shown) (shared shares : ℕ → Bool) (place : ℕ) → mid.held ≡ old.held → ((v : ℕ) → shares v ≡ shared v) → staying_at (loaded mid t) shares place ≡ staying_at (loaded old t) shared place
staying_same t old mid shared shares place held same = λ j. staying_at (loaded_over (λ v. fin.get (held j) v) t) (λ v. same v j) place
