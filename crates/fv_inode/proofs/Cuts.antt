-- Cells that are cut from a file, to the machine.
use Rattle.std.proofs.Common.{◌≡◌, ℕ, ◌&&◌, not, Bool, true, false, cond, List, filter, nat_lt, nat_le, nat_eq, refl, sym, ap, ◌∙◌, arith}
use Rattle.std.specs.Prelude.{Option, Some, None, is_some, take}
use Rattle.std.specs.List.{list_any}
use Rattle.std.specs.Ordering.{nat_cmp, eq_by_cmp}
use Rattle.std.specs.Cmp.{nat_cmp_total}
use Rattle.std.specs.FinMap as fin
use Rattle.std.proofs.lemmas.Bool.Decides.{nat_tests}
use Rattle.fv_codec.specs.declared.inode.InodeRecord.{InodeRecord}
use Rattle.fv_model.specs.Trees.{least_levels, erased, written}
use Rattle.fv_model.specs.Tables.{inode_cell, file_cut, cut}
use Rattle.fv_laws.specs.WellFormed.{IsTree}
use Rattle.fv_laws.proofs.Lists.{in_filter, from_filter, any_in, in_any}
use Rattle.fv_laws.proofs.Tables.{key_there, there_key, kept_key}
use Rattle.fv_tables.specs.Spelled.{Rooted}
use Rattle.fv_tables.specs.Told.{tree_told, cells_told, Standing, tree_of, file_told, table_told}
use Rattle.fv_tree.specs.Standing.{Shows}
use Rattle.fv_tree.specs.Erasing.{Erases}
use Rattle.fv_inode.specs.declared.info.Info.{Info}
use Rattle.fv_inode.specs.Files.{with_info}
use Rattle.fv_inode.specs.Changing.{Rewrites}
use Rattle.fv_inode.proofs.Machines.{shown, shown_tree}
use Rattle.fv_inode.proofs.Placed.{KeepsOthers}
use Rattle.fv_inode.proofs.Told.{shown_cells, changed_told}
use Rattle.fv_inode.proofs.Gone.{same_tests, truths}
use Rattle.fv_inode.proofs.Grown.{and_true, cell_stands, stands_cell, grown_tree}

module _ (t u : Rooted) (now length s : ℕ) (r : InodeRecord) (is : IsTree now (least_levels r.reserve) (fin.keys (cells_told t)) (tree_told t)) (erases : Erases t u (nat_le length) (least_levels r.reserve) s) where
  abbrev all : List ℕ
  all = fin.keys (cells_told t)

  abbrev gone : List ℕ
  gone = filter (λ i. nat_le length i) all

  abbrev left : fin.FinMap nat_cmp (List ℕ)
  left = fin.retain_keys (cells_told t) (λ i. nat_lt i length)

  below : (i : ℕ) → nat_lt i length ≡ not (nat_le length i)
  below i = grind (arith, nat_tests)

  left_get : (i : ℕ) → fin.get left i ≡ cond (nat_lt i length) (fin.get (cells_told t) i) None
  left_get i = fin.get-retain_keys (cells_told t) (λ k. nat_lt k length) i (λ k e. ap (λ k. nat_lt k length) (sym (fin.nat_cmp-IsAntisymmetric i k e)))

  those : (i : ℕ) → list_any (nat_eq i) gone ≡ (is_some (fin.get (tree_told t).stamps (0, i)) && nat_le length i)
  those i = same_tests i gone ∙ truths (list_any (eq_by_cmp nat_cmp i) gone) _
      (λ e.
      let there = from_filter (λ k. nat_le length k) i all (any_in fin.nat_cmp-IsAntisymmetric i gone e) in
      (λ j. cell_stands now (least_levels r.reserve) all (tree_told t) is i there.0 j && there.1 j))
      (λ e.
      let both = and_true (is_some (fin.get (tree_told t).stamps (0, i))) (nat_le length i) e in
      in_any nat_cmp_total i gone (in_filter (λ k. nat_le length k) i all (stands_cell now (least_levels r.reserve) all (tree_told t) is i both.0) both.1))

  rest : (i : ℕ) → list_any (nat_eq i) (fin.keys left) ≡ (is_some (fin.get (tree_told t).stamps (0, i)) && not (nat_le length i))
  rest i = same_tests i (fin.keys left) ∙ truths (list_any (eq_by_cmp nat_cmp i) (fin.keys left)) _
      (λ e.
      let there = kept_key (cells_told t) (λ k. nat_lt k length) i (any_in fin.nat_cmp-IsAntisymmetric i (fin.keys left) e) in
      (λ j. cell_stands now (least_levels r.reserve) all (tree_told t) is i there.1 j && (sym (below i) ∙ there.0) j))
      (λ e.
      let both = and_true (is_some (fin.get (tree_told t).stamps (0, i))) (not (nat_le length i)) e in
      in_any nat_cmp_total i (fin.keys left) (there_key left i
      (ap is_some (left_get i ∙ ap (λ b. cond b (fin.get (cells_told t) i) None) (below i ∙ both.1)) ∙ key_there (cells_told t) i (stands_cell now (least_levels r.reserve) all (tree_told t) is i both.0))))

  turned : (b : Bool) (o : Option (List ℕ)) → cond (not b) o None ≡ cond b None o
  turned true o = refl
  turned false o = refl

  shows : Shows u (erased s (least_levels r.reserve) gone (fin.keys left) (tree_told t)) left
  shows = erases (tree_told t) (cells_told t) left gone (fin.keys left) (shown t) (grown_tree now (least_levels r.reserve) all (tree_told t) is) (record { those = those; rest = rest })
      (λ i. left_get i ∙ ap (λ b. cond b (fin.get (cells_told t) i) None) (below i) ∙ turned (nat_le length i) (fin.get (cells_told t) i))

  pub file_shortened : (info : Info) → info.length ≡ length → info.reserve ≡ r.reserve → file_told u (with_info info r) ≡ file_cut (file_told t r) length s
  unfolding file_told
  file_shortened info long reserve = λ j. record {
    name = take r.name_length r.name;
    length = long j;
    reserve = reserve j;
    blocks = sym (shown_cells u (erased s (least_levels r.reserve) gone (fin.keys left) (tree_told t)) left shows) j;
    tree = sym (shown_tree u (erased s (least_levels r.reserve) gone (fin.keys left) (tree_told t)) left shows) j;
  }

-- A file whose tree lost its cells from a length on, and whose record says the length, is the machine's file after a `cut`.
pub cut_told : (x y : Standing) (n now length s : ℕ) (r : InodeRecord) (info : Info) → Rewrites x.inode y.inode n s (Some (with_info info r)) → info.length ≡ length → info.reserve ≡ r.reserve → KeepsOthers x y n
    → IsTree now (least_levels r.reserve) (fin.keys (cells_told (tree_of x n r))) (tree_told (tree_of x n r)) → Erases (tree_of x n r) (tree_of y n (with_info info r)) (nat_le length) (least_levels r.reserve) s
    → table_told y ≡ cut (table_told x) n (file_told (tree_of x n r) r) length s
unfolding cut
cut_told x y n now length s r info is long reserve others tree erases =
    changed_told x y n s (with_info info r) is others
    ∙ (λ j. record {
      files = fin.insert (table_told x).files n (file_shortened (tree_of x n r) (tree_of y n (with_info info r)) now length s r tree erases info long reserve j);
      inode = written s (inode_cell n) (table_told x).inode;
    })
