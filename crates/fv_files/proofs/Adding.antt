-- How many positions a write adds to a file, by the pointers of its tree.
use Rattle.std.proofs.Common.{◌≡◌, ◌≢◌, ℕ, ◌+◌, ◌-◌, ◌/◌, ◌^◌, ◌<◌, Bool, true, false, cond, not, ◌&&◌, nat_lt, nat_le, List, Option, Some, None, is_some, refl, sym, ap, subst, ◌∙◌, arith}
use Rattle.std.specs.Prelude.{◌==◌, if◌then◌else◌, map}
use Rattle.std.specs.FinMap as fin
use Rattle.std.proofs.Math.Nat.{div-eq_of_lt}
use Rattle.std.proofs.lemmas.Bool.Decides.{nat_tests}
use Rattle.fv_codec.specs.declared.inode.InodeRecord.{InodeRecord}
use Rattle.fv_model.specs.Trees.{fan, Spot, spot_cmp, levels_with, holds_one, least_levels}
use Rattle.fv_model.specs.Tables.{File, inode_cell}
use Rattle.fv_laws.specs.WellFormed.{IsTree, IsWellTable}
use Rattle.fv_laws.specs.Positions.{found_over, added_by}
use Rattle.fv_laws.proofs.Lists.{In}
use Rattle.fv_laws.proofs.Levels.{all_in, from_holds, holds}
use Rattle.fv_laws.proofs.Orders.{spot_total, spot_ties}
use Rattle.fv_laws.proofs.Ranges.{counted_same}
use Rattle.fv_tables.specs.Spelled.{Rooted, pointer_at, pointer_below, stamp_in}
use Rattle.fv_tables.proofs.Pointers.{no_stamp}
use Rattle.fv_tree.specs.Erasing.{StandsAt, HoldsCells, IsGrownFrom}
use Rattle.fv_tables.specs.Told.{tree_told, cells_told, file_at, Standing, tree_of, file_told, file_in, table_told}
use Rattle.fv_tables.proofs.Tables.{stamps_told, files_told}
use Rattle.fv_tree.specs.Counting.{found_at, added_at}
use Rattle.fv_inode.proofs.Told.{inode_told}
use Rattle.fv_inode.specs.declared.info.Info.{Info}
use Rattle.fv_files.specs.Tables.{tree_known, IsInfoOf}
use Rattle.fv_files.specs.Calls.{AddsCell, AddsFile}
use Rattle.fv_files.proofs.Tables.{file_is, known_tree}

-- ---- by pointers

leads_is : (n : ℕ) → is_some (if n == 0 then None else Some n) ≡ not (n == 0)
leads_is n = so (n == 0)
  where
    so : (b : Bool) → is_some (if b then None else Some n) ≡ not b
    so true = refl
    so false = refl

pub stands_is : (t : Rooted) (level place : ℕ) → fin.contains_key (tree_told t).stamps (level, place) ≡ not ((pointer_at t level place).stamp == 0)
stands_is t level place = ap is_some (stamps_told t level place) ∙ leads_is (pointer_at t level place).stamp

-- The positions over a cell are the pointers over it.
pub found_pointers : (t : Rooted) (i : ℕ) → found_over (tree_told t) i ≡ found_at t i
unfolding found_over found_at tree_told
found_pointers t i = counted_same (λ k. fin.contains_key (tree_told t).stamps (k, i / fan ^ k)) (λ k. not ((pointer_at t k (i / fan ^ k)).stamp == 0)) 0 (t.levels + 1) (λ k low high. stands_is t k (i / fan ^ k))

root_is : (t : Rooted) → pointer_at t t.levels 0 ≡ t.root
unfolding pointer_at pointer_below
root_is t =
    let low : nat_le t.levels t.levels ≡ true = grind (arith, nat_tests) in
    let none : t.levels - t.levels ≡ 0 = omega arith in
    rw (low, none) refl

-- A tree has a position exactly where its root leads somewhere.
module _ (now start : ℕ) (cells : List ℕ) (t : Rooted) (is : IsTree now start cells (tree_told t)) where
  abbrev any : Bool
  any = nat_lt 0 (fin.len (tree_told t).stamps)

  levels_are : (tree_told t).levels ≡ t.levels
  unfolding tree_told
  levels_are = refl

  top_stands : fin.contains_key (tree_told t).stamps (t.levels, 0) ≡ not (t.root.stamp == 0)
  top_stands = stands_is t t.levels 0 ∙ ap (λ p. not (p.stamp == 0)) (root_is t)

  -- over a cell the root leads somewhere
  over_cell : (j : ℕ) → In j cells → fin.contains_key (tree_told t).stamps (t.levels, 0) ≡ true
  over_cell j h =
      let below : j < fan ^ (tree_told t).levels = all_in (λ i. i < fan ^ (tree_told t).levels) cells is.covers j h in
      let at : j / fan ^ t.levels ≡ 0 = ap (λ (k : ℕ). j / fan ^ k) (sym levels_are) ∙ div-eq_of_lt below in
      is.exact (t.levels, 0) ∙ (λ i. (let low : nat_le t.levels (tree_told t).levels ≡ true = grind (arith, nat_tests, levels_are) in low) i && holds cells (t.levels, 0) j h at i)

  no_cell : (b : Bool) → fin.contains_key (tree_told t).stamps (t.levels, 0) ≡ b → b ≡ false → (p : Spot) → fin.contains_key (tree_told t).stamps p ≡ false
  no_cell b e none p = so (holds_one cells p) refl
    where
      wrong : false ≡ true → ⊥
      wrong e = cc

      and_false : (a : Bool) → (a && false) ≡ false
      and_false true = refl
      and_false false = refl

      so : (h : Bool) → holds_one cells p ≡ h → fin.contains_key (tree_told t).stamps p ≡ false
      so false h = is.exact p ∙ ap (λ c. nat_le p.0 (tree_told t).levels && c) h ∙ and_false (nat_le p.0 (tree_told t).levels)
      so true h = let cell = from_holds cells p h in absurd (wrong (sym none ∙ sym e ∙ over_cell cell.0 cell.1))

  is_empty : ((p : Spot) → fin.contains_key (tree_told t).stamps p ≡ false) → (tree_told t).stamps ≡ fin.empty
  is_empty none = fin.same_map spot_total spot_ties _ _ (λ p. absent (fin.get (tree_told t).stamps p) (none p) ∙ sym (fin.get-empty spot_cmp p))
    where
      absent : (o : Option ℕ) → is_some o ≡ false → o ≡ None
      absent None e = refl
      absent (Some u) e = absurd cc

  any_is_root : any ≡ not (t.root.stamp == 0)
  any_is_root = so (not (t.root.stamp == 0)) refl any refl
    where
      so : (b : Bool) → not (t.root.stamp == 0) ≡ b → (a : Bool) → any ≡ a → a ≡ b
      so true e true d = refl
      so false e false d = refl
      so true e false d =
          let none : fin.len (tree_told t).stamps ≡ 0 = grind (arith, nat_tests, d) in
          let empty : fin.contains_key (tree_told t).stamps (t.levels, 0) ≡ false = ap (λ (m : fin.FinMap spot_cmp ℕ). is_some (fin.get m (t.levels, 0))) (fin.empty_of_len (tree_told t).stamps none) ∙ ap is_some (fin.get-empty spot_cmp (t.levels, 0)) in
          sym empty ∙ top_stands ∙ e
      so false e true d =
          let empty = is_empty (no_cell (not (t.root.stamp == 0)) top_stands e) in
          let none : fin.len (tree_told t).stamps ≡ 0 = ap fin.len empty ∙ fin.len-empty spot_cmp ℕ in
          let no : any ≡ false = grind (arith, nat_tests, none) in
          sym d ∙ no

  -- What a write adds is told by the pointers over the cell.
  pub added_pointers : (i : ℕ) → added_by (tree_told t) i ≡ added_at t i
  unfolding added_by added_at tree_told
  added_pointers i = (λ j. (levels_with t.levels i + 1 - found_pointers t i j) + cond (any_is_root j) (levels_with t.levels i - t.levels - 1) 0)
      ∙ ap (λ n. (levels_with t.levels i + 1 - found_at t i) + n) (turned (t.root.stamp == 0) (levels_with t.levels i - t.levels - 1))
    where
      turned : (b : Bool) (n : ℕ) → cond (not b) n 0 ≡ (if b then 0 else n)
      turned true n = refl
      turned false n = refl

-- ---- to the machine

-- the tree of a file of a well-formed table
pub file_well : (x : Standing) (n : ℕ) (r : InodeRecord) → file_at x.inode n ≡ Some r → (now : ℕ) (f : File) → IsWellTable now (table_told x) → file_in x n ≡ Some f
    → IsTree now (least_levels r.reserve) (fin.keys (cells_told (tree_of x n r))) (tree_told (tree_of x n r))
unfolding file_told
file_well x n r at now f well there =
    subst (λ (g : File). IsTree now (least_levels g.reserve) (fin.keys g.blocks) g.tree) (file_is x n r at f there) (well.files n f (files_told x n ∙ there)).tree

pub file_tree_is : (x : Standing) (n : ℕ) (r : InodeRecord) → file_at x.inode n ≡ Some r → (f : File) → file_in x n ≡ Some f → f.tree ≡ tree_told (tree_of x n r)
unfolding file_told
file_tree_is x n r at f there = ap (λ (g : File). g.tree) (file_is x n r at f there)

pub adds_cell : (x : Standing) (info : Info) (i count : ℕ) → IsInfoOf x.inode info → count ≡ added_at (tree_known x info) i → AddsCell x info.number i count
adds_cell x info i count is counted now f well there =
    counted ∙ ap (λ t. added_at t i) (known_tree x info is)
    ∙ sym (added_pointers now (least_levels is.file.reserve) (fin.keys (cells_told (tree_of x info.number is.file))) (tree_of x info.number is.file) (file_well x info.number is.file is.there now f well there) i)
    ∙ ap (λ t. added_by t i) (sym (file_tree_is x info.number is.file is.there f there))

pub adds_file : (x : Standing) (n count : ℕ) → count ≡ added_at x.inode (inode_cell n) → AddsFile x n count
adds_file x n count counted now well =
    let is : IsTree now 0 (map inode_cell (fin.keys (table_told x).files)) (tree_told x.inode) = subst (IsTree now 0 (map inode_cell (fin.keys (table_told x).files))) (sym (inode_told x)) well.inode in
    counted ∙ sym (added_pointers now 0 (map inode_cell (fin.keys (table_told x).files)) x.inode is (inode_cell n)) ∙ ap (λ t. added_by t (inode_cell n)) (inode_told x)

-- ---- the tree of a well-formed file has no mark over holes alone

there_is : (t : Rooted) (level place : ℕ) → StandsAt t level place → stamp_in (pointer_at t level place) ≢ None
there_is t level place stands none = so (pointer_at t level place).stamp stands none
  where
    so : (s : ℕ) → s ≢ 0 → (if s == 0 then None else Some s) ≡ None → ⊥
    so s some e = let test : (s == 0) ≡ false = grind (arith, nat_tests) in let wrong : Some s ≡ None = sym (ap (λ b. if b then None else Some s) test) ∙ e in cc

pub grown_holds : (t : Rooted) (start : ℕ) → IsGrownFrom start (tree_told t) → HoldsCells t
grown_holds t start grown level place stands holes =
    let cell = grown.marks level place (λ none. there_is t level place stands (sym (stamps_told t level place) ∙ none)) in
    cell.2 (stamps_told t 0 cell.0 ∙ no_stamp (pointer_at t 0 cell.0) (holes cell.0 cell.1))
