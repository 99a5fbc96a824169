-- What trees and tables are told as: by each position, and the same where only places differ or where the same blocks stand under
-- what is reached.
use Rattle.std.proofs.Common.{◌≡◌, ℕ, ◌+◌, ◌-◌, ◌*◌, ◌/◌, ◌%◌, ◌^◌, ◌<◌, ◌≤◌, Bool, true, false, cond, refl, sym, ap, ◌∙◌, arith, rules, ⊎_elim, Less, Equal, Greater, get_or}
use Rattle.std.specs.Prelude.{Option, Some, None, map, take}
use Rattle.std.specs.List.{list_any, range_with_len}
use Rattle.std.specs.Option.{option_map}
use Rattle.std.specs.declared.cmp.Ordering.{Ordering}
use Rattle.std.specs.Ordering.{nat_cmp, ordering_then, eq_by_cmp}
use Rattle.std.specs.Cmp.{IsTotalOrder}
use Rattle.std.specs.Cmp.Rules.{comparing}
use Rattle.std.specs.FinMap as fin
use Rattle.std.proofs.lemmas.Nat.{le-div}
use Rattle.std.proofs.lemmas.Cmp.{nat_cmp_total}
use Rattle.std.proofs.lemmas.Bool.{cases_lt, both_ways}
use Rattle.std.proofs.lemmas.Bool.Decides.{nat_tests}
use Rattle.fv_codec.specs.declared.pointer.Pointer.{Pointer}
use Rattle.fv_codec.specs.declared.inode.InodeRecord.{InodeRecord}
use Rattle.fv_model.specs.Trees.{fan, Spot, spot_cmp}
use Rattle.fv_tables.specs.Spelled.{Under, Rooted, hole, stored, pointer_at, stamp_in, block_at}
use Rattle.fv_tables.specs.Told.{listed, places, spots, stamp_at, tree_told, cells_told, AreTold, records_each, records_in, free_record, used_record, file_at, Standing, standing_at, tree_of, file_told, file_in, numbers, records, table_told}
use Rattle.fv_tables.specs.Kept.{over, AgreeOnTree, AgreeOnTable, SaysSame, IsPlacedFile, IsPlacedTable}
use Rattle.fv_tables.proofs.Lists.{found, any_in_range, any_in_part, any_in_map}
use Rattle.fv_tables.proofs.Pointers.{past, above, no_block, same_pointer, same_block}

-- ---- positions as keys

both_equal : (r s : Ordering) → ordering_then r s ≡ Equal → (r ≡ Equal) × (s ≡ Equal)
both_equal Less s e = (e, cc)
both_equal Equal s e = (refl, e)
both_equal Greater s e = (e, cc)

spot_total : IsTotalOrder spot_cmp
spot_total = search (comparing, rules)

spot_ties : fin.IsAntisymmetric spot_cmp
spot_ties x y e =
    let both : (nat_cmp x.0 y.0 ≡ Equal) × (nat_cmp x.1 y.1 ≡ Equal) = both_equal _ _ e in
    λ i. (fin.nat_cmp-IsAntisymmetric x.0 y.0 both.0 i, fin.nat_cmp-IsAntisymmetric x.1 y.1 both.1 i)

same_number : (n : ℕ) → eq_by_cmp nat_cmp n n ≡ true
same_number n = grind (arith, nat_tests)

same_spot : (level place : ℕ) → eq_by_cmp spot_cmp (level, place) (level, place) ≡ true
same_spot level place = grind (arith, nat_tests)

-- ---- a tree

spot_listed : (levels level place : ℕ) → level ≤ levels → place < fan ^ (levels - level) → list_any (eq_by_cmp spot_cmp (level, place)) (spots levels) ≡ true
unfolding spots
spot_listed levels level place low inside = any_in_part (eq_by_cmp spot_cmp (level, place)) (λ k. map (λ q. (k, q)) (places levels k)) level 0 (levels + 1) (omega arith) (omega (arith, low))
    (any_in_map (eq_by_cmp spot_cmp (level, place)) (λ q. (level, q)) (places levels level)
    ∙ any_in_range (λ q. eq_by_cmp spot_cmp (level, place) (level, q)) place 0 (fan ^ (levels - level)) (omega arith) (omega (arith, inside)) (same_spot level place))

-- a position that isn't listed has no pointer
unlisted : (t : Rooted) (level place : ℕ) → list_any (eq_by_cmp spot_cmp (level, place)) (spots t.levels) ≡ false → pointer_at t level place ≡ hole
unlisted t level place none = ⊎_elim
    (λ (high : t.levels < level). above t level place high)
    (λ (low : level ≤ t.levels). ⊎_elim
    (λ (inside : place < fan ^ (t.levels - level)). absurd (both_ways _ none (spot_listed t.levels level place low inside)))
    (λ far. past t level place far)
    (cases_lt place (fan ^ (t.levels - level))))
    (cases_lt t.levels level)

-- A tree is told with the stamp of each position.
pub stamps_told : (t : Rooted) (level place : ℕ) → fin.get (tree_told t).stamps (level, place) ≡ stamp_in (pointer_at t level place)
unfolding tree_told
stamps_told t level place =
    fin.get-from_entries spot_total (listed (stamp_at t) (spots t.levels)) (level, place)
    ∙ found spot_cmp spot_ties (stamp_at t) (spots t.levels) (level, place)
    ∙ so (list_any (eq_by_cmp spot_cmp (level, place)) (spots t.levels)) refl
  where
    so : (b : Bool) → list_any (eq_by_cmp spot_cmp (level, place)) (spots t.levels) ≡ b → cond b (stamp_in (pointer_at t level place)) None ≡ stamp_in (pointer_at t level place)
    so true e = refl
    so false e = sym (ap stamp_in (unlisted t level place e))

-- A tree is told with the block of each cell.
pub blocks_told : (t : Rooted) (index : ℕ) → fin.get (cells_told t) index ≡ block_at t index
unfolding cells_told
blocks_told t index =
    fin.get-from_entries nat_cmp_total (listed (block_at t) (places t.levels 0)) index
    ∙ found nat_cmp fin.nat_cmp-IsAntisymmetric (block_at t) (places t.levels 0) index
    ∙ so (list_any (eq_by_cmp nat_cmp index) (places t.levels 0)) refl
  where
    so : (b : Bool) → list_any (eq_by_cmp nat_cmp index) (places t.levels 0) ≡ b → cond b (block_at t index) None ≡ block_at t index
    so true e = refl
    so false e = sym (⊎_elim
        (λ (inside : index < fan ^ (t.levels - 0)). absurd (both_ways _ e (any_in_range (eq_by_cmp nat_cmp index) index 0 (fan ^ (t.levels - 0)) (omega arith) (omega (arith, inside)) (same_number index))))
        (λ far. no_block t index (ap (λ (p : Pointer). p.stamp) (past t 0 index far)))
        (cases_lt index (fan ^ (t.levels - 0))))

-- Trees that say the same of each position are told as the same.
pub same_tree : (t u : Rooted) → AreTold t u → tree_told u ≡ tree_told t
unfolding tree_told
same_tree t u are = λ i. record {
  levels = are.levels i;
  stamps = fin.from_entries {R = spot_cmp} (listed (λ (spot : Spot). are.stamps spot.0 spot.1 i) (spots (are.levels i)));
}

pub same_cells : (t u : Rooted) → AreTold t u → cells_told u ≡ cells_told t
unfolding cells_told
same_cells t u are = λ i. fin.from_entries {R = nat_cmp} (listed (λ index. are.blocks index i) (places (are.levels i) 0))

pub same_file : (t u : Rooted) (r q : InodeRecord) → SaysSame r q → AreTold t u → file_told u q ≡ file_told t r
unfolding file_told
same_file t u r q same are = λ i. record {
  name = take (same.name_length i) (same.name i);
  length = same.length i;
  reserve = same.reserve i;
  blocks = same_cells t u are i;
  tree = same_tree t u are i;
}

-- ---- a table

-- no file has a number past those of an inode file of these levels
pub no_file : (t : Rooted) (n : ℕ) → records_each * fan ^ t.levels ≤ n → file_at t n ≡ None
unfolding file_at records_in
no_file t n far =
    let whole : fan ^ (t.levels - 0) ≡ fan ^ t.levels = ap (λ k. fan ^ k) (let e : t.levels - 0 ≡ t.levels = omega arith in e) in
    let over : fan ^ (t.levels - 0) ≤ n / records_each = le-div (fan ^ (t.levels - 0)) n records_each (omega arith) (omega (arith, far, whole)) in
    let none : block_at t (n / records_each) ≡ None = no_block t (n / records_each) (ap (λ (p : Pointer). p.stamp) (past t 0 (n / records_each) over)) in
    rw none refl

none_in : (x : Standing) (n : ℕ) → file_at x.inode n ≡ None → file_in x n ≡ None
unfolding file_in
none_in x n none = ap (option_map (λ r. file_told (tree_of x n r) r)) none

-- A table is told with the file of each number.
pub files_told : (x : Standing) (n : ℕ) → fin.get (table_told x).files n ≡ file_in x n
unfolding table_told
files_told x n =
    fin.get-from_entries nat_cmp_total (listed (file_in x) (numbers x)) n
    ∙ found nat_cmp fin.nat_cmp-IsAntisymmetric (file_in x) (numbers x) n
    ∙ so (list_any (eq_by_cmp nat_cmp n) (numbers x)) refl
  where
    so : (b : Bool) → list_any (eq_by_cmp nat_cmp n) (numbers x) ≡ b → cond b (file_in x n) None ≡ file_in x n
    so true e = refl
    so false e = sym (⊎_elim
        (λ (inside : n < records_each * fan ^ x.inode.levels). absurd (both_ways _ e (any_in_range (eq_by_cmp nat_cmp n) n 0 (records_each * fan ^ x.inode.levels) (omega arith) (omega (arith, inside)) (same_number n))))
        (λ far. none_in x n (no_file x.inode n far))
        (cases_lt n (records_each * fan ^ x.inode.levels)))

-- ---- blocks placed anew

placed_file : (x y : Standing) (n : ℕ) (o p : Option InodeRecord) → IsPlacedFile x y n o p → option_map (λ r. file_told (tree_of y n r) r) p ≡ option_map (λ r. file_told (tree_of x n r) r) o
placed_file x y n None None is = refl
placed_file x y n (Some r) (Some q) is = ap (λ f. Some f) (same_file (tree_of x n r) (tree_of y n q) r q is.0 is.1)
placed_file x y n (Some r) None is = absurd is
placed_file x y n None (Some q) is = absurd is

placed_in : (x y : Standing) (n : ℕ) → IsPlacedFile x y n (file_at x.inode n) (file_at y.inode n) → file_in y n ≡ file_in x n
unfolding file_in
placed_in x y n is = placed_file x y n (file_at x.inode n) (file_at y.inode n) is

placed_inode : (x y : Standing) → IsPlacedTable x y → tree_told y.inode ≡ tree_told x.inode
unfolding tree_told
placed_inode x y is = λ i. record {
  levels = is.levels i;
  stamps = fin.from_entries {R = spot_cmp} (listed (λ (spot : Spot). is.stamps spot.0 spot.1 i) (spots (is.levels i)));
}

-- A table of which blocks were placed anew is told as before.
pub placed_table : (x y : Standing) → IsPlacedTable x y → table_told y ≡ table_told x
unfolding table_told
placed_table x y is = λ i. record {
  files = fin.from_entries {R = nat_cmp} (listed (λ n. placed_in x y n (is.files n) i) (range_with_len 0 (records_each * fan ^ is.levels i)));
  inode = placed_inode x y is i;
}

-- ---- the same blocks under what is reached

-- a tree over blocks that agree on what it reaches is told as the same
pub same_told : (t : Rooted) (n : Under) → AgreeOnTree t n → AreTold t (over n t)
same_told t n agree = record {
  levels = refl;
  stamps = λ level place. ap stamp_in (same_pointer t n agree level place);
  blocks = λ index. same_block t n agree index;
}

-- the record of each file is the same
pub same_record : (t : Rooted) (n : Under) → AgreeOnTree t n → (k : ℕ) → file_at (over n t) k ≡ file_at t k
unfolding file_at
same_record t n agree k = ap (λ b. used_record (get_or (records_in b) (k % records_each) free_record)) (same_block t n agree (k / records_each))

module _ (m n : Under) (levels : ℕ) (root : Pointer) (agree : AgreeOnTable m n levels root) where
  kept_record : (k : ℕ) → file_at (standing_at n levels root).inode k ≡ file_at (standing_at m levels root).inode k
  kept_record k = same_record (standing_at m levels root).inode n agree.inode k

  kept_in : (k : ℕ) → file_in (standing_at n levels root) k ≡ file_in (standing_at m levels root) k
  unfolding file_in
  kept_in k = ap (option_map (λ r. file_told (stored n k r.levels r.root) r)) (kept_record k) ∙ so (file_at (standing_at m levels root).inode k) refl
    where
      so : (o : Option InodeRecord) → file_at (standing_at m levels root).inode k ≡ o → option_map (λ r. file_told (stored n k r.levels r.root) r) o ≡ option_map (λ r. file_told (stored m k r.levels r.root) r) o
      so None e = refl
      so (Some r) e = ap (λ f. Some f) (same_file (stored m k r.levels r.root) (stored n k r.levels r.root) r r (record { name_length = refl; name = refl; length = refl; reserve = refl })
          (same_told (stored m k r.levels r.root) n (agree.files k r e)))

  -- A table under which the same blocks stand is told as the same.
  pub kept_table : table_told (standing_at n levels root) ≡ table_told (standing_at m levels root)
  unfolding table_told
  kept_table = λ i. record {
    files = fin.from_entries {R = nat_cmp} (listed (λ k. kept_in k i) (range_with_len 0 (records_each * fan ^ levels)));
    inode = same_tree (standing_at m levels root).inode (standing_at n levels root).inode (same_told (standing_at m levels root).inode n agree.inode) i;
  }

  -- it has the same records
  pub kept_records : records (standing_at n levels root) ≡ records (standing_at m levels root)
  unfolding records
  kept_records = λ i. listed (λ k. kept_record k i) (range_with_len 0 (records_each * fan ^ levels))
