-- Roots that are set in the records of files leave a table as it was, with blocks placed anew.
use Rattle.std.proofs.Common.{◌≡◌, ◌≢◌, ℕ, true, false, cond, nat_eq, refl, sym, ap, subst, ◌∙◌, arith, ⊎_elim}
use Rattle.std.specs.Prelude.{Option, Some, None}
use Rattle.std.specs.Option.{option_map}
use Rattle.std.proofs.lemmas.Bool.{cases_eq}
use Rattle.std.proofs.lemmas.Bool.Decides.{nat_tests}
use Rattle.fv_codec.specs.declared.pointer.Pointer.{Pointer}
use Rattle.fv_codec.specs.declared.inode.InodeRecord.{InodeRecord}
use Rattle.fv_tables.specs.Spelled.{Rooted, stored, pointer_at, stamp_in, block_at}
use Rattle.fv_tables.specs.Told.{AreTold, file_at, Standing, tree_or, tree_of}
use Rattle.fv_tables.specs.Kept.{IsPlacedFile, IsPlacedTable}
use Rattle.fv_inode.specs.Files.{with_root}
use Rattle.fv_inode.specs.Changing.{SetsRoot}

-- ---- the trees of the other files

-- the trees of all files but one are told as before
abbrev pub KeepsOthers : Standing → Standing → ℕ → Type 0
KeepsOthers x y n = (k : ℕ) → k ≢ n → (r : InodeRecord) → file_at x.inode k ≡ Some r → AreTold (tree_of x k r) (tree_of y k r)

same_told : (t u : Rooted) → u ≡ t → AreTold t u
same_told t u same = record {
  levels = ap (λ (v : Rooted). v.levels) same;
  stamps = λ level place. ap (λ (v : Rooted). stamp_in (pointer_at v level place)) same;
  blocks = λ index. ap (λ (v : Rooted). block_at v index) same;
}

-- so it is over the same blocks, with the same trees in memory
pub keeps_others : (x y : Standing) (n : ℕ) → y.inode.under ≡ x.inode.under → ((k : ℕ) → k ≢ n → y.trees k ≡ x.trees k) → KeepsOthers x y n
keeps_others x y n under trees k differs r at = same_told (tree_of x k r) (tree_of y k r) (λ i. tree_or (trees k differs i) (stored (under i) k r.levels r.root))

-- ---- one file was placed

module _ (x y : Standing) (n levels : ℕ) (root : Pointer) (sets : SetsRoot x.inode y.inode n levels root) (others : KeepsOthers x y n)
    (own : (r : InodeRecord) → file_at x.inode n ≡ Some r → AreTold (tree_of x n r) (tree_of y n (with_root levels root r))) where
  own_file : (o : Option InodeRecord) → file_at x.inode n ≡ o → IsPlacedFile x y n o (option_map (with_root levels root) o)
  own_file None e = tt
  own_file (Some r) e = (record { name_length = refl; name = refl; length = refl; reserve = refl }, own r e)

  other_file : (k : ℕ) → k ≢ n → (o : Option InodeRecord) → file_at x.inode k ≡ o → IsPlacedFile x y k o o
  other_file k differs None e = tt
  other_file k differs (Some r) e = (record { name_length = refl; name = refl; length = refl; reserve = refl }, others k differs r e)

  abbrev now : Option InodeRecord
  now = option_map (with_root levels root) (file_at x.inode n)

  files : (k : ℕ) → IsPlacedFile x y k (file_at x.inode k) (file_at y.inode k)
  files k = ⊎_elim
      (λ (same : k ≡ n).
      let test : nat_eq n n ≡ true = grind (arith, nat_tests) in
      subst (λ m. IsPlacedFile x y m (file_at x.inode m) (file_at y.inode m)) (sym same)
      (subst (IsPlacedFile x y n (file_at x.inode n)) (sym (sets.files n ∙ ap (λ b. cond b now (file_at x.inode n)) test)) (own_file (file_at x.inode n) refl)))
      (λ (differs : k ≢ n).
      let test : nat_eq k n ≡ false = grind (arith, nat_tests, differs) in
      subst (IsPlacedFile x y k (file_at x.inode k)) (sym (sets.files k ∙ ap (λ b. cond b now (file_at x.inode k)) test)) (other_file k differs (file_at x.inode k) refl))
      (cases_eq k n)

  -- It is told as before: `placed_table` of `fv_tables`.
  pub rooted_table : IsPlacedTable x y
  rooted_table = record { levels = sets.fills.place_by_place.levels; stamps = sets.fills.place_by_place.stamps; files = files }
