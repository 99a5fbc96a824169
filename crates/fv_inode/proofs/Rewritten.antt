-- What another inode block does to the files of its records.
use Rattle.std.proofs.Common.{◌≡◌, ◌≢◌, ℕ, ◌+◌, ◌*◌, ◌/◌, ◌%◌, Bool, true, false, cond, List, length, get_or, nat_eq, refl, sym, ap, subst, ◌∙◌, arith, ⊎_elim}
use Rattle.std.specs.Prelude.{slice_set, Some, Ok, is_some}
use Rattle.std.proofs.lemmas.Bool.{cases_eq}
use Rattle.std.proofs.lemmas.Bool.Decides.{nat_tests}
use Rattle.std.proofs.lemmas.List.{get_or-set_same, get_or-set_other}
use Rattle.fv_codec.specs.declared.pointer.Pointer.{Pointer}
use Rattle.fv_codec.specs.declared.inode.InodeRecord.{InodeRecord}
use Rattle.fv_codec.specs.Blocks.{inodes_at}
use Rattle.fv_tables.specs.Spelled.{Rooted, block_at}
use Rattle.fv_tables.specs.Told.{records_of, records_in, free_record, used_record, file_at}
use Rattle.fv_tree.specs.Refilling.{IsRefilled, Refills}
use Rattle.fv_inode.specs.Files.{AreRecords, with_root}
use Rattle.fv_inode.specs.Changing.{WritesFiles, Rewrites, FillsFiles, SetsRoot}
use Rattle.fv_inode.proofs.Slots.{own_record, changed_is, cell_there}

-- ---- a record of an inode block was put

module _ (old new : Rooted) (n : ℕ) (fs : List InodeRecord) (r : InodeRecord) (long : length fs ≡ 16) (are : AreRecords old (n / 16) fs) (block : List ℕ)
    (spelled : inodes_at block ≡ Ok (record { index = n / 16; files = slice_set fs (n % 16) r })) (cell : block_at new (n / 16) ≡ Some block)
    (blocks : (index : ℕ) → index ≢ n / 16 → block_at new index ≡ block_at old index) where
  inodes : records_in (block_at new (n / 16)) ≡ slice_set fs (n % 16) r
  unfolding records_in
  inodes = ap records_in cell ∙ ap records_of spelled

  -- in the inode block
  within : (k : ℕ) → k / 16 ≡ n / 16 → file_at new k ≡ used_record (get_or (slice_set fs (n % 16) r) (k % 16) free_record)
  unfolding file_at
  within k beside = (λ i. used_record (get_or (records_in (block_at new (beside i))) (k % 16) free_record)) ∙ ap (λ (rs : List InodeRecord). used_record (get_or rs (k % 16) free_record)) inodes

  -- in the others
  outside : (k : ℕ) → k / 16 ≢ n / 16 → file_at new k ≡ file_at old k
  unfolding file_at
  outside k apart = ap (λ b. used_record (get_or (records_in b) (k % 16) free_record)) (blocks (k / 16) apart)

  same_cell : (k : ℕ) → k ≢ n → k / 16 ≡ n / 16 → file_at new k ≡ file_at old k
  same_cell k differs beside =
      let slots : k % 16 ≢ n % 16 = λ e. differs (omega (arith, e, beside)) in
      within k beside
      ∙ ap used_record (get_or-set_other fs (n % 16) (k % 16) r free_record slots)
      ∙ own_record old k fs (λ q lt. are q lt ∙ ap (λ c. file_at old (16 * c + q)) (sym beside))

  pub put_files : (k : ℕ) → file_at new k ≡ cond (nat_eq k n) (used_record r) (file_at old k)
  put_files k = ⊎_elim
      (λ (same : k ≡ n).
      let test : nat_eq k n ≡ true = grind (arith, nat_tests, same) in
      within k (ap (λ m. m / 16) same) ∙ ap (λ m. used_record (get_or (slice_set fs (n % 16) r) (m % 16) free_record)) same ∙ ap used_record (get_or-set_same fs (n % 16) r free_record (omega (arith, long)))
      ∙ sym (ap (λ b. cond b (used_record r) (file_at old k)) test))
      (λ (differs : k ≢ n).
      let test : nat_eq k n ≡ false = grind (arith, nat_tests, differs) in
      ⊎_elim (same_cell k differs) (outside k) (cases_eq (k / 16) (n / 16)) ∙ sym (ap (λ b. cond b (used_record r) (file_at old k)) test))
      (cases_eq k n)

-- ---- with a stamp, and without one

pub rewrites : (old new : Rooted) (n s : ℕ) (fs : List InodeRecord) (r : InodeRecord) → length fs ≡ 16 → AreRecords old (n / 16) fs → WritesFiles old new (n / 16) s (slice_set fs (n % 16) r)
    → Rewrites old new n s (used_record r)
rewrites old new n s fs r long are wrote = record {
  files = put_files old new n fs r long are wrote.block wrote.spelled wrote.place_by_place.cell wrote.place_by_place.blocks;
  block = wrote.block;
  inodes = slice_set fs (n % 16) r;
  spelled = wrote.spelled;
  written = wrote.written;
  place_by_place = wrote.place_by_place;
}

pub sets_root : (old new : Rooted) (n levels : ℕ) (root : Pointer) (fs : List InodeRecord) (r d : InodeRecord) → length fs ≡ 16 → AreRecords old (n / 16) fs → r ≡ with_root levels root (get_or fs (n % 16) d)
    → FillsFiles old new (n / 16) (slice_set fs (n % 16) r) → SetsRoot old new n levels root
sets_root old new n levels root fs r d long are is fills = record {
  files = λ k. put_files old new n fs r long are fills.block fills.spelled fills.place_by_place.cell fills.place_by_place.blocks k
      ∙ ap (λ o. cond (nat_eq k n) o (file_at old k)) (changed_is old n fs (with_root levels root) (λ f. refl) r d long are is);
  inodes = slice_set fs (n % 16) r;
  fills = fills;
}

pub fills : (old new : Rooted) (cell : ℕ) (files : List InodeRecord) (block : List ℕ) (there : Bool) → inodes_at block ≡ Ok (record { index = cell; files = files }) → is_some (block_at old cell) ≡ true
    → Refills old new cell block there → IsRefilled old new cell block there → FillsFiles old new cell files
fills old new cell files block there spelled some refills refilled =
    let yes : there ≡ true = sym refilled.stands ∙ cell_there old cell some in
    record {
      block = block;
      spelled = spelled;
      refilled = subst (Refills old new cell block) yes refills;
      place_by_place = subst (IsRefilled old new cell block) yes refilled;
    }
