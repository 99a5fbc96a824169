-- The least free number, and the record of a new file.
use Rattle.std.proofs.Common.{◌≡◌, ℕ, zero, suc, ◌+◌, ◌-◌, ◌*◌, ◌^◌, ◌<◌, ◌≤◌, Bool, true, false, List, [], ◌∷◌, ◌++◌, length, get_or, replicate, refl, sym, ap, ◌∙◌, subst, arith, ⊎_elim}
use Rattle.std.specs.Prelude.{Option, Some, None, Ok, is_some, not, nat_le, ◌==◌, ◌&&◌}
use Rattle.std.specs.List.{list_all}
use Rattle.std.proofs.lemmas.Bool.{cases_lt, and_parts}
use Rattle.std.proofs.lemmas.Bool.Decides.{nat_tests}
use Rattle.std.proofs.lemmas.List.{length-append, length-replicate}
use Rattle.std.proofs.Math.Seq.{take-append_seam, drop-append_seam}
use Rattle.fv_codec.specs.declared.inode.InodeRecord.{InodeRecord}
use Rattle.fv_codec.specs.Fields.{Verdict, is_name_byte, all_name, all_zero, name_filled, up_to, ◌then◌}
use Rattle.fv_codec.specs.Blocks.{IsInodeRecord, is_used, most_cells}
use Rattle.fv_model.specs.Numbers.{most_files}
use Rattle.fv_model.specs.Spelling.{is_name}
use Rattle.fv_model.specs.Trees.{fan, least_levels}
use Rattle.fv_tables.specs.Spelled.{Rooted}
use Rattle.fv_tables.specs.Told.{free_record, used_record, file_at}
use Rattle.fv_tables.proofs.Tables.{no_file}
use Rattle.fv_inode.specs.Files.{AreRecords, IsFirstFree, IsFreeNumber, IsLeastFree, info_of, new_record}
use Rattle.fv_inode.specs.Changing.{Rewrites, Makes}

-- ---- numbers

-- all numbers below the next inode block are used
pub used_below : (t : Rooted) (cell : ℕ) (files : List InodeRecord) (slot : ℕ) → AreRecords t cell files → slot ≤ 16 → ((k : ℕ) → k < 16 * cell → is_some (file_at t k) ≡ true)
    → ((k : ℕ) → k < slot → is_some (used_record (get_or files k free_record)) ≡ true) → (k : ℕ) → k < 16 * cell + slot → is_some (file_at t k) ≡ true
used_below t cell files slot are small least here k lt = ⊎_elim
    (λ (low : k < 16 * cell). least k low)
    (λ (high : 16 * cell ≤ k).
    let back : 16 * cell + (k - 16 * cell) ≡ k = omega (arith, high) in
    ap (λ n. is_some (file_at t n)) (sym back) ∙ ap is_some (sym (are (k - 16 * cell) (omega (arith, high, lt, small)))) ∙ here (k - 16 * cell) (omega (arith, high, lt)))
    (cases_lt k (16 * cell))

pub least_in : (t : Rooted) (cell : ℕ) (files : List InodeRecord) (slot : ℕ) → AreRecords t cell files → slot < 16 → ((k : ℕ) → k < 16 * cell → is_some (file_at t k) ≡ true)
    → used_record (get_or files slot free_record) ≡ None → ((k : ℕ) → k < slot → is_some (used_record (get_or files k free_record)) ≡ true) → IsFirstFree t (16 * cell + slot)
least_in t cell files slot are lt least free here = record {
  least = used_below t cell files slot are (omega (arith, lt)) least here;
  free = λ small. sym (are slot lt) ∙ free;
}

none_some : {X : Type 0} (o : Option X) → o ≡ None → is_some o ≡ true → ⊥
none_some None none some = absurd (grind (arith, some))
none_some (Some x) none some = absurd (grind (arith, ap is_some none))

-- the least free number is no greater than another
pub least_small : (t : Rooted) (n k : ℕ) → IsLeastFree t n → file_at t k ≡ None → n ≤ k
least_small t n k is free = ⊎_elim
    (λ (lt : k < n). absurd (none_some (file_at t k) free (is.least k lt)))
    (λ le. le)
    (cases_lt k n)

-- past the cells that were searched
pub least_searched : (t : Rooted) (count : ℕ) → count ≤ 16384 → (count < 16384 → count ≡ fan ^ t.levels) → ((k : ℕ) → k < 16 * count → is_some (file_at t k) ≡ true) → IsFirstFree t (16 * count)
least_searched t count few all least = record {
  least = least;
  free = λ small. let whole = all (omega (arith, small)) in no_file t (16 * count) (omega (arith, whole));
}

-- the first number, where it is one of a file
pub free_within : (t : Rooted) (n : ℕ) (o : Option ℕ) → IsFirstFree t n → (n < most_files → o ≡ Some n) → (most_files ≤ n → o ≡ None) → IsFreeNumber t o
free_within t n o is some none = ⊎_elim
    (λ (lt : n < most_files). subst (IsFreeNumber t) (sym (some lt)) (record { free = is.free lt; least = is.least }))
    (λ high. subst (IsFreeNumber t) (sym (none high)) (λ k lt. is.least k (omega (arith, lt, high))))
    (cases_lt n most_files)

-- two least free numbers are one
pub one_least : (t : Rooted) (m n : ℕ) → IsLeastFree t m → IsLeastFree t n → m ≡ n
one_least t m n first second = let low = least_small t m n first second.free in let high = least_small t n m second first.free in omega (arith, low, high)

-- ---- the new record

zero_bytes : (n : ℕ) → all_zero (replicate n 0) ≡ Ok tt
unfolding all_zero
zero_bytes zero = refl
zero_bytes (suc n) = zero_bytes n

name_bytes : (xs : List ℕ) → list_all is_name_byte xs ≡ true → all_name xs ≡ Ok tt
unfolding all_name
name_bytes [] all = refl
name_bytes (x ∷ xs) all = let parts = and_parts (is_name_byte x) (list_all is_name_byte xs) all in rw parts.0 (name_bytes xs parts.1)

filled : (name : List ℕ) (n : ℕ) → list_all is_name_byte name ≡ true → name_filled (length name) (name ++ replicate n 0) ≡ Ok tt
unfolding name_filled
filled name n all =
    (λ i. all_name (take-append_seam name (replicate n 0) i) then all_zero (drop-append_seam name (replicate n 0) i))
    ∙ ap (λ (v : Verdict). v then all_zero (replicate n 0)) (name_bytes name all)
    ∙ zero_bytes n

pub record IsLong (name : List ℕ) : Type 0 where
  pub some : 1 ≤ length name
  pub within : length name ≤ 64
  pub bytes : list_all is_name_byte name ≡ true

pub is_long : (name : List ℕ) → is_name name ≡ true → IsLong name
is_long name is =
    let outer = and_parts (nat_le 1 (length name) && nat_le (length name) 64) (list_all is_name_byte name) is in
    let inner = and_parts (nat_le 1 (length name)) (nat_le (length name) 64) outer.0 in
    record { some = grind (arith, nat_tests, inner.0); within = grind (arith, nat_tests, inner.1); bytes = outer.1 }

pub name_used : (name : List ℕ) → is_name name ≡ true → (length name == 0) ≡ false
name_used name is = let some : 1 ≤ length name = (is_long name is).some in grind (arith, nat_tests, some)

up_in : (b : Bool) (n most : ℕ) → b ≡ true → n ≤ most → n ≤ up_to b most
up_in true n most e le = le
up_in false n most e le = absurd (grind (arith, e))

pub new_fits : (name : List ℕ) (reserve : ℕ) → is_name name ≡ true → reserve ≤ most_cells → least_levels reserve ≤ 3 → IsInodeRecord (new_record name reserve)
new_fits name reserve is small few =
    let long : IsLong name = is_long name is in
    let used : is_used (length name) ≡ true = ap not (name_used name is) in
    let room : 64 - length name + length name ≡ 64 = omega (arith, long.within) in
    record {
      name_length = long.within;
      name_long = length-append name (replicate (64 - length name) 0) ∙ ap (λ n. length name + n) (length-replicate {A = ℕ} (64 - length name) 0) ∙ omega (arith, room);
      name = filled name (64 - length name) long.bytes;
      length = omega arith;
      reserve = up_in (is_used (length name)) reserve most_cells used small;
      levels = up_in (is_used (length name)) (least_levels reserve) 3 used few;
      root = record { vvbn = omega arith; pvbn = omega arith; stamp = omega arith };
    }

pub new_is : (name : List ℕ) (reserve : ℕ) (r : InodeRecord) → is_name name ≡ true → r ≡ new_record name reserve → used_record r ≡ Some (new_record name reserve)
new_is name reserve r is told = ap used_record told ∙ rw (name_used name is) refl

pub makes : (t u : Rooted) (name : List ℕ) (reserve s n : ℕ) (r : InodeRecord) → is_name name ≡ true → r ≡ new_record name reserve → IsLeastFree t n → Rewrites t u n s (used_record r)
    → Makes t u name reserve s (info_of n r)
makes t u name reserve s n r is told least rewrites = record {
  number = least;
  told = ap (info_of n) told;
  rewrites = subst (Rewrites t u n s) (new_is name reserve r is told) rewrites;
}
