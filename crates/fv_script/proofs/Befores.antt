-- Looking for a byte in whole pieces first.
use Rattle.std.proofs.Common.{◌≡◌, ℕ, ◌+◌, ◌-◌, ◌*◌, ◌<◌, ◌≤◌, Bool, true, false, List, [], ◌∷◌, ◌++◌, length, take, drop, get_or, refl, ap, sym, ◌∙◌, arith, length-take-le}
use Rattle.std.specs.Prelude.{◌&&◌, slice_range}
use Rattle.std.specs.List.{list_all, prefix_len}
use Rattle.std.proofs.lemmas.List.{drop-take, length-drop, take-append-drop, take-take, take_all}
use Rattle.std.proofs.lemmas.List.Folds.{list_all-append, list_all_more}
use Rattle.std.proofs.lemmas.List.Sums.{prefix_len-le-length}
use Rattle.fv_script.specs.Parts.{before, is_other}

-- a test of each element, one by one
pub tests_begin : (test : ℕ → Bool) (xs : List ℕ) → true ≡ list_all test (take 0 xs)
tests_begin test xs = refl

pub tests_more : (test : ℕ → Bool) (xs : List ℕ) (i x : ℕ) (so_far passes : Bool) → so_far ≡ list_all test (take i xs) → i < length xs → get_or xs i 0 ≡ x → passes ≡ test x → (so_far && passes) ≡ list_all test (take (i + 1) xs)
tests_more test xs i x so_far passes is inside at passes_is = rw (is, passes_is, ← at) (sym (list_all_more test xs i 0 inside))

pub tests_end : (test : ℕ → Bool) (xs : List ℕ) (i : ℕ) (so_far : Bool) → so_far ≡ list_all test (take i xs) → length xs ≤ i → so_far ≡ list_all test xs
tests_end test xs i so_far is past = is ∙ ap (list_all test) (take_all i xs past)

pub before_within : (wanted : ℕ) (bytes : List ℕ) → before wanted bytes ≤ length bytes
before_within wanted bytes = prefix_len-le-length (is_other wanted) bytes

-- one piece more that lacks the byte
more : (test : ℕ → Bool) (bytes : List ℕ) (n : ℕ) → list_all test (take n bytes) ≡ true → list_all test (take 32 (drop n bytes)) ≡ true → list_all test (take (n + 32) bytes) ≡ true
more test bytes n so_far piece =
    let parts : take n bytes ++ take 32 (drop n bytes) ≡ take (n + 32) bytes = ap (λ (l : List ℕ). l ++ take 32 (drop n bytes)) (sym (take-take n (n + 32) bytes (omega arith)))
    ∙ ap (λ (l : List ℕ). take n (take (n + 32) bytes) ++ l) (sym (drop-take n 32 bytes)) ∙ take-append-drop n (take (n + 32) bytes) in
    ap (list_all test) (sym parts) ∙ list_all-append test (take n bytes) (take 32 (drop n bytes)) ∙ ap (λ b. b && list_all test (take 32 (drop n bytes))) so_far ∙ piece

pub one_piece_more : (wanted : ℕ) (bytes : List ℕ) (i : ℕ) → list_all (is_other wanted) (take (32 * i) bytes) ≡ true → list_all (is_other wanted) (slice_range bytes (32 * i) (32 * i + 32)) ≡ true → list_all (is_other wanted) (take (32 * (i + 1)) bytes) ≡ true
one_piece_more wanted bytes i so_far piece =
    let width : 32 * i + 32 - 32 * i ≡ 32 = omega arith in
    let next : 32 * (i + 1) ≡ 32 * i + 32 = omega arith in
    let whole : list_all (is_other wanted) (take 32 (drop (32 * i) bytes)) ≡ true = ap (λ n. list_all (is_other wanted) (take n (drop (32 * i) bytes))) (sym width) ∙ piece in
    ap (λ n. list_all (is_other wanted) (take n bytes)) next ∙ more (is_other wanted) bytes (32 * i) so_far whole

passed_by : (test : ℕ → Bool) (x : ℕ) (xs ys : List ℕ) (t : Bool) → test x ≡ t → (t && list_all test xs) ≡ true → (list_all test xs ≡ true → prefix_len test (xs ++ ys) ≡ length xs + prefix_len test ys) → prefix_len test (x ∷ xs ++ ys) ≡ length (x ∷ xs) + prefix_len test ys
passed_by test x xs ys true e all so_far = rw e (omega (arith, so_far all))
passed_by test x xs ys false e all so_far = cc

-- elements that all pass come before the others that do
pub passed : (test : ℕ → Bool) (xs ys : List ℕ) → list_all test xs ≡ true → prefix_len test (xs ++ ys) ≡ length xs + prefix_len test ys
passed test [] ys all = omega arith
passed test (x ∷ xs) ys all = passed_by test x xs ys (test x) refl all (λ rest. passed test xs ys rest)

pub goes_on : (wanted : ℕ) (bytes : List ℕ) (n count : ℕ) → n ≤ length bytes → list_all (is_other wanted) (take n bytes) ≡ true → count ≡ before wanted (slice_range bytes n (length bytes)) → n + count ≡ before wanted bytes
goes_on wanted bytes n count within all is =
    let rest : slice_range bytes n (length bytes) ≡ drop n bytes = take_all (length bytes - n) (drop n bytes) (omega (arith, length-drop n bytes)) in
    ap (λ c. n + c) (is ∙ ap (before wanted) rest) ∙ ap (λ m. m + before wanted (drop n bytes)) (sym (length-take-le n bytes within)) ∙ sym (passed (is_other wanted) (take n bytes) (drop n bytes) all)
    ∙ ap (before wanted) (take-append-drop n bytes)
