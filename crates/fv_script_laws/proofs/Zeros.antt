-- A list, and the zeros at its end.
use Rattle.std.proofs.Common.{◌≡◌, ℕ, zero, suc, ◌+◌, ◌-◌, ◌≤◌, ◌++◌, Bool, true, false, List, [], ◌∷◌, length, take, drop, replicate, reverse, refl, sym, ap, ◌∙◌, arith, length-append}
use Rattle.std.specs.Prelude.{nat_eq}
use Rattle.std.specs.List.{prefix_len}
use Rattle.std.proofs.lemmas.List.{length-replicate, take-append-drop, take_at, reverse-append, reverse-reverse}
use Rattle.std.proofs.lemmas.Bool.Decides.{nat_tests}
use Rattle.fv_model.specs.Texts.{trimmed}
use Rattle.fv_script.proofs.Cuts.{take_one}

abbrev blanks : ℕ → List ℕ
blanks n = replicate n 0

abbrev zeros : List ℕ → ℕ
zeros bytes = prefix_len (λ b. nat_eq b 0) bytes

one_more : (n : ℕ) → blanks (1 + n) ≡ 0 ∷ blanks n
one_more n = let s : 1 + n ≡ suc n = omega arith in rw s refl

is_zero : (b : ℕ) → nat_eq b 0 ≡ true → b ≡ 0
is_zero b test = grind (arith, nat_tests)

front_by : (b : ℕ) (bytes : List ℕ) (t : Bool) → nat_eq b 0 ≡ t → take (zeros bytes) bytes ≡ blanks (zeros bytes) → take (zeros (b ∷ bytes)) (b ∷ bytes) ≡ blanks (zeros (b ∷ bytes))
front_by b bytes true e so_far = rw (e, take_one (zeros bytes) b bytes, one_more (zeros bytes), is_zero b e, so_far) refl
front_by b bytes false e so_far = rw e refl

-- the zeros at the front
front : (bytes : List ℕ) → take (zeros bytes) bytes ≡ blanks (zeros bytes)
front [] = refl
front (b ∷ bytes) = front_by b bytes (nat_eq b 0) refl (front bytes)

behind : (n : ℕ) → blanks n ++ 0 ∷ [] ≡ 0 ∷ blanks n
behind zero = refl
behind (suc n) = ap (λ (l : List ℕ). 0 ∷ l) (behind n)

turned : (n : ℕ) → reverse (blanks n) ≡ blanks n
turned zero = refl
turned (suc n) = reverse-append (0 ∷ []) (blanks n) ∙ ap (λ (l : List ℕ). l ++ 0 ∷ []) (turned n) ∙ behind n

abbrev kept : List ℕ → List ℕ
kept bytes = reverse (drop (zeros (reverse bytes)) (reverse bytes))

split : (bytes : List ℕ) → kept bytes ++ blanks (zeros (reverse bytes)) ≡ bytes
split bytes =
    let k : ℕ = zeros (reverse bytes) in
    let turned_back : reverse (blanks k ++ drop k (reverse bytes)) ≡ bytes = ap (λ (l : List ℕ). reverse (l ++ drop k (reverse bytes))) (sym (front (reverse bytes))) ∙ ap (λ (l : List ℕ). reverse l) (take-append-drop k (reverse bytes)) ∙ reverse-reverse bytes in
    ap (λ (l : List ℕ). kept bytes ++ l) (sym (turned k)) ∙ sym (reverse-append (blanks k) (drop k (reverse bytes))) ∙ turned_back

long : (bytes : List ℕ) → length bytes ≡ length (kept bytes) + zeros (reverse bytes)
long bytes =
    ap (λ (l : List ℕ). length l) (sym (split bytes)) ∙ length-append (kept bytes) (blanks (zeros (reverse bytes)))
    ∙ ap (λ (n : ℕ). length (kept bytes) + n) (length-replicate {A = ℕ} (zeros (reverse bytes)) 0)

trimmed_is : (bytes : List ℕ) → trimmed bytes ≡ kept bytes
trimmed_is bytes =
    let count : length bytes - zeros (reverse bytes) ≡ length (kept bytes) = omega (arith, long bytes) in
    ap (λ (n : ℕ). take n bytes) count ∙ ap (λ (l : List ℕ). take (length (kept bytes)) l) (sym (split bytes)) ∙ take_at (kept bytes) (blanks (zeros (reverse bytes))) (length (kept bytes)) refl

pub short : (bytes : List ℕ) → length (trimmed bytes) ≤ length bytes
short bytes = rw (trimmed_is bytes) (omega (arith, long bytes))

-- a list is its trimmed part, and zeros
pub ends_in_zeros : (bytes : List ℕ) → trimmed bytes ++ blanks (length bytes - length (trimmed bytes)) ≡ bytes
ends_in_zeros bytes =
    let count : length bytes - length (kept bytes) ≡ zeros (reverse bytes) = omega (arith, long bytes) in
    ap (λ (l : List ℕ). l ++ blanks (length bytes - length l)) (trimmed_is bytes) ∙ ap (λ (n : ℕ). kept bytes ++ blanks n) count ∙ split bytes
