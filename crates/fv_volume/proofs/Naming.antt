-- The name that a field of a label spells, and the field that a name is spelled by.
use Rattle.std.proofs.Common.{◌≡◌, ◌≤◌, ℕ, zero, suc, Bool, true, false, List, [], ◌∷◌, ◌++◌, length, length-take-le, take, drop, replicate, Some, refl, sym, ap, ◌∙◌, arith}
use Rattle.std.specs.Prelude.{Ok, Err, ◌-◌, ◌&&◌, if◌then◌else◌}
use Rattle.std.specs.List.{list_all}
use Rattle.std.proofs.Math.Seq.{drop-append_seam, take-append_seam}
use Rattle.std.proofs.lemmas.Bool.{and_parts}
use Rattle.std.proofs.lemmas.Bool.Decides.{nat_tests}
use Rattle.std.proofs.lemmas.List.{drop-replicate}
use Rattle.fv_codec.specs.Fields.{all_name, all_zero, is_name_byte, name_filled, ◌then◌}
use Rattle.fv_codec.proofs.Ranges.{then_ok}
use Rattle.fv_model.specs.Spelling.{is_name, is_name_byte as is_letter}

pub same_byte : (x : ℕ) → is_name_byte x ≡ is_letter x
same_byte x = grind (arith, nat_tests)

letters : (xs : List ℕ) → all_name xs ≡ Ok tt → list_all is_letter xs ≡ true
unfolding all_name
letters [] fine = refl
letters (x ∷ xs) fine =
    let both = either (is_name_byte x) fine in
    ap (λ t. t && list_all is_letter xs) (sym (same_byte x) ∙ both.0) ∙ letters xs both.1
  where
    either : (t : Bool) → (if t then all_name xs else Err (record { want = 97; found = x })) ≡ Ok tt → (t ≡ true) × (all_name xs ≡ Ok tt)
    either true e = (refl, e)
    either false e = cc

pub named : (field : List ℕ) (n : ℕ) → length field ≡ 64 → 1 ≤ n → n ≤ 64 → name_filled n field ≡ Ok tt → is_name (take n field) ≡ true
unfolding name_filled
named field n long least greatest is =
    let all : list_all is_letter (take n field) ≡ true = letters _ (then_ok _ _ is).0 in
    let count : length (take n field) ≡ n = length-take-le n field (omega (arith, long, greatest)) in
    grind (arith, nat_tests, all, count, least, greatest)

pub same_some : (a b : List ℕ) → Some a ≡ Some b → a ≡ b
same_some a b e = cc

pub zeros_left : (n : ℕ) → drop {A = ℕ} n (replicate 64 0) ≡ replicate (64 - n) 0
zeros_left n = drop-replicate n 64 0

-- ---- a name, filled up with zero bytes

spelled : (xs : List ℕ) → list_all is_letter xs ≡ true → all_name xs ≡ Ok tt
unfolding all_name
spelled [] all = refl
spelled (x ∷ xs) all =
    let parts = and_parts (is_letter x) (list_all is_letter xs) all in
    rw (same_byte x, parts.0) (spelled xs parts.1)

pub zeros : (n : ℕ) → all_zero (replicate n 0) ≡ Ok tt
unfolding all_zero
zeros zero = refl
zeros (suc n) = zeros n

pub parts : (w : List ℕ) → is_name w ≡ true → (1 ≤ length w) × ((length w ≤ 64) × (list_all is_letter w ≡ true))
parts w is = grind (arith, nat_tests, is)

pub filled : (w : List ℕ) → is_name w ≡ true → name_filled (length w) (w ++ replicate (64 - length w) 0) ≡ Ok tt
unfolding name_filled
filled w is =
    let field = w ++ replicate (64 - length w) 0 in
    let first : all_name (take (length w) field) ≡ Ok tt = ap all_name (take-append_seam w (replicate (64 - length w) 0)) ∙ spelled w (parts w is).1.1 in
    let rest : all_zero (drop (length w) field) ≡ Ok tt = ap all_zero (drop-append_seam w (replicate (64 - length w) 0)) ∙ zeros (64 - length w) in
    (λ i. first i then rest i)
