-- Lists of lines for the numbered pairs of two rows, pair by pair.
use Rattle.std.proofs.Common.{◌≡◌, ℕ, ◌+◌, ◌<◌, List, [], ◌∷◌, ◌++◌, length, get_or, take, sym, ap, ◌∙◌, arith}
use Rattle.std.specs.Prelude.{flat_map}
use Rattle.std.specs.List.{enumerate_from, zip}
use Rattle.std.proofs.lemmas.List.{take_more, length-take-le, take_all, append_assoc, append-nil}
use Rattle.std.proofs.lemmas.Grind.{flat_map-append}
use Rattle.std.proofs.lemmas.Slice.Zip.{get_or-zip, length-zip}

enumerate_split : {X : Type 0} → (xs ys : List X) (n : ℕ) → enumerate_from n (xs ++ ys) ≡ enumerate_from n xs ++ enumerate_from (n + length xs) ys
enumerate_split [] ys n = ap (λ k. enumerate_from k ys) (let e : n ≡ n + 0 = omega arith in e)
enumerate_split (x ∷ xs) ys n = ap (λ es. (n, x) ∷ es) (enumerate_split xs ys (n + 1) ∙ ap (λ k. enumerate_from (n + 1) xs ++ enumerate_from k ys) (let e : n + 1 + length xs ≡ n + length (x ∷ xs) = omega arith in e))

-- one pair more
pub lines_more : {A : Type 0} → (f : ℕ × (ℕ × ℕ) → List A) (n c : ℕ) (xs ys : List ℕ) (d e : ℕ) → c < length xs → length ys ≡ length xs
    → flat_map f (enumerate_from n (take (c + 1) (zip xs ys))) ≡ flat_map f (enumerate_from n (take c (zip xs ys))) ++ f (n + c, (get_or xs c d, get_or ys c e))
lines_more f n c xs ys d e low same =
    let wide : c < length (zip xs ys) = omega (arith, low, same, length-zip xs ys) in
    let long : length (take c (zip xs ys)) ≡ c = length-take-le c (zip xs ys) (omega (arith, wide)) in
    ap (λ zs. flat_map f (enumerate_from n zs)) (take_more (zip xs ys) c (d, e) wide)
    ∙ ap (flat_map f) (enumerate_split (take c (zip xs ys)) (get_or (zip xs ys) c (d, e) ∷ []) n)
    ∙ flat_map-append f (enumerate_from n (take c (zip xs ys))) (enumerate_from (n + length (take c (zip xs ys))) (get_or (zip xs ys) c (d, e) ∷ []))
    ∙ ap (λ ls. flat_map f (enumerate_from n (take c (zip xs ys))) ++ ls)
    (append-nil (f (n + length (take c (zip xs ys)), get_or (zip xs ys) c (d, e)))
    ∙ ap (λ k. f (n + k, get_or (zip xs ys) c (d, e))) long
    ∙ ap (λ x. f (n + c, x)) (get_or-zip xs ys c (d, e) low (omega (arith, low, same))))

-- all pairs
pub lines_all : {A : Type 0} → (f : ℕ × (ℕ × ℕ) → List A) (n c : ℕ) (xs ys : List ℕ) → length xs ≡ c → length ys ≡ c → flat_map f (enumerate_from n (take c (zip xs ys))) ≡ flat_map f (enumerate_from n (zip xs ys))
lines_all f n c xs ys a b = ap (λ zs. flat_map f (enumerate_from n zs)) (take_all c (zip xs ys) (omega (arith, a, b, length-zip xs ys)))

-- a step, as the program makes it
pub lines_step : {A : Type 0} → (f : ℕ × (ℕ × ℕ) → List A) (n c : ℕ) (xs ys : List ℕ) (old now next : List A) → c < length xs → length ys ≡ length xs
    → now ≡ old ++ flat_map f (enumerate_from n (take c (zip xs ys))) → next ≡ now ++ f (n + c, (get_or xs c 0, get_or ys c 0))
    → next ≡ old ++ flat_map f (enumerate_from n (take (c + 1) (zip xs ys)))
lines_step f n c xs ys old now next low same is one =
    one
    ∙ ap (λ ls. ls ++ f (n + c, (get_or xs c 0, get_or ys c 0))) is
    ∙ append_assoc old (flat_map f (enumerate_from n (take c (zip xs ys)))) (f (n + c, (get_or xs c 0, get_or ys c 0)))
    ∙ ap (λ ls. old ++ ls) (sym (lines_more f n c xs ys 0 0 low same))
