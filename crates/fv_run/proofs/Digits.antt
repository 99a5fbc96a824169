-- A line of a fault: its parts in their order, and hexadecimal digits that are added byte by byte.
use Rattle.std.proofs.Common.{◌≡◌, ℕ, ◌+◌, ◌*◌, ◌<◌, ◌≤◌, ◌/◌, ◌%◌, ◌++◌, List, [], ◌∷◌, length, take, get_or, ap, sym, ◌∙◌, arith, append_assoc, append-nil}
use Rattle.std.specs.Prelude.{flat_map}
use Rattle.std.proofs.lemmas.List.{take_all, take_more, length-append}
use Rattle.std.proofs.lemmas.Grind.{flat_map-append}
use Rattle.fv_model.specs.Texts.{hex, hex_digit}

-- the digits of the first i bytes stand behind what was there
pub record Spelled (before bytes : List ℕ) (i : ℕ) (line : List ℕ) : Type 0 where
  pub done : line ≡ before ++ flat_map hex (take i bytes)
  pub long : length line ≡ length before + 2 * i

pub begins : (before bytes : List ℕ) → Spelled before bytes 0 before
begins before bytes = record { done = sym (append-nil before); long = omega arith }

pub turn : (before bytes line : List ℕ) (i byte : ℕ) → Spelled before bytes i line → i < length bytes → byte ≡ get_or bytes i 0
    → Spelled before bytes (i + 1) ((line ++ hex_digit (byte / 16) ∷ []) ++ hex_digit (byte % 16) ∷ [])
turn before bytes line i byte so_far inside is =
    let more : take (i + 1) bytes ≡ take i bytes ++ byte ∷ [] = take_more bytes i 0 inside ∙ ap (λ b. take i bytes ++ b ∷ []) (sym is) in
    record {
      done = append_assoc line (hex_digit (byte / 16) ∷ []) (hex_digit (byte % 16) ∷ []) ∙ ap (λ (l : List ℕ). l ++ hex byte) so_far.done
          ∙ append_assoc before (flat_map hex (take i bytes)) (hex byte)
          ∙ ap (λ (l : List ℕ). before ++ l) (sym (ap (flat_map hex) more ∙ flat_map-append hex (take i bytes) (byte ∷ [])));
      long = omega (arith, so_far.long, length-append (line ++ hex_digit (byte / 16) ∷ []) (hex_digit (byte % 16) ∷ []), length-append line (hex_digit (byte / 16) ∷ []));
    }

pub ended : (before bytes line : List ℕ) (i : ℕ) → Spelled before bytes i line → length bytes ≤ i → line ≡ before ++ flat_map hex bytes
ended before bytes line i so_far past = so_far.done ∙ ap (λ (l : List ℕ). before ++ flat_map hex l) (take_all i bytes past)

-- what was added part by part, grouped as the text is
pub regrouped : (front first second third fourth : List ℕ)
    → ((((((((front ++ first) ++ 32 ∷ []) ++ second) ++ 32 ∷ []) ++ third) ++ 32 ∷ []) ++ fourth) ++ 10 ∷ [])
    ≡ front ++ (first ++ (32 ∷ (second ++ (32 ∷ (third ++ (32 ∷ (fourth ++ 10 ∷ [])))))))
regrouped front first second third fourth =
    let space : List ℕ = 32 ∷ [] in
    let one : List ℕ = fourth ++ 10 ∷ [] in
    let two : List ℕ = third ++ (32 ∷ one) in
    let three : List ℕ = second ++ (32 ∷ two) in
    append_assoc (((((((front ++ first) ++ space) ++ second) ++ space) ++ third) ++ space)) fourth (10 ∷ [])
    ∙ append_assoc ((((((front ++ first) ++ space) ++ second) ++ space) ++ third)) space one
    ∙ append_assoc (((((front ++ first) ++ space) ++ second) ++ space)) third (space ++ one)
    ∙ append_assoc ((((front ++ first) ++ space) ++ second)) space two
    ∙ append_assoc (((front ++ first) ++ space)) second (space ++ two)
    ∙ append_assoc ((front ++ first)) space three
    ∙ append_assoc front first (space ++ three)
