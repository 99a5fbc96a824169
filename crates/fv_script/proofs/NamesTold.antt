-- Giving out names.
use Rattle.std.proofs.Common.{◌≡◌, ℕ, ◌+◌, ◌*◌, ◌≤◌, ◌<◌, ◌++◌, true, List, [], ◌∷◌, length, take, drop, get_or, refl, ap, sym, ◌∙◌, arith, append_assoc, append-nil}
use Rattle.std.proofs.lemmas.List.{take_all, take_more, take-append-drop}
use Rattle.std.proofs.lemmas.Grind.{flat_map-append}
use Rattle.std.specs.Prelude.{Result, Ok, Err}
use Rattle.std.specs.List.{join_with_byte}
use Rattle.fv_disk.specs.declared.Failed.{Failed}
use Rattle.fv_disk.specs.Shown.{Shown, IsDisk}
use Rattle.fv_model.specs.declared.answers.Reply.TheVariants.{Names}
use Rattle.fv_model.specs.Spelling.{is_name}
use Rattle.fv_model.specs.Texts.{text, or_dash, words}
use Rattle.fv_script.specs.Telling.{Tells}
use Rattle.fv_script.specs.Spelled.{before_spaces}
use Rattle.fv_script.proofs.Told.{told, both, stopped, nothing}

-- ---- one piece

-- the first i names, each with a space behind it
pub record Spaced (piece : List ℕ) (names : List (List ℕ)) (i : ℕ) : Type 0 where
  pub done : piece ≡ before_spaces (take i names)
  pub long : length piece ≤ 65 * i

pub none_spaced : (names : List (List ℕ)) → Spaced [] names 0
none_spaced names = record { done = refl; long = omega arith }

pub one_more : (piece more : List ℕ) (names : List (List ℕ)) (i : ℕ) (name : List ℕ) → Spaced piece names i → i < length names → name ≡ get_or names i name
    → more ≡ piece ++ (name ++ 32 ∷ []) → length more ≤ length piece + 65 → Spaced more names (i + 1)
one_more piece more names i name so_far inside at is long =
    let front : take (i + 1) names ≡ take i names ++ name ∷ [] = take_more names i name inside ∙ ap (λ (n : List ℕ). take i names ++ n ∷ []) (sym at) in
    let one : before_spaces (name ∷ []) ≡ name ++ 32 ∷ [] = append-nil (name ++ 32 ∷ []) in
    record {
      done = is ∙ ap (λ (l : List ℕ). l ++ (name ++ 32 ∷ [])) so_far.done
          ∙ sym (ap before_spaces front ∙ flat_map-append (λ (n : List ℕ). n ++ 32 ∷ []) (take i names) (name ∷ []) ∙ ap (λ (l : List ℕ). before_spaces (take i names) ++ l) one);
      long = omega (arith, so_far.long, long);
    }

pub all_spaced : (piece : List ℕ) (names : List (List ℕ)) (i : ℕ) → Spaced piece names i → length names ≤ i → piece ≡ before_spaces names
all_spaced piece names i so_far past = so_far.done ∙ ap before_spaces (take_all i names past)

-- ---- all pieces

-- the bytes of some names and of more of them
spaced_on : (front more : List (List ℕ)) → before_spaces front ++ before_spaces more ≡ before_spaces (front ++ more)
spaced_on front more = sym (flat_map-append (λ (n : List ℕ). n ++ 32 ∷ []) front more)

-- names that were given, each with a space behind it, and those that are left of the ones before the last
pub record HasGiven (old : Shown) (names : List (List ℕ)) (last : List ℕ) (now : Shown) (rest : List (List ℕ)) : Type 0 where
  pub front : List (List ℕ)
  pub all : names ≡ front ++ (rest ++ last ∷ [])
  pub named : is_name last ≡ true
  pub tells : Tells old (before_spaces front) now (Ok tt)

pub begins : (disk : Shown) (names others : List (List ℕ)) (name last : List ℕ) → IsDisk disk → names ≡ others ++ name ∷ [] → last ≡ name → is_name name ≡ true → HasGiven disk names last disk others
begins disk names others name last laws are is named = record {
  front = [];
  all = are ∙ ap (λ (n : List ℕ). others ++ n ∷ []) (sym is);
  named = ap is_name is ∙ named;
  tells = nothing disk laws;
}

-- the names left are those of the next piece and others
cut : (front rest : List (List ℕ)) (last : List ℕ) (n : ℕ) → front ++ (rest ++ last ∷ []) ≡ (front ++ take n rest) ++ (drop n rest ++ last ∷ [])
cut front rest last n =
    ap (λ (l : List (List ℕ)). front ++ (l ++ last ∷ [])) (sym (take-append-drop n rest)) ∙ ap (λ (l : List (List ℕ)). front ++ l) (append_assoc (take n rest) (drop n rest) (last ∷ []))
    ∙ sym (append_assoc front (take n rest) (drop n rest ++ last ∷ []))

pub gave : (old mid new : Shown) (names rest : List (List ℕ)) (last piece : List ℕ) (n : ℕ) → HasGiven old names last mid rest → piece ≡ before_spaces (take n rest) → Tells mid piece new (Ok tt)
    → HasGiven old names last new (drop n rest)
gave old mid new names rest last piece n so_far is tells = record {
  front = so_far.front ++ take n rest;
  all = so_far.all ∙ cut so_far.front rest last n;
  named = so_far.named;
  tells = told old new (before_spaces so_far.front ++ piece) (before_spaces (so_far.front ++ take n rest)) (Ok tt) (both old mid new (before_spaces so_far.front) piece (Ok tt) so_far.tells tells)
      (ap (λ (l : List ℕ). before_spaces so_far.front ++ l) is ∙ spaced_on so_far.front (take n rest));
}

-- ---- the line

joined : (others : List (List ℕ)) (last : List ℕ) → join_with_byte 32 (others ++ last ∷ []) ≡ before_spaces others ++ last
joined [] last = refl
joined (first ∷ []) last = sym (ap (λ (l : List ℕ). l ++ last) (append-nil (first ++ 32 ∷ [])) ∙ append_assoc first (32 ∷ []) last)
joined (first ∷ second ∷ others) last =
    ap (λ (l : List ℕ). first ++ (32 ∷ l)) (joined (second ∷ others) last)
    ∙ sym (append_assoc (first ++ 32 ∷ []) (before_spaces (second ∷ others)) last ∙ append_assoc first (32 ∷ []) (before_spaces (second ∷ others) ++ last))

some_last : (front name : List ℕ) → is_name name ≡ true → or_dash (front ++ name) ≡ front ++ name
some_last [] [] named = cc
some_last [] (b ∷ name) named = refl
some_last (b ∷ front) name named = refl

names_text : (names others : List (List ℕ)) (last : List ℕ) → names ≡ others ++ last ∷ [] → is_name last ≡ true → before_spaces others ++ (last ++ 10 ∷ []) ≡ text (Names names)
unfolding words
names_text names others last are named =
    sym (ap (λ (n : List (List ℕ)). or_dash (join_with_byte 32 n) ++ 10 ∷ []) are ∙ ap (λ (l : List ℕ). or_dash l ++ 10 ∷ []) (joined others last)
    ∙ ap (λ (l : List ℕ). l ++ 10 ∷ []) (some_last (before_spaces others) last named) ∙ append_assoc (before_spaces others) last (10 ∷ []))

-- what was given, what is left of the names before the last, and the end of the line
whole_line : (names front rest : List (List ℕ)) (last : List ℕ) → names ≡ front ++ (rest ++ last ∷ []) → is_name last ≡ true → before_spaces front ++ (before_spaces rest ++ (last ++ 10 ∷ [])) ≡ text (Names names)
whole_line names front rest last all named =
    sym (append_assoc (before_spaces front) (before_spaces rest) (last ++ 10 ∷ [])) ∙ ap (λ (l : List ℕ). l ++ (last ++ 10 ∷ [])) (spaced_on front rest)
    ∙ names_text names (front ++ rest) last (all ∙ sym (append_assoc front rest (last ∷ []))) named

pub gave_last : (old mid new : Shown) (names rest : List (List ℕ)) (last piece : List ℕ) (result : Result Unit Failed) → HasGiven old names last mid rest → piece ≡ before_spaces rest ++ (last ++ 10 ∷ []) → Tells mid piece new result
    → Tells old (text (Names names)) new result
gave_last old mid new names rest last piece result so_far is tells =
    told old new (before_spaces so_far.front ++ piece) (text (Names names)) result (both old mid new (before_spaces so_far.front) piece result so_far.tells tells)
    (ap (λ (l : List ℕ). before_spaces so_far.front ++ l) is ∙ whole_line names so_far.front rest last so_far.all so_far.named)

-- a piece before the last failed
pub stopped_within : (old mid new : Shown) (names rest : List (List ℕ)) (last piece : List ℕ) (n : ℕ) (e : Failed) → HasGiven old names last mid rest → piece ≡ before_spaces (take n rest) → Tells mid piece new (Err e)
    → Tells old (text (Names names)) new (Err e)
stopped_within old mid new names rest last piece n e so_far is tells =
    let left : List ℕ = before_spaces (drop n rest) in
    let all : piece ++ left ≡ before_spaces rest = ap (λ (l : List ℕ). l ++ left) is ∙ spaced_on (take n rest) (drop n rest) ∙ ap before_spaces (take-append-drop n rest) in
    gave_last old mid new names rest last ((piece ++ left) ++ (last ++ 10 ∷ [])) (Err e) so_far (ap (λ (l : List ℕ). l ++ (last ++ 10 ∷ [])) all)
    (stopped mid new (piece ++ left) (last ++ 10 ∷ []) e (stopped mid new piece left e tells))
