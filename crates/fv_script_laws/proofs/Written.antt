-- Words that are written of names, kinds, numbers and tables.
use Rattle.std.proofs.Common.{◌≡◌, ℕ, ◌+◌, ◌-◌, ◌*◌, ◌<◌, ◌^◌, Bool, true, false, List, [], ◌∷◌, length, get_or, refl, ap, ◌∙◌, arith}
use Rattle.std.specs.Prelude.{nat_eq, nat_le, not, ◌&&◌, fold, decimal, Option, Some, None}
use Rattle.std.specs.Char.{is_ascii_digit, digit_value}
use Rattle.std.specs.Str.Parse.{AllDigits, digits_value_after}
use Rattle.std.specs.List.{list_all, All}
use Rattle.std.proofs.lemmas.Bool.{and_parts}
use Rattle.std.proofs.lemmas.Bool.Decides.{nat_tests}
use Rattle.std.proofs.lemmas.Fmt.{decimal_is_IsNumeral}
use Rattle.std.proofs.lemmas.List.Folds.{list_all_at}
use Rattle.std.proofs.lemmas.List.Splits.{slice_split_at, slice_split_none}
use Rattle.fv_model.specs.declared.commands.Kind.{Kind}
use Rattle.fv_model.specs.declared.commands.Kind.TheVariants.{Volume as Whole, File as ByFile, Thin}
use Rattle.fv_model.specs.Spelling.{is_name_byte}
use Rattle.fv_model.specs.Texts.{kind_text}
use Rattle.fv_model.specs.Words.{name_of, count_of, kind_of, table_in, table_of, value_of}
use Rattle.fv_script_laws.specs.Show.{Named, NamedOrNone, table_word}
use Rattle.fv_script_laws.specs.Laws.{ReadsBack}
use Rattle.fv_script_laws.proofs.Hexes.{block_reads}

pub name_reads : (v : List ℕ) → Named v → name_of v ≡ Some v
unfolding name_of
name_reads v named = rw named refl

pub kind_reads : (k : Kind) → kind_of (kind_text k) ≡ Some k
unfolding kind_of
kind_reads Whole = refl
kind_reads ByFile = refl
kind_reads Thin = refl

-- decimal digits

digit_is : (c : ℕ) → digit_value c < 10 → is_ascii_digit c ≡ true
digit_is c below = grind (arith, nat_tests)

digit_worth : (c : ℕ) → digit_value c < 10 → digit_value c ≡ c - 48
digit_worth c below = grind (arith, nat_tests)

pub digits_all : (digits : List ℕ) → AllDigits 10 digits → list_all is_ascii_digit digits ≡ true
digits_all [] all = refl
digits_all (c ∷ digits) all = rw (digit_is c all.0, digits_all digits all.1) refl

worth : (digits : List ℕ) (n : ℕ) → AllDigits 10 digits → fold (λ value digit. 10 * value + (digit - 48)) n digits ≡ digits_value_after 10 n digits
worth [] n all = refl
worth (c ∷ digits) n all =
    let same : 10 * n + (c - 48) ≡ n * 10 + digit_value c = omega (arith, digit_worth c all.0) in
    rw same (worth digits (n * 10 + digit_value c) all.1)

pub number_reads : (n : ℕ) → n < 2 ^ 64 → count_of (decimal n) ≡ Some n
unfolding count_of
number_reads n small =
    let is = decimal_is_IsNumeral n small in
    let some : nat_le 1 (length (decimal n)) ≡ true = let long = is.0.0 in grind (arith, nat_tests) in
    let value : value_of (decimal n) ≡ n = worth (decimal n) 0 is.0.1 ∙ is.1 in
    rw (some, digits_all (decimal n) is.0.1, value) refl

-- bytes that no name has

other_by : (c x : ℕ) (t : Bool) → nat_eq c x ≡ t → is_name_byte c ≡ true → is_name_byte x ≡ false → nat_eq c x ≡ false
other_by c x true e named other = let same : c ≡ x = grind (arith, nat_tests) in absurd (differ (ap is_name_byte same))
  where
    differ : is_name_byte c ≡ is_name_byte x → ⊥
    differ e = cc
other_by c x false e named other = e

pub implied : (p q : ℕ → Bool) → ((c : ℕ) → p c ≡ true → q c ≡ true) → (l : List ℕ) → list_all p l ≡ true → list_all q l ≡ true
implied p q each [] all = refl
implied p q each (c ∷ l) all = let both = and_parts (p c) (list_all p l) all in rw (each c both.0, implied p q each l both.1) refl

pub none_of : (x : ℕ) (l : List ℕ) → list_all (λ b. not (nat_eq b x)) l ≡ true → All (λ b. nat_eq b x ≡ false) l
none_of x l all = λ k d inside. by_test k d inside (nat_eq (get_or l k d) x) refl
  where
    by_test : (k d : ℕ) → k < length l → (t : Bool) → nat_eq (get_or l k d) x ≡ t → nat_eq (get_or l k d) x ≡ false
    by_test k d inside false e = e
    by_test k d inside true e = let no = list_all_at (λ b. not (nat_eq b x)) l k d inside (rw e refl) in cc

pub letters_of : (v : List ℕ) → Named v → list_all is_name_byte v ≡ true
letters_of v named = (and_parts (nat_le 1 (length v) && nat_le (length v) 64) (list_all is_name_byte v) named).1

pub without : (x : ℕ) → is_name_byte x ≡ false → (v : List ℕ) → Named v → list_all (λ b. not (nat_eq b x)) v ≡ true
without x other v named = implied is_name_byte (λ b. not (nat_eq b x)) (λ c is. ap not (other_by c x (nat_eq c x) refl is other)) v (letters_of v named)

pub table_reads : (v : List ℕ) (s : Option (List ℕ)) → Named v → NamedOrNone s → table_of (table_word v s) ≡ Some (v, s)
unfolding table_of
table_reads v None named none = ap table_in (slice_split_none (λ b. nat_eq b 64) v (none_of 64 v (without 64 refl v named))) ∙ rw named refl
table_reads v (Some s) named also =
    ap table_in (slice_split_at (λ b. nat_eq b 64) v 64 s (none_of 64 v (without 64 refl v named)) refl
    ∙ ap (λ (l : List (List ℕ)). v ∷ l) (slice_split_none (λ b. nat_eq b 64) s (none_of 64 s (without 64 refl s also)))) ∙ rw (named, also) refl

pub reads_back : ReadsBack
reads_back = record { names = name_reads; kinds = kind_reads; numbers = number_reads; tables = table_reads; blocks = block_reads }
