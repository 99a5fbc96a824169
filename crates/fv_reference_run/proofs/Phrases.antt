-- What lists of words mean, by their length.
use Rattle.std.proofs.Common.{◌≡◌, ℕ, ◌<◌, ◌≤◌, cond, List, [], ◌∷◌, length, get_or, map, refl, arith}
use Rattle.std.specs.Prelude.{codes, bytes_eq, Option, Some, None}
use Rattle.std.specs.Option.{option_map, ok_or}
use Rattle.fv_script.specs.CommandLine.{blocks_of, draws_of, seed_of}
use Rattle.fv_reference_run.specs.Meaning.{answer, printed, meaning, Means}
use Rattle.fv_reference_run.specs.declared.words.Order.{Order}
use Rattle.fv_reference_run.specs.declared.words.WordsFault.TheVariants.{Usage}

module _ {X : Type 0} (text : X → List ℕ) where
  pub few : (words : List X) → length words < 1 → meaning (map text words) ≡ None
  unfolding meaning
  few [] below = refl
  few (a ∷ more) below = absurd (omega arith)

  pub many : (words : List X) → 4 ≤ length words → meaning (map text words) ≡ None
  unfolding meaning
  many [] least = absurd (omega arith)
  many (a ∷ []) least = absurd (omega arith)
  many (a ∷ b ∷ []) least = absurd (omega arith)
  many (a ∷ b ∷ c ∷ []) least = absurd (omega arith)
  many (a ∷ b ∷ c ∷ d ∷ more) least = refl

  pub two : (words : List X) → 2 ≤ length words → length words < 3 → meaning (map text words) ≡ None
  unfolding meaning
  two [] least below = absurd (omega arith)
  two (a ∷ []) least below = absurd (omega arith)
  two (a ∷ b ∷ []) least below = refl
  two (a ∷ b ∷ c ∷ more) least below = absurd (omega arith)

  pub one : (words : List X) (size : X) → 1 ≤ length words → length words < 2 → size ≡ get_or words 0 size → meaning (map text words) ≡ option_map answer (blocks_of (text size))
  unfolding meaning
  one [] size least below first = absurd (omega arith)
  one (a ∷ []) size least below first = rw first refl
  one (a ∷ b ∷ more) size least below first = absurd (omega arith)

  pub three : (words : List X) (command seed count : X) → 3 ≤ length words → length words < 4 → command ≡ get_or words 0 command → seed ≡ get_or words 1 seed → count ≡ get_or words 2 count
      → meaning (map text words) ≡ cond (bytes_eq (text command) (codes "gen")) (printed (seed_of (text seed)) (draws_of (text count))) None
  unfolding meaning
  three [] command seed count least below first second third = absurd (omega arith)
  three (a ∷ []) command seed count least below first second third = absurd (omega arith)
  three (a ∷ b ∷ []) command seed count least below first second third = absurd (omega arith)
  three (a ∷ b ∷ c ∷ []) command seed count least below first second third = rw (first, second, third) refl
  three (a ∷ b ∷ c ∷ d ∷ more) command seed count least below first second third = absurd (omega arith)

pub means_or_usage : (words : List (List ℕ)) (order : Option Order) → meaning words ≡ order → Means words (ok_or order Usage)
means_or_usage words (Some order) is = is
means_or_usage words None is = is
