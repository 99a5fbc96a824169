-- What lists of words mean, by their length.
use Rattle.std.proofs.Common.{◌≡◌, ℕ, ◌<◌, ◌≤◌, cond, List, [], ◌∷◌, length, get_or, map, refl, sym, ◌∙◌, arith}
use Rattle.std.specs.Prelude.{codes, bytes_eq, Option, Some, None}
use Rattle.std.specs.Option.{option_map, ok_or}
use Rattle.fv_script.specs.CommandLine.{blocks_of, draws_of, seed_of}
use Rattle.fv_run.specs.Meaning.{create, generation, meaning, Means}
use Rattle.fv_run.specs.declared.words.Order.{Order}
use Rattle.fv_run.specs.declared.words.Order.TheVariants.{Check, Run}
use Rattle.fv_run.specs.declared.words.WordsFault.TheVariants.{Usage}

module _ {X : Type 0} (text : X → List ℕ) where
  pub none : (words : List X) → length words < 1 → meaning (map text words) ≡ None
  unfolding meaning
  none [] below = refl
  none (a ∷ more) below = absurd (omega arith)

  pub one : (words : List X) (command : X) → 1 ≤ length words → length words < 2 → command ≡ get_or words 0 command
      → meaning (map text words) ≡ cond (bytes_eq (text command) (codes "run")) (Some Run) (cond (bytes_eq (text command) (codes "check")) (Some Check) None)
  unfolding meaning
  one [] command least below first = absurd (omega arith)
  one (a ∷ []) command least below first = rw first refl
  one (a ∷ b ∷ more) command least below first = absurd (omega arith)

  pub same_first : (words : List X) (first again : X) → 1 ≤ length words → first ≡ get_or words 0 first → again ≡ get_or words 0 again → first ≡ again
  same_first [] first again least is also = absurd (omega arith)
  same_first (a ∷ more) first again least is also = is ∙ sym also

  pub many : (words : List X) → 4 ≤ length words → meaning (map text words) ≡ None
  unfolding meaning
  many [] least = absurd (omega arith)
  many (a ∷ []) least = absurd (omega arith)
  many (a ∷ b ∷ []) least = absurd (omega arith)
  many (a ∷ b ∷ c ∷ []) least = absurd (omega arith)
  many (a ∷ b ∷ c ∷ d ∷ more) least = refl

  pub two : (words : List X) (command size : X) → 2 ≤ length words → length words < 3 → command ≡ get_or words 0 command → size ≡ get_or words 1 size
      → meaning (map text words) ≡ cond (bytes_eq (text command) (codes "create")) (option_map create (blocks_of (text size))) None
  unfolding meaning
  two [] command size least below first second = absurd (omega arith)
  two (a ∷ []) command size least below first second = absurd (omega arith)
  two (a ∷ b ∷ []) command size least below first second = rw (first, second) refl
  two (a ∷ b ∷ c ∷ more) command size least below first second = absurd (omega arith)

  pub three : (words : List X) (command seed count : X) → 3 ≤ length words → length words < 4 → command ≡ get_or words 0 command → seed ≡ get_or words 1 seed → count ≡ get_or words 2 count
      → meaning (map text words) ≡ cond (bytes_eq (text command) (codes "gen")) (generation (seed_of (text seed)) (draws_of (text count))) None
  unfolding meaning
  three [] command seed count least below first second third = absurd (omega arith)
  three (a ∷ []) command seed count least below first second third = absurd (omega arith)
  three (a ∷ b ∷ []) command seed count least below first second third = absurd (omega arith)
  three (a ∷ b ∷ c ∷ []) command seed count least below first second third = rw (first, second, third) refl
  three (a ∷ b ∷ c ∷ d ∷ more) command seed count least below first second third = absurd (omega arith)

pub means_or_usage : (words : List (List ℕ)) (order : Option Order) → meaning words ≡ order → Means words (ok_or order Usage)
means_or_usage words (Some order) is = is
means_or_usage words None is = is
