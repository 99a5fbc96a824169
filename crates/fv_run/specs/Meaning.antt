-- What the words of the command line mean.
use Rattle.std.specs.Prelude.{◌≡◌, ℕ, List, [], ◌∷◌, codes, bytes_eq, Option, Some, None, Result, Ok, Err, if◌then◌else◌}
use Rattle.std.specs.Option.{option_map}
use Rattle.fv_script.specs.CommandLine.{blocks_of, draws_of, seed_of}
use Rattle.fv_run.specs.declared.words.Order.{Order}
use Rattle.fv_run.specs.declared.words.Order.TheVariants.{Check, Create, Gen, Run}
use Rattle.fv_run.specs.declared.words.WordsFault.{WordsFault}

abbrev pub create : ℕ → Order
create blocks = Create blocks

-- a seed and a number of drawn commands
abbrev pub generation : Option ℕ → Option ℕ → Option Order
generation (Some seed) (Some count) = Some (Gen seed count)
generation seed count = None

-- `run`; `check`; `create` and a number of blocks from 512 to 1,048,576; or `gen`, a seed below 2^64 and a number of commands of at most 1,000,000. Every
-- other list of words has no meaning.
unfoldable pub meaning : List (List ℕ) → Option Order
meaning [] = None
meaning (command ∷ []) = if bytes_eq command (codes "run") then Some Run else if bytes_eq command (codes "check") then Some Check else None
meaning (command ∷ size ∷ []) = if bytes_eq command (codes "create") then option_map create (blocks_of size) else None
meaning (command ∷ seed ∷ count ∷ []) = if bytes_eq command (codes "gen") then generation (seed_of seed) (draws_of count) else None
meaning (command ∷ first ∷ second ∷ other ∷ others) = None

-- the order that the words mean, and a fault exactly where they mean none
abbrev pub Means : List (List ℕ) → Result Order WordsFault → Type 0
Means words (Ok order) = meaning words ≡ Some order
Means words (Err fault) = meaning words ≡ None
