-- What is asked for, and what comes of it.
use Rattle.std.proofs.Common.{◌≡◌, ℕ, Bool, true, false, cond, List, [], ◌∷◌, refl, ap, subst, arith}
use Rattle.std.specs.Prelude.{Option, Some, None, Result, Err, codes, bytes_eq, nat_le, ◌&&◌, length}
use Rattle.std.specs.Option.{option_map}
use Rattle.std.proofs.lemmas.Bool.{and_parts}
use Rattle.std.proofs.lemmas.Bool.Decides.{nat_tests}
use Rattle.fv_disk.specs.Shown.{Shown}
use Rattle.fv_root.specs.Formatted.{IsSize}
use Rattle.fv_model.specs.Words.{is_number, value_of}
use Rattle.fv_script.specs.CommandLine.{blocks_of, draws_of, is_aggregate_size, seed_of}
use Rattle.fv_run.specs.declared.ending.Fault.{Fault}
use Rattle.fv_run.specs.declared.ending.Fault.TheVariants.{Usage}
use Rattle.fv_run.specs.declared.words.Order.{Order}
use Rattle.fv_run.specs.declared.words.Order.TheVariants.{Check, Create, Gen, Run}
use Rattle.fv_run.specs.Meaning.{create, generation, meaning}
use Rattle.fv_run.specs.Checking.{IsChecked}
use Rattle.fv_run.specs.Creating.{Creates}
use Rattle.fv_run.specs.Generating.{Generates, lines_drawn}
use Rattle.fv_run.specs.Running.{Ran}
use Rattle.fv_run.specs.Statuses.{Runs, most_bytes}
use Rattle.fv_lines.proofs.Counting.{counts_none}

-- a test that was passed on the way to a value
passed : {X : Type 0} (b : Bool) (o : Option X) (x : X) → cond b o None ≡ Some x → (b ≡ true) × (o ≡ Some x)
passed true o x e = (refl, e)
passed false o x e = absurd cc

same_value : (a b : ℕ) → Some a ≡ Some b → a ≡ b
same_value a b e = cc

can_have : (blocks : ℕ) → is_aggregate_size blocks ≡ true → IsSize blocks
can_have blocks fits = let tests = and_parts (nat_le 512 blocks) (nat_le blocks 1048576) fits in record { least = (let least = tests.0 in grind (arith, nat_tests)); greatest = (let greatest = tests.1 in grind (arith, nat_tests)) }

is_size : (word : List ℕ) (blocks : ℕ) → blocks_of word ≡ Some blocks → IsSize blocks
unfolding blocks_of
is_size word blocks e =
    let is = passed (is_number word && (nat_le (length word) 20 && is_aggregate_size (value_of word))) (Some (value_of word)) blocks e in
    rw (← same_value _ _ is.1) (can_have (value_of word) (and_parts _ _ (and_parts _ _ is.0).1).1)

pub same_order : (a b : ℕ) → Some (Create a) ≡ Some (Create b) → a ≡ b
same_order a b e = cc

created_value : (o : Option ℕ) (blocks : ℕ) → option_map create o ≡ Some (Create blocks) → o ≡ Some blocks
created_value None blocks e = absurd cc
created_value (Some x) blocks e = ap Some (same_order x blocks e)

pub has_size : (words : List (List ℕ)) (blocks : ℕ) → meaning words ≡ Some (Create blocks) → IsSize blocks
unfolding meaning
has_size [] blocks e = absurd cc
has_size (command ∷ []) blocks e = absurd (other (bytes_eq command (codes "run")) (bytes_eq command (codes "check")) e)
  where
    other : (run check : Bool) → cond run (Some Run) (cond check (Some Check) None) ≡ Some (Create blocks) → ⊥
    other true check e = cc
    other false true e = cc
    other false false e = cc
has_size (command ∷ size ∷ []) blocks e =
    is_size size blocks (created_value (blocks_of size) blocks (passed (bytes_eq command (codes "create")) (option_map create (blocks_of size)) (Create blocks) e).1)
has_size (command ∷ seed ∷ count ∷ []) blocks e = absurd (other (seed_of seed) (draws_of count) (passed (bytes_eq command (codes "gen")) (generation (seed_of seed) (draws_of count)) (Create blocks) e).1)
  where
    other : (seed count : Option ℕ) → generation seed count ≡ Some (Create blocks) → ⊥
    other (Some seed) (Some count) e = cc
    other (Some seed) None e = cc
    other None (Some count) e = cc
    other None None e = cc
has_size (command ∷ first ∷ second ∷ other ∷ others) blocks e = absurd cc

pub asks_nothing : (asked : Option Order) (disk : Shown) → asked ≡ None → Runs asked disk disk (Err Usage)
asks_nothing asked disk none = record {
  usage = λ e. (refl, counts_none disk);
  creates = λ blocks some. absurd (never asked (Create blocks) none some);
  runs = λ some. absurd (never asked Run none some);
  checks = λ some. absurd (never asked Check none some);
  generates = λ seed count some. absurd (never asked (Gen seed count) none some);
}
  where
    never : (asked : Option Order) (order : Order) → asked ≡ None → asked ≡ Some order → ⊥
    never asked order none some = cc

pub asks_create : (asked : Option Order) (blocks : ℕ) (old new : Shown) (result : Result Unit Fault) → asked ≡ Some (Create blocks) → Creates blocks old new result → Runs asked old new result
asks_create asked blocks old new result some creates = record {
  usage = λ none. absurd (never none);
  creates = λ other also. subst (λ (n : ℕ). Creates n old new result) (same other also) creates;
  runs = λ run. absurd (other run);
  checks = λ check. absurd (third check);
  generates = λ seed count gen. absurd (another seed count gen);
}
  where
    other : asked ≡ Some Run → ⊥
    other run = cc

    third : asked ≡ Some Check → ⊥
    third check = cc

    another : (seed count : ℕ) → asked ≡ Some (Gen seed count) → ⊥
    another seed count gen = cc

    never : asked ≡ None → ⊥
    never none = cc

    same : (other : ℕ) → asked ≡ Some (Create other) → blocks ≡ other
    same other also = cc

pub asks_run : (asked : Option Order) (old new : Shown) (result : Result Unit Fault) → asked ≡ Some Run → Ran most_bytes old new result → Runs asked old new result
asks_run asked old new result some ran = record {
  usage = λ none. absurd (never none);
  creates = λ blocks also. absurd (other blocks also);
  runs = λ run. ran;
  checks = λ check. absurd (third check);
  generates = λ seed count gen. absurd (another seed count gen);
}
  where
    third : asked ≡ Some Check → ⊥
    third check = cc

    never : asked ≡ None → ⊥
    never none = cc

    other : (blocks : ℕ) → asked ≡ Some (Create blocks) → ⊥
    other blocks also = cc

    another : (seed count : ℕ) → asked ≡ Some (Gen seed count) → ⊥
    another seed count gen = cc

pub asks_check : (asked : Option Order) (old new : Shown) (result : Result Unit Fault) → asked ≡ Some Check → IsChecked old new result → Runs asked old new result
asks_check asked old new result some checked = record {
  usage = λ none. absurd (never none);
  creates = λ blocks also. absurd (other blocks also);
  runs = λ run. absurd (third run);
  checks = λ check. checked;
  generates = λ seed count gen. absurd (another seed count gen);
}
  where
    never : asked ≡ None → ⊥
    never none = cc

    other : (blocks : ℕ) → asked ≡ Some (Create blocks) → ⊥
    other blocks also = cc

    third : asked ≡ Some Run → ⊥
    third run = cc

    another : (seed count : ℕ) → asked ≡ Some (Gen seed count) → ⊥
    another seed count gen = cc

pub asks_gen : (asked : Option Order) (seed count : ℕ) (old new : Shown) (result : Result Unit Fault) → asked ≡ Some (Gen seed count) → Generates (lines_drawn seed count) old new result → Runs asked old new result
asks_gen asked seed count old new result some holds = record {
  usage = λ none. absurd (never none);
  creates = λ blocks also. absurd (other blocks also);
  runs = λ run. absurd (another run);
  checks = λ check. absurd (third check);
  generates = λ x y also. subst (λ (n : ℕ). Generates (lines_drawn x n) old new result) (same_count x y also) (subst (λ (n : ℕ). Generates (lines_drawn n count) old new result) (same_seed x y also) holds);
}
  where
    never : asked ≡ None → ⊥
    never none = cc

    other : (blocks : ℕ) → asked ≡ Some (Create blocks) → ⊥
    other blocks also = cc

    another : asked ≡ Some Run → ⊥
    another run = cc

    third : asked ≡ Some Check → ⊥
    third check = cc

    same_seed : (x y : ℕ) → asked ≡ Some (Gen x y) → seed ≡ x
    same_seed x y also = cc

    same_count : (x y : ℕ) → asked ≡ Some (Gen x y) → count ≡ y
    same_count x y also = cc

-- every order, and words without one
pub ruleset order_laws = (has_size, asks_nothing, asks_create, asks_run, asks_check, asks_gen)
