-- The script of a seed: how long it is, and that each of its commands is built.
use Rattle.std.proofs.Common.{◌≡◌, ℕ, zero, suc, ◌<◌, ◌^◌, ◌++◌, Bool, true, false, cond, List, [], ◌∷◌, length, map, refl, ap, ap₂, arith}
use Rattle.std.specs.Prelude.{nat_eq, nat_lt}
use Rattle.std.proofs.lemmas.List.{length-append}
use Rattle.fv_model.specs.declared.commands.Command.{Command}
use Rattle.fv_model.specs.declared.commands.Command.TheVariants.{SnapCreate, SnapDelete}
use Rattle.fv_model.specs.Runs.{Line, Says}
use Rattle.fv_script.specs.Generated.{after, below, chosen, command_from, cut_from, drawn, generated, get_from, opening, put_from, snap_from, snapshot, volume}
use Rattle.fv_aggregate.specs.Commands.{is_built}
use Rattle.fv_run.specs.Built.{built}
use Rattle.fv_run.specs.Generating.{lines_drawn, lines_said}

-- ---- how many commands there are

drawn_long : (n x : ℕ) → length (drawn n x) ≡ n
unfolding drawn
drawn_long zero x = refl
drawn_long (suc n) x = ap suc (drawn_long n (command_from x).1)

nine : length opening ≡ 9
unfolding opening
nine = refl

pub few_commands : (seed n : ℕ) (script : List Command) → script ≡ generated seed n → n < 2 ^ 32 → length script < 2 ^ 63
few_commands seed n script is lt = omega (arith, ap (λ (l : List Command). length l) is, length-append opening (drawn n seed), nine, drawn_long n seed, lt)

-- ---- each is built

put_built : (x : ℕ) → is_built (put_from x).0 ≡ true
unfolding put_from is_built
put_built x = refl

get_built : (x : ℕ) → is_built (get_from x).0 ≡ true
unfolding get_from is_built
get_built x = refl

cut_built : (x : ℕ) → is_built (cut_from x).0 ≡ true
unfolding cut_from is_built
cut_built x = refl

either_built : (made : Bool) (s : List ℕ) → is_built (cond made (SnapCreate volume s) (SnapDelete volume s)) ≡ true
unfolding is_built
either_built true s = refl
either_built false s = refl

snap_built : (x : ℕ) → is_built (snap_from x).0 ≡ true
unfolding snap_from
snap_built x = either_built (nat_eq (below 2 (after x)) 0) (snapshot (below 4 (after (after x))))

by_tests : (a b c d : Bool) (one two three four five : Command × ℕ) → is_built one.0 ≡ true → is_built two.0 ≡ true → is_built three.0 ≡ true → is_built four.0 ≡ true → is_built five.0 ≡ true
    → is_built (cond a one (cond b two (cond c three (cond d four five)))).0 ≡ true
by_tests true b c d one two three four five p q r s t = p
by_tests false true c d one two three four five p q r s t = q
by_tests false false true d one two three four five p q r s t = r
by_tests false false false true one two three four five p q r s t = s
by_tests false false false false one two three four five p q r s t = t

chosen_built : (k x : ℕ) → is_built (chosen k x).0 ≡ true
unfolding chosen is_built
chosen_built k x = by_tests (nat_lt k 4) (nat_eq k 4) (nat_eq k 5) (nat_eq k 6) (put_from x) (get_from x) (cut_from x) (snap_from x) _ (put_built x) (get_built x) (cut_built x) (snap_built x) refl

one_built : (x : ℕ) → is_built (command_from x).0 ≡ true
unfolding command_from
one_built x = chosen_built (below 8 (after x)) (after x)

said_by : (is : Bool) (c : Command) → is_built c ≡ is → is ≡ true → built (Says c) ≡ Says c
said_by true c e good = rw e refl
said_by false c e good = absurd cc

said : (c : Command) → is_built c ≡ true → built (Says c) ≡ Says c
said c is = said_by true c is refl

drawn_said : (n x : ℕ) → lines_said (drawn n x) ≡ map Says (drawn n x)
unfolding drawn
drawn_said zero x = refl
drawn_said (suc n) x = ap₂ (λ (l : Line) (ls : List Line). l ∷ ls) (said (command_from x).0 (one_built x)) (drawn_said n (command_from x).1)

opening_said : lines_said opening ≡ map Says opening
unfolding opening is_built
opening_said = refl

said_append : (first second : List Command) → lines_said first ≡ map Says first → lines_said second ≡ map Says second → lines_said (first ++ second) ≡ map Says (first ++ second)
said_append [] second one two = two
said_append (c ∷ first) second one two = ap₂ (λ (l : Line) (ls : List Line). l ∷ ls) (head (built (Says c)) (Says c) (lines_said first) (map Says first) one) (said_append first second (tail (built (Says c)) (Says c) (lines_said first) (map Says first) one) two)
  where
    head : (a b : Line) (rest others : List Line) → a ∷ rest ≡ b ∷ others → a ≡ b
    head a b rest others e = cc

    tail : (a b : Line) (rest others : List Line) → a ∷ rest ≡ b ∷ others → rest ≡ others
    tail a b rest others e = cc

pub all_said : (seed n : ℕ) → lines_said (generated seed n) ≡ lines_drawn seed n
all_said seed n = said_append opening (drawn n seed) opening_said (drawn_said n seed)
