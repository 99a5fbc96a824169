-- The commands of a generated script have lines that read as them.
use Rattle.std.proofs.Common.{◌≡◌, ℕ, zero, suc, ◌+◌, ◌<◌, ◌^◌, ◌++◌, Bool, true, false, cond, List, [], ◌∷◌, replicate, refl, ap, ap₂, ◌∙◌, arith, append_assoc, length-append}
use Rattle.std.specs.Prelude.{nat_eq, nat_lt, map, slice_index, None}
use Rattle.std.specs.Int.{w32, to_be_bytes}
use Rattle.std.specs.List.{list_all}
use Rattle.std.proofs.lemmas.List.{length-replicate}
use Rattle.std.proofs.lemmas.Bool.Decides.{nat_tests}
use Rattle.fv_disk.specs.Shown.{IsBlock}
use Rattle.fv_model.specs.declared.commands.Command.{Command}
use Rattle.fv_model.specs.declared.commands.Command.TheVariants.{SnapCreate, SnapDelete, Put, Get, Cut, New, Cp}
use Rattle.fv_model.specs.Spelling.{is_name_byte}
use Rattle.fv_model.specs.Words.{padded}
use Rattle.fv_model.specs.Lines.{is_in_range, line_of, lines}
use Rattle.fv_model.specs.Runs.{Line, Says}
use Rattle.fv_script.specs.Generated.{after, below, chosen, command_from, cut_from, drawn, file, generated, get_from, opening, put_from, snap_from, snapshot, volume}
use Rattle.fv_script.proofs.ScriptLines.{no_line, line_then}
use Rattle.fv_script_laws.specs.Show.{CanShow, Named, show, show_words}
use Rattle.fv_script_laws.proofs.Shown.{shows}
use Rattle.fv_script_laws.proofs.Written.{none_of}
use Rattle.fv_saying.specs.Saying.{script_text}
use Rattle.fv_saying.proofs.Clear.{is_clear, joined, name_clear, number_clear, block_clear}

-- a command whose line reads as it, in one line
record IsGood (c : Command) : Type 0 where
  can : CanShow c
  range : is_in_range c ≡ true
  clear : list_all is_clear (show_words c) ≡ true

abbrev AreGood : List Command → Type 0
AreGood [] = Unit {0}
AreGood (c ∷ commands) = IsGood c × AreGood commands

both_good : (first second : List Command) → AreGood first → AreGood second → AreGood (first ++ second)
both_good [] second one two = two
both_good (c ∷ first) second one two = (one.0, both_good first second one.1 two)

read : (commands : List Command) → AreGood commands → lines (script_text commands) ≡ map Says commands
read [] good = ap (map line_of) no_line
read (c ∷ commands) good =
    ap lines (append_assoc (show c) (10 ∷ []) (script_text commands))
    ∙ ap (map line_of) (line_then (show c) (script_text commands) (none_of 10 (show c) (joined (show_words c) good.0.clear)))
    ∙ ap₂ (λ (l : Line) (ls : List Line). l ∷ ls) (shows c good.0.can good.0.range) (read commands good.1)

-- ---- names, numbers and blocks

g_named : Named volume
unfolding volume
g_named = refl

digit : (k : ℕ) → k < 8 → is_name_byte (48 + k) ≡ true
digit k small = grind (arith, nat_tests)

f_named : (k : ℕ) → k < 8 → Named (file k)
unfolding file
f_named k small = rw (digit k small) refl

s_named : (k : ℕ) → k < 4 → Named (snapshot k)
unfolding snapshot
s_named k small = rw (digit k (omega (arith, small))) refl

below_is : (n x : ℕ) → 0 < n → below n x < n
unfolding below
below_is n x some = omega (arith, some)

zeros : (n k : ℕ) → slice_index (replicate n 0) k < 256
zeros zero k = omega arith
zeros (suc n) zero = omega arith
zeros (suc n) (suc k) = zeros n k

small_block : (x : ℕ) → IsBlock (padded (to_be_bytes w32 x))
unfolding padded
small_block x = record { long = omega (arith, length-append (to_be_bytes w32 x) (replicate 4092 0), length-replicate {A = ℕ} 4092 0); bytes = at }
  where
    at : (k : ℕ) → slice_index (to_be_bytes w32 x ++ replicate 4092 0) k < 256
    at zero = omega arith
    at (suc zero) = omega arith
    at (suc (suc zero)) = omega arith
    at (suc (suc (suc zero))) = omega arith
    at (suc (suc (suc (suc k)))) = zeros 4092 k

-- ---- commands

new_good : (k : ℕ) → k < 8 → IsGood (New volume (file k) 0)
new_good k small = record { can = (g_named, f_named k small); range = refl; clear = rw (name_clear volume g_named, name_clear (file k) (f_named k small), number_clear 0 (omega arith)) refl }

put_good : (k i : ℕ) (block : List ℕ) → k < 8 → i < 300 → IsBlock block → IsGood (Put volume (file k) i block)
put_good k i block small low is = record {
  can = (g_named, f_named k small, is);
  range = grind (arith, nat_tests);
  clear = rw (name_clear volume g_named, name_clear (file k) (f_named k small), number_clear i (omega (arith, low)), block_clear block is) refl;
}

get_good : (k i : ℕ) → k < 8 → i < 300 → IsGood (Get volume None (file k) i)
get_good k i small low = record {
  can = (g_named, tt, f_named k small);
  range = grind (arith, nat_tests);
  clear = rw (name_clear volume g_named, name_clear (file k) (f_named k small), number_clear i (omega (arith, low))) refl;
}

cut_good : (k n : ℕ) → k < 8 → n < 300 → IsGood (Cut volume (file k) n)
cut_good k n small low = record {
  can = (g_named, f_named k small);
  range = grind (arith, nat_tests);
  clear = rw (name_clear volume g_named, name_clear (file k) (f_named k small), number_clear n (omega (arith, low))) refl;
}

snap_good : (made : Bool) (k : ℕ) → k < 4 → IsGood (cond made (SnapCreate volume (snapshot k)) (SnapDelete volume (snapshot k)))
snap_good true k small = record { can = (g_named, s_named k small); range = refl; clear = rw (name_clear volume g_named, name_clear (snapshot k) (s_named k small)) refl }
snap_good false k small = record { can = (g_named, s_named k small); range = refl; clear = rw (name_clear volume g_named, name_clear (snapshot k) (s_named k small)) refl }

cp_good : IsGood Cp
cp_good = record { can = tt; range = refl; clear = refl }

puts : (x : ℕ) → IsGood (put_from x).0
unfolding put_from
puts x = put_good (below 8 (after x)) (below 300 (after (after x))) _ (below_is 8 _ (omega arith)) (below_is 300 _ (omega arith)) (small_block (below (2 ^ 32) (after (after (after x)))))

gets : (x : ℕ) → IsGood (get_from x).0
unfolding get_from
gets x = get_good (below 8 (after x)) (below 300 (after (after x))) (below_is 8 _ (omega arith)) (below_is 300 _ (omega arith))

cuts : (x : ℕ) → IsGood (cut_from x).0
unfolding cut_from
cuts x = cut_good (below 8 (after x)) (below 300 (after (after x))) (below_is 8 _ (omega arith)) (below_is 300 _ (omega arith))

snaps : (x : ℕ) → IsGood (snap_from x).0
unfolding snap_from
snaps x = snap_good (nat_eq (below 2 (after x)) 0) (below 4 (after (after x))) (below_is 4 _ (omega arith))

by_tests : (a b c d : Bool) (one two three four five : Command × ℕ) → IsGood one.0 → IsGood two.0 → IsGood three.0 → IsGood four.0 → IsGood five.0
    → IsGood (cond a one (cond b two (cond c three (cond d four five)))).0
by_tests true b c d one two three four five p q r s t = p
by_tests false true c d one two three four five p q r s t = q
by_tests false false true d one two three four five p q r s t = r
by_tests false false false true one two three four five p q r s t = s
by_tests false false false false one two three four five p q r s t = t

one_good : (x : ℕ) → IsGood (command_from x).0
unfolding command_from chosen
one_good x =
    let next : ℕ = after x in let k : ℕ = below 8 next in
    by_tests (nat_lt k 4) (nat_eq k 4) (nat_eq k 5) (nat_eq k 6) (put_from next) (get_from next) (cut_from next) (snap_from next) (Cp, next) (puts next) (gets next) (cuts next) (snaps next) cp_good

drawn_good : (n x : ℕ) → AreGood (drawn n x)
unfolding drawn
drawn_good zero x = tt
drawn_good (suc n) x = (one_good x, drawn_good n (command_from x).1)

opening_good : AreGood opening
unfolding opening
opening_good = (
  record { can = g_named; range = refl; clear = rw (name_clear volume g_named, number_clear 2000 (omega arith)) refl },
  (
    new_good 0 (omega arith),
    (
      new_good 1 (omega arith),
      (
        new_good 2 (omega arith),
        (
          new_good 3 (omega arith),
          (new_good 4 (omega arith), (new_good 5 (omega arith), (new_good 6 (omega arith), (new_good 7 (omega arith), tt)))),
        ),
      ),
    ),
  ),
)

pub reads_back : (seed count : ℕ) → lines (script_text (generated seed count)) ≡ map Says (generated seed count)
reads_back seed count = read (generated seed count) (both_good opening (drawn count seed) opening_good (drawn_good count seed))
