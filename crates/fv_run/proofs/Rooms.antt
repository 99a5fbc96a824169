-- The rooms that the lines of a script ask for.
use Rattle.std.proofs.Common.{◌≡◌, ◌<◌, ◌≤◌, inl, inr, ⊎_elim, ℕ, ◌+◌, max, suc, zero, Bool, true, false, true≢false, List, [], ◌∷◌, refl, sym, ap, subst, ◌∙◌, arith}
use Rattle.std.specs.Prelude.{Contains, if◌then◌else◌, nat_lt, ◌||◌, ◌&&◌}
use Rattle.std.proofs.lemmas.Bool.{cases_lt}
use Rattle.std.proofs.lemmas.Bool.Decides.{nat_tests}
use Rattle.fv_model.specs.declared.commands.Command.{Command}
use Rattle.fv_model.specs.Runs.{Line, Says, NoCommand, OutOfRange, is_cp}
use Rattle.fv_aggregate.specs.Commands.{dirty_limit, most_room}
use Rattle.fv_run.specs.Running.{added_by, asks_point, reaches, takes, left_by, pending_behind, room_in, IsRoomIn}
use Rattle.fv_run.specs.Promises.{line_at}

-- ---- lines

pub first_in : (line : Line) (lines : List Line) → Contains (line ∷ lines) line
first_in line lines = (0, omega arith, refl)

pub later_in : (line : Line) (lines : List Line) (other : Line) → Contains lines other → Contains (line ∷ lines) other
later_in line lines other is = (suc is.0, omega (arith, is.1), is.2)

only_in : (line other : Line) → Contains (line ∷ []) other → other ≡ line
only_in line other (zero, low, is) = sym is
only_in line other (suc k, low, is) = absurd (omega (arith, low))

-- ---- rooms

pub room_of_line : (lines : List Line) (line : Line) (room : ℕ) → Contains lines line → IsRoomIn (line ∷ []) room → IsRoomIn lines room
room_of_line lines line room one asks = ⊎_elim
    (λ (none : room ≡ 0). inl none)
    (λ (said : (command : Command) × Contains (line ∷ []) (Says command) × (room ≡ most_room command)). inr (said.0, subst (λ (l : Line). Contains lines l) (sym (only_in line (Says said.0) said.1)) one, said.2))
    asks

-- the greater of two rooms is one of them
pub greater_room : (lines : List Line) (a b : ℕ) → IsRoomIn lines a → IsRoomIn lines b → IsRoomIn lines (max a b)
greater_room lines a b first second = ⊎_elim
    (λ (below : a < b). let is : max a b ≡ b = omega (arith, below) in subst (IsRoomIn lines) (sym is) second)
    (λ (least : b ≤ a). let is : max a b ≡ a = omega (arith, least) in subst (IsRoomIn lines) (sym is) first)
    (cases_lt a b)

-- a line has no more room by less rooms of commands
less_in : (less more : Command → ℕ) → ((c : Command) → less c ≤ more c) → (line : Line) → room_in less line ≤ room_in more line
less_in less more rooms (Says c) = rooms c
less_in less more rooms NoCommand = omega arith
less_in less more rooms OutOfRange = omega arith

-- so it asks for no point where it asks for none with more
pub asks_less : (less more : Command → ℕ) → ((c : Command) → less c ≤ more c) → (pending : ℕ) (line : Line) → asks_point more pending line ≡ false → asks_point less pending line ≡ false
asks_less less more rooms pending line none = by (is_cp line) (reaches line) none
  where
    a : ℕ
    a = room_in less line

    b : ℕ
    b = room_in more line

    low : (nat_lt 0 b && nat_lt dirty_limit (pending + b)) ≡ false → (some past : Bool) → nat_lt 0 a ≡ some → nat_lt dirty_limit (pending + a) ≡ past → (some && past) ≡ false
    low none false past x y = refl
    low none true false x y = refl
    low none true true x y =
        let le : a ≤ b = less_in less more rooms line in
        let some : nat_lt 0 b ≡ true = grind (arith, nat_tests, x, le) in
        let past : nat_lt dirty_limit (pending + b) ≡ true = grind (arith, nat_tests, y, le) in
        absurd (true≢false (sym (λ j. some j && past j) ∙ none))

    by : (cp reached : Bool) → (cp || (reached || (nat_lt 0 (room_in more line) && nat_lt dirty_limit (pending + room_in more line)))) ≡ false → (cp || (reached || (nat_lt 0 (room_in less line) && nat_lt dirty_limit (pending + room_in less line)))) ≡ false
    by true reached none = none
    by false true none = none
    by false false none = low none (nat_lt 0 a) (nat_lt dirty_limit (pending + a)) refl refl

-- ---- what may be pending

pub behind_none : (rooms : ℕ → Command → ℕ) (lines : List Line) → pending_behind rooms lines 0 ≡ 0
unfolding pending_behind
behind_none rooms lines = refl

-- nor does it leave more pending
added_less : (less more : Command → ℕ) → ((c : Command) → less c ≤ more c) → (line : Line) → added_by less line ≤ added_by more line
added_less less more rooms line = by (takes line)
  where
    by : (steps : Bool) → (if steps then dirty_limit else room_in less line) ≤ (if steps then dirty_limit else room_in more line)
    by true = omega arith
    by false = less_in less more rooms line

left_more : (less more : Command → ℕ) → ((c : Command) → less c ≤ more c) → (line : Line) (least most : ℕ) → least ≤ most → left_by less least line ≤ left_by more most line
left_more less more rooms line least most le = by (is_cp line)
  where
    by : (cp : Bool) → (if cp then 0 else least + added_by less line) ≤ (if cp then 0 else most + added_by more line)
    by true = omega arith
    by false = let room = added_less less more rooms line in omega (arith, le, room)

-- after one line more
pub behind_more : (rooms : ℕ → Command → ℕ) (lines : List Line) (count : ℕ) (line : Line) → line_at lines count ≡ line → (less : Command → ℕ) → ((c : Command) → less c ≤ rooms count c)
    → (old new : ℕ) → old ≤ pending_behind rooms lines count → new ≤ left_by less old line → new ≤ pending_behind rooms lines (count + 1)
unfolding pending_behind
behind_more rooms lines count line is less few old new before after =
    let more : count + 1 ≡ suc count = omega arith in
    let next : pending_behind rooms lines (count + 1) ≡ left_by (rooms count) (pending_behind rooms lines count) line = ap (pending_behind rooms lines) more ∙ ap (left_by (rooms count) (pending_behind rooms lines count)) is in
    let wider = left_more less (rooms count) few line old (pending_behind rooms lines count) before in
    omega (arith, next, wider, after)

-- a line that is no `cp` leaves what was pending
pub left_other : (rooms : Command → ℕ) (line : Line) (n : ℕ) → is_cp line ≡ false → n ≤ left_by rooms n line
left_other rooms line n other = subst (λ (cp : Bool). n ≤ (if cp then 0 else n + added_by rooms line)) (sym other) (omega arith)
