-- Whether a byte past the limit was taken, and how many lines end before it.
use Rattle.std.proofs.Common.{◌≡◌, ℕ, ◌+◌, ◌<◌, ◌≤◌, ◌++◌, Bool, true, false, List, [], ◌∷◌, length, take, sym, ap, ◌∙◌, arith, append_assoc, append-nil}
use Rattle.std.proofs.Math.Seq.{take-append-add}
use Rattle.std.proofs.lemmas.List.{length-append}
use Rattle.fv_model.specs.Runs.{whole}
use Rattle.fv_lines.specs.Reading.{to_come}
use Rattle.fv_lines.proofs.Ends.{whole_append}

-- where all that was taken was read, no byte past the limit was
pub all_read : (limit room : ℕ) (script read more rest left : List ℕ) → script ≡ read ++ (more ++ rest) → limit ≡ length read + (length more + room) → length rest ≤ length left → limit + length left < length script → ⊥
all_read limit room script read more rest left is room_is most taken =
    let long : length script ≡ length read + (length more + length rest) = ap (λ (l : List ℕ). length l) is ∙ length-append read (more ++ rest) ∙ ap (λ (n : ℕ). length read + n) (length-append more rest) in
    omega (arith, long, room_is, most, taken)

-- no more is still to come than the source has left
pub to_come_most : (ended : Bool) (left : List ℕ) → length (to_come ended left) ≤ length left
to_come_most true left = omega arith
to_come_most false left = omega arith

front : (script read more left : List ℕ) (room : ℕ) → script ≡ read ++ (more ++ left) → take (length read + (length more + room)) script ≡ (read ++ more) ++ take room left
front script read more left room is =
    let long : length read + (length more + room) ≡ length (read ++ more) + room = omega (arith, length-append read more) in
    ap (λ (n : ℕ). take n script) long ∙ ap (take (length (read ++ more) + room)) (is ∙ sym (append_assoc read more left)) ∙ take-append-add (read ++ more) left room

-- the lines that were read end before the limit
pub ends_before : (limit room : ℕ) (script read more left : List ℕ) → script ≡ read ++ (more ++ left) → limit ≡ length read + (length more + room) → whole read + whole more ≤ whole (take limit script)
ends_before limit room script read more left is room_is =
    let all : whole (take limit script) ≡ whole (read ++ more) + whole (take room left) = ap (λ (n : ℕ). whole (take n script)) room_is ∙ ap whole (front script read more left room is) ∙ whole_append (read ++ more) (take room left) in
    omega (arith, all, whole_append read more)

-- with no room left they are all of those
pub ends_all : (limit : ℕ) (script read more left : List ℕ) → script ≡ read ++ (more ++ left) → limit ≡ length read + (length more + 0) → whole (take limit script) ≡ whole read + whole more
ends_all limit script read more left is room_is =
    ap (λ (n : ℕ). whole (take n script)) room_is ∙ ap whole (front script read more left 0 is ∙ append-nil (read ++ more)) ∙ whole_append read more

pub past_limit : (limit : ℕ) (script read more held left : List ℕ) → script ≡ read ++ (more ++ (held ++ left)) → limit ≡ length read + (length more + 0) → 0 < length held → limit + length left < length script
past_limit limit script read more held left is room_is some =
    let long : length script ≡ length read + (length more + (length held + length left)) =
    ap (λ (l : List ℕ). length l) is ∙ length-append read (more ++ (held ++ left)) ∙ ap (λ (n : ℕ). length read + n) (length-append more (held ++ left) ∙ ap (λ (n : ℕ). length more + n) (length-append held left)) in
    omega (arith, long, room_is, some)

-- the bytes behind the same front are the same
pub same_behind : (old first second : List ℕ) → old ++ first ≡ old ++ second → first ≡ second
same_behind [] first second is = is
same_behind (b ∷ old) first second is = same_behind old first second (tail b (old ++ first) (old ++ second) is)
  where
    tail : (b : ℕ) (first second : List ℕ) → b ∷ first ≡ b ∷ second → first ≡ second
    tail b first second e = cc

pub none_behind : (first second : List ℕ) → first ++ second ≡ [] → second ≡ []
none_behind [] second is = is
none_behind (b ∷ first) second is = absurd cc
