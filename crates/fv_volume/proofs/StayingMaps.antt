-- Which entries stay where a volume is written.
use Rattle.std.proofs.Common.{◌≡◌, ◌≢◌, ℕ, ◌+◌, ◌-◌, ◌*◌, ◌/◌, ◌%◌, ◌<◌, ◌≤◌, Bool, true, false, not, ◌&&◌, ◌||◌, List, [], ◌==◌, cond, take, replicate, get_or, if◌then◌else◌, refl, sym, ap, ◌∙◌, ⊎_elim, arith}
use Rattle.std.specs.Prelude.{is_some, nat_le, nat_lt}
use Rattle.std.specs.List.{list_any}
use Rattle.std.proofs.Math.Nat.{div-zero}
use Rattle.std.proofs.lemmas.Bool.{and_from, and_parts, cases_eq, true≢false}
use Rattle.std.proofs.lemmas.Bool.Decides.{nat_tests}
use Rattle.fv_bits.specs.Members.{is_member}
use Rattle.fv_bits.proofs.Laws.{is_member-replicate}
use Rattle.fv_bits.proofs.Counts.{none_pass, passing, passing-add, passing-suc, passing_same}
use Rattle.fv_model.specs.Space.{map_blocks}
use Rattle.fv_image.specs.Views.{Snap, entry_count, map_vvbn}
use Rattle.fv_image.proofs.Behind.{inside_there, map_vvbn_within, slot_there}
use Rattle.fv_volmap.specs.Slots.{Slot, slot_at, stored_count, taken_in}
use Rattle.fv_delay.specs.Delay.{is_held, is_used}
use Rattle.fv_delay.proofs.Held.{held_behind, held_below}
use Rattle.fv_volume.specs.declared.state.VolumeState.{VolumeState}
use Rattle.fv_volume.specs.Files.{IsLabelled, IsOneMap}
use Rattle.fv_volume.specs.States.{head_in}
use Rattle.fv_volume.specs.Stored.{has_stored_map, is_map_written, is_rewritten, map_slot, stays}
use Rattle.fv_volume.specs.Writing.{map_writes}

-- ---- maps that wait

pub none_fresh : (fresh : List Bool) → fresh ≡ replicate stored_count false → (k : ℕ) → get_or fresh k false ≡ false
unfolding is_member
none_fresh fresh is k = ap (λ (f : List Bool). get_or f k false) is ∙ is_member-replicate stored_count k

-- where none waits, each that does is a snapshot's
pub no_waits : (x : VolumeState) → x.fresh ≡ replicate stored_count false → (k : ℕ) → get_or x.fresh k false ≡ true → list_any (λ p. p.slot == k) (head_in x).snapshots ≡ true
no_waits x is k waits = absurd (true≢false (sym waits ∙ none_fresh x.fresh is k))

-- ---- what stays

and_false : (b : Bool) → (b && false) ≡ false
and_false true = refl
and_false false = refl

-- the active map is always written
pub active_moves : (x : VolumeState) → has_stored_map x 0 ≡ false
active_moves x = and_false (is_some (slot_at x.map 0))

-- what stays has an entry
pub stays_within : (x : VolumeState) (v : ℕ) → stays x v ≡ true → v < entry_count x.span
stays_within x v is = by (nat_lt v x.span) refl is
  where
    later : has_stored_map x (map_slot x.span v) ≡ true → v < entry_count x.span
    later has = ⊎_elim
        (λ (none : map_blocks x.span ≡ 0).
        let first : map_slot x.span v ≡ 0 = ap (λ (n : ℕ). (v - x.span) / n) none ∙ div-zero (v - x.span) in
        absurd (true≢false (sym has ∙ ap (has_stored_map x) first ∙ active_moves x)))
        (λ (some : map_blocks x.span ≢ 0).
        let test = (and_parts (nat_lt (map_slot x.span v) stored_count) _ has).0 in
        let low : map_slot x.span v < stored_count = grind (arith, nat_tests, test) in
        inside_there x.span v (omega (arith, some)) low)
        (cases_eq (map_blocks x.span) 0)

    by : (t : Bool) → nat_lt v x.span ≡ t → (if t then taken_in (take stored_count x.map.slots) v else has_stored_map x (map_slot x.span v)) ≡ true → v < entry_count x.span
    by true e has = let low : v < x.span = grind (arith, nat_tests, e) in omega (arith, low)
    by false e has = later has

-- what stays is held
pub stays_held : (x : VolumeState) → x.map.span ≡ x.span → (v : ℕ) → stays x v ≡ true → is_held x.map v ≡ true
stays_held x span v on = by (nat_lt v x.span) refl on
  where
    used : (a b c d : Bool) → (a && (b && c)) ≡ true → (a && (d || b)) ≡ true
    used true true c true is = refl
    used true true c false is = refl
    used true false c d is = absurd (true≢false (sym is))
    used false b c d is = absurd (true≢false (sym is))

    by : (t : Bool) → nat_lt v x.span ≡ t → (if t then taken_in (take stored_count x.map.slots) v else has_stored_map x (map_slot x.span v)) ≡ true → is_held x.map v ≡ true
    by true e has =
        let low : v < x.span = grind (arith, nat_tests, e) in
        held_below x.map v (omega (arith, low, span)) ∙ has
    by false e has =
        let past : x.span ≤ v = grind (arith, nat_tests, e) in
        held_behind x.map v (omega (arith, past, span)) ∙ ap (λ (n : ℕ). is_used x.map (map_slot n v)) span
        ∙ used (nat_lt (map_slot x.span v) stored_count) (is_some (slot_at x.map (map_slot x.span v))) (not (is_rewritten x (map_slot x.span v))) (map_slot x.span v == 0) has

-- ---- where no slot but the active one is used

pub moves_alone : (x : VolumeState) → IsOneMap x.map → (k : ℕ) → has_stored_map x k ≡ false
moves_alone x one k = ⊎_elim
    (λ (first : k ≡ 0). ap (has_stored_map x) first ∙ active_moves x)
    (λ (other : k ≢ 0).
    ap (λ (s : Slot). nat_lt k stored_count && (is_some s && not (is_rewritten x k))) (one k other) ∙ and_false (nat_lt k stored_count))
    (cases_eq k 0)

-- ---- blocks of maps that are written

pub written_low : (x : VolumeState) (v : ℕ) → v < x.span → is_map_written x v ≡ false
written_low x v low =
    let test : nat_le x.span v ≡ false = grind (arith, nat_tests, low) in
    ap (λ (t : Bool). t && (nat_lt v (entry_count x.span) && is_rewritten x (map_slot x.span v))) test

pub written_parts : (x : VolumeState) (v : ℕ) → is_map_written x v ≡ true → (x.span ≤ v) × ((v < entry_count x.span) × (is_rewritten x (map_slot x.span v) ≡ true))
written_parts x v is =
    let parts = and_parts (nat_le x.span v) _ is in
    let more = and_parts (nat_lt v (entry_count x.span)) _ parts.1 in
    let low = parts.0 in
    let high = more.0 in
    (grind (arith, nat_tests, low), (grind (arith, nat_tests, high), more.1))

pub written_within : (x : VolumeState) (v : ℕ) → is_map_written x v ≡ true → v < entry_count x.span
written_within x v is = (written_parts x v is).1.0

-- what stays isn't written
pub stays_unwritten : (x : VolumeState) (v : ℕ) → stays x v ≡ true → is_map_written x v ≡ false
stays_unwritten x v on = so (is_map_written x v) refl
  where
    gone : (a b c : Bool) → c ≡ true → (a && (b && not c)) ≡ false
    gone true true c e = ap not e
    gone true false c e = refl
    gone false b c e = refl

    so : (t : Bool) → is_map_written x v ≡ t → t ≡ false
    so false e = refl
    so true e =
        let parts = written_parts x v e in
        let past = parts.0 in
        let test : nat_lt v x.span ≡ false = grind (arith, nat_tests, past) in
        absurd (true≢false (sym on ∙ ap (λ (t : Bool). if t then taken_in (take stored_count x.map.slots) v else has_stored_map x (map_slot x.span v)) test
        ∙ gone (nat_lt (map_slot x.span v) stored_count) (is_some (slot_at x.map (map_slot x.span v))) (is_rewritten x (map_slot x.span v)) parts.1.1))

-- below the span none is counted
pub writes_none : (x : VolumeState) → map_writes x x.span ≡ 0
unfolding map_writes
writes_none x = passing_same (is_map_written x) (λ v. false) 0 0 x.span (λ v lt. written_low x (0 + v) (omega (arith, lt))) ∙ none_pass (λ v. false) 0 x.span (λ v from. refl)

-- one VVBN more
pub writes_more : (x : VolumeState) (n : ℕ) → map_writes x (n + 1) ≡ map_writes x n + cond (is_map_written x n) 1 0
unfolding map_writes
writes_more x n =
    let first : 0 + n ≡ n = omega arith in
    let none : cond (is_map_written x (0 + n)) 1 0 + 0 ≡ cond (is_map_written x (0 + n)) 1 0 = omega arith in
    passing-add (is_map_written x) 0 n 1 ∙ ap (λ (k : ℕ). passing (is_map_written x) 0 n + k) (passing-suc (is_map_written x) (0 + n) 0 ∙ none ∙ ap (λ (k : ℕ). cond (is_map_written x k) 1 0) first)

-- one that has a block of a map is counted
pub writes_left : (x : VolumeState) (n count : ℕ) → n < count → is_map_written x n ≡ true → map_writes x n < map_writes x count
unfolding map_writes
writes_left x n count lt is =
    let all : (n + 1) + (count - (n + 1)) ≡ count = omega (arith, lt) in
    let parts : map_writes x count ≡ map_writes x (n + 1) + passing (is_map_written x) (0 + (n + 1)) (count - (n + 1)) = ap (map_writes x) (sym all) ∙ passing-add (is_map_written x) 0 (n + 1) (count - (n + 1)) in
    let one : map_writes x (n + 1) ≡ map_writes x n + 1 = writes_more x n ∙ ap (λ (t : Bool). map_writes x n + cond t 1 0) is in
    omega (arith, parts, one)

-- ---- by slot and block

pub written_at : (x : VolumeState) (j k : ℕ) → is_rewritten x j ≡ true → j < stored_count → k < map_blocks x.span → is_map_written x (map_vvbn x.span j k) ≡ true
written_at x j k is few within =
    let high = map_vvbn_within x.span j k few within in
    let past : nat_le x.span (map_vvbn x.span j k) ≡ true = grind (arith, nat_tests) in
    let below : nat_lt (map_vvbn x.span j k) (entry_count x.span) ≡ true = grind (arith, nat_tests, high) in
    and_from _ _ past (and_from _ _ below (ap (is_rewritten x) (slot_there x.span j k within) ∙ is))

-- a block of a map that a point leaves stays
pub stored_stays : (x : VolumeState) (k j : ℕ) → has_stored_map x k ≡ true → j < map_blocks x.span → stays x (map_vvbn x.span k j) ≡ true
stored_stays x k j on within =
    let past : nat_lt (map_vvbn x.span k j) x.span ≡ false = grind (arith, nat_tests) in
    ap (λ (t : Bool). if t then taken_in (take stored_count x.map.slots) (map_vvbn x.span k j) else has_stored_map x (map_slot x.span (map_vvbn x.span k j))) past
    ∙ ap (has_stored_map x) (slot_there x.span k j within) ∙ on

-- ---- where no map waits

-- Without snapshots none does.
pub none_marked : (slot : ℕ) (x : VolumeState) → IsLabelled slot x → (head_in x).snapshots ≡ [] → (k : ℕ) → get_or x.fresh k false ≡ false
none_marked slot x is empty k = so (get_or x.fresh k false) refl
  where
    so : (t : Bool) → get_or x.fresh k false ≡ t → t ≡ false
    so true waits = absurd (true≢false (sym (is.waits k waits) ∙ ap (λ (ps : List Snap). list_any (λ p. p.slot == k) ps) empty))
    so false e = refl
