-- As many copies are made as the map slot of the source has numbers.
use Rattle.std.proofs.Common.{◌≡◌, ◌<◌, ◌≤◌, ◌+◌, ℕ, zero, suc, Bool, true, false, cond, List, [], ◌∷◌, ◌++◌, length, Some, None, refl, sym, ap, subst, ◌∙◌, ⊎_elim, arith}
use Rattle.std.specs.Prelude.{IfSome}
use Rattle.std.proofs.lemmas.Bool.{cases_lt}
use Rattle.std.proofs.lemmas.List.{get_or_past, length-append, length-replicate}
use Rattle.std.proofs.lemmas.List.Elements.{All-get_or}
use Rattle.fv_bits.specs.Members.{is_member}
use Rattle.fv_bits.proofs.Counts.{passing, passing-add, passing-suc, passing_same}
use Rattle.fv_bits.proofs.Laws.{is_member-replicate}
use Rattle.fv_volmap.specs.Slots.{IsVolume, Slot, has, map_or_empty, slot_at}
use Rattle.fv_copies.specs.Copying.{copies_at, copies_below}
use Rattle.fv_volume.specs.declared.state.VolumeState.{VolumeState}
use Rattle.fv_volume.specs.Cloning.{count_in}
use Rattle.fv_mirror.specs.Making.{source_bits}

one_at : (bits : List Bool) (n : ℕ) → length (copies_at bits n) ≡ cond (is_member bits n) 1 0
one_at bits n = by (is_member bits n)
  where
    by : (b : Bool) → length (cond b (n ∷ []) []) ≡ cond b 1 0
    by true = refl
    by false = refl

pub copies_passing : (bits : List Bool) (n : ℕ) → length (copies_below bits n) ≡ passing (is_member bits) 0 n
unfolding copies_below
copies_passing bits zero = refl
copies_passing bits (suc n) =
    let one : n + 1 ≡ suc n = omega arith in
    let start : 0 + n ≡ n = omega arith in
    let parts = passing-add (is_member bits) 0 n 1 ∙ ap (λ (k : ℕ). passing (is_member bits) 0 n + passing (is_member bits) k 1) start in
    let last = passing-suc (is_member bits) n 0 in
    let at = one_at bits n in
    let before = copies_passing bits n in
    let joined = length-append (copies_below bits n) (copies_at bits n) in
    let nothing : passing (is_member bits) (n + 1) 0 ≡ 0 = refl in
    let here : passing (is_member bits) n 1 ≡ cond (is_member bits n) 1 0 = omega (arith, last, nothing) in
    let start : 0 + n ≡ n = omega arith in
    let same : passing (is_member bits) (0 + n) 1 ≡ passing (is_member bits) n 1 = ap (λ (k : ℕ). passing (is_member bits) k 1) start in
    let sum : length (copies_below bits n ++ copies_at bits n) ≡ passing (is_member bits) 0 (n + 1) = omega (arith, joined, before, at, here, parts, same) in
    sum ∙ ap (passing (is_member bits) 0) one

-- The bits of a slot are as long as the span,
pub bits_long : (y : VolumeState) (slot : ℕ) → IsVolume y.map → length (source_bits y slot) ≡ y.map.span
bits_long y slot whole = ⊎_elim
    (λ (low : slot < length y.map.slots). by (slot_at y.map slot) (All-get_or (λ (s : Slot). IfSome s (λ m. length m ≡ y.map.span)) y.map.slots slot None low whole.long))
    (λ (past : length y.map.slots ≤ slot). by (slot_at y.map slot) (subst (λ (s : Slot). IfSome s (λ m. length m ≡ y.map.span)) (sym (get_or_past y.map.slots slot None past)) tt))
    (cases_lt slot (length y.map.slots))
  where
    by : (o : Slot) → IfSome o (λ m. length m ≡ y.map.span) → length (map_or_empty y.map.span o) ≡ y.map.span
    by None is = length-replicate {A = Bool} y.map.span false
    by (Some m) is = is

-- so as many copies are made as are counted.
pub copies_counted : (y : VolumeState) (slot : ℕ) → IsVolume y.map → length (copies_below (source_bits y slot) (length (source_bits y slot))) ≡ count_in y slot
copies_counted y slot whole =
    copies_passing (source_bits y slot) (length (source_bits y slot)) ∙ ap (passing (is_member (source_bits y slot)) 0) (bits_long y slot whole)
    ∙ passing_same (is_member (source_bits y slot)) (λ v. has v (slot_at y.map slot)) 0 0 y.map.span (λ j low. by (slot_at y.map slot) (0 + j))
  where
    by : (o : Slot) (v : ℕ) → is_member (map_or_empty y.map.span o) v ≡ has v o
    by None v = is_member-replicate y.map.span v
    by (Some m) v = refl
