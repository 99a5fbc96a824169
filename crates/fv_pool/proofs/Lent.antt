-- The blocks of one volume over what a session lends.
use Rattle.std.proofs.Common.{◌≡◌, ℕ, zero, suc, ◌+◌, Result, Ok, Err, Bool, true, false, ◌||◌, List, [], ◌∷◌, length, refl, sym, ap, ◌∙◌, arith, inl, inr}
use Rattle.std.specs.Prelude.{set, slice_set, ◌≤◌, ◌≢◌, IfOk, IfSome, unwrap_or, ◌&&◌, ◌==◌, not, cond, is_some, nat_le, take, slice_index_or, Option, Some, None}
use Rattle.std.specs.List.{list_any}
use Rattle.std.proofs.lemmas.Bool.Decides.{nat_tests}
use Rattle.std.proofs.lemmas.List.{set-set, set-get_or}
use Rattle.fv_aggmap.specs.Space.{Space, IsFree}
use Rattle.fv_bits.specs.Members.{is_member}
use Rattle.fv_disk.specs.Shown.{Image, Shown as Disk}
use Rattle.fv_disk.specs.declared.fault.BlockFault.TheVariants.{Damaged}
use Rattle.fv_container.specs.declared.entry.Entry.{Entry}
use Rattle.fv_container.specs.Chains.{Slots, chain_entry}
use Rattle.fv_pool.specs.Keeping.{Blocks, seen}
use Rattle.fv_pool.specs.BlocksOver.{block_of, held_entry, place_of, place_or, place_read, place_told, steps_by, IsLooseFault, IsRightPlace, TellsEntries}
use Rattle.fv_volmap.specs.Slots.{Volume, IsVolume, Slot, Allocates, stored_count, slot_of_base, has, slot_at, active_of, map_or_empty, taken_in, with_slot}

either_again : (a b c : Bool) → ((a || b) || c) ≡ (a || (b || c))
either_again true b c = refl
either_again false b c = refl

either_false : (a : Bool) → a ≡ (a || false)
either_false true = refl
either_false false = refl

any_last : {A : Type 0} (f : A → Bool) (or : A) (n : ℕ) (xs : List A) → length xs ≡ n + 1 → (list_any f (take n xs) || f (slice_index_or xs n or)) ≡ list_any f xs
any_last f or n [] long = absurd (omega (arith, long))
any_last f or zero (x ∷ []) long = either_false (f x)
any_last f or zero (x ∷ (y ∷ ys)) long = absurd (omega (arith, long))
any_last f or (suc n) (x ∷ xs) long = either_again (f x) (list_any f (take n xs)) (f (slice_index_or xs n or)) ∙ ap (λ t. f x || t) (any_last f or n xs (omega (arith, long)))

pub taken_anywhere : (map : Volume) (v : ℕ) → IsVolume map → (taken_in (take stored_count map.slots) v || has v (slot_at map slot_of_base)) ≡ taken_in map.slots v
taken_anywhere map v is = any_last (has v) None slot_of_base map.slots is.count

-- ---- where a pointer's block lies

told_some : (hint : ℕ) → is_some (place_told hint) ≡ true → (hint == 0) ≡ false
unfolding place_told
told_some hint some = by (hint == 0) refl some
  where
    by : (b : Bool) → (hint == 0) ≡ b → is_some (cond (not b && nat_le hint 1048575) (Some hint) None) ≡ true → (hint == 0) ≡ false
    by true at wrong = absurd cc
    by false at right = at

-- at the place that it tells, without a step
pub told_reads : (told : Option ℕ) (hint : ℕ) (entry : Option Entry) → told ≡ place_told hint → is_some told ≡ true → told ≡ place_read entry hint
told_reads None hint entry is some = absurd cc
told_reads (Some place) hint entry is some = ap (λ o. place_or o (place_of entry)) is

pub told_costs : (told : Option ℕ) (hint steps : ℕ) → told ≡ place_told hint → is_some told ≡ true → steps ≡ steps + steps_by hint
told_costs told hint steps is some =
    let none : steps_by hint ≡ 0 = ap (λ b. cond b 1 0) (told_some hint (ap is_some (sym is) ∙ some)) in
    omega (arith, none)

-- or else at that of its VVBN's entry
pub entry_reads : (told : Option ℕ) (hint : ℕ) (entry : Option Entry) → told ≡ place_told hint → is_some told ≡ false → place_of entry ≡ place_read entry hint
entry_reads None hint entry is none = ap (λ o. place_or o (place_of entry)) is
entry_reads (Some place) hint entry is none = absurd cc

-- which is looked up, in one step where it tells none
pub one_step : (hint steps made : ℕ) → hint ≡ 0 → made ≡ steps + 1 → made ≡ steps + steps_by hint
one_step hint steps made none is =
    let one : steps_by hint ≡ 1 = ap (λ b. cond b 1 0) (let test : (hint == 0) ≡ true = grind (arith, nat_tests, none) in test) in
    omega (arith, is, one)

pub no_step : (hint steps : ℕ) → hint ≢ 0 → steps ≡ steps + steps_by hint
no_step hint steps some =
    let none : steps_by hint ≡ 0 = ap (λ b. cond b 1 0) (let test : (hint == 0) ≡ false = grind (arith, nat_tests, some) in test) in
    omega (arith, none)

-- what holds anyway holds of what is there
pub of_some : {A : Type 0} (o : Option A) (P : Type 0) → P → IfSome o (λ x. P)
of_some None P is = tt
of_some (Some x) P is = is

-- so does what holds of what a look-up answers
pub of_found : {A E : Type 0} (r : Result (Option A) E) (P : Type 0) → P → IfOk r (λ o. IfSome o (λ x. P))
of_found (Ok o) P is = of_some o P is
of_found (Err e) P is = tt

pub of_place : (entry : Option Entry) (P : Type 0) → IfSome entry (λ e. P) → IfSome (place_of entry) (λ place. P)
of_place None P is = tt
of_place (Some e) P is = is

-- A block that was read by a pointer that is right is that of its VVBN.
none_told : (hint : ℕ) → hint ≡ 0 → place_told hint ≡ None
unfolding place_told
none_told hint none =
    let test : (hint == 0) ≡ true = grind (arith, nat_tests, none) in
    ap (λ b. cond (not b && nat_le hint 1048575) (Some hint) None) test

told_is : (hint place : ℕ) → place_told hint ≡ Some place → place ≡ hint
unfolding place_told
told_is hint place is = by (not (hint == 0) && nat_le hint 1048575) is
  where
    some_is : {x y : ℕ} → Some x ≡ Some y → y ≡ x
    some_is same = sym (ap (λ o. unwrap_or o 0) same)

    by : (b : Bool) → cond b (Some hint) None ≡ Some place → place ≡ hint
    by true at = some_is at
    by false at = absurd cc

pub right_block : (kept : Blocks) (i : Image) (entry : Option Entry) (hint place : ℕ) (block : List ℕ) → IsRightPlace entry hint → place_read entry hint ≡ Some place → block ≡ seen kept i place → block_of kept i entry ≡ Some block
right_block kept i entry hint place block right read is = block_there kept i entry place (by (place_told hint) refl right) ∙ ap (λ (b : List ℕ). Some b) (sym is)
  where
    by : (o : Option ℕ) → place_told hint ≡ o → IsRightPlace entry hint → place_of entry ≡ Some place
    by None at right = ap (λ o. place_or o (place_of entry)) (sym at) ∙ read
    by (Some told) at (inl none) = let wrong : None ≡ Some told = sym (none_told hint none) ∙ at in absurd cc
    by (Some told) at (inr same) = same ∙ ap (λ (p : ℕ). Some p) (sym (told_is hint told at)) ∙ ap (λ o. place_or o (place_of entry)) (sym at) ∙ read

    block_there : (kept : Blocks) (i : Image) (entry : Option Entry) (place : ℕ) → place_of entry ≡ Some place → block_of kept i entry ≡ Some (seen kept i place)
    block_there kept i None place at = absurd cc
    block_there kept i (Some e) place at = ap (λ o. Some (seen kept i (unwrap_or o 0))) at

pub held_is : (map : Volume) (slots : Slots) (slot v : ℕ) → v ≤ 1048575 → taken_in map.slots v ≡ true → held_entry map slots slot v ≡ chain_entry slots slot v
unfolding held_entry
held_is map slots slot v few taken =
    let both : (nat_le v 1048575 && taken_in map.slots v) ≡ true = grind (arith, nat_tests, few, taken) in
    ap (λ t. cond t (chain_entry slots slot v) None) both

-- a pointer without a place leads to a VVBN that isn't held
pub nowhere : (entry : Option Entry) (hint : ℕ) → None ≡ place_read entry hint → entry ≡ None
nowhere entry hint none = by (place_told hint) refl entry none
  where
    by : (o : Option ℕ) → place_told hint ≡ o → (entry : Option Entry) → None ≡ place_or (place_told hint) (place_of entry) → entry ≡ None
    by (Some told) at entry none = let wrong : None ≡ Some told = none ∙ ap (λ o. place_or o (place_of entry)) at in absurd cc
    by None at None none = refl
    by None at (Some e) none = let wrong : None ≡ Some e.pvbn = none ∙ ap (λ o. place_or o (Some e.pvbn)) at in absurd cc

pub is_loose : (disk : Disk) (slots : Slots) (entry : Option Entry) (hint label at : ℕ) → at ≡ label → (TellsEntries disk slots → None ≡ place_read entry hint) → IsLooseFault disk slots entry label (Damaged at 1 0)
is_loose disk slots entry hint label at same none = inl (record { none = λ tells. nowhere entry hint (none tells); at_is = same; want_is = refl; found_is = refl })

-- ---- numbers that are given back

left_false : (a b : Bool) → (a || b) ≡ false → a ≡ false
left_false true b is = cc
left_false false b is = refl

right_false : (a b : Bool) → (a || b) ≡ false → b ≡ false
right_false true b is = cc
right_false false b is = is

-- a number that wasn't in a set is set and cleared
set_and_cleared : (xs : List Bool) (i : ℕ) → is_member xs i ≡ false → slice_set (slice_set xs i true) i false ≡ xs
unfolding is_member
set_and_cleared xs i none = set-set xs i true false ∙ (ap (λ b. set xs i b) (sym none) ∙ set-get_or xs i false)

first_again : (span : ℕ) (slots : List Slot) (v : ℕ) → slice_index_or slots 0 None ≡ Some (map_or_empty span (slice_index_or slots 0 None)) → taken_in slots v ≡ false
    → let old : Volume = record { span = span; slots = slots } in
    let new : Volume = with_slot old 0 (Some (slice_set (active_of old) v true)) in
    with_slot new 0 (Some (slice_set (active_of new) v false)) ≡ old
first_again span [] v is free = cc
first_again span (None ∷ ss) v is free = cc
first_again span (Some a ∷ ss) v is free = ap (λ (m : List Bool). record { span = span; slots = Some m ∷ ss }) (set_and_cleared a v (left_false (is_member a v) (taken_in ss v) free))

pub number_again : (old new : Volume) (v : ℕ) → IsVolume old → Allocates old v new → with_slot new 0 (Some (slice_set (active_of new) v false)) ≡ old
number_again old new v is allocates =
    ap (λ (n : Volume). with_slot n 0 (Some (slice_set (active_of n) v false))) allocates.volume ∙ first_again old.span old.slots v is.active allocates.free

pub block_again : (old taken : Space) (b : ℕ) → IsFree old b → taken ≡ record old { next = slice_set old.next b true } → record taken { next = slice_set taken.next b false } ≡ old
block_again old taken b free is =
    ap (λ (s : Space). record s { next = slice_set s.next b false }) is
    ∙ ap (λ (n : List Bool). record old { next = n }) (set_and_cleared old.next b (right_false (is_member old.committed b) (is_member old.next b) free.free))
