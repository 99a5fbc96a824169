-- The numbers of copies one by one, and what was copied of them.
use Rattle.std.proofs.Common.{◌≡◌, ◌≢◌, ◌<◌, ◌≤◌, ◌+◌, ◌-◌, ◌||◌, ◌==◌, ℕ, zero, suc, Bool, true, false, cond, List, [], ◌∷◌, ◌++◌, length, get_or, true≢false, refl, sym, ap, subst, ◌∙◌, ⊎_elim, arith}
use Rattle.std.specs.List.{list_any}
use Rattle.std.proofs.lemmas.Bool.{cases_Bool, cases_eq, cases_lt}
use Rattle.std.proofs.lemmas.Bool.Decides.{nat_tests}
use Rattle.std.specs.Prelude.{nat_lt, ◌&&◌, Result, Ok, Err, OnOk, map}
use Rattle.std.proofs.lemmas.List.Elements.{All-append}
use Rattle.std.proofs.lemmas.List.{append-nil, append_assoc, length-append, map-append}
use Rattle.fv_bits.specs.Members.{is_member}
use Rattle.fv_bits.proofs.Laws.{is_member_past}
use Rattle.fv_disk.specs.Shown.{Shown as Disk}
use Rattle.fv_disk.specs.declared.fault.BlockFault.{BlockFault}
use Rattle.fv_pool.specs.declared.pool.Pool.{Pool}
use Rattle.fv_copies.specs.Copying.{Copy, HasCopied, IsCopy, IsSource, LeavesTaken, copies_at, copies_below}
use Rattle.fv_copies.specs.Landings.{is_copied}
use Rattle.fv_copies.proofs.Leaving.{copy_was}

module _ (bits : List Bool) where
  copies_one : (n : ℕ) → copies_below bits (n + 1) ≡ copies_below bits n ++ copies_at bits n
  unfolding copies_below
  copies_one n = let next : n + 1 ≡ suc n = omega arith in ap (copies_below bits) next

  pub length_more : (n : ℕ) → length (copies_below bits (n + 1)) ≡ length (copies_below bits n) + length (copies_at bits n)
  length_more n = ap (λ (xs : List ℕ). length xs) (copies_one n) ∙ length-append (copies_below bits n) (copies_at bits n)

  grows : (n d : ℕ) → length (copies_below bits n) ≤ length (copies_below bits (n + d))
  grows n zero = let same : n + 0 ≡ n = omega arith in subst (λ (m : ℕ). length (copies_below bits n) ≤ length (copies_below bits m)) (sym same) (omega arith)
  grows n (suc d) =
      let same : n + suc d ≡ (n + d) + 1 = omega arith in
      let more = length_more (n + d) in
      let before = grows n d in
      subst (λ (m : ℕ). length (copies_below bits n) ≤ length (copies_below bits m)) (sym same) (omega (arith, more, before))

  -- there is room for one where there is for all
  pub copies_room : (n : ℕ) → n < length bits → length (copies_below bits n) + length (copies_at bits n) ≤ length (copies_below bits (length bits))
  copies_room n low =
      let same : (n + 1) + (length bits - (n + 1)) ≡ length bits = omega (arith, low) in
      let more = length_more n in
      let rest : length (copies_below bits (n + 1)) ≤ length (copies_below bits (length bits)) = subst (λ (m : ℕ). length (copies_below bits (n + 1)) ≤ length (copies_below bits m)) same (grows (n + 1) (length bits - (n + 1))) in
      omega (arith, more, rest)

  none_past : (v : ℕ) → length bits ≤ v → copies_at bits v ≡ []
  none_past v past = ap (λ (b : Bool). cond b (v ∷ []) []) (is_member_past bits v past)

  ends : (d : ℕ) → copies_below bits (length bits + d) ≡ copies_below bits (length bits)
  ends zero = let same : length bits + 0 ≡ length bits = omega arith in ap (copies_below bits) same
  ends (suc d) =
      let same : length bits + suc d ≡ (length bits + d) + 1 = omega arith in
      ap (copies_below bits) same ∙ copies_one (length bits + d)
      ∙ ap (λ (xs : List ℕ). copies_below bits (length bits + d) ++ xs) (none_past (length bits + d) (omega arith))
      ∙ append-nil (copies_below bits (length bits + d)) ∙ ends d

  -- no number is past the length
  pub copies_past : (n : ℕ) → length bits ≤ n → copies_below bits n ≡ copies_below bits (length bits)
  copies_past n past = let same : n ≡ length bits + (n - length bits) = omega (arith, past) in ap (copies_below bits) same ∙ ends (n - length bits)

  -- the numbers of the copies that were made at a number are members
  members_at : (v : ℕ) (us : List Copy) (b : Bool) → is_member bits v ≡ b → map (λ (c : Copy). c.vvbn) us ≡ cond b (v ∷ []) [] → (i : ℕ) (d : Copy) → i < length us → is_member bits (get_or us i d).vvbn ≡ true
  members_at v [] b is e i d low = absurd (omega (arith, low))
  members_at v (c ∷ us) false is e i d low = absurd cc
  members_at v (c ∷ []) true is e zero d low = ap (λ (xs : List ℕ). is_member bits (get_or xs 0 0)) e ∙ is
  members_at v (c ∷ []) true is e (suc i) d low = absurd (omega (arith, low))
  members_at v (c ∷ (x ∷ us)) true is e i d low = let bad : length (map (λ (c : Copy). c.vvbn) (c ∷ (x ∷ us))) ≡ 1 = ap (λ (xs : List ℕ). length xs) e in absurd (omega (arith, bad))

-- none was copied of no number
pub copied_none : (disk : Disk) (pool : Pool) (slot : ℕ) (bits : List Bool) (got : List Copy → Type 0) (ts : List Copy) → got ts → HasCopied disk pool slot (copies_below bits 0) got ts
unfolding copies_below
copied_none disk pool slot bits got ts is = record {
  copies = [];
  numbers_are = refl;
  each = λ i d low. absurd (omega (arith, low));
  taken = subst got (sym (append-nil ts)) is;
}

pub copied_as : (disk : Disk) (pool : Pool) (slot : ℕ) (now numbers : List ℕ) (got : List Copy → Type 0) (ts : List Copy) → now ≡ numbers → HasCopied disk pool slot now got ts → HasCopied disk pool slot numbers got ts
copied_as disk pool slot now numbers got ts same is = record { copies = is.copies; numbers_are = is.numbers_are ∙ same; each = is.each; taken = is.taken }

-- one number more, where what was copied lay still
pub copied_more : (quiet : Type 0) (disk : Disk) (pool : Pool) (slot : ℕ) (bits : List Bool) (source : IsSource disk pool slot bits) (after : Disk) (left : Pool) (leaves : LeavesTaken quiet disk pool after left)
    (n : ℕ) (got then : List Copy → Type 0) (ts : List Copy) → HasCopied disk pool slot (copies_below bits n) got ts
    → ((us : List Copy) → got us → HasCopied after left slot (copies_at bits n) then us) → HasCopied disk pool slot (copies_below bits (n + 1)) then ts
copied_more quiet disk pool slot bits source after left leaves n got then ts was next =
    let step = next (ts ++ was.copies) was.taken in
    record {
      copies = was.copies ++ step.copies;
      numbers_are = map-append (λ (c : Copy). c.vvbn) was.copies step.copies ∙ ap (λ (xs : List ℕ). xs ++ map (λ (c : Copy). c.vvbn) step.copies) was.numbers_are
          ∙ ap (λ (xs : List ℕ). copies_below bits n ++ xs) step.numbers_are ∙ sym (copies_one bits n);
      each = All-append (IsCopy disk pool slot) was.copies step.copies was.each
          (λ i d low. copy_was quiet disk pool slot bits source after left leaves (get_or step.copies i d) (members_at bits n step.copies (is_member bits n) refl step.numbers_are i d low) (step.each i d low));
      taken = subst then (append_assoc ts was.copies step.copies) step.taken;
    }

-- one copy at a number that is a member
pub copied_here : (disk : Disk) (pool : Pool) (slot : ℕ) (bits : List Bool) (got : List Copy → Type 0) (ts : List Copy) (c : Copy) → is_member bits c.vvbn ≡ true → IsCopy disk pool slot c
    → (r : Result Unit BlockFault) → OnOk r (got (ts ++ (c ∷ []))) → OnOk r (HasCopied disk pool slot (copies_at bits c.vvbn) got ts)
copied_here disk pool slot bits got ts c is copy (Ok done) taken = record {
  copies = c ∷ [];
  numbers_are = sym (ap (λ (b : Bool). cond b (c.vvbn ∷ []) []) is);
  each = λ i d low. only i d low;
  taken = taken;
}
  where
    only : (i : ℕ) (d : Copy) → i < length (c ∷ []) → IsCopy disk pool slot (get_or (c ∷ []) i d)
    only zero d low = copy
    only (suc i) d low = absurd (omega (arith, low))
copied_here disk pool slot bits got ts c is copy (Err e) taken = tt

-- where there is room for the copy at a number that is a member, there is some
pub room_here : (bits : List Bool) (v room : ℕ) → is_member bits v ≡ true → length (copies_at bits v) ≤ room → room ≢ 0
room_here bits v room is fits none =
    let one : length (copies_at bits v) ≡ 1 = ap (λ (b : Bool). length (cond b (v ∷ []) [])) is in
    omega (arith, one, fits, none)

-- ---- which numbers have a copy

any_append : (v : ℕ) (xs ys : List ℕ) → list_any (λ u. v == u) (xs ++ ys) ≡ (list_any (λ u. v == u) xs || list_any (λ u. v == u) ys)
any_append v [] ys = refl
any_append v (x ∷ xs) ys = ap (λ (t : Bool). (v == x) || t) (any_append v xs ys) ∙ grouped (v == x) (list_any (λ u. v == u) xs) (list_any (λ u. v == u) ys)
  where
    grouped : (a b c : Bool) → (a || (b || c)) ≡ ((a || b) || c)
    grouped true b c = refl
    grouped false b c = refl

any_numbers : (v : ℕ) (copies : List Copy) → is_copied copies v ≡ list_any (λ u. v == u) (map (λ (c : Copy). c.vvbn) copies)
any_numbers v [] = refl
any_numbers v (c ∷ copies) = ap (λ (t : Bool). (v == c.vvbn) || t) (any_numbers v copies)

below_more : (bits : List Bool) (n v : ℕ) → ((nat_lt v n && is_member bits v) || list_any (λ u. v == u) (copies_at bits n)) ≡ (nat_lt v (suc n) && is_member bits v)
below_more bits n v = ⊎_elim
    (λ (same : v ≡ n).
    let low : nat_lt v n ≡ false = grind (arith, nat_tests, same) in
    let under : nat_lt v (suc n) ≡ true = grind (arith, nat_tests, same) in
    let test : (v == n) ≡ true = grind (arith, nat_tests, same) in
    ap (λ (t : Bool). (t && is_member bits v) || list_any (λ u. v == u) (copies_at bits n)) low ∙ here (is_member bits n) test ∙ ap (is_member bits) (sym same) ∙ sym (ap (λ (t : Bool). t && is_member bits v) under))
    (λ (other : v ≢ n).
    let still : nat_lt v (suc n) ≡ nat_lt v n = lower other in
    let test : (v == n) ≡ false = grind (arith, nat_tests, other) in
    away (is_member bits n) (nat_lt v n && is_member bits v) test ∙ sym (ap (λ (t : Bool). t && is_member bits v) still))
    (cases_eq v n)
  where
    lower : v ≢ n → nat_lt v (suc n) ≡ nat_lt v n
    lower other = ⊎_elim
        (λ (low : v < n). (let one : nat_lt v (suc n) ≡ true = grind (arith, nat_tests, low) in one) ∙ sym (let two : nat_lt v n ≡ true = grind (arith, nat_tests, low) in two))
        (λ (high : n ≤ v). (let one : nat_lt v (suc n) ≡ false = grind (arith, nat_tests, high, other) in one) ∙ sym (let two : nat_lt v n ≡ false = grind (arith, nat_tests, high) in two))
        (cases_lt v n)

    here : (b : Bool) → (v == n) ≡ true → list_any (λ u. v == u) (cond b (n ∷ []) []) ≡ b
    here true test = ap (λ (t : Bool). t || false) test
    here false test = refl

    away : (b t : Bool) → (v == n) ≡ false → (t || list_any (λ u. v == u) (cond b (n ∷ []) [])) ≡ t
    away true true test = refl
    away true false test = ap (λ (t : Bool). t || false) test
    away false true test = refl
    away false false test = refl

named_below : (bits : List Bool) (n v : ℕ) → list_any (λ u. v == u) (copies_below bits n) ≡ (nat_lt v n && is_member bits v)
unfolding copies_below
named_below bits zero v = let none : nat_lt v 0 ≡ false = grind (arith, nat_tests) in sym (ap (λ (t : Bool). t && is_member bits v) none)
named_below bits (suc n) v = any_append v (copies_below bits n) (copies_at bits n) ∙ ap (λ (t : Bool). t || list_any (λ u. v == u) (copies_at bits n)) (named_below bits n v) ∙ below_more bits n v

-- a number has a copy exactly where the map has it
pub copied_is : (bits : List Bool) (copies : List Copy) → map (λ (c : Copy). c.vvbn) copies ≡ copies_below bits (length bits) → (v : ℕ) → is_copied copies v ≡ is_member bits v
copied_is bits copies numbers v =
    any_numbers v copies ∙ ap (λ (xs : List ℕ). list_any (λ u. v == u) xs) numbers ∙ named_below bits (length bits) v ∙ ⊎_elim
    (λ (low : v < length bits). let test : nat_lt v (length bits) ≡ true = grind (arith, nat_tests, low) in ap (λ (t : Bool). t && is_member bits v) test)
    (λ (past : length bits ≤ v).
    let test : nat_lt v (length bits) ≡ false = grind (arith, nat_tests, past) in
    ap (λ (t : Bool). t && is_member bits v) test ∙ sym (is_member_past bits v past))
    (cases_lt v (length bits))

-- the copy that a number has
pub record HasAt (copies : List Copy) (v : ℕ) : Type 0 where
  pub at : ℕ
  pub low : at < length copies
  pub number : (d : Copy) → (get_or copies at d).vvbn ≡ v

pub copy_at : (copies : List Copy) (v : ℕ) → is_copied copies v ≡ true → HasAt copies v
copy_at [] v is = absurd (true≢false (sym is))
copy_at (c ∷ copies) v is = ⊎_elim
    (λ (here : (v == c.vvbn) ≡ true). let same : v ≡ c.vvbn = grind (arith, nat_tests, here) in record { at = 0; low = omega arith; number = λ d. sym same })
    (λ (other : (v == c.vvbn) ≡ false). let rest = copy_at copies v (sym (ap (λ (t : Bool). t || is_copied copies v) other) ∙ is) in record { at = suc rest.at; low = let low = rest.low in omega (arith, low); number = λ d. rest.number d })
    (cases_Bool (v == c.vvbn))
