-- How many blocks the copies of a mirror take: no more than the numbers of its source.
use Rattle.std.proofs.Common.{◌≡◌, ◌<◌, ◌≤◌, ◌+◌, ◌-◌, ◌⊎◌, ℕ, zero, suc, Bool, true, false, cond, not, ◌||◌, ◌==◌, List, [], ◌∷◌, length, true≢false, refl, sym, ap, subst, ◌∙◌, inl, inr, ⊎_elim, arith, length-append}
use Rattle.std.specs.List.{list_any}
use Rattle.std.proofs.lemmas.Bool.{cases_Bool, cases_lt}
use Rattle.std.proofs.lemmas.Bool.Decides.{nat_tests}
use Rattle.std.proofs.lemmas.Option.{none-some}
use Rattle.fv_disk.specs.Shown.{Shown}
use Rattle.fv_bits.specs.Members.{is_member}
use Rattle.fv_bits.proofs.Laws.{is_member_past}
use Rattle.fv_aggmap.specs.Space.{Space, blocks_of, free_blocks, free_from, is_held}
use Rattle.fv_model.specs.Machines.{first_block}
use Rattle.fv_image.proofs.Counts.{listed_within, within_two}
use Rattle.fv_container.specs.Leading.{place_in}
use Rattle.fv_container.specs.Mapped.{entry_under}
use Rattle.fv_container.specs.Paged.{Paged}
use Rattle.fv_copies.specs.Copying.{copies_at, copies_below}
use Rattle.fv_copies.specs.Landings.{LeadsTo}
use Rattle.fv_pool.specs.declared.pool.Pool.{Pool}
use Rattle.fv_mirror.specs.Making.{HasCopies}

-- ---- a list of places

-- the places of the members of a map below a number
unfoldable places : List Bool → (ℕ → ℕ) → ℕ → List ℕ
places bits place zero = []
places bits place (suc n) = cond (is_member bits n) (place n ∷ places bits place n) (places bits place n)

as_many : (bits : List Bool) (place : ℕ → ℕ) (n : ℕ) → length (places bits place n) ≡ length (copies_below bits n)
unfolding places copies_below
as_many bits place zero = refl
as_many bits place (suc n) = by (is_member bits n) (as_many bits place n) ∙ sym (length-append (copies_below bits n) (copies_at bits n))
  where
    by : (t : Bool) → length (places bits place n) ≡ length (copies_below bits n) → length (cond t (place n ∷ places bits place n) (places bits place n)) ≡ length (copies_below bits n) + length (cond t (n ∷ []) [])
    by true same = omega (arith, same)
    by false same = omega (arith, same)

or_true : (u : Bool) → (u || true) ≡ true
or_true true = refl
or_true false = refl

more : (test : ℕ → Bool) (y : ℕ) (xs : List ℕ) (t : Bool) → list_any test xs ≡ true → list_any test (cond t (y ∷ xs) xs) ≡ true
more test y xs true is = ap (λ (u : Bool). test y || u) is ∙ or_true (test y)
more test y xs false is = is

here : (test : ℕ → Bool) (y : ℕ) (xs : List ℕ) (t : Bool) → t ≡ true → test y ≡ true → list_any test (cond t (y ∷ xs) xs) ≡ true
here test y xs true e is = ap (λ (u : Bool). u || list_any test xs) is
here test y xs false e is = absurd (true≢false (sym e))

listed : (bits : List Bool) (place : ℕ → ℕ) (n v : ℕ) → v < n → is_member bits v ≡ true → list_any (λ x. x == place v) (places bits place n) ≡ true
unfolding places
listed bits place zero v low is = absurd (omega (arith, low))
listed bits place (suc n) v low is = ⊎_elim
    (λ (under : v < n). more (λ x. x == place v) (place n) (places bits place n) (is_member bits n) (listed bits place n v under is))
    (λ (past : n ≤ v).
    let same : v ≡ n = omega (arith, low, past) in
    let own : (place n == place v) ≡ true = (let at : place n ≡ place v = ap place (sym same) in grind (arith, nat_tests, at)) in
    here (λ x. x == place v) (place n) (places bits place n) (is_member bits n) (ap (is_member bits) (sym same) ∙ is) own)
    (cases_lt v n)

-- ---- blocks that came

-- where each block that came is in a list, no more came than that has
spent_places : (old new : Space) (xs : List ℕ) → new.committed ≡ old.committed → ((b : ℕ) → is_member new.next b ≡ true → (is_member old.next b ≡ true) ⊎ (list_any (λ x. x == b) xs ≡ true))
    → free_blocks old ≤ free_blocks new + length xs
unfolding free_from
spent_places old new xs same come =
    let first = first_block (blocks_of old) in
    let count = blocks_of old - first in
    let one = within_two (λ b. not (is_held old.committed old.next b)) (λ b. not (is_held old.committed new.next b)) (λ b. list_any (λ x. x == b) xs) first count
    (λ b. by (is_member old.committed b) (is_member old.next b) (is_member new.next b) (list_any (λ x. x == b) xs) (come b)) in
    let two = listed_within xs first count in
    let now : free_blocks new ≡ free_from old.committed new.next (first_block (length old.committed)) = ap (λ (c : List Bool). free_from c new.next (first_block (length c))) same in
    omega (arith, one, two, now)
  where
    by : (c n m l : Bool) → (m ≡ true → (n ≡ true) ⊎ (l ≡ true)) → cond {A = ℕ} (not (c || n)) 1 0 ≤ cond (not (c || m)) 1 0 + cond l 1 0
    by true n m l is = omega arith
    by false true m l is = omega arith
    by false false false l is = omega arith
    by false false true l is = ⊎_elim (λ e. absurd (true≢false (sym e))) (λ e. subst (λ (t : Bool). 1 ≤ 0 + cond t 1 0) (sym e) (omega arith)) (is refl)

-- So many blocks the copies take at most.
pub copies_spent : (disk : Shown) (pool : Pool) (source : ℕ) (bits : List Bool) (container : Paged) (after : Shown) (left : Pool) → left.map.committed ≡ pool.map.committed → HasCopies disk pool source bits container after left
    → free_blocks pool.map ≤ free_blocks left.map + length (copies_below bits (length bits))
copies_spent disk pool source bits container after left same has =
    let count = as_many bits place (length bits) in
    let spent = spent_places pool.map left.map (places bits place (length bits)) same (λ b is. ⊎_elim (λ was. inl was) (λ (leads : LeadsTo container b). inr (named b leads)) (has.come b is)) in
    omega (arith, count, spent)
  where
    place : ℕ → ℕ
    place v = place_in (entry_under container.map v)

    member : (b : ℕ) (leads : LeadsTo container b) → is_member bits leads.number ≡ true
    member b leads = ⊎_elim (λ is. is) (λ isnt. absurd (none-some leads.entry (sym (has.holes leads.number isnt) ∙ leads.there))) (cases_Bool (is_member bits leads.number))

    inside : (b : ℕ) (leads : LeadsTo container b) → leads.number < length bits
    inside b leads = ⊎_elim (λ low. low) (λ past. absurd (true≢false (sym (member b leads) ∙ is_member_past bits leads.number past))) (cases_lt leads.number (length bits))

    named : (b : ℕ) (leads : LeadsTo container b) → list_any (λ x. x == b) (places bits place (length bits)) ≡ true
    named b leads =
        let at : place leads.number ≡ b = ap place_in leads.there ∙ leads.place in
        subst (λ (n : ℕ). list_any (λ x. x == n) (places bits place (length bits)) ≡ true) at (listed bits place (length bits) leads.number (inside b leads) (member b leads))
