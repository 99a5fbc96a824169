-- What chains of containers find where some of these change: under a number whose own entries stay all along the chain, the same.
use Rattle.std.proofs.Common.{◌≡◌, ℕ, zero, suc, ◌≤◌, Bool, true, false, ◌&&◌, cond, Option, Some, None, refl, ◌∙◌, arith}
use Rattle.std.specs.Prelude.{nat_le}
use Rattle.std.proofs.lemmas.Bool.{and_parts}
use Rattle.std.proofs.lemmas.Bool.Decides.{nat_tests}
use Rattle.fv_container.specs.declared.entry.Entry.{Entry}
use Rattle.fv_container.specs.Chains.{Slots, along, chain_entry, container_at, or_else, own_entry, parent_at}
use Rattle.fv_volmap.specs.Slots.{Volume, taken_in}
use Rattle.fv_pool.specs.BlocksOver.{held_entry}

-- `Rests s v` says that the container of a slot keeps its parent, and its own entry under a number; where that is a hole, so does its parent.
module _ (old new : Slots) (Rests : ℕ → ℕ → Type 0) (parents : (s v : ℕ) → Rests s v → parent_at new s ≡ parent_at old s)
    (same : (s v : ℕ) → Rests s v → own_entry (container_at new s) v ≡ own_entry (container_at old s) v)
    (leads : (s v t : ℕ) → Rests s v → own_entry (container_at old s) v ≡ None → parent_at old s ≡ Some t → Rests t v) where
  pub along_stays : (n s v : ℕ) → Rests s v → along new n (Some s) v ≡ along old n (Some s) v
  unfolding along
  along_stays zero s v rests = refl
  along_stays (suc n) s v rests =
      (λ i. or_else (same s v rests i) (along new n (parents s v rests i) v)) ∙ so (λ t r. along_stays n t v r) (own_entry (container_at old s) v) refl (parent_at old s) refl
    where
      nothing : (m : ℕ) → along new m None v ≡ along old m None v
      nothing zero = refl
      nothing (suc m) = refl

      so : ((t : ℕ) → Rests t v → along new n (Some t) v ≡ along old n (Some t) v) → (e : Option Entry) → own_entry (container_at old s) v ≡ e → (o : Option ℕ) → parent_at old s ≡ o → or_else e (along new n o v) ≡ or_else e (along old n o v)
      so next (Some e) is o at = refl
      so next None is None at = nothing n
      so next None is (Some t) at = next t (leads s v t rests is at)

  -- the slot on the chain whose own entry is the one that is found
  pub record FoundAt (v : ℕ) (e : Entry) : Type 0 where
    pub slot : ℕ
    pub rests : Rests slot v
    pub own : own_entry (container_at old slot) v ≡ Some e

  pub found_at : (n s v : ℕ) (e : Entry) → Rests s v → along old n (Some s) v ≡ Some e → FoundAt v e
  unfolding along
  found_at zero s v e rests is = absurd cc
  found_at (suc n) s v e rests is = so (λ t r f. found_at n t v e r f) (own_entry (container_at old s) v) refl (parent_at old s) refl is
    where
      never : (m : ℕ) → along old m None v ≡ Some e → ⊥
      never zero f = cc
      never (suc m) f = cc

      here : (d : Entry) → own_entry (container_at old s) v ≡ Some d → ◌≡◌ {A = Option Entry} (Some d) (Some e) → FoundAt v e
      here d at f = record { slot = s; rests = rests; own = at ∙ f }

      so : ((t : ℕ) → Rests t v → along old n (Some t) v ≡ Some e → FoundAt v e) → (d : Option Entry) → own_entry (container_at old s) v ≡ d → (o : Option ℕ) → parent_at old s ≡ o → or_else d (along old n o v) ≡ Some e → FoundAt v e
      so next (Some d) at o up f = here d at f
      so next None at None up f = absurd (never n f)
      so next None at (Some t) up f = next t (leads s v t rests at up) f

  -- ---- what is held

  module _ (map : Volume) (slot : ℕ) (on : (v : ℕ) → taken_in map.slots v ≡ true → Rests slot v) where
    pub held_stays : (v : ℕ) → held_entry map new slot v ≡ held_entry map old slot v
    unfolding held_entry
    held_stays v = by (nat_le v 1048575 && taken_in map.slots v) refl
      where
        by : (b : Bool) → (nat_le v 1048575 && taken_in map.slots v) ≡ b → cond b (chain_entry new slot v) None ≡ cond b (chain_entry old slot v) None
        by false test = refl
        by true test = along_stays 64 slot v (on v (and_parts (nat_le v 1048575) (taken_in map.slots v) test).1)

    -- where an entry that is held is found
    pub held_found : (v : ℕ) (x : Entry) → held_entry map old slot v ≡ Some x → (v ≤ 1048575) × FoundAt v x
    unfolding held_entry
    held_found v x is = by (nat_le v 1048575 && taken_in map.slots v) refl is
      where
        small : nat_le v 1048575 ≡ true → v ≤ 1048575
        small test = grind (arith, nat_tests, test)

        by : (b : Bool) → (nat_le v 1048575 && taken_in map.slots v) ≡ b → cond b (chain_entry old slot v) None ≡ Some x → (v ≤ 1048575) × FoundAt v x
        by false test is = absurd cc
        by true test is =
            let parts = and_parts (nat_le v 1048575) (taken_in map.slots v) test in
            (small parts.0, found_at 64 slot v x (on v parts.1) is)
