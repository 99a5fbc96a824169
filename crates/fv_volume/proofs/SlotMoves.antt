-- The slots of a volume's maps where one becomes as another was, or free: what lies under their numbers stays.
use Rattle.std.proofs.Common.{◌≡◌, ◌⊎◌, ℕ, zero, suc, Bool, true, false, cond, ◌&&◌, List, [], ◌∷◌, inl, inr, Option, Some, None, refl, sym, ap, ap₂, subst, ◌∙◌, ⊎_elim}
use Rattle.std.specs.Prelude.{nat_le, slice_set}
use Rattle.std.proofs.lemmas.Bool.{or_cases, or_left, or_right}
use Rattle.fv_disk.specs.Shown.{Shown as Disk}
use Rattle.fv_tables.specs.Spelled.{Under}
use Rattle.fv_tree.specs.Sources.{Use}
use Rattle.fv_container.specs.declared.entry.Entry.{Entry}
use Rattle.fv_container.specs.Chains.{Slots, chain_entry}
use Rattle.fv_volmap.specs.Slots.{Slot, Volume as Maps, has, slot_at, taken_in}
use Rattle.fv_pool.specs.declared.pool.Pool.{Pool}
use Rattle.fv_pool.specs.declared.rooted.Rooted.{Rooted}
use Rattle.fv_volume.specs.declared.state.VolumeState.{VolumeState}
use Rattle.fv_pool.specs.BlocksOver.{AreApart, block_of, held_block, held_entry}
use Rattle.fv_pool.specs.Lending.{IsTold, use_of}
use Rattle.fv_volume.specs.OneVolume.{blocks_in, uses_in, IsTableIn, RootStands}
use Rattle.fv_pool.proofs.Holding.{has_taken}
use Rattle.fv_volume.proofs.KeptTables.{by_test}

-- what some slot has once one is another is had by that or by some slot before
pub taken_set : (slots : List Slot) (j : ℕ) (s : Slot) (v : ℕ) → taken_in (slice_set slots j s) v ≡ true → (has v s ≡ true) ⊎ (taken_in slots v ≡ true)
taken_set [] j s v is = inr is
taken_set (t ∷ ts) zero s v is = ⊎_elim (λ here. inl here) (λ later. inr (or_right (has v t) (taken_in ts v) later)) (or_cases (has v s) (taken_in ts v) is)
taken_set (t ∷ ts) (suc j) s v is = ⊎_elim
    (λ (here : has v t ≡ true). inr (or_left (has v t) (taken_in ts v) here))
    (λ later. ⊎_elim (λ one. inl one) (λ rest. inr (or_right (has v t) (taken_in ts v) rest)) (taken_set ts j s v later))
    (or_cases (has v t) (taken_in (slice_set ts j s) v) is)

module _ (old new : Maps) (less : (v : ℕ) → taken_in new.slots v ≡ true → taken_in old.slots v ≡ true) (slots : Slots) (at : ℕ) where
  -- What is held afterwards was, and leads where it led.
  less_held : (v : ℕ) (e : Entry) → held_entry new slots at v ≡ Some e → held_entry old slots at v ≡ Some e
  unfolding held_entry
  less_held v e is = by (nat_le v 1048575) (taken_in new.slots v) (taken_in old.slots v) (less v) is
    where
      by : (low b c : Bool) → (b ≡ true → c ≡ true) → cond (low && b) (chain_entry slots at v) None ≡ Some e → cond (low && c) (chain_entry slots at v) None ≡ Some e
      by false b c both e = absurd cc
      by true false c both e = absurd cc
      by true true c both e = ap (λ (t : Bool). cond t (chain_entry slots at v) None) (both refl) ∙ e

  -- Its entries lie apart still.
  pub less_apart : (pool : Pool) → pool.containers ≡ slots → AreApart pool old at → AreApart pool new at
  less_apart pool same is = record {
    own = is.own;
    held = λ v e there. is.held v e (back v e there);
    own_apart = is.own_apart;
    held_apart = λ v w other e own f there. is.held_apart v w other e own f (back w f there);
  }
    where
      back : (v : ℕ) (e : Entry) → held_entry new pool.containers at v ≡ Some e → held_entry old pool.containers at v ≡ Some e
      back v e there = ap (λ (s : Slots). held_entry old s at v) same ∙ less_held v e (ap (λ (s : Slots). held_entry new s at v) (sym same) ∙ there)

module _ (d : Disk) (p : Pool) (x y : VolumeState) (at : y.slot ≡ x.slot) where
  -- Where less is held all that is told stays told.
  pub less_told : ((v : ℕ) → taken_in y.map.slots v ≡ true → taken_in x.map.slots v ≡ true) → IsTold d p x.map x.slot → IsTold d p y.map y.slot
  less_told less told = (told.0, subst (AreApart p y.map) (sym at) (less_apart x.map y.map less p.containers x.slot p refl told.1), told.2)

  module _ (k j : ℕ) (same : slot_at y.map k ≡ slot_at x.map j) where
    entry_moves : (v : ℕ) → has v (slot_at x.map j) ≡ true → held_entry y.map p.containers y.slot v ≡ held_entry x.map p.containers x.slot v
    unfolding held_entry
    entry_moves v is =
        let before : taken_in x.map.slots v ≡ true = has_taken x.map.slots j v is in
        let after : taken_in y.map.slots v ≡ true = has_taken y.map.slots k v (ap (has v) same ∙ is) in
        ap₂ (λ (b : Bool) (s : ℕ). cond (nat_le v 1048575 && b) (chain_entry p.containers s v) None) (after ∙ sym before) at

    -- The slot has the blocks that the other had,
    pub blocks_move : blocks_in d p y k ≡ blocks_in d p x j
    blocks_move = λ i v. by_test (has v (slot_at y.map k)) (has v (slot_at x.map j)) (held_block y.map p y.slot d.reads v) (held_block x.map p x.slot d.reads v) (ap (has v) same)
        (λ is. ap (block_of p.kept d.reads) (entry_moves v is)) i

    uses_move : uses_in p y k ≡ uses_in p x j
    uses_move = λ i v. by_test (has v (slot_at y.map k)) (has v (slot_at x.map j)) (Some (use_of (held_entry y.map p.containers y.slot v))) (Some (use_of (held_entry x.map p.containers x.slot v))) (ap (has v) same)
        (λ is. ap (λ (o : Option Entry). Some (use_of o)) (entry_moves v is)) i

    -- and a table that lay whole in that lies whole in this.
    pub root_moves : y.now ≡ x.now → y.known ≡ x.known → (r : Rooted) → RootStands d p x j r → RootStands d p y k r
    root_moves now known r is =
        subst (λ (b : Bool). IsTableIn b (blocks_in d p y k) (uses_in p y k) (slot_at y.map k) y.now r) (sym known)
        (subst (λ (n : ℕ). IsTableIn x.known (blocks_in d p y k) (uses_in p y k) (slot_at y.map k) n r) (sym now)
        (subst (λ (u : Under). IsTableIn x.known u (uses_in p y k) (slot_at y.map k) x.now r) (sym blocks_move)
        (subst (λ (uses : ℕ → Option Use). IsTableIn x.known (blocks_in d p x j) uses (slot_at y.map k) x.now r) (sym uses_move)
        (subst (λ (s : Slot). IsTableIn x.known (blocks_in d p x j) (uses_in p x j) s x.now r) (sym same) is))))
