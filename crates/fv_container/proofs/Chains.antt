-- A walk along a chain of parents.
use Rattle.std.proofs.Common.{◌≡◌, ℕ, zero, suc, ◌+◌, ◌-◌, ◌<◌, ◌≤◌, List, length-set, set, Option, Some, None, refl, sym, ap, subst, ◌∙◌, arith}
use Rattle.std.specs.Prelude.{IfSome, length}
use Rattle.std.proofs.lemmas.List.{get_or_past}
use Rattle.std.proofs.lemmas.List.Elements.{All-get_or, All-replicate, All-set}
use Rattle.fv_disk.specs.Shown.{Image}
use Rattle.fv_disk.specs.declared.fault.BlockFault.{BlockFault}
use Rattle.fv_container.specs.Paged.{Paged}
use Rattle.fv_container.specs.Clean.{IsCleanOn}
use Rattle.fv_container.specs.declared.entry.Entry.{Entry}
use Rattle.fv_container.specs.Mapped.{Mapped, IsMapped, IsHeld, entry_under}
use Rattle.fv_container.specs.Chains.{AreCleanOn, IsFaultIn, IsLeafFault, Slots, IsSlots, slot_count, container_at, paged_at, parent_at, own_entry, or_else, along, no_containers, slots_of}

-- the slot's own entry, or else what follows
along_step : (slots : Slots) (n slot v : ℕ) → 0 < n → along slots n (Some slot) v ≡ or_else (own_entry (container_at slots slot) v) (along slots (n - 1) (parent_at slots slot) v)
unfolding along
along_step slots zero slot v some = absurd (omega (arith, some))
along_step slots (suc n) slot v some = let e : suc n - 1 ≡ n = omega arith in rw e refl

along_none : (slots : Slots) (n v : ℕ) → along slots n None v ≡ None
unfolding along
along_none slots zero v = refl
along_none slots (suc n) v = refl

along_end : (slots : Slots) (n v : ℕ) (slot : Option ℕ) → n ≡ 0 → along slots n slot v ≡ None
unfolding along
along_end slots zero v slot none = refl
along_end slots (suc n) v slot none = absurd (omega (arith, none))

module _ (slots : Slots) (counter at v : ℕ) (own chain : Option Entry) where
  pub found_here : (entry : Entry) → counter < 64 → along slots (64 - counter) (Some at) v ≡ chain → own_entry (container_at slots at) v ≡ Some entry → Some entry ≡ chain
  found_here entry more rest here = sym (along_step slots (64 - counter) at v (omega (arith, more)) ∙ ap (λ o. or_else o (along slots (64 - counter - 1) (parent_at slots at) v)) here) ∙ rest

  pub goes_up : (parent : Option ℕ) → counter < 64 → along slots (64 - counter) (Some at) v ≡ chain → own_entry (container_at slots at) v ≡ None → parent_at slots at ≡ parent → along slots (64 - (counter + 1)) parent v ≡ chain
  goes_up parent more rest here up =
      let less : 64 - counter - 1 ≡ 64 - (counter + 1) = omega arith in
      ap (λ n. along slots n parent v) (sym less) ∙ ap (λ p. along slots (64 - counter - 1) p v) (sym up)
      ∙ sym (along_step slots (64 - counter) at v (omega (arith, more)) ∙ ap (λ o. or_else o (along slots (64 - counter - 1) (parent_at slots at) v)) here) ∙ rest

  pub ends_above : counter < 64 → along slots (64 - counter) (Some at) v ≡ chain → own_entry (container_at slots at) v ≡ None → parent_at slots at ≡ None → None ≡ chain
  ends_above more rest here up = sym (along_none slots (64 - (counter + 1)) v) ∙ goes_up None more rest here up

  pub ends_after : 64 ≤ counter → along slots (64 - counter) (Some at) v ≡ chain → None ≡ chain
  ends_after all rest = sym (along_end slots (64 - counter) v (Some at) (omega (arith, all))) ∙ rest

pub parent_within : (slots : Slots) (at parent : ℕ) → IsSlots slots → at < 64 → parent_at slots at ≡ Some parent → parent < 64
parent_within slots at parent is within up =
    let all = All-get_or (λ p. IfSome p (λ slot. slot < slot_count)) slots.parents at None (omega (arith, is.parents, within)) is.within in
    rw up at all

pub slots_at_first : IsSlots no_containers
slots_at_first = record {
  containers = refl;
  parents = refl;
  within = All-replicate (λ p. IfSome p (λ slot. slot < slot_count)) 64 None tt;
}

-- a slot is put
pub slots_put : (containers : List (Option Paged)) (parents : List (Option ℕ)) (slot : ℕ) (container : Option Paged) (parent : Option ℕ) → IsSlots (slots_of containers parents) → IfSome parent (λ p. p < slot_count)
    → IsSlots (slots_of (set containers slot container) (set parents slot parent))
slots_put containers parents slot container parent is below = record {
  containers = length-set containers slot container ∙ is.containers;
  parents = length-set parents slot parent ∙ is.parents;
  within = All-set (λ p. IfSome p (λ s. s < slot_count)) parents slot parent below is.within;
}

pub held_under : (map : Mapped) (v : ℕ) → IsMapped map → v < length map.entries → IfSome (entry_under map v) IsHeld
held_under map v is within = All-get_or (λ entry. IfSome entry IsHeld) map.entries v None within is.entries

pub past_none : (paged : Paged) (v : ℕ) → length paged.map.entries ≤ v → entry_under paged.map v ≡ None
past_none paged v past = get_or_past paged.map.entries v None past

pub clean_at : (i j : Image) (slots : Slots) (s : ℕ) → j ≡ i → AreCleanOn i slots → IfSome (paged_at slots s) (IsCleanOn j)
clean_at i j slots s same clean = subst (λ (x : Image). IfSome (paged_at slots s) (IsCleanOn x)) (sym same) (clean s)

pub chain_fault : (i j : Image) (slots : Slots) (slot v : ℕ) (fault : BlockFault) → j ≡ i → IsFaultIn j (paged_at slots slot) v fault → IsLeafFault i slots v fault
chain_fault i j slots slot v fault same bad = record { slot = slot; reason = subst (λ (x : Image). IsFaultIn x (paged_at slots slot) v fault) same bad }
