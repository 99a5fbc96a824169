-- Whether some volume of the machine has a base that passes a test is told by the names that the volumes of a session know.
use Rattle.std.proofs.Common.{◌≡◌, ◌≢◌, ◌⊎◌, inl, inr, ⊎_elim, ℕ, zero, suc, ◌<◌, Bool, true, false, cond, List, [], ◌∷◌, length, Option, Some, None, refl, sym, ap, ◌∙◌, arith}
use Rattle.std.specs.Prelude.{IfSome}
use Rattle.std.specs.List.{list_any, range_with_len}
use Rattle.std.specs.Option.{option_map_or}
use Rattle.std.specs.FinMap as fin
use Rattle.std.specs.Ordering.{eq_by_cmp}
use Rattle.std.proofs.lemmas.Bool.{cases_Bool, cases_eq}
use Rattle.std.proofs.lemmas.Option.{none-some, same_Some}
use Rattle.fv_model.specs.Machines.{Machine}
use Rattle.fv_model.specs.Refusals.{some_base}
use Rattle.fv_model.specs.Spelling.{name_cmp}
use Rattle.fv_model.specs.Volumes.{Base, Volume}
use Rattle.fv_laws.proofs.Changes.{same_name}
use Rattle.fv_laws.proofs.Lists.{In, in_range}
use Rattle.fv_laws.proofs.Orders.{name_total}
use Rattle.fv_laws.proofs.Room.{entry_there}
use Rattle.fv_laws.proofs.Tests.{from_any, iff, to_any}
use Rattle.fv_container.specs.Chains.{slot_count}
use Rattle.fv_volume.specs.declared.state.VolumeState.{VolumeState}
use Rattle.fv_volume.specs.Calls.{Has}
use Rattle.fv_volume.specs.OneVolume.{base_as, volume_as, Content}
use Rattle.fv_volume.specs.Promising.{HasVolumes}
use Rattle.fv_volume.specs.Slots.{is_named}
use Rattle.fv_volume.specs.States.{States, state_at}
use Rattle.fv_volumes.proofs.Told.{is_inside}

find_in : (name : List ℕ) (es : List (List ℕ × Volume)) (v : Volume) → fin.find name_cmp name es ≡ Some v → (e : List ℕ × Volume) × (In e es × (e.1 ≡ v))
find_in name [] v is = absurd cc
find_in name (e ∷ es) v is = so (λ f. find_in name es v f) (eq_by_cmp name_cmp name e.0) is
  where
    so : (fin.find name_cmp name es ≡ Some v → (d : List ℕ × Volume) × (In d es × (d.1 ≡ v))) → (b : Bool) → cond b (Some e.1) (fin.find name_cmp name es) ≡ Some v → (d : List ℕ × Volume) × (In d (e ∷ es) × (d.1 ≡ v))
    so next true f = let same : e.1 ≡ v = cc in (e, (inl refl, same))
    so next false f = let later = next f in (later.0, (inr later.1.0, later.1.1))

module _ (old : States) (long : length old ≡ 64) (contents : ℕ → Content) (blocks : ℕ) (m : Machine) (has : HasVolumes old contents blocks m) (test : Base → Bool) where
  -- the test of the base of a slot's volume
  abbrev passes_in : ℕ → Option VolumeState → Bool
  passes_in s o = option_map_or (λ (x : VolumeState). option_map_or test (base_as x.base (contents s).base) false) o false

  by_slot : (name : List ℕ) (count : ℕ) → ((s : ℕ) → s < count → is_named (state_at old s) name ≡ false) ⊎ ((s : ℕ) × (is_named (state_at old s) name ≡ true))
  by_slot name zero = inl (λ s low. absurd (omega (arith, low)))
  by_slot name (suc n) = ⊎_elim
      (λ (none : (s : ℕ) → s < n → is_named (state_at old s) name ≡ false). ⊎_elim
      (λ (there : is_named (state_at old n) name ≡ true). inr (n, there))
      (λ (isnt : is_named (state_at old n) name ≡ false). inl (λ s low. ⊎_elim
      (λ (same : s ≡ n). ap (λ (k : ℕ). is_named (state_at old k) name) same ∙ isnt)
      (λ (other : s ≢ n). none s (omega (arith, low, other)))
      (cases_eq s n)))
      (cases_Bool (is_named (state_at old n) name)))
      (λ there. inr there)
      (by_slot name n)

  -- a volume of the machine is that of a slot
  slot_of : (name : List ℕ) (v : Volume) → fin.get m.volumes name ≡ Some v → (s : ℕ) × ((x : VolumeState) × ((state_at old s ≡ Some x) × (volume_as x (contents s) ≡ v)))
  slot_of name v at = ⊎_elim
      (λ (none : (s : ℕ) → s < slot_count → is_named (state_at old s) name ≡ false). absurd (none-some v (sym (has.none name (record { none = none })) ∙ at)))
      (λ (there : (s : ℕ) × (is_named (state_at old s) name ≡ true)). by there.0 (state_at old there.0) refl there.1 (has.there there.0))
      (by_slot name slot_count)
    where
      by : (s : ℕ) (o : Option VolumeState) → state_at old s ≡ o → is_named o name ≡ true → IfSome o (λ x. Has x.name (volume_as x (contents s)) m) → (s : ℕ) × ((x : VolumeState) × ((state_at old s ≡ Some x) × (volume_as x (contents s) ≡ v)))
      by s None e named its = absurd cc
      by s (Some x) e named its = (s, (x, (e, same_Some (volume_as x (contents s)) v (sym (ap (fin.get m.volumes) (sym (same_name x.name name named)) ∙ its) ∙ at))))

  pub some_by : some_base m test ≡ list_any (λ s. passes_in s (state_at old s)) (range_with_len 0 slot_count)
  some_by = iff (some_base m test) (list_any (λ s. passes_in s (state_at old s)) (range_with_len 0 slot_count)) there back
    where
      there : some_base m test ≡ true → list_any (λ s. passes_in s (state_at old s)) (range_with_len 0 slot_count) ≡ true
      there any =
          let e = from_any (λ (e : List ℕ × Volume). option_map_or test e.1.base false) (fin.entries m.volumes) any in
          let s = slot_of e.0.0 e.0.1 (entry_there name_total m.volumes e.0 e.1.0) in
          let low : s.0 < 64 = is_inside old s.0 s.1.0 long s.1.1.0 in
          to_any (λ (s : ℕ). passes_in s (state_at old s)) s.0 (range_with_len 0 slot_count) (in_range 0 slot_count s.0 (omega arith) (omega (arith, low)))
          (ap (passes_in s.0) s.1.1.0 ∙ ap (λ (v : Volume). option_map_or test v.base false) s.1.1.1 ∙ e.1.1)

      back : list_any (λ s. passes_in s (state_at old s)) (range_with_len 0 slot_count) ≡ true → some_base m test ≡ true
      back any =
          let s = from_any (λ (s : ℕ). passes_in s (state_at old s)) (range_with_len 0 slot_count) any in by s.0 (state_at old s.0) s.1.1 (has.there s.0)
        where
          by : (s : ℕ) (o : Option VolumeState) → passes_in s o ≡ true → IfSome o (λ x. Has x.name (volume_as x (contents s)) m) → some_base m test ≡ true
          by s None passes its = absurd cc
          by s (Some x) passes its =
              let e = find_in x.name (fin.entries m.volumes) (volume_as x (contents s)) (sym (fin.get-entries m.volumes x.name) ∙ its) in
              to_any (λ (e : List ℕ × Volume). option_map_or test e.1.base false) e.0 (fin.entries m.volumes) e.1.0 (ap (λ (v : Volume). option_map_or test v.base false) e.1.1 ∙ passes)
