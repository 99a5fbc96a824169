-- The snapshot of a name, by its place in the list and by itself.
use Rattle.std.proofs.Common.{Bor, option_copied, ◌≡◌, ℕ, suc, ◌+◌, ◌<◌, ◌≤◌, Bool, true, false, cond, not, ◌&&◌, List, [], ◌∷◌, length, Option, Some, None, is_some, refl, sym, ap, subst, ◌∙◌, arith}
use Rattle.std.specs.Prelude.{◌==◌, find, nat_le, nat_lt, slice_index_or, if◌then◌else◌}
use Rattle.std.specs.List.{list_all, position_or_len}
use Rattle.std.proofs.lemmas.Bool.{and_parts, true≢false}
use Rattle.std.proofs.lemmas.Bool.Decides.{nat_tests}
use Rattle.std.proofs.lemmas.Cmp.{eq_by_cmp_equiv}
use Rattle.fv_model.specs.Spelling.{is_same_name}
use Rattle.fv_laws.proofs.Orders.{name_total}
use Rattle.fv_image.specs.Mapped.{stored_slots}
use Rattle.fv_image.specs.Views.{Snap as HeadSnap}
use Rattle.fv_image.specs.Volumes.{snap_at}
use Rattle.fv_volmap.specs.Slots.{slot_at, stored_count}
use Rattle.fv_volume.specs.declared.state.Snap.{Snap}
use Rattle.fv_volume.specs.declared.state.VolumeState.{VolumeState}
use Rattle.fv_volume.specs.Asking.{snap_named}
use Rattle.fv_volume.specs.Files.{IsLabelled}
use Rattle.fv_volume.specs.Snapshots.{FindsSnap}
use Rattle.fv_volume.specs.States.{snap_in, snaps_in}
use Rattle.fv_volume.proofs.Positions.{first_of, first_within, last_of}

-- whether there is one by a reference
pub copied_some : {T : Type 0} (r : Option (Bor T)) (o : Option T) → option_copied r ≡ o → is_some r ≡ is_some o
copied_some r o same = by r ∙ ap is_some same
  where
    by : {T : Type 0} (r : Option (Bor T)) → is_some r ≡ is_some (option_copied r)
    by None = refl
    by (Some b) = refl

-- one that isn't there is none
pub none_some : {T : Type 0} (o : Option T) → is_some o ≡ false → o ≡ None
none_some None is = refl
none_some (Some q) is = absurd (true≢false is)

module _ (name : List ℕ) where
  abbrev place : List Snap → ℕ
  place snaps = position_or_len (λ p. is_same_name p.name name) snaps

  -- names are compared in either order
  turned : (q : Snap) → is_same_name name q.name ≡ is_same_name q.name name
  turned q = (eq_by_cmp_equiv name_total).symm name q.name

  -- one at a place is found by its name
  some_named : (snaps : List Snap) → place snaps < length snaps → is_some (snap_named snaps name) ≡ true
  some_named [] low = absurd (omega (arith, low))
  some_named (q ∷ qs) low = by (is_same_name q.name name) (is_same_name name q.name) (turned q) low (some_named qs)
    where
      by : (b c : Bool) → c ≡ b → cond (not b) (1 + place qs) 0 < suc (length qs) → (place qs < length qs → is_some (snap_named qs name) ≡ true) → is_some (if c then Some q else snap_named qs name) ≡ true
      by true c same low rest = ap (λ (c : Bool). is_some (if c then Some q else snap_named qs name)) same
      by false c same low rest = ap (λ (c : Bool). is_some (if c then Some q else snap_named qs name)) same ∙ rest (omega (arith, low))

  -- and is the one there,
  here_named : (snaps : List Snap) → place snaps < length snaps → (some : Snap) → snap_named snaps name ≡ Some (slice_index_or snaps (place snaps) some)
  here_named [] low some = absurd (omega (arith, low))
  here_named (q ∷ qs) low some = by (is_same_name q.name name) (is_same_name name q.name) (turned q) low (here_named qs)
    where
      by : (b c : Bool) → c ≡ b → cond (not b) (1 + place qs) 0 < suc (length qs) → (place qs < length qs → (some : Snap) → snap_named qs name ≡ Some (slice_index_or qs (place qs) some))
          → (if c then Some q else snap_named qs name) ≡ Some (slice_index_or (q ∷ qs) (cond (not b) (1 + place qs) 0) some)
      by true c same low rest = ap (λ (c : Bool). if c then Some q else snap_named qs name) same
      by false c same low rest =
          let next : suc (place qs) ≡ 1 + place qs = omega arith in
          ap (λ (c : Bool). if c then Some q else snap_named qs name) same ∙ rest (omega (arith, low)) some ∙ ap (λ (n : ℕ). Some (slice_index_or (q ∷ qs) n some)) next

  -- and none is where none is at a place
  none_named : (snaps : List Snap) → length snaps ≡ place snaps → snap_named snaps name ≡ None
  none_named [] same = refl
  none_named (q ∷ qs) same = by (is_same_name q.name name) (is_same_name name q.name) (turned q) same (none_named qs)
    where
      by : (b c : Bool) → c ≡ b → suc (length qs) ≡ cond (not b) (1 + place qs) 0 → (length qs ≡ place qs → snap_named qs name ≡ None) → (if c then Some q else snap_named qs name) ≡ None
      by true c same at rest = absurd (omega (arith, at))
      by false c same at rest = ap (λ (c : Bool). if c then Some q else snap_named qs name) same ∙ rest (omega (arith, at))

  -- A snapshot that is found by its place is found,
  pub found_there : (snaps : List Snap) (at : ℕ) → FindsSnap snaps name (Some at) → is_some (snap_named snaps name) ≡ true
  found_there snaps at finds =
      let same = first_of (λ (p : Snap). is_same_name p.name name) snaps at finds in
      let low = first_within (λ (p : Snap). is_same_name p.name name) snaps at finds in
      some_named snaps (omega (arith, same, low))

  -- as the one at that place,
  pub found_here : (snaps : List Snap) (at : ℕ) → FindsSnap snaps name (Some at) → (some : Snap) → snap_named snaps name ≡ Some (slice_index_or snaps at some)
  found_here snaps at finds some =
      let same = first_of (λ (p : Snap). is_same_name p.name name) snaps at finds in
      let low = first_within (λ (p : Snap). is_same_name p.name name) snaps at finds in
      let lies : place snaps ≡ at = omega (arith, same) in
      here_named snaps (omega (arith, same, low)) some ∙ ap (λ (n : ℕ). Some (slice_index_or snaps n some)) lies

  -- its place lies in the list
  pub found_within : (snaps : List Snap) (at : ℕ) → FindsSnap snaps name (Some at) → at < length snaps
  found_within snaps at finds = first_within (λ (p : Snap). is_same_name p.name name) snaps at finds

  -- and where none is found by its place there is none.
  pub found_nowhere : (snaps : List Snap) → FindsSnap snaps name None → snap_named snaps name ≡ None
  found_nowhere snaps finds = none_named snaps (last_of (λ (p : Snap). is_same_name p.name name) snaps finds)

  -- It stands in a map slot of its own,
  pub named_within : (snaps : List Snap) (q : Snap) → snap_named snaps name ≡ Some q → list_all (λ p. nat_le 1 p.slot && nat_lt p.slot stored_slots) (snaps_in snaps) ≡ true → (nat_le 1 q.slot && nat_lt q.slot stored_slots) ≡ true
  named_within [] q found all = absurd cc
  named_within (s ∷ ss) q found all = let parts = and_parts (nat_le 1 s.slot && nat_lt s.slot stored_slots) _ all in by (is_same_name name s.name) found parts.0 (λ later. named_within ss q later parts.1)
    where
      same : (a b : Snap) → Some a ≡ Some b → a ≡ b
      same a b e = cc

      by : (b : Bool) → (if b then Some s else snap_named ss name) ≡ Some q → (nat_le 1 s.slot && nat_lt s.slot stored_slots) ≡ true → (snap_named ss name ≡ Some q → (nat_le 1 q.slot && nat_lt q.slot stored_slots) ≡ true) → (nat_le 1 q.slot && nat_lt q.slot stored_slots) ≡ true
      by true here this rest = subst (λ (z : Snap). (nat_le 1 z.slot && nat_lt z.slot stored_slots) ≡ true) (same s q here) this
      by false here this rest = rest here

  -- and some snapshot stands there.
  pub named_listed : (snaps : List Snap) (q : Snap) → snap_named snaps name ≡ Some q → is_some (find (λ p. p.slot == q.slot) (snaps_in snaps)) ≡ true
  named_listed [] q found = absurd cc
  named_listed (s ∷ ss) q found = by (is_same_name name s.name) found (named_listed ss q)
    where
      same : (a b : Snap) → Some a ≡ Some b → a ≡ b
      same a b e = cc

      here : (c : Bool) → (o : Option HeadSnap) → c ≡ true → is_some (if c then Some (snap_in s) else o) ≡ true
      here true o on = refl
      here false o on = absurd (true≢false (sym on))

      later : (c : Bool) (o : Option HeadSnap) → is_some o ≡ true → is_some (if c then Some (snap_in s) else o) ≡ true
      later true o on = refl
      later false o on = on

      by : (b : Bool) → (if b then Some s else snap_named ss name) ≡ Some q → (snap_named ss name ≡ Some q → is_some (find (λ p. p.slot == q.slot) (snaps_in ss)) ≡ true)
          → is_some (if s.slot == q.slot then Some (snap_in s) else find (λ p. p.slot == q.slot) (snaps_in ss)) ≡ true
      by true found rest = here (s.slot == q.slot) _ (let one : s.slot ≡ q.slot = ap (λ (z : Snap). z.slot) (same s q found) in let test : (s.slot == q.slot) ≡ true = grind (arith, nat_tests, one) in test)
      by false found rest = later (s.slot == q.slot) _ (rest found)

-- So its map is used, and its slot is from 1 to 24.
pub slot_used : (x : VolumeState) (name : List ℕ) (q : Snap) → IsLabelled x.slot x → snap_named x.snapshots name ≡ Some q → (1 ≤ q.slot) × (q.slot < stored_count) × (is_some (slot_at x.map q.slot) ≡ true)
unfolding snap_at
slot_used x name q labelled found =
    let bounds = and_parts (nat_le 1 q.slot) (nat_lt q.slot stored_slots) (named_within name x.snapshots q found labelled.snapshots.slots.within) in
    let least = bounds.0 in
    let most = bounds.1 in
    let above : 1 ≤ q.slot = grind (arith, nat_tests, least) in
    let below : q.slot < stored_count = grind (arith, nat_tests, most) in
    (above, below, labelled.slots.each q.slot (λ same. absurd (omega (arith, above, same))) (λ same. absurd (omega (arith, below, same))) ∙ named_listed name x.snapshots q found)
