-- What lies behind the span of a volume: a VVBN there, and the block of a map that has it.
use Rattle.std.proofs.Common.{◌≡◌, ℕ, ◌+◌, ◌-◌, ◌*◌, ◌/◌, ◌%◌, ◌<◌, ◌≤◌, Bool, true, false, if◌then◌else◌, refl, sym, ap, subst, ◌∙◌, ◌⊎◌, inl, inr, ⊎_elim, arith}
use Rattle.std.specs.Prelude.{Option, Some, None, ◌&&◌, nat_le, nat_lt}
use Rattle.std.proofs.Math.Nat.{div-eq_of_lt, div-lt_iff_lt-mul, mod-add-div}
use Rattle.std.proofs.lemmas.Bool.{and_from, and_left, and_parts, and_right, cases_lt}
use Rattle.std.proofs.lemmas.Bool.Decides.{nat_tests}
use Rattle.std.proofs.lemmas.Nat.{div-mul-add, le-div, mod-mul-add}
use Rattle.std.proofs.lemmas.Option.{none-some, same_Some}
use Rattle.fv_model.specs.Space.{map_blocks}
use Rattle.fv_image.specs.Views.{Behind, behind, entry_count, map_index, map_kind, map_slot, map_vvbn}
pub use Rattle.fv_model.proofs.MapPlaces.{index_within, slot_within, some_blocks}

-- ---- slot and index of the VVBN of a map's block

back : (a b : ℕ) → (a + b) - a ≡ b
back a b = omega arith

pub slot_there : (span j k : ℕ) → k < map_blocks span → map_slot span (map_vvbn span j k) ≡ j
slot_there span j k within = ap (λ (n : ℕ). n / map_blocks span) (back span (j * map_blocks span + k)) ∙ div-mul-add j (map_blocks span) k within

pub index_there : (span j k : ℕ) → k < map_blocks span → map_index span (map_vvbn span j k) ≡ k
index_there span j k within = ap (λ (n : ℕ). n % map_blocks span) (back span (j * map_blocks span + k)) ∙ mod-mul-add j (map_blocks span) k within

-- a VVBN with a slot below 25 is below the number of entries
pub inside_there : (span v : ℕ) → 0 < map_blocks span → map_slot span v < 25 → v < entry_count span
inside_there span v some few =
    let near = (div-lt_iff_lt-mul {k = map_blocks span} {x = v - span} {y = 25} some).0 few in
    omega (arith, near)

pub map_vvbn_within : (span j k : ℕ) → j < 25 → k < map_blocks span → map_vvbn span j k < entry_count span
map_vvbn_within span j k few within = inside_there span (map_vvbn span j k) (omega (arith, within)) (rw (slot_there span j k within) few)

-- and the VVBN of the block with this slot and this index
pub vvbn_there : (span v : ℕ) → span ≤ v → map_vvbn span (map_slot span v) (map_index span v) ≡ v
vvbn_there span v past =
    let parts = mod-add-div (v - span) (map_blocks span) in
    let turned = commutes (map_blocks span) (map_slot span v) in
    omega (arith, parts, turned, past)
  where
    commutes : (a b : ℕ) → a * b ≡ b * a
    commutes a b = grind (arith)

-- ---- the active map comes first

pub in_first : (span v : ℕ) → 0 < map_blocks span → map_slot span v ≡ 0 → v < span + map_blocks span
in_first span v some none = ⊎_elim
    (λ (near : v < span + map_blocks span). near)
    (λ (far : span + map_blocks span ≤ v). let later : 1 ≤ map_slot span v = le-div 1 (v - span) (map_blocks span) some (omega (arith, far)) in absurd (omega (arith, later, none)))
    (cases_lt v (span + map_blocks span))

pub first_there : (span v : ℕ) → span ≤ v → v < span + map_blocks span → map_slot span v ≡ 0
first_there span v past near = div-eq_of_lt (omega (arith, near, past))

-- ---- what lies behind the span

-- a block of one of 25 maps does
pub behind_there : (span slot k : ℕ) → slot < 25 → k < map_blocks span → behind span (map_vvbn span slot k) ≡ Some (record { slot = slot; kind = map_kind; index = k })
behind_there span slot k few within =
    let inside = map_vvbn_within span slot k few within in
    let least : nat_le span (map_vvbn span slot k) ≡ true = grind (arith, nat_tests) in
    let most : nat_lt (map_vvbn span slot k) (entry_count span) ≡ true = grind (arith, nat_tests, inside) in
    let v = map_vvbn span slot k in
    ap (λ (t : Bool). if t then Some (record { slot = map_slot span v; kind = map_kind; index = map_index span v }) else None) (and_from (nat_le span v) _ least most)
    ∙ (λ i. Some (record { slot = slot_there span slot k within i; kind = map_kind; index = index_there span slot k within i }))

-- and what does is a block of one of 25 maps
pub record IsMapBlock (span v : ℕ) (b : Behind) : Type 0 where
  pub vvbn : map_vvbn span b.slot b.index ≡ v
  pub slot : b.slot < 25
  pub kind : b.kind ≡ map_kind
  pub index : b.index < map_blocks span

inside_is : (span v : ℕ) → span ≤ v → v < entry_count span → IsMapBlock span v (record { slot = map_slot span v; kind = map_kind; index = map_index span v })
inside_is span v past inside = record { vvbn = vvbn_there span v past; slot = slot_within span v past inside; kind = refl; index = index_within span v past inside }

module _ (span v : ℕ) where
  abbrev is_inside : Bool
  is_inside = nat_le span v && nat_lt v (entry_count span)

  inside_parts : is_inside ≡ true → (span ≤ v) × (v < entry_count span)
  inside_parts is = let parts = and_parts (nat_le span v) _ is in (let low = parts.0 in grind (arith, nat_tests, low), let high = parts.1 in grind (arith, nat_tests, high))

  abbrev answer : Bool → Option Behind
  answer t = if t then Some (record { slot = map_slot span v; kind = map_kind; index = map_index span v }) else None

  pub behind_is : (b : Behind) → behind span v ≡ Some b → IsMapBlock span v b
  behind_is b is = so is_inside refl
    where
      so : (t : Bool) → is_inside ≡ t → IsMapBlock span v b
      so true e =
          let parts = inside_parts e in
          let same : Some (record { slot = map_slot span v; kind = map_kind; index = map_index span v }) ≡ Some b = sym (ap answer e) ∙ is in
          subst (IsMapBlock span v) (same_Some _ _ same) (inside_is span v parts.0 parts.1)
      so false e = absurd (none-some b (sym (ap answer e) ∙ is))

  -- elsewhere lies nothing
  pub none_before : v < span → behind span v ≡ None
  none_before low = let test : nat_le span v ≡ false = grind (arith, nat_tests, low) in ap answer (and_left (nat_le span v) _ test)

  pub none_past : entry_count span ≤ v → behind span v ≡ None
  none_past high = let test : nat_lt v (entry_count span) ≡ false = grind (arith, nat_tests, high) in ap answer (and_right (nat_le span v) _ test)

  pub none_is : behind span v ≡ None → (v < span) ⊎ (entry_count span ≤ v)
  none_is none = ⊎_elim
      (λ (low : v < span). inl low)
      (λ (past : span ≤ v). ⊎_elim
      (λ (inside : v < entry_count span).
      let least : nat_le span v ≡ true = grind (arith, nat_tests, past) in
      let most : nat_lt v (entry_count span) ≡ true = grind (arith, nat_tests, inside) in
      absurd (none-some _ (sym none ∙ ap answer (and_from (nat_le span v) _ least most))))
      (λ (high : entry_count span ≤ v). inr high)
      (cases_lt v (entry_count span)))
      (cases_lt v span)

-- ---- an example

second_map : behind 40960 40965 ≡ Some (record { slot = 2; kind = 8; index = 1 })
second_map = refl
