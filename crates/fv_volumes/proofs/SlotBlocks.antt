-- The blocks that a slot holds in an image, said of its volume in memory.
use Rattle.std.proofs.Common.{◌≡◌, ◌≢◌, ℕ, ◌<◌, ◌≤◌, true, false, not, length, refl, sym, ap, subst, ◌∙◌, arith, ⊎_elim, inl, inr, ◌⊎◌}
use Rattle.std.specs.Prelude.{Option, Some, None, IfSome, ◌||◌, ◌==◌, nat_eq}
use Rattle.std.proofs.lemmas.Bool.{and_parts, both_ways, or_cases, or_left, or_right, cases_lt}
use Rattle.std.proofs.lemmas.List.{get_or_past}
use Rattle.std.proofs.lemmas.List.Elements.{All-get_or}
use Rattle.std.proofs.lemmas.Bool.Decides.{nat_tests}
use Rattle.fv_disk.specs.Shown.{Image}
use Rattle.fv_codec.specs.declared.label.Label.{Label}
use Rattle.fv_image.specs.NewerRoot.{Taken}
use Rattle.fv_image.specs.Containers.{container_entry, IsNodePlace}
use Rattle.fv_image.specs.Views.{entry_count}
use Rattle.fv_image.specs.Held.{layout_at, label_place, label_lying, label_in}
use Rattle.fv_image.specs.Whole.{is_held_by}
use Rattle.fv_image.specs.Reclaimed.{IsEntryPlace, IsHeldPlace, IsNodeOf, entry_at}
use Rattle.fv_image.proofs.HeldPlaces.{held_is, block_is_held}
use Rattle.fv_container.specs.declared.entry.Entry.{Entry}
use Rattle.fv_container.specs.Mapped.{IsHeld, IsMapped, Mapped, entry_under}
use Rattle.fv_container.specs.Spelled.{IsOpened, names, is_at, pair_of}
use Rattle.fv_container.proofs.Named.{at_itself}
use Rattle.fv_container.proofs.Leading.{any_in_range, range_has}
use Rattle.fv_volume.specs.declared.state.VolumeState.{VolumeState}
use Rattle.fv_volume.specs.Stored.{place_in, leads, is_of}

-- ---- blocks at places

pub at_is : (b place : ℕ) → is_at b place ≡ true → (b ≡ place) × (place ≢ 0)
at_is b place is =
    let parts = and_parts (nat_eq b place) (not (place == 0)) is in
    (grind (arith, nat_tests, parts.0), λ none. other place none parts.1)
  where
    other : (p : ℕ) → p ≡ 0 → not (p == 0) ≡ true → ⊥
    other p none test = let is : (p == 0) ≡ true = grind (arith, nat_tests, none) in both_ways _ (ap not is) test

-- ---- what a container leads to

-- each entry has a kind
abbrev pub HasKinds : Mapped → Type 0
HasKinds map = (v : ℕ) → IfSome (entry_under map v) (λ e. 1 ≤ e.kind)

-- those of a container have
pub entry_kinds : (map : Mapped) → IsMapped map → HasKinds map
entry_kinds map is v = ⊎_elim
    (λ (inside : v < length map.entries). kind (entry_under map v) (All-get_or (λ (e : Option Entry). IfSome e IsHeld) map.entries v None inside is.entries))
    (λ (past : length map.entries ≤ v). nothing (entry_under map v) (get_or_past map.entries v None past))
    (cases_lt v (length map.entries))
  where
    kind : (e : Option Entry) → IfSome e IsHeld → IfSome e (λ e. 1 ≤ e.kind)
    kind None is = tt
    kind (Some e) is = is.kind_least

    nothing : (e : Option Entry) → e ≡ None → IfSome e (λ e. 1 ≤ e.kind)
    nothing None is = tt
    nothing (Some e) is = cc

placed_entry : (e : Option Entry) → place_in e ≢ 0 → IfSome e (λ e. 1 ≤ e.kind) → ((pair_of e).1 ≢ 0) × ((pair_of e).0 ≡ place_in e)
placed_entry None some kind = absurd (some refl)
placed_entry (Some e) some kind = ((λ none. omega (arith, kind, none)), refl)

entry_placed : (e : Option Entry) → (pair_of e).1 ≢ 0 → place_in e ≡ (pair_of e).0
entry_placed None some = absurd (some refl)
entry_placed (Some e) some = refl

-- ---- a slot with a label

module _ (t : Taken) (i : Image) (s : ℕ) (l : Label) (x : VolumeState) (map : Mapped) (there : label_in (label_lying t i s) ≡ Some l) (span : x.span ≡ l.span)
    (opened : IsOpened i l.container l.height map) (long : length map.entries ≡ entry_count l.span) (kinds : HasKinds map) where
  entry_is : (v : ℕ) → entry_at i l v ≡ pair_of (entry_under map v)
  entry_is v = ap (λ (n : ℕ). container_entry i l.container l.height n v) (sym long) ∙ opened.entries v

  from_entry : (b v : ℕ) → v < entry_count l.span → is_at b (place_in (entry_under map v)) ≡ true → IsEntryPlace i l b
  from_entry b v within is =
      let at = at_is b (place_in (entry_under map v)) is in
      let entry = placed_entry (entry_under map v) at.1 (kinds v) in record {
        vvbn = v;
        within = within;
        kind = subst (λ (e : ℕ × ℕ). e.1 ≢ 0) (sym (entry_is v)) entry.0;
        place = at.0 ∙ sym entry.1 ∙ ap (λ (e : ℕ × ℕ). e.0) (sym (entry_is v));
      }

  -- what the container leads to, an entry holds
  pub leads_entry : (b : ℕ) → leads map (entry_count x.span) b ≡ true → IsEntryPlace i l b
  unfolding leads
  leads_entry b entry =
      let one = any_in_range (λ v. is_at b (place_in (entry_under map v))) 0 (entry_count x.span) entry in
      from_entry b one.0 (subst (λ (n : ℕ). one.0 < entry_count n) span (omega (arith, one.2))) one.3

  from_test : (b : ℕ) → is_of x (label_place t s) map b ≡ true → IsHeldPlace t i s l b
  from_test b is = ⊎_elim
      (λ (label : is_at b (label_place t s) ≡ true). inl (at_is b (label_place t s) label).0)
      (λ (rest : (names map.tree b || leads map (entry_count x.span) b) ≡ true). inr (⊎_elim
      (λ (node : names map.tree b ≡ true). inl (subst (λ (n : ℕ). IsNodePlace i l.container l.height n b) long (opened.places b node)))
      (λ (entry : leads map (entry_count x.span) b ≡ true). inr (leads_entry b entry))
      (or_cases (names map.tree b) (leads map (entry_count x.span) b) rest)))
      (or_cases (is_at b (label_place t s)) (names map.tree b || leads map (entry_count x.span) b) is)

  -- what an entry holds, the container leads to
  pub entry_leads : (b : ℕ) → b ≢ 0 → IsEntryPlace i l b → leads map (entry_count x.span) b ≡ true
  unfolding leads
  entry_leads b some entry =
      let kind : (pair_of (entry_under map entry.vvbn)).1 ≢ 0 = subst (λ (e : ℕ × ℕ). e.1 ≢ 0) (entry_is entry.vvbn) entry.kind in
      let place : b ≡ place_in (entry_under map entry.vvbn) = entry.place ∙ ap (λ (e : ℕ × ℕ). e.0) (entry_is entry.vvbn) ∙ sym (entry_placed (entry_under map entry.vvbn) kind) in
      range_has (λ v. is_at b (place_in (entry_under map v))) entry.vvbn 0 (entry_count x.span) (omega arith)
      (omega (arith, subst (λ (n : ℕ). entry.vvbn < entry_count n) (sym span) entry.within))
      (subst (λ (p : ℕ). is_at b p ≡ true) place (at_itself b some))

  pub to_test : (b : ℕ) → b ≢ 0 → IsHeldPlace t i s l b → is_of x (label_place t s) map b ≡ true
  to_test b some held = ⊎_elim
      (λ (label : b ≡ label_place t s). or_left (is_at b (label_place t s)) _ (subst (λ (p : ℕ). is_at b p ≡ true) label (at_itself b some)))
      (λ (rest : IsNodeOf i l b ⊎ IsEntryPlace i l b). or_right (is_at b (label_place t s)) _ (⊎_elim
      (λ (node : IsNodeOf i l b). or_left (names map.tree b) _ (opened.nodes b (subst (λ (n : ℕ). IsNodePlace i l.container l.height n b) (sym long) node)))
      (λ (entry : IsEntryPlace i l b). or_right (names map.tree b) _ (entry_leads b some entry))
      rest))
      held

  -- where block 0 isn't held, the slot holds the blocks of its volume
  pub held_is_of : is_held_by (layout_at t i) s 0 ≡ false → (b : ℕ) → is_held_by (layout_at t i) s b ≡ is_of x (label_place t s) map b
  held_is_of none b = held_is t i s l there b (is_of x (label_place t s) map b) (from_test b) (λ held. to_test b (λ e. both_ways _ none (subst (λ (n : ℕ). is_held_by (layout_at t i) s n ≡ true) e (block_is_held t i s l there b held))) held)
