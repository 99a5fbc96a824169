-- A volume that isn't being split has just as many entries of its own as it is charged for: below the span each number that its roots reach
-- and its base doesn't has one, and past it each block of a snapshot's map.
use Rattle.std.proofs.Common.{◌≡◌, ◌≢◌, ℕ, zero, suc, ◌+◌, ◌-◌, ◌*◌, ◌/◌, ◌<◌, ◌≤◌, Bool, true, false, cond, not, List, [], ◌∷◌, length, inl, inr, refl, sym, ap, subst, ◌∙◌, ◌⊎◌, arith, ⊎_elim}
use Rattle.std.specs.Prelude.{Option, Some, None, ◌&&◌, ◌||◌, ◌==◌, map, nat_lt, nat_le, count_by, if◌then◌else◌}
use Rattle.std.specs.List.{list_all, list_any, range_with_len}
use Rattle.std.specs.Option.{is_none, is_some, option_map_or}
use Rattle.std.proofs.lemmas.Bool.{and_parts, and_from, cases_eq, cases_lt, or_cases}
use Rattle.std.proofs.lemmas.Bool.Decides.{nat_tests}
use Rattle.std.proofs.lemmas.List.{length-map}
use Rattle.std.proofs.lemmas.Nat.{div-mul-add, mod_below}
use Rattle.fv_bits.proofs.Counts.{passing, passing-add, passing-suc, passing_same}
use Rattle.fv_model.specs.Numbers.{most_snapshots}
use Rattle.fv_model.specs.Space.{map_blocks, charge, need, use_of}
use Rattle.fv_laws.proofs.Lists.{In, in_map, in_range, from_map}
use Rattle.fv_laws.proofs.Tests.{from_all, from_any, to_none}
use Rattle.fv_tables.specs.Ids.{is_charged}
use Rattle.fv_tables.specs.Reached.{Item, is_listed, items}
use Rattle.fv_tables.proofs.Listed.{picked, picked_all, picked_in, picked_is}
use Rattle.fv_image.specs.Chains.{place}
use Rattle.fv_image.specs.Charged.{out_items}
use Rattle.fv_image.specs.Mapped.{AreInSlots, is_rising, stored_slots}
use Rattle.fv_image.specs.ReachRules.{is_reach, is_same_position, has_map_blocks, has_maps_of_reach, reaches_once}
use Rattle.fv_image.specs.HintRules.{is_based, is_splitting, leaves_base, rests_on_base}
use Rattle.fv_image.specs.Seen.{Based, Reached, Root, VolumeSeen, base_root, base_seen, based_at, based_on, own_blocks, roots_of, seen, volume_seen}
use Rattle.fv_image.specs.Soundness.{AreMaps, AreTables}
use Rattle.fv_image.specs.Staying.{base_items, own_items}
use Rattle.fv_image.specs.Views.{Footing, Head, Rooted, Snap, View, is_active_map, is_held_in, is_own, map_index, map_slot, map_vvbn, own, slots, used_slots, volume_bit, vvbns}
use Rattle.fv_image.specs.VolumeRules.{uses_seen}
use Rattle.fv_image.specs.Volumes.{standing_of, volume_told}
use Rattle.fv_image.proofs.Behind.{first_there, in_first, vvbn_there}
use Rattle.fv_image.proofs.CountedCharge.{HasParentNumbers, charge_by_three, held_is_listed}
use Rattle.fv_image.proofs.Counting.{in_slot}
use Rattle.fv_image.proofs.Counts.{none_between, others, same_sum}
use Rattle.fv_image.proofs.LoneTables.{no_parent, place_own}
use Rattle.fv_image.proofs.OwnUses.{HasLabelNumbers}
use Rattle.fv_image.proofs.SameSeen.{of_items, of_volume, seen_at}
use Rattle.fv_image.proofs.OwnBlocks.{own_tests}
use Rattle.fv_image.proofs.SoundFacts.{of_slot}
use Rattle.fv_cp.proofs.Missing.{none_seen}

-- ---- numbers by their slots

-- all numbers of a range pass
pub all_pass : (p : ℕ → Bool) (a n : ℕ) → ((k : ℕ) → a ≤ k → k < a + n → p k ≡ true) → passing p a n ≡ n
all_pass p a n all = let none = none_between (λ b. not (p b)) a n (λ k low high. ap not (all k low high)) in omega (arith, others p a n, none)

-- a slot of this width has so many numbers of a range in which it lies
slot_whole : (from m slot n : ℕ) → 0 < m → slot * m + m ≤ n → passing (λ v. slot == (v - from) / m) from n ≡ m
slot_whole from m slot n some fits =
    let p : ℕ → Bool = λ v. slot == (v - from) / m in
    let whole : passing p from n ≡ passing p from (slot * m + (m + (n - (slot * m + m)))) = ap (passing p from) (let e : n ≡ slot * m + (m + (n - (slot * m + m))) = omega (arith, fits) in e) in
    omega (
      arith,
      whole,
      passing-add p from (slot * m) (m + (n - (slot * m + m))),
      passing-add p (from + slot * m) m (n - (slot * m + m)),
      all_pass p (from + slot * m) m inside,
      in_slot from m slot n some,
    )
  where
    inside : (v : ℕ) → from + slot * m ≤ v → v < from + slot * m + m → (slot == (v - from) / m) ≡ true
    inside v past within =
        let at : (v - from) / m ≡ slot = ap (λ (k : ℕ). k / m) (let e : v - from ≡ slot * m + (v - (from + slot * m)) = omega (arith, past) in e) ∙ div-mul-add slot m (v - (from + slot * m)) (omega (arith, past, within)) in
        grind (arith, nat_tests, at)

-- two tests that no number passes both
pub passing_either : (p q : ℕ → Bool) (a n : ℕ) → ((k : ℕ) → p k ≡ true → q k ≡ false) → passing (λ v. p v || q v) a n ≡ passing p a n + passing q a n
passing_either p q a zero apart = refl
passing_either p q a (suc n) apart =
    omega (arith, passing-suc (λ v. p v || q v) a n, passing-suc p a n, passing-suc q a n, one (p a) (q a) (apart a), passing_either p q (a + 1) n apart)
  where
    one : (t u : Bool) → (t ≡ true → u ≡ false) → cond {A = ℕ} (t || u) 1 0 ≡ cond t 1 0 + cond u 1 0
    one true true off = absurd (wrong (off refl))
      where
        wrong : true ≡ false → ⊥
        wrong e = cc
    one true false off = refl
    one false true off = refl
    one false false off = refl

mul_suc : (a b : ℕ) → a * suc b ≡ a + a * b
mul_suc a b = grind (arith)

-- several slots have the numbers of each
slots_whole : (from m : ℕ) (slots : List ℕ) (n : ℕ) → 0 < m → is_rising slots ≡ true → ((k : ℕ) → In k slots → k * m + m ≤ n) → passing (λ v. list_any (λ slot. slot == (v - from) / m) slots) from n ≡ m * length slots
slots_whole from m [] n some rising fits = omega (arith, none_between (λ v. false) from n (λ k low high. refl))
slots_whole from m (x ∷ xs) n some rising fits =
    let parts = and_parts (list_all (nat_lt x) xs) (is_rising xs) rising in
    let two = passing_either (λ v. x == (v - from) / m) (λ v. list_any (λ slot. slot == (v - from) / m) xs) from n (λ k here. apart parts.0 k here) in
    let more : m * length (x ∷ xs) ≡ m + m * length xs = mul_suc m (length xs) in
    omega (arith, two, slot_whole from m x n some (fits x (inl refl)), slots_whole from m xs n some parts.1 (λ k one. fits k (inr one)), more)
  where
    apart : list_all (nat_lt x) xs ≡ true → (k : ℕ) → (x == (k - from) / m) ≡ true → list_any (λ slot. slot == (k - from) / m) xs ≡ false
    apart above k here = to_none (λ slot. slot == (k - from) / m) xs (λ y one. differ y ((k - from) / m) (from_all (nat_lt x) xs above y one) here)
      where
        differ : (y q : ℕ) → nat_lt x y ≡ true → (x == q) ≡ true → (y == q) ≡ false
        differ y q lt is = grind (arith, nat_tests, lt, is)

-- ---- tests

-- what follows from the other test
absorbed : (a t : Bool) → (t ≡ true → a ≡ true) → (a && (t && true)) ≡ t
absorbed true true from = refl
absorbed true false from = refl
absorbed false true from = from refl
absorbed false false from = refl

never : (a b : Bool) → (a && (b && false)) ≡ false
never true true = refl
never true false = refl
never false b = refl

-- the first of two tests in each root
firsts : (rest : Root → Reached → Bool) (rs : List Root) → list_all (λ r. list_all (λ a. is_some a.at && rest r a) r.reached) rs ≡ true → list_all (λ (r : Root). list_all (λ a. is_some a.at) r.reached) rs ≡ true
firsts rest [] all = refl
firsts rest (r ∷ rs) all =
    let parts = and_parts (list_all (λ a. is_some a.at && rest r a) r.reached) _ all in
    and_from (list_all (λ a. is_some a.at) r.reached) _ (each r r.reached parts.0) (firsts rest rs parts.1)
  where
    each : (r : Root) (es : List Reached) → list_all (λ a. is_some a.at && rest r a) es ≡ true → list_all (λ a. is_some a.at) es ≡ true
    each r [] all = refl
    each r (e ∷ es) all =
        let parts = and_parts (is_some e.at && rest r e) _ all in
        and_from (is_some e.at) _ (and_parts (is_some e.at) (rest r e) parts.0).0 (each r es parts.1)

-- ---- what its base reaches

module _ (w : View) (s : ℕ) where
  mapped : (v : ℕ) (splitting : Bool) (xs : List Item) → list_any (λ (c : Based). c.item.pointer.vvbn == v) (map (based_at w s splitting) xs) ≡ is_listed xs v
  mapped v splitting [] = refl
  mapped v splitting (x ∷ xs) = ap (λ (t : Bool). (x.pointer.vvbn == v) || t) (mapped v splitting xs)

  -- what is seen of it is what isn't charged
  seen_out : (base : Option Footing) → is_splitting base ≡ false → (v : ℕ) → list_any (λ (b : Based). b.item.pointer.vvbn == v) (base_seen w s base) ≡ is_listed (out_items w base) v
  unfolding base_seen
  seen_out None whole v = refl
  seen_out (Some b) whole v = so (base_root w b) ∙ sym (ap (λ (t : Bool). is_listed (if t then [] else base_items w (Some b)) v) whole)
    where
      so : (o : Option Rooted) → list_any (λ (b : Based). b.item.pointer.vvbn == v) (option_map_or (based_on w s b) o []) ≡ is_listed (option_map_or (λ r. items (standing_of w b.parent r)) o []) v
      so None = refl
      so (Some r) = mapped v b.splitting (items (standing_of w b.parent r))

  -- under it there is no entry of its own
  leaves_out : (base : Option Footing) → is_splitting base ≡ false → list_all (λ (b : Based). not b.own) (base_seen w s base) ≡ true → (v : ℕ) → is_listed (out_items w base) v ≡ true → is_some (w.entry s v) ≡ false
  unfolding base_seen
  leaves_out None whole all v out = absurd (wrong out)
    where
      wrong : false ≡ true → ⊥
      wrong e = cc
  leaves_out (Some b) whole all v out = so (base_root w b) all (ap (λ (t : Bool). is_listed (if t then [] else base_items w (Some b)) v) (sym whole) ∙ out)
    where
      opposite : (t : Bool) → not t ≡ true → t ≡ false
      opposite true e = absurd cc
      opposite false e = refl

      so : (o : Option Rooted) → list_all (λ (b : Based). not b.own) (option_map_or (based_on w s b) o []) ≡ true → is_listed (option_map_or (λ r. items (standing_of w b.parent r)) o []) v ≡ true → is_some (w.entry s v) ≡ false
      so None all out = absurd cc
      so (Some r) all out =
          let es : List Item = items (standing_of w b.parent r) in
          let one = picked_in es v out in
          let free = opposite _ (from_all (λ (b : Based). not b.own) (map (based_at w s b.splitting) es) all (based_at w s b.splitting (picked es v)) (in_map (based_at w s b.splitting) (picked es v) es one.0)) in
          ap (λ (n : ℕ). is_some (w.entry s n)) (sym one.1) ∙ sym (ap (λ (t : Bool). not t && is_some (w.entry s (picked es v).pointer.vvbn)) whole) ∙ free

charged_by : (entry listed out : Bool) → (listed ≡ true → (entry ≡ true) ⊎ (out ≡ true)) → (out ≡ true → entry ≡ false) → (entry && (listed && true)) ≡ (listed && not out)
charged_by true true true there free = free refl
charged_by true true false there free = refl
charged_by true false true there free = refl
charged_by true false false there free = refl
charged_by false true true there free = refl
charged_by false true false there free = ⊎_elim (λ e. e) (λ e. e) (there refl)
charged_by false false out there free = refl

-- ---- one volume

module _ (w : View) (s : ℕ) (h : Head) (small : s < 64) (there : w.head s ≡ Some h) (tables : AreTables (seen w)) (maps : AreMaps w) (numbers : HasLabelNumbers h) (order : AreInSlots h) (parents : HasParentNumbers w h.base) (whole : is_splitting h.base ≡ false) where
  -- ---- below the span

  -- the maps have what the roots reach
  reach : list_all (is_reach w s h) (roots_of h) ≡ true
  unfolding has_maps_of_reach
  reach = subst (λ (o : Option Head). option_map_or (λ h. list_all (is_reach w s h) (roots_of h)) o true ≡ true) there (of_slot (λ s. option_map_or (λ h. list_all (is_reach w s h) (roots_of h)) (w.head s) true) s maps.reach small)

  -- what they reach is found along the chain of bases,
  found : list_all (λ (e : Item). is_some (place w s e.pointer.vvbn)) (own_items w s h) ≡ true
  unfolding reaches_once volume_seen
  found = of_items w s (λ (e : Reached). is_some e.at) (roots_of h) (firsts (λ r a. list_all (λ b. not (a.item.pointer.vvbn == b.item.pointer.vvbn) || is_same_position a.item b.item) r.reached) (volume_seen w s h).roots
      (of_volume w (λ s x. list_all (λ r. list_all (λ a. is_some a.at && list_all (λ b. not (a.item.pointer.vvbn == b.item.pointer.vvbn) || is_same_position a.item b.item) r.reached) r.reached) x.roots) s h tables.once small there))

  -- at an entry of its own, or its base reaches it
  rested : (b : Footing) → h.base ≡ Some b → (v : ℕ) → is_listed (own_items w s h) v ≡ true → (is_some (w.entry s v) ≡ true) ⊎ (is_listed (out_items w h.base) v ≡ true)
  unfolding rests_on_base volume_seen
  rested b based v listed = ⊎_elim
      (λ own. inl (ap (λ (n : ℕ). is_some (w.entry s n)) (sym (picked_is (own_items w s h) v listed)) ∙ own))
      (λ out. inr (sym (seen_out w s h.base whole v) ∙ ap (λ (n : ℕ). list_any (λ (b : Based). b.item.pointer.vvbn == n) (base_seen w s h.base)) (sym (picked_is (own_items w s h) v listed)) ∙ out))
      (or_cases (is_some (w.entry s (picked (own_items w s h) v).pointer.vvbn)) (list_any (λ (b : Based). b.item.pointer.vvbn == (picked (own_items w s h) v).pointer.vvbn) (base_seen w s h.base))
      (picked_all (λ (e : Item). is_some (w.entry s e.pointer.vvbn) || list_any (λ (b : Based). b.item.pointer.vvbn == e.pointer.vvbn) (base_seen w s h.base)) (own_items w s h) v listed
      (of_items w s (λ (e : Reached). e.own || list_any (λ (b : Based). b.item.pointer.vvbn == e.item.pointer.vvbn) (base_seen w s h.base)) (roots_of h) each)))
    where
      some : is_none h.base ≡ false
      some = ap (λ (o : Option Footing). is_none o) based

      each : list_all (λ (r : Root). list_all (λ (e : Reached). e.own || list_any (λ (b : Based). b.item.pointer.vvbn == e.item.pointer.vvbn) (base_seen w s h.base)) r.reached) (volume_seen w s h).roots ≡ true
      each = subst (λ (t : Bool). list_all (λ (r : Root). t || list_all (λ (e : Reached). e.own || list_any (λ (b : Based). b.item.pointer.vvbn == e.item.pointer.vvbn) (base_seen w s h.base)) r.reached) (volume_seen w s h).roots ≡ true) some
          (of_volume w (λ s x. list_all (λ (r : Root). is_none x.head.base || list_all (λ (e : Reached). e.own || is_based x e.item.pointer.vvbn) r.reached) x.roots) s h tables.rests small there)

  abbrev is_out : ℕ → Bool
  is_out v = is_listed (out_items w h.base) v

  -- under what its base reaches it has no entry of its own,
  out_free : (v : ℕ) → is_out v ≡ true → is_some (w.entry s v) ≡ false
  unfolding leaves_base volume_seen
  out_free v out = leaves_out w s h.base whole (of_volume w (λ s x. list_all (λ (b : Based). not b.own) x.base) s h tables.leaves small there) v out

  -- and under all else that its roots reach it has one
  listed_there : (v : ℕ) → is_listed (own_items w s h) v ≡ true → (is_some (w.entry s v) ≡ true) ⊎ (is_out v ≡ true)
  listed_there v listed = by h.base refl
    where
      es : List Item
      es = own_items w s h

      by : (o : Option Footing) → h.base ≡ o → (is_some (w.entry s v) ≡ true) ⊎ (is_out v ≡ true)
      by None alone = inl (subst (λ (n : ℕ). is_some (w.entry s n) ≡ true) (picked_is es v listed)
          (ap is_some (sym (place_own w s (picked es v).pointer.vvbn (no_parent w s h there alone))) ∙ picked_all (λ (e : Item). is_some (place w s e.pointer.vvbn)) es v listed found))
      by (Some b) based = rested b based v listed

  -- so below the span what they reach and the base doesn't is the volume's own, and no other entry
  own_listed : (v : ℕ) → v < h.span → is_own w s h v ≡ is_charged (own_items w s h) (out_items w h.base) v
  unfolding is_held_in
  own_listed v below =
      let low : nat_lt v h.span ≡ true = grind (arith, nat_tests, below) in
      let past : nat_le h.span v ≡ false = grind (arith, nat_tests, below) in
      let held : is_held_in w s h v ≡ is_listed (own_items w s h) v = ap (λ (b : Bool). if b then list_any (λ slot. volume_bit w s h.span slot v) (used_slots h) else list_any (λ slot. slot == map_slot h.span v) (used_slots h)) low
      ∙ held_is_listed w s h reach v (omega (arith, below)) in
      let active : is_active_map h v ≡ false = ap (λ (b : Bool). b && nat_lt v (h.span + map_blocks h.span)) past in
      (λ i. is_some (w.entry s v) && (held i && not (active i))) ∙ charged_by (is_some (w.entry s v)) (is_listed (own_items w s h) v) (is_out v) (listed_there v) (out_free v)

  -- ---- past it

  abbrev snap_slots : List ℕ
  snap_slots = map (λ p. p.slot) h.snapshots

  some_blocks : 0 < map_blocks h.span
  some_blocks = let span = numbers.span in omega (arith, span)

  -- a snapshot's slot is one from 1 to 24
  bounds : (k : ℕ) → In k snap_slots → (1 ≤ k) × (k < stored_slots)
  bounds k one =
      let p = from_map (λ (p : Snap). p.slot) k h.snapshots one in
      let both = and_parts (nat_le 1 p.0.slot) (nat_lt p.0.slot stored_slots) (from_all (λ q. nat_le 1 q.slot && nat_lt q.slot stored_slots) h.snapshots order.within p.0 p.1) in
      of_tests p.0.slot both.0 both.1 p.2
    where
      of_tests : (slot : ℕ) → nat_le 1 slot ≡ true → nat_lt slot stored_slots ≡ true → slot ≡ k → (1 ≤ k) × (k < stored_slots)
      of_tests slot least most is = (let low : 1 ≤ slot = grind (arith, nat_tests, least) in omega (arith, low, is), let high : slot < stored_slots = grind (arith, nat_tests, most) in omega (arith, high, is))

  -- what is asked of the blocks of a root's map
  abbrev blocks_there : ℕ → Head → ℕ × Rooted → Bool
  blocks_there s h r = list_all (λ k. is_some (w.entry s (map_vvbn h.span r.0 k))) (range_with_len 0 (map_blocks h.span))

  -- each block of a snapshot's map is there
  map_there : (k j : ℕ) → In k snap_slots → j < map_blocks h.span → is_some (w.entry s (map_vvbn h.span k j)) ≡ true
  unfolding has_map_blocks
  map_there k j one within =
      let own : ℕ → Head → Bool = λ s h. list_all (λ (b : ℕ × ℕ). is_some (w.entry s b.0)) (own_blocks w.version h) in
      let all : list_all (blocks_there s h) (roots_of h) ≡ true = sym (own_tests (λ b. is_some (w.entry s b.0)) w.version h)
      ∙ subst (λ (o : Option Head). option_map_or (own s) o true ≡ true) there (of_slot (λ s. option_map_or (own s) (w.head s) true) s maps.there small) in
      let p = from_map (λ (p : Snap). p.slot) k h.snapshots one in
      let of_root = from_all (blocks_there s h) (roots_of h) all (p.0.slot, p.0.table) (inr (in_map (λ (p : Snap). (p.slot, p.table)) p.0 h.snapshots p.1)) in
      subst (λ (n : ℕ). is_some (w.entry s (map_vvbn h.span n j)) ≡ true) p.2
      (from_all (λ k. is_some (w.entry s (map_vvbn h.span p.0.slot k))) (range_with_len 0 (map_blocks h.span)) of_root j (in_range 0 (map_blocks h.span) j (omega arith) (omega (arith, within))))

  -- past the span just the blocks of snapshots' maps are the volume's own
  own_high : (v : ℕ) → h.span ≤ v → is_own w s h v ≡ list_any (λ slot. slot == map_slot h.span v) snap_slots
  unfolding is_held_in
  own_high v past = ⊎_elim
      (λ (zero_slot : map_slot h.span v ≡ 0).
      let near : v < h.span + map_blocks h.span = in_first h.span v some_blocks zero_slot in
      let upper : nat_lt v (h.span + map_blocks h.span) ≡ true = grind (arith, nat_tests, near) in
      let active : is_active_map h v ≡ true = and_from (nat_le h.span v) _ least upper in
      let none : list_any (λ slot. slot == map_slot h.span v) snap_slots ≡ false = to_none (λ slot. slot == map_slot h.span v) snap_slots (λ y one. differ y (map_slot h.span v) (bounds y one).0 zero_slot) in
      (λ i. is_some (w.entry s v) && (is_held_in w s h v && not (active i))) ∙ never (is_some (w.entry s v)) (is_held_in w s h v) ∙ sym none)
      (λ other.
      let far : h.span + map_blocks h.span ≤ v = not_first other in
      let upper : nat_lt v (h.span + map_blocks h.span) ≡ false = grind (arith, nat_tests, far) in
      let active : is_active_map h v ≡ false = ap (λ (b : Bool). nat_le h.span v && b) upper ∙ (ap (λ (b : Bool). b && false) least) in
      let first : (0 == map_slot h.span v) ≡ false = unlike (map_slot h.span v) other in
      let held : is_held_in w s h v ≡ list_any (λ slot. slot == map_slot h.span v) snap_slots = ap (λ (b : Bool). if b then list_any (λ slot. volume_bit w s h.span slot v) (used_slots h) else list_any (λ slot. slot == map_slot h.span v) (used_slots h)) below
      ∙ ap (λ (b : Bool). b || list_any (λ slot. slot == map_slot h.span v) snap_slots) first in
      (λ i. is_some (w.entry s v) && (held i && not (active i))) ∙ absorbed (is_some (w.entry s v)) (list_any (λ slot. slot == map_slot h.span v) snap_slots) entry_there)
      (cases_eq (map_slot h.span v) 0)
    where
      least : nat_le h.span v ≡ true
      least = grind (arith, nat_tests, past)

      below : nat_lt v h.span ≡ false
      below = grind (arith, nat_tests, past)

      differ : (y q : ℕ) → 1 ≤ y → q ≡ 0 → (y == q) ≡ false
      differ y q some is = grind (arith, nat_tests, some, is)

      unlike : (q : ℕ) → q ≢ 0 → (0 == q) ≡ false
      unlike q other = grind (arith, nat_tests, other)

      not_first : map_slot h.span v ≢ 0 → h.span + map_blocks h.span ≤ v
      not_first other = ⊎_elim
          (λ (near : v < h.span + map_blocks h.span). absurd (other (first_there h.span v past near)))
          (λ (far : h.span + map_blocks h.span ≤ v). far)
          (cases_lt v (h.span + map_blocks h.span))

      entry_there : list_any (λ slot. slot == map_slot h.span v) snap_slots ≡ true → is_some (w.entry s v) ≡ true
      entry_there any =
          let one = from_any (λ slot. slot == map_slot h.span v) snap_slots any in
          let same = one.1.1 in
          let is : one.0 ≡ map_slot h.span v = grind (arith, nat_tests, same) in
          let within = mod_below (v - h.span) (map_blocks h.span) some_blocks in
          subst (λ (n : ℕ). is_some (w.entry s n) ≡ true) (vvbn_there h.span v past) (map_there (map_slot h.span v) (map_index h.span v) (subst (λ (k : ℕ). In k snap_slots) is one.1.0) within)

  -- ---- the count

  lone_charge : charge (volume_told w s h) ≡ passing (is_own w s h) 0 h.span + map_blocks h.span * length h.snapshots
  lone_charge = charge_by_three w s h small there numbers parents tables.snapshots tables.ids tables.ranges
      ∙ ap (λ (n : ℕ). n + map_blocks h.span * length h.snapshots) (sym (passing_same (is_own w s h) (is_charged (own_items w s h) (out_items w h.base)) 0 0 h.span (λ j lt. own_listed (0 + j) (omega (arith, lt)))))

  snaps_whole : passing (is_own w s h) h.span (stored_slots * map_blocks h.span) ≡ map_blocks h.span * length h.snapshots
  snaps_whole =
      passing_same (is_own w s h) (λ v. list_any (λ slot. slot == map_slot h.span v) snap_slots) h.span h.span (stored_slots * map_blocks h.span) (λ j lt. own_high (h.span + j) (omega arith))
      ∙ slots_whole h.span (map_blocks h.span) snap_slots (stored_slots * map_blocks h.span) some_blocks order.rising (λ k one. fits k (map_blocks h.span) (bounds k one).1)
      ∙ ap (λ (k : ℕ). map_blocks h.span * k) (length-map h.snapshots (λ (p : Snap). p.slot))
    where
      fits : (k m : ℕ) → k < stored_slots → k * m + m ≤ stored_slots * m
      fits k m low =
          let parts : (k + 1 + (most_snapshots - k)) * m ≡ k * m + m + (most_snapshots - k) * m = shared k (most_snapshots - k) m in
          let all : (k + 1 + (most_snapshots - k)) * m ≡ stored_slots * m = ap (λ (n : ℕ). n * m) (let e : k + 1 + (most_snapshots - k) ≡ stored_slots = omega (arith, low) in e) in
          omega (arith, parts, all)
        where
          shared : (a b m : ℕ) → (a + 1 + b) * m ≡ a * m + m + b * m
          shared a b m = grind (arith)

  -- It has just as many entries of its own as it is charged for.
  pub own_charged : count_by (is_own w s h) (vvbns h.span) ≡ charge (volume_told w s h)
  unfolding vvbns
  own_charged =
      let whole : count_by (is_own w s h) (vvbns h.span) ≡ passing (is_own w s h) 0 (h.span + stored_slots * map_blocks h.span) = refl in
      let start : passing (is_own w s h) (0 + h.span) (stored_slots * map_blocks h.span) ≡ passing (is_own w s h) h.span (stored_slots * map_blocks h.span) = ap (λ (k : ℕ). passing (is_own w s h) k (stored_slots * map_blocks h.span)) (let e : 0 + h.span ≡ h.span = omega arith in e) in
      whole ∙ passing-add (is_own w s h) 0 h.span (stored_slots * map_blocks h.span) ∙ ap (λ (k : ℕ). passing (is_own w s h) 0 h.span + k) (start ∙ snaps_whole) ∙ sym lone_charge

-- ---- all volumes

-- A volume isn't being split, needs nothing for reserves, and its label has its numbers, as that of its parent has, with its snapshots in
-- their slots.
pub record IsLone (w : View) (s : ℕ) (h : Head) : Type 0 where
  pub numbers : HasLabelNumbers h
  pub order : AreInSlots h
  pub parents : HasParentNumbers w h.base
  pub whole : is_splitting h.base ≡ false
  pub need : need (volume_told w s h) ≡ 0

-- Of such volumes there are just as many entries of their own as they use.
pub owns_used : (w : View) → AreTables (seen w) → AreMaps w → ((s : ℕ) (h : Head) → s < 64 → w.head s ≡ Some h → IsLone w s h) → own w ≡ uses_seen (seen w)
unfolding own uses_seen slots volume_seen
owns_used w tables maps lone = same_sum (λ s. option_map_or (λ h. count_by (is_own w s h) (vvbns h.span)) (w.head s) 0) (λ s. option_map_or (λ x. use_of x.volume) ((seen w).volume s) 0) 0 64 (λ s low high. so s (omega (arith, high)) (w.head s) refl)
  where
    so : (s : ℕ) → s < 64 → (o : Option Head) → w.head s ≡ o → option_map_or (λ h. count_by (is_own w s h) (vvbns h.span)) (w.head s) 0 ≡ option_map_or (λ x. use_of x.volume) ((seen w).volume s) 0
    so s inside None e = ap (λ (o : Option Head). option_map_or (λ h. count_by (is_own w s h) (vvbns h.span)) o 0) e ∙ sym (ap (λ (o : Option VolumeSeen). option_map_or (λ x. use_of x.volume) o 0) (none_seen w s inside e))
    so s inside (Some h) e =
        let is = lone s h inside e in
        let needs_none = is.need in
        ap (λ (o : Option Head). option_map_or (λ h. count_by (is_own w s h) (vvbns h.span)) o 0) e
        ∙ own_charged w s h inside e tables maps is.numbers is.order is.parents is.whole
        ∙ (let same : charge (volume_told w s h) ≡ use_of (volume_told w s h) = omega (arith, needs_none) in same)
        ∙ sym (ap (λ (o : Option VolumeSeen). option_map_or (λ x. use_of x.volume) o 0) (seen_at w s h inside e))
