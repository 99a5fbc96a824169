-- The maps of a volume: together they have what its roots reach; and what a snapshot that is made, removed or restored does to them.
use Rattle.std.proofs.Common.{◌≡◌, ◌≢◌, ℕ, ◌<◌, ◌≤◌, Bool, true, false, cond, not, List, [], ◌∷◌, map, inl, inr, refl, sym, ap, subst, ◌∙◌, arith, ⊎_elim}
use Rattle.std.specs.Prelude.{Option, Some, None, ◌&&◌, ◌||◌, ◌==◌, find, nat_lt, nat_le, if◌then◌else◌}
use Rattle.std.specs.List.{list_all, list_any, range_with_len}
use Rattle.std.specs.Option.{option_map}
use Rattle.std.proofs.lemmas.Bool.{and_parts, and_from, or_cases, both_ways, cases_eq, false_from_ne_true}
use Rattle.std.proofs.lemmas.Bool.Decides.{nat_tests}
use Rattle.std.proofs.lemmas.List.Folds.{list_any-append}
use Rattle.fv_bits.specs.Members.{is_member}
use Rattle.fv_model.specs.Spelling.{is_same_name}
use Rattle.fv_laws.proofs.Changes.{same_name, itself as name_itself}
use Rattle.fv_laws.proofs.Lists.{In, in_range, from_range}
use Rattle.fv_laws.proofs.Tests.{iff, from_any, to_any, from_all}
use Rattle.fv_tables.specs.Told.{Standing}
use Rattle.fv_tables.specs.Reached.{Item, items, is_listed}
use Rattle.fv_image.specs.Views.{Rooted, Snap, Head, View}
use Rattle.fv_image.specs.Volumes.{standing_of, snap_at}
use Rattle.fv_image.specs.ReachRules.{are_distinct}
use Rattle.fv_image.specs.Staying.{items_of, own_items}
use Rattle.fv_image.specs.Turned.{turned, Turns, added, without}
use Rattle.fv_image.specs.Mapped.{MapSlot, stored_slots, root_at, Matches, AreMapped, is_rising, AreInSlots}
use Rattle.fv_image.proofs.SameSeen.{left_listed, right_listed, snap_listed}
use Rattle.fv_image.proofs.TurnedViews.{turned_standing}

-- ---- snapshots by their slots

equal : (a b : ℕ) → (a == b) ≡ true → a ≡ b
equal a b e = grind (arith, nat_tests, e)

unequal : (a b : ℕ) → a ≢ b → (a == b) ≡ false
unequal a b e = grind (arith, nat_tests, e)

itself : (n : ℕ) → (n == n) ≡ true
itself n = grind (arith, nat_tests)

-- in rising slots each snapshot is the one of its slot
pub found_rising : (ps : List Snap) → is_rising (map (λ p. p.slot) ps) ≡ true → (p : Snap) → In p ps → find (λ q. q.slot == p.slot) ps ≡ Some p
found_rising [] rising p there = absurd there
found_rising (q ∷ qs) rising p (inl e) = ap (λ (r : Snap). find (λ d. d.slot == r.slot) (q ∷ qs)) (sym e) ∙ ap (λ (b : Bool). if b then Some q else find (λ d. d.slot == q.slot) qs) (itself q.slot) ∙ ap Some e
found_rising (q ∷ qs) rising p (inr there) =
    let parts = and_parts (list_all (nat_lt q.slot) (map (λ p. p.slot) qs)) _ rising in
    let less : nat_lt q.slot p.slot ≡ true = from_all (λ d. nat_lt q.slot d.slot) qs (mapped qs parts.0) p there in
    let lt : q.slot < p.slot = grind (arith, nat_tests, less) in
    ap (λ (b : Bool). if b then Some q else find (λ d. d.slot == p.slot) qs) (unequal q.slot p.slot (λ e. absurd (omega (arith, e, lt)))) ∙ found_rising qs parts.1 p there
  where
    mapped : (ps : List Snap) → list_all (nat_lt q.slot) (map (λ p. p.slot) ps) ≡ true → list_all (λ (d : Snap). nat_lt q.slot d.slot) ps ≡ true
    mapped [] all = refl
    mapped (d ∷ ds) all = let parts = and_parts (nat_lt q.slot d.slot) _ all in and_from (nat_lt q.slot d.slot) _ parts.0 (mapped ds parts.1)

-- ---- all maps together

-- whether a slot has a VVBN
abbrev pub has_in : ℕ → MapSlot → Bool
has_in v None = false
has_in v (Some map) = is_member map v

module _ (w : View) (s : ℕ) (h : Head) (maps : ℕ → MapSlot) (mapped : AreMapped w s h maps) (slots : AreInSlots h) where
  -- a slot with a root has what that reaches
  of_root : (slot : ℕ) (r : Rooted) → slot < stored_slots → root_at h slot ≡ Some r → (v : ℕ) → has_in v (maps slot) ≡ is_listed (items (standing_of w s r)) v
  of_root slot r low is v = so (maps slot) (subst (λ (o : Option Rooted). Matches w s o (maps slot)) is (mapped.each slot low))
    where
      so : (m : MapSlot) → Matches w s (Some r) m → has_in v m ≡ is_listed (items (standing_of w s r)) v
      so None never = absurd never
      so (Some map) matches = matches v

  -- what a slot has a root reaches
  slot_listed : (v slot : ℕ) → slot < stored_slots → has_in v (maps slot) ≡ true → is_listed (own_items w s h) v ≡ true
  unfolding snap_at
  slot_listed v slot low has = so (slot == 0) refl
    where
      no_root : (m : MapSlot) → Matches w s None m → has_in v m ≡ true → is_listed (own_items w s h) v ≡ true
      no_root None matches e = absurd cc
      no_root (Some map) matches e = absurd matches

      of_snap : (o : Option Snap) → find (λ p. p.slot == slot) h.snapshots ≡ o → root_at h slot ≡ option_map (λ (p : Snap). p.table) o → is_listed (own_items w s h) v ≡ true
      of_snap None e is = no_root (maps slot) (subst (λ (o : Option Rooted). Matches w s o (maps slot)) is (mapped.each slot low)) has
      of_snap (Some p) e is = right_listed (items (standing_of w s h.active)) (items_of w s (map (λ p. (p.slot, p.table)) h.snapshots)) v
          (snap_listed w s v slot h.snapshots p e (sym (of_root slot p.table low is v) ∙ has))

      so : (b : Bool) → (slot == 0) ≡ b → is_listed (own_items w s h) v ≡ true
      so true zero_slot = left_listed (items (standing_of w s h.active)) (items_of w s (map (λ p. (p.slot, p.table)) h.snapshots)) v
          (sym (of_root slot h.active low (ap (λ (b : Bool). if b then Some h.active else option_map (λ (p : Snap). p.table) (snap_at h slot)) zero_slot) v) ∙ has)
      so false other = of_snap (find (λ p. p.slot == slot) h.snapshots) refl (ap (λ (b : Bool). if b then Some h.active else option_map (λ (p : Snap). p.table) (snap_at h slot)) other)

  -- what a root reaches its slot has
  listed_slot : (v : ℕ) → is_listed (own_items w s h) v ≡ true → (slot : ℕ) × ((slot < stored_slots) × (has_in v (maps slot) ≡ true))
  unfolding snap_at
  listed_slot v there = ⊎_elim
      (λ (active : is_listed (items (standing_of w s h.active)) v ≡ true). (0, (omega arith, of_root 0 h.active (omega arith) refl v ∙ active)))
      (λ later. let p = snap_of h.snapshots later in
      let bounds = and_parts (nat_le 1 p.0.slot) (nat_lt p.0.slot stored_slots) (from_all (λ p. nat_le 1 p.slot && nat_lt p.slot stored_slots) h.snapshots slots.within p.0 p.1.0) in
      let least : 1 ≤ p.0.slot = grind (arith, nat_tests, bounds.0) in
      let low : p.0.slot < stored_slots = grind (arith, nat_tests, bounds.1) in
      let is : root_at h p.0.slot ≡ Some p.0.table = ap (λ (b : Bool). if b then Some h.active else option_map (λ (p : Snap). p.table) (find (λ q. q.slot == p.0.slot) h.snapshots)) (unequal p.0.slot 0 (λ e. absurd (omega (arith, e, least)))) ∙ ap (option_map (λ (p : Snap). p.table)) (found_rising h.snapshots slots.rising p.0 p.1.0) in
      (p.0.slot, (low, of_root p.0.slot p.0.table low is v ∙ p.1.1)))
      (or_cases (is_listed (items (standing_of w s h.active)) v) (is_listed (items_of w s (map (λ p. (p.slot, p.table)) h.snapshots)) v)
      (sym (list_any-append (λ (e : Item). e.pointer.vvbn == v) (items (standing_of w s h.active)) (items_of w s (map (λ p. (p.slot, p.table)) h.snapshots))) ∙ there))
    where
      snap_of : (ps : List Snap) → is_listed (items_of w s (map (λ p. (p.slot, p.table)) ps)) v ≡ true → (p : Snap) × (In p ps × (is_listed (items (standing_of w s p.table)) v ≡ true))
      snap_of [] e = absurd cc
      snap_of (p ∷ ps) e = ⊎_elim
          (λ (here : is_listed (items (standing_of w s p.table)) v ≡ true). (p, (inl refl, here)))
          (λ later. let rest = snap_of ps later in (rest.0, (inr rest.1.0, rest.1.1)))
          (or_cases (is_listed (items (standing_of w s p.table)) v) (is_listed (items_of w s (map (λ p. (p.slot, p.table)) ps)) v)
          (sym (list_any-append (λ (e : Item). e.pointer.vvbn == v) (items (standing_of w s p.table)) (items_of w s (map (λ p. (p.slot, p.table)) ps))) ∙ e))

  -- Together the slots have what the roots reach.
  pub taken_is : (v : ℕ) → list_any (λ slot. has_in v (maps slot)) (range_with_len 0 stored_slots) ≡ is_listed (own_items w s h) v
  taken_is v = iff _ _
      (λ e. let found = from_any (λ slot. has_in v (maps slot)) (range_with_len 0 stored_slots) e in
      let bounds = from_range 0 stored_slots found.0 found.1.0 in
      slot_listed v found.0 bounds.1 found.1.1)
      (λ e. let at = listed_slot v e in to_any (λ slot. has_in v (maps slot)) at.0 (range_with_len 0 stored_slots) (in_range 0 stored_slots at.0 (omega arith) at.1.0) at.1.1)

-- ---- one slot changes

-- the maps with another slot
abbrev pub with_map : (ℕ → MapSlot) → ℕ → MapSlot → ℕ → MapSlot
with_map maps slot m k = if k == slot then m else maps k

module _ (w u : View) (s : ℕ) (h : Head) (a : Rooted) (ps : List Snap) (turns : Turns w u s h a ps) (maps : ℕ → MapSlot) (mapped : AreMapped w s h maps) where
  -- a slot matches in the second view what it matches in the first
  still : (o : Option Rooted) (m : MapSlot) → Matches w s o m → Matches u s o m
  still None None matches = tt
  still None (Some map) matches = matches
  still (Some r) None matches = matches
  still (Some r) (Some map) matches = λ v. matches v ∙ ap (λ (x : Standing). is_listed (items x) v) (sym (turned_standing w u s h a ps turns s r))

  -- Where one slot is changed with its root, the maps are what the roots reach still.
  pub maps_step : (j : ℕ) (m : MapSlot) → Matches w s (root_at (turned h a ps) j) m → ((k : ℕ) → k ≢ j → root_at (turned h a ps) k ≡ root_at h k) → AreMapped u s (turned h a ps) (with_map maps j m)
  maps_step j m here others = record {
    each = λ slot low. ⊎_elim
        (λ (e : slot ≡ j). subst (λ (n : ℕ). Matches u s (root_at (turned h a ps) n) (with_map maps j m n)) (sym e)
        (subst (λ (b : Bool). Matches u s (root_at (turned h a ps) j) (if b then m else maps j)) (sym (itself j)) (still (root_at (turned h a ps) j) m here)))
        (λ other. subst (λ (b : Bool). Matches u s (root_at (turned h a ps) slot) (if b then m else maps slot)) (sym (unequal slot j other))
        (still (root_at (turned h a ps) slot) (maps slot) (subst (λ (o : Option Rooted). Matches w s o (maps slot)) (sym (others slot other)) (mapped.each slot low))))
        (cases_eq slot j);
  }

-- ---- the three steps

pub find_added : (p : Snap) (ps : List Snap) (k : ℕ) → find (λ q. q.slot == p.slot) ps ≡ None → find (λ q. q.slot == k) (added p ps) ≡ (if p.slot == k then Some p else find (λ q. q.slot == k) ps)
unfolding added
find_added p [] k none = refl
find_added p (q ∷ qs) k none = so (nat_lt p.slot q.slot) (q.slot == p.slot) refl none (λ f. find_added p qs k f)
  where
    later : (q.slot == p.slot) ≡ false → (b c : Bool) → (p.slot == k) ≡ b → (q.slot == k) ≡ c → (if c then Some q else (if b then Some p else find (λ d. d.slot == k) qs)) ≡ (if b then Some p else (if c then Some q else find (λ d. d.slot == k) qs))
    later differ true true here there = absurd (both_ways (q.slot == p.slot) differ (let first = equal p.slot k here in let second = equal q.slot k there in let e : q.slot ≡ p.slot = omega (arith, first, second) in grind (arith, nat_tests, e)))
    later differ true false here there = refl
    later differ false true here there = refl
    later differ false false here there = refl

    so : (first : Bool) (same : Bool) → (q.slot == p.slot) ≡ same → (if same then Some q else find (λ d. d.slot == p.slot) qs) ≡ None
        → (find (λ d. d.slot == p.slot) qs ≡ None → find (λ d. d.slot == k) (added p qs) ≡ (if p.slot == k then Some p else find (λ d. d.slot == k) qs))
        → find (λ d. d.slot == k) (if first then p ∷ (q ∷ qs) else q ∷ added p qs) ≡ (if p.slot == k then Some p else find (λ d. d.slot == k) (q ∷ qs))
    so first true is none rest = absurd cc
    so true false is none rest = refl
    so false false is none rest = ap (λ (o : Option Snap). if q.slot == k then Some q else o) (rest none) ∙ later is (p.slot == k) (q.slot == k) refl refl

-- without the snapshots of a name that are those of a slot, that slot is free
pub find_without : (name : List ℕ) (j : ℕ) (ps : List Snap) (k : ℕ) → ((q : Snap) → In q ps → is_same_name q.name name ≡ (q.slot == j)) → find (λ q. q.slot == k) (without name ps) ≡ (if k == j then None else find (λ q. q.slot == k) ps)
find_without name j [] k same = never (k == j)
  where
    never : (b : Bool) → ◌≡◌ {A = Option Snap} None (if b then None else None)
    never true = refl
    never false = refl
find_without name j (q ∷ qs) k same = so (is_same_name q.name name) refl (find_without name j qs k (λ d there. same d (inr there)))
  where
    gone : (b c : Bool) → (c ≡ true → b ≡ true) → (o : Option Snap) → (if b then None else o) ≡ (if b then None else (if c then Some q else o))
    gone true c both o = refl
    gone false true both o = absurd (both_ways false refl (both refl))
    gone false false both o = refl

    stays : (b c : Bool) → (c ≡ true → b ≡ false) → (o : Option Snap) → (if c then Some q else (if b then None else o)) ≡ (if b then None else (if c then Some q else o))
    stays true true apart o = absurd (both_ways true (apart refl) refl)
    stays true false apart o = refl
    stays false true apart o = refl
    stays false false apart o = refl

    so : (t : Bool) → is_same_name q.name name ≡ t → find (λ d. d.slot == k) (without name qs) ≡ (if k == j then None else find (λ d. d.slot == k) qs)
        → find (λ d. d.slot == k) (cond (not t) (q ∷ without name qs) (without name qs)) ≡ (if k == j then None else find (λ d. d.slot == k) (q ∷ qs))
    so true is rest =
        let at : q.slot ≡ j = equal q.slot j (sym (same q (inl refl)) ∙ is) in
        rest ∙ gone (k == j) (q.slot == k) (λ here. let e = equal q.slot k here in let d : k ≡ j = omega (arith, e, at) in grind (arith, nat_tests, d)) (find (λ d. d.slot == k) qs)
    so false is rest =
        let other : (q.slot == j) ≡ false = sym (same q (inl refl)) ∙ is in
        ap (λ (o : Option Snap). if q.slot == k then Some q else o) rest
        ∙ stays (k == j) (q.slot == k) (λ here. false_from_ne_true (k == j) (λ both. both_ways (q.slot == j) other (let e = equal q.slot k here in let d = equal k j both in let f : q.slot ≡ j = omega (arith, e, d) in grind (arith, nat_tests, f)))) (find (λ d. d.slot == k) qs)

-- where names and slots are different ones, the snapshots of a name are those of one slot
pub name_by_slot : (ps : List Snap) → are_distinct (map (λ p. p.name) ps) ≡ true → is_rising (map (λ p. p.slot) ps) ≡ true → (p : Snap) → In p ps → (q : Snap) → In q ps → is_same_name q.name p.name ≡ (q.slot == p.slot)
name_by_slot ps distinct rising p there q other = iff _ _
    (λ e. ap (λ (d : Snap). d.slot == p.slot) (by_name ps distinct q p other there (same_name q.name p.name e)) ∙ itself p.slot)
    (λ e. ap (λ (d : Snap). is_same_name d.name p.name) (by_slot q p other there (equal q.slot p.slot e)) ∙ name_itself p.name)
  where
    some_is : {x y : Snap} → Some x ≡ Some y → x ≡ y
    some_is e = cc

    by_slot : (q p : Snap) → In q ps → In p ps → q.slot ≡ p.slot → q ≡ p
    by_slot q p other there e = some_is (sym (found_rising ps rising q other) ∙ ap (λ (n : ℕ). find (λ d. d.slot == n) ps) e ∙ found_rising ps rising p there)

    named : (ns : List Snap) (name : List ℕ) (d : Snap) → In d ns → is_same_name name d.name ≡ true → list_any (is_same_name name) (map (λ p. p.name) ns) ≡ true
    named [] name d there e = absurd there
    named (n ∷ ns) name d (inl same) e = so (is_same_name name n.name) (ap (λ (x : Snap). is_same_name name x.name) same ∙ e)
      where
        so : (b : Bool) → b ≡ true → (b || list_any (is_same_name name) (map (λ p. p.name) ns)) ≡ true
        so true e = refl
        so false e = absurd cc
    named (n ∷ ns) name d (inr there) e = so (is_same_name name n.name) (named ns name d there e)
      where
        so : (b : Bool) → list_any (is_same_name name) (map (λ p. p.name) ns) ≡ true → (b || list_any (is_same_name name) (map (λ p. p.name) ns)) ≡ true
        so true e = refl
        so false e = e

    by_name : (ns : List Snap) → are_distinct (map (λ p. p.name) ns) ≡ true → (q p : Snap) → In q ns → In p ns → q.name ≡ p.name → q ≡ p
    by_name [] distinct q p other there e = absurd other
    by_name (n ∷ ns) distinct q p (inl a) (inl b) e = sym a ∙ b
    by_name (n ∷ ns) distinct q p (inl a) (inr b) e =
        let parts = and_parts (not (list_any (is_same_name n.name) (map (λ p. p.name) ns))) _ distinct in
        absurd (both_ways (not (list_any (is_same_name n.name) (map (λ p. p.name) ns))) (not_true (named ns n.name p b (ap (λ (x : Snap). is_same_name x.name p.name) a ∙ ap (λ (m : List ℕ). is_same_name m p.name) e ∙ name_itself p.name))) parts.0)
      where
        not_true : list_any (is_same_name n.name) (map (λ p. p.name) ns) ≡ true → not (list_any (is_same_name n.name) (map (λ p. p.name) ns)) ≡ false
        not_true e = ap not e
    by_name (n ∷ ns) distinct q p (inr a) (inl b) e =
        let parts = and_parts (not (list_any (is_same_name n.name) (map (λ p. p.name) ns))) _ distinct in
        absurd (both_ways (not (list_any (is_same_name n.name) (map (λ p. p.name) ns))) (not_true (named ns n.name q a (ap (λ (x : Snap). is_same_name x.name q.name) b ∙ ap (λ (m : List ℕ). is_same_name m q.name) (sym e) ∙ name_itself q.name))) parts.0)
      where
        not_true : list_any (is_same_name n.name) (map (λ p. p.name) ns) ≡ true → not (list_any (is_same_name n.name) (map (λ p. p.name) ns)) ≡ false
        not_true e = ap not e
    by_name (n ∷ ns) distinct q p (inr a) (inr b) e = by_name ns (and_parts (not (list_any (is_same_name n.name) (map (λ p. p.name) ns))) _ distinct).1 q p a b e

module _ (w u : View) (s : ℕ) (h : Head) (maps : ℕ → MapSlot) (mapped : AreMapped w s h maps) where
  -- A snapshot of the active table has the active map.
  pub maps_created : (p : Snap) → p.table ≡ h.active → 1 ≤ p.slot → snap_at h p.slot ≡ None → Turns w u s h h.active (added p h.snapshots)
      → AreMapped u s (turned h h.active (added p h.snapshots)) (with_map maps p.slot (maps 0))
  unfolding snap_at
  maps_created p table some free turns = maps_step w u s h h.active (added p h.snapshots) turns maps mapped p.slot (maps 0) here others
    where
      root : (k : ℕ) → root_at (turned h h.active (added p h.snapshots)) k ≡ (if k == 0 then Some h.active else option_map (λ (p : Snap). p.table) (if p.slot == k then Some p else find (λ q. q.slot == k) h.snapshots))
      root k = ap (λ (o : Option Snap). if k == 0 then Some h.active else option_map (λ (p : Snap). p.table) o) (find_added p h.snapshots k free)

      is : root_at (turned h h.active (added p h.snapshots)) p.slot ≡ Some h.active
      is = root p.slot ∙ (λ i. if unequal p.slot 0 (λ e. absurd (omega (arith, e, some))) i then Some h.active else option_map (λ (p : Snap). p.table) (if itself p.slot i then Some p else find (λ q. q.slot == p.slot) h.snapshots)) ∙ ap Some table

      here : Matches w s (root_at (turned h h.active (added p h.snapshots)) p.slot) (maps 0)
      here = subst (λ (o : Option Rooted). Matches w s o (maps 0)) (sym is) (mapped.each 0 (omega arith))

      others : (k : ℕ) → k ≢ p.slot → root_at (turned h h.active (added p h.snapshots)) k ≡ root_at h k
      others k other = root k ∙ ap (λ (b : Bool). if k == 0 then Some h.active else option_map (λ (p : Snap). p.table) (if b then Some p else find (λ q. q.slot == k) h.snapshots)) (unequal p.slot k (λ e. absurd (other (sym e))))

  -- One that is removed leaves its slot free.
  pub maps_deleted : (p : Snap) → In p h.snapshots → 1 ≤ p.slot → AreInSlots h → are_distinct (map (λ p. p.name) h.snapshots) ≡ true → Turns w u s h h.active (without p.name h.snapshots)
      → AreMapped u s (turned h h.active (without p.name h.snapshots)) (with_map maps p.slot None)
  unfolding snap_at
  maps_deleted p there some slots distinct turns = maps_step w u s h h.active (without p.name h.snapshots) turns maps mapped p.slot None here others
    where
      root : (k : ℕ) → root_at (turned h h.active (without p.name h.snapshots)) k ≡ (if k == 0 then Some h.active else option_map (λ (p : Snap). p.table) (if k == p.slot then None else find (λ q. q.slot == k) h.snapshots))
      root k = ap (λ (o : Option Snap). if k == 0 then Some h.active else option_map (λ (p : Snap). p.table) o) (find_without p.name p.slot h.snapshots k (name_by_slot h.snapshots distinct slots.rising p there))

      is : root_at (turned h h.active (without p.name h.snapshots)) p.slot ≡ None
      is = root p.slot ∙ (λ i. if unequal p.slot 0 (λ e. absurd (omega (arith, e, some))) i then Some h.active else option_map (λ (p : Snap). p.table) (if itself p.slot i then None else find (λ q. q.slot == p.slot) h.snapshots))

      here : Matches w s (root_at (turned h h.active (without p.name h.snapshots)) p.slot) None
      here = subst (λ (o : Option Rooted). Matches w s o None) (sym is) tt

      others : (k : ℕ) → k ≢ p.slot → root_at (turned h h.active (without p.name h.snapshots)) k ≡ root_at h k
      others k other = root k ∙ ap (λ (b : Bool). if k == 0 then Some h.active else option_map (λ (p : Snap). p.table) (if b then None else find (λ q. q.slot == k) h.snapshots)) (unequal k p.slot other)

  -- One that is restored gives the active table its map.
  pub maps_restored : (p : Snap) → In p h.snapshots → 1 ≤ p.slot → p.slot < stored_slots → AreInSlots h → Turns w u s h p.table h.snapshots
      → AreMapped u s (turned h p.table h.snapshots) (with_map maps 0 (maps p.slot))
  unfolding snap_at
  maps_restored p there some low slots turns = maps_step w u s h p.table h.snapshots turns maps mapped 0 (maps p.slot) here (λ k other. ap (λ (b : Bool). if b then Some p.table else option_map (λ (p : Snap). p.table) (find (λ q. q.slot == k) h.snapshots)) (unequal k 0 other)
      ∙ sym (ap (λ (b : Bool). if b then Some h.active else option_map (λ (p : Snap). p.table) (find (λ q. q.slot == k) h.snapshots)) (unequal k 0 other)))
    where
      is : root_at h p.slot ≡ Some p.table
      is = ap (λ (b : Bool). if b then Some h.active else option_map (λ (p : Snap). p.table) (find (λ q. q.slot == p.slot) h.snapshots)) (unequal p.slot 0 (λ e. absurd (omega (arith, e, some)))) ∙ ap (option_map (λ (p : Snap). p.table)) (found_rising h.snapshots slots.rising p there)

      here : Matches w s (root_at (turned h p.table h.snapshots) 0) (maps p.slot)
      here = subst (λ (o : Option Rooted). Matches w s o (maps p.slot)) is (mapped.each p.slot low)
