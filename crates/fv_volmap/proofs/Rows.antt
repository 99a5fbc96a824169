-- Slots in a row.
use Rattle.std.proofs.Common.{◌≡◌, ℕ, zero, suc, ◌+◌, ◌-◌, ◌<◌, ◌≤◌, Bool, true, false, ◌||◌, ◌&&◌, not, List, [], ◌∷◌, ◌++◌, length, take, drop, get_or, set, Some, None, All, ⊎_elim, refl, sym, ap, ap₂, subst, ◌∙◌, ◌==◌, cond, arith, length-set, true≢false}
use Rattle.std.specs.Prelude.{count_by, is_some}
use Rattle.std.specs.List.{list_any}
use Rattle.std.proofs.lemmas.Bool.Decides.{nat_tests}
use Rattle.std.proofs.lemmas.List.Folds.{list_any_more, list_any_at, list_any-append}
use Rattle.std.proofs.lemmas.List.{length-take, length-take-le, get_or_past, set_split, take-take, take_all, get_or-take, get_or-set_other}
use Rattle.std.proofs.Math.Seq.{take-set-lt}
use Rattle.std.proofs.lemmas.Bool.{cases_lt, or_parts}
use Rattle.std.proofs.lemmas.List.Elements.{All-set, All-take}
use Rattle.fv_bits.specs.Members.{is_member}
use Rattle.fv_bits.proofs.Laws.{is_member-set, is_member_past}
use Rattle.fv_volmap.specs.Slots.{Slot, Volume, snapshot_count, stored_count, slot_count, slot_of_base, has, taken_in, has_alone, IsVolume, AreUnited}
use Rattle.fv_volmap.specs.Kept.{IsBare, IsLong, AreFreeTo, AreUsedTo, IsKept, Unites, union_or, with_number}

or_none : (t : Bool) → (t || false) ≡ t
or_none true = refl
or_none false = refl

or_last : (a b c : Bool) → ((a || b) || c) ≡ (a || (b || c))
or_last true b c = refl
or_last false b c = refl

-- one slot more
pub none_more : (slots : List Slot) (at v : ℕ) → at < length slots → taken_in (take at slots) v ≡ false → has v (get_or slots at None) ≡ false → taken_in (take (at + 1) slots) v ≡ false
none_more slots at v inside none here = list_any_more (has v) slots at None inside ∙ ap (λ t. t || has v (get_or slots at None)) none ∙ here

pub one_more : (slots : List Slot) (at v : ℕ) (t : Bool) → at < length slots → (t || taken_in (take (at + 1) slots) v) ≡ ((t || taken_in (take at slots) v) || has v (get_or slots at None))
one_more slots at v t inside = ap (λ s. t || s) (list_any_more (has v) slots at None inside) ∙ sym (or_last t (taken_in (take at slots) v) (has v (get_or slots at None)))

pub taken_here : (slots : List Slot) (at v : ℕ) → at < length slots → has v (get_or slots at None) ≡ true → taken_in slots v ≡ true
taken_here slots at v inside here = list_any_at (has v) slots at None inside here

-- the slots beside one
pub taken_beside : (slots : List Slot) (at v : ℕ) → at < length slots → taken_in (set slots at None) v ≡ (taken_in (take at slots) v || taken_in (drop (at + 1) slots) v)
taken_beside slots at v inside =
    ap (λ (s : List Slot). taken_in s v) (set_split slots at None inside ∙ (let next : suc at ≡ at + 1 = omega arith in ap (λ (n : ℕ). take at slots ++ None ∷ drop n slots) next))
    ∙ list_any-append (has v) (take at slots) (None ∷ drop (at + 1) slots)

-- a free slot takes a map
taken_set : (slots : List Slot) (at v : ℕ) (map : List Bool) → at < length slots → get_or slots at None ≡ None → taken_in (set slots at (Some map)) v ≡ (is_member map v || taken_in slots v)
taken_set [] at v map inside free = absurd (omega arith)
taken_set (s ∷ ss) zero v map inside free = ap (λ t. is_member map v || (has v t || taken_in ss v)) (sym free)
taken_set (s ∷ ss) (suc at) v map inside free =
    ap (λ t. has v s || t) (taken_set ss at v map (omega arith) free) ∙ swapped (has v s) (is_member map v) (taken_in ss v)
  where
    swapped : (a b c : Bool) → (a || (b || c)) ≡ (b || (a || c))
    swapped true true c = refl
    swapped true false c = refl
    swapped false b c = refl

-- the union, or the active map, is as long as the span
pub union_long : (span : ℕ) (active : List Bool) (union : Slot) → length active ≡ span → IsLong span union → length (union_or active union) ≡ span
union_long span active None long fits = long
union_long span active (Some map) long fits = fits

-- it is what it was where a number goes into both or out of both
union_with : (active : List Bool) (union : Slot) (v : ℕ) (t : Bool) → union_or (set active v t) (with_number union v t) ≡ set (union_or active union) v t
union_with active None v t = refl
union_with active (Some map) v t = refl

with_long : (span : ℕ) (union : Slot) (v : ℕ) (t : Bool) → IsLong span union → IsLong span (with_number union v t)
with_long span None v t fits = fits
with_long span (Some map) v t fits = length-set map v t ∙ fits

with_bare : (others : List Slot) (union : Slot) (v : ℕ) (t : Bool) → IsBare union others → IsBare (with_number union v t) others
with_bare others None v t bare = bare
with_bare others (Some map) v t bare = tt

twice : (a b : Bool) → (a || (a || b)) ≡ (a || b)
twice true b = refl
twice false b = refl

-- what is kept so is a volume's
pub is_volume : (span : ℕ) (active : List Bool) (others : List Slot) (used : ℕ) (union : Slot) (united : Bool) (next : ℕ) → IsKept span active others used union united next → IsVolume (record { span = span; slots = Some active ∷ others })
is_volume span active others used union united next kept = record {
  count = ap suc kept.count;
  active = refl;
  long = each;
}
  where
    each : All (IsLong span) (Some active ∷ others)
    each zero d inside = kept.active_long
    each (suc i) d inside = kept.others_long i d (omega (arith, inside))

-- the active map is copied to a free slot, and from then on there is a union
pub kept_copy : (span : ℕ) (active : List Bool) (others : List Slot) (used : ℕ) (union : Slot) (united : Bool) (next slot : ℕ) (copy : List Bool) (more : ℕ) → IsKept span active others used union united next → slot < slot_count → get_or (Some active ∷ others) slot None ≡ None → copy ≡ active → AreUsedTo more (set others (slot - 1) (Some copy)) → IsKept span active (set others (slot - 1) (Some copy)) more (Some (union_or active union)) united next
kept_copy span active others used union united next zero copy more kept below free same now = cc
kept_copy span active others used union united next (suc at) copy more kept below free same now =
    let inside : at < length others = omega (arith, kept.count, below) in
    let low : suc at - 1 ≡ at = omega arith in
    record {
      count = length-set others (suc at - 1) (Some copy) ∙ kept.count;
      active_long = kept.active_long;
      others_long = rw (same, low) (All-set (IsLong span) others at (Some active) kept.active_long kept.others_long);
      used_to = now;
      union_long = union_long span active union kept.active_long kept.union_long;
      bare = tt;
      next_within = kept.next_within;
      exact = rw (same, low) (λ fresh v. kept.exact fresh v ∙ sym (ap (λ t. is_member active v || t) (taken_set others at v active inside free) ∙ twice (is_member active v) (taken_in others v)));
    }

-- where no union was made, all is as it was
pub kept_same : (span : ℕ) (active : List Bool) (others : List Slot) (used : ℕ) (union again : Slot) (united : Bool) (next : ℕ) → again ≡ union → IsKept span active others used union united next → IsKept span active others used again united next
kept_same span active others used union again united next same kept = subst (λ u. IsKept span active others used u united next) (sym same) kept

-- a number goes into the active map or out of it
put_in : (map : List Bool) (v u : ℕ) (t : Bool) → v < length map → is_member (set map v t) u ≡ cond (u == v) t (is_member map u)
put_in map v u t inside = is_member-set map v t u inside

added : (same a o : Bool) → cond same true (a || o) ≡ (cond same true a || o)
added true a o = refl
added false a o = refl

pub kept_more : (span : ℕ) (active : List Bool) (others : List Slot) (used : ℕ) (union : Slot) (v : ℕ) → length others ≡ slot_of_base → length active ≡ span → All (IsLong span) others → AreUsedTo used others → IsLong span union → IsBare union others → Unites active others (union_or active union) → v < length (union_or active union) → IsKept span (set active v true) others used (with_number union v true) true (v + 1)
kept_more span active others used union v count active_long others_long used_to union_long bare unites within =
    let inside : v < length active = omega (arith, unites.len, within) in
    record {
      count = count;
      active_long = length-set active v true ∙ active_long;
      others_long = others_long;
      used_to = used_to;
      union_long = with_long span union v true union_long;
      bare = with_bare others union v true bare;
      next_within = omega (arith, inside, active_long);
      exact = λ fresh u. ap (λ (map : List Bool). is_member map u) (union_with active union v true) ∙ put_in (union_or active union) v u true within ∙ ap (cond (u == v) true) (unites.members u) ∙ added (u == v) (is_member active u) (taken_in others u) ∙ ap (λ t. t || taken_in others u) (sym (put_in active v u true inside));
    }

removed : (same a o : Bool) → (same ≡ true → o ≡ false) → cond same false (a || o) ≡ (cond same false a || o)
removed true a o none = sym (none refl)
removed false a o none = refl

stayed : (same a o : Bool) → (same ≡ true → o ≡ true) → (a || o) ≡ (cond same false a || o)
stayed false a o some = refl
stayed true true o some = sym (some refl)
stayed true false o some = refl

same_taken : (others : List Slot) (u v : ℕ) (t : Bool) → taken_in others v ≡ t → (u == v) ≡ true → taken_in others u ≡ t
same_taken others u v t is same = let at : u ≡ v = grind (arith, nat_tests, same) in ap (taken_in others) at ∙ is

module _ (span : ℕ) (active : List Bool) (others : List Slot) (used : ℕ) (union : Slot) (united : Bool) (next v : ℕ) where
  pub kept_fewer : IsKept span active others used union united next → v < span → taken_in others v ≡ false → IsKept span (set active v false) others used (with_number union v false) united next
  kept_fewer kept within none = record {
    count = kept.count;
    active_long = length-set active v false ∙ kept.active_long;
    others_long = kept.others_long;
    used_to = kept.used_to;
    union_long = with_long span union v false kept.union_long;
    bare = with_bare others union v false kept.bare;
    next_within = kept.next_within;
    exact = λ fresh u. ap (λ (map : List Bool). is_member map u) (union_with active union v false) ∙ put_in (union_or active union) v u false (omega (arith, within, union_long span active union kept.active_long kept.union_long)) ∙ ap (cond (u == v) false) (kept.exact fresh u) ∙ removed (u == v) (is_member active u) (taken_in others u) (same_taken others u v false none) ∙ ap (λ t. t || taken_in others u) (sym (put_in active v u false (omega (arith, within, kept.active_long))));
  }

  pub kept_still : IsKept span active others used union united next → v < span → taken_in others v ≡ true → IsKept span (set active v false) others used union united next
  kept_still kept within some = record {
    count = kept.count;
    active_long = length-set active v false ∙ kept.active_long;
    others_long = kept.others_long;
    used_to = kept.used_to;
    union_long = kept.union_long;
    bare = kept.bare;
    next_within = kept.next_within;
    exact = λ fresh u. still union kept.bare u (kept.exact fresh u);
  }
    where
      still : (union : Slot) → IsBare union others → (u : ℕ) → is_member (union_or active union) u ≡ (is_member active u || taken_in others u) → is_member (union_or (set active v false) union) u ≡ (is_member (set active v false) u || taken_in others u)
      still None bare u was = absurd (true≢false (sym some ∙ bare v))
      still (Some map) bare u was = was ∙ stayed (u == v) (is_member active u) (taken_in others u) (same_taken others u v true some) ∙ ap (λ t. t || taken_in others u) (sym (put_in active v u false (omega (arith, within, kept.active_long))))

-- a free slot before those that are free
pub used_before : (others : List Slot) (count : ℕ) → 0 < count → AreFreeTo count others → get_or others (count - 1) None ≡ None → AreFreeTo (count - 1) others
used_before others count above used here = record {
  within = omega (arith, used.within);
  free = λ at le lt. ⊎_elim
      (λ less. used.free at (omega (arith, less, above)) lt)
      (λ most. let same : at ≡ count - 1 = omega (arith, le, most) in ap (λ (i : ℕ). get_or others i None) same ∙ here)
      (cases_lt (count - 1) at);
}

-- no slot from this one on is used
abbrev IsFreeFrom : ℕ → List Slot → Type 0
IsFreeFrom from slots = (at : ℕ) → from ≤ at → get_or slots at None ≡ None

free_from : (others : List Slot) (used : ℕ) → AreFreeTo used others → IsFreeFrom used (take snapshot_count others)
free_from others used is at le = ⊎_elim
    (λ lt. get_or-take snapshot_count others at None lt ∙ is.free at le lt)
    (λ past. get_or_past (take snapshot_count others) at None (omega (arith, length-take snapshot_count others, past)))
    (cases_lt at snapshot_count)

-- what some slots have is what those before the free ones have
taken_front : (from : ℕ) (slots : List Slot) (v : ℕ) → IsFreeFrom from slots → taken_in (take from slots) v ≡ taken_in slots v
taken_front zero [] v free = refl
taken_front (suc from) [] v free = refl
taken_front zero (s ∷ ss) v free = taken_front zero ss v (λ at le. free (suc at) (omega arith)) ∙ sym (ap (λ t. has v t || taken_in ss v) (free 0 (omega arith)))
taken_front (suc from) (s ∷ ss) v free = ap (λ t. has v s || t) (taken_front from ss v (λ at le. free (suc at) (omega (arith, le))))

-- the slots of snapshots up to the last that is used
pub used_slots : (used : ℕ) (slots items : List Slot) → slots ≡ items → length items ≡ slot_of_base → AreUsedTo used items → used ≡ length (take used slots)
used_slots used slots items same count is = sym (length-take-le used slots (omega (arith, ap length same, count, is.rest.within)))

-- what the slots of snapshots have, those of them up to the last that is used have
pub taken_stored : (slots others : List Slot) (used v : ℕ) → slots ≡ others → AreUsedTo used others → taken_in (take used slots) v ≡ taken_in (take snapshot_count others) v
taken_stored slots others used v same is =
    ap (λ (s : List Slot). taken_in (take used s) v) same
    ∙ ap (λ (s : List Slot). taken_in s v) (sym (take-take used snapshot_count others is.rest.within))
    ∙ taken_front used (take snapshot_count others) v (free_from others used is.rest)

-- where no snapshot uses a slot, the stored slots have what the active one has
pub active_alone : (active : List Bool) (others : List Slot) (used : ℕ) → AreUsedTo used others → used ≡ 0 → (v : ℕ) → taken_in (take stored_count (Some active ∷ others)) v ≡ has v (Some active)
active_alone active others used is none v =
    ap (λ (t : Bool). has v (Some active) || t) (sym (taken_stored others others 0 v refl (subst (λ (n : ℕ). AreUsedTo n others) none is))) ∙ or_none (has v (Some active))

-- whether a snapshot uses a slot
none_used : (slots : List Slot) → IsFreeFrom 0 slots → list_any is_some slots ≡ false
none_used [] free = refl
none_used (s ∷ ss) free = ap (λ (t : Slot). is_some t || list_any is_some ss) (free 0 (omega arith)) ∙ none_used ss (λ at le. free (suc at) (omega arith))

pub used_some : (others : List Slot) (used : ℕ) → length others ≡ slot_of_base → AreUsedTo used others → list_any is_some (take snapshot_count others) ≡ not (used == 0)
used_some others zero count is = none_used (take snapshot_count others) (free_from others 0 is.rest)
used_some others (suc used) count is =
    let inside : used < snapshot_count = omega (arith, is.rest.within) in
    let low : suc used - 1 ≡ used = omega arith in
    let some : (suc used == 0) ≡ false = grind (arith, nat_tests) in
    list_any_at is_some (take snapshot_count others) used None (omega (arith, inside, length-take-le snapshot_count others (omega (arith, count))))
    (ap is_some (get_or-take snapshot_count others used None inside) ∙ ap (λ (i : ℕ). is_some (get_or others i None)) (sym low) ∙ is.last (omega arith))
    ∙ sym (ap not some)

-- and the slot of the base is the last of all
pub taken_with_base : (others : List Slot) (used v : ℕ) (base : Slot) → length others ≡ slot_of_base → AreUsedTo used others → (taken_in (take used others) v || has v (get_or others snapshot_count base)) ≡ taken_in others v
taken_with_base others used v base count is =
    ap (λ t. t || has v (get_or others snapshot_count base)) (taken_stored others others used v refl is)
    ∙ sym (list_any_more (has v) others snapshot_count base (omega (arith, count)))
    ∙ ap (λ (s : List Slot). taken_in s v) (take_all slot_of_base others (omega (arith, count)))

-- what a slot has alone, it has alone among those up to the last that is used
alone_front : (active : Slot) (rows : List Slot) (used at v : ℕ) → at < used → IsFreeFrom used rows → has_alone (active ∷ take used rows) (suc at) v ≡ has_alone (active ∷ rows) (suc at) v
alone_front active rows used at v inside free =
    ap₂ (λ s t. has v s && not (has v active || t)) (get_or-take used rows at None inside)
    (ap (λ (s : List Slot). taken_in s v) (sym (take-set-lt used rows at None inside)) ∙ taken_front used (set rows at None) v (λ i le. get_or-set_other rows at i None None (λ same. omega (arith, same, le, inside)) ∙ free i le))

pub alone_stored : (active : Slot) (others : List Slot) (used at : ℕ) (numbers : List ℕ) → at < used → AreUsedTo used others → count_by (has_alone (active ∷ take used others) (suc at)) numbers ≡ count_by (has_alone (active ∷ take snapshot_count others) (suc at)) numbers
alone_stored active others used at numbers inside is =
    ap (λ (rows : List Slot). count_by (has_alone (active ∷ rows) (suc at)) numbers) (sym (take-take used snapshot_count others is.rest.within))
    ∙ ap (λ (p : ℕ → Bool). count_by p numbers) (λ j v. alone_front active (take snapshot_count others) used at v inside (free_from others used is.rest) j)

count_none : (numbers : List ℕ) → count_by (λ v. false) numbers ≡ 0
count_none [] = refl
count_none (v ∷ vs) = count_none vs

-- a slot after the last that is used has none
pub alone_past : (active : Slot) (others : List Slot) (used at : ℕ) (numbers : List ℕ) → used ≤ at → AreUsedTo used others → count_by (has_alone (active ∷ take snapshot_count others) (suc at)) numbers ≡ 0
alone_past active others used at numbers past is =
    ap (λ (p : ℕ → Bool). count_by p numbers) (λ j v. has v (free_from others used is.rest at past j) && not (taken_in (active ∷ set (take snapshot_count others) at None) v)) ∙ count_none numbers

-- some of the slots have no number that all of them lack
none_front : (n : ℕ) (slots : List Slot) (v : ℕ) → taken_in slots v ≡ false → taken_in (take n slots) v ≡ false
none_front zero slots v none = refl
none_front (suc n) [] v none = refl
none_front (suc n) (s ∷ ss) v none = ap₂ (λ a b. a || b) (or_parts (has v s) (taken_in ss v) none).0 (none_front n ss v (or_parts (has v s) (taken_in ss v) none).1)

none_less : (slots : List Slot) (at v : ℕ) → taken_in slots v ≡ false → taken_in (set slots at None) v ≡ false
none_less [] at v none = refl
none_less (s ∷ ss) zero v none = (or_parts (has v s) (taken_in ss v) none).1
none_less (s ∷ ss) (suc at) v none = ap₂ (λ a b. a || b) (or_parts (has v s) (taken_in ss v) none).0 (none_less ss at v (or_parts (has v s) (taken_in ss v) none).1)

pub front_bare : (slots : List Slot) (used : ℕ) (union : Slot) → IsBare union slots → IsBare union (take used slots)
front_bare slots used None bare = λ v. none_front used slots v (bare v)
front_bare slots used (Some map) bare = tt

pub same_bare : (others : List Slot) (old new : Slot) → is_some new ≡ is_some old → IsBare old others → IsBare new others
same_bare others old (Some map) there bare = tt
same_bare others None None there bare = bare
same_bare others (Some map) None there bare = absurd (true≢false (sym there))

pub less_bare : (others : List Slot) (at : ℕ) (union : Slot) → IsBare union others → IsBare union (set others at None)
less_bare others at None bare = λ v. none_less others at v (bare v)
less_bare others at (Some map) bare = tt

-- where there is no union, the active map is the union of itself and of slots without a number
pub unites_bare : (active : List Bool) (others : List Slot) (union : Slot) → union ≡ None → IsBare union others → Unites active others (union_or active union)
unites_bare active others None is bare = record { len = refl; members = λ v. sym (ap (λ t. is_member active v || t) (bare v) ∙ or_none (is_member active v)) }
unites_bare active others (Some map) is bare = cc

pub front_long : (n used : ℕ) (slots : List Slot) → All (IsLong n) slots → All (IsLong n) (take used slots)
front_long n used slots long = All-take (IsLong n) used slots long

pub stored_unites : (active : List Bool) (others : List Slot) (used : ℕ) (map : List Bool) → AreUsedTo used others → Unites active (take used others) map → Unites active (take snapshot_count others) map
stored_unites active others used map is unites = record {
  len = unites.len;
  members = λ v. unites.members v ∙ ap (λ t. is_member active v || t) (taken_stored others others used v refl is);
}

-- a slot is made free
pub kept_less : (span : ℕ) (active : List Bool) (others : List Slot) (used : ℕ) (union : Slot) (united : Bool) (next at less : ℕ) → IsKept span active others used union united next → AreUsedTo less (set others at None) → IsKept span active (set others at None) less union false next
kept_less span active others used union united next at less kept now = record {
  count = length-set others at None ∙ kept.count;
  active_long = kept.active_long;
  others_long = All-set (IsLong span) others at None tt kept.others_long;
  used_to = now;
  union_long = kept.union_long;
  bare = less_bare others at union kept.bare;
  next_within = kept.next_within;
  exact = λ fresh. absurd (true≢false (sym fresh));
}

-- the active slot and the snapshots' slots make the union of all that stand on the disk
pub is_united : (volume : Volume) (span : ℕ) (active : List Bool) (others slots : List Slot) (map : List Bool) → record { span = span; slots = Some active ∷ others } ≡ volume → slots ≡ others → length active ≡ span → Unites active (take snapshot_count slots) map → AreUnited volume map
is_united volume span active others slots map seen same long unites = record {
  len = unites.len ∙ long ∙ ap (λ (volume : Volume). volume.span) seen;
  members = λ v.
      unites.members v
      ∙ ap (λ (s : List Slot). is_member active v || taken_in (take snapshot_count s) v) same
      ∙ ap (λ (volume : Volume). taken_in (take stored_count volume.slots) v) seen;
}

-- no slot has a number from the span on
pub past_none : (span v n : ℕ) (slots : List Slot) → All (IsLong span) slots → span ≤ v → taken_in (take n slots) v ≡ false
past_none span v zero slots long past = refl
past_none span v (suc n) [] long past = refl
past_none span v (suc n) (s ∷ ss) long past = (λ j. one s (long 0 None (omega arith)) j || past_none span v n ss (λ i d lt. long (suc i) d (omega (arith, lt))) past j)
  where
    one : (s : Slot) → IsLong span s → has v s ≡ false
    one None fits = refl
    one (Some map) fits = is_member_past map v (omega (arith, fits, past))

pub past_all : (span v : ℕ) (slots : List Slot) → All (IsLong span) slots → span ≤ v → taken_in slots v ≡ false
past_all span v slots long past = ap (λ (s : List Slot). taken_in s v) (sym (take_all (length slots) slots (omega arith))) ∙ past_none span v (length slots) slots long past
