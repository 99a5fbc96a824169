-- What the blocks of a volume show after calls.
use Rattle.std.proofs.Common.{◌≡◌, ◌≢◌, ◌<◌, ◌≤◌, ◌+◌, ◌⊎◌, ℕ, zero, suc, Bool, true, false, true≢false, ◌||◌, ◌&&◌, ◌==◌, not, cond, List, [], ◌∷◌, length, Option, Some, None, refl, sym, ap, ap₂, subst, ◌∙◌, inl, inr, ⊎_elim, arith, get_or-set_same, get_or-set_other}
use Rattle.std.specs.Prelude.{IfSome, nat_eq, nat_le, is_some, slice_index_or, slice_set}
use Rattle.std.specs.List.{list_any}
use Rattle.std.specs.Ordering.{nat_cmp, eq_by_cmp}
use Rattle.std.specs.Cmp.{nat_cmp_total}
use Rattle.std.specs.FinMap as fin
use Rattle.std.proofs.lemmas.Bool.{cases_Bool, cases_eq, cases_lt}
use Rattle.std.proofs.lemmas.Bool.Decides.{nat_tests}
use Rattle.std.proofs.lemmas.List.{get_or_past}
use Rattle.std.proofs.lemmas.List.Elements.{All-get_or}
use Rattle.fv_disk.specs.Shown.{Image, Shown as Disk}
use Rattle.fv_disk.specs.declared.fault.BlockFault.{BlockFault}
use Rattle.fv_disk.specs.declared.fault.BlockFault.TheVariants.{DiskFault, Damaged, Memory}
use Rattle.fv_bits.specs.Members.{is_member}
use Rattle.fv_bits.proofs.Counts.{passing}
use Rattle.fv_bits.proofs.Laws.{is_member-replicate, is_member_past}
use Rattle.fv_image.proofs.Counts.{listed_within, none_between, within_two}
use Rattle.fv_container.specs.declared.entry.Entry.{Entry}
use Rattle.fv_container.specs.Chains.{Slots, chain_entry}
use Rattle.fv_container.proofs.Damage.{none_damaged}
use Rattle.fv_tree.specs.Sources.{IsDamaged}
use Rattle.fv_volmap.specs.Slots.{Allocates, IsVolume, Slot, Volume, active_of, has, map_or_empty, slot_at, taken_in, with_slot}
use Rattle.fv_pool.specs.declared.pool.Pool.{Pool}
use Rattle.fv_pool.specs.BlocksOver.{AreApart, IsLooseFault, TellsEntries, block_of, free_numbers, held_block, held_entry}
use Rattle.fv_pool.specs.Lending.{below, blocks_held, use_of, use_under, with_block}
use Rattle.fv_pool.proofs.Holding.{held_none, others_taken}

-- ---- the map of what is held

with_same : (blocks : fin.FinMap nat_cmp (List ℕ)) (n : ℕ) (o : Option (List ℕ)) → fin.get blocks n ≡ None → fin.get (with_block blocks n o) n ≡ o
with_same blocks n None none = none
with_same blocks n (Some block) none =
    let same : eq_by_cmp nat_cmp n n ≡ true = grind (arith, nat_tests) in
    fin.get-insert nat_cmp_total blocks n block n ∙ ap (λ t. cond t (Some block) (fin.get blocks n)) same

with_other : (blocks : fin.FinMap nat_cmp (List ℕ)) (n v : ℕ) (o : Option (List ℕ)) → v ≢ n → fin.get (with_block blocks n o) v ≡ fin.get blocks v
with_other blocks n v None other = refl
with_other blocks n v (Some block) other =
    let isnt : eq_by_cmp nat_cmp v n ≡ false = grind (arith, nat_tests, other) in
    fin.get-insert nat_cmp_total blocks n block v ∙ ap (λ t. cond t (Some block) (fin.get blocks v)) isnt

get_past : (n : ℕ) (f : ℕ → Option (List ℕ)) (v : ℕ) → n ≤ v → fin.get (below n f) v ≡ None
unfolding below
get_past zero f v past = fin.get-empty nat_cmp v
get_past (suc n) f v past = with_other (below n f) n v (f n) (λ same. absurd (omega (arith, same, past))) ∙ get_past n f v (omega (arith, past))

get_below : (n : ℕ) (f : ℕ → Option (List ℕ)) (v : ℕ) → v < n → fin.get (below n f) v ≡ f v
unfolding below
get_below zero f v within = absurd (omega (arith, within))
get_below (suc n) f v within = elim (cases_eq v n) [
  | inl same ↦ subst (λ (k : ℕ). fin.get (with_block (below n f) n (f n)) k ≡ f k) (sym same) (with_same (below n f) n (f n) (get_past n f n (omega arith)))
  | inr other ↦ with_other (below n f) n v (f n) other ∙ get_below n f v (omega (arith, within, other))
]

held_past : (map : Volume) (slots : Slots) (slot v : ℕ) → 1048576 ≤ v → held_entry map slots slot v ≡ None
unfolding held_entry
held_past map slots slot v past =
    let isnt : nat_le v 1048575 ≡ false = grind (arith, nat_tests, past) in
    ap (λ t. cond (t && taken_in map.slots v) (chain_entry slots slot v) None) isnt

-- the block under a VVBN in the map is the one that is held
pub get_held : (map : Volume) (pool : Pool) (slot : ℕ) (i : Image) (v : ℕ) → fin.get (blocks_held map pool slot i) v ≡ held_block map pool slot i v
get_held map pool slot i v = ⊎_elim
    (λ (within : v < 1048576). get_below 1048576 (held_block map pool slot i) v within)
    (λ (past : 1048576 ≤ v). get_past 1048576 (held_block map pool slot i) v past ∙ sym (ap (block_of pool.kept i) (held_past map pool.containers slot v past)))
    (cases_lt v 1048576)

module _ (map after : Volume) (old new : Pool) (slot : ℕ) (i : Image) where
  abbrev block_before : ℕ → Option (List ℕ)
  block_before = held_block map old slot i

  abbrev block_after : ℕ → Option (List ℕ)
  block_after = held_block after new slot i

  same_blocks : (m : fin.FinMap nat_cmp (List ℕ)) → ((w : ℕ) → block_after w ≡ fin.get m w) → blocks_held after new slot i ≡ m
  same_blocks m each = fin.same_map nat_cmp_total fin.nat_cmp-IsAntisymmetric (blocks_held after new slot i) m (λ w. get_held after new slot i w ∙ each w)

  pub held_same_map : ((w : ℕ) → block_after w ≡ block_before w) → blocks_held after new slot i ≡ blocks_held map old slot i
  held_same_map each = same_blocks (blocks_held map old slot i) (λ w. each w ∙ sym (get_held map old slot i w))

  pub held_more : (v : ℕ) (block : List ℕ) → block_after v ≡ Some block → ((w : ℕ) → w ≢ v → block_after w ≡ block_before w) → blocks_held after new slot i ≡ fin.insert (blocks_held map old slot i) v block
  held_more v block here others = same_blocks (fin.insert (blocks_held map old slot i) v block) (λ w. elim (cases_eq w v) [
    | inl same ↦
        let does : eq_by_cmp nat_cmp w v ≡ true = grind (arith, nat_tests, same) in
        ap block_after same ∙ here ∙ sym (fin.get-insert nat_cmp_total (blocks_held map old slot i) v block w ∙ ap (λ t. cond t (Some block) (fin.get (blocks_held map old slot i) w)) does)
    | inr other ↦
        let isnt : eq_by_cmp nat_cmp w v ≡ false = grind (arith, nat_tests, other) in
        others w other ∙ sym (get_held map old slot i w) ∙ sym (fin.get-insert nat_cmp_total (blocks_held map old slot i) v block w ∙ ap (λ t. cond t (Some block) (fin.get (blocks_held map old slot i) w)) isnt)
  ])

  pub held_less : (v : ℕ) → block_after v ≡ None → ((w : ℕ) → w ≢ v → block_after w ≡ block_before w) → blocks_held after new slot i ≡ fin.remove (blocks_held map old slot i) v
  held_less v gone others = same_blocks (fin.remove (blocks_held map old slot i) v) (λ w. elim (cases_eq w v) [
    | inl same ↦
        let does : eq_by_cmp nat_cmp w v ≡ true = grind (arith, nat_tests, same) in
        ap block_after same ∙ gone ∙ sym (fin.get-remove nat_cmp_total (blocks_held map old slot i) v w ∙ ap (λ t. cond t None (fin.get (blocks_held map old slot i) w)) does)
    | inr other ↦
        let isnt : eq_by_cmp nat_cmp w v ≡ false = grind (arith, nat_tests, other) in
        others w other ∙ sym (get_held map old slot i w) ∙ sym (fin.get-remove nat_cmp_total (blocks_held map old slot i) v w ∙ ap (λ t. cond t None (fin.get (blocks_held map old slot i) w)) isnt)
  ])

-- ---- the active map

pub active_with : (map : Volume) (m : List Bool) → IsVolume map → active_of (with_slot map 0 (Some m)) ≡ m
active_with map m is = ap (map_or_empty map.span) (get_or-set_same map.slots 0 (Some m) None (omega (arith, is.count)))

-- a number that no slot has isn't in the active map
pub not_active : (map : Volume) (v : ℕ) → IsVolume map → taken_in map.slots v ≡ false → is_member (active_of map) v ≡ false
not_active map v is free = first map.slots is.active free
  where
    first : (slots : List Slot) → slice_index_or slots 0 None ≡ Some (map_or_empty map.span (slice_index_or slots 0 None)) → taken_in slots v ≡ false → is_member (map_or_empty map.span (slice_index_or slots 0 None)) v ≡ false
    first [] there none = cc
    first (None ∷ ss) there none = cc
    first (Some a ∷ ss) there none = left (is_member a v) (taken_in ss v) none
      where
        left : (s t : Bool) → (s || t) ≡ false → s ≡ false
        left true t isnt = isnt
        left false t isnt = refl

pub member_set : (xs : List Bool) (v w : ℕ) (b : Bool) → w ≢ v → is_member (slice_set xs v b) w ≡ is_member xs w
unfolding is_member
member_set xs v w b other = get_or-set_other xs v w b false other

pub member_cleared : (xs : List Bool) (v : ℕ) → is_member (slice_set xs v false) v ≡ false
unfolding is_member
member_cleared [] v = refl
member_cleared (x ∷ xs) zero = refl
member_cleared (x ∷ xs) (suc v) = member_cleared xs v

pub member_taken : (xs : List Bool) (v : ℕ) → v < length xs → is_member (slice_set xs v true) v ≡ true
unfolding is_member
member_taken xs v within = get_or-set_same xs v true false within

pub use_none : (map : Volume) (slots : Slots) (slot v : ℕ) → is_member (active_of map) v ≡ false → use_under map slots slot v ≡ None
use_none map slots slot v isnt = ap (λ t. cond t (Some (use_of (held_entry map slots slot v))) None) isnt

use_some : (map : Volume) (slots : Slots) (slot v : ℕ) → is_member (active_of map) v ≡ true → use_under map slots slot v ≡ Some (use_of (held_entry map slots slot v))
use_some map slots slot v does = ap (λ t. cond t (Some (use_of (held_entry map slots slot v))) None) does

-- a number that is in use is a member, and one that isn't is none
pub used_member : (map : Volume) (slots : Slots) (slot v : ℕ) → is_some (use_under map slots slot v) ≡ true → is_member (active_of map) v ≡ true
used_member map slots slot v some = from (is_member (active_of map) v) some
  where
    from : (t : Bool) → is_some (cond t (Some (use_of (held_entry map slots slot v))) None) ≡ true → t ≡ true
    from true some = refl
    from false some = some

pub unused_member : (map : Volume) (slots : Slots) (slot v : ℕ) → use_under map slots slot v ≡ None → is_member (active_of map) v ≡ false
unused_member map slots slot v none = from (is_member (active_of map) v) none
  where
    from : (t : Bool) → cond t (Some (use_of (held_entry map slots slot v))) None ≡ None → t ≡ false
    from true none = let wrong : true ≡ false = ap is_some none in wrong
    from false none = refl

-- damage of a load comes where there is no entry, as far as entries are told
pub loose_none : (disk : Disk) (slots : Slots) (entry : Option Entry) (label : ℕ) (e : BlockFault) → TellsEntries disk slots → IsLooseFault disk slots entry label e → IsDamaged e → entry ≡ None
loose_none disk slots entry label DiskFault tells loose damaged = absurd damaged
loose_none disk slots entry label (Damaged at want found) tells (inl hole) damaged = hole.none tells
loose_none disk slots entry label (Damaged at want found) tells (inr leaf) damaged = absurd (none_damaged disk.reads slots at want found tells.1 (leaf tells.0))
loose_none disk slots entry label Memory tells loose damaged = absurd damaged

use_same : (map after : Volume) (slots new : Slots) (slot v : ℕ) → is_member (active_of after) v ≡ is_member (active_of map) v → held_entry after new slot v ≡ held_entry map slots slot v
    → use_under after new slot v ≡ use_under map slots slot v
use_same map after slots new slot v member entry = ap₂ (λ t e. cond t (Some (use_of e)) None) member entry

pub active_long : (map : Volume) → IsVolume map → length (active_of map) ≡ map.span
active_long map is =
    let all = All-get_or (λ (slot : Slot). IfSome slot (λ m. length m ≡ map.span)) map.slots 0 None (omega (arith, is.count)) is.long in
    subst (λ (s : Slot). IfSome s (λ m. length m ≡ map.span)) is.active all

-- a number that a slot has is one of the span
pub slot_below : (map : Volume) → IsVolume map → (k v : ℕ) → has v (slot_at map k) ≡ true → v < map.span
slot_below map is k v there = ⊎_elim
    (λ (low : k < length map.slots). by (slot_at map k) (All-get_or (λ (slot : Slot). IfSome slot (λ m. length m ≡ map.span)) map.slots k None low is.long) there)
    (λ (past : length map.slots ≤ k). absurd (wrong (sym (ap (has v) (get_or_past map.slots k None past)) ∙ there)))
    (cases_lt k (length map.slots))
  where
    wrong : false ≡ true → ⊥
    wrong e = cc

    by : (o : Slot) → IfSome o (λ m. length m ≡ map.span) → has v o ≡ true → v < map.span
    by None long e = absurd (wrong e)
    by (Some m) long e = ⊎_elim (λ (low : v < length m). omega (arith, low, long)) (λ (past : length m ≤ v). absurd (wrong (sym (is_member_past m v past) ∙ e))) (cases_lt v (length m))

module _ (map after : Volume) (v : ℕ) (is : IsVolume map) (number : Allocates map v after) where
  abbrev more : List Bool
  more = slice_set (active_of map) v true

  active_more : active_of after ≡ more
  active_more = ap active_of number.volume ∙ active_with map more is

  -- a number that was allocated is in use as its new entry says, and each other one as before
  pub use_placed : (slots new : Slots) (slot : ℕ) (e : Entry) → held_entry after new slot v ≡ Some e → ((w : ℕ) → w ≢ v → held_entry after new slot w ≡ held_entry map slots slot w)
      → (w : ℕ) → use_under after new slot w ≡ cond (nat_eq w v) (Some (record { pvbn = e.pvbn; kind = e.kind })) (use_under map slots slot w)
  use_placed slots new slot e here others w = elim (cases_eq w v) [
    | inl same ↦
        let does : nat_eq w v ≡ true = grind (arith, nat_tests, same) in
        let member : is_member (active_of after) v ≡ true = ap (λ m. is_member m v) active_more ∙ member_taken (active_of map) v (omega (arith, active_long map is, number.within)) in
        ap (use_under after new slot) same ∙ use_some after new slot v member ∙ ap (λ o. Some (use_of o)) here
        ∙ sym (ap (λ t. cond t (Some (record { pvbn = e.pvbn; kind = e.kind })) (use_under map slots slot w)) does)
    | inr other ↦
        let isnt : nat_eq w v ≡ false = grind (arith, nat_tests, other) in
        let member : is_member (active_of after) w ≡ is_member (active_of map) w = ap (λ m. is_member m w) active_more ∙ member_set (active_of map) v w true other in
        use_same map after slots new slot w member (others w other) ∙ sym (ap (λ t. cond t (Some (record { pvbn = e.pvbn; kind = e.kind })) (use_under map slots slot w)) isnt)
  ]

  -- one number fewer is free
  pub numbers_taken : free_numbers map ≤ free_numbers after + 1
  unfolding free_numbers
  numbers_taken =
      let span : after.span ≡ map.span = ap (λ (m : Volume). m.span) number.volume in
      let each : (k : ℕ) → cond {A = ℕ} (not (taken_in map.slots k)) 1 0 ≤ cond (not (taken_in after.slots k)) 1 0 + cond (list_any (λ x. x == k) (v ∷ [])) 1 0 = λ k. elim (cases_eq k v) [
        | inl same ↦
            let does : list_any (λ x. x == k) (v ∷ []) ≡ true = grind (arith, nat_tests, same) in
            rw does (most_one (taken_in map.slots k) (taken_in after.slots k))
        | inr other ↦ weaker (taken_in map.slots k) (taken_in after.slots k) (list_any (λ x. x == k) (v ∷ [])) (others_taken map after v is number k other)
      ] in
      let two = within_two (λ k. not (taken_in map.slots k)) (λ k. not (taken_in after.slots k)) (λ k. list_any (λ x. x == k) (v ∷ [])) 0 map.span each in
      let one = listed_within (v ∷ []) 0 map.span in
      let same : passing (λ k. not (taken_in after.slots k)) 0 after.span ≡ passing (λ k. not (taken_in after.slots k)) 0 map.span = ap (passing (λ k. not (taken_in after.slots k)) 0) span in
      omega (arith, two, one, same)
    where
      most_one : (s t : Bool) → cond {A = ℕ} (not s) 1 0 ≤ cond (not t) 1 0 + cond true 1 0
      most_one true true = omega arith
      most_one true false = omega arith
      most_one false true = omega arith
      most_one false false = omega arith

      weaker : (s t u : Bool) → t ≡ s → cond {A = ℕ} (not s) 1 0 ≤ cond (not t) 1 0 + cond u 1 0
      weaker s t u same = subst (λ x. cond {A = ℕ} (not s) 1 0 ≤ cond (not x) 1 0 + cond u 1 0) (sym same) (omega arith)

-- where each number is taken none is free
pub none_free : (map : Volume) → ((v : ℕ) → v < map.span → taken_in map.slots v ≡ true) → free_numbers map ≡ 0
unfolding free_numbers
none_free map taken = none_between (λ v. not (taken_in map.slots v)) 0 map.span (λ v low high. ap not (taken v (omega (arith, high))))

-- ---- a number is taken out of the active map

-- ---- the active map

-- what a new active map has is a member of it
pub set_member : (slots : List Slot) (m : List Bool) (w : ℕ) → has w (slice_index_or (slice_set slots 0 (Some m)) 0 None) ≡ true → is_member m w ≡ true
set_member [] m w is = absurd cc
set_member (s ∷ ss) m w is = is

-- what is a member of the active map, the active slot has
pub active_had : (span : ℕ) (o : Slot) (w : ℕ) → is_member (map_or_empty span o) w ≡ true → has w o ≡ true
active_had span None w is = absurd (true≢false (sym is ∙ is_member-replicate span w))
active_had span (Some m) w is = is

module _ (map after : Volume) (v : ℕ) (is : IsVolume map) (released : after ≡ with_slot map 0 (Some (slice_set (active_of map) v false))) where
  abbrev fewer : List Bool
  fewer = slice_set (active_of map) v false

  active_fewer : active_of after ≡ fewer
  active_fewer = ap active_of released ∙ active_with map fewer is

  taken_other : (w : ℕ) → w ≢ v → taken_in after.slots w ≡ taken_in map.slots w
  taken_other w other = ap (λ (m : Volume). taken_in m.slots w) released ∙ row map.slots is.active
    where
      row : (slots : List Slot) → slice_index_or slots 0 None ≡ Some (map_or_empty map.span (slice_index_or slots 0 None))
          → taken_in (slice_set slots 0 (Some (slice_set (map_or_empty map.span (slice_index_or slots 0 None)) v false))) w ≡ taken_in slots w
      row [] there = cc
      row (None ∷ ss) there = cc
      row (Some a ∷ ss) there = ap (λ (t : Bool). t || taken_in ss w) (member_set a v w false other)

  still_taken : taken_in after.slots v ≡ true → taken_in map.slots v ≡ true
  still_taken does = row map.slots is.active (sym (ap (λ (m : Volume). taken_in m.slots v) released) ∙ does)
    where
      right : (s t : Bool) → (false || t) ≡ true → (s || t) ≡ true
      right true t does = refl
      right false t does = does

      row : (slots : List Slot) → slice_index_or slots 0 None ≡ Some (map_or_empty map.span (slice_index_or slots 0 None))
          → taken_in (slice_set slots 0 (Some (slice_set (map_or_empty map.span (slice_index_or slots 0 None)) v false))) v ≡ true → taken_in slots v ≡ true
      row [] there does = cc
      row (None ∷ ss) there does = cc
      row (Some a ∷ ss) there does = right (is_member a v) (taken_in ss v) (sym (ap (λ (t : Bool). t || taken_in ss v) (member_cleared a v)) ∙ does)

  module _ (slots : Slots) (slot : ℕ) where
    entry_other : (w : ℕ) → w ≢ v → held_entry after slots slot w ≡ held_entry map slots slot w
    unfolding held_entry
    entry_other w other = ap (λ t. cond (nat_le w 1048575 && t) (chain_entry slots slot w) None) (taken_other w other)

    -- the number's own entry stays held where another slot has it, and else it isn't held
    entry_here : (held_entry after slots slot v ≡ held_entry map slots slot v) ⊎ (held_entry after slots slot v ≡ None)
    unfolding held_entry
    entry_here = ⊎_elim
        (λ does. inl (ap (λ t. cond (nat_le v 1048575 && t) (chain_entry slots slot v) None) (does ∙ sym (still_taken does))))
        (λ isnt. inr (held_none after slots slot v isnt))
        (cases_Bool (taken_in after.slots v))

    pub entry_fewer : (w : ℕ) (e : Entry) → held_entry after slots slot w ≡ Some e → held_entry map slots slot w ≡ Some e
    entry_fewer w e there = elim (cases_eq w v) [
      | inl same ↦ subst (λ (k : ℕ). held_entry map slots slot k ≡ Some e) (sym same) (⊎_elim
          (λ (stays : held_entry after slots slot v ≡ held_entry map slots slot v). sym stays ∙ sym (ap (held_entry after slots slot) same) ∙ there)
          (λ (gone : held_entry after slots slot v ≡ None). let isnt : None ≡ Some e = sym gone ∙ sym (ap (held_entry after slots slot) same) ∙ there in cc)
          entry_here)
      | inr other ↦ sym (entry_other w other) ∙ there
    ]

    -- the block may stay held, and all others stay
    pub held_gone : (pool : Pool) (i : Image) → pool.containers ≡ slots
        → (blocks_held after pool slot i ≡ fin.remove (blocks_held map pool slot i) v) ⊎ (blocks_held after pool slot i ≡ blocks_held map pool slot i)
    held_gone pool i same =
        let block : (w : ℕ) → held_entry after slots slot w ≡ held_entry map slots slot w → held_block after pool slot i w ≡ held_block map pool slot i w =
        λ w is. subst (λ s. block_of pool.kept i (held_entry after s slot w) ≡ block_of pool.kept i (held_entry map s slot w)) (sym same) (ap (block_of pool.kept i) is) in
        let others : (w : ℕ) → w ≢ v → held_block after pool slot i w ≡ held_block map pool slot i w = λ w other. block w (entry_other w other) in
        ⊎_elim
        (λ stays. inr (held_same_map map after pool pool slot i (λ w. elim (cases_eq w v) [
          | inl here ↦ subst (λ (k : ℕ). held_block after pool slot i k ≡ held_block map pool slot i k) (sym here) (block v stays)
          | inr other ↦ others w other
        ])))
        (λ gone. inl (held_less map after pool pool slot i v (subst (λ s. block_of pool.kept i (held_entry after s slot v) ≡ None) (sym same) (ap (block_of pool.kept i) gone)) others))
        entry_here

    pub use_gone : (w : ℕ) → use_under after slots slot w ≡ cond (nat_eq w v) None (use_under map slots slot w)
    use_gone w = elim (cases_eq w v) [
      | inl same ↦
          let does : nat_eq w v ≡ true = grind (arith, nat_tests, same) in
          let member : is_member (active_of after) v ≡ false = ap (λ m. is_member m v) active_fewer ∙ member_cleared (active_of map) v in
          ap (use_under after slots slot) same ∙ use_none after slots slot v member ∙ sym (ap (λ t. cond t None (use_under map slots slot w)) does)
      | inr other ↦
          let isnt : nat_eq w v ≡ false = grind (arith, nat_tests, other) in
          let member : is_member (active_of after) w ≡ is_member (active_of map) w = ap (λ m. is_member m w) active_fewer ∙ member_set (active_of map) v w false other in
          use_same map after slots slots slot w member (entry_other w other) ∙ sym (ap (λ t. cond t None (use_under map slots slot w)) isnt)
    ]

  -- entries that lie apart still do
  pub apart_gone : (pool : Pool) (slot : ℕ) → AreApart pool map slot → AreApart pool after slot
  apart_gone pool slot apart = record {
    own = apart.own;
    held = λ w e there. apart.held w e (entry_fewer pool.containers slot w e there);
    own_apart = apart.own_apart;
    held_apart = λ w u other d is e there. apart.held_apart w u other d is e (entry_fewer pool.containers slot u e there);
  }

  -- the active slot has no number that it hadn't
  pub had_gone : (w : ℕ) → has w (slot_at after 0) ≡ true → has w (slot_at map 0) ≡ true
  had_gone w does = elim (cases_eq w v) [
    | inl same ↦ let wrong : true ≡ false = sym in_map ∙ ap (is_member (slice_set (active_of map) v false)) same ∙ member_cleared (active_of map) v in cc
    | inr other ↦ active_had map.span (slot_at map 0) w (sym (member_set (active_of map) v w false other) ∙ in_map)
  ]
    where
      in_map : is_member (slice_set (active_of map) v false) w ≡ true
      in_map = set_member map.slots (slice_set (active_of map) v false) w (sym (ap (λ (m : Volume). has w (slot_at m 0)) released) ∙ does)

  -- as many numbers are free as before, at least
  pub numbers_gone : free_numbers map ≤ free_numbers after
  unfolding free_numbers
  numbers_gone =
      let span : after.span ≡ map.span = ap (λ (m : Volume). m.span) released in
      let each : (k : ℕ) → cond {A = ℕ} (not (taken_in map.slots k)) 1 0 ≤ cond (not (taken_in after.slots k)) 1 0 + cond false 1 0 = λ k. elim (cases_eq k v) [
        | inl same ↦ weaker (taken_in map.slots k) (taken_in after.slots k) (λ does. subst (λ (n : ℕ). taken_in map.slots n ≡ true) (sym same) (still_taken (subst (λ (n : ℕ). taken_in after.slots n ≡ true) same does)))
        | inr other ↦ weaker (taken_in map.slots k) (taken_in after.slots k) (λ does. sym (taken_other k other) ∙ does)
      ] in
      let two = within_two (λ k. not (taken_in map.slots k)) (λ k. not (taken_in after.slots k)) (λ k. false) 0 map.span each in
      let none = none_between (λ k. false) 0 map.span (λ k low high. refl) in
      let same : passing (λ k. not (taken_in after.slots k)) 0 after.span ≡ passing (λ k. not (taken_in after.slots k)) 0 map.span = ap (passing (λ k. not (taken_in after.slots k)) 0) span in
      omega (arith, two, none, same)
    where
      weaker : (s t : Bool) → (t ≡ true → s ≡ true) → cond {A = ℕ} (not s) 1 0 ≤ cond (not t) 1 0 + cond false 1 0
      weaker true true is = omega arith
      weaker true false is = omega arith
      weaker false true is = let isnt : false ≡ true = is refl in cc
      weaker false false is = omega arith
