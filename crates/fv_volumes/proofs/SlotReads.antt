-- The maps of slots as they are read from their blocks, one after another; the other slots stay.
use Rattle.std.proofs.Common.{◌≡◌, ◌≢◌, ◌<◌, ◌≤◌, ◌+◌, ◌*◌, ◌/◌, ◌%◌, ℕ, Bool, true, false, List, get_or, inl, inr, length, length-set, replicate, Option, Some, None, refl, sym, ap, subst, ◌∙◌, ⊎_elim, arith}
use Rattle.std.specs.Prelude.{nat_lt, not, ◌&&◌, ◌||◌, ◌==◌, if◌then◌else◌, is_some, IfErr, IfNone, IfSome, OnOk, Result, Ok, Err}
use Rattle.std.specs.declared.alloc.AllocError.{AllocError}
use Rattle.std.proofs.lemmas.Bool.{cases_eq, cases_lt, true≢false}
use Rattle.std.proofs.lemmas.Bool.Decides.{nat_tests}
use Rattle.std.proofs.lemmas.List.{get_or-set_other, get_or-set_same}
use Rattle.fv_disk.specs.Shown.{Image}
use Rattle.fv_disk.specs.declared.fault.BlockFault.{BlockFault}
use Rattle.fv_disk.specs.declared.fault.BlockFault.TheVariants.{DiskFault, Damaged, Memory}
use Rattle.fv_bits.specs.Bits.{bit_of_area, bit_of_bytes, block_bits}
use Rattle.fv_bits.specs.Members.{IsFirstPast, TakesBlock, is_member}
use Rattle.fv_bits.proofs.Laws.{is_member-replicate, taken_more, zero_block}
use Rattle.fv_model.specs.Space.{map_blocks}
use Rattle.fv_codec.specs.declared.label.Label.{Label}
use Rattle.fv_image.specs.Views.{Footing, View, entry_count, footing_of, map_vvbn, volume_bit}
use Rattle.fv_image.specs.Held.{view_at}
use Rattle.fv_container.specs.declared.entry.Entry.{Entry}
use Rattle.fv_container.specs.Mapped.{IsMapped, Mapped, entry_under}
use Rattle.fv_container.specs.Chains.{IsBadLeaf}
use Rattle.fv_container.specs.Finding.{IsRowFault}
use Rattle.fv_container.specs.Reading.{IsBadNode}
use Rattle.fv_container.specs.Spelled.{IsOpened}
use Rattle.fv_container.proofs.Damage.{bad_leaf}
use Rattle.fv_root.specs.declared.find.Found.{Found}
use Rattle.fv_root.specs.Finding.{root_found}
use Rattle.fv_volmap.specs.Slots.{IsVolume, Loads, Slot, Volume, empty_volume, has, map_or_empty, slot_at, slot_count, slot_of_base, stored_count}
use Rattle.fv_volume.specs.declared.state.Snap.{Snap}
use Rattle.fv_delay.specs.Delay.{is_used_slot}
use Rattle.fv_volume.specs.Loading.{HaveBits, IsBadMap, IsBadSlot, IsPastSpan, entry_block, is_slot_with, label_of}
use Rattle.fv_volume.specs.SlotReads.{AreUsedBeside, AreUsedTo, HasReadSlot, HoldsBase, HaveRead, TakesSlot, slot_bit}
use Rattle.fv_volume.specs.Snapshots.{has_slot}
use Rattle.fv_volume.proofs.MapSlots.{one_empty}
use Rattle.fv_volumes.proofs.Mapping.{block_there}

-- a free slot has what an empty map has
pub has_or_empty : (span v : ℕ) (s : Slot) → has v s ≡ is_member (map_or_empty span s) v
has_or_empty span v None = sym (is_member-replicate span v)
has_or_empty span v (Some map) = refl

-- a block that was taken into a slot
slot_now : (old new : Volume) (slot index : ℕ) (block : List ℕ) → slot < slot_count → IsVolume new → (loads : Loads old slot index block new) → slot_at new slot ≡ Some loads.map
slot_now old new slot index block low is loads =
    let long : length new.slots ≡ length old.slots = ap (λ (m : Volume). length m.slots) loads.volume ∙ length-set old.slots slot (Some loads.map) in
    let count = is.count in
    ap (λ (m : Volume). slot_at m slot) loads.volume ∙ get_or-set_same old.slots slot (Some loads.map) None (omega (arith, long, count, low))

-- every other slot stays
pub others_stay : (old new : Volume) (slot index : ℕ) (block : List ℕ) → Loads old slot index block new → (k : ℕ) → k ≢ slot → slot_at new k ≡ slot_at old k
others_stay old new slot index block loads k other = ap (λ (m : Volume). slot_at m k) loads.volume ∙ get_or-set_other old.slots slot k (Some loads.map) None other

pub at_none : {X : Type 0} (o : Option X) (P : Type 0) → o ≡ None → IfNone o P → P
at_none None P is holds = holds
at_none (Some x) P is holds = absurd cc

-- zeros have no bit past the span
pub zeros_past : (span index n number : ℕ) → IsFirstPast span index (replicate n 0) number → ⊥
zeros_past span index n number past = true≢false (sym past.bit ∙ zero_block n (number % 32768))

-- so zeros are taken
pub zeros_taken : (o : Option ℕ) (P : Type 0) (span index n : ℕ) → IfNone o P → IfSome o (IsFirstPast span index (replicate n 0)) → P
zeros_taken None P span index n is past = is
zeros_taken (Some number) P span index n is past = absurd (zeros_past span index n number past)

-- a block was taken
pub takes_block : (old new : Volume) (slot index : ℕ) (block : List ℕ) → slot < slot_count → IsVolume new → Loads old slot index block new → TakesSlot old slot 1 new
takes_block old new slot index block low is loads = record {
  span = ap (λ (m : Volume). m.span) loads.volume;
  used = λ some. ap (λ (s : Slot). is_some s) (slot_now old new slot index block low is loads);
  others = others_stay old new slot index block loads;
}

pub takes_none : (m : Volume) (slot : ℕ) → TakesSlot m slot 0 m
takes_none m slot = record { span = refl; used = λ some. absurd (omega (arith, some)); others = λ k other. refl }

pub takes_more : (a b c : Volume) (slot count : ℕ) → TakesSlot a slot count b → TakesSlot b slot 1 c → TakesSlot a slot (count + 1) c
takes_more a b c slot count before one = record {
  span = one.span ∙ before.span;
  used = λ some. one.used (omega arith);
  others = λ k other. one.others k other ∙ before.others k other;
}

module _ (i : Image) (c : Mapped) (span slot : ℕ) where
  area : ℕ → List ℕ
  area k = entry_block i (entry_under c (map_vvbn span slot k))

  -- nothing was read of a slot without members
  pub none_read : (m : Volume) → m.span ≡ span → ((v : ℕ) → has v (slot_at m slot) ≡ false) → HasReadSlot i c span slot 0 m
  none_read m size none = record {
    size = size;
    used = λ some. absurd (omega (arith, some));
    bits = λ v below. absurd (omega (arith, below));
    clear = λ v from. none v;
  }

  -- a hole has no bits, as a block of zeros
  pub hole_block : (k n : ℕ) → entry_under c (map_vvbn span slot k) ≡ None → (b : ℕ) → bit_of_bytes (replicate n 0) b ≡ bit_of_bytes (entry_block i (entry_under c (map_vvbn span slot k))) b
  hole_block k n hole b = zero_block n b ∙ sym (ap (λ (e : Option Entry). bit_of_bytes (entry_block i e) b) hole ∙ zero_block 0 b)

  -- one more block, with the bits of the one that the entry leads to
  pub block_read : (k : ℕ) (block : List ℕ) (old new : Volume) → slot < slot_count → ((b : ℕ) → bit_of_bytes block b ≡ bit_of_bytes (entry_block i (entry_under c (map_vvbn span slot k))) b) → Loads old slot k block new → IsVolume new
      → HasReadSlot i c span slot k old → HasReadSlot i c span slot (k + 1) new
  block_read k block old new low same loads valid so_far =
      let before : List Bool = map_or_empty old.span (slot_at old slot) in
      let now : slot_at new slot ≡ Some loads.map = slot_now old new slot k block low valid loads in
      let was : (v : ℕ) → is_member before v ≡ has v (slot_at old slot) = λ v. sym (has_or_empty old.span v (slot_at old slot)) in
      let is : (v : ℕ) → has v (slot_at new slot) ≡ is_member loads.map v = λ v. ap (has v) now in
      let taken : TakesBlock before loads.map k (entry_block i (entry_under c (map_vvbn span slot k))) = record { len = loads.taken.len; taken = λ b inside. loads.taken.taken b inside ∙ same b; others = loads.taken.others } in
      record {
        size = ap (λ (m : Volume). m.span) loads.volume ∙ so_far.size;
        used = λ some. ap (λ (s : Slot). is_some s) now;
        bits = λ v below. is v ∙ taken_more (λ k. entry_block i (entry_under c (map_vvbn span slot k))) before loads.map k taken (λ u low. was u ∙ so_far.bits u low) v below;
        clear = λ v from. is v ∙ taken.others v (omega (arith, from)) ∙ was v ∙ so_far.clear v (omega (arith, from));
      }

  -- what was read of a slot that stays
  pub read_stays : (count : ℕ) (old new : Volume) → new.span ≡ old.span → slot_at new slot ≡ slot_at old slot → HasReadSlot i c span slot count old → HasReadSlot i c span slot count new
  read_stays count old new size same so_far = record {
    size = size ∙ so_far.size;
    used = λ some. ap (λ (s : Slot). is_some s) same ∙ so_far.used some;
    bits = λ v below. ap (has v) same ∙ so_far.bits v below;
    clear = λ v from. ap (has v) same ∙ so_far.clear v from;
  }

  -- the whole map has the bits of its blocks
  pub whole_read : (m : Volume) → HasReadSlot i c span slot (map_blocks span) m → (v : ℕ) → has v (slot_at m slot) ≡ slot_bit i c span slot v
  unfolding slot_bit
  whole_read m read v = ⊎_elim
      (λ (inside : v < 32768 * map_blocks span).
      let test : nat_lt v (32768 * map_blocks span) ≡ true = grind (arith, nat_tests, inside) in
      read.bits v inside ∙ sym (ap (λ (t : Bool). t && bit_of_area (λ k. entry_block i (entry_under c (map_vvbn span slot k))) v) test))
      (λ (past : 32768 * map_blocks span ≤ v).
      let test : nat_lt v (32768 * map_blocks span) ≡ false = grind (arith, nat_tests, past) in
      read.clear v past ∙ sym (ap (λ (t : Bool). t && bit_of_area (λ k. entry_block i (entry_under c (map_vvbn span slot k))) v) test))
      (cases_lt v (32768 * map_blocks span))

module _ (found : Found) (i : Image) (s : ℕ) (l : Label) (map : Mapped) (lies : label_of found i s ≡ Some l) (opened : IsOpened i l.container l.height map) (size : length map.entries ≡ entry_count l.span) (valid : IsMapped map) where
  -- and it is the one that the image's view tells
  pub slot_told : (span slot v : ℕ) → slot_bit i map span slot v ≡ volume_bit (view_at (root_found found) i) s span slot v
  unfolding slot_bit volume_bit view_at
  slot_told span slot v = λ j. nat_lt v (block_bits * map_blocks span) && bit_of_area (λ k. block_there found i s l map lies opened size valid (map_vvbn span slot k) j) v

  pub slot_read : (m : Volume) (span slot : ℕ) → HasReadSlot i map span slot (map_blocks span) m → (v : ℕ) → has v (slot_at m slot) ≡ volume_bit (view_at (root_found found) i) s span slot v
  slot_read m span slot read v = whole_read i map span slot m read v ∙ slot_told span slot v

  -- so it is with all maps that were read
  pub bits_read : (m : Volume) (span : ℕ) (snaps : List Snap) → AreUsedTo snaps stored_count m → HaveRead i map span stored_count m → HaveBits (view_at (root_found found) i) s span m
  bits_read m span snaps used read k v low = so (slot_at m k) refl
    where
      test : nat_lt k stored_count ≡ true
      test = grind (arith, nat_tests, low)

      always : (b : Bool) → (b || true) ≡ true
      always true = refl
      always false = refl

      -- a free slot isn't the active one
      later : is_some (slot_at m k) ≡ false → (k == 0) ≡ false
      later none = first (k == 0) (has_slot snaps k) (ap (λ (b : Bool). b && is_slot_with snaps k) (sym test) ∙ sym (used.each k) ∙ none)
        where
          first : (a b : Bool) → (a || b) ≡ false → a ≡ false
          first true b e = e
          first false b e = refl

      so : (o : Slot) → slot_at m k ≡ o → has v (slot_at m k) ≡ (is_used_slot m k && volume_bit (view_at (root_found found) i) s span k v)
      so None e =
          let none : is_some (slot_at m k) ≡ false = ap (λ (o : Slot). is_some o) e in
          ap (has v) e ∙ sym (λ j. (later none j || none j) && volume_bit (view_at (root_found found) i) s span k v)
      so (Some b) e =
          let some : is_some (slot_at m k) ≡ true = ap (λ (o : Slot). is_some o) e in
          slot_read m span k (read.each k low some) v
          ∙ sym (ap (λ (t : Bool). t && volume_bit (view_at (root_found found) i) s span k v) (ap (λ (t : Bool). (k == 0) || t) some ∙ always (k == 0)))

-- ---- the slot of the base

module _ (base : Option Footing) (old new : Volume) (holds : HoldsBase base old new) where
  -- the slots are used that were read, and that of the base where there is one
  pub used_beside : (snaps : List Snap) → AreUsedTo snaps stored_count old → AreUsedBeside snaps base new
  used_beside snaps used = record { each = λ k other. ap (λ (o : Slot). is_some o) (holds.others k other) ∙ used.each k; base = holds.used }

  -- and have the bits of their blocks
  pub bits_beside : (w : View) (s span : ℕ) → HaveBits w s span old → HaveBits w s span new
  bits_beside w s span bits k v low =
      let same : slot_at new k ≡ slot_at old k = holds.others k (λ e. absurd (let is : k ≡ slot_of_base = e in omega (arith, low, is))) in
      subst (λ (o : Slot). has v o ≡ (((k == 0) || is_some o) && volume_bit w s span k v)) (sym same) (bits k v low)

-- a label says a base exactly where its parent isn't 0
used_by : (t : Bool) (b : Footing) → is_some (if t then None else Some b) ≡ not t
used_by true b = refl
used_by false b = refl

-- a volume whose label says none holds none,
pub holds_none : (l : Label) (old : Volume) → (l.parent == 0) ≡ true → is_some (slot_at old slot_of_base) ≡ false → HoldsBase (footing_of l) old old
holds_none l old none free = record { span = refl; others = λ k other. refl; used = free ∙ sym (used_by (l.parent == 0) _ ∙ ap not none) }

-- and one whose label says one holds it once zeros were taken for it, where memory was found
pub holds_where : (l : Label) (old new : Volume) (result : Result (Unit {0}) AllocError) → (l.parent == 0) ≡ false → OnOk result (Loads old slot_of_base 0 (replicate 4096 0) new) → IsVolume new → OnOk result (HoldsBase (footing_of l) old new)
holds_where l old new (Ok unit) some loads valid =
    let takes : TakesSlot old slot_of_base 1 new = takes_block old new slot_of_base 0 (replicate 4096 0) (omega arith) valid loads in
    record { span = takes.span; others = takes.others; used = takes.used (omega arith) ∙ sym (used_by (l.parent == 0) _ ∙ ap not some) }
holds_where l old new (Err fault) some loads valid = tt

-- ---- slot by slot

module _ (snaps : List Snap) where
  -- the active one first
  pub used_first : (span count : ℕ) (new : Volume) → 1 ≤ count → TakesSlot (empty_volume span) 0 count new → AreUsedTo snaps 1 new
  used_first span count new some takes = record {
    each = λ k. ⊎_elim
        (λ (e : k ≡ 0). subst (λ (n : ℕ). is_some (slot_at new n) ≡ (nat_lt n 1 && is_slot_with snaps n)) (sym e) (takes.used some))
        (λ (other : k ≢ 0).
        let past : nat_lt k 1 ≡ false = grind (arith, nat_tests, other) in
        ap (λ (o : Slot). is_some o) (takes.others k other ∙ one_empty span k other) ∙ sym (ap (λ (b : Bool). b && is_slot_with snaps k) past))
        (cases_eq k 0);
  }

  module _ (slot : ℕ) (old : Volume) (so_far : AreUsedTo snaps slot old) where
    same_before : (k : ℕ) → k ≢ slot → nat_lt k slot ≡ nat_lt k (slot + 1)
    same_before k other = ⊎_elim
        (λ (low : k < slot). (let a : nat_lt k slot ≡ true = grind (arith, nat_tests, low) in a) ∙ sym (let b : nat_lt k (slot + 1) ≡ true = grind (arith, nat_tests, low) in b))
        (λ (high : slot ≤ k). (let a : nat_lt k slot ≡ false = grind (arith, nat_tests, high) in a) ∙ sym (let b : nat_lt k (slot + 1) ≡ false = grind (arith, nat_tests, high, other) in b))
        (cases_lt k slot)

    here : nat_lt slot (slot + 1) ≡ true
    here = grind (arith, nat_tests)

    pub free_yet : is_some (slot_at old slot) ≡ false
    free_yet = so_far.each slot ∙ ap (λ (b : Bool). b && is_slot_with snaps slot) (let past : nat_lt slot slot ≡ false = grind (arith, nat_tests) in past)

    pub none_has : (v : ℕ) → has v (slot_at old slot) ≡ false
    none_has v = so (slot_at old slot) free_yet
      where
        so : (o : Slot) → is_some o ≡ false → has v o ≡ false
        so None e = refl
        so (Some map) e = absurd (true≢false e)

    module _ (above : 1 ≤ slot) where
      which : is_slot_with snaps slot ≡ has_slot snaps slot
      which = ap (λ (b : Bool). b || has_slot snaps slot) (let first : (slot == 0) ≡ false = grind (arith, nat_tests, above) in first)

      -- a slot that no snapshot has is passed,
      pub used_passed : has_slot snaps slot ≡ false → AreUsedTo snaps (slot + 1) old
      used_passed none = record {
        each = λ k. ⊎_elim
            (λ (e : k ≡ slot). subst (λ (n : ℕ). is_some (slot_at old n) ≡ (nat_lt n (slot + 1) && is_slot_with snaps n)) (sym e)
            (free_yet ∙ sym (ap (λ (b : Bool). b && is_slot_with snaps slot) here ∙ which ∙ none)))
            (λ (other : k ≢ slot). so_far.each k ∙ ap (λ (b : Bool). b && is_slot_with snaps k) (same_before k other))
            (cases_eq k slot);
      }

      -- and one that a snapshot has is taken
      pub used_more : (count : ℕ) (new : Volume) → 1 ≤ count → TakesSlot old slot count new → has_slot snaps slot ≡ true → AreUsedTo snaps (slot + 1) new
      used_more count new some takes one = record {
        each = λ k. ⊎_elim
            (λ (e : k ≡ slot). subst (λ (n : ℕ). is_some (slot_at new n) ≡ (nat_lt n (slot + 1) && is_slot_with snaps n)) (sym e)
            (takes.used some ∙ sym (ap (λ (b : Bool). b && is_slot_with snaps slot) here ∙ which ∙ one)))
            (λ (other : k ≢ slot). ap (λ (o : Slot). is_some o) (takes.others k other) ∙ so_far.each k ∙ ap (λ (b : Bool). b && is_slot_with snaps k) (same_before k other))
            (cases_eq k slot);
      }

    module _ (i : Image) (c : Mapped) (span : ℕ) (read : HaveRead i c span slot old) where
      pub read_passed : HaveRead i c span (slot + 1) old
      read_passed = record {
        each = λ k low used. ⊎_elim
            (λ (e : k ≡ slot). absurd (true≢false (sym (ap (λ (n : ℕ). is_some (slot_at old n)) (sym e) ∙ used) ∙ free_yet)))
            (λ (other : k ≢ slot). read.each k (omega (arith, low, other)) used)
            (cases_eq k slot);
      }

      pub read_more : (count : ℕ) (new : Volume) → TakesSlot old slot count new → HasReadSlot i c span slot (map_blocks span) new → HaveRead i c span (slot + 1) new
      read_more count new takes now = record {
        each = λ k low used. ⊎_elim
            (λ (e : k ≡ slot). subst (λ (n : ℕ). HasReadSlot i c span n (map_blocks span) new) (sym e) now)
            (λ (other : k ≢ slot).
            let same = takes.others k other in
            read_stays i c span k (map_blocks span) old new takes.span same (read.each k (omega (arith, low, other)) (ap (λ (o : Slot). is_some o) (sym same) ∙ used)))
            (cases_eq k slot);
      }

-- the active map alone was read
pub read_first : (i : Image) (c : Mapped) (span : ℕ) (new : Volume) → HasReadSlot i c span 0 (map_blocks span) new → HaveRead i c span 1 new
read_first i c span new now = record {
  each = λ k low used. let e : k ≡ 0 = omega (arith, low) in subst (λ (n : ℕ). HasReadSlot i c span n (map_blocks span) new) (sym e) now;
}

pub empty_read : (i : Image) (c : Mapped) (span : ℕ) → HasReadSlot i c span 0 0 (empty_volume span)
empty_read i c span = none_read i c span 0 (empty_volume span) refl (λ v. is_member-replicate span v)

-- ---- why a map isn't read

-- the leaf of an entry isn't one
pub slot_fault : (i : Image) (map : Mapped) (span slot v : ℕ) (e : BlockFault) → v < length map.entries → IsBadNode i (get_or map.tree (v / 256) 0) 0 e → IsBadSlot i map span slot e
slot_fault i map span slot v (Damaged at want found) inside bad = inl (bad_leaf i map (v / 256) at want found (omega (arith, inside)) bad)
slot_fault i map span slot v DiskFault inside bad = tt
slot_fault i map span slot v Memory inside bad = tt

-- and so where the entries of a row were looked for
pub row_fault : (i : Image) (map : Mapped) (span slot first count : ℕ) (result : Result (Unit {0}) BlockFault) → IfErr result (IsRowFault i map.tree first count) → first + count ≤ length map.entries → IfErr result (IsBadSlot i map span slot)
row_fault i map span slot first count (Ok unit) bad inside = tt
row_fault i map span slot first count (Err e) bad inside = slot_fault i map span slot (first + bad.number) e (omega (arith, bad.within, inside)) bad.leaf

-- a slot of a volume that uses it
pub map_fault : (i : Image) (map : Mapped) (span slot : ℕ) (snaps : List Snap) (e : BlockFault) → is_slot_with snaps slot ≡ true → IsBadSlot i map span slot e → IsBadMap i map span snaps e
map_fault i map span slot snaps (Damaged at want found) used bad = ⊎_elim
    (λ (leaf : IsBadLeaf i map at want found). inl leaf)
    (λ (past : IsPastSpan i map span slot at want found). inr (slot, (used, past)))
    bad
map_fault i map span slot snaps DiskFault used bad = tt
map_fault i map span slot snaps Memory used bad = tt

-- the slot of a snapshot
pub snap_slot : (snaps : List Snap) (slot : ℕ) → has_slot snaps slot ≡ true → is_slot_with snaps slot ≡ true
snap_slot snaps slot has = by (slot == 0) (has_slot snaps slot) has
  where
    by : (a b : Bool) → b ≡ true → (a || b) ≡ true
    by true b e = refl
    by false b e = e
