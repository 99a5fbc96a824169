-- A written volume, as its image has it: it is loaded, and its slot is as the rules on blocks and maps ask.
use Rattle.std.proofs.Common.{◌≡◌, ◌≢◌, ℕ, ◌+◌, ◌*◌, ◌/◌, ◌%◌, ◌<◌, ◌≤◌, length, Bool, true, false, not, ◌&&◌, List, refl, sym, ap, subst, ◌∙◌, arith, ⊎_elim, inr, Ok}
use Rattle.std.specs.Prelude.{Option, Some, None, IfSome, get_or, nat_lt, ◌==◌, ◌||◌}
use Rattle.std.specs.List.{list_all, range_with_len}
use Rattle.std.specs.Option.{is_some, option_map}
use Rattle.std.proofs.lemmas.Bool.{and_from, both_ways, cases_eq, cases_lt}
use Rattle.std.proofs.lemmas.Bool.Decides.{nat_tests}
use Rattle.fv_disk.specs.Shown.{Image}
use Rattle.fv_bits.specs.Bits.{bit_of_area, bit_of_bytes}
use Rattle.fv_bits.specs.Members.{IsBlockOf, is_member}
use Rattle.fv_codec.specs.declared.label.Label.{Label}
use Rattle.fv_codec.specs.Blocks.{label_at}
use Rattle.fv_model.specs.Space.{map_blocks}
use Rattle.fv_laws.proofs.Tests.{to_all}
use Rattle.fv_image.specs.Layout.{block_bits}
use Rattle.fv_image.specs.NewerRoot.{Taken}
use Rattle.fv_image.specs.Containers.{shaped, container_entry, height_of, HasNonePast, IsNodePlace, IsWholeTree}
use Rattle.fv_image.specs.Views.{Placed, Head, Rooted, head_of, entry_count, map_vvbn, block_in, volume_bit, kind_at, map_kind}
use Rattle.fv_image.specs.Held.{AgreeOnHeld, layout_at, view_at, label_place, label_lying, label_in, entry_from, placed}
use Rattle.fv_image.specs.Seen.{roots_of}
use Rattle.fv_image.specs.Whole.{is_held_by}
use Rattle.fv_image.specs.Reclaimed.{IsAllocatable, IsEntryPlace, IsHeldPlace, IsNodeOf, entry_at}
use Rattle.fv_image.specs.SoundSlots.{AreDifferent, IsStoredSlot, has_maps_there}
use Rattle.fv_image.proofs.OwnBlocks.{own_tests}
use Rattle.fv_image.proofs.HeldPlaces.{held_is_block, same_truth}
use Rattle.fv_image.proofs.SoundFacts.{lying_label}
use Rattle.fv_image.proofs.WholeSlots.{all_between}
use Rattle.fv_image.proofs.StoredSlots.{stored_is_sound, stored_once}
use Rattle.fv_root.specs.declared.find.Found.{Found}
use Rattle.fv_root.specs.Finding.{root_found}
use Rattle.fv_container.specs.declared.entry.Entry.{Entry}
use Rattle.fv_container.specs.Mapped.{IsMapped, Mapped, entry_under}
use Rattle.fv_container.specs.Paged.{Paged}
use Rattle.fv_container.specs.Spelled.{IsOpened, names, pair_of}
use Rattle.fv_volmap.specs.Slots.{Slot, has, slot_at, stored_count}
use Rattle.fv_volume.specs.declared.state.VolumeState.{VolumeState}
use Rattle.fv_volume.specs.Files.{IsLabelled}
use Rattle.fv_volumes.specs.Housed.{as_written}
use Rattle.fv_volume.specs.Writing.{IsRightMemory}
use Rattle.fv_volume.specs.Labels.{label_said}
use Rattle.fv_delay.specs.Delay.{is_held, is_used, is_used_slot}
use Rattle.fv_delay.proofs.Held.{held_behind}
use Rattle.fv_volume.specs.Loading.{HaveBits, IsCleanOf, IsContainerOf, IsLoaded}
use Rattle.fv_volume.specs.States.{head_in}
use Rattle.fv_volumes.specs.UnderRoot.{StandMaps, StandsUnder}
use Rattle.fv_volume.specs.Stored.{IsStored, has_stored_map, is_map_written, is_of, is_rewritten, leads, map_entry, map_index, map_slot, place_at, place_in, slot_map}
use Rattle.fv_volumes.proofs.SlotBlocks.{HasKinds, entry_kinds, entry_leads, held_is_of, to_test}
use Rattle.fv_volume.proofs.Labels.{label_head}
use Rattle.fv_volume.proofs.KeptSlots.{found_snap}
use Rattle.fv_volumes.proofs.SlotReads.{has_or_empty}
use Rattle.fv_volumes.proofs.Spelling.{flushed_opened}
use Rattle.fv_volumes.proofs.SlotRoots.{root_slot, slot_stored}
use Rattle.fv_image.proofs.Behind.{index_there, slot_there, slot_within}
use Rattle.fv_volume.proofs.StayingMaps.{stays_unwritten, stored_stays, written_at, written_parts}
use Rattle.fv_image.specs.Volumes.{snap_at}

-- past the blocks of the map of a slot no bit of it is set
clear_past : (t : Taken) (i : Image) (s span k v : ℕ) → block_bits * map_blocks span ≤ v → volume_bit (view_at t i) s span k v ≡ false
unfolding volume_bit
clear_past t i s span k v past =
    let test : nat_lt v (block_bits * map_blocks span) ≡ false = grind (arith, nat_tests, past) in
    ap (λ (b : Bool). b && bit_of_area (λ j. block_in ((view_at t i).entry s (map_vvbn span k j))) v) test

-- no stored slot of a volume's maps has a number past the span
abbrev pub HaveNonePast : VolumeState → Type 0
HaveNonePast x = (k v : ℕ) → k < stored_count → x.span ≤ v → has v (slot_at x.map k) ≡ false

-- a slot that isn't used has no number
free_has : (b : Bool) (o : Slot) (v : ℕ) → (b || is_some o) ≡ false → has v o ≡ false
free_has b None v free = refl
free_has true (Some map) v free = absurd cc
free_has false (Some map) v free = absurd cc

-- where the map of a used slot isn't written, it stands on the disk
left_over : (a b c d : Bool) → a ≡ true → (b || c) ≡ true → (b || d) ≡ false → (a && (c && not (b || d))) ≡ true
left_over true false true false low used none = refl
left_over true false true true low used none = absurd cc
left_over true false false d low used none = absurd cc
left_over true true c d low used none = absurd cc
left_over false b c d low used none = absurd cc

-- a map that is written is that of a used slot
written_used : (s : ℕ) (x : VolumeState) → IsLabelled s x → (k : ℕ) → k < stored_count → is_rewritten x k ≡ true → is_used_slot x.map k ≡ true
unfolding snap_at
written_used s x state k low on = ⊎_elim
    (λ (first : k ≡ 0). ap (λ (b : Bool). b || is_some (slot_at x.map k)) (let test : (k == 0) ≡ true = grind (arith, nat_tests, first) in test))
    (λ (other : k ≢ 0).
    let later : (k == 0) ≡ false = grind (arith, nat_tests, other) in
    let waits : get_or x.fresh k false ≡ true = ap (λ (b : Bool). b || get_or x.fresh k false) (sym later) ∙ on in
    ap (λ (b : Bool). b || is_some (slot_at x.map k)) later
    ∙ state.slots.each k other (λ e. absurd (omega (arith, low, e))) ∙ found_snap (head_in x).snapshots k ∙ state.waits k waits)
    (cases_eq k 0)

-- so its blocks are held
pub written_held : (s : ℕ) (x : VolumeState) → IsLabelled s x → (v : ℕ) → is_map_written x v ≡ true → is_held x.map v ≡ true
written_held s x state v is =
    let parts = written_parts x v is in
    let low = slot_within x.span v parts.0 parts.1.0 in
    let test : nat_lt (map_slot x.span v) stored_count ≡ true = grind (arith, nat_tests, low) in
    held_behind x.map v (subst (λ (n : ℕ). n ≤ v) (sym state.map) parts.0) ∙ ap (λ (n : ℕ). is_used x.map (map_slot n v)) state.map
    ∙ and_from (nat_lt (map_slot x.span v) stored_count) _ test (written_used s x state (map_slot x.span v) low parts.1.1)

module _ (found : Found) (i : Image) (s : ℕ) (x : VolumeState) (old : Mapped) (label : ℕ) (paged : Paged) (is : IsStored x old label paged.map i) (memory : IsRightMemory paged) (at : label_place (root_found found) s ≡ label) (state : IsLabelled s x) (valid : IsMapped paged.map)
    (first : Image) (was : Found) (stand : StandMaps first was x old) (same : AgreeOnHeld (root_found was) first i) where
  abbrev u : Taken
  u = root_found found

  abbrev new : Mapped
  new = paged.map

  abbrev pub said : Label
  said = label_said x is.root (height_of (entry_count x.span))

  pub head_said : head_of said ≡ head_in x
  head_said = label_head x state.named state.snapshots is.root (height_of (entry_count x.span))

  label_some : label_place u s ≢ 0
  label_some none = let some = is.some in omega (arith, some, at, none)

  label_here : label_at (i (label_place u s)) ≡ Ok said
  label_here = ap (λ (p : ℕ). label_at (i p)) at ∙ is.said

  pub label_now : label_in (label_lying u i s) ≡ Some said
  label_now = lying_label i (label_place u s) label_some ∙ ap shaped label_here

  entry_is : (v : ℕ) → entry_at i said v ≡ pair_of (entry_under new v)
  unfolding label_said
  entry_is v = ap (λ (n : ℕ). container_entry i is.root (height_of (entry_count x.span)) n v) (sym is.long) ∙ is.tree.spelled.entries v

  opened_here : IsOpened i said.container said.height new
  unfolding label_said
  opened_here = flushed_opened i is.root (height_of (entry_count x.span)) new is.tree is.over valid.tree

  long_here : length new.entries ≡ entry_count said.span
  unfolding label_said
  long_here = is.long

  span_here : x.span ≡ said.span
  unfolding label_said
  span_here = refl

  -- ---- it is loaded

  -- block j of the map of a slot has its bits where it stands
  record StandsThere (k j : ℕ) : Type 0 where
    place : ℕ
    there : entry_under new (map_vvbn x.span k j) ≡ Some (map_entry place)
    bits : (b : ℕ) → b < block_bits → bit_of_bytes (i place) b ≡ is_member (slot_map x k) (block_bits * j + b)

  -- so it is where the map was written,
  new_there : (k j : ℕ) → is_rewritten x k ≡ true → k < stored_count → j < map_blocks x.span → StandsThere k j
  new_there k j on few within = record {
    place = place_at new (map_vvbn x.span k j);
    there = is.maps (map_vvbn x.span k j) (written_at x k j on few within);
    bits = block.bits;
  }
    where
      block : IsBlockOf (slot_map x k) j (i (place_at new (map_vvbn x.span k j)))
      block = subst (λ (n : ℕ). IsBlockOf (slot_map x k) n (i (place_at new (map_vvbn x.span k j)))) (index_there x.span k j within)
          (subst (λ (n : ℕ). IsBlockOf (slot_map x n) (map_index x.span (map_vvbn x.span k j)) (i (place_at new (map_vvbn x.span k j)))) (slot_there x.span k j within) (is.bits (map_vvbn x.span k j) (written_at x k j on few within)))

  -- and where it was left, since what the root on the disk holds is as it was
  old_there : (k j : ℕ) → has_stored_map x k ≡ true → j < map_blocks x.span → StandsThere k j
  old_there k j on within =
      let one = stand k j on within in
      record {
        place = one.place;
        there = is.kept (map_vvbn x.span k j) (stays_unwritten x (map_vvbn x.span k j) (stored_stays x k j on within)) ∙ one.there;
        bits = λ b few. ap (λ (block : List ℕ). bit_of_bytes block b) (same one.place one.held) ∙ one.bits b few;
      }

  used_there : (k j : ℕ) → k < stored_count → is_used_slot x.map k ≡ true → j < map_blocks x.span → StandsThere k j
  used_there k j few used within = so (is_rewritten x k) refl
    where
      low : nat_lt k stored_count ≡ true
      low = grind (arith, nat_tests, few)

      so : (t : Bool) → is_rewritten x k ≡ t → StandsThere k j
      so true e = new_there k j e few within
      so false e = old_there k j (left_over (nat_lt k stored_count) (k == 0) (is_some (slot_at x.map k)) (get_or x.fresh k false) low used e) within

  slot_entry : (k j : ℕ) → (there : StandsThere k j) → (view_at u i).entry s (map_vvbn x.span k j) ≡ Some (record { pvbn = there.place; kind = 8; block = i there.place })
  unfolding view_at entry_from
  slot_entry k j there =
      ap (λ (o : Option Label). entry_from o i (map_vvbn x.span k j)) label_now
      ∙ ap (placed i) (entry_is (map_vvbn x.span k j) ∙ ap pair_of there.there)

  map_bit : (k v : ℕ) → k < stored_count → is_used_slot x.map k ≡ true → v < block_bits * map_blocks x.span → volume_bit (view_at u i) s x.span k v ≡ is_member (slot_map x k) v
  unfolding volume_bit bit_of_area
  map_bit k v few used within =
      let block : v / 32768 < map_blocks x.span = omega (arith, within) in
      let bit : v % 32768 < block_bits = omega arith in
      let back : block_bits * (v / 32768) + v % 32768 ≡ v = omega arith in
      let test : nat_lt v (block_bits * map_blocks x.span) ≡ true = grind (arith, nat_tests, within) in
      let there : StandsThere k (v / 32768) = used_there k (v / 32768) few used block in
      ap (λ (t : Bool). t && bit_of_bytes (block_in ((view_at u i).entry s (map_vvbn x.span k (v / 32768)))) (v % 32768)) test
      ∙ ap (λ (o : Option Placed). bit_of_bytes (block_in o) (v % 32768)) (slot_entry k (v / 32768) there)
      ∙ there.bits (v % 32768) bit ∙ ap (is_member (slot_map x k)) back

  -- each used slot has the bits of its blocks
  stored_maps : HaveNonePast x → HaveBits (view_at u i) s x.span x.map
  stored_maps clear k v few = so (is_used_slot x.map k) refl
    where
      used : is_used_slot x.map k ≡ true → has v (slot_at x.map k) ≡ volume_bit (view_at u i) s x.span k v
      used on = ⊎_elim
          (λ (inside : v < block_bits * map_blocks x.span). has_or_empty x.map.span v (slot_at x.map k) ∙ sym (map_bit k v few on inside))
          (λ (past : block_bits * map_blocks x.span ≤ v). clear k v few (omega (arith, past)) ∙ sym (clear_past u i s x.span k v past))
          (cases_lt v (block_bits * map_blocks x.span))

      so : (t : Bool) → is_used_slot x.map k ≡ t → has v (slot_at x.map k) ≡ (is_used_slot x.map k && volume_bit (view_at u i) s x.span k v)
      so true e = used e ∙ sym (ap (λ (b : Bool). b && volume_bit (view_at u i) s x.span k v) e)
      so false e = free_has (k == 0) (slot_at x.map k) v e ∙ sym (ap (λ (b : Bool). b && volume_bit (view_at u i) s x.span k v) e)

  -- The volume is as the root with its new label has it.
  pub stored_loaded : HaveNonePast x → IsLoaded i found s (Some (as_written x label)) (Some paged)
  unfolding label_said
  stored_loaded clear = record {
    head = ap Some (sym head_said) ∙ ap (option_map head_of) (sym label_now);
    tree = subst (λ (o : Option Label). IsContainerOf i o (Some paged.map)) (sym label_now) (opened_here, (long_here, valid));
    clean = subst (λ (o : Option Label). IsCleanOf i o (Some paged)) (sym label_now) (λ whole. record { over = is.over; here = memory.here; known = memory.known });
    label = sym at;
    bits = stored_maps clear;
    changed = refl;
  }

  -- ---- its slot

  none_first : IsHeldPlace u i s said 0 → ⊥
  none_first held = ⊎_elim
      (λ (label_zero : 0 ≡ label_place u s). label_some (sym label_zero))
      (λ rest. ⊎_elim
      (λ (node : IsNodeOf i said 0). node.some refl)
      (λ (entry : IsEntryPlace i said 0). by entry (entry_under new entry.vvbn) refl (is.apart.some entry.vvbn))
      rest)
      held
    where
      by : (entry : IsEntryPlace i said 0) → (o : Option Entry) → entry_under new entry.vvbn ≡ o → IfSome o (λ e. 1 ≤ e.pvbn) → ⊥
      by entry None e some = entry.kind (ap (λ (p : ℕ × ℕ). p.1) (entry_is entry.vvbn ∙ ap pair_of e))
      by entry (Some y) e some =
          let zero_place : 0 ≡ y.pvbn = entry.place ∙ ap (λ (p : ℕ × ℕ). p.0) (entry_is entry.vvbn ∙ ap pair_of e) in
          omega (arith, some, zero_place)

  kinds_here : HasKinds new
  kinds_here = entry_kinds new valid

  to_of : (b : ℕ) → IsHeldPlace u i s said b → is_of x label new b ≡ true
  to_of b held = ap (λ (p : ℕ). is_of x p new b) (sym at) ∙ to_test u i s said x new label_now span_here opened_here long_here kinds_here b (λ none. none_first (subst (λ (n : ℕ). IsHeldPlace u i s said n) none held)) held

  -- the slot holds the blocks of the volume
  pub stored_holds : (b : ℕ) → is_held_by (layout_at u i) s b ≡ is_of x label new b
  stored_holds b = held_is_of u i s said x new label_now span_here opened_here long_here kinds_here
      (same_truth (is_held_by (layout_at u i) s 0) false (λ held. absurd (none_first (held_is_block u i s said label_now 0 held))) (λ e. absurd cc)) b
      ∙ ap (λ (p : ℕ). is_of x p new b) at

  pub stored_slot : ((b : ℕ) → is_of x label new b ≡ true → IsAllocatable u.blocks b) → IsStoredSlot u i s said
  unfolding label_said
  stored_slot lies = record {
    some = label_some;
    label = label_here;
    root = λ none. let least = is.root_least in omega (arith, least, none);
    height = refl;
    tree = subst (λ (n : ℕ). IsWholeTree i is.root (height_of (entry_count x.span)) n) is.long is.tree.whole;
    ends = subst (λ (n : ℕ). HasNonePast i is.root (height_of (entry_count x.span)) n) is.long is.tree.ends;
    maps = subst (λ (h : Head). has_maps_there (view_at u i) s h ≡ true) (sym head_said) maps_here;
    places = λ b held. lies b (to_of b held);
  }
    where
      maps_here : has_maps_there (view_at u i) s (head_in x) ≡ true
      maps_here = own_tests (λ b. kind_at ((view_at u i).entry s b.0) == b.1) (view_at u i).version (head_in x) ∙ to_all (λ (r : ℕ × Rooted). list_all (λ j. kind_at ((view_at u i).entry s (map_vvbn x.span r.0 j)) == map_kind) (range_with_len 0 (map_blocks x.span))) (roots_of (head_in x)) (λ r one.
          let few = slot_stored (head_in x) state.snapshots.slots r one in
          let used = root_slot (view_at u i) s (head_in x) x.map state.slots state.snapshots.slots r one in
          all_between (λ j. kind_at ((view_at u i).entry s (map_vvbn x.span r.0 j)) == map_kind) 0 (map_blocks x.span)
          (λ j low high. ap (λ (o : Option Placed). kind_at o == map_kind) (slot_entry r.0 j (used_there r.0 j few used (omega (arith, high))))))

  node_named : (b : ℕ) → IsNodeOf i said b → names new.tree b ≡ true
  unfolding label_said
  node_named b node = is.tree.spelled.nodes b (subst (λ (n : ℕ). IsNodePlace i is.root (height_of (entry_count x.span)) n b) (sym is.long) node)

  entry_led : (b : ℕ) → IsEntryPlace i said b → leads new (entry_count x.span) b ≡ true
  entry_led b entry = entry_leads u i s said x new label_now span_here opened_here long_here kinds_here b (λ none. none_first (inr (inr (subst (λ (n : ℕ). IsEntryPlace i said n) none entry)))) entry

  pub stored_apart : AreDifferent u i s said
  stored_apart = record {
    label_node = λ node. both_ways _ is.alone (ap (names new.tree) (sym at) ∙ node_named (label_place u s) node);
    label_entry = λ entry. both_ways _ is.apart.label (ap (leads new (entry_count x.span)) (sym at) ∙ entry_led (label_place u s) entry);
    node_entry = λ b node entry. both_ways _ (is.apart.nodes b (node_named b node)) (entry_led b entry);
    entries = λ v w lt within kind other same.
        let first = place_is v kind in
        let second = place_is w other in
        is.apart.entries v w lt (subst (λ (n : ℕ). w < entry_count n) (sym span_here) within) (λ none. place_some v kind none) (first ∙ same ∙ sym second);
  }
    where
      by_entry : (o : Option Entry) → (pair_of o).1 ≢ 0 → place_in o ≡ (pair_of o).0
      by_entry None kind = absurd (kind refl)
      by_entry (Some e) kind = refl

      place_is : (v : ℕ) → (entry_at i said v).1 ≢ 0 → place_at new v ≡ (entry_at i said v).0
      place_is v kind = by_entry (entry_under new v) (subst (λ (p : ℕ × ℕ). p.1 ≢ 0) (entry_is v) kind) ∙ ap (λ (p : ℕ × ℕ). p.0) (sym (entry_is v))

      place_some : (v : ℕ) → (entry_at i said v).1 ≢ 0 → place_at new v ≢ 0
      place_some v kind none = so (entry_under new v) refl (is.apart.some v)
        where
          so : (o : Option Entry) → entry_under new v ≡ o → IfSome o (λ e. 1 ≤ e.pvbn) → ⊥
          so None e some = kind (ap (λ (p : ℕ × ℕ). p.1) (entry_is v ∙ ap pair_of e))
          so (Some y) e some = let zero_place : y.pvbn ≡ 0 = sym (ap place_in e) ∙ none in omega (arith, some, zero_place)

  -- The slot stands under the root.
  pub stored_stands : HaveNonePast x → ((b : ℕ) → is_of x label new b ≡ true → IsAllocatable u.blocks b) → StandsUnder i found s (Some (as_written x label)) (Some paged)
  stored_stands clear lies =
      let slot = stored_slot lies in record {
        loaded = stored_loaded clear;
        sound = stored_is_sound u i s said slot;
        once = stored_once u i s said slot stored_apart;
        holds = stored_holds;
      }
