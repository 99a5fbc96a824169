-- The maps of a volume that a consistency point leaves stand in the image that the volume was loaded from.
use Rattle.std.proofs.Common.{◌≡◌, ◌≢◌, ℕ, ◌+◌, ◌*◌, ◌/◌, ◌%◌, ◌<◌, ◌≤◌, Bool, true, false, not, length, refl, sym, ap, subst, ◌∙◌, inr, arith}
use Rattle.std.specs.Prelude.{◌&&◌, ◌||◌, ◌==◌, List, Option, Some, None, IfSome, get_or, is_some, nat_lt}
use Rattle.std.specs.List.{list_all, range_with_len}
use Rattle.std.specs.Option.{option_map, option_map_or}
use Rattle.std.specs.FinMap as fin
use Rattle.std.specs.Ordering.{nat_cmp}
use Rattle.std.proofs.lemmas.Bool.{and_parts, true≢false}
use Rattle.std.proofs.lemmas.Bool.Decides.{nat_tests}
use Rattle.std.proofs.lemmas.Option.{same_Some}
use Rattle.fv_disk.specs.Shown.{Image}
use Rattle.fv_bits.specs.Bits.{bit_of_area, bit_of_bytes, block_bits}
use Rattle.fv_bits.specs.Members.{is_member}
use Rattle.fv_codec.specs.declared.label.Label.{Label}
use Rattle.fv_model.specs.Space.{map_blocks}
use Rattle.fv_laws.proofs.Lists.{In, in_range}
use Rattle.fv_laws.proofs.Tests.{from_all}
use Rattle.fv_image.specs.NewerRoot.{Taken}
use Rattle.fv_image.specs.Containers.{container_entry}
use Rattle.fv_image.specs.Views.{Head, Rooted, View, block_in, entry_count, head_of, map_vvbn, volume_bit, kind_at, map_kind}
use Rattle.fv_image.specs.Held.{entry_from, is_held, layout_at, view_at}
use Rattle.fv_image.specs.Mapped.{AreInSlots}
use Rattle.fv_image.specs.ReachRules.{has_map_kinds}
use Rattle.fv_image.specs.Reclaimed.{entry_at}
use Rattle.fv_image.specs.Seen.{own_blocks, roots_of}
use Rattle.fv_image.specs.Soundness.{IsSound}
use Rattle.fv_image.proofs.Heads.{head_told}
use Rattle.fv_image.proofs.OwnBlocks.{own_tests}
use Rattle.fv_image.proofs.HeldPlaces.{block_is_held}
use Rattle.fv_image.proofs.Named.{slot_in}
use Rattle.fv_image.proofs.SoundFacts.{of_slot}
use Rattle.fv_image.proofs.SoundSlots.{held_lies}
use Rattle.fv_container.specs.declared.entry.Entry.{Entry}
use Rattle.fv_container.specs.Mapped.{IsMapped, Mapped, entry_under}
use Rattle.fv_container.specs.Paged.{Paged}
use Rattle.fv_container.specs.Spelled.{IsOpened, pair_of}
use Rattle.fv_root.specs.declared.find.Found.{Found}
use Rattle.fv_root.specs.Finding.{root_found}
use Rattle.fv_volmap.specs.Slots.{map_or_empty, slot_at, stored_count}
use Rattle.fv_volume.specs.declared.state.VolumeState.{VolumeState}
use Rattle.fv_volume.specs.Files.{HasOwnSlots, HasSlotsOf}
use Rattle.fv_pool.specs.Keeping.{kept_or}
use Rattle.fv_delay.specs.Delay.{is_used_slot}
use Rattle.fv_volume.specs.Loading.{HaveBits, IsContainerOf, IsLoaded, label_of}
use Rattle.fv_volume.specs.States.{head_in, placed_in}
use Rattle.fv_volume.specs.Stored.{has_stored_map, slot_map}
use Rattle.fv_volumes.specs.UnderRoot.{StandMaps, StandsMap}
use Rattle.fv_volume.proofs.KeptSlots.{root_used, used_is}
use Rattle.fv_volumes.proofs.LoadedBlocks.{span_of}
use Rattle.fv_volumes.proofs.SlotReads.{has_or_empty}
use Rattle.fv_image.proofs.Behind.{map_vvbn_within}
use Rattle.fv_volume.proofs.StayingMaps.{active_moves}
use Rattle.fv_volumes.proofs.Viewed.{entry_of}

-- an entry with another kind
abbrev with_kind : Entry → ℕ → Option Entry
with_kind e n = Some (record { pvbn = e.pvbn; kind = n })

module _ (found : Found) (i : Image) (s : ℕ) (inside : s < 64) (sound : IsSound (layout_at (root_found found) i)) (x : VolumeState) (map : Mapped) (l : Label) (lies : label_of found i s ≡ Some l) (same : head_in x ≡ head_of l)
    (opened : IsOpened i l.container l.height map) (size : length map.entries ≡ entry_count l.span) (valid : IsMapped map) (bits : HaveBits (view_at (root_found found) i) s x.span x.map) (slots : HasSlotsOf (head_in x) x.map) (order : AreInSlots (head_in x))
    (k j : ℕ) (on : has_stored_map x k ≡ true) (within : j < map_blocks x.span) where
  abbrev t : Taken
  t = root_found found

  abbrev w : View
  w = view_at t i

  abbrev v : ℕ
  v = map_vvbn x.span k j

  low : k < stored_count
  low = let test = (and_parts (nat_lt k stored_count) _ on).0 in grind (arith, nat_tests, test)

  used : is_used_slot x.map k ≡ true
  used = so (k == 0) ((and_parts (is_some (slot_at x.map k)) _ (and_parts (nat_lt k stored_count) _ on).1).0)
    where
      so : (b : Bool) → is_some (slot_at x.map k) ≡ true → (b || is_some (slot_at x.map k)) ≡ true
      so true is = refl
      so false is = is

  there : w.head s ≡ Some (head_in x)
  there = head_told (root_found found) i s ∙ ap (option_map head_of) lies ∙ ap Some (sym same)

  root : (r : Rooted) × In (k, r) (roots_of (head_in x))
  root = root_used (head_in x) k (sym (used_is w s (head_in x) x.map slots order k low) ∙ used)

  -- the blocks that a volume has beside what its roots reach have their kinds
  abbrev kinds_of : ℕ → Head → Bool
  kinds_of s h = list_all (λ (b : ℕ × ℕ). kind_at (w.entry s b.0) == b.1) (own_blocks w.version h)

  kind : kind_at (w.entry s v) ≡ map_kind
  unfolding has_map_kinds layout_at
  kind =
      let all : kinds_of s (head_in x) ≡ true = ap (λ (o : Option Head). option_map_or (kinds_of s) o true) (sym there) ∙ of_slot (λ s. option_map_or (kinds_of s) (w.head s) true) s sound.maps.kinds inside in
      let of_root = from_all (λ (r : ℕ × Rooted). list_all (λ n. kind_at (w.entry s (map_vvbn x.span r.0 n)) == map_kind) (range_with_len 0 (map_blocks x.span))) (roots_of (head_in x))
      (sym (own_tests (λ b. kind_at (w.entry s b.0) == b.1) w.version (head_in x)) ∙ all) (k, root.0) root.1 in
      let test = from_all (λ n. kind_at (w.entry s (map_vvbn x.span k n)) == map_kind) (range_with_len 0 (map_blocks x.span)) of_root j (in_range 0 (map_blocks x.span) j (omega arith) (omega (arith, within))) in
      grind (arith, nat_tests, test)

  entry : w.entry s v ≡ placed_in fin.empty i (entry_under map v)
  unfolding view_at
  entry = ap (λ (o : Option Label). entry_from o i v) lies ∙ sym (entry_of fin.empty i (λ b. fin.get-empty nat_cmp b) (Some l) (Some map) v (opened, (size, valid)))

  below : v < entry_count l.span
  below = subst (λ (n : ℕ). v < entry_count n) (span_of l x same) (map_vvbn_within x.span k j low within)

  pair_is : (o : Option Entry) → entry_under map v ≡ o → entry_at i l v ≡ pair_of o
  pair_is o e = ap (λ (n : ℕ). container_entry i l.container l.height n v) (sym size) ∙ opened.entries v ∙ ap pair_of e

  -- bit b of block j of the map is that of the block there
  bit_is : (e : Entry) → entry_under map v ≡ Some e → (b : ℕ) → b < block_bits → bit_of_bytes (i e.pvbn) b ≡ is_member (slot_map x k) (block_bits * j + b)
  unfolding volume_bit bit_of_area
  bit_is e at b few =
      let n : ℕ = 32768 * j + b in
      let block : n / 32768 ≡ j = omega (arith, few) in
      let rest : n % 32768 ≡ b = omega (arith, few) in
      let inner : nat_lt n (block_bits * map_blocks x.span) ≡ true = (let lt : n < 32768 * map_blocks x.span = omega (arith, within, few) in grind (arith, nat_tests, lt)) in
      let here : block_in (w.entry s v) ≡ i e.pvbn = ap block_in (entry ∙ ap (placed_in fin.empty i) at) ∙ ap (λ (o : Option (List ℕ)). kept_or o (i e.pvbn)) (fin.get-empty nat_cmp e.pvbn) in
      let bit : volume_bit w s x.span k n ≡ bit_of_bytes (i e.pvbn) b =
      (λ a. inner a && bit_of_bytes (block_in (w.entry s (map_vvbn x.span k (block a)))) (rest a)) ∙ ap (λ (o : List ℕ). bit_of_bytes o b) here in
      sym bit ∙ ap (λ (t : Bool). t && volume_bit w s x.span k n) (sym used) ∙ sym (bits k n low) ∙ has_or_empty x.map.span n (slot_at x.map k)

  of_entry : (o : Option Entry) → entry_under map v ≡ o → kind_at (placed_in fin.empty i o) ≡ map_kind → StandsMap i found x map k j
  of_entry None at is = absurd (omega (arith, is))
  of_entry (Some e) at is =
      let pair : entry_at i l v ≡ (e.pvbn, e.kind) = pair_is (Some e) at in
      let holds : is_held (layout_at t i) e.pvbn ≡ true = slot_in (layout_at t i) s e.pvbn inside (block_is_held t i s l lies e.pvbn (inr (inr (record {
        vvbn = v;
        within = below;
        kind = (let same_kind : (entry_at i l v).1 ≡ e.kind = ap (λ (p : ℕ × ℕ). p.1) pair in λ none. omega (arith, same_kind, none, is));
        place = sym (ap (λ (p : ℕ × ℕ). p.0) pair);
      })))) in
      let lies_so = held_lies (layout_at t i) e.pvbn sound.blocks holds in
      record {
        place = e.pvbn;
        some = (let first = lies_so.0 in omega (arith, first));
        there = at ∙ ap (with_kind e) is;
        held = holds;
        bits = bit_is e at;
      }

  pub map_stands : StandsMap i found x map k j
  map_stands = of_entry (entry_under map v) refl (ap kind_at (sym entry) ∙ kind)

-- Over a sound image it is so with each volume that is loaded.
pub loaded_maps : (found : Found) (i : Image) (s : ℕ) → s < 64 → IsSound (layout_at (root_found found) i) → (o : Option VolumeState) (c : Option Paged) → IsLoaded i found s o c → IfSome o HasOwnSlots → IfSome o (λ x. IfSome c (λ paged. StandMaps i found x paged.map))
loaded_maps found i s inside sound None c is slots = tt
loaded_maps found i s inside sound (Some x) None is slots = tt
loaded_maps found i s inside sound (Some x) (Some paged) is slots = by (label_of found i s) refl
  where
    by : (o : Option Label) → label_of found i s ≡ o → StandMaps i found x paged.map
    by None lies = absurd (subst (λ (o : Option Label). IsContainerOf i o (Some paged.map)) lies is.tree)
    by (Some l) lies =
        let of = subst (λ (o : Option Label). IsContainerOf i o (Some paged.map)) lies is.tree in
        λ k j on within. map_stands found i s inside sound x paged.map l lies (same_Some (head_in x) (head_of l) (is.head ∙ ap (option_map head_of) lies)) of.0 of.1.0 of.1.1 is.bits slots.0 slots.1 k j on within

-- A volume with the same snapshots' maps, none of which waits that didn't, has them where they stood, if the entries behind the span stay.
pub maps_still : (i : Image) (found : Found) (x y : VolumeState) (old new : Mapped) → y.span ≡ x.span → y.map.span ≡ x.map.span → ((k : ℕ) → k ≢ 0 → slot_at y.map k ≡ slot_at x.map k) → y.fresh ≡ x.fresh
    → ((v : ℕ) → x.span ≤ v → entry_under new v ≡ entry_under old v) → StandMaps i found x old → StandMaps i found y new
maps_still i found x y old new span size slots fresh entries stand k j on within =
    let later : k ≢ 0 = λ first. true≢false (sym on ∙ ap (has_stored_map y) first ∙ active_moves y) in
    let was : has_stored_map x k ≡ true = sym (λ a. nat_lt k stored_count && (is_some (slots k later a) && not ((k == 0) || get_or (fresh a) k false))) ∙ on in
    let one = stand k j was (subst (λ (n : ℕ). j < map_blocks n) span within) in
    record {
      place = one.place;
      some = one.some;
      there = ap (λ (n : ℕ). entry_under new (map_vvbn n k j)) span ∙ entries (map_vvbn x.span k j) (omega arith) ∙ one.there;
      held = one.held;
      bits = λ b few. one.bits b few ∙ sym (λ a. is_member (map_or_empty (size a) (slots k later a)) (block_bits * j + b));
    }
