-- Volumes that were loaded from an image that stands for a machine can be lent to a consistency point.
use Rattle.std.proofs.Common.{◌≡◌, ◌≢◌, ℕ, ◌<◌, ◌≤◌, Bool, true, false, List, length, Option, Some, None, refl, sym, ap, subst, ◌∙◌, ⊎_elim, inr, arith}
use Rattle.std.specs.Prelude.{IfSome, nat_lt}
use Rattle.std.specs.Option.{option_map}
use Rattle.std.proofs.lemmas.Bool.{and_parts, cases_lt}
use Rattle.std.proofs.lemmas.Bool.Decides.{nat_tests}
use Rattle.std.proofs.lemmas.List.{get_or_past}
use Rattle.fv_disk.specs.Shown.{Image}
use Rattle.fv_bits.specs.Members.{is_member}
use Rattle.fv_codec.specs.declared.label.Label.{Label}
use Rattle.fv_model.specs.Machines.{Machine, first_block}
use Rattle.fv_image.specs.Maps.{area_bits, map_bit}
use Rattle.fv_image.specs.NewerRoot.{Taken}
use Rattle.fv_image.specs.Containers.{IsNodePlace, container_entry}
use Rattle.fv_image.specs.Views.{Head, entry_count, head_of}
use Rattle.fv_image.specs.Held.{Layout, label_place, layout_at, view_at}
use Rattle.fv_image.specs.Whole.{is_held_by}
use Rattle.fv_image.specs.Reclaimed.{IsEntryPlace, entry_at}
use Rattle.fv_image.specs.SoundSlots.{AreDifferent}
use Rattle.fv_image.specs.WholeMachine.{Tells}
use Rattle.fv_image.proofs.Heads.{head_told}
use Rattle.fv_image.proofs.Different.{different_when_once}
use Rattle.fv_image.proofs.HeldPlaces.{block_is_held}
use Rattle.fv_image.proofs.RootTables.{root_reach}
use Rattle.fv_image.proofs.Named.{slot_in}
use Rattle.fv_image.proofs.SoundSlots.{held_lies}
use Rattle.fv_image.proofs.Spaced.{AreSpaced, spaced_from}
use Rattle.fv_image.proofs.WellLabels.{numbers_at}
use Rattle.fv_root.specs.declared.find.Found.{Found}
use Rattle.fv_root.specs.Finding.{root_found}
use Rattle.fv_aggmap.specs.Loading.{IsLoaded as IsMapLoaded}
use Rattle.fv_aggmap.specs.Space.{Space}
use Rattle.fv_container.specs.declared.entry.Entry.{Entry}
use Rattle.fv_container.specs.Chains.{Slots, container_at, map_in, paged_at, slot_count}
use Rattle.fv_container.specs.Mapped.{IsMapped, Mapped, entry_under}
use Rattle.fv_container.specs.Paged.{Paged}
use Rattle.fv_container.specs.Spelled.{IsOpened, is_at, pair_of}
use Rattle.fv_volume.specs.declared.state.VolumeState.{VolumeState}
use Rattle.fv_volume.specs.Loading.{HaveBits, IsContainerOf, IsLoaded, LoadedTo, label_of}
use Rattle.fv_volume.specs.Files.{HasOwnSlots}
use Rattle.fv_volume.specs.States.{States, head_in, state_at}
use Rattle.fv_volumes.proofs.StandingMaps.{loaded_maps}
use Rattle.fv_volume.specs.Stored.{AreApartIn, AreSpacedIn, has_block, leads, place_at, place_in}
use Rattle.fv_volumes.specs.Housed.{HaveReaches, ReachesAll}
use Rattle.fv_cp.specs.Lent.{IsLentAt}
use Rattle.fv_volumes.proofs.CleanSlots.{loaded_clean}
use Rattle.fv_volumes.proofs.LentSlots.{lent_from_loaded}
use Rattle.fv_volume.proofs.EachRoot.{root_there}
use Rattle.fv_volume.proofs.KeptSlots.{root_bits, root_few}
use Rattle.fv_volumes.proofs.LoadedBlocks.{loaded_holds, span_of}
use Rattle.fv_container.proofs.Leading.{any_in_range}
use Rattle.fv_volumes.proofs.SlotBlocks.{HasKinds, at_is, entry_kinds}

-- ---- the blocks of one volume

module _ (t : Taken) (i : Image) (s : ℕ) (l : Label) (x : VolumeState) (map : Mapped) (span : x.span ≡ l.span) (spelled : IsOpened i l.container l.height map) (long : length map.entries ≡ entry_count l.span) (kinds : HasKinds map) where
  entry_is : (v : ℕ) → entry_at i l v ≡ pair_of (entry_under map v)
  entry_is v = ap (λ (n : ℕ). container_entry i l.container l.height n v) (sym long) ∙ spelled.entries v

  entry_kind : (v : ℕ) (e : Entry) → entry_under map v ≡ Some e → (entry_at i l v).1 ≢ 0
  entry_kind v e at none =
      let kind : 1 ≤ e.kind = subst (λ (o : Option Entry). IfSome o (λ e. 1 ≤ e.kind)) at (kinds v) in
      let is : e.kind ≡ 0 = ap (λ (p : ℕ × ℕ). p.1) (sym (entry_is v ∙ ap pair_of at)) ∙ none in
      omega (arith, kind, is)

  entry_place : (v : ℕ) (e : Entry) → entry_under map v ≡ Some e → v < entry_count l.span → IsEntryPlace i l e.pvbn
  entry_place v e at within = record {
    vvbn = v;
    within = within;
    kind = entry_kind v e at;
    place = ap (λ (p : ℕ × ℕ). p.0) (sym (entry_is v ∙ ap pair_of at));
  }

  leads_entry : (b : ℕ) → leads map (entry_count x.span) b ≡ true → IsEntryPlace i l b
  unfolding leads
  leads_entry b is =
      let one = any_in_range (λ v. is_at b (place_in (entry_under map v))) 0 (entry_count x.span) is in
      by one.0 (subst (λ (n : ℕ). one.0 < entry_count n) span (omega (arith, one.2))) (entry_under map one.0) refl one.3
    where
      by : (v : ℕ) → v < entry_count l.span → (o : Option Entry) → entry_under map v ≡ o → is_at b (place_in o) ≡ true → IsEntryPlace i l b
      by v within None at test = absurd ((at_is b 0 test).1 refl)
      by v within (Some e) at test = subst (IsEntryPlace i l) (sym (at_is b e.pvbn test).0) (entry_place v e at within)

  not_led : (b : ℕ) → (IsEntryPlace i l b → ⊥) → leads map (entry_count x.span) b ≡ false
  not_led b never = so (leads map (entry_count x.span) b) refl
    where
      so : (r : Bool) → leads map (entry_count x.span) b ≡ r → r ≡ false
      so true e = absurd (never (leads_entry b e))
      so false e = refl

  apart_in : AreDifferent t i s l → x.label ≡ label_place t s → ((b : ℕ) → IsEntryPlace i l b → 1 ≤ b) → AreApartIn x map
  apart_in different label low = record {
    some = λ v. some v (entry_under map v) refl;
    entries = λ v w lt within some same. entries v w lt (subst (λ (n : ℕ). w < entry_count n) span within) (entry_under map v) (entry_under map w) refl refl some same;
    nodes = λ b named. not_led b (different.node_entry b (subst (λ (n : ℕ). IsNodePlace i l.container l.height n b) long (spelled.places b named)));
    label = subst (λ (p : ℕ). leads map (entry_count x.span) p ≡ false) (sym label) (not_led (label_place t s) different.label_entry);
  }
    where
      some : (v : ℕ) (o : Option Entry) → entry_under map v ≡ o → IfSome o (λ e. 1 ≤ e.pvbn)
      some v None at = tt
      some v (Some e) at = ⊎_elim
          (λ (inside : v < length map.entries). low e.pvbn (entry_place v e at (omega (arith, inside, long))))
          (λ (past : length map.entries ≤ v). absurd (nothing e (sym (get_or_past map.entries v None past) ∙ at)))
          (cases_lt v (length map.entries))
        where
          nothing : (e : Entry) → ◌≡◌ {A = Option Entry} None (Some e) → ⊥
          nothing e is = cc

      entries : (v w : ℕ) → v < w → w < entry_count l.span → (o p : Option Entry) → entry_under map v ≡ o → entry_under map w ≡ p → place_at map v ≢ 0 → place_at map v ≡ place_at map w → ⊥
      entries v w lt within None p first second some same = some (ap place_in first)
      entries v w lt within (Some e) None first second some same = some (same ∙ ap place_in second)
      entries v w lt within (Some e) (Some f) first second some same =
          different.entries v w lt within (entry_kind v e first) (entry_kind w f second)
          (ap (λ (p : ℕ × ℕ). p.0) (entry_is v ∙ ap pair_of first) ∙ sym (ap place_in first) ∙ same ∙ ap place_in second ∙ ap (λ (p : ℕ × ℕ). p.0) (sym (entry_is w ∙ ap pair_of second)))

-- ---- all volumes

module _ (i : Image) (found : Found) (m : Machine) (tells : Tells (layout_at (root_found found) i) m) (states : States) (containers : Slots) (loaded : LoadedTo i found slot_count states containers) where
  abbrev t : Taken
  t = root_found found

  abbrev y : Layout
  y = layout_at t i

  held_area : (b : ℕ) → first_block y.view.blocks ≤ b → b < y.view.blocks → b < area_bits y.view.blocks
  held_area b low high = omega (arith, high)

  spaced_layout : AreSpaced y
  spaced_layout = spaced_from y tells.sound.blocks.once tells.sound.blocks.map (λ b held. let lies = held_lies y b tells.sound.blocks held in held_area b lies.0 lies.1)

  -- a block that a slot holds is one that can be allocated
  slot_lies : (s b : ℕ) → s < 64 → is_held_by y s b ≡ true → (first_block y.view.blocks ≤ b) × (b < y.view.blocks)
  slot_lies s b inside there = held_lies y b tells.sound.blocks (slot_in y s b inside there)

  least : (s b : ℕ) → s < 64 → is_held_by y s b ≡ true → 1 ≤ b
  least s b inside there = let lies = slot_lies s b inside there in omega (arith, lies.0)

  none_at_start : (s : ℕ) → s < 64 → is_held_by y s 0 ≡ false
  none_at_start s inside = so (is_held_by y s 0) refl
    where
      so : (r : Bool) → is_held_by y s 0 ≡ r → r ≡ false
      so true e = let low = least s 0 inside e in absurd (omega (arith, low))
      so false e = refl

  holds : (s b : ℕ) → s < 64 → is_held_by y s b ≡ has_block (state_at states s) (container_at containers s) b
  holds s b inside = loaded_holds found i s (none_at_start s inside) (state_at states s) (paged_at containers s) (loaded.each s inside) b

  pub spaced_opened : (space : Space) → IsMapLoaded i found space → AreSpacedIn found.blocks space.next (state_at states) (container_at containers)
  unfolding layout_at map_bit view_at
  spaced_opened space map = record {
    apart = λ s k b small large other here there. spaced_layout.apart s k b small large other (holds s b small ∙ here) (holds k b large ∙ there);
    held = λ s b small there. let here = holds s b small ∙ there in (bit b ∙ spaced_layout.held s b small here, slot_lies s b small here);
    set = λ b set. let s = spaced_layout.set b (inside b (sym (bit b) ∙ set)) (sym (bit b) ∙ set) in (s.0, s.1, sym (holds s.0 b s.1) ∙ s.2);
  }
    where
      bit : (b : ℕ) → is_member space.next b ≡ y.bit b
      bit b = ap (λ (next : List Bool). is_member next b) map.same ∙ map.bits b

      inside : (b : ℕ) → y.bit b ≡ true → b < area_bits y.view.blocks
      inside b set = let low = (and_parts (nat_lt b (area_bits found.blocks)) _ set).0 in grind (arith, nat_tests, low)

  apart_opened : (s : ℕ) → s < 64 → (o : Option VolumeState) (c : Option Paged) → IsLoaded i found s o c → IfSome o (λ x. IfSome (map_in c) (AreApartIn x))
  apart_opened s inside None c is = tt
  apart_opened s inside (Some x) None is = tt
  apart_opened s inside (Some x) (Some paged) is = so (label_of found i s) refl
    where
      no_tree : (l : Option Label) → l ≡ None → IsContainerOf i l (Some paged.map) → ⊥
      no_tree None e tree = tree
      no_tree (Some l) e tree = cc

      so : (l : Option Label) → label_of found i s ≡ l → AreApartIn x paged.map
      so None there = absurd (no_tree (label_of found i s) there is.tree)
      so (Some l) there =
          let of : IsOpened i l.container l.height paged.map × ((length paged.map.entries ≡ entry_count l.span) × IsMapped paged.map) = subst (λ (o : Option Label). IsContainerOf i o (Some paged.map)) there is.tree in
          let head : head_in x ≡ head_of l = same (head_in x) (head_of l) (is.head ∙ ap (option_map head_of) there) in
          apart_in t i s l x paged.map (span_of l x head) of.0 of.1.0 (entry_kinds paged.map of.1.1) (different_when_once t i s l there (λ b. spaced_layout.each s b inside)) is.label
          (λ b entry. least s b inside (block_is_held t i s l there b (inr (inr entry))))
        where
          same : (a b : Head) → ◌≡◌ {A = Option Head} (Some a) (Some b) → a ≡ b
          same a b e = cc

  pub slots_opened : ((b : ℕ) → length (i b) ≡ 4096) → length containers.containers ≡ slot_count → ((s : ℕ) → IfSome (state_at states s) HasOwnSlots) → (s : ℕ) → s < 64 → IsLentAt i found s (state_at states s) (paged_at containers s)
  slots_opened whole few kept s inside = lent_from_loaded i found s (state_at states s) (paged_at containers s) (loaded.each s inside) (apart_opened s inside (state_at states s) (paged_at containers s) (loaded.each s inside))
      (loaded_maps found i s inside tells.sound (state_at states s) (paged_at containers s) (loaded.each s inside) (kept s)) (loaded_clean found i states containers whole tells.sound few loaded s)

  pub reach_opened : ((s : ℕ) → IfSome (state_at states s) HasOwnSlots) → ((b : ℕ) → length (i b) ≡ 4096) → HaveReaches (view_at t i) states
  unfolding layout_at view_at
  reach_opened kept whole s inside = so (state_at states s) refl (loaded.each s inside).bits (kept s)
    where
      so : (o : Option VolumeState) → state_at states s ≡ o → IfSome o (λ x. HaveBits (view_at t i) s x.span x.map) → IfSome o HasOwnSlots → IfSome o (ReachesAll (view_at t i) s)
      so None there bits slots = tt
      so (Some x) there bits slots = λ k r at v.
          let here : (view_at t i).head s ≡ Some (head_in x) = head_told t i s ∙ sym (loaded.each s inside).head ∙ ap (option_map head_in) there in
          let one = root_there (head_in x) k r at in
          root_bits (view_at t i) s (head_in x) x.map slots.0 slots.1 bits k r one v
          ∙ root_reach (view_at t i) s (head_in x) inside here tells.sound.tables k r one (root_few (head_in x) (numbers_at t i whole s (head_in x) here) k r one) tells.sound.maps v
