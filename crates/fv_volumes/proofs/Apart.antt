-- Entries that were loaded from a sound image lie apart: an entry's block is held, no block is held twice, and what is held has its bit.
-- Soundness asks that of all entries of all containers alike, so files, snapshots, bases and delayed entries make no difference.
use Rattle.std.proofs.Common.{◌≡◌, ◌≢◌, ℕ, zero, suc, ◌+◌, ◌<◌, ◌≤◌, Bool, true, false, cond, List, ◌++◌, length, Option, Some, None, refl, sym, ap, subst, ◌∙◌, arith, ⊎_elim, inr}
use Rattle.std.specs.Prelude.{IsTrue, IfSome, Ok, nat_le, nat_lt, ◌==◌, ◌&&◌, flat_map, sum_by, count_by}
use Rattle.std.specs.List.{list_all, range_with_len}
use Rattle.std.proofs.lemmas.Bool.{and_parts, cases_eq, cases_lt}
use Rattle.std.proofs.lemmas.Bool.Decides.{nat_tests}
use Rattle.std.proofs.lemmas.List.{get_or_past}
use Rattle.std.proofs.lemmas.List.Elements.{All-get_or}
use Rattle.std.proofs.lemmas.List.Sums.{sum_by-append}
use Rattle.fv_disk.specs.Shown.{Image, Shown}
use Rattle.fv_bits.specs.Members.{is_member}
use Rattle.fv_codec.specs.declared.label.Label.{Label}
use Rattle.fv_codec.specs.Blocks.{last_place}
use Rattle.fv_model.specs.Machines.{Machine, first_block}
use Rattle.fv_image.specs.NewerRoot.{Taken, root_of}
use Rattle.fv_image.specs.Maps.{map_bit}
use Rattle.fv_image.specs.Containers.{container_entry}
use Rattle.fv_image.specs.Views.{entry_count, vvbns}
use Rattle.fv_image.specs.Held.{Layout, at_positions, entry_from, held, label_in, label_lying, layout_at, place_lying, place_of, placed}
use Rattle.fv_image.specs.BlockRules.{are_in_range, is_place, is_held_once, has_true_map}
use Rattle.fv_image.specs.Soundness.{IsSound}
use Rattle.fv_image.specs.WholeMachine.{machine_of}
use Rattle.fv_image.specs.Whole.{is_held_by, times_held}
use Rattle.fv_image.specs.Reclaimed.{entry_at}
use Rattle.fv_image.proofs.Named.{entry_in, is_in}
use Rattle.fv_image.proofs.InRange.{of_listed}
use Rattle.fv_image.proofs.SameLayout.{slot_inside}
use Rattle.fv_image.proofs.HeldPlaces.{block_is_held, entry_blocks, held_list, node_blocks}
use Rattle.fv_image.proofs.Replaced.{counted_parts, listed_tells, some_times}
use Rattle.fv_image.proofs.Spaced.{AreSpaced, spaced_from, two_in_sum}
use Rattle.fv_image.proofs.SoundTests.{machine_under, tells_from}
use Rattle.fv_aggmap.specs.Space.{Space}
use Rattle.fv_aggmap.specs.Loading.{IsLoaded as IsMapLoaded}
use Rattle.fv_root.specs.declared.find.Found.{Found}
use Rattle.fv_root.specs.Finding.{root_found}
use Rattle.fv_container.specs.declared.entry.Entry.{Entry}
use Rattle.fv_container.specs.Chains.{Slots, along, chain_entry, container_at, map_in, or_else, own_entry, parent_at, slot_count}
use Rattle.fv_container.specs.Mapped.{IsHeld, Mapped, entry_under}
use Rattle.fv_container.specs.Paged.{Paged}
use Rattle.fv_container.specs.Spelled.{pair_of}
use Rattle.fv_volmap.specs.Slots.{Volume, taken_in}
use Rattle.fv_pool.specs.declared.pool.Pool.{Pool}
use Rattle.fv_volume.specs.Loading.{IsContainerOf, KeptTo, LoadedTo}
use Rattle.fv_pool.specs.Opening.{OpensPool}
use Rattle.fv_volume.specs.Opening.{OpensVolumes}
use Rattle.fv_volume.specs.States.{States}
use Rattle.fv_pool.specs.BlocksOver.{AreApart, held_entry}

-- ---- what is asked of an image

-- each held block lies where a block of a volume can, none is held twice, and the aggregate map has the bits of those that are
pub record HoldsOnce (y : Layout) : Type 0 where
  pub places : list_all (is_place y) (held y) ≡ true
  pub once : is_held_once y ≡ true
  pub map : has_true_map y ≡ true

-- the containers are those that the labels of an image name, for each slot
pub record AreContainers (t : Taken) (i : Image) (containers : Slots) : Type 0 where
  pub few : length containers.containers ≡ slot_count
  pub each : (s : ℕ) → s < slot_count → IsContainerOf i (label_in (label_lying t i s)) (container_at containers s)

-- a sound layout does
pub sound_holds : (y : Layout) → IsSound y → HoldsOnce y
unfolding are_in_range
sound_holds y is = record {
  places = (and_parts (list_all (is_place y) (held y)) _ is.blocks.ranges).0;
  once = is.blocks.once;
  map = is.blocks.map;
}

spaced : (y : Layout) → HoldsOnce y → AreSpaced y
spaced y is = spaced_from y is.once is.map (λ b there.
    let place : is_place y b ≡ true = of_listed (is_place y) (held y) b is.places there in
    let parts = and_parts (nat_le (first_block y.view.blocks) b) (nat_lt b y.view.blocks) place in
    let low : b < y.view.blocks = below b y.view.blocks parts.1 in
    omega (arith, low))
  where
    below : (b n : ℕ) → nat_lt b n ≡ true → b < n
    below b n test = grind (arith, nat_tests, test)

-- ---- two entries of one container

module _ (t : Taken) (i : Image) (s : ℕ) (l : Label) (there : label_in (label_lying t i s) ≡ Some l) where
  entry_listed : (v : ℕ) (e : Entry) → entry_at i l v ≡ (e.pvbn, e.kind) → 1 ≤ e.kind → is_in e.pvbn (entry_blocks i l v) ≡ true
  unfolding entry_from
  entry_listed v e is some = subst (λ (p : ℕ × ℕ). is_in e.pvbn (place_of (placed i p)) ≡ true) (sym is) (entry_in i (e.pvbn, e.kind) (other e.kind some))
    where
      other : (n : ℕ) → 1 ≤ n → (n == 0) ≡ false
      other n least = grind (arith, nat_tests, least)

  -- a block that two entries hold is held twice
  held_twice : (b v w : ℕ) → v < w → w < entry_count l.span → is_in b (entry_blocks i l v) ≡ true → is_in b (entry_blocks i l w) ≡ true → 2 ≤ times_held (layout_at t i) s b
  unfolding vvbns
  held_twice b v w order within first second =
      let p : ℕ → Bool = λ x. x == b in
      let label : List ℕ = place_lying (label_lying t i s) in
      let nodes : List ℕ = at_positions l (node_blocks i l) in
      let entries : List ℕ = flat_map (entry_blocks i l) (vvbns l.span) in
      let whole : times_held (layout_at t i) s b ≡ count_by p (label ++ (nodes ++ entries)) = ap (count_by p) (held_list t i s l there) in
      let outer : count_by p (label ++ (nodes ++ entries)) ≡ count_by p label + count_by p (nodes ++ entries) = sum_by-append (λ x. cond {A = ℕ} (p x) 1 0) label (nodes ++ entries) in
      let inner : count_by p (nodes ++ entries) ≡ count_by p nodes + count_by p entries = sum_by-append (λ x. cond {A = ℕ} (p x) 1 0) nodes entries in
      let each : count_by p entries ≡ sum_by (λ k. count_by p (entry_blocks i l k)) (range_with_len 0 (entry_count l.span)) = counted_parts p (entry_blocks i l) (vvbns l.span) in
      let two = two_in_sum (λ k. count_by p (entry_blocks i l k)) v w 0 (entry_count l.span) (omega arith) order (omega (arith, within)) in
      omega (arith, whole, outer, inner, each, two, some v first, some w second)
    where
      some : (k : ℕ) → is_in b (entry_blocks i l k) ≡ true → 1 ≤ count_by (λ x. x == b) (entry_blocks i l k)
      some k is = some_times (is_in b (entry_blocks i l k)) (count_by (λ x. x == b) (entry_blocks i l k)) (listed_tells (λ x. x == b) (entry_blocks i l k)) is

-- ---- an entry of a slot's container

-- the label of a slot names a container with this entry
record HasEntry (t : Taken) (i : Image) (s v : ℕ) (e : Entry) : Type 0 where
  label : Label
  lies : label_in (label_lying t i s) ≡ Some label
  within : v < entry_count label.span
  is : entry_at i label v ≡ (e.pvbn, e.kind)
  kind : 1 ≤ e.kind

nothing : (e : Entry) → ◌≡◌ {A = Option Entry} None (Some e) → ⊥
nothing e is = cc

entry_inside : (map : Mapped) (v : ℕ) (e : Entry) → entry_under map v ≡ Some e → v < length map.entries
entry_inside map v e is = ⊎_elim
    (λ (inside : v < length map.entries). inside)
    (λ (past : length map.entries ≤ v). absurd (nothing e (sym (get_or_past map.entries v None past) ∙ is)))
    (cases_lt v (length map.entries))

has_entry : (t : Taken) (i : Image) (s v : ℕ) (e : Entry) (l : Option Label) (c : Option Mapped) → label_in (label_lying t i s) ≡ l → IsContainerOf i l c → own_entry c v ≡ Some e → HasEntry t i s v e
has_entry t i s v e None None lies is own = absurd (nothing e own)
has_entry t i s v e None (Some map) lies is own = absurd is
has_entry t i s v e (Some l) None lies is own = absurd is
has_entry t i s v e (Some l) (Some map) lies is own =
    let inside : v < length map.entries = entry_inside map v e own in
    let long : length map.entries ≡ entry_count l.span = is.1.0 in
    let valid : IsHeld e = subst (λ (o : Option Entry). IfSome o IsHeld) own (All-get_or (λ (o : Option Entry). IfSome o IsHeld) map.entries v None inside is.1.1.entries) in
    record {
      label = l;
      lies = lies;
      within = omega (arith, inside, long);
      is = sym (ap (λ n. container_entry i l.container l.height n v) long) ∙ (is.0.entries v ∙ ap pair_of own);
      kind = valid.kind_least;
    }

module _ (t : Taken) (i : Image) (is : HoldsOnce (layout_at t i)) where
  entry_is_held : (s v : ℕ) (e : Entry) → HasEntry t i s v e → is_held_by (layout_at t i) s e.pvbn ≡ true
  entry_is_held s v e h = block_is_held t i s h.label h.lies e.pvbn (inr (inr (record {
    vvbn = v;
    within = h.within;
    kind = λ none. let kind : (entry_at i h.label v).1 ≡ e.kind = ap (λ (p : ℕ × ℕ). p.1) h.is in absurd (omega (arith, h.kind, kind, none));
    place = sym (ap (λ (p : ℕ × ℕ). p.0) h.is);
  })))

  -- its block has its bit,
  entry_has_bit : (s v : ℕ) (e : Entry) → HasEntry t i s v e → map_bit t i e.pvbn ≡ true
  unfolding layout_at
  entry_has_bit s v e h = (spaced (layout_at t i) is).held s e.pvbn (slot_inside t i s h.label h.lies) (entry_is_held s v e h)

  -- no entry of another slot has it,
  other_slot : (s k v w : ℕ) (e f : Entry) → s ≢ k → HasEntry t i s v e → HasEntry t i k w f → f.pvbn ≢ e.pvbn
  other_slot s k v w e f differ h g same = (spaced (layout_at t i) is).apart s k e.pvbn (slot_inside t i s h.label h.lies) (slot_inside t i k g.label g.lies) differ
      (entry_is_held s v e h)
      (subst (λ (n : ℕ). is_held_by (layout_at t i) k n ≡ true) same (entry_is_held k w f g))

  -- nor has one under another VVBN of its slot.
  other_vvbn : (s v w : ℕ) (e f : Entry) → w ≢ v → HasEntry t i s v e → HasEntry t i s w f → f.pvbn ≢ e.pvbn
  other_vvbn s v w e f differ h g same =
      let label : g.label ≡ h.label = same_label (sym g.lies ∙ h.lies) in
      let within : w < entry_count h.label.span = subst (λ (l : Label). w < entry_count l.span) label g.within in
      let first : is_in e.pvbn (entry_blocks i h.label v) ≡ true = entry_listed t i s h.label h.lies v e h.is h.kind in
      let second : is_in e.pvbn (entry_blocks i h.label w) ≡ true = subst (λ (l : Label). is_in e.pvbn (entry_blocks i l w) ≡ true) label
      (subst (λ (n : ℕ). is_in n (entry_blocks i g.label w) ≡ true) same (entry_listed t i s g.label g.lies w f g.is g.kind)) in
      let few : times_held (layout_at t i) s e.pvbn ≤ 1 = (spaced (layout_at t i) is).each s e.pvbn (slot_inside t i s h.label h.lies) in ⊎_elim
      (λ (order : v < w). let two = held_twice t i s h.label h.lies e.pvbn v w order within first second in absurd (omega (arith, few, two)))
      (λ (order : w ≤ v). let two = held_twice t i s h.label h.lies e.pvbn w v (omega (arith, order, differ)) h.within second first in absurd (omega (arith, few, two)))
      (cases_lt v w)
    where
      same_label : {l k : Label} → ◌≡◌ {A = Option Label} (Some l) (Some k) → l ≡ k
      same_label e = cc

  -- So two entries under distinct VVBNs have distinct blocks, whichever slots they are in.
  entries_differ : (s k v w : ℕ) (e f : Entry) → w ≢ v → HasEntry t i s v e → HasEntry t i k w f → f.pvbn ≢ e.pvbn
  entries_differ s k v w e f differ h g = ⊎_elim
      (λ (same : k ≡ s). other_vvbn s v w e f differ h (subst (λ (n : ℕ). HasEntry t i n w f) same g))
      (λ (other : k ≢ s). other_slot s k v w e f (λ same. other (sym same)) h g)
      (cases_eq k s)

-- ---- along a chain

-- the first entry along a chain is some slot's own
along_owner : (slots : Slots) (n : ℕ) (slot : Option ℕ) (v : ℕ) (e : Entry) → along slots n slot v ≡ Some e → (s : ℕ) × (own_entry (container_at slots s) v ≡ Some e)
unfolding along
along_owner slots zero slot v e is = absurd (nothing e is)
along_owner slots (suc n) None v e is = absurd (nothing e is)
along_owner slots (suc n) (Some at) v e is = so (own_entry (container_at slots at) v) refl (λ rest. along_owner slots n (parent_at slots at) v e rest) is
  where
    so : (o : Option Entry) → own_entry (container_at slots at) v ≡ o → (along slots n (parent_at slots at) v ≡ Some e → (s : ℕ) × (own_entry (container_at slots s) v ≡ Some e))
        → or_else o (along slots n (parent_at slots at) v) ≡ Some e → (s : ℕ) × (own_entry (container_at slots s) v ≡ Some e)
    so None own later is = later is
    so (Some x) own later is = (at, own ∙ is)

held_owner : (map : Volume) (slots : Slots) (slot v : ℕ) (e : Entry) → held_entry map slots slot v ≡ Some e → (s : ℕ) × (own_entry (container_at slots s) v ≡ Some e)
unfolding held_entry
held_owner map slots slot v e is = so (nat_le v last_place && taken_in map.slots v) is
  where
    so : (t : Bool) → cond t (chain_entry slots slot v) None ≡ Some e → (s : ℕ) × (own_entry (container_at slots s) v ≡ Some e)
    so true is = along_owner slots 64 (Some slot) v e is
    so false is = absurd (nothing e is)

-- ---- together

module _ (t : Taken) (i : Image) (containers : Slots) (are : AreContainers t i containers) where
  own_has : (s v : ℕ) (e : Entry) → own_entry (container_at containers s) v ≡ Some e → HasEntry t i s v e
  own_has s v e own = ⊎_elim
      (λ (inside : s < 64). has_entry t i s v e (label_in (label_lying t i s)) (container_at containers s) refl (are.each s inside) own)
      (λ (past : 64 ≤ s). absurd (nothing e (sym (ap (λ (c : Option Paged). own_entry (map_in c) v) (get_or_past containers.containers s None (omega (arith, past, are.few)))) ∙ own)))
      (cases_lt s 64)

-- Where an image holds no block twice and its map is true, the containers are those of its labels, and the next root will hold what its
-- map has, the entries of each slot lie apart, whatever VVBNs the maps have.
pub entries_apart : (t : Taken) (i : Image) (pool : Pool) → HoldsOnce (layout_at t i) → AreContainers t i pool.containers → ((b : ℕ) → map_bit t i b ≡ true → is_member pool.map.next b ≡ true)
    → (map : Volume) (slot : ℕ) → AreApart pool map slot
entries_apart t i pool holds are next map slot = record {
  own = λ v e own. next e.pvbn (entry_has_bit t i holds slot v e (own_has t i pool.containers are slot v e own));
  held = λ v e found. let s = held_owner map pool.containers slot v e found in next e.pvbn (entry_has_bit t i holds s.0 v e (own_has t i pool.containers are s.0 v e s.1));
  own_apart = λ v w differ e own f other. entries_differ t i holds slot slot v w e f differ (own_has t i pool.containers are slot v e own) (own_has t i pool.containers are slot w f other);
  held_apart = λ v w differ e own f found. let s = held_owner map pool.containers slot w f found in
      entries_differ t i holds slot s.0 v w e f differ (own_has t i pool.containers are slot v e own) (own_has t i pool.containers are s.0 w f s.1);
}

-- The entries of what was loaded from a sound image lie apart.
pub loaded_apart : (pool : Pool) (i : Image) (states : States) → IsSound (layout_at (root_found pool.found) i) → IsMapLoaded i pool.found pool.map
    → KeptTo slot_count states pool.containers → LoadedTo i pool.found slot_count states pool.containers → (map : Volume) (slot : ℕ) → AreApart pool map slot
loaded_apart pool i states sound loaded kept volumes = entries_apart (root_found pool.found) i pool
    (sound_holds (layout_at (root_found pool.found) i) sound)
    (record { few = kept.few; each = λ s inside. (volumes.each s inside).tree })
    (λ b bit. ap (λ (m : List Bool). is_member m b) loaded.same ∙ (loaded.bits b ∙ bit))

-- So do those of what was loaded from an image that stands for a machine.
pub machine_apart : (pool : Pool) (i : Image) (states : States) (m : Machine) → root_of i ≡ Some (root_found pool.found) → machine_of i ≡ Some m → IsMapLoaded i pool.found pool.map
    → KeptTo slot_count states pool.containers → LoadedTo i pool.found slot_count states pool.containers → (map : Volume) (slot : ℕ) → AreApart pool map slot
machine_apart pool i states m counts stands = loaded_apart pool i states
    (tells_from (layout_at (root_found pool.found) i) m (sym (machine_under i (root_found pool.found) counts) ∙ stands)).sound

-- And those of what `Pool::open` and `Volumes::open` leave, one after the other, where the disk tells a sound image.
pub opened_apart : (first second last : Shown) (found : Found) (opened left : Pool) (states : States) → IsTrue first.tells → IsSound (layout_at (root_found found) first.reads)
    → OpensPool first found second (Ok opened) → OpensVolumes second opened last left (Ok states) → (map : Volume) (slot : ℕ) → AreApart left map slot
opened_apart first second last found opened left states told sound pool volumes =
    let same : left.found ≡ found = volumes.found ∙ pool.found in
    let told_then : IsTrue second.tells = subst IsTrue (sym pool.only_reads.stays.tells) told in
    let map_loaded : IsMapLoaded first.reads found left.map = subst (λ (m : Space). IsMapLoaded first.reads found m) (sym volumes.map) (pool.map told) in
    let loaded : LoadedTo second.reads left.found slot_count states left.containers = subst (λ (f : Found). LoadedTo second.reads f slot_count states left.containers) (sym volumes.found) (volumes.loaded told_then) in
    loaded_apart left first.reads states
    (subst (λ (f : Found). IsSound (layout_at (root_found f) first.reads)) (sym same) sound)
    (subst (λ (f : Found). IsMapLoaded first.reads f left.map) (sym same) map_loaded)
    volumes.states
    (subst (λ (i : Image). LoadedTo i left.found slot_count states left.containers) pool.only_reads.stays.reads loaded)
