-- What placing a block of a volume leaves, and why it fails.
use Rattle.std.proofs.Common.{◌≡◌, ◌≢◌, ◌<◌, ◌≤◌, ◌+◌, ◌⊎◌, ◌==◌, ◌||◌, ℕ, zero, suc, Bool, true, false, true≢false, cond, List, [], ◌∷◌, length, replicate, Option, Some, None, refl, sym, ap, subst, ◌∙◌, inl, inr, ⊎_elim, arith, get_or-set_other}
use Rattle.std.specs.Prelude.{is_some, slice_index_or, slice_set}
use Rattle.std.specs.Option.{ForSome}
use Rattle.std.specs.Ordering.{nat_cmp, eq_by_cmp}
use Rattle.std.specs.Cmp.{nat_cmp_total}
use Rattle.std.specs.FinMap as fin
use Rattle.std.proofs.lemmas.Bool.{cases_eq}
use Rattle.std.proofs.lemmas.Bool.Decides.{nat_tests}
use Rattle.fv_disk.specs.Shown.{Image, Shown as Disk}
use Rattle.fv_disk.specs.DiskCalls.{OnlyReads}
use Rattle.fv_disk.specs.declared.fault.BlockFault.{BlockFault}
use Rattle.fv_disk.specs.declared.fault.BlockFault.TheVariants.{DiskFault, Damaged, Memory}
use Rattle.fv_bits.specs.Members.{is_member}
use Rattle.fv_bits.proofs.Laws.{is_member-replicate}
use Rattle.fv_image.specs.Layout.{root_place}
use Rattle.fv_aggmap.specs.Space.{IsFull, Space, free_blocks}
use Rattle.fv_aggmap.proofs.Room.{one_is_found}
use Rattle.fv_container.specs.declared.entry.Entry.{Entry}
use Rattle.fv_container.specs.Chains.{AreCleanOn, IsLeafDamage, Slots, container_at, own_entry}
use Rattle.fv_container.specs.Mapped.{Mapped}
use Rattle.fv_tree.specs.declared.blocks.Placed.{Placed}
use Rattle.fv_volmap.specs.Slots.{IsVolume, Slot, Volume, active_of, has, map_or_empty, slot_at, taken_in, with_slot}
use Rattle.fv_pool.specs.declared.blocks.Home.{Home}
use Rattle.fv_pool.specs.declared.noted.Noted.{Noted}
use Rattle.fv_pool.specs.declared.pool.Pool.{Pool}
use Rattle.fv_pool.specs.BlocksOver.{AreApart, HasShapeOf, HoldsMore, IsKeptBack, IsLooseFault, LacksLeaf, LacksPlace, LacksRoom, LeavesRoom, LoadsPool, OtherPlace, PlacesBlock, TellsEntries, block_of, entries_in, free_numbers, given_back, held_entry, tree_in}
use Rattle.fv_pool.specs.Lending.{GoesOver, IsNewEntry, IsOutOfRoom, IsOwn, KeepsSlots, Lent, MayTake, Notes, Spends, WasHole, WasLack, WasLeaf, lent_by}
use Rattle.fv_pool.specs.LendingLaws.{goes_itself}
use Rattle.fv_pool.specs.Putting.{PutsOver}
use Rattle.fv_pool.proofs.Holding.{has_taken, held_kept, same_entry}
use Rattle.fv_pool.proofs.Shows.{active_had, apart_gone, had_gone, member_cleared, member_set, none_free, numbers_gone, set_member}

-- ---- faults

-- why no block was placed, in numbers
none_left : (space : Space) → IsFull space → (n : ℕ) → free_blocks space ≡ n → free_blocks space ≡ 0
none_left space full zero is = is
none_left space full (suc n) is = absurd (one_is_found space (omega (arith, is)) full)

pub room_lacks : (space : Space) (map : Volume) (root label at want found : ℕ) → LacksRoom space map root label at want found → (free_numbers map ≡ 0) ⊎ (free_blocks space ≡ 0)
room_lacks space map root label at want found (want_is, found_is, inl (at_is, taken)) = inl (none_free map taken)
room_lacks space map root label at want found (want_is, found_is, inr (at_is, full)) = inr (none_left space full (free_blocks space) refl)

room_noted : (space : Space) (map : Volume) (root label at want found : ℕ) (new : Noted) → LacksRoom space map root label at want found → new.at ≡ at → new.want ≡ want → new.found ≡ found → WasLack label root new
room_noted space map root label at want found new (want_is, found_is, inl (at_is, taken)) here wants finds =
    let same : (new.at == label) ≡ true = grind (arith, nat_tests, here ∙ at_is) in
    record { want_is = wants ∙ want_is; found_is = finds ∙ found_is; at_is = ap (λ t. t || (new.at == root)) same }
room_noted space map root label at want found new (want_is, found_is, inr (at_is, full)) here wants finds =
    let same : (new.at == root) ≡ true = grind (arith, nat_tests, here ∙ at_is) in
    record { want_is = wants ∙ want_is; found_is = finds ∙ found_is; at_is = ap (λ t. (new.at == label) || t) same ∙ either (new.at == label) }
  where
    either : (t : Bool) → (t || true) ≡ true
    either true = refl
    either false = refl

leaf_noted : (disk : Disk) (slots : Slots) (at want found : ℕ) (new : Noted) → LacksLeaf disk slots at want found → new.at ≡ at → new.want ≡ want → new.found ≡ found → WasLeaf disk slots new
leaf_noted disk slots at want found new lacks here wants finds told = subst (λ (n : ℕ). IsLeafDamage disk.reads slots n new.want new.found) (sym here)
    (subst (λ (n : ℕ). IsLeafDamage disk.reads slots at n new.found) (sym wants) (subst (λ (n : ℕ). IsLeafDamage disk.reads slots at want n) (sym finds) (lacks told)))

-- a place notes want of room, a leaf that isn't there, or nothing
pub place_notes : (disk : Disk) (slots : Slots) (space : Space) (map : Volume) (root label : ℕ) (fault : BlockFault) (old new : Noted) → LacksPlace disk slots space map root label fault → Notes old fault new
    → (new ≡ old) ⊎ ((WasLack label root new × ((free_numbers map ≡ 0) ⊎ (free_blocks space ≡ 0))) ⊎ WasLeaf disk slots new)
place_notes disk slots space map root label DiskFault old new lacks notes = inl notes
place_notes disk slots space map root label Memory old new lacks notes = inl notes
place_notes disk slots space map root label (Damaged at want found) old new (inl lacks) notes =
    inr (inl (room_noted space map root label at want found new lacks notes.2 notes.3 notes.4, room_lacks space map root label at want found lacks))
place_notes disk slots space map root label (Damaged at want found) old new (inr leaf) notes = inr (inr (leaf_noted disk slots at want found new leaf notes.2 notes.3 notes.4))

-- a load notes a VVBN that isn't held, a leaf that isn't there, or nothing
pub load_notes : (disk : Disk) (slots : Slots) (entry : Option Entry) (label : ℕ) (fault : BlockFault) (old new : Noted) → IsLooseFault disk slots entry label fault → Notes old fault new → (new ≡ old) ⊎ (WasHole label new ⊎ WasLeaf disk slots new)
load_notes disk slots entry label DiskFault old new loose notes = inl notes
load_notes disk slots entry label Memory old new loose notes = inl notes
load_notes disk slots entry label (Damaged at want found) old new (inl hole) notes =
    inr (inl (record { at_is = notes.2 ∙ hole.at_is; want_is = notes.3 ∙ hole.want_is; found_is = notes.4 ∙ hole.found_is }))
load_notes disk slots entry label (Damaged at want found) old new (inr leaf) notes = inr (inr (leaf_noted disk slots at want found new leaf notes.2 notes.3 notes.4))

-- ---- of the pool nothing changed

module _ (pool : Pool) (map after : Volume) (disk : Disk) (steps : ℕ) (home : Home) (room strays less : ℕ) (noted : Noted) where
  abbrev lent_before : Lent
  lent_before = lent_by pool map disk steps home room strays noted

  abbrev lent_after : Lent
  lent_after = lent_by pool after disk steps home room less noted

  goes_left : Spends lent_before lent_after → after.span ≡ map.span → ((s : ℕ) → s ≢ 0 → slot_at after s ≡ slot_at map s)
      → (AreApart pool map home.slot → KeepsSlots home.slot lent_before lent_after) → ((w : ℕ) → has w (slot_at after 0) ≡ true → has w (slot_at map 0) ≡ true)
      → GoesOver lent_before lent_after
  goes_left spends span slots keeps had =
      let itself = goes_itself lent_before in
      record {
        home = refl;
        found = refl;
        version = refl;
        room = omega arith;
        spends = λ some. spends;
        steps = omega arith;
        only_reads = itself.only_reads;
        noted = inl refl;
        committed = refl;
        loses = itself.loses;
        gains = itself.gains;
        entries = itself.entries;
        beyond = λ w past. refl;
        kept = itself.kept;
        shape = record { there = refl; count = refl; tree = refl };
        others = λ s other. refl;
        parents = refl;
        span = span;
        snapshots = slots;
        clean = λ tells. tells.1;
        keeps = λ tells. keeps;
        own_kept = λ k w other here. refl;
        own_new = λ w is. inl (had w is);
      }

-- a number was given up
pub goes_dropped : (pool : Pool) (map after : Volume) (disk : Disk) (steps : ℕ) (home : Home) (room strays less : ℕ) (noted : Noted) (v : ℕ) → IsVolume map → after ≡ with_slot map 0 (Some (slice_set (active_of map) v false))
    → GoesOver (lent_by pool map disk steps home room strays noted) (lent_by pool after disk steps home room less noted)
goes_dropped pool map after disk steps home room strays less noted v is released =
    let more = numbers_gone map after v is released in
    goes_left pool map after disk steps home room strays less noted (record { numbers = omega (arith, more); blocks = omega arith }) (ap (λ (m : Volume). m.span) released) slots
    (λ apart. record {
      apart = apart_gone map after v is released pool home.slot apart;
      entries = λ k w other here. same_entry map after pool.containers home.slot k w (slots k other) here;
      blocks = λ k w other here i. ap (block_of pool.kept i) (same_entry map after pool.containers home.slot k w (slots k other) here);
    })
    (had_gone map after v is released)
  where
    slots : (s : ℕ) → s ≢ 0 → slot_at after s ≡ slot_at map s
    slots s other = ap (λ (m : Volume). slot_at m s) released ∙ get_or-set_other map.slots 0 s (Some (slice_set (active_of map) v false)) None other

-- ---- leaves came into memory alone

module _ (pool new : Pool) (map : Volume) (disk later : Disk) (steps : ℕ) (home : Home) (room strays : ℕ) (noted after : Noted) (loads : LoadsPool disk pool new) (reads : OnlyReads disk later) where
  abbrev unplaced_before : Lent
  unplaced_before = lent_by pool map disk steps home room strays noted

  abbrev unplaced_after : Lent
  unplaced_after = lent_by new map later steps home room strays after

  still_own : (v : ℕ) → own_entry (container_at new.containers home.slot) v ≡ own_entry (container_at pool.containers home.slot) v
  still_own v = ap (λ (m : Option Mapped). own_entry m v) (loads.containers.maps home.slot)

  still_held : (v : ℕ) → held_entry map new.containers home.slot v ≡ held_entry map pool.containers home.slot v
  still_held v = held_kept disk map pool.containers new.containers home.slot v loads.containers

  pub apart_still : AreApart pool map home.slot → AreApart new map home.slot
  apart_still apart = record {
    own = λ v. subst (λ (s : Space). ForSome (own_entry (container_at new.containers home.slot) v) (IsKeptBack s)) (sym loads.map) (subst (λ (o : Option Entry). ForSome o (IsKeptBack pool.map)) (sym (still_own v)) (apart.own v));
    held = λ v. subst (λ (s : Space). ForSome (held_entry map new.containers home.slot v) (IsKeptBack s)) (sym loads.map) (subst (λ (o : Option Entry). ForSome o (IsKeptBack pool.map)) (sym (still_held v)) (apart.held v));
    own_apart = λ v w other. subst (λ (o : Option Entry). ForSome o (λ e. ForSome (own_entry (container_at new.containers home.slot) w) (OtherPlace e))) (sym (still_own v))
        (subst (λ (o : Option Entry). ForSome (own_entry (container_at pool.containers home.slot) v) (λ e. ForSome o (OtherPlace e))) (sym (still_own w)) (apart.own_apart v w other));
    held_apart = λ v w other. subst (λ (o : Option Entry). ForSome o (λ e. ForSome (held_entry map new.containers home.slot w) (OtherPlace e))) (sym (still_own v))
        (subst (λ (o : Option Entry). ForSome (own_entry (container_at pool.containers home.slot) v) (λ e. ForSome o (OtherPlace e))) (sym (still_held w)) (apart.held_apart v w other));
  }

  pub goes_failed : (after ≡ noted) ⊎ (WasHole home.label after ⊎ (IsOutOfRoom unplaced_before unplaced_after ⊎ WasLeaf disk pool.containers after)) → GoesOver unplaced_before unplaced_after
  goes_failed cause =
      let next : (b : ℕ) → is_member new.map.next b ≡ is_member pool.map.next b = λ b. ap (λ (s : Space). is_member s.next b) loads.map in
      let free : free_blocks new.map ≡ free_blocks pool.map = ap free_blocks loads.map in
      record {
        home = refl;
        found = loads.found;
        version = loads.version;
        room = omega arith;
        spends = λ some. record { numbers = omega arith; blocks = omega (arith, free) };
        steps = omega arith;
        only_reads = reads;
        noted = cause;
        committed = ap (λ (s : Space). s.committed) loads.map;
        loses = λ tells b was is. let isnt : true ≡ false = sym was ∙ sym (next b) ∙ is in cc;
        gains = λ tells b is. inr (sym (next b) ∙ is, λ own. record { vvbn = own.vvbn; entry = own.entry; stands = still_own own.vvbn ∙ own.stands; leads = own.leads });
        entries = λ v. inl (still_own v);
        beyond = λ v past. still_own v;
        kept = λ b. inl (ap (λ kept. fin.get kept b) loads.kept);
        shape = record {
          there = ap is_some (loads.containers.maps home.slot);
          count = ap (λ m. length (entries_in m)) (loads.containers.maps home.slot);
          tree = ap tree_in (loads.containers.maps home.slot);
        };
        others = λ s other. loads.containers.maps s;
        parents = loads.containers.parents;
        span = refl;
        snapshots = λ s other. refl;
        clean = λ tells. subst (λ (i : Image). AreCleanOn i new.containers) (sym reads.stays.reads) (loads.containers.clean tells);
        keeps = λ tells apart. record {
          apart = apart_still apart;
          entries = λ k v other here. still_held v;
          blocks = λ k v other here i. ap (block_of new.kept i) (still_held v) ∙ ap (λ kept. block_of kept i (held_entry map pool.containers home.slot v)) loads.kept;
        };
        own_kept = λ k v other here. still_own v;
        own_new = λ v is. inl is;
      }

  -- what a placement that failed leaves, and why it did
  pub puts_failed : (fault : BlockFault) (left : Volume) → left ≡ map → LacksPlace disk pool.containers pool.map map (root_place pool.found.slot) home.label fault → Notes noted fault after → room ≤ free_numbers map → room ≤ free_blocks pool.map
      → PutsOver unplaced_before (lent_by new left later steps home room strays after)
  puts_failed fault left same lacks notes numbers blocks =
      let cause : (after ≡ noted) ⊎ (IsOutOfRoom unplaced_before unplaced_after ⊎ WasLeaf disk pool.containers after) = ⊎_elim
      (λ still. inl still)
      (λ why. inr (⊎_elim
      (λ lack. inl (record { none = ⊎_elim (λ none. omega (arith, none, numbers)) (λ none. omega (arith, none, blocks)) lack.1; lacks = lack.0 }))
      (λ leaf. inr leaf)
      why))
      (place_notes disk pool.containers pool.map map (root_place pool.found.slot) home.label fault noted after lacks notes) in
      subst (λ (m : Volume). PutsOver unplaced_before (lent_by new m later steps home room strays after)) (sym same)
      (record { goes = goes_failed (⊎_elim (λ still. inl still) (λ why. inr (inr why)) cause); noted = cause })

-- ---- a block was placed

module _ (disk : Disk) (pool new : Pool) (map after : Volume) (slot kind : ℕ) (block : List ℕ) (placed : Placed) (places : PlacesBlock disk pool map slot kind block new after placed) where
  abbrev entry_of : Entry
  entry_of = record { pvbn = placed.pvbn; kind = kind }

  abbrev v : ℕ
  v = placed.vvbn

  abbrev Told : Type 0
  Told = TellsEntries disk pool.containers

  abbrev own : ℕ → Option Entry
  own = own_entry (container_at pool.containers slot)

  own_is : own_entry (container_at new.containers slot) v ≡ Some entry_of
  own_is = places.entry.here

  own_others : (w : ℕ) → w ≢ v → own_entry (container_at new.containers slot) w ≡ own w
  own_others = places.entry.rest

  abbrev more : List Bool
  more = slice_set pool.map.next placed.pvbn true

  abbrev given : Option Entry → Space
  given o = given_back (record pool.map { next = more }) o

  given_is : new.map ≡ given places.before
  given_is = places.space ∙ ap (λ (s : Space). given_back s places.before) places.takes.taken

  space_is : Told → new.map ≡ given (own v)
  space_is tells = given_is ∙ ap given (places.told tells)

  left : (s t : Bool) → (s || t) ≡ false → s ≡ false
  left true t isnt = isnt
  left false t isnt = refl

  right : (s t : Bool) → (s || t) ≡ false → t ≡ false
  right true t isnt = let wrong : true ≡ false = isnt in cc
  right false t isnt = isnt

  spare : is_member pool.map.committed placed.pvbn ≡ false
  spare = left (is_member pool.map.committed placed.pvbn) (is_member pool.map.next placed.pvbn) places.takes.free.free

  unheld : is_member pool.map.next placed.pvbn ≡ false
  unheld = right (is_member pool.map.committed placed.pvbn) (is_member pool.map.next placed.pvbn) places.takes.free.free

  may_take : MayTake Told pool.map pool.containers slot placed.pvbn
  may_take = record { lies = (places.takes.free.after, places.takes.free.within); spare = spare; free = λ tells. inl places.takes.free.free }

  still : (b : ℕ) → is_member pool.map.next b ≡ true → is_member more b ≡ true
  still b was = member_set pool.map.next placed.pvbn b true (λ same. let isnt : true ≡ false = sym was ∙ ap (is_member pool.map.next) same ∙ unheld in cc) ∙ was

  lose : (b : ℕ) (o : Option Entry) → own v ≡ o → is_member pool.map.next b ≡ true → is_member (given o).next b ≡ false → IsOwn pool.containers slot b
  lose b None is was isnt = let wrong : true ≡ false = sym (still b was) ∙ isnt in cc
  lose b (Some d) is was isnt = elim (cases_eq b d.pvbn) [
    | inl same ↦ record { vvbn = v; entry = d; stands = is; leads = sym same }
    | inr other ↦ let wrong : true ≡ false = sym (still b was) ∙ sym (member_set more d.pvbn b false other) ∙ isnt in cc
  ]

  -- an entry that wasn't replaced still leads to its block
  keeps : (b : ℕ) → ((e : Entry) → own v ≡ Some e → e.pvbn ≢ b) → IsOwn pool.containers slot b → IsOwn new.containers slot b
  keeps b replaced was = elim (cases_eq was.vvbn v) [
    | inl same ↦ absurd (replaced was.entry (sym (ap own same) ∙ was.stands) was.leads)
    | inr other ↦ record { vvbn = was.vvbn; entry = was.entry; stands = own_others was.vvbn other ∙ was.stands; leads = was.leads }
  ]

  gain_more : (b : ℕ) → ((e : Entry) → own v ≡ Some e → e.pvbn ≢ b) → is_member more b ≡ true
      → IsOwn new.containers slot b ⊎ ((is_member pool.map.next b ≡ true) × (IsOwn pool.containers slot b → IsOwn new.containers slot b))
  gain_more b replaced is = elim (cases_eq b placed.pvbn) [
    | inl same ↦ inl (record { vvbn = v; entry = entry_of; stands = own_is; leads = sym same })
    | inr other ↦ inr (sym (member_set pool.map.next placed.pvbn b true other) ∙ is, keeps b replaced)
  ]

  gain : (b : ℕ) (o : Option Entry) → own v ≡ o → is_member (given o).next b ≡ true
      → IsOwn new.containers slot b ⊎ ((is_member pool.map.next b ≡ true) × (IsOwn pool.containers slot b → IsOwn new.containers slot b))
  gain b None none is = gain_more b (λ e there leads. let isnt : None ≡ Some e = sym none ∙ there in cc) is
  gain b (Some d) some is = elim (cases_eq b d.pvbn) [
    | inl same ↦ let wrong : true ≡ false = sym is ∙ ap (is_member (slice_set more d.pvbn false)) same ∙ member_cleared more d.pvbn in cc
    | inr other ↦ gain_more b (λ e there leads. other (sym leads ∙ sym (pvbn_same d e (sym some ∙ there)))) (sym (member_set more d.pvbn b false other) ∙ is)
  ]
    where
      pvbn_same : (d e : Entry) → Some d ≡ Some e → d.pvbn ≡ e.pvbn
      pvbn_same d e same = ap pvbn_in same
        where
          pvbn_in : Option Entry → ℕ
          pvbn_in None = 0
          pvbn_in (Some x) = x.pvbn

  kept_placed : (b : ℕ) → (fin.get new.kept b ≡ fin.get pool.kept b) ⊎ MayTake Told pool.map pool.containers slot b
  kept_placed b = elim (cases_eq b placed.pvbn) [
    | inl same ↦ inr (subst (λ (n : ℕ). MayTake Told pool.map pool.containers slot n) (sym same) may_take)
    | inr other ↦
        let isnt : eq_by_cmp nat_cmp b placed.pvbn ≡ false = grind (arith, nat_tests, other) in
        inl (ap (λ kept. fin.get kept b) places.kept ∙ fin.get-insert nat_cmp_total pool.kept placed.pvbn block b ∙ ap (λ t. cond t (Some block) (fin.get pool.kept b)) isnt)
  ]

  entry_placed : (w : ℕ) → (own_entry (container_at new.containers slot) w ≡ own w) ⊎ IsNewEntry Told pool.map pool.containers new.containers slot w
  entry_placed w = elim (cases_eq w v) [
    | inl same ↦ inr (record { entry = entry_of; stands = ap (own_entry (container_at new.containers slot)) same ∙ own_is; takes = may_take })
    | inr other ↦ inl (own_others w other)
  ]

  -- a number that a slot had isn't the one that was placed
  not_placed : (k w : ℕ) → has w (slot_at map k) ≡ true → w ≢ v
  not_placed k w here same = let wrong : true ≡ false = sym (has_taken map.slots k w here) ∙ ap (taken_in map.slots) same ∙ places.takes.number.free in cc

  had_or_own : (w : ℕ) → has w (slot_at after 0) ≡ true → (has w (slot_at map 0) ≡ true) ⊎ (is_some (own_entry (container_at new.containers slot) w) ≡ true)
  had_or_own w is = elim (cases_eq w v) [
    | inl same ↦ inr (ap (λ (n : ℕ). is_some (own_entry (container_at new.containers slot) n)) same ∙ ap is_some own_is)
    | inr other ↦
        let now : is_member (slice_set (active_of map) v true) w ≡ true =
        set_member map.slots (slice_set (active_of map) v true) w (sym (ap (λ (m : Volume). has w (slot_at m 0)) places.takes.number.volume) ∙ is) in
        inl (active_had map.span (slot_at map 0) w (sym (member_set (active_of map) v w true other) ∙ now))
  ]

  committed_same : new.map.committed ≡ pool.map.committed
  committed_same = ap (λ (s : Space). s.committed) given_is ∙ same places.before
    where
      same : (o : Option Entry) → (given o).committed ≡ pool.map.committed
      same None = refl
      same (Some d) = refl

  pub goes_with : (later : Disk) (steps : ℕ) (home : Home) (room less strays : ℕ) (noted : Noted) → OnlyReads disk later → home.slot ≡ slot → less ≤ room → (0 < less → less + 1 ≤ room) → LeavesRoom pool.map map new.map after
      → (Told → AreApart pool map home.slot → KeepsSlots home.slot (lent_by pool map disk steps home room strays noted) (lent_by new after later steps home less strays noted))
      → GoesOver (lent_by pool map disk steps home room strays noted) (lent_by new after later steps home less strays noted)
  goes_with later steps home room less strays noted reads at fewer one leaves keeps = record {
    home = refl;
    found = places.found;
    version = places.version;
    room = fewer;
    spends = λ some. let fell = one some in record { numbers = omega (arith, fell, leaves.numbers); blocks = omega (arith, fell, leaves.blocks) };
    steps = omega arith;
    only_reads = reads;
    noted = inl refl;
    committed = committed_same;
    loses = λ tells b was isnt. subst (λ s. IsOwn pool.containers s b) (sym at) (lose b (own v) refl was (sym (ap (λ (s : Space). is_member s.next b) (space_is tells)) ∙ isnt));
    gains = λ tells b is. subst (λ s. IsOwn new.containers s b ⊎ ((is_member pool.map.next b ≡ true) × (IsOwn pool.containers s b → IsOwn new.containers s b))) (sym at)
        (gain b (own v) refl (sym (ap (λ (s : Space). is_member s.next b) (space_is tells)) ∙ is));
    entries = λ w. subst (λ s. (own_entry (container_at new.containers s) w ≡ own_entry (container_at pool.containers s) w) ⊎ IsNewEntry Told pool.map pool.containers new.containers s w) (sym at) (entry_placed w);
    beyond = λ w past. subst (λ s. own_entry (container_at new.containers s) w ≡ own_entry (container_at pool.containers s) w) (sym at) (own_others w (let low = places.takes.number.within in omega (arith, low, past)));
    kept = λ b. subst (λ s. (fin.get new.kept b ≡ fin.get pool.kept b) ⊎ MayTake Told pool.map pool.containers s b) (sym at) (kept_placed b);
    shape = subst (λ s. HasShapeOf (container_at pool.containers s) (container_at new.containers s)) (sym at) places.entry.shape;
    others = λ s other. places.entry.others s (λ same. other (same ∙ sym at));
    parents = places.entry.parents;
    span = ap (λ (m : Volume). m.span) places.takes.number.volume;
    snapshots = λ s other. ap (λ (m : Volume). slot_at m s) places.takes.number.volume ∙ get_or-set_other map.slots 0 s (Some (slice_set (active_of map) v true)) None other;
    clean = λ tells. subst (λ (i : Image). AreCleanOn i new.containers) (sym reads.stays.reads) (places.entry.clean tells);
    keeps = keeps;
    own_kept = λ k w other here. subst (λ s. own_entry (container_at new.containers s) w ≡ own_entry (container_at pool.containers s) w) (sym at) (own_others w (not_placed k w here));
    own_new = λ w is. subst (λ s. (has w (slot_at map 0) ≡ true) ⊎ (is_some (own_entry (container_at new.containers s) w) ≡ true)) (sym at) (had_or_own w is);
  }

module _ (pool new : Pool) (map after : Volume) (kind : ℕ) (block : List ℕ) (placed : Placed) (disk later : Disk) (steps : ℕ) (home : Home) (room less strays : ℕ) (noted : Noted)
    (places : PlacesBlock disk pool map home.slot kind block new after placed) (holds : HoldsMore disk pool map home.slot kind block new after placed) (reads : OnlyReads disk later)
    (fewer : less ≤ room) (one : 0 < less → less + 1 ≤ room) (leaves : LeavesRoom pool.map map new.map after) where
  -- it is under a number that no slot had
  other_number : (k v : ℕ) → has v (slot_at map k) ≡ true → v ≢ placed.vvbn
  other_number k v here same =
      let wrong : true ≡ false = sym (has_taken map.slots k v here) ∙ ap (taken_in map.slots) same ∙ places.takes.number.free in cc

  pub goes_placed : GoesOver (lent_by pool map disk steps home room strays noted) (lent_by new after later steps home less strays noted)
  goes_placed = goes_with disk pool new map after home.slot kind block placed places later steps home room less strays noted reads refl fewer one leaves (λ tells apart. record {
    apart = holds.apart tells apart;
    entries = λ k v other here. holds.others v (other_number k v here);
    blocks = λ k v other here i. holds.contents apart i v (other_number k v here);
  })
