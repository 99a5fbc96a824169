-- The files of volumes are placed slot by slot.
use Rattle.std.specs.Prelude.{IsTrue}
use Rattle.std.proofs.Common.{◌≡◌, ◌≢◌, ℕ, ◌<◌, ◌≤◌, ◌+◌, Bool, List, length, Some, None, Result, Ok, Err, is_some, true≢false, false, ⊎_elim, inl, inr, ◌⊎◌, sym, ap, subst, ◌∙◌, arith, Option, refl, get_or-set_other}
use Rattle.std.specs.Prelude.{cond, sum_by, IfSome}
use Rattle.std.specs.Option.{option_map}
use Rattle.std.specs.FinMap as fin
use Rattle.std.proofs.lemmas.Bool.{cases_eq, cases_lt}
use Rattle.std.proofs.lemmas.List.{get_or_past}
use Rattle.std.proofs.lemmas.List.Sums.{sum_by-set}
use Rattle.fv_disk.specs.Shown.{Image, Rose, Shown}
use Rattle.fv_bits.specs.Members.{is_member}
use Rattle.fv_model.specs.Spelling.{name_cmp}
use Rattle.fv_model.specs.Machines.{Machine, capacity}
use Rattle.fv_tables.proofs.Lists.{same_parts}
use Rattle.fv_image.specs.Held.{AllKeep, layout_at}
use Rattle.fv_image.specs.Reclaimed.{IsAllocatable}
use Rattle.fv_image.specs.Views.{slots}
use Rattle.fv_image.specs.WholeMachine.{Tells}
use Rattle.fv_aggmap.specs.Space.{Space}
use Rattle.fv_root.specs.declared.find.Found.{Found}
use Rattle.fv_root.specs.Finding.{IsInRange, root_found}
use Rattle.fv_root.specs.Commits.{IsFoundOn}
use Rattle.fv_container.specs.Chains.{Slots, TellsEntries, container_at, own_entry}
use Rattle.fv_container.proofs.Changing.{maps_same}
use Rattle.fv_container.specs.Mapped.{Mapped}
use Rattle.fv_volmap.specs.Slots.{active_of}
use Rattle.fv_pool.specs.declared.pool.Pool.{Pool}
use Rattle.fv_volume.specs.declared.state.VolumeState.{VolumeState}
use Rattle.fv_pool.specs.BlocksOver.{HasShapeOf, LoadsPool}
use Rattle.fv_pool.specs.Causes.{IsNoDamage}
use Rattle.fv_pool.specs.Lending.{IsNewEntry}
use Rattle.fv_volume.specs.OneVolume.{IsReady}
use Rattle.fv_pool.specs.Placing.{KeepsUnused}
use Rattle.fv_pool.specs.Tables.{pending_of}
use Rattle.fv_volume.specs.Slots.{sum_of}
use Rattle.fv_volume.specs.States.{States, state_at, with_state}
use Rattle.fv_volume.specs.Stored.{AreSpacedIn}
use Rattle.fv_volume.specs.Writing.{asked, map_wait}
use Rattle.fv_volumes.proofs.PlacedFooted.{placed_footed}
use Rattle.fv_volumes.proofs.PlacedIn as one
use Rattle.fv_volumes.proofs.Told.{is_inside}
use Rattle.fv_volume.proofs.Spending.{spent_one}
use Rattle.fv_volumes.proofs.Staying.{only_itself}
use Rattle.fv_cp.specs.Held.{machine_held, named_held, IsHeld, IsHeldIn}
use Rattle.fv_cp.specs.Lent.{asked_all, asked_by, asked_of, blocks_asked, maps_waiting, waiting_by, FitTogether}
use Rattle.fv_volume.specs.Held.{HasPlaceCause}
use Rattle.fv_cp.specs.Placing.{pending_by, pending_files, HasNumbers, HaveNoFiles, HaveRoom, HaveSpent, IsPlacedAs, AreButPlaced, ArePlaced, AreReady, but_placed, FailsToPlace, HasNoFiles, HasWholeMap, HaveNoneBefore, IsReadyIn, IsSlotPlaced, IsSpareEntry, KeepShapes, MayFail, LeavesUnused, PlacesEntries, PlacesSlot, RestsPlaced}
use Rattle.fv_disk.proofs.Resting.{reads_then}
use Rattle.fv_disk.specs.DiskCalls.{OnlyReads}
use Rattle.fv_cp.proofs.CameIn.{placed_loaded}
use Rattle.fv_store.specs.Held.{StandsOn}
use Rattle.fv_pool.specs.declared.fault.VolumeFault.{VolumeFault}
use Rattle.fv_pool.specs.declared.fault.VolumeFault.TheVariants.{Refused, DiskFault, Damaged, Memory}

-- what stays has the shape that it had
shape_none : (c : Option Mapped) → HasShapeOf c c
shape_none c = record { there = refl; count = refl; tree = refl }

-- ---- one volume: the session is what it was between points

module _ (disk after : Shown) (pool left : Pool) (states stay : States) (x y : VolumeState) (there : state_at states x.slot ≡ Some x) (now : stay ≡ with_state states x.slot (Some y)) (fit : FitTogether pool states) (placed : IsPlacedAs disk pool x after left y) where
  found_same : left.found ≡ pool.found
  found_same = placed.goes.goes.goes.found

  version_same : left.version ≡ pool.version
  version_same = placed.goes.goes.goes.version

  in_list : x.slot < length states
  in_list = let low = is_inside states x.slot x fit.housed.long there in let long = fit.housed.long in omega (arith, low, long)

  pub fit_still : FitTogether left stay
  fit_still = record {
    range = subst IsInRange (sym found_same) fit.range;
    size = ap (λ (c : List Bool). length c) placed.goes.goes.goes.committed ∙ fit.size ∙ ap (λ (f : Found). f.blocks) (sym found_same);
    version = version_same ∙ fit.version ∙ ap (λ (f : Found). f.root.version) (sym found_same);
    housed = one.housed_still disk after pool left states stay x y there now fit.housed placed;
    kept = one.kept_still disk after pool left states stay x y there now fit.housed placed fit.kept;
  }

  -- but for what placing changes the volumes are as they were
  pub others_still : IsReady disk pool x → AreButPlaced states stay
  others_still ready = one.all_stay disk after pool left states stay x y there now fit.housed placed (option_map but_placed)
      (ap (λ (z : VolumeState). Some (but_placed z)) placed.keeps ∙ ap (λ (t : Bool). Some (but_placed (record x { changed = t }))) (one.changed_still disk after pool left states stay x y there now fit.housed placed ready))

  -- the entries stay, or lead to blocks that the root on the disk doesn't hold
  pub entries_still : PlacesEntries pool.map pool.containers left.containers
  entries_still s v = ⊎_elim
      (λ (here : s ≡ x.slot). subst (λ (n : ℕ). Placed n) (sym here) own)
      (λ (differ : s ≢ x.slot). inl (ap (λ (c : Option Mapped). own_entry c v) (placed.goes.goes.goes.others s differ)))
      (cases_eq s x.slot)
    where
      Placed : ℕ → Type 0
      Placed n = (own_entry (container_at left.containers n) v ≡ own_entry (container_at pool.containers n) v) ⊎ IsSpareEntry pool.map (own_entry (container_at left.containers n) v)

      own : Placed x.slot
      own = ⊎_elim
          (λ (same : own_entry (container_at left.containers x.slot) v ≡ own_entry (container_at pool.containers x.slot) v). inl same)
          (λ (new : IsNewEntry (TellsEntries disk pool.containers) pool.map pool.containers left.containers x.slot v). inr (record { entry = new.entry; stands = new.stands; lies = new.takes.lies; spare = new.takes.spare }))
          (placed.goes.goes.goes.entries v)

  -- no tree of a container moves
  pub shapes_still : KeepShapes pool.containers left.containers
  shapes_still s = ⊎_elim
      (λ (here : s ≡ x.slot). subst (λ (n : ℕ). HasShapeOf (container_at pool.containers n) (container_at left.containers n)) (sym here) placed.goes.goes.goes.shape)
      (λ (differ : s ≢ x.slot). subst (λ (c : Option Mapped). HasShapeOf (container_at pool.containers s) c) (sym (placed.goes.goes.goes.others s differ)) (shape_none (container_at pool.containers s)))
      (cases_eq s x.slot)

  -- a volume without files in memory stays
  pub rest_still : RestsPlaced pool states left stay
  rest_still s none = ⊎_elim
      (λ (here : s ≡ x.slot).
      let files : x.files ≡ None = subst HasNoFiles (ap (state_at states) here ∙ there) none in
      let all = one.idle_still disk after pool left states stay x y there now fit.housed placed files in
      (ap (λ (xs : States). state_at xs s) all.1, ap (λ (p : Pool). container_at p.containers s) all.0))
      (λ (differ : s ≢ x.slot). (one.other disk after pool left states stay x y there now fit.housed placed s differ, placed.goes.goes.goes.others s differ))
      (cases_eq s x.slot)

  -- a sum over the volumes stays where this one has the part that it had
  sum_still : (part : Option VolumeState → ℕ) → part (Some y) ≡ part (state_at states x.slot) → sum_by part stay ≡ sum_by part states
  sum_still part same =
      let sum = sum_by-set part states x.slot (Some y) None in_list in
      let all : sum_by part stay ≡ sum_by part (with_state states x.slot (Some y)) = ap (λ (xs : States). sum_by part xs) now in
      omega (arith, sum, same, all)

  pub asked_still : IsReady disk pool x → blocks_asked stay ≡ blocks_asked states
  asked_still ready =
      let changed = one.changed_still disk after pool left states stay x y there now fit.housed placed ready in
      sum_still asked_by (ap (λ (z : VolumeState). cond y.changed (asked z) 0) placed.keeps ∙ ap (λ (t : Bool). cond t (asked x) 0) changed ∙ sym (ap asked_by there))

  pub all_still : asked_all stay ≡ asked_all states
  all_still = sum_still asked_of (ap (λ (z : VolumeState). asked z) placed.keeps ∙ sym (ap asked_of there))

  pub waiting_still : maps_waiting stay ≡ maps_waiting states
  waiting_still = sum_still waiting_by (ap (λ (z : VolumeState). map_wait z) placed.keeps ∙ sym (ap waiting_by there))

  module _ (before : Machine) (held : IsHeld disk pool states before) where
    -- what was placed took no more than there is fewer pending
    pub spent_still : HaveRoom pool states → HaveSpent pool states left stay
    spent_still room =
        let sum = sum_by-set pending_by states x.slot (Some y) None in_list in
        let part = sum_by-set pending_by states x.slot None None in_list in
        let was : pending_by (state_at states x.slot) ≡ pending_of x.files = ap pending_by there in
        let all : pending_files stay ≡ pending_files (with_state states x.slot (Some y)) = ap pending_files now in
        let blocks = room.blocks in
        let spent = spent_one disk after pool left x y placed (one.mine disk after pool left states stay x y there now fit.housed placed fit.size held.slots held.spaced held.each held.footed).stands (subst HasNumbers there (room.numbers x.slot)) (omega (arith, part, was, blocks)) in
        record {
          fewer = omega (arith, sum, was, all, spent.0.fewer);
          blocks = omega (arith, sum, was, all, spent.0.blocks);
          numbers = λ k. ⊎_elim
              (λ (e : k ≡ x.slot). subst (λ (n : ℕ). HasNumbers (state_at stay n)) (sym e) (subst HasNumbers (sym (one.here disk after pool left states stay x y there now fit.housed placed)) spent.1))
              (λ (differ : k ≢ x.slot). subst HasNumbers (sym (one.other disk after pool left states stay x y there now fit.housed placed k differ)) (room.numbers k))
              (cases_eq k x.slot);
        }

    -- The volumes are what they are between points.
    pub held_still : IsHeld after left stay before
    held_still =
        let reads = placed.goes.goes.goes.only_reads in
        record {
          found = subst (λ (f : Found). IsFoundOn after f) (sym found_same) (one.found_read disk after pool.found reads held.found);
          tells = subst (λ (f : Found). Tells (layout_at (root_found f) after.reads) before) (sym found_same) (subst (λ (i : Image). Tells (layout_at (root_found pool.found) i) before) (sym reads.stays.reads) held.tells);
          keeps = subst (λ (f : Found). AllKeep (root_found f) after.reads after) (sym found_same) (one.keeps_read disk after (root_found pool.found) reads held.keeps);
          map = one.map_still disk after pool left states stay x y there now fit.housed placed held.map;
          slots = one.slots_still disk after pool left states stay x y there now fit.housed placed fit.size held.slots held.spaced held.each held.footed;
          spaced = subst (λ (f : Found). AreSpacedIn f.blocks left.map.next (state_at stay) (container_at left.containers)) (sym found_same) (one.spaced_still disk after pool left states stay x y there now fit.housed placed fit.size held.slots held.spaced held.each held.footed);
          names = one.names_still disk after pool left states stay x y there now fit.housed placed held.names;
          each = one.each_still disk after pool left states stay x y there now fit.housed placed fit.size held.slots held.spaced held.each held.footed;
          commits = (let same = one.commits_still disk after pool left states stay x y there now fit.housed placed in subst (λ (f : Found). sum_of stay ≤ capacity f.blocks) (sym found_same) (let fits = held.commits in omega (arith, same, fits)));
          footed = placed_footed disk after pool left states stay x y there now fit.housed placed held.footed;
        }

    -- They stand for the machine that they stood for.
    pub machine_still : machine_held after left stay ≡ machine_held disk pool states
    unfolding machine_held slots
    machine_still = λ j. record {
      blocks = (found_same j).blocks;
      version = version_same j;
      volumes = fin.from_entries {R = name_cmp} (same_parts (λ k. named_held after left (state_at stay k)) (λ k. named_held disk pool (state_at states k)) 0 64
          (λ k low high. one.named_still disk after pool left states stay x y there now fit.housed placed fit.size held.slots held.spaced held.each held.footed k) j);
    }

-- entries are placed one time after the other, under the same root on the disk
entries_then : (space later : Space) (old mid new : Slots) → later.committed ≡ space.committed → PlacesEntries space old mid → PlacesEntries later mid new → PlacesEntries space old new
entries_then space later old mid new same first second s v = ⊎_elim
    (λ (stays : own_entry (container_at new s) v ≡ own_entry (container_at mid s) v). ⊎_elim
    (λ (stayed : own_entry (container_at mid s) v ≡ own_entry (container_at old s) v). inl (stays ∙ stayed))
    (λ (placed : IsSpareEntry space (own_entry (container_at mid s) v)). inr (subst (IsSpareEntry space) (sym stays) placed))
    (first s v))
    (λ (placed : IsSpareEntry later (own_entry (container_at new s) v)). inr (record {
      entry = placed.entry;
      stands = placed.stands;
      lies = subst (λ (c : List Bool). IsAllocatable (length c) placed.entry.pvbn) same placed.lies;
      spare = subst (λ (c : List Bool). is_member c placed.entry.pvbn ≡ false) same placed.spare;
    }))
    (second s v)

-- what keeps its shape, and then keeps it again
shape_then : (old mid new : Option Mapped) → HasShapeOf old mid → HasShapeOf mid new → HasShapeOf old new
shape_then old mid new first second = record { there = second.there ∙ first.there; count = second.count ∙ first.count; tree = second.tree ∙ first.tree }

-- ---- slot by slot

-- what the placing of some files leaves
pub record HasCome (disk : Shown) (pool : Pool) (states : States) (after : Shown) (left : Pool) (stay : States) : Type 0 where
  pub placed : ArePlaced disk pool states after left stay
  pub ready : AreReady after left stay
  pub stands : StandsOn after left.store.pairs

-- the files of the volumes of the first slots were placed
pub record HasPassed (disk : Shown) (pool : Pool) (states : States) (count : ℕ) (after : Shown) (left : Pool) (stay : States) : Type 0 where
  pub come : HasCome disk pool states after left stay
  -- the containers of the other slots are as they were
  pub ahead : (s : ℕ) → count ≤ s → container_at left.containers s ≡ container_at pool.containers s
  -- and so are their volumes
  pub waits : (s : ℕ) → count ≤ s → state_at stay s ≡ state_at states s
  -- without files in memory nothing is placed
  pub first : ((s : ℕ) → s < count → HasNoFiles (state_at states s)) → (left ≡ pool) × (stay ≡ states)
  pub done : (s : ℕ) → s < count → HasNoFiles (state_at stay s)
  pub whole : (s : ℕ) → s < count → HasWholeMap (state_at stay s)

-- where no entry changed, none changed under a number that isn't in use
unused_none : (containers : Slots) (s : ℕ) (o : Option VolumeState) → IfSome o (λ y. KeepsUnused containers containers s y.map)
unused_none containers s None = tt
unused_none containers s (Some y) = λ v out. refl

-- nothing came into memory
loads_none : (disk : Shown) (pool : Pool) → LoadsPool disk pool pool
loads_none disk pool = record { map = refl; kept = refl; found = refl; version = refl; containers = maps_same disk pool.containers }

pub passed_none : (disk : Shown) (pool : Pool) (states : States) → FitTogether pool states → AreReady disk pool states → StandsOn disk pool.store.pairs → HasPassed disk pool states 0 disk pool states
passed_none disk pool states fit ready stands = record {
  come = record {
    placed = record { held = λ before held. held; machine = λ before held. refl; fit = fit; found = refl; version = refl; committed = refl; cores = λ s. refl; asked = refl; all = refl; waiting = refl; spent = λ before held room. record { fewer = omega arith; numbers = room.numbers; blocks = omega arith }; others = λ s. refl; entries = λ s v. inl refl; shapes = λ s. shape_none (container_at pool.containers s); parents = refl; unused = λ before held s. unused_none pool.containers s (state_at states s); rest = λ s none. (refl, refl); only_reads = only_itself disk; idle = λ none. (loads_none disk pool, refl) };
    ready = ready;
    stands = stands;
  };
  ahead = λ s past. refl;
  waits = λ s past. refl;
  first = λ none. (refl, refl);
  done = λ s low. absurd (omega (arith, low));
  whole = λ s low. absurd (omega (arith, low));
}

-- ---- a slot more

module _ (disk : Shown) (pool : Pool) (states : States) (mid : Shown) (held : Pool) (between : States) (come : HasCome disk pool states mid held between)
    (slot : ℕ) (after : Shown) (left : Pool) (stay : States) where
  -- there is room still
  room_now : HaveSpent pool states held between → HaveRoom pool states → HaveRoom held between
  room_now spent room = record { numbers = spent.numbers; blocks = (let first = room.blocks in omega (arith, first, spent.blocks)) }

  -- with it no slot answers damage
  pub enough_more : (before : Machine) → IsHeld disk pool states before → HaveRoom pool states → (e : VolumeFault) → MayFail mid held (state_at between slot) e → IsNoDamage e
  enough_more before was room e fails = by (state_at between slot) refl fails
    where
      spent : HaveSpent pool states held between
      spent = come.placed.spent before was room

      by : (o : Option VolumeState) → state_at between slot ≡ o → MayFail mid held o e → IsNoDamage e
      by None none fails = absurd fails
      by (Some x) there fails =
          let now : HaveRoom held between = room_now spent room in
          let own : IsHeldIn mid held slot x = subst (λ (o : Option VolumeState). IfSome o (IsHeldIn mid held slot)) there ((come.placed.held before was).each slot) in
          let inside = is_inside between slot x come.placed.fit.housed.long there in
          let long = come.placed.fit.housed.long in
          let part = sum_by-set pending_by between slot None None (omega (arith, inside, long)) in
          let is : pending_by (state_at between slot) ≡ pending_of x.files = ap pending_by there in
          let blocks = now.blocks in
          fails.1.0 (own.stands.told, own.stands.trees) (subst HasNumbers there (now.numbers slot) fails.0) (omega (arith, part, is, blocks))

  -- it fails with a file in memory alone
  pub filed_more : (e : VolumeFault) → MayFail mid held (state_at between slot) e → HaveNoFiles states → ⊥
  filed_more e fails none = by (state_at between slot) fails (subst (λ (xs : States). HasNoFiles (state_at xs slot)) (sym (come.placed.idle none).1) (none slot))
    where
      by : (o : Option VolumeState) → MayFail mid held o e → HasNoFiles o → ⊥
      by None fails none = fails
      by (Some x) fails none = true≢false (sym fails.0 ∙ ap is_some none)

  -- the entries of one slot stay under each number that its volume doesn't have then
  abbrev UnusedAt : ℕ → Option Mapped → Option VolumeState → Type 0
  UnusedAt s c o = IfSome o (λ y. (v : ℕ) → is_member (active_of y.map) v ≡ false → own_entry c v ≡ own_entry (container_at pool.containers s) v)

  module _ (x : VolumeState) (there : state_at between x.slot ≡ Some x) (did : IsSlotPlaced mid held between slot x after left stay) (now : stay ≡ with_state between x.slot (Some did.now))
      (before : Machine) (was : IsHeld disk pool states before) (first : container_at held.containers x.slot ≡ container_at pool.containers x.slot) where
    -- the slot's own were as at first until now
    unused_here : UnusedAt x.slot (container_at left.containers x.slot) (state_at stay x.slot)
    unused_here =
        let own : IsHeldIn mid held x.slot x = subst (λ (o : Option VolumeState). IfSome o (IsHeldIn mid held x.slot)) there ((come.placed.held before was).each x.slot) in
        subst (UnusedAt x.slot (container_at left.containers x.slot)) (sym (one.here mid after held left between stay x did.now there now come.placed.fit.housed did.placed))
        (λ v out. did.placed.unused own.stands v out ∙ ap (λ (c : Option Mapped). own_entry c v) first)

    unused_more : LeavesUnused pool left stay
    unused_more s = ⊎_elim
        (λ (here : s ≡ x.slot). subst (λ (n : ℕ). UnusedAt n (container_at left.containers n) (state_at stay n)) (sym here) unused_here)
        (λ (differ : s ≢ x.slot). subst (λ (c : Option Mapped). UnusedAt s c (state_at stay s)) (sym (did.placed.goes.goes.goes.others s differ))
        (subst (UnusedAt s (container_at held.containers s)) (sym (one.other mid after held left between stay x did.now there now come.placed.fit.housed did.placed s differ)) (come.placed.unused before was s)))
        (cases_eq s x.slot)

  -- a slot with a volume
  with_volume : container_at held.containers slot ≡ container_at pool.containers slot → (x : VolumeState) → state_at between slot ≡ Some x → IsSlotPlaced mid held between slot x after left stay → HasCome disk pool states after left stay
  with_volume first x there did =
      let ready : IsReadyIn mid held slot x = subst (λ (o : Option VolumeState). IfSome o (IsReadyIn mid held slot)) there (come.ready slot) in
      let here : state_at between x.slot ≡ Some x = ap (state_at between) ready.slot ∙ there in
      let now : stay ≡ with_state between x.slot (Some did.now) = did.row ∙ ap (λ (s : ℕ). with_state between s (Some did.now)) (sym ready.slot) in
      record {
        placed = record {
          held = λ before was. held_still mid after held left between stay x did.now here now come.placed.fit did.placed before (come.placed.held before was);
          machine = λ before was. machine_still mid after held left between stay x did.now here now come.placed.fit did.placed before (come.placed.held before was) ∙ come.placed.machine before was;
          fit = fit_still mid after held left between stay x did.now here now come.placed.fit did.placed;
          found = did.placed.goes.goes.goes.found ∙ come.placed.found;
          version = did.placed.goes.goes.goes.version ∙ come.placed.version;
          committed = did.placed.goes.goes.goes.committed ∙ come.placed.committed;
          cores = λ s. one.cores_still mid after held left between stay x did.now here now come.placed.fit.housed did.placed s ∙ come.placed.cores s;
          asked = asked_still mid after held left between stay x did.now here now come.placed.fit did.placed ready.ready ∙ come.placed.asked;
          all = all_still mid after held left between stay x did.now here now come.placed.fit did.placed ∙ come.placed.all;
          waiting = waiting_still mid after held left between stay x did.now here now come.placed.fit did.placed ∙ come.placed.waiting;
          spent = λ before was room.
              let first = come.placed.spent before was room in
              let second = spent_still mid after held left between stay x did.now here now come.placed.fit did.placed before (come.placed.held before was) (room_now first room) in
              record { fewer = omega (arith, first.fewer, second.fewer); numbers = second.numbers; blocks = omega (arith, first.blocks, second.blocks) };
          others = λ s. others_still mid after held left between stay x did.now here now come.placed.fit did.placed ready.ready s ∙ come.placed.others s;
          entries = entries_then pool.map held.map pool.containers held.containers left.containers come.placed.committed come.placed.entries
              (entries_still mid after held left between stay x did.now here now come.placed.fit did.placed);
          shapes = λ s. shape_then (container_at pool.containers s) (container_at held.containers s) (container_at left.containers s) (come.placed.shapes s)
              (shapes_still mid after held left between stay x did.now here now come.placed.fit did.placed s);
          parents = did.placed.goes.goes.goes.parents ∙ come.placed.parents;
          unused = λ before was. unused_more x here did now before was (subst (λ (s : ℕ). container_at held.containers s ≡ container_at pool.containers s) (sym ready.slot) first);
          rest = λ s none.
              let first = come.placed.rest s none in
              let second = rest_still mid after held left between stay x did.now here now come.placed.fit did.placed s (subst HasNoFiles (sym first.0) none) in
              (second.0 ∙ first.0, second.1 ∙ first.1);
          only_reads = reads_then disk mid after come.placed.only_reads (one.only_read mid after held left between stay x did.now here now come.placed.fit.housed did.placed);
          idle = λ none.
              let first = come.placed.idle none in
              let files : HasNoFiles (state_at between slot) = subst (λ (xs : States). HasNoFiles (state_at xs slot)) (sym first.1) (none slot) in
              let second = one.idle_still mid after held left between stay x did.now here now come.placed.fit.housed did.placed (subst HasNoFiles there files) in
              (subst (LoadsPool disk pool) (sym second.0) first.0, second.1 ∙ first.1);
        };
        ready = one.ready_still mid after held left between stay x did.now here now come.placed.fit.housed did.placed come.ready;
        stands = did.placed.ready.lent.stands;
      }

  -- a slot without one
  without : after ≡ mid → left ≡ held → stay ≡ between → HasCome disk pool states after left stay
  without e f g = subst (λ (d : Shown). HasCome disk pool states d left stay) (sym e) (subst (λ (p : Pool). HasCome disk pool states mid p stay) (sym f)
      (subst (λ (xs : States). HasCome disk pool states mid held xs) (sym g) come))

  pub come_more : container_at held.containers slot ≡ container_at pool.containers slot → PlacesSlot mid held between slot (state_at between slot) after left stay → (state_at between slot ≡ None → (left ≡ held) × ((stay ≡ between) × (after ≡ mid)))
      → HasCome disk pool states after left stay
  come_more first did idle = by (state_at between slot) refl did
    where
      by : (o : Option VolumeState) → state_at between slot ≡ o → PlacesSlot mid held between slot o after left stay → HasCome disk pool states after left stay
      by None none did = let all = idle none in without all.1.1 all.0 all.1.0
      by (Some x) there did = with_volume first x there did

  other_slot : (s : ℕ) → s ≢ slot → PlacesSlot mid held between slot (state_at between slot) after left stay → (state_at between slot ≡ None → stay ≡ between) → state_at stay s ≡ state_at between s
  other_slot s differ did idle = by (state_at between slot) refl did
    where
      by : (o : Option VolumeState) → state_at between slot ≡ o → PlacesSlot mid held between slot o after left stay → state_at stay s ≡ state_at between s
      by None none did = ap (λ (xs : States). state_at xs s) (idle none)
      by (Some x) there did = ap (λ (xs : States). state_at xs s) did.row ∙ get_or-set_other between slot s (Some did.now) None differ

  -- the container of another slot stays
  other_container : (s : ℕ) → s ≢ slot → PlacesSlot mid held between slot (state_at between slot) after left stay → (state_at between slot ≡ None → left ≡ held) → container_at left.containers s ≡ container_at held.containers s
  other_container s differ did idle = by (state_at between slot) refl did
    where
      by : (o : Option VolumeState) → state_at between slot ≡ o → PlacesSlot mid held between slot o after left stay → container_at left.containers s ≡ container_at held.containers s
      by None none did = ap (λ (p : Pool). container_at p.containers s) (idle none)
      by (Some x) there did =
          let ready : IsReadyIn mid held slot x = subst (λ (o : Option VolumeState). IfSome o (IsReadyIn mid held slot)) there (come.ready slot) in
          did.placed.goes.goes.goes.others s (λ same. differ (same ∙ ready.slot))

  -- a slot without files in memory leaves all
  idle_more : HasNoFiles (state_at between slot) → PlacesSlot mid held between slot (state_at between slot) after left stay → (state_at between slot ≡ None → (left ≡ held) × ((stay ≡ between) × (after ≡ mid))) → (left ≡ held) × (stay ≡ between)
  idle_more none did idle = by (state_at between slot) refl did none
    where
      by : (o : Option VolumeState) → state_at between slot ≡ o → PlacesSlot mid held between slot o after left stay → HasNoFiles o → (left ≡ held) × (stay ≡ between)
      by None at did none = let all = idle at in (all.0, all.1.0)
      by (Some x) at did none =
          let ready : IsReadyIn mid held slot x = subst (λ (o : Option VolumeState). IfSome o (IsReadyIn mid held slot)) at (come.ready slot) in
          let here : state_at between x.slot ≡ Some x = ap (state_at between) ready.slot ∙ at in
          let now : stay ≡ with_state between x.slot (Some did.now) = did.row ∙ ap (λ (s : ℕ). with_state between s (Some did.now)) (sym ready.slot) in
          one.idle_still mid after held left between stay x did.now here now come.placed.fit.housed did.placed none

  pub passed_more : ((s : ℕ) → slot ≤ s → container_at held.containers s ≡ container_at pool.containers s) → ((s : ℕ) → slot ≤ s → state_at between s ≡ state_at states s)
      → (((s : ℕ) → s < slot → HasNoFiles (state_at states s)) → (held ≡ pool) × (between ≡ states)) → ((s : ℕ) → s < slot → HasNoFiles (state_at between s)) → ((s : ℕ) → s < slot → HasWholeMap (state_at between s))
      → HasNoFiles (state_at stay slot) → HasWholeMap (state_at stay slot)
      → PlacesSlot mid held between slot (state_at between slot) after left stay → (state_at between slot ≡ None → (left ≡ held) × ((stay ≡ between) × (after ≡ mid)))
      → HasPassed disk pool states (slot + 1) after left stay
  passed_more ahead waits first done whole none long did idle = record {
    come = come_more (ahead slot (omega arith)) did idle;
    ahead = λ s past. other_container s (λ e. absurd (omega (arith, past, e))) did (λ e. (idle e).0) ∙ ahead s (omega (arith, past));
    waits = λ s past. other_slot s (λ e. absurd (omega (arith, past, e))) did (λ e. (idle e).1.0) ∙ waits s (omega (arith, past));
    first = λ none.
        let before = first (λ s low. none s (omega (arith, low))) in
        let now = idle_more (subst HasNoFiles (sym (waits slot (omega arith))) (none slot (omega arith))) did idle in
        (now.0 ∙ before.0, now.1 ∙ before.1);
    done = λ s low. also HasNoFiles done none s low;
    whole = λ s low. also HasWholeMap whole long s low;
  }
    where
      also : (P : Option VolumeState → Type 0) → ((s : ℕ) → s < slot → P (state_at between s)) → P (state_at stay slot) → (s : ℕ) → s < slot + 1 → P (state_at stay s)
      also P before here s low = ⊎_elim
          (λ (e : s ≡ slot). subst (λ (n : ℕ). P (state_at stay n)) (sym e) here)
          (λ (differ : s ≢ slot). subst P (sym (other_slot s differ did (λ e. (idle e).1.0))) (before s (omega (arith, low, differ))))
          (cases_eq s slot)

-- what holds of the first slots holds of each: behind them there is none
pub all_slots : (P : Option VolumeState → Type 0) → P None → (states : States) → length states ≡ 64 → (count : ℕ) → 64 ≤ count → ((s : ℕ) → s < count → P (state_at states s)) → (s : ℕ) → P (state_at states s)
all_slots P none states long count all was s = ⊎_elim
    (λ (low : s < 64). was s (omega (arith, low, all)))
    (λ (past : 64 ≤ s). subst P (sym (get_or_past states s None (omega (arith, long, past)))) none)
    (cases_lt s 64)

-- ---- where a slot fails

-- the cache tells what the disk reads still
stands_on : (now after : Shown) (pairs : List (ℕ × List ℕ)) → after.tells ≡ now.tells → after.reads ≡ now.reads → StandsOn now pairs → StandsOn after pairs
stands_on now after pairs tells reads stands = record { same = λ told pvbn block held. stands.same (subst IsTrue tells told) pvbn block held ∙ ap (λ (i : Image). i pvbn) (sym reads) }

-- placing may fail over a disk that tells and reads the same
pub may_on : (now after : Shown) (pool : Pool) (o : Option VolumeState) (e : VolumeFault) → after.tells ≡ now.tells → after.reads ≡ now.reads → MayFail now pool o e → MayFail after pool o e
may_on now after pool None e tells reads may = may
may_on now after pool (Some x) e tells reads may = by e (subst (λ (d : Shown). MayFail d pool (Some x) e) (λ j. record now { tells = sym tells j; reads = sym reads j }) may)
  where
    by : (e : VolumeFault) → MayFail (record now { tells = after.tells; reads = after.reads }) pool (Some x) e → MayFail after pool (Some x) e
    by (Refused r) may = may
    by DiskFault may = may
    by (Damaged at want found) may = may
    by Memory may = may

pub lacks_place : (disk : Shown) (pool : Pool) (states : States) (now : Shown) (held : Pool) (between : States) → HasCome disk pool states now held between → (slot : ℕ) → ((s : ℕ) → slot ≤ s → container_at held.containers s ≡ container_at pool.containers s)
    → ((s : ℕ) → slot ≤ s → state_at between s ≡ state_at states s) → (HaveNoneBefore states slot → (held ≡ pool) × (between ≡ states)) → HaveNoneBefore between slot → (after : Shown) → OnlyReads now after → (e : VolumeFault) → MayFail now held (state_at between slot) e → FailsToPlace disk pool states after e
lacks_place disk pool states now held between come slot ahead waits first done after reads e fails = by (state_at between slot) refl fails
  where
    placed : ArePlaced disk pool states after held between
    placed = placed_loaded disk now after pool held held states between come.placed (loads_none now held) reads (stands_on now after held.store.pairs reads.stays.tells reads.stays.reads come.stands)

    by : (o : Option VolumeState) → state_at between slot ≡ o → MayFail now held o e → FailsToPlace disk pool states after e
    by None there fails = absurd fails
    by (Some x) there fails = record {
      mid = held;
      between = between;
      placed = placed;
      slot = slot;
      entries = ahead slot (omega arith);
      state = x;
      there = there;
      own = sym (waits slot (omega arith)) ∙ there;
      done = done;
      ahead = λ s behind. (waits s behind, ahead s behind);
      first = first;
      fails = may_on now after held (Some x) e reads.stays.tells reads.stays.reads fails;
    }

-- what was read where a slot was placed, or not
pub slot_reads : (mid : Shown) (held : Pool) (between : States) (slot : ℕ) (after : Shown) (left : Pool) (stay : States) → PlacesSlot mid held between slot (state_at between slot) after left stay → (state_at between slot ≡ None → after ≡ mid) → OnlyReads mid after
slot_reads mid held between slot after left stay did idle = by (state_at between slot) refl did
  where
    by : (o : Option VolumeState) → state_at between slot ≡ o → PlacesSlot mid held between slot o after left stay → OnlyReads mid after
    by None none did = subst (OnlyReads mid) (sym (idle none)) (only_itself mid)
    by (Some x) there did = did.placed.goes.goes.goes.only_reads

-- it does so with files in memory alone
pub files_there : (disk : Shown) (pool : Pool) (states : States) (after : Shown) (e : VolumeFault) → FailsToPlace disk pool states after e → HaveNoFiles states → ⊥
files_there disk pool states after e lacks none =
    let still : state_at states lacks.slot ≡ Some lacks.state = ap (λ (xs : States). state_at xs lacks.slot) (sym (lacks.placed.idle none).1) ∙ lacks.there in
    true≢false (sym lacks.fails.0 ∙ ap is_some (subst HasNoFiles still (none lacks.slot)))

-- ---- the count of faults

-- What placing tells of the count of faults, where it stayed before.
pub cause_on : (old mid new : Shown) (r : Result Unit VolumeFault) → mid.faults ≡ old.faults → HasPlaceCause mid new r → HasPlaceCause old new r
cause_on old mid new (Ok done) same cause = cause ∙ same
cause_on old mid new (Err (Refused x)) same cause = absurd cause
cause_on old mid new (Err DiskFault) same cause = subst (λ (n : ℕ). Rose n new.faults) same cause
cause_on old mid new (Err (Damaged at want found)) same cause = cause ∙ same
cause_on old mid new (Err Memory) same cause = cause ∙ same
