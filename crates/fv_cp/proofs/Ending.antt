-- What a consistency point ends with: once all slots are passed the volumes stand under the labels of the new
-- root, and then that counts.
use Rattle.std.proofs.Common.{◌≡◌, ℕ, ◌<◌, ◌≤◌, false, List, length, get_or, refl, sym, ap, subst, ◌∙◌, Ok, Bool, true, ◌||◌, ◌⊎◌, arith}
use Rattle.std.proofs.lemmas.Bool.{both_ways, or_right, true≢false}
use Rattle.std.specs.Prelude.{Option, Some, None, IfSome, IsTrue}
use Rattle.std.specs.FinMap as fin
use Rattle.std.specs.Option.{option_map}
use Rattle.std.specs.Ordering.{nat_cmp}
use Rattle.fv_disk.specs.Shown.{Image, Shown}
use Rattle.fv_disk.specs.Crash.{Leaves}
use Rattle.fv_disk.proofs.Resting.{settled_image}
use Rattle.fv_bits.specs.Members.{is_member}
use Rattle.fv_codec.specs.declared.root.Root.{Root}
use Rattle.fv_model.specs.Machines.{Machine}
use Rattle.fv_image.specs.NewerRoot.{Taken}
use Rattle.fv_image.specs.Views.{View, entry_count}
use Rattle.fv_image.specs.Held.{AgreeOnHeld, Keeps, label_place, layout_at, view_at, with_bits}
use Rattle.fv_image.specs.Soundness.{AreMaps, AreTables}
use Rattle.fv_image.specs.Staying.{StaysHeld}
use Rattle.fv_image.specs.WholeMachine.{Tells, machine_of, machine_from}
use Rattle.fv_image.proofs.Points.{built_stays}
use Rattle.fv_image.proofs.SameLayout.{held_with_bits, same_view}
use Rattle.fv_image.proofs.SameSeen.{same_seen, same_told}
use Rattle.fv_image.proofs.SoundSlots.{held_lies}
use Rattle.fv_image.proofs.SoundTests.{machine_under, tells_from}
use Rattle.fv_container.specs.Mapped.{Mapped}
use Rattle.fv_container.specs.Paged.{Paged}
use Rattle.fv_container.specs.Clean.{IsCleanOn}
use Rattle.fv_container.specs.Spelled.{is_at}
use Rattle.fv_container.proofs.Clean.{clean_still}
use Rattle.fv_cp.proofs.Stepping.{clean_lent}
use Rattle.fv_container.specs.Chains.{Slots, container_at, map_in, own_entry, paged_at, parent_at}
use Rattle.fv_root.specs.declared.find.Found.{Found}
use Rattle.fv_root.specs.Finding.{IsInRange, root_found}
use Rattle.fv_root.specs.Commits.{IsCommitted, IsFoundOn, OldOrNew, next_found}
use Rattle.fv_root.proofs.Crashes.{IsReadyFor, new_machine}
use Rattle.fv_store.specs.Held.{StandsOn}
use Rattle.fv_aggmap.specs.Space.{Space}
use Rattle.fv_pool.specs.declared.pool.Pool.{Pool}
use Rattle.fv_volume.specs.declared.state.VolumeState.{VolumeState}
use Rattle.fv_volumes.specs.Housed.{AreHoused, as_written, settled_as, settled_at}
use Rattle.fv_pool.specs.Keeping.{Blocks, seen as block_seen, seen}
use Rattle.fv_volume.specs.Loading.{IsLoaded, label_of}
use Rattle.fv_volume.specs.States.{States, label_in_state, placed_in, state_at, view_over}
use Rattle.fv_volume.specs.Trees.{active_in, no_trees}
use Rattle.fv_volume.specs.Stored.{AreApartIn, AreSpacedIn, has_block, is_of, leads, stays}
use Rattle.fv_volume.specs.Writing.{on_disk}
use Rattle.fv_volumes.proofs.HeldAlone.{of_each}
use Rattle.fv_volumes.specs.Footing.{AreFooted}
use Rattle.fv_volumes.proofs.LentSlots.{lent_apart, lent_from_loaded, loaded_from_lent, lent_slot}
use Rattle.fv_volumes.proofs.LoadedBase.{loaded_all}
use Rattle.fv_volumes.proofs.Settled.{heads_stay, housed_after, same_stay, settled_same, settled_slots, settled_span, unchanged_stay, settled_written}
use Rattle.fv_volumes.proofs.SettledFooted.{knows_settled}
use Rattle.fv_volumes.proofs.StandingMaps.{loaded_maps}
use Rattle.fv_volumes.proofs.Spacing.{spaced_same}
use Rattle.fv_volumes.proofs.StaysStates.{active_same, reach_stays, states_stay}
use Rattle.fv_volumes.proofs.StillLoaded.{still_loaded, still_stands}
use Rattle.fv_volumes.proofs.StoredTold.{entry_stays, stays_in, past_clear, stands_for, tables_now, uses_there}
use Rattle.fv_volumes.proofs.StoredTold.{stays_now as stays_now_told}
use Rattle.fv_volumes.proofs.Told.{head_at, is_inside}
use Rattle.fv_volumes.proofs.Viewed.{entry_of}
use Rattle.fv_volumes.proofs.Waiting.{none_waits}
use Rattle.fv_cp.specs.Course.{HasCome, IsOnCourse, as_lent, found_with, root_with, label_lent, renewed, IsCourse}
use Rattle.fv_cp.specs.Lent.{FitTogether, IsLent, IsLentAt}
use Rattle.fv_cp.specs.Points.{GoesOn, IsNew, IsNextRoot, IsOld, IsPoint, IsSwitched, LeavesEntries, OldOrLent, is_due, machine_lent}
use Rattle.fv_cp.specs.Choosing.{CountsMissing, LeavesRoom, has_slot, holding_with, holdings, lacking, marked_as, marked_at, regions_chosen}
use Rattle.fv_cp.specs.Known.{AreKnown}
use Rattle.fv_cp.proofs.Known.{known_left, known_same}
use Rattle.fv_cp.proofs.LeftDelayed.{delayed_left, holdings_shown}
use Rattle.fv_cp.proofs.Marking.{chosen_marked, chosen_still, heads_marked, holdings_marked, machine_marked, missing_still, view_marked}
use Rattle.fv_cp.proofs.Room.{counts_missing, leaves}
use Rattle.fv_delay.specs.declared.regions.Region.{Region}
use Rattle.fv_delay.specs.Delay.{is_delayed, region_of}
use Rattle.fv_delay.specs.Holding.{AreHoldingsOf, AreLeft, Holding, all_delayed, has_region}
use Rattle.fv_volumes.proofs.RootFound.{found_still, map_now, next_in_range}
use Rattle.std.proofs.lemmas.Option.{none-some, same_Some}
use Rattle.fv_image.specs.Reclaimed.{IsAllocatable}
use Rattle.fv_volume.specs.Files.{HasOwnSlots, IsLabelled}
use Rattle.fv_volumes.specs.UnderRoot.{AllStandUnder, StandsUnder}
use Rattle.fv_volumes.proofs.Emptied.{none_stands}
use Rattle.fv_volumes.proofs.Staying.{place_is}
use Rattle.fv_volumes.proofs.StoredSlot.{stored_stands}
use Rattle.fv_volumes.proofs.Reclaiming.{maps_left}
use Rattle.fv_cp.proofs.CourseEntries.{block_kept, hole_kept}
use Rattle.fv_cp.proofs.Crashing.{old_stays, switching}

-- ---- what a point ends with

-- ---- whatever the disk tells

module _ (regions : ℕ → ℕ → Bool) (disk : Shown) (pool : Pool) (states : States) (fit : FitTogether pool states) (labels : List ℕ) (left : Pool) (mid : Shown) (told : Type 0) (come : HasCome regions told disk pool states 64 labels left mid) where
  -- what was found counts until the switch
  pub found_left : (IsTrue disk.tells → IsFoundOn disk pool.found) → IsTrue mid.tells → IsFoundOn mid left.found
  found_left found told =
      let tells : IsTrue disk.tells = subst IsTrue come.spares.counted.tells told in
      subst (λ (x : Found). IsFoundOn mid x) (sym come.found) (found_still pool.found (on_disk pool.map) disk mid (Ok tt) come.spares tells (found tells))

  module _ (new : Shown) (last : Pool) (stay : States) (switched : IsSwitched left (root_with pool labels) last) (containers : last.containers ≡ left.containers) (kept : last.kept ≡ left.kept) (settled : (s : ℕ) → state_at stay s ≡ settled_at labels states s) where
    pub found_last : last.found ≡ found_with pool labels
    found_last = switched.found ∙ ap (λ (x : Found). next_found x (root_with pool labels)) come.found

    pub goes_on : (given : States) (marks : ℕ → Bool) → ((s : ℕ) → state_at states s ≡ option_map (marked_as (marks s)) (state_at given s))
        → (IsTrue mid.tells → IsCommitted mid left.found (root_with pool labels) left.map.next new) → StandsOn new last.store.pairs → length stay ≡ 64 → GoesOn disk pool given new last stay
    goes_on given marks marked committed stands long = record {
      stands = stands;
      next = subst (λ (x : Found). IsNextRoot pool.found x) (sym found_last) (record { slot = refl; generation = refl });
      version = switched.version ∙ come.version;
      root_version = ap (λ (x : Found). x.root.version) found_last;
      found = λ tells. subst (λ (x : Found). IsFoundOn new x) (sym switched.found) (done tells).stands;
      loaded = λ tells. map_now mid left.found (root_with pool labels) left.map.next new (done tells) last.found last.map switched.found switched.map switched.size;
      fit = record {
        range = subst IsInRange (sym found_last) (next_in_range pool.found (root_with pool labels) fit.range (record { least = omega (arith, fit.version, fit.range.root.least); greatest = omega (arith, fit.version, fit.range.root.greatest); labels = come.places }));
        size = switched.size ∙ sym (ap (λ (x : Found). x.blocks) switched.found);
        version = switched.version ∙ come.version ∙ sym (ap (λ (x : Found). x.root.version) found_last);
        housed = housed_after states stay labels settled last.containers long (subst (λ (x : Slots). AreHoused x states) (sym containers) come.housed);
        kept = λ b taken. ap (λ (k : Blocks). fin.get k b) (kept ∙ come.kept) ∙ fin.get-empty nat_cmp b;
      };
      unkept = kept ∙ come.kept;
      settled = λ s. (marks s, (get_or labels s 0, settled s ∙ ap (option_map (settled_as (get_or labels s 0))) (marked s)));
      free = λ s inside none. ap (λ (x : Found). label_place (root_found x) s) found_last ∙ place_is (found_with pool labels) s inside ∙ come.free s inside (was (state_at states s) (get_or labels s 0) (sym (settled s) ∙ none));
      parents = λ s. ap (λ (x : Slots). parent_at x s) containers ∙ come.housed.parents s ∙ sym (fit.housed.parents s);
      blocks = ap (λ (x : Found). x.blocks) found_last;
    }
      where
        done : IsTrue disk.tells → IsCommitted mid left.found (root_with pool labels) left.map.next new
        done tells = committed (subst IsTrue (sym come.spares.counted.tells) tells)

        was : (o : Option VolumeState) (label : ℕ) → ◌≡◌ {A = Option VolumeState} (option_map (settled_as label) o) None → o ≡ None
        was None label e = refl
        was (Some x) label e = cc

-- ---- over a disk

-- The volumes are those of before, marked where one of the chosen regions is theirs, and these regions are reclaimed.
module _ (disk : Shown) (pool : Pool) (states : States) (before : Machine) (lent : IsLent disk pool states before) (fit : FitTogether pool states) (labels : List ℕ) (left : Pool) (mid : Shown) (given : States) (want : ℕ)
    (leaves_told : Type 0) (come : HasCome (has_region (regions_chosen pool given want)) leaves_told disk pool states 64 labels left mid) (tells : IsTrue disk.tells) (leaves_here : leaves_told) (marked : (s : ℕ) → state_at states s ≡ marked_at (has_slot (regions_chosen pool given want)) given s) (housed : length given ≡ 64) where
  abbrev list : List Region
  list = regions_chosen pool given want

  abbrev regions : ℕ → ℕ → Bool
  regions = has_region list

  abbrev root : Root
  root = root_with pool labels

  abbrev f : Found
  f = found_with pool labels

  abbrev u : Taken
  u = root_found f

  abbrev m : Machine
  m = machine_lent disk pool states

  abbrev w : View
  w = view_over pool states disk.reads

  told : IsTrue mid.tells
  told = subst IsTrue (sym come.spares.counted.tells) tells

  -- each clone stands on a snapshot of another volume
  footed : AreFooted states pool.containers
  footed = loaded_all disk pool states fit.housed.long lent.tables lent.knows fit.housed.volumes lent.reach

  -- ---- all slots are passed

  pub is : IsCourse regions pool states (seen pool.kept disk.reads) 64 labels left.map.next left.containers mid.reads
  is = come.written tells before lent leaves_here

  agrees : AgreeOnHeld (root_found pool.found) disk.reads mid.reads
  agrees = old_stays disk pool states before lent mid (Ok tt) come.spares tells

  -- each is settled then
  pub settled_is : (s : ℕ) → s < 64 → settled_at labels states s ≡ is.now s
  settled_is s inside = by (is.each s inside)
    where
      by : IsOnCourse regions pool states (seen pool.kept disk.reads) 64 s (is.now s) (get_or labels s 0) (paged_at left.containers s) mid.reads → settled_at labels states s ≡ is.now s
      by (renewed x low there changed now r) = settled_written (state_at states s) x (get_or labels s 0) there changed ∙ sym now
      by (as_lent waits at) = settled_same (state_at states s) (get_or labels s 0) (none_waits (state_at states s) s inside waits) ∙ sym at.state

  labelled : (s : ℕ) (x : VolumeState) → state_at states s ≡ Some x → IsLabelled s x
  labelled s x there = subst (λ (o : Option VolumeState). IfSome o (IsLabelled s)) there (fit.housed.volumes s)

  stands : (s : ℕ) → s < 64 → StandsUnder mid.reads f s (settled_at labels states s) (paged_at left.containers s)
  stands s inside = subst (λ (o : Option VolumeState). StandsUnder mid.reads f s o (paged_at left.containers s)) (sym (settled_is s inside)) (by (is.each s inside))
    where
      as_it_was : (o : Option VolumeState) (c : Option Paged) → get_or labels s 0 ≡ label_lent o (get_or pool.found.root.labels s 0) → IsLentAt disk.reads pool.found s o c → IfSome o (λ x. x.changed ≡ false) → StandsUnder mid.reads f s o c
      as_it_was None None named slot unchanged = none_stands f mid.reads s (place_is f s inside ∙ named)
      as_it_was None (Some map) named slot unchanged = absurd slot
      as_it_was (Some x) None named slot unchanged = absurd slot
      as_it_was (Some x) (Some map) named slot unchanged =
          still_stands pool.found f disk.reads mid.reads s inside (place_is f s inside ∙ named ∙ sym (place_is pool.found s inside)) agrees lent.tells.sound refl (Some x) (Some map) (slot.unchanged unchanged)

      by : IsOnCourse regions pool states (seen pool.kept disk.reads) 64 s (is.now s) (get_or labels s 0) (paged_at left.containers s) mid.reads → StandsUnder mid.reads f s (is.now s) (paged_at left.containers s)
      by (renewed x low there changed now r) =
          let lies : (b : ℕ) → is_of x (get_or labels s 0) r.new.map b ≡ true → IsAllocatable u.blocks b = λ b of. (is.spaced.held s b inside ((λ k. has_block (now k) (map_in (r.now k)) b) ∙ of)).1 in
          subst (λ (o : Option VolumeState). StandsUnder mid.reads f s o (paged_at left.containers s)) (sym now) (subst (λ (c : Option Paged). StandsUnder mid.reads f s (Some (as_written x (get_or labels s 0))) c) (sym r.now)
          (stored_stands f mid.reads s x r.mid.map (get_or labels s 0) r.new r.stored r.memory (place_is f s inside) (labelled s x there) r.valid disk.reads pool.found
          (maps_left s x (labelled s x there) (regions s) r.old r.mid r.reclaimed disk.reads pool.found (lent_slot disk.reads pool.found s (state_at states s) (paged_at pool.containers s) x r.old there r.was (lent.slots s inside)).maps) agrees
          (past_clear pool states disk.reads fit.housed lent.tables lent.reach footed s x inside there) lies))
      by (as_lent waits at) =
          subst (λ (o : Option VolumeState). StandsUnder mid.reads f s o (paged_at left.containers s)) (sym at.state) (subst (λ (c : Option Paged). StandsUnder mid.reads f s (state_at states s) c) (sym at.lies)
          (as_it_was (state_at states s) (paged_at pool.containers s) at.named (lent.slots s inside) (none_waits (state_at states s) s inside waits)))

  pub all_stand : AllStandUnder pool states disk.reads f labels left.map.next (paged_at left.containers) mid.reads
  all_stand = record {
    each = stands;
    kept = block_kept regions disk pool states before lent fit labels left.map.next left.containers mid.reads is;
    holes = hole_kept regions disk pool states before lent fit labels left.map.next left.containers mid.reads is;
    spaced = spaced_same pool.found.blocks left.map.next is.now (settled_at labels states) (container_at left.containers) (container_at left.containers) settled_is (λ s inside. refl) is.spaced;
  }

  -- ---- the space rule

  shown_now : AreHoldingsOf (view_at u mid.reads) (λ s. holding_with (is.now s) (container_at left.containers s))
  shown_now = holdings_shown f mid.reads is.now (paged_at left.containers)
      (λ s inside. subst (λ (o : Option VolumeState). IsLoaded mid.reads f s o (paged_at left.containers s)) (settled_is s inside) (stands s inside).loaded)
      (λ s inside. subst (λ (o : Option VolumeState). IfSome o HasOwnSlots) (settled_is s inside) (settled_slots s (state_at states s) (get_or labels s 0) (fit.housed.volumes s)))
      (λ s inside. subst (λ (o : Option VolumeState). IfSome o (λ x. x.map.span ≡ x.span)) (settled_is s inside) (settled_span s (state_at states s) (get_or labels s 0) (fit.housed.volumes s)))

  -- the volumes at the end
  abbrev now_held : ℕ → Option Holding
  now_held s = holding_with (is.now s) (container_at left.containers s)

  left_delayed : AreLeft regions (holdings pool.containers states) now_held
  left_delayed = delayed_left regions pool states fit.housed (chosen_marked list given states marked) (seen pool.kept disk.reads) mid.reads labels left.map.next left.containers is

  stays_written : StaysHeld w (view_at u mid.reads)
  stays_written = stays_now_told pool states disk.reads fit.housed lent.tables lent.reach footed f labels left.map.next (paged_at left.containers) mid.reads refl refl all_stand

  -- it holds once the chosen regions were reclaimed
  room_left : LeavesRoom (view_at u mid.reads) want
  unfolding layout_at view_at
  room_left = leaves pool states disk.reads fit.housed fit.range.size lent.states (view_at u mid.reads) stays_written.heads (same_seen w (view_at u mid.reads) stays_written lent.tables.bases lent.tables.rests) refl
      (tables_now pool states disk.reads fit.housed lent.tables lent.reach footed f labels left.map.next (paged_at left.containers) mid.reads refl refl all_stand)
      (uses_there pool states disk.reads fit.housed lent.tables lent.reach footed f labels left.map.next (paged_at left.containers) mid.reads refl refl all_stand)
      list want (sym (chosen_still pool given states (has_slot list) marked housed fit.housed.long want)) now_held left_delayed shown_now

  -- and they were chosen for just what it lacked
  missing_left : AreMaps (view_at u mid.reads) → CountsMissing pool given (view_at u mid.reads) want
  unfolding layout_at view_at
  missing_left maps fits =
      sym (missing_still pool given states (has_slot list) marked housed fit.housed.long want)
      ∙ counts_missing pool states disk.reads fit.housed fit.range.size lent.states (view_at u mid.reads) stays_written.heads (same_seen w (view_at u mid.reads) stays_written lent.tables.bases lent.tables.rests) refl
      (tables_now pool states disk.reads fit.housed lent.tables lent.reach footed f labels left.map.next (paged_at left.containers) mid.reads refl refl all_stand) maps want fits
      ∙ ap (λ (h : ℕ → Option Holding). lacking (view_at u mid.reads) (all_delayed h) want) (holdings_marked pool.containers given states (has_slot list) marked)

  -- What lies on the disk is ready for the commit.
  pub ready : machine_from (with_bits (is_member left.map.next) (layout_at u mid.reads)) ≡ Some (machine_lent disk pool states)
  unfolding layout_at
  ready = stands_for pool states disk.reads fit.housed lent.tables lent.reach footed f labels left.map.next (paged_at left.containers) mid.reads refl refl all_stand lent.states.names room_left.rule lent.built

  -- ---- the new root

  -- The new root was written, too.
  pub moments : (new : Shown) → (IsTrue mid.tells → Leaves mid new (OldOrNew mid left.found root left.map.next)) → Leaves disk new (OldOrLent disk pool given before)
  moments new switched = subst (λ (k : Machine). Leaves disk new (λ c g. (IsOld disk pool before c ⊎ IsNew pool k c) × (g ≡ disk.given))) (machine_marked given states (has_slot list) marked disk pool) (switching disk pool states before lent mid (Ok tt) come.spares left.found root left.map.next new come.found (found_left regions disk pool states fit labels left mid leaves_told come (λ t. lent.found) told)
      (subst (λ (x : Found). IsReadyFor mid x root left.map.next m) (sym come.found) ready) (switched told))

  module _ (new : Shown) (committed : IsTrue mid.tells → IsCommitted mid left.found root left.map.next new) (last : Pool) (stay : States) (switched : IsSwitched left root last) (containers : last.containers ≡ left.containers) (kept : last.kept ≡ left.kept) (settled : (s : ℕ) → state_at stay s ≡ settled_at labels states s) where
    done : IsCommitted mid pool.found root left.map.next new
    done = subst (λ (x : Found). IsCommitted mid x root left.map.next new) come.found (committed told)

    found : last.found ≡ f
    found = found_last regions disk pool states fit labels left mid leaves_told come new last stay switched containers kept settled

    now_ready : IsReadyFor mid pool.found root left.map.next m
    now_ready = ready

    stands_now : machine_of new.reads ≡ Some m
    stands_now = new_machine mid pool.found root left.map.next m new.reads now_ready done.side

    tells_now : Tells (layout_at u new.reads) m
    tells_now = tells_from (layout_at u new.reads) m (sym (machine_under new.reads u done.side.counts) ∙ stands_now)

    -- what the new root holds is as it was written
    new_agrees : AgreeOnHeld u mid.reads new.reads
    unfolding layout_at view_at
    new_agrees b held = done.side.volumes b (held_lies (with_bits (is_member left.map.next) (layout_at u mid.reads)) b (tells_from (with_bits (is_member left.map.next) (layout_at u mid.reads)) m now_ready).sound.blocks
        (held_with_bits (is_member left.map.next) (layout_at u mid.reads) b ∙ held)).0

    same_now : view_at u new.reads ≡ view_at u mid.reads
    same_now = same_view u mid.reads new.reads new_agrees

    missing_now : CountsMissing pool given (view_at u new.reads) want
    unfolding layout_at
    missing_now = subst (λ (z : View). CountsMissing pool given z want) (sym same_now) (missing_left (subst AreMaps same_now tells_now.sound.maps))

    loaded_then : (s : ℕ) → s < 64 → IsLoaded new.reads f s (settled_at labels states s) (paged_at left.containers s)
    loaded_then s inside = still_loaded f f mid.reads new.reads s inside refl new_agrees (settled_at labels states s) (paged_at left.containers s) (all_stand.each s inside).loaded

    -- ---- the view

    entry_now : (s v : ℕ) → s < 64 → (view_over last stay new.reads).entry s v ≡ (view_at u new.reads).entry s v
    unfolding view_over view_at
    entry_now s v inside = (λ k. placed_in ((kept ∙ come.kept) k) new.reads (own_entry (container_at (containers k) s) v))
        ∙ entry_of fin.empty new.reads (λ b. fin.get-empty nat_cmp b) (label_of f new.reads s) (container_at left.containers s) v (loaded_then s inside).tree

    view_stays : ((view_over last stay new.reads).blocks ≡ w.blocks) × (((view_over last stay new.reads).version ≡ w.version) × ((s : ℕ) → (view_over last stay new.reads).head s ≡ w.head s))
    unfolding view_over
    view_stays = (ap (λ (x : Found). x.blocks) found, (switched.version ∙ come.version, heads_stay states stay labels settled))

    hole_now : (s v : ℕ) → own_entry (container_at left.containers s) v ≡ None → (view_over last stay new.reads).entry s v ≡ None
    unfolding view_over
    hole_now s v none = ap (λ (c : Slots). placed_in last.kept new.reads (own_entry (container_at c s) v)) containers ∙ ap (placed_in last.kept new.reads) none

    entry_same : (s v : ℕ) (x : VolumeState) → s < 64 → state_at states s ≡ Some x → stays x v ≡ true → (view_over last stay new.reads).entry s v ≡ w.entry s v
    entry_same s v x inside there on = entry_now s v inside ∙ ap (λ (z : View). z.entry s v) same_now
        ∙ entry_stays pool states disk.reads fit.housed lent.tables lent.reach footed f labels left.map.next (paged_at left.containers) mid.reads refl refl all_stand s v x inside there on

    stays_now : StaysHeld w (view_over last stay new.reads)
    stays_now = stays_in pool states disk.reads fit.housed lent.tables lent.reach footed (view_over last stay new.reads) view_stays.0 view_stays.1.0 view_stays.1.1 entry_same
        (λ s v x inside there low none. hole_now s v (hole_kept regions disk pool states before lent fit labels left.map.next left.containers mid.reads is s v x inside there low none))

    -- ---- the slots

    apart_now : (s : ℕ) → s < 64 → IfSome (settled_at labels states s) (λ x. IfSome (container_at left.containers s) (AreApartIn x))
    apart_now s inside = subst (λ (o : Option VolumeState). IfSome o (λ x. IfSome (container_at left.containers s) (AreApartIn x))) (sym (settled_is s inside)) (by (is.each s inside))
      where
        by : IsOnCourse regions pool states (block_seen pool.kept disk.reads) 64 s (is.now s) (get_or labels s 0) (paged_at left.containers s) mid.reads → IfSome (is.now s) (λ x. IfSome (container_at left.containers s) (AreApartIn x))
        by (renewed x low there changed now r) = subst (λ (o : Option VolumeState). IfSome o (λ x. IfSome (container_at left.containers s) (AreApartIn x))) (sym now) (subst (λ (c : Option Mapped). IfSome c (AreApartIn (as_written x (get_or labels s 0)))) (sym (ap map_in r.now)) r.stored.apart)
        by (as_lent waits at) = subst (λ (o : Option VolumeState). IfSome o (λ x. IfSome (container_at left.containers s) (AreApartIn x))) (sym at.state) (subst (λ (c : Option Mapped). IfSome (state_at states s) (λ x. IfSome c (AreApartIn x))) (sym (ap map_in at.lies)) (lent_apart disk.reads pool.found s (state_at states s) (paged_at pool.containers s) (lent.slots s inside)))

    -- the containers are clean still, since no node is a fixed block
    clean_then : (s : ℕ) → s < 64 → (x : VolumeState) (paged : Paged) → is.now s ≡ Some x → paged_at left.containers s ≡ Some paged → IsCleanOn mid.reads paged → IsCleanOn new.reads paged
    clean_then s inside x paged now lies clean = clean_still mid.reads new.reads paged
        (λ b named. done.side.volumes b (is.spaced.held s b inside ((λ k. has_block (now k) (map_in (lies k)) b) ∙ or_right (is_at b x.label) _ (ap (λ (t : Bool). t || leads paged.map (entry_count x.span) b) named))).1.0) clean

    clean_now : (s : ℕ) → s < 64 → IfSome (paged_at left.containers s) (IsCleanOn new.reads)
    clean_now s inside = by (is.each s inside)
      where
        of_lent : (o : Option VolumeState) (c : Option Paged) → IsLentAt disk.reads pool.found s o c → is.now s ≡ o → paged_at left.containers s ≡ c → IfSome c (IsCleanOn mid.reads) → IfSome c (IsCleanOn new.reads)
        of_lent None None slot now lies clean = tt
        of_lent None (Some paged) slot now lies clean = absurd slot
        of_lent (Some x) None slot now lies clean = tt
        of_lent (Some x) (Some paged) slot now lies clean = clean_then s inside x paged now lies clean

        by : IsOnCourse regions pool states (block_seen pool.kept disk.reads) 64 s (is.now s) (get_or labels s 0) (paged_at left.containers s) mid.reads → IfSome (paged_at left.containers s) (IsCleanOn new.reads)
        by (renewed x low there changed now r) = subst (λ (c : Option Paged). IfSome c (IsCleanOn new.reads)) (sym r.now)
            (clean_then s inside (as_written x (get_or labels s 0)) r.new now r.now (record { over = r.stored.over; here = r.memory.here; known = r.memory.known }))
        by (as_lent waits at) = subst (λ (c : Option Paged). IfSome c (IsCleanOn new.reads)) (sym at.lies)
            (of_lent (state_at states s) (paged_at pool.containers s) (lent.slots s inside) at.state at.lies (clean_lent disk pool states before lent tells mid come.spares s inside))

    lent_at_now : (s : ℕ) → s < 64 → IsLentAt new.reads f s (state_at stay s) (paged_at last.containers s)
    lent_at_now s inside = subst (λ (o : Option VolumeState). IsLentAt new.reads f s o (paged_at last.containers s)) (sym (settled s)) (subst (λ (c : Slots). IsLentAt new.reads f s (settled_at labels states s) (paged_at c s)) (sym containers)
        (lent_from_loaded new.reads f s (settled_at labels states s) (paged_at left.containers s) (loaded_then s inside) (apart_now s inside)
        (loaded_maps f new.reads s inside tells_now.sound (settled_at labels states s) (paged_at left.containers s) (loaded_then s inside) (settled_slots s (state_at states s) (get_or labels s 0) (fit.housed.volumes s))) (clean_now s inside)))

    -- ---- the point

    lent_now : IsLent new last stay m
    lent_now = record {
      found = subst (λ (x : Found). IsFoundOn new x) (sym found) done.stands;
      tells = subst (λ (x : Found). Tells (layout_at (root_found x) new.reads) m) (sym found) tells_now;
      keeps = λ c now. subst (λ (d : Image). Keeps (root_found last.found) new.reads d) (sym (settled_image new c done.settled now)) (record { root = done.side.counts ∙ ap (λ (x : Found). Some (root_found x)) (sym found); layout = refl });
      map = let is_map = map_now mid left.found root left.map.next new (committed told) last.found last.map switched.found switched.map switched.size in record { len = is_map.len; bits = is_map.bits };
      slots = λ s inside. subst (λ (x : Found). IsLentAt new.reads x s (state_at stay s) (paged_at last.containers s)) (sym found) (lent_at_now s inside);
      spaced = subst (λ (n : ℕ). AreSpacedIn n last.map.next (state_at stay) (container_at last.containers)) (ap (λ (x : Found). x.blocks) (sym found)) (subst (λ (x : Space). AreSpacedIn pool.found.blocks x.next (state_at stay) (container_at last.containers)) (sym switched.map)
          (spaced_same pool.found.blocks left.map.next (settled_at labels states) (state_at stay) (container_at left.containers) (container_at last.containers) (λ s inside. settled s) (λ s inside. ap (λ (c : Slots). container_at c s) containers) all_stand.spaced));
      states = states_stay w (view_over last stay new.reads) states fit.housed.long (head_at pool states disk.reads) stays_now lent.tables stay labels settled lent.states;
      built = built_stays w (view_over last stay new.reads) stays_now lent.tables.bases lent.tables.rests ∙ lent.built;
      tables = subst AreTables (sym (same_seen w (view_over last stay new.reads) stays_now lent.tables.bases lent.tables.rests)) lent.tables;
      reach = reach_stays w (view_over last stay new.reads) states fit.housed.long (head_at pool states disk.reads) stays_now lent.tables stay labels settled lent.reach;
      knows = knows_settled states stay (λ s. (get_or labels s 0, settled s)) lent.knows;
    }

    -- the label of a volume without a change stays where it was
    places_stay : (s : ℕ) → IfSome (state_at states s) (λ x. x.changed ≡ false → label_place u s ≡ label_place (root_found pool.found) s)
    places_stay = of_each states fit.housed.volumes (λ s o. IfSome o (λ x. x.changed ≡ false → label_place u s ≡ label_place (root_found pool.found) s)) (λ s. tt) (λ x there unchanged.
        let inside = is_inside states x.slot x fit.housed.long there in
        let same : IfSome (state_at states x.slot) (λ y. y.changed ≡ false) = subst (λ (o : Option VolumeState). IfSome o (λ y. y.changed ≡ false)) (sym there) unchanged in
        sym (loaded_then x.slot inside).label ∙ ap label_in_state (settled_same (state_at states x.slot) (get_or labels x.slot 0) same) ∙ (loaded_from_lent disk.reads pool.found x.slot (state_at states x.slot) (paged_at pool.containers x.slot) (lent.slots x.slot inside) same (λ none. absurd (none-some x (sym none ∙ there)))).label)

    -- each volume's table is told as before
    tables_stay : (s : ℕ) → IfSome (state_at states s) (λ x. active_in (view_over last stay new.reads) no_trees s ≡ active_in w no_trees s)
    tables_stay = of_each states fit.housed.volumes (λ s o. IfSome o (λ x. active_in (view_over last stay new.reads) no_trees s ≡ active_in w no_trees s)) (λ s. tt) (λ x there. active_same w (view_over last stay new.reads) states fit.housed.long (head_at pool states disk.reads) stays_now lent.tables x.slot x there)

    -- ---- the entries

    container_now : (s : ℕ) → container_at last.containers s ≡ container_at left.containers s
    container_now s = ap (λ (c : Slots). container_at c s) containers

    entries_left : (s : ℕ) (x : VolumeState) (map : Mapped) → s < 64 → state_at states s ≡ Some x → x.changed ≡ true → container_at pool.containers s ≡ Some map
        → (after : Mapped) × ((container_at last.containers s ≡ Some after) × LeavesEntries pool.map.committed (regions s) x map after)
    entries_left s x map inside there changed was = by (is.each s inside)
      where
        by : IsOnCourse regions pool states (block_seen pool.kept disk.reads) 64 s (is.now s) (get_or labels s 0) (paged_at left.containers s) mid.reads
            → (after : Mapped) × ((container_at last.containers s ≡ Some after) × LeavesEntries pool.map.committed (regions s) x map after)
        by (renewed y low here differs now r) =
            let same : y ≡ x = same_Some y x (sym here ∙ there) in
            let first : r.old.map ≡ map = same_Some r.old.map map (sym (ap map_in r.was) ∙ was) in
            let leaves : LeavesEntries pool.map.committed (regions s) y r.old.map r.new.map = record { reclaimed = λ v off. r.stored.kept v off ∙ r.reclaimed.entries v; written = r.stored.maps; spare = r.fresh } in
            (r.new.map, (container_now s ∙ ap map_in r.now, subst (λ (z : VolumeState). LeavesEntries pool.map.committed (regions s) z map r.new.map) same (subst (λ (m : Mapped). LeavesEntries pool.map.committed (regions s) y m r.new.map) first leaves)))
        by (as_lent waits at) =
            let late : x.changed ≡ true → 64 ≤ s = subst (λ (o : Option VolumeState). IfSome o (λ z. z.changed ≡ true → 64 ≤ s)) there waits in
            let past = late changed in
            absurd (omega (arith, inside, past))

    container_stays : (s : ℕ) → s < 64 → IfSome (state_at states s) (λ x. x.changed ≡ false) → container_at last.containers s ≡ container_at pool.containers s
    container_stays s inside unchanged = container_now s ∙ by (is.each s inside)
      where
        by : IsOnCourse regions pool states (block_seen pool.kept disk.reads) 64 s (is.now s) (get_or labels s 0) (paged_at left.containers s) mid.reads → container_at left.containers s ≡ container_at pool.containers s
        by (renewed y low here differs now r) = absurd (both_ways _ (subst (λ (o : Option VolumeState). IfSome o (λ z. z.changed ≡ false)) here unchanged) differs)
        by (as_lent waits at) = ap map_in at.lies

    -- ---- of the volumes as they were given

    given_machine : m ≡ machine_lent disk pool given
    given_machine = machine_marked given states (has_slot list) marked disk pool

    given_view : w ≡ view_over pool given disk.reads
    given_view = view_marked given states (has_slot list) marked pool disk.reads

    -- what is said of each marked volume, of each as it was given
    of_marked : (P : Type 0) (b : Bool) (o : Option VolumeState) → IfSome (option_map (marked_as b) o) (λ x. P) → IfSome o (λ x. P)
    of_marked P b None said = tt
    of_marked P b (Some x) said = said

    given_tables : (s : ℕ) → IfSome (state_at given s) (λ x. active_in (view_over last stay new.reads) no_trees s ≡ active_in (view_over pool given disk.reads) no_trees s)
    given_tables s = subst (λ (z : View). IfSome (state_at given s) (λ x. active_in (view_over last stay new.reads) no_trees s ≡ active_in z no_trees s)) given_view
        (of_marked (active_in (view_over last stay new.reads) no_trees s ≡ active_in w no_trees s) (has_slot list s) (state_at given s) (subst (λ (o : Option VolumeState). IfSome o (λ x. active_in (view_over last stay new.reads) no_trees s ≡ active_in w no_trees s)) (marked s) (tables_stay s)))

    given_entries : (s : ℕ) (x : VolumeState) (map : Mapped) → s < 64 → state_at given s ≡ Some x → is_due list s x ≡ true → container_at pool.containers s ≡ Some map
        → (after : Mapped) × ((container_at last.containers s ≡ Some after) × LeavesEntries pool.map.committed (regions s) x map after)
    given_entries s x map inside there due was =
        let left_so = entries_left s (marked_as (has_slot list s) x) map inside (marked s ∙ ap (option_map (marked_as (has_slot list s))) there) due was in
        (left_so.0, (left_so.1.0, record { reclaimed = left_so.1.1.reclaimed; written = left_so.1.1.written; spare = left_so.1.1.spare }))

    given_unchanged : (s : ℕ) → IfSome (state_at given s) (λ x. is_due list s x ≡ false) → IfSome (state_at states s) (λ x. x.changed ≡ false)
    given_unchanged s is_not = subst (λ (o : Option VolumeState). IfSome o (λ x. x.changed ≡ false)) (sym (marked s)) (by (state_at given s) is_not)
      where
        by : (o : Option VolumeState) → IfSome o (λ x. is_due list s x ≡ false) → IfSome (option_map (marked_as (has_slot list s)) o) (λ x. x.changed ≡ false)
        by None e = tt
        by (Some x) e = e

    given_same : (s : ℕ) → IfSome (state_at given s) (λ x. is_due list s x ≡ false → state_at stay s ≡ Some x)
    given_same s = by (has_slot list s) (state_at given s) (subst (λ (o : Option VolumeState). IfSome o (λ x. x.changed ≡ false → state_at stay s ≡ Some x)) (marked s) (same_stay states stay labels settled s))
      where
        by : (b : Bool) (o : Option VolumeState) → IfSome (option_map (marked_as b) o) (λ x. x.changed ≡ false → state_at stay s ≡ Some x) → IfSome o (λ x. (b || x.changed) ≡ false → state_at stay s ≡ Some x)
        by b None is_so = tt
        by true (Some x) is_so = λ e. absurd (true≢false e)
        by false (Some x) is_so = is_so

    given_places : (s : ℕ) → IfSome (state_at given s) (λ x. is_due list s x ≡ false → label_place u s ≡ label_place (root_found pool.found) s)
    given_places s = by (has_slot list s) (state_at given s) (subst (λ (o : Option VolumeState). IfSome o (λ x. x.changed ≡ false → label_place u s ≡ label_place (root_found pool.found) s)) (marked s) (places_stay s))
      where
        by : (b : Bool) (o : Option VolumeState) → IfSome (option_map (marked_as b) o) (λ x. x.changed ≡ false → label_place u s ≡ label_place (root_found pool.found) s) → IfSome o (λ x. (b || x.changed) ≡ false → label_place u s ≡ label_place (root_found pool.found) s)
        by b None is_so = tt
        by true (Some x) is_so = λ e. absurd (true≢false e)
        by false (Some x) is_so = is_so

    given_kept : (s v : ℕ) (x : VolumeState) → s < 64 → state_at given s ≡ Some x → stays x v ≡ true
        → placed_in last.kept new.reads (own_entry (container_at last.containers s) v) ≡ placed_in pool.kept disk.reads (own_entry (container_at pool.containers s) v)
    unfolding view_over
    given_kept s v x inside there on = entry_same s v (marked_as (has_slot list s) x) inside (marked s ∙ ap (option_map (marked_as (has_slot list s))) there) on

    pub point : (delays : List Bool)
        → ((s : ℕ) (x : Holding) → s < 64 → get_or delays s true ≡ false → holdings pool.containers given s ≡ Some x → (v : ℕ) → is_delayed x.map x.container v ≡ true → has_region list s (region_of v) ≡ true)
        → IsPoint disk pool given want new last stay delays
    point delays clear = record {
      settled = done.settled;
      stands = stands_now ∙ ap Some given_machine;
      lent = subst (IsLent new last stay) given_machine lent_now;
      heads = λ s. heads_stay states stay labels settled s ∙ heads_marked given states (has_slot list) marked s;
      machine = same_told w (view_over last stay new.reads) stays_now lent.tables.bases lent.tables.rests ∙ given_machine;
      tables = given_tables;
      unchanged = unchanged_stay states stay labels settled;
      room = subst (λ (x : Found). LeavesRoom (view_at (root_found x) new.reads) want) (sym found) (subst (λ (z : View). LeavesRoom z want) (sym same_now) room_left);
      missing = subst (λ (x : Found). CountsMissing pool given (view_at (root_found x) new.reads) want) (sym found) missing_now;
      delays = subst (λ (x : Found). AreKnown new.reads x delays) (sym found) (known_same mid.reads new.reads f f delays same_now
          (known_left mid.reads f regions (holdings pool.containers states) now_held delays left_delayed shown_now (λ s x inside off there. clear s x inside off (sym (ap (λ (h : ℕ → Option Holding). h s) (holdings_marked pool.containers given states (has_slot list) marked)) ∙ there))));
      entries = given_entries;
      containers = λ s inside is_not. container_stays s inside (given_unchanged s is_not);
      blocks = ap (λ (x : Found). x.blocks) found;
      same = given_same;
      label_same = λ s. subst (λ (t : Found). IfSome (state_at given s) (λ x. is_due list s x ≡ false → label_place (root_found t) s ≡ label_place (root_found pool.found) s)) (sym found) (given_places s);
      kept = given_kept;
    }
