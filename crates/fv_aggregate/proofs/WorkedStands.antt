-- A session after a step of one of its volumes: it stands for the machine that it stood for, and less is left to do.
use Rattle.std.proofs.Common.{◌≡◌, ◌≢◌, ◌≤◌, ◌<◌, ◌+◌, ℕ, Bool, true, false, cond, List, length, Option, Some, None, refl, sym, ap, subst, ◌∙◌, arith, length-set}
use Rattle.std.specs.Prelude.{IfSome}
use Rattle.std.specs.FinMap as fin
use Rattle.fv_disk.specs.Shown.{Image, Shown}
use Rattle.fv_disk.specs.DiskCalls.{OnlyReads}
use Rattle.fv_bits.specs.Members.{is_member}
use Rattle.fv_model.specs.Machines.{Machine, capacity}
use Rattle.fv_model.specs.Spelling.{name_cmp}
use Rattle.fv_aggmap.specs.Space.{Space, free_blocks}
use Rattle.fv_image.specs.Held.{AllKeep, layout_at, view_at}
use Rattle.fv_image.specs.Maps.{map_bit}
use Rattle.fv_image.specs.Views.{overheads, slots}
use Rattle.fv_image.specs.WholeMachine.{Tells}
use Rattle.fv_tables.proofs.Lists.{same_parts}
use Rattle.fv_container.specs.Chains.{container_at, paged_at}
use Rattle.fv_root.specs.declared.find.Found.{Found}
use Rattle.fv_root.specs.Commits.{IsFoundOn}
use Rattle.fv_root.specs.Finding.{root_found}
use Rattle.fv_store.specs.Held.{StandsOn}
use Rattle.fv_pool.specs.declared.pool.Pool.{Pool}
use Rattle.fv_volume.specs.declared.state.VolumeState.{VolumeState}
use Rattle.fv_volume.specs.Files.{AreNamed}
use Rattle.fv_volume.specs.Held.{named_held, IsHeldIn}
use Rattle.fv_volume.specs.Placing.{LiesApart}
use Rattle.fv_volume.specs.Slots.{sum_of}
use Rattle.fv_volume.specs.States.{States, state_at, with_state}
use Rattle.fv_volume.specs.Stored.{AreSpacedIn}
use Rattle.fv_volumes.specs.Footing.{AreFooted}
use Rattle.fv_volumes.specs.UnderRoot.{IsLentAt}
use Rattle.fv_volumes.proofs.PlacedIn.{found_read, keeps_read, own_has}
use Rattle.fv_volumes.proofs.Told.{is_inside}
use Rattle.fv_cleaner.specs.Cleaning.{CleansAt, Steps, StepsIn}
use Rattle.fv_cleaner.specs.Left.{left_in}
use Rattle.fv_cleaner.specs.Staying.{MayBeCleaned, StandsCleaned}
use Rattle.fv_cleaner.specs.Stepping.{CanClean, CleansVolume}
use Rattle.fv_cleaner.proofs.Cleanable.{can_clean}
use Rattle.fv_cleaner.proofs.Exact.{falls}
use Rattle.fv_cleaner.proofs.Sessions as sessions
use Rattle.fv_cleaner.proofs.SpacedRoots.{lent_after, spaced_after}
use Rattle.fv_cleaner.proofs.Step.{stands_after_step}
use Rattle.fv_cp.specs.Held.{machine_held, IsHeld}
use Rattle.fv_cp.specs.Lent.{maps_waiting, waiting_by, FitTogether}
use Rattle.fv_cp.specs.Placing.{pending_files, HaveNoFiles}
use Rattle.fv_aggregate.specs.declared.session.Session.{Session}
use Rattle.fv_aggregate.specs.Standing.{overhead_by, overheads_in, taken_since, StandsFor}
use Rattle.fv_aggregate.specs.Working.{step_room, todo, todo_at}
use Rattle.fv_aggregate.proofs.Clear.{clear_stays, free_and_placed}
use Rattle.fv_aggregate.proofs.Replaced.{each_slot, here, same_sum, within}
use Rattle.fv_aggregate.proofs.Standing.{known_still, settled_after_reads}
use Rattle.fv_aggregate.proofs.Sums.{none_pending}
use Rattle.fv_aggregate.proofs.WorkedOthers.{less_slots, todo_off}
use Rattle.fv_aggregate.proofs.WorkedParts.{moved_on, none_moved, IsMovedOn}

module _ (d : Shown) (s : Session) (fit : FitTogether s.pool s.volumes) (none : HaveNoFiles s.volumes)
    (slot : ℕ) (x : VolumeState) (there : state_at s.volumes slot ≡ Some x) (unclean : x.known ≡ false)
    (last m : Machine) (stands : StandsFor d s last m) where
  inside : slot < 64
  inside = is_inside s.volumes slot x fit.housed.long there

  apart : (k : ℕ) (w : VolumeState) → k ≢ slot → state_at s.volumes k ≡ Some w → LiesApart s.pool.containers k slot
  apart k w differ at v e own owned = stands.held.spaced.apart k slot e.pvbn (is_inside s.volumes k w fit.housed.long at) inside differ
      (own_has d s.pool s.volumes fit.housed stands.held.slots k w at e.pvbn (record { vvbn = v; entry = e; stands = own; leads = refl }))
      (own_has d s.pool s.volumes fit.housed stands.held.slots slot x there e.pvbn owned)

  -- The volume may be cleaned.
  pub may : MayBeCleaned d s.pool s.volumes slot x
  may = record {
    there = there;
    each = stands.held.each;
    housed = fit.housed;
    footed = stands.held.footed;
    apart = apart;
    files = subst (λ (o : Option VolumeState). IfSome o (λ z. z.files ≡ None)) there (none slot);
    unclean = unclean;
  }

  -- A block is free: fewer than 256 were taken since the last point, and the room of so many is kept.
  free_block : s.pending + step_room ≤ 256 → 1 ≤ free_blocks s.pool.map
  free_block few =
      let all = free_and_placed s.pool.map in
      let files = stands.files in
      let room = stands.room in
      omega (arith, all, files, room, few)

  -- So it can be cleaned.
  pub cleanable : s.pending + step_room ≤ 256 → CanClean d s.pool x
  cleanable few = can_clean d s.pool s.volumes slot x may stands.held.spaced (free_block few)

  its_slot : x.slot ≡ slot
  its_slot = (subst (λ (o : Option VolumeState). IfSome o (IsHeldIn d s.pool slot)) there (stands.held.each slot)).slot

  module _ (e : Shown) (q : Pool) (new : States) (took : Bool) (cleans : CleansAt d s.pool s.volumes slot q new took)
      (reads : OnlyReads d e) (cache : StandsOn e q.store.pairs) where
    abbrev steps : Steps d s.pool s.volumes slot x q new took
    steps = subst (λ (o : Option VolumeState). StepsIn d s.pool s.volumes slot o q new took) there cleans

    abbrev y : VolumeState
    y = steps.volume

    row : new ≡ with_state s.volumes slot (Some y)
    row = steps.others

    cleaned : StandsCleaned d s.pool s.volumes slot x e q y
    cleaned = stands_after_step d e s.pool q s.volumes slot x y took may steps.cleans reads cache

    at_own : MayBeCleaned d s.pool s.volumes x.slot x
    at_own = subst (λ (n : ℕ). MayBeCleaned d s.pool s.volumes n x) (sym its_slot) may

    committed_same : q.map.committed ≡ s.pool.map.committed
    committed_same = by took steps.cleans
      where
        by : (t : Bool) → CleansVolume d s.pool x q y t → q.map.committed ≡ s.pool.map.committed
        by true is = (moved_on d s.pool x q y is).committed
        by false is = ap (λ (p : Space). p.committed) is.leaves.map

    -- All volumes are held.
    held_now : IsHeld e q new last
    held_now = record {
      found = subst (λ (f : Found). IsFoundOn e f) (sym cleaned.found) (found_read d e s.pool.found reads stands.held.found);
      tells = subst (λ (f : Found). Tells (layout_at (root_found f) e.reads) last) (sym cleaned.found)
          (subst (λ (i : Image). Tells (layout_at (root_found s.pool.found) i) last) (sym reads.stays.reads) stands.held.tells);
      keeps = subst (λ (f : Found). AllKeep (root_found f) e.reads e) (sym cleaned.found)
          (keeps_read d e (root_found s.pool.found) reads stands.held.keeps);
      map = record {
        len = ap length committed_same ∙ stands.held.map.len ∙ ap (λ (f : Found). f.blocks) (sym cleaned.found);
        bits = λ b. ap (λ (c : List Bool). is_member c b) committed_same ∙ stands.held.map.bits b
            ∙ (λ j. map_bit (root_found (sym cleaned.found j)) (sym reads.stays.reads j) b);
      };
      slots = subst (λ (ss : States). (k : ℕ) → k < 64 → IsLentAt e.reads q.found k (state_at ss k) (paged_at q.containers k))
          (sym row)
          (subst (λ (n : ℕ). (k : ℕ) → k < 64
          → IsLentAt e.reads q.found k (state_at (with_state s.volumes n (Some y)) k) (paged_at q.containers k))
          its_slot
          (lent_after d e s.pool q s.volumes x y at_own reads fit.size stands.held.slots stands.held.spaced took steps.cleans));
      spaced = subst (λ (ss : States). AreSpacedIn q.found.blocks q.map.next (state_at ss) (container_at q.containers)) (sym row)
          (subst (λ (n : ℕ). AreSpacedIn q.found.blocks q.map.next (state_at (with_state s.volumes n (Some y))) (container_at q.containers))
          its_slot
          (spaced_after d e s.pool q s.volumes x y at_own reads fit.size stands.held.slots stands.held.spaced took steps.cleans));
      names = subst AreNamed (sym row) (cleaned.named stands.held.names);
      each = subst (λ (ss : States). (k : ℕ) → IfSome (state_at ss k) (IsHeldIn e q k)) (sym row)
          (each_slot s.volumes fit.housed.long slot x y there (λ k o. IfSome o (IsHeldIn e q k)) cleaned.held
          (λ k differ. beside k differ (state_at s.volumes k) refl));
      commits = subst (λ (ss : States). sum_of ss ≤ capacity q.found.blocks) (sym row)
          (subst (λ (f : Found). sum_of (with_state s.volumes slot (Some y)) ≤ capacity f.blocks) (sym cleaned.found)
          (let same = cleaned.commits in let fits = stands.held.commits in omega (arith, same, fits)));
      footed = subst (λ (ss : States). AreFooted ss q.containers) (sym row) cleaned.footed;
    }
      where
        beside : (k : ℕ) → k ≢ slot → (o : Option VolumeState) → state_at s.volumes k ≡ o → IfSome o (IsHeldIn e q k)
        beside k differ None at = tt
        beside k differ (Some z) at = cleaned.others.held k z differ at

    -- They stand for the machine that they stood for.
    machine_now : machine_held e q new ≡ m
    unfolding machine_held slots
    machine_now = (λ j. record {
      blocks = (cleaned.found j).blocks;
      version = cleaned.version j;
      volumes = fin.from_entries {R = name_cmp} (same_parts (λ k. named_held e q (state_at new k))
          (λ k. named_held d s.pool (state_at s.volumes k)) 0 64
          (λ k low high. sessions.named_still d e s.pool q s.volumes new slot x took may cleans reads cache k) j);
    }) ∙ stands.machine

  -- ---- a step was taken

  module _ (e : Shown) (q : Pool) (new : States) (cleans : CleansAt d s.pool s.volumes slot q new true)
      (reads : OnlyReads d e) (cache : StandsOn e q.store.pairs) (few : s.pending + step_room ≤ 256) where
    abbrev now : VolumeState
    now = y e q new true cleans reads cache

    abbrev is_row : new ≡ with_state s.volumes slot (Some now)
    is_row = row e q new true cleans reads cache

    its : CleansVolume d s.pool x q now true
    its = (steps e q new true cleans reads cache).cleans

    moved : IsMovedOn s.pool q x now
    moved = moved_on d s.pool x q now its

    abbrev pub stepped : Session
    stepped = record s { volumes = new; pool = q; pending = s.pending + 1 }

    pub stepped_for : StandsFor e stepped last m
    stepped_for =
        let cleaned_is = cleaned e q new true cleans reads cache in
        let over : overheads_in new ≡ overheads_in s.volumes =
        ap overheads_in is_row ∙ same_sum s.volumes fit.housed.long slot x now there
        overhead_by (ap (λ (z : VolumeState). overhead_by (Some z)) moved.same) in
        let maps : maps_waiting new ≡ maps_waiting s.volumes =
        ap maps_waiting is_row ∙ same_sum s.volumes fit.housed.long slot x now there
        waiting_by (ap (λ (z : VolumeState). waiting_by (Some z)) moved.same) in
        let bare : pending_files new ≡ 0 =
        ap pending_files is_row ∙ none_pending (with_state s.volumes slot (Some now))
        (length-set s.volumes slot (Some now) ∙ fit.housed.long)
        (none_moved d e s.pool q s.volumes slot x now there its_slot moved fit none) in
        let clear = clear_stays s.pool.map q.map moved.committed in
        let first = free_and_placed s.pool.map in
        let second = free_and_placed q.map in
        let free = moved.free in
        let taken : taken_since q.map ≤ taken_since s.pool.map + 1 = omega (arith, clear, first, second, free) in
        let same : overheads (view_at (root_found q.found) e.reads) ≡ overheads (view_at (root_found s.pool.found) d.reads) =
        λ j. overheads (view_at (root_found (cleaned_is.found j)) (reads.stays.reads j)) in
        let pending_was = stands.pending in
        let files_was = stands.files in
        let room_was = stands.room in
        record {
          held = held_now e q new true cleans reads cache;
          machine = machine_now e q new true cleans reads cache;
          settled = settled_after_reads d e reads stands.settled;
          delays = known_still d.reads e.reads s.pool.found q.found s.delays s.delays reads.stays.reads cleaned_is.found refl stands.delays;
          pending = omega (arith, over, maps, bare, taken, same, pending_was);
          files = omega (arith, maps, bare, taken, files_was);
          few = omega (arith, bare);
          free = omega (arith, bare, clear, second, taken, files_was, room_was, few);
          room = omega (arith, same, clear, room_was, few);
        }

    -- Less is left to do.
    pub stepped_falls : todo e stepped < todo d s
    stepped_falls = less_slots (todo_at e.reads q) (todo_at d.reads s.pool) s.volumes new slot
        (ap length is_row ∙ length-set s.volumes slot (Some now)) (within s.volumes fit.housed.long slot x now there)
        (λ k differ. ap (λ (ss : States). todo_at e.reads q (state_at ss k)) is_row
        ∙ each_slot s.volumes fit.housed.long slot x now there
        (λ n o. n ≢ slot → todo_at e.reads q o ≡ todo_at d.reads s.pool (state_at s.volumes n))
        (λ other. absurd (other refl))
        (λ n other same. todo_off d e s.pool q s.volumes slot x now may reads its its_slot n other (state_at s.volumes n) refl) k differ)
        own
      where
        left_now : todo_at e.reads q (Some now) ≡ left_in d.reads q now
        left_now = ap (λ (b : Bool). cond b 0 (left_in e.reads q now)) (ap (λ (z : VolumeState). z.known) moved.same ∙ unclean)
            ∙ ap (λ (i : Image). left_in i q now) reads.stays.reads

        left_was : todo_at d.reads s.pool (state_at s.volumes slot) ≡ left_in d.reads s.pool x
        left_was = ap (todo_at d.reads s.pool) there ∙ ap (λ (b : Bool). cond b 0 (left_in d.reads s.pool x)) unclean

        at_new : todo_at e.reads q (state_at new slot) ≡ left_in d.reads q now
        at_new = ap (λ (ss : States). todo_at e.reads q (state_at ss slot)) is_row
            ∙ ap (todo_at e.reads q) (here s.volumes fit.housed.long slot x now there)
            ∙ left_now

        own : todo_at e.reads q (state_at new slot) < todo_at d.reads s.pool (state_at s.volumes slot)
        own = let less = falls d s.pool s.volumes slot x may q now true its in omega (arith, less, at_new, left_was)

  -- ---- there was none to take

  pub none_falls : (q : Pool) (new : States) → CleansAt d s.pool s.volumes slot q new false
      → todo_at d.reads s.pool (state_at s.volumes slot) ≡ 0
  none_falls q new cleans =
      let step : Steps d s.pool s.volumes slot x q new false =
      subst (λ (o : Option VolumeState). StepsIn d s.pool s.volumes slot o q new false) there cleans in
      ap (todo_at d.reads s.pool) there ∙ ap (λ (b : Bool). cond b 0 (left_in d.reads s.pool x)) unclean
      ∙ falls d s.pool s.volumes slot x may q step.volume false step.cleans
