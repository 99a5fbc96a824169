-- A consistency point in front of which all files are placed.
use Rattle.std.proofs.Common.{◌≡◌, ◌≤◌, ℕ, Bool, false, length, Option, Some, inl, inr, ⊎_elim, refl, sym, ap, subst, ◌∙◌, arith, Ok, Err, List}
use Rattle.std.specs.Prelude.{IfSome, IsTrue, None}
use Rattle.std.specs.Option.{option_map}
use Rattle.fv_disk.specs.Crash.{Leaves}
use Rattle.fv_disk.specs.DiskCalls.{OnlyReads}
use Rattle.fv_disk.specs.Faults.{HasBlockCause}
use Rattle.fv_disk.specs.Shown.{Image, IsDisk, Rose, Shown}
use Rattle.fv_disk.specs.declared.fault.BlockFault.{BlockFault}
use Rattle.fv_disk.specs.declared.fault.BlockFault.TheVariants.{DiskFault, Damaged, Memory}
use Rattle.fv_disk.proofs.Moments.{goes_on, started, then, weaken}
use Rattle.fv_bits.specs.Members.{is_member}
use Rattle.fv_model.specs.Machines.{Machine, first_block}
use Rattle.fv_image.specs.NewerRoot.{root_of}
use Rattle.fv_root.specs.declared.find.Found.{Found}
use Rattle.fv_root.specs.Finding.{root_found}
use Rattle.fv_root.specs.Commits.{IsFoundOn, next_found}
use Rattle.fv_image.specs.Layout.{root_place}
use Rattle.fv_aggmap.specs.Space.{free_blocks}
use Rattle.fv_container.specs.Chains.{IsSlots, container_at, own_entry, parent_at}
use Rattle.fv_container.proofs.Damage.{none_damaged}
use Rattle.fv_volmap.specs.Slots.{Volume}
use Rattle.fv_pool.specs.declared.fault.VolumeFault.{VolumeFault}
use Rattle.fv_pool.specs.declared.fault.VolumeFault.TheVariants as volume
use Rattle.fv_pool.specs.declared.pool.Pool.{Pool}
use Rattle.fv_volume.specs.declared.state.VolumeState.{VolumeState}
use Rattle.fv_pool.specs.Causes.{of_block}
use Rattle.fv_pool.specs.BlocksOver.{LoadsPool}
use Rattle.fv_volume.specs.Files.{IsLabelled}
use Rattle.fv_volume.specs.Loading.{Houses}
use Rattle.fv_volume.specs.Numbering.{AreNumbersSeen}
use Rattle.fv_volume.specs.States.{States, parent_in, placed_in, state_at, view_over}
use Rattle.fv_volumes.proofs.Settled.{settled_keeps}
use Rattle.fv_volumes.proofs.Staying.{kept_stands}
use Rattle.fv_volumes.proofs.HeldSettled.{core_parent, ready_of, settled_core, settled_no_files, settled_numbers, settled_ready, settled_unchanged, settled_whole}
use Rattle.fv_cp.specs.Held.{machine_held, IsHeld}
use Rattle.fv_cp.specs.Lent.{FitTogether, IsLent}
use Rattle.fv_cp.specs.Placing.{core_of, ArePlaced, AreReady, FailsToPlace, HasNoFiles, HasWholeMap, HaveRoom, IsPlaceFault, IsReadyIn}
use Rattle.fv_cp.specs.Points.{machine_lent, Counts, GoesOn, IsNew, IsNextRoot, IsOld, IsPoint, LacksPoint, LeavesContainers, OldOrLent}
use Rattle.fv_cp.specs.Settling.{GoesOnWhole, HasWholeCause, HaveFullRoom, IsHeldPoint, IsNoDamage, IsStill, OldOrHeld, StillHeld, WholeCounts, WholeFails}
use Rattle.fv_volumes.specs.Housed.{settled_as}
use Rattle.fv_volume.specs.Trees.{active_in, no_trees}
use Rattle.fv_cp.specs.Choosing.{CanChoose, has_slot, marked_as, regions_chosen}
use Rattle.fv_cp.specs.Known.{AreKnown}
use Rattle.fv_cp.proofs.Marking.{asked_least, asked_most, marked_core, marked_no_files, marked_numbers, marked_ready, marked_table, marked_whole}
use Rattle.fv_cp.proofs.CameIn.{leaf_still, lent_clean}
use Rattle.fv_cp.proofs.SameChoice.{chosen_before, chosen_behind}
use Rattle.fv_cp.proofs.Lendable.{held_lent, held_machine, numbers_held, past_held}
use Rattle.fv_volumes.proofs.PlacedIn.{found_read}

-- where there is room for all, there is room for what is pending
pub some_room : (pool : Pool) (states : States) → HaveFullRoom pool states → HaveRoom pool states
some_room pool states room = record { numbers = room.numbers; blocks = room.free }

-- where nothing is written the image stays
pub resting : (disk : Shown) (pool : Pool) (states : States) (before : Machine) → IsDisk disk → IsHeld disk pool states before → Leaves disk disk (OldOrHeld disk pool states before)
resting disk pool states before laws was = started disk (OldOrHeld disk pool states before) laws
    (λ c now. (inl (record { stands = kept_stands (root_found pool.found) disk.reads c before was.tells (was.keeps c now); left = (c, now, λ b on. refl) }), refl))

module _ (disk : Shown) (pool : Pool) (states : States) (mid : Shown) (held : Pool) (between : States) (placed : ArePlaced disk pool states mid held between) where
  pub found_mid : (IsTrue disk.tells → IsFoundOn disk pool.found) → IsTrue mid.tells → IsFoundOn mid held.found
  found_mid found told =
      let on = found (subst IsTrue placed.only_reads.stays.tells told) in
      subst (λ (f : Found). IsFoundOn mid f) (sym placed.found) (found_read disk mid pool.found placed.only_reads on)

  -- while files are placed the image stays
  pub placing : IsDisk disk → (before : Machine) → IsHeld disk pool states before → Leaves disk mid (OldOrHeld disk pool states before)
  placing laws before was = goes_on disk disk mid (OldOrHeld disk pool states before)
      (resting disk pool states before laws was)
      placed.only_reads.time
      (λ c now. (inl (record { stands = kept_stands (root_found held.found) mid.reads c before (placed.held before was).tells ((placed.held before was).keeps c now); left = (c, placed.only_reads.stays.no_more c now, λ b on. refl) }), placed.only_reads.given))

  -- the old side of the point is that of the whole
  old_whole : (before : Machine) (c : Image) → IsOld mid held before c → IsOld disk pool before c
  old_whole before c old = record {
    stands = old.stands;
    left = (old.left.0, placed.only_reads.stays.no_more old.left.0 old.left.1, λ b on. old.left.2 b (subst (λ (f : Found). first_block f.blocks ≤ b) (sym placed.found) on.0, ap (λ (set : List Bool). is_member set b) placed.committed ∙ on.1));
  }

  module _ (none : (s : ℕ) → HasNoFiles (state_at between s)) (whole : (s : ℕ) → HasWholeMap (state_at between s)) where
    lent_mid : (before : Machine) → IsHeld disk pool states before → IsLent mid held between before
    lent_mid before was = held_lent mid held between before (placed.held before was) placed.fit none whole

    machine_mid : (before : Machine) → IsHeld disk pool states before → machine_lent mid held between ≡ machine_held disk pool states
    machine_mid before was = sym (held_machine mid held between before (placed.held before was) placed.fit none whole) ∙ placed.machine before was

    -- and the new side, too
    new_whole : (before : Machine) → IsHeld disk pool states before → (c : Image) → IsNew held (machine_lent mid held between) c → IsNew pool (machine_held disk pool states) c
    new_whole before was c new = record {
      stands = new.stands ∙ ap (λ (m : Machine). Some m) (machine_mid before was);
      root = new.root;
      counts = subst (λ (f : Found). root_of c ≡ Some (root_found (next_found f new.root))) placed.found new.counts;
    }

    -- What a point needs is known of the image, and there is room for each choice of regions.
    can_choose : (before : Machine) → IsHeld disk pool states before → (want : ℕ) (delays : List Bool) → AreKnown disk.reads pool.found delays → HaveFullRoom pool states → CanChoose mid held between want delays
    can_choose before was want delays known room = record {
      known = subst (λ (f : Found). AreKnown mid.reads f delays) (sym placed.found) (subst (λ (i : Image). AreKnown i pool.found delays) (sym placed.only_reads.stays.reads) known);
      room =
          let spent = placed.spent before was (some_room pool states room) in
          let most = asked_most (has_slot (regions_chosen held between want)) between placed.fit.housed.long in
          let asked = placed.all in
          let blocks = room.blocks in
          omega (arith, spent.blocks, most, asked, blocks);
    }

    pub pointing : IsDisk disk → (new : Shown) (before : Machine) → IsHeld disk pool states before → (want : ℕ) (delays : List Bool) → AreKnown disk.reads pool.found delays → HaveFullRoom pool states
        → ((before : Machine) → IsLent mid held between before → CanChoose mid held between want delays → Leaves mid new (OldOrLent mid held between before)) → Leaves disk new (OldOrHeld disk pool states before)
    pointing laws new before was want delays known room left = then disk mid new (OldOrHeld disk pool states before) (placing laws before was)
        (weaken mid new (OldOrLent mid held between before) (OldOrHeld disk pool states before)
        (λ c g is. (⊎_elim (λ old. inl (old_whole before c old)) (λ new. inr (new_whole before was c new)) is.0, is.1 ∙ placed.only_reads.given))
        (left before (lent_mid before was) (can_choose before was want delays known room)))

    -- ---- the point was done

    module _ (fit : FitTogether pool states) (ready : AreReady mid held between) (new : Shown) (left : Pool) (stay : States) (goes : GoesOn mid held between new left stay) where
      abbrev marks : ℕ → Bool
      marks s = (goes.settled s).0

      abbrev label : ℕ → ℕ
      label s = (goes.settled s).1.0

      -- the volume that was written, or not
      abbrev due : ℕ → Option VolumeState
      due s = option_map (marked_as (marks s)) (state_at between s)

      is_now : (s : ℕ) → state_at stay s ≡ option_map (settled_as (label s)) (due s)
      is_now s = (goes.settled s).1.1

      none_now : (s : ℕ) → HasNoFiles (state_at stay s)
      none_now s = subst HasNoFiles (sym (is_now s)) (settled_no_files (due s) (label s) (marked_no_files (marks s) (state_at between s) (none s)))

      whole_now : (s : ℕ) → HasWholeMap (state_at stay s)
      whole_now s = subst HasWholeMap (sym (is_now s)) (settled_whole (due s) (label s) (marked_whole (marks s) (state_at between s) (whole s)))

      parents_now : (s : ℕ) → parent_at left.containers s ≡ parent_at pool.containers s
      parents_now s = goes.parents s ∙ placed.fit.housed.parents s ∙ core_parent (state_at between s) ∙ ap parent_in (placed.cores s) ∙ sym (core_parent (state_at states s)) ∙ sym (fit.housed.parents s)

      ready_now : AreReady new left stay
      ready_now s =
          let same = is_now s in
          subst (λ (o : Option VolumeState). IfSome o (IsReadyIn new left s)) (sym same) (settled_ready mid new held left s goes.stands goes.blocks (label s) (due s) (marked_ready mid held s (marks s) (state_at between s) (ready s)) (marked_no_files (marks s) (state_at between s) (none s))
          (subst (λ (o : Option VolumeState). IfSome o (IsLabelled s)) same (goes.fit.housed.volumes s)) (subst (λ (o : Option VolumeState). Houses o (container_at left.containers s)) same (goes.fit.housed.each s)))

      pub goes_whole : GoesOnWhole disk pool states new left stay
      goes_whole = record {
        stands = goes.stands;
        next = subst (λ (f : Found). IsNextRoot f left.found) placed.found goes.next;
        version = goes.version ∙ placed.version;
        root_version = goes.root_version ∙ placed.version;
        found = λ told. goes.found (subst IsTrue (sym placed.only_reads.stays.tells) told);
        loaded = λ told. goes.loaded (subst IsTrue (sym placed.only_reads.stays.tells) told);
        fit = goes.fit;
        ready = ready_now;
        none = none_now;
        unchanged = λ s. subst (λ (o : Option VolumeState). IfSome o (λ x. x.changed ≡ false)) (sym (is_now s)) (settled_unchanged (due s) (label s));
        unkept = goes.unkept;
        free = goes.free;
        cores = λ s. ap (option_map core_of) (is_now s) ∙ settled_core (due s) (label s) ∙ marked_core (marks s) (state_at between s) ∙ placed.cores s;
        parents = parents_now;
        blocks = goes.blocks ∙ ap (λ (f : Found). f.blocks) placed.found;
      }

      -- the maps in memory stay
      maps_now : (s : ℕ) → option_map (λ (x : VolumeState). x.map) (state_at stay s) ≡ option_map (λ (x : VolumeState). x.map) (state_at between s)
      maps_now s = ap (option_map (λ (x : VolumeState). x.map)) (is_now s) ∙ by (state_at between s)
        where
          by : (o : Option VolumeState) → option_map (λ (x : VolumeState). x.map) (option_map (settled_as (label s)) (option_map (marked_as (marks s)) o)) ≡ option_map (λ (x : VolumeState). x.map) o
          by None = refl
          by (Some x) = ap (λ (m : Volume). Some m) (settled_keeps (λ (y : VolumeState). y.map) (marked_as (marks s) x) (label s) refl)

      -- the numbers of each volume's files are those of its table
      numbered_now : (before : Machine) → IsHeld disk pool states before → (want : ℕ) (delays : List Bool) → IsPoint mid held between want new left stay delays → (s : ℕ) → AreNumbersSeen (view_over left stay new.reads) s (state_at stay s)
      numbered_now before was want delays point s = subst (AreNumbersSeen (view_over left stay new.reads) s) (sym (is_now s))
          (settled_numbers (view_over held between mid.reads) (view_over left stay new.reads) s (due s) (label s) (marked_table (active_in (view_over left stay new.reads) no_trees s ≡ active_in (view_over held between mid.reads) no_trees s) (marks s) (state_at between s) (point.tables s))
          (marked_numbers (view_over held between mid.reads) s (marks s) (state_at between s) (numbers_held mid held between before (placed.held before was) placed.fit none whole s)))

      -- the regions are chosen by the entries of before and the volumes that the point leaves
      chosen_now : (before : Machine) → IsHeld disk pool states before → (want : ℕ) → regions_chosen held between want ≡ regions_chosen pool stay want
      chosen_now before was want = chosen_before pool states held between placed.found placed.others (placed.unused before was) whole fit.housed.each placed.fit.housed.each want
          ∙ sym (chosen_behind pool between stay label marks is_now placed.fit.housed.long goes.fit.housed.long want)

      -- Over a disk.
      pub point_held : (before : Machine) → IsHeld disk pool states before → (few : length left.containers.containers ≡ 64) → IsTrue disk.tells → new.tells ≡ mid.tells → ((b : ℕ) → length (new.reads b) ≡ 4096)
          → (want : ℕ) (first delays : List Bool) → AreKnown disk.reads pool.found first → HaveFullRoom pool states
          → ((before : Machine) → IsLent mid held between before → CanChoose mid held between want first → IsPoint mid held between want new left stay delays) → IsHeldPoint disk pool states want new left stay delays
      point_held before was few told tells long want first delays known enough did =
          let point = did before (lent_mid before was) (can_choose before was want first known enough) in
          let told_mid : IsTrue mid.tells = subst IsTrue (sym placed.only_reads.stays.tells) told in
          let same = machine_mid before was in
          let now : IsHeld new left stay (machine_lent mid held between) = past_held new left stay (machine_lent mid held between) point.lent goes.fit point.unchanged goes.free goes.unkept few (goes.loaded told_mid) (subst IsTrue (sym tells) told_mid) long none_now whole_now
          (λ s. ready_of new left s (state_at stay s) (ready_now s)) (numbered_now before was want delays point) in
          record {
            settled = point.settled;
            stands = point.stands ∙ ap (λ (m : Machine). Some m) same;
            held = subst (IsHeld new left stay) same now;
            machine = held_machine new left stay (machine_lent mid held between) now goes.fit none_now whole_now ∙ point.machine ∙ same;
            unchanged = point.unchanged;
            room = point.room;
            delays = point.delays;
            entries = record { mid = held; between = between; found = placed.found; version = placed.version; others = placed.others; maps = maps_now; whole = whole; written = goes.settled; housed = placed.fit.housed; placed = placed.entries; unused = placed.unused before was; rest = placed.rest; chosen = chosen_now before was want; containers = subst (λ (c : List Bool). LeavesContainers c (regions_chosen held between want) between held.containers left.containers) placed.committed (record { written = point.entries; stays = point.containers }) };
            missing = point.missing;
            free = goes.free;
            kept = λ s v x inside there on. point.kept s v x inside there on ∙ ap (λ (i : Image). placed_in held.kept i (own_entry (container_at held.containers s) v)) placed.only_reads.stays.reads;
            idle = λ bare. (placed.idle bare).0.kept;
          }

  -- ---- it wasn't done

  -- a point that isn't prepared leaves what was placed
  pub still_unprepared : StillHeld disk pool states mid held between → (e : BlockFault) → IsStill disk pool states mid held between (of_block e)
  still_unprepared still DiskFault = inr still
  still_unprepared still (Damaged at want found) = still
  still_unprepared still Memory = still

  -- ---- the counts

  unprepared_cause : (e : BlockFault) → HasBlockCause {T = Unit {0}} disk.faults mid.faults (Err e) → HasWholeCause disk mid (Err (of_block e))
  unprepared_cause DiskFault cause = (cause, inl placed.only_reads.write_faults)
  unprepared_cause (Damaged at want found) cause = (cause, placed.only_reads.write_faults)
  unprepared_cause Memory cause = (cause, placed.only_reads.write_faults)

  pub counts_unprepared : (e : BlockFault) → HasBlockCause {T = Unit {0}} disk.faults mid.faults (Err e) → WholeCounts disk mid (Err (of_block e))
  counts_unprepared e cause = record {
    tells = placed.only_reads.stays.tells;
    given = placed.only_reads.given;
    ends = placed.only_reads.ends;
    cause = unprepared_cause e cause;
  }

  -- a write failed
  pub counts_failed : mid.faults ≡ disk.faults → (new : Shown) → Counts mid new (Err DiskFault) → WholeCounts disk new (Err volume.DiskFault)
  counts_failed calm new counts = record {
    tells = counts.tells ∙ placed.only_reads.stays.tells;
    given = counts.given ∙ placed.only_reads.given;
    ends = counts.ends ∙ placed.only_reads.ends;
    cause = (subst (λ (n : ℕ). Rose n new.faults) calm counts.cause, inr (subst (λ (n : ℕ). Rose n new.write_faults) placed.only_reads.write_faults counts.write_cause));
  }

  pub counts_done : mid.faults ≡ disk.faults → (new : Shown) → Counts mid new (Ok tt) → WholeCounts disk new (Ok tt)
  counts_done calm new counts = record {
    tells = counts.tells ∙ placed.only_reads.stays.tells;
    given = counts.given ∙ placed.only_reads.given;
    ends = counts.ends ∙ placed.only_reads.ends;
    cause = (counts.cause ∙ calm, counts.write_cause ∙ placed.only_reads.write_faults);
  }

  -- ---- room

  -- with enough of it a point finds what it asks for, and each leaf stands
  pub enough_left : IsSlots held.containers → (before : Machine) → IsHeld disk pool states before → HaveFullRoom pool states → IsTrue mid.tells → (e : BlockFault) → LacksPoint mid held between e → IsNoDamage (of_block e)
  enough_left few before was room tells DiskFault lacks = tt
  enough_left few before was room tells Memory lacks = tt
  enough_left few before was room tells (Damaged at want found) (inl lacks) =
      let spent = placed.spent before was (some_room pool states room) in
      let asked = placed.all in
      let blocks = room.blocks in
      absurd (omega (arith, lacks.1.0, lacks.1.1.0, lacks.1.1.1, asked_least between placed.fit.housed.long, spent.blocks, asked, blocks))
  enough_left few before was room tells (Damaged at want found) (inr leaf) = absurd (none_damaged mid.reads held.containers at want found (lent_clean mid.reads held.found between held.containers few placed.fit.housed (placed.held before was).slots) (leaf tells))

  -- why it isn't prepared, with the files in their places, once leaves came into memory
  pub fails_left : (new : Shown) (left : Pool) → LoadsPool mid held left → OnlyReads mid new → (e : BlockFault) → LacksPoint mid held between e → WholeFails disk pool states new left between (of_block e)
  fails_left new left loads reads DiskFault lacks = tt
  fails_left new left loads reads Memory lacks = tt
  fails_left new left loads reads (Damaged at want found) (inl lacks) = inl (inl (
    lacks.0 ∙ sym (ap (λ (f : Found). root_place f.slot) loads.found),
    (lacks.1.0, (lacks.1.1.0 ∙ sym (ap free_blocks loads.map), lacks.1.1.1)),
  ))
  fails_left new left loads reads (Damaged at want found) (inr leaf) = inl (inr (λ tells. leaf_still mid.reads new.reads held.containers left.containers at want found reads.stays.reads loads.containers.maps (leaf (subst IsTrue reads.stays.tells tells))))

-- the count of faults, where it stayed before
pub block_cause : (first mid last : ℕ) (e : BlockFault) → mid ≡ first → HasBlockCause {T = Unit {0}} mid last (Err e) → HasBlockCause {T = Unit {0}} first last (Err e)
block_cause first mid last DiskFault same cause = subst (λ (n : ℕ). Rose n last) same cause
block_cause first mid last (Damaged at want found) same cause = cause ∙ same
block_cause first mid last Memory same cause = cause ∙ same

-- it rose where that fault is one of the disk
pub failed_cause : (first last : ℕ) (e : BlockFault) → e ≡ DiskFault → HasBlockCause {T = Unit {0}} first last (Err e) → Rose first last
failed_cause first last e failed cause = subst (λ (f : BlockFault). HasBlockCause {T = Unit {0}} first last (Err f)) failed cause

-- ---- the files weren't placed

-- what was placed of the files stays
pub still_placing : (disk : Shown) (pool : Pool) (states : States) (after : Shown) (left : Pool) (stay : States) (e : VolumeFault) → IsPlaceFault disk after e → StillHeld disk pool states after left stay → IsStill disk pool states after left stay e
still_placing disk pool states after left stay (volume.Refused r) fault still = absurd fault
still_placing disk pool states after left stay volume.DiskFault fault still = inr still
still_placing disk pool states after left stay (volume.Damaged at want found) fault still = still
still_placing disk pool states after left stay volume.Memory fault still = still

pub fails_placed : (disk : Shown) (pool : Pool) (states : States) (after : Shown) (left : Pool) (stay : States) (e : VolumeFault) → IsPlaceFault disk after e → FailsToPlace disk pool states after e → WholeFails disk pool states after left stay e
fails_placed disk pool states after left stay (volume.Refused r) fault lacks = absurd fault
fails_placed disk pool states after left stay volume.DiskFault fault lacks = tt
fails_placed disk pool states after left stay (volume.Damaged at want found) fault lacks = inr lacks
fails_placed disk pool states after left stay volume.Memory fault lacks = tt

pub counts_placed : (disk after : Shown) (e : VolumeFault) → OnlyReads disk after → IsPlaceFault disk after e → WholeCounts disk after (Err e)
counts_placed disk after e reads fault = record { tells = reads.stays.tells; given = reads.given; ends = reads.ends; cause = by e fault }
  where
    by : (e : VolumeFault) → IsPlaceFault disk after e → HasWholeCause disk after (Err e)
    by (volume.Refused r) fault = absurd fault
    by volume.DiskFault fault = (fault, inl reads.write_faults)
    by (volume.Damaged at want found) fault = (fault, reads.write_faults)
    by volume.Memory fault = (fault, reads.write_faults)
