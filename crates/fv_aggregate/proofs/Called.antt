-- One volume of a session was changed in memory: all of them are what they were between points.
use Rattle.std.proofs.Common.{◌≡◌, ℕ, ◌+◌, ◌<◌, ◌≤◌, false, length, Option, Some, None, refl, sym, ap, subst, ◌∙◌, arith}
use Rattle.std.specs.Prelude.{IfSome}
use Rattle.fv_disk.specs.Shown.{Image, Shown}
use Rattle.fv_model.specs.Machines.{Machine, capacity}
use Rattle.fv_image.specs.Held.{Keeps, layout_at}
use Rattle.fv_image.specs.WholeMachine.{Tells}
use Rattle.fv_root.specs.declared.find.Found.{Found}
use Rattle.fv_root.specs.Commits.{IsFoundOn}
use Rattle.fv_root.specs.Finding.{IsFound, root_found}
use Rattle.fv_aggmap.specs.Space.{Space}
use Rattle.fv_container.specs.Chains.{Slots, container_at, paged_at}
use Rattle.fv_container.specs.Paged.{Paged}
use Rattle.fv_files.specs.declared.numbers.FileNumbers.{FileNumbers}
use Rattle.fv_pool.specs.declared.pool.Pool.{Pool}
use Rattle.fv_volume.specs.declared.state.VolumeState.{VolumeState}
use Rattle.fv_pool.specs.Calls.{GivesUp, Reads}
use Rattle.fv_volume.specs.Files.{AreNamed}
use Rattle.fv_volume.specs.Loading.{IsLoaded}
use Rattle.fv_volume.specs.OneVolume.{IsReady, IsStanding, base_by, blocks_in}
use Rattle.fv_volume.specs.Placing.{IsLedTo, IsStoredWell}
use Rattle.fv_volume.specs.Slots.{sum_of}
use Rattle.fv_volume.specs.States.{States, state_at, with_state}
use Rattle.fv_volume.specs.Stored.{AreSpacedIn, is_of}
use Rattle.fv_volumes.specs.UnderRoot.{IsLentAt, IsMapOf}
use Rattle.fv_volume.proofs.OneVolumes.{still_ready, still_standing, still_volume}
use Rattle.fv_volumes.proofs.StandingMaps.{maps_still}
use Rattle.fv_volume.proofs.OneVolumes.{still_led, still_well}
use Rattle.fv_cp.specs.Held.{IsHeld, IsHeldIn}
use Rattle.fv_tables.specs.Spelled.{Under}
use Rattle.fv_volmap.specs.Slots.{slot_of_base}
use Rattle.fv_volume.proofs.SlotMoves.{blocks_move}
use Rattle.fv_volumes.specs.Footing.{AreFooted}
use Rattle.fv_volumes.proofs.CalledFooted.{called_footed}
use Rattle.fv_aggregate.proofs.Replaced.{each_slot, lent_as, named_as, spaced_as}
use Rattle.std.specs.FinSet as set
use Rattle.fv_model.specs.Space.{base_ids}
use Rattle.fv_model.specs.Volumes.{Base, Volume}

-- What a call that changes a volume's files in memory leaves of it. Unmarked it is as it was, but for the numbers of its files.
pub record IsCalled (disk : Shown) (pool : Pool) (x y : VolumeState) : Type 0 where
  pub same : y ≡ record x { now = y.now; map = y.map; files = y.files; numbers = y.numbers; ledger = y.ledger; changed = y.changed }
  pub unchanged : y.changed ≡ false → y ≡ record x { numbers = y.numbers }
  pub maps : GivesUp x.map y.map
  pub ready : IsReady disk pool y
  pub stands : IsStanding disk pool y
  pub led : IsLedTo disk pool y
  pub well : IsStoredWell disk pool y
  pub within : y.ledger.charge ≤ y.size

-- the same volume is the same but for the numbers of its files
pub but_for_numbers : (x y : VolumeState) → y ≡ x → y ≡ record x { numbers = y.numbers }
but_for_numbers x y same = same ∙ ap (λ (n : Option FileNumbers). record x { numbers = n }) (ap (λ (z : VolumeState). z.numbers) (sym same))

module _ (d e : Shown) (p q : Pool) (reads : Reads d p e q) where
  -- blocks were read: a volume is what it was
  pub held_in_read : (k : ℕ) (w : VolumeState) → IsHeldIn d p k w → IsHeldIn e q k w
  held_in_read k w is = record {
    slot = is.slot;
    ready = still_ready d e p q reads w is.ready;
    stands = still_standing d e p q reads w is.stands;
    led = still_led d e p q reads w is.led;
    well = still_well d e p q reads w is.well;
    wide = subst (λ (v : Volume). v.most + (set.len (base_ids v.base) + 256) ≤ v.span) (sym (still_volume d e p q reads w)) is.wide;
    within = is.within;
  }

  -- Other volumes over the same root are what they have to be, where each is that, and they are laid out so.
  pub held_over : {were : States} (states : States) (before : Machine) → IsHeld d p were before → ((k : ℕ) → k < 64 → IsLentAt d.reads p.found k (state_at states k) (paged_at p.containers k))
      → AreSpacedIn p.found.blocks p.map.next (state_at states) (container_at p.containers) → AreNamed states → ((k : ℕ) → IfSome (state_at states k) (IsHeldIn e q k)) → sum_of states ≤ capacity p.found.blocks → AreFooted states p.containers → IsHeld e q states before
  held_over states before held slots spaced names each commits footed =
      let same = reads.only_reads.stays.reads in
      let found = reads.leaves.found in
      record {
        found = subst (IsFoundOn e) (sym found) (record {
          reads = subst (λ (i : Image). IsFound i p.found) (sym same) held.found.reads;
          images = λ c now. held.found.images c (reads.only_reads.stays.no_more c now);
        });
        tells = subst (λ (f : Found). Tells (layout_at (root_found f) e.reads) before) (sym found) (subst (λ (i : Image). Tells (layout_at (root_found p.found) i) before) (sym same) held.tells);
        keeps = λ c now. subst (λ (f : Found). Keeps (root_found f) e.reads c) (sym found) (subst (λ (i : Image). Keeps (root_found p.found) i c) (sym same) (held.keeps c (reads.only_reads.stays.no_more c now)));
        map = subst (λ (m : Space). IsMapOf e.reads q.found m) (sym reads.leaves.map) (subst (λ (f : Found). IsMapOf e.reads f p.map) (sym found) (subst (λ (i : Image). IsMapOf i p.found p.map) (sym same) held.map));
        slots = λ k low. subst (λ (c : Slots). IsLentAt e.reads q.found k (state_at states k) (paged_at c k)) (sym reads.leaves.containers)
            (subst (λ (f : Found). IsLentAt e.reads f k (state_at states k) (paged_at p.containers k)) (sym found) (subst (λ (i : Image). IsLentAt i p.found k (state_at states k) (paged_at p.containers k)) (sym same) (slots k low)));
        spaced = subst (λ (c : Slots). AreSpacedIn q.found.blocks q.map.next (state_at states) (container_at c)) (sym reads.leaves.containers)
            (subst (λ (m : Space). AreSpacedIn q.found.blocks m.next (state_at states) (container_at p.containers)) (sym reads.leaves.map) (subst (λ (f : Found). AreSpacedIn f.blocks p.map.next (state_at states) (container_at p.containers)) (sym found) spaced));
        names = names;
        each = each;
        commits = subst (λ (f : Found). sum_of states ≤ capacity f.blocks) (sym found) commits;
        footed = subst (AreFooted states) (sym reads.leaves.containers) footed;
      }

  module _ (states : States) (before : Machine) (held : IsHeld d p states before) (long : length states ≡ 64) (s : ℕ) (x y : VolumeState) (there : state_at states s ≡ Some x) (called : IsCalled e q x y)
      (commits : sum_of (with_state states s (Some y)) ≤ capacity p.found.blocks) where
    abbrev stay : States
    stay = with_state states s (Some y)

    mine : IsHeldIn d p s x
    mine = subst (λ (o : Option VolumeState). IfSome o (IsHeldIn d p s)) there (held.each s)

    -- the slot of its base has the blocks that it had
    same_base : base_by (blocks_in e q y) x.base ≡ base_by (blocks_in d p x) x.base
    same_base = ap (λ (u : Under). base_by (λ k. u) x.base)
        (blocks_move e q x y (ap (λ (z : VolumeState). z.slot) called.same) slot_of_base slot_of_base (called.maps.snapshots slot_of_base (λ zero. absurd (omega (arith, zero)))))
        ∙ ap (λ (v : Volume). v.base) (still_volume d e p q reads x)

    held_new : IsHeldIn e q s y
    held_new = record {
      slot = ap (λ (z : VolumeState). z.slot) called.same ∙ mine.slot;
      ready = called.ready;
      stands = called.stands;
      led = called.led;
      well = called.well;
      wide = subst (λ (z : VolumeState). z.most + (set.len (base_ids (base_by (blocks_in e q y) z.base)) + 256) ≤ z.span) (sym called.same)
          (subst (λ (b : Option Base). x.most + (set.len (base_ids b) + 256) ≤ x.span) (sym same_base) mine.wide);
      within = called.within;
    }

    each_now : (k : ℕ) → IfSome (state_at stay k) (IsHeldIn e q k)
    each_now = each_slot states long s x y there (λ k o. IfSome o (IsHeldIn e q k)) held_new (λ k differ. by k (state_at states k) (held.each k))
      where
        by : (k : ℕ) (o : Option VolumeState) → IfSome o (IsHeldIn d p k) → IfSome o (IsHeldIn e q k)
        by k None is = tt
        by k (Some w) is = held_in_read k w is

    loaded_with : (map : Paged) (n : Option FileNumbers) → IsLoaded d.reads p.found s (Some x) (Some map) → IsLoaded d.reads p.found s (Some (record x { numbers = n })) (Some map)
    loaded_with map n is = record { head = is.head; tree = is.tree; clean = is.clean; label = is.label; bits = is.bits; changed = is.changed }

    slots_there : (k : ℕ) → k < 64 → IsLentAt d.reads p.found k (state_at stay k) (paged_at p.containers k)
    slots_there = lent_as states long s x y there d.reads p.found (ap (λ (z : VolumeState). z.label) called.same) span
        (λ map stand. maps_still d.reads p.found x y map map span called.maps.span called.maps.snapshots (ap (λ (z : VolumeState). z.fresh) called.same) (λ v past. refl) stand)
        (λ map loaded un. subst (λ (z : VolumeState). IsLoaded d.reads p.found s (Some z) (Some map)) (sym (called.unchanged un)) (loaded_with map y.numbers (loaded (sym (ap (λ (z : VolumeState). z.changed) (called.unchanged un)) ∙ un))))
        p.containers held.slots
      where
        span : y.span ≡ x.span
        span = ap (λ (z : VolumeState). z.span) called.same

    spaced_there : AreSpacedIn p.found.blocks p.map.next (state_at stay) (container_at p.containers)
    spaced_there = spaced_as states long s x y there p.containers (λ map b. ap (λ (z : VolumeState). is_of z z.label map b) called.same) p.found.blocks p.map.next held.spaced

    names_now : AreNamed stay
    names_now = named_as states long s x y there (ap (λ (z : VolumeState). z.name) called.same) held.names

    pub called_held : IsHeld e q stay before
    called_held = held_over stay before held slots_there spaced_there names_now each_now commits (called_footed states s x y there p.containers called.same called.maps held.footed)
