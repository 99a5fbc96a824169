-- A point by its plan: where it is known what isn't counted, and there is room, just the chosen regions are reclaimed.
use Rattle.std.proofs.Common.{◌≡◌, ℕ, ◌<◌, ◌≤◌, Bool, true, false, List, get_or, refl, sym, ap, subst, ◌∙◌}
use Rattle.std.specs.Prelude.{Option, Some, None}
use Rattle.fv_disk.specs.Shown.{Image, Shown}
use Rattle.fv_model.specs.Machines.{Machine}
use Rattle.fv_aggmap.specs.Space.{free_blocks}
use Rattle.fv_container.specs.Chains.{Slots, container_at, map_in, paged_at}
use Rattle.fv_container.specs.Leading.{HasEmptied}
use Rattle.fv_container.specs.Mapped.{Mapped}
use Rattle.fv_delay.specs.ByThreshold.{threshold_for}
use Rattle.fv_delay.specs.Delay.{is_delayed, region_of}
use Rattle.fv_delay.specs.Holding.{Holding, counts_of, has_region, held_by}
use Rattle.fv_delay.specs.Reclaims.{goes_with}
use Rattle.fv_pool.specs.declared.pool.Pool.{Pool}
use Rattle.fv_volume.specs.declared.state.VolumeState.{VolumeState}
use Rattle.fv_volumes.specs.Housed.{AreHoused}
use Rattle.fv_pool.specs.Keeping.{seen}
use Rattle.fv_volume.specs.Loading.{Houses}
use Rattle.fv_volume.specs.States.{States, state_at}
use Rattle.fv_volumes.proofs.Told.{is_inside}
use Rattle.fv_cp.specs.declared.planning.Plan.{Plan}
use Rattle.fv_cp.specs.Choosing.{CanChoose, asked_with, has_slot, holding_with, holdings, marked_at, missing_for, regions_chosen}
use Rattle.fv_cp.specs.Course.{HasCome, IsCourse, IsOnCourse, as_lent, renewed}
use Rattle.fv_cp.specs.Lent.{FitTogether, IsLent}
use Rattle.fv_cp.specs.Planning.{AreCounted, IsPlan, LeaveDelays, is_set, taken}
use Rattle.fv_cp.proofs.Counting.{goes_alike}
use Rattle.fv_cp.proofs.Known.{are_counted}
use Rattle.fv_cp.proofs.Marking.{holdings_marked, marked_alike}
use Rattle.fv_cp.proofs.Plans.{due_chosen, none_missed, taken_are}

-- a volume with its container
held_at : (containers : Slots) (states : States) → AreHoused containers states → (s : ℕ) (x : VolumeState) → state_at states s ≡ Some x → (map : Mapped) × ((container_at containers s ≡ Some map) × (holdings containers states s ≡ Some (held_by x.map map)))
held_at containers states housed s x there = by (container_at containers s) refl (subst (λ (o : Option VolumeState). Houses o (container_at containers s)) there (housed.each s))
  where
    by : (c : Option Mapped) → container_at containers s ≡ c → Houses (Some x) (container_at containers s) → (map : Mapped) × ((container_at containers s ≡ Some map) × (holdings containers states s ≡ Some (held_by x.map map)))
    by None lies houses = absurd (subst (Houses (Some x)) lies houses)
    by (Some map) lies houses = (map, (lies, (λ k. holding_with (there k) (lies k))))

-- The volumes that are due are those that have a chosen region.
pub due_alike : (pool : Pool) (states : States) → AreHoused pool.containers states → (want : ℕ) (plan : Plan)
    → IsPlan (holdings pool.containers states) (threshold_for (counts_of (holdings pool.containers states)) (missing_for pool states want)) plan
    → (s : ℕ) (x : VolumeState) → s < 64 → state_at states s ≡ Some x → is_set plan.due s ≡ has_slot (regions_chosen pool states want) s
due_alike pool states housed want plan is s x inside there =
    let held = held_at pool.containers states housed s x there in
    due_chosen (holdings pool.containers states) (missing_for pool states want) plan is s (held_by x.map held.0) inside held.1.1

-- ---- the course by other regions

module _ (f g : ℕ → ℕ → Bool) (pool : Pool) (states : States) (same : (s : ℕ) (x : VolumeState) (map : Mapped) → s < 64 → state_at states s ≡ Some x → container_at pool.containers s ≡ Some map → (v : ℕ) → goes_with x.map map (f s) v ≡ goes_with x.map map (g s) v) where
  -- what goes with the regions is the same
  course_as : (first : Image) (count : ℕ) (labels : List ℕ) (next : List Bool) (containers : Slots) (i : Image) → IsCourse f pool states first count labels next containers i → IsCourse g pool states first count labels next containers i
  course_as first count labels next containers i is = record {
    now = is.now;
    spaced = is.spaced;
    each = λ s inside. by s inside (is.each s inside);
  }
    where
      by : (s : ℕ) → s < 64 → IsOnCourse f pool states first count s (is.now s) (get_or labels s 0) (paged_at containers s) i → IsOnCourse g pool states first count s (is.now s) (get_or labels s 0) (paged_at containers s) i
      by s inside (as_lent waits at) = as_lent waits at
      by s inside (renewed x low there changed now r) = renewed x low there changed now (record {
        old = r.old;
        was = r.was;
        mid = r.mid;
        reclaimed = subst (λ (p : ℕ → Bool). HasEmptied r.old p r.mid) (λ k v. same s x r.old.map inside there (ap map_in r.was) v k) r.reclaimed;
        new = r.new;
        now = r.now;
        valid = r.valid;
        stored = r.stored;
        memory = r.memory;
        stay = r.stay;
        fresh = r.fresh;
      })

  pub come_as : (told : Type 0) (disk : Shown) (count : ℕ) (labels : List ℕ) (left : Pool) (now : Shown) → HasCome f told disk pool states count labels left now → HasCome g told disk pool states count labels left now
  come_as told disk count labels left now come = record {
    long = come.long;
    places = come.places;
    free = come.free;
    stands = come.stands;
    housed = come.housed;
    rest = come.rest;
    room = come.room;
    committed = come.committed;
    found = come.found;
    version = come.version;
    kept = come.kept;
    spares = come.spares;
    written = λ tells before lent here. course_as (seen pool.kept disk.reads) count labels left.map.next left.containers now.reads (come.written tells before lent here);
  }

-- ---- over a disk

module _ (disk : Shown) (pool : Pool) (given : States) (before : Machine) (lent : IsLent disk pool given before) (fit : FitTogether pool given) (want : ℕ) (delays : List Bool) (can : CanChoose disk pool given want delays) (plan : Plan)
    (planned : AreCounted pool.containers given delays → asked_with (regions_chosen pool given want) given ≤ free_blocks pool.map → IsPlan (holdings pool.containers given) (threshold_for (counts_of (holdings pool.containers given)) (missing_for pool given want)) plan) where
  is : IsPlan (holdings pool.containers given) (threshold_for (counts_of (holdings pool.containers given)) (missing_for pool given want)) plan
  is = planned (are_counted disk pool given before lent fit.housed delays can.known) can.room

  module _ (now : States) (marked : (s : ℕ) → state_at now s ≡ marked_at (is_set plan.due) given s) where
    -- So those with a chosen region are marked,
    pub marked_chosen : (s : ℕ) → state_at now s ≡ marked_at (has_slot (regions_chosen pool given want)) given s
    marked_chosen = marked_alike (is_set plan.due) (has_slot (regions_chosen pool given want)) given now (λ s x there. due_alike pool given fit.housed want plan is s x (is_inside given s x fit.housed.long there) there) marked

    held_same : holdings pool.containers now ≡ holdings pool.containers given
    held_same = holdings_marked pool.containers given now (is_set plan.due) marked

    -- just the chosen regions are reclaimed,
    pub come_chosen : (told : Type 0) → AreHoused pool.containers now → (labels : List ℕ) (left : Pool) (mid : Shown) → HasCome (taken plan (holdings pool.containers now)) told disk pool now 64 labels left mid
        → HasCome (has_region (regions_chosen pool given want)) told disk pool now 64 labels left mid
    come_chosen told housed labels left mid come = come_as (taken plan (holdings pool.containers given)) (has_region (regions_chosen pool given want)) pool now same told disk 64 labels left mid
        (subst (λ (volumes : ℕ → Option Holding). HasCome (taken plan volumes) told disk pool now 64 labels left mid) held_same come)
      where
        same : (s : ℕ) (x : VolumeState) (map : Mapped) → s < 64 → state_at now s ≡ Some x → container_at pool.containers s ≡ Some map
            → (v : ℕ) → goes_with x.map map (taken plan (holdings pool.containers given) s) v ≡ goes_with x.map map (has_region (regions_chosen pool given want) s) v
        same s x map inside there lies =
            let at : holdings pool.containers given s ≡ Some (held_by x.map map) = sym (ap (λ (volumes : ℕ → Option Holding). volumes s) held_same) ∙ (λ k. holding_with (there k) (lies k)) in
            goes_alike (held_by x.map map) (taken plan (holdings pool.containers given) s) (has_region (regions_chosen pool given want) s)
            (λ r within. taken_are (holdings pool.containers given) (missing_for pool given want) plan is s (held_by x.map map) r inside at within)

    -- and of a slot that isn't marked any more each delayed entry lay in one of these.
    pub none_left : (after : List Bool) → LeaveDelays plan (holdings pool.containers now) 64 plan.delays after
        → (s : ℕ) (x : Holding) → s < 64 → get_or after s true ≡ false → holdings pool.containers given s ≡ Some x → (v : ℕ) → is_delayed x.map x.container v ≡ true → has_region (regions_chosen pool given want) s (region_of v) ≡ true
    none_left after leave = none_missed (holdings pool.containers given) (missing_for pool given want) plan is after (subst (λ (volumes : ℕ → Option Holding). LeaveDelays plan volumes 64 plan.delays after) held_same leave)
