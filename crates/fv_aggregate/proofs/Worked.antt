-- How a call of background steps ends that only read the disk, whatever it changed in memory; and what one step of a volume does.
--
-- `d`, `s` are the disk and the session before the call, `e`, `left` after it, but for what a fault makes of the session:
--   backs_ok d e laws s left added reads still stands few within numbers kept x calm
--   backs_fault d e laws s left added reads still stands few within numbers kept fault n f breaks cause damage whole
-- where numbers : KeepsNumbers s.volumes left.volumes, kept : .. StandsFor d s last m → StandsFor e left last m, and
-- whole : IsTrue d.tells → (last m : Machine) → StandsFor d s last m → IsNoDamage fault.
use Rattle.std.proofs.Common.{◌≡◌, ◌≤◌, ◌+◌, ℕ, Bool, true, false, cond, true≢false, List, length, Option, Some, None, Ok, Err, inl, inr, refl, sym, ap, subst, ◌∙◌, arith}
use Rattle.std.specs.Prelude.{max, IfSome, IsNone, IsTrue}
use Rattle.fv_disk.specs.Shown.{Image, IsDisk, Rose, Shown}
use Rattle.fv_disk.specs.Crash.{Leaves}
use Rattle.fv_disk.specs.DiskCalls.{OnlyReads}
use Rattle.fv_disk.proofs.Moments.{goes_on}
use Rattle.fv_bits.specs.Members.{is_member}
use Rattle.fv_model.specs.declared.answers.Refusal.{Refusal}
use Rattle.fv_model.specs.Machines.{Machine}
use Rattle.fv_aggmap.specs.Space.{Space, free_blocks}
use Rattle.fv_image.specs.Held.{view_at}
use Rattle.fv_image.specs.Maps.{map_bit}
use Rattle.fv_image.specs.Views.{overheads}
use Rattle.fv_container.specs.Chains.{AreCleanOn}
use Rattle.fv_root.specs.declared.find.Found.{Found}
use Rattle.fv_root.specs.Commits.{IsFoundOn}
use Rattle.fv_root.specs.Finding.{root_found}
use Rattle.fv_store.specs.Held.{StandsOn}
use Rattle.fv_pool.specs.declared.pool.Pool.{Pool}
use Rattle.fv_pool.specs.declared.fault.VolumeFault.{VolumeFault}
use Rattle.fv_pool.specs.declared.fault.VolumeFault.TheVariants as volume
use Rattle.fv_pool.specs.BlocksOver.{LoadsPool}
use Rattle.fv_pool.specs.Calls.{Reads}
use Rattle.fv_pool.specs.Causes.{HasVolumeCause, IsNoDamage}
use Rattle.fv_volume.specs.declared.state.VolumeState.{VolumeState}
use Rattle.fv_volume.specs.Slots.{sum_of}
use Rattle.fv_volume.specs.States.{States, state_at}
use Rattle.fv_volumes.proofs.PlacedIn.{found_read}
use Rattle.fv_cleaner.specs.Cleaning.{CleansAt, MovesAt, Steps, StepsIn}
use Rattle.fv_cleaner.specs.Searching.{CanFollow, LeadBelow, lies_in}
use Rattle.fv_cleaner.specs.Stepping.{CanClean, roots_of}
use Rattle.fv_cp.specs.Lent.{FitTogether}
use Rattle.fv_cp.specs.Placing.{AreReady, HaveNoFiles, IsReadyIn}
use Rattle.fv_cp.proofs.CameIn.{are_ready, fit_loaded, held_loaded, machine_loaded}
use Rattle.fv_aggregate.specs.declared.fault.Fault.{Fault}
use Rattle.fv_aggregate.specs.declared.fault.Fault.TheVariants.{DiskFault, Damaged, Memory}
use Rattle.fv_aggregate.specs.declared.session.Session.{Session}
use Rattle.fv_aggregate.specs.Calls.{SameCounts}
use Rattle.fv_aggregate.specs.Causes.{KeepsEnds}
use Rattle.fv_aggregate.specs.Commands.{AsksNothing}
use Rattle.fv_aggregate.specs.Known.{KeepsNumbers}
use Rattle.fv_aggregate.specs.Looking.{Breaks}
use Rattle.fv_aggregate.specs.Standing.{clear_blocks, taken_since, OneOf, StandsAfter, StandsFor, StandsReady}
use Rattle.fv_aggregate.specs.Working.{is_unclean, step_room, Backs, HasKnownRoots, HasWorkDamage, StaysFor, TakesStep}
use Rattle.fv_aggregate.proofs.Keeping.{keeps_same}
use Rattle.fv_aggregate.proofs.Looked.{fit_read, stands_for_read, stands_read}
use Rattle.fv_aggregate.proofs.Returned.{breaks_beside, put_back}
use Rattle.fv_aggregate.proofs.Standing.{known_still, rests_for_last, settled_after_reads, stands_for_last, stays_for}
use Rattle.fv_aggregate.proofs.WorkedOthers.{todo_loaded}
use Rattle.fv_aggregate.proofs.WorkedParts.{commits_moved, fit_moved, moved_on, none_moved, numbers_moved, ready_moved, IsMovedOn}
use Rattle.fv_aggregate.proofs.WorkedStands.{cleanable, none_falls, stepped_falls, stepped_for}

-- ---- the ends of a call that only read

abbrev pub FaultCause : ℕ → ℕ → VolumeFault → Type 0
FaultCause before now (volume.Refused r) = ⊥
FaultCause before now volume.DiskFault = Rose before now
FaultCause before now (volume.Damaged at want found) = now ≡ before
FaultCause before now volume.Memory = now ≡ before

module _ (d e : Shown) (laws : IsDisk d) (s left : Session) (added : ℕ) (reads : OnlyReads d e)
    (still : IsNone left.failed) (stands : StandsReady e left)
    (few : left.pending ≤ s.pending + added) (within : left.pending ≤ max 256 s.pending) (numbers : KeepsNumbers s.volumes left.volumes)
    (kept : IsTrue d.tells → (last m : Machine) → StandsFor d s last m → StandsFor e left last m) where
  ends : KeepsEnds d e
  ends = record { tells = reads.stays.tells; given = reads.given; ends = reads.ends }

  moments : (last m : Machine) → StandsFor d s last m → Leaves d e (λ c g. OneOf last m m c × (g ≡ d.given))
  moments last m is = goes_on d d e (λ c g. OneOf last m m c × (g ≡ d.given)) (rests_for_last d s last m m laws is) reads.time
      (λ c now. (inl (stands_for_last d s.pool s.volumes last is.held c (reads.stays.no_more c now)), reads.given))

  stays_left : IsTrue d.tells → (last m : Machine) → StandsFor d s last m → StaysFor d last m e left
  stays_left tells last m is = record { any_moment = moments last m is; stands = λ none. stays_for e left last m (kept tells last m is) }

  calm_counts : e.faults ≡ d.faults → SameCounts d e
  calm_counts calm = record { faults = calm; write_faults = reads.write_faults }

  -- it was done
  pub backs_ok : {T : Type 0} (x : T) → e.faults ≡ d.faults → Backs added d s e left (Ok x)
  backs_ok x calm = record {
    ends = ends;
    stands = λ none. stands;
    done = (still, calm_counts calm);
    fault = tt;
    pending = few;
    within = within;
    numbers = λ none. numbers;
    whole = λ tells last m is. tt;
    stays = stays_left;
  }

  backs_wanting : {T : Type 0} → e.faults ≡ d.faults → Backs {T = T} added d s e left (Err Memory)
  backs_wanting calm = record {
    ends = ends;
    stands = λ none. stands;
    done = tt;
    fault = (calm_counts calm, still);
    pending = few;
    within = within;
    numbers = λ none. numbers;
    whole = λ tells last m is. tt;
    stays = stays_left;
  }

  backs_damaged : {T : Type 0} (at want found : ℕ) → e.faults ≡ d.faults → HasWorkDamage e left at want found
      → (IsTrue d.tells → (last m : Machine) → StandsFor d s last m → ⊥) → Backs {T = T} added d s e left (Err (Damaged at want found))
  backs_damaged at want found calm damage never = record {
    ends = ends;
    stands = λ none. stands;
    done = tt;
    fault = (damage, (calm_counts calm, still));
    pending = few;
    within = within;
    numbers = λ none. numbers;
    whole = never;
    stays = stays_left;
  }

  -- a read failed
  module _ (o : Option ℕ) where
    abbrev broken : Session
    broken = record left { failed = o }

    same_none : (a b : Option ℕ) → IsNone a → IsNone b → a ≡ b
    same_none None None x y = refl
    same_none None (Some n) x y = cc
    same_none (Some n) b x y = cc

    as_left : IsNone o → left ≡ broken
    as_left none = ap (λ (f : Option ℕ). record left { failed = f }) (same_none left.failed o still none)

    backs_broken : {T : Type 0} → Rose d.faults e.faults → (Rose e.write_faults e.write_faults → o ≡ Some e.faults)
        → (¬ Rose e.write_faults e.write_faults → IsNone o) → Backs {T = T} added d s e broken (Err DiskFault)
    backs_broken rose written unwritten = record {
      ends = ends;
      stands = λ none. subst (StandsReady e) (as_left none) stands;
      done = tt;
      fault = (
        record { faults = rose; write_faults = λ calm. reads.write_faults },
        record {
          by_write = λ is. written (subst (λ (n : ℕ). Rose n e.write_faults) (sym reads.write_faults) is);
          by_read = λ isnt. unwritten (λ is. isnt (subst (λ (n : ℕ). Rose n e.write_faults) reads.write_faults is));
        },
      );
      pending = few;
      within = within;
      numbers = λ none. numbers;
      whole = λ tells last m is. tt;
      stays = λ tells last m is. record {
        any_moment = moments last m is;
        stands = λ none.
            subst (λ (n : Session). StandsAfter e n last m m) (as_left none) (stays_for e left last m (kept tells last m is));
      };
    }

  as_ended : {T : Type 0} (k : Session) (h : Fault) (n : Session) (f : Fault) → n ≡ k → f ≡ h → Backs {T = T} added d s e k (Err h)
      → Backs {T = T} added d s e n (Err f)
  as_ended {T} k h n f same is backs = subst (λ (w : Session). Backs {T = T} added d s e w (Err f)) (sym same)
      (subst (λ (g : Fault). Backs {T = T} added d s e k (Err g)) (sym is) backs)

  -- it ended with what a call on the volumes answered
  pub backs_fault : {T : Type 0} (fault : VolumeFault) (n : Session) (f : Fault) → Breaks e fault left n f
      → FaultCause d.faults e.faults fault
      → ((at want found : ℕ) → fault ≡ volume.Damaged at want found → HasWorkDamage e left at want found)
      → (IsTrue d.tells → (last m : Machine) → StandsFor d s last m → IsNoDamage fault) → Backs {T = T} added d s e n (Err f)
  backs_fault {T} (volume.Refused r) n f breaks cause damage whole = absurd cause
  backs_fault {T} volume.DiskFault n f breaks cause damage whole =
      as_ended {T = T} (record left { failed = n.failed }) DiskFault n f breaks.1.same breaks.0
      (backs_broken n.failed cause breaks.1.written breaks.1.unwritten)
  backs_fault {T} (volume.Damaged at want found) n f breaks cause damage whole =
      as_ended {T = T} left (Damaged at want found) n f breaks.1 breaks.0
      (backs_damaged at want found cause (damage at want found refl) whole)
  backs_fault {T} volume.Memory n f breaks cause damage whole = as_ended {T = T} left Memory n f breaks.1 breaks.0 (backs_wanting cause)

-- ---- leaves came into memory

module _ (d e : Shown) (s : Session) (fit : FitTogether s.pool s.volumes) (ready : StandsReady d s) (reads : OnlyReads d e) (q : Pool)
    (loads : LoadsPool d s.pool q) (cache : StandsOn e q.store.pairs) where
  abbrev pub loaded : Session
  loaded = record s { pool = q }

  pub stands_loaded : StandsReady e loaded
  stands_loaded = record {
    stands = record {
      found = λ tells.
          subst (IsFoundOn e) (sym loads.found)
          (found_read d e s.pool.found reads (ready.stands.found (subst IsTrue reads.stays.tells tells)));
      map = λ tells.
          let is = ready.stands.map (subst IsTrue reads.stays.tells tells) in
          record {
            len = ap (λ (m : Space). length m.committed) loads.map ∙ is.len ∙ ap (λ (f : Found). f.blocks) (sym loads.found);
            bits = λ b. ap (λ (m : Space). is_member m.committed b) loads.map ∙ is.bits b
                ∙ (λ j. map_bit (root_found (sym loads.found j)) (sym reads.stays.reads j) b);
          };
      cache = cache;
    };
    ready = are_ready d e s.pool q s.volumes loads reads cache fit ready.ready;
  }

  pub stands_for_loaded : (last m : Machine) → StandsFor d s last m → StandsFor e loaded last m
  stands_for_loaded last m is =
      let same : overheads (view_at (root_found q.found) e.reads) ≡ overheads (view_at (root_found s.pool.found) d.reads) =
      λ j. overheads (view_at (root_found (loads.found j)) (reads.stays.reads j)) in
      let taken : taken_since q.map ≡ taken_since s.pool.map = ap taken_since loads.map in
      let free : free_blocks q.map ≡ free_blocks s.pool.map = ap free_blocks loads.map in
      let clear : clear_blocks q.map ≡ clear_blocks s.pool.map = ap clear_blocks loads.map in
      let pending_was = is.pending in let files_was = is.files in let free_was = is.free in let room_was = is.room in
      record {
        held = held_loaded d e s.pool q s.volumes loads reads cache fit last is.held;
        machine = machine_loaded d e s.pool q s.volumes loads reads cache fit last is.held ∙ is.machine;
        settled = settled_after_reads d e reads is.settled;
        delays = known_still d.reads e.reads s.pool.found q.found s.delays s.delays reads.stays.reads loads.found refl is.delays;
        pending = omega (arith, same, taken, pending_was);
        files = omega (arith, taken, files_was);
        few = is.few;
        free = omega (arith, free, free_was);
        room = omega (arith, same, clear, room_was);
      }

  loads_after : LoadsPool e s.pool q
  loads_after = record {
    map = loads.map;
    kept = loads.kept;
    found = loads.found;
    version = loads.version;
    containers = record {
      maps = loads.containers.maps;
      parents = loads.containers.parents;
      clean = λ told. subst (λ (i : Image). AreCleanOn i q.containers) (sym reads.stays.reads)
          (loads.containers.clean (
            subst IsTrue reads.stays.tells told.0,
            subst (λ (i : Image). AreCleanOn i s.pool.containers) reads.stays.reads told.1,
          ));
    };
  }

  -- what can be cleaned by what the disk shows afterwards, can by what it showed before
  can_before : (x : VolumeState) → CanClean e s.pool x → CanClean d s.pool x
  can_before x is = record {
    told = (subst IsTrue reads.stays.tells is.told.0, subst (λ (i : Image). AreCleanOn i s.pool.containers) reads.stays.reads is.told.1);
    follow = subst (λ (i : Image). CanFollow (lies_in x.map s.pool x.slot i)) reads.stays.reads is.follow;
    roots = subst (λ (i : Image). LeadBelow (lies_in x.map s.pool x.slot i) 8 (roots_of x)) reads.stays.reads is.roots;
    free = is.free;
  }

  pub cant_clean : (slot at want found : ℕ) → (IfSome (state_at s.volumes slot) (CanClean d s.pool) → ⊥)
      → HasWorkDamage e loaded at want found
  cant_clean slot at want found cant = record {
    session = s;
    asked = AsksNothing;
    part = inr (inl (record { slot = slot; cant = λ able. cant (by (state_at s.volumes slot) able); loads = loads_after; same = refl }));
  }
    where
      by : (o : Option VolumeState) → IfSome o (CanClean e s.pool) → IfSome o (CanClean d s.pool)
      by None able = tt
      by (Some x) able = can_before x able

-- ---- a step

pub record IsThere (o : Option VolumeState) : Type 0 where
  pub x : VolumeState
  pub is : o ≡ Some x
  pub unclean : x.known ≡ false

pub unclean_there : (o : Option VolumeState) → is_unclean o ≡ true → IsThere o
unclean_there None e = absurd (true≢false (sym e))
unclean_there (Some x) e = record { x = x; is = refl; unclean = by x.known refl }
  where
    by : (b : Bool) → x.known ≡ b → x.known ≡ false
    by false k = k
    by true k = absurd (true≢false (sym e ∙ ap (λ (b : Bool). cond b false true) k))

-- A step may be taken of the volume of a slot: the session hasn't failed and stands on the disk, and none of its files is in memory. There
-- is room for a step, and the volume doesn't know all its places.
pub record MayStep (d : Shown) (s : Session) (slot : ℕ) : Type 0 where
  pub fresh : IsNone s.failed
  pub ready : StandsReady d s
  pub none : HaveNoFiles s.volumes
  pub few : s.pending + step_room ≤ 256
  pub there : IsThere (state_at s.volumes slot)

-- so it is of the session whose parts are these
pub may_step : (d : Shown) (v s : Session) → v ≡ s → (slot : ℕ) → IsNone s.failed
    → StandsReady d s → HaveNoFiles s.volumes → s.pending + step_room ≤ 256
    → is_unclean (state_at s.volumes slot) ≡ true → MayStep d v slot
may_step d v s same slot fresh ready none few unclean = subst (λ (n : Session). MayStep d n slot) (sym same) (record {
  fresh = fresh;
  ready = ready;
  none = none;
  few = few;
  there = unclean_there (state_at s.volumes slot) unclean;
})

module _ (d e : Shown) (laws : IsDisk d) (s : Session) (slot : ℕ) (may : MayStep d s slot) (fit : FitTogether s.pool s.volumes)
    (reads : OnlyReads d e) (q : Pool) where
  abbrev x : VolumeState
  x = may.there.x

  its_slot : x.slot ≡ slot
  its_slot = (subst (λ (o : Option VolumeState). IfSome o (IsReadyIn d s.pool slot)) may.there.is (may.ready.ready slot)).slot

  module _ (cache : StandsOn e q.store.pairs) where
    -- it was taken
    module _ (new : States) (cleans : CleansAt d s.pool s.volumes slot q new true) where
      abbrev steps : Steps d s.pool s.volumes slot x q new true
      steps = subst (λ (o : Option VolumeState). StepsIn d s.pool s.volumes slot o q new true) may.there.is cleans

      moved : IsMovedOn s.pool q x steps.volume
      moved = moved_on d s.pool x q steps.volume steps.cleans

      pub took_fit : FitTogether q new
      took_fit = subst (FitTogether q) (sym steps.others)
          (fit_moved d e s.pool q s.volumes slot x steps.volume may.there.is its_slot moved fit)

      pub took_ready : AreReady e q new
      took_ready = subst (AreReady e q) (sym steps.others)
          (ready_moved d e s.pool q s.volumes slot x steps.volume may.there.is its_slot moved fit cache may.ready.ready)

      pub took_commits : sum_of new ≡ sum_of s.volumes
      took_commits = ap sum_of steps.others ∙ commits_moved d e s.pool q s.volumes slot x steps.volume may.there.is its_slot moved fit

      took_numbers : KeepsNumbers s.volumes new
      took_numbers = subst (KeepsNumbers s.volumes) (sym steps.others)
          (numbers_moved d e s.pool q s.volumes slot x steps.volume may.there.is its_slot moved fit)

      took_none : HaveNoFiles new
      took_none = subst HaveNoFiles (sym steps.others)
          (none_moved d e s.pool q s.volumes slot x steps.volume may.there.is its_slot moved fit may.none)

      abbrev pub taken : Session
      taken = record s { volumes = new; pool = q; pending = s.pending + 1 }

      stands_taken : StandsReady e taken
      stands_taken = record {
        stands = record {
          found = λ tells.
              subst (IsFoundOn e) (sym moved.found)
              (found_read d e s.pool.found reads (may.ready.stands.found (subst IsTrue reads.stays.tells tells)));
          map = λ tells.
              let is = may.ready.stands.map (subst IsTrue reads.stays.tells tells) in
              record {
                len = ap length moved.committed ∙ is.len ∙ ap (λ (f : Found). f.blocks) (sym moved.found);
                bits = λ b. ap (λ (c : List Bool). is_member c b) moved.committed ∙ is.bits b
                    ∙ (λ j. map_bit (root_found (sym moved.found j)) (sym reads.stays.reads j) b);
              };
          cache = cache;
        };
        ready = took_ready;
      }

      taken_by : e.faults ≡ d.faults → MovesAt d s.pool s.volumes slot q → TakesStep slot d s e taken (Ok true)
      taken_by calm unled = record {
        backs = backs_ok d e laws s taken 1 reads may.fresh stands_taken (omega arith) (let room = may.few in omega (arith, room)) took_numbers
            (λ tells last m is. stepped_for d s fit may.none slot x may.there.is may.there.unclean
            last m is e q new cleans reads cache may.few) true calm;
        only_reads = reads;
        none = took_none;
        steps = (cleans, refl);
        unled = unled;
        roots = λ unclean other. absurd (true≢false other);
        falls = λ tells last m is.
            stepped_falls d s fit may.none slot x may.there.is may.there.unclean last m is e q new cleans reads cache may.few;
        undone = tt;
      }

      pub took_step : (was : Session) → s ≡ was → e.faults ≡ d.faults → MovesAt d s.pool s.volumes slot q
          → TakesStep slot d was e taken (Ok true)
      took_step was same calm unled = subst (λ (n : Session). TakesStep slot d n e taken (Ok true)) same (taken_by calm unled)

    -- there was none
    module _ (new : States) (cleans : CleansAt d s.pool s.volumes slot q new false) where
      abbrev idle : Steps d s.pool s.volumes slot x q new false
      idle = subst (λ (o : Option VolumeState). StepsIn d s.pool s.volumes slot o q new false) may.there.is cleans

      same_volumes : new ≡ s.volumes
      same_volumes = idle.others ∙ put_back s.volumes slot x idle.volume may.there.is idle.cleans.roots.1

      was_read : Reads d s.pool e q
      was_read = record { leaves = idle.cleans.leaves; only_reads = reads; stands = cache }

      abbrev pub seen : Session
      seen = record s { volumes = new; pool = q }

      same_session : record s { pool = q } ≡ seen
      same_session = λ j. record s { volumes = sym same_volumes j; pool = q }

      stands_seen : StandsReady e seen
      stands_seen = subst (StandsReady e) same_session (stands_read d e s q was_read may.ready)

      pub none_fit : FitTogether q new
      none_fit = subst (FitTogether q) (sym same_volumes) (fit_read d e s.pool q was_read s.volumes fit)

      pub none_ready : AreReady e q new
      none_ready = stands_seen.ready

      pub none_commits : sum_of new ≡ sum_of s.volumes
      none_commits = ap sum_of same_volumes

      none_by : e.faults ≡ d.faults → MovesAt d s.pool s.volumes slot q → TakesStep slot d s e seen (Ok false)
      none_by calm unled = record {
        backs = backs_ok d e laws s seen 1 reads may.fresh stands_seen (omega arith) (omega arith) (keeps_same s.volumes new same_volumes)
            (λ tells last m is. subst (λ (n : Session). StandsFor e n last m) same_session
            (stands_for_read d e s q was_read last m is)) false calm;
        only_reads = reads;
        none = subst HaveNoFiles (sym same_volumes) may.none;
        steps = (was_read, sym same_session);
        unled = unled;
        roots = λ unclean none. subst (λ (ss : States). HasKnownRoots (state_at ss slot)) (sym same_volumes)
            (subst HasKnownRoots (sym may.there.is) idle.cleans.roots.0);
        falls = λ tells last m is. none_falls d s fit may.none slot x may.there.is may.there.unclean last m is q new cleans;
        undone = tt;
      }

      pub none_step : (was : Session) → s ≡ was → e.faults ≡ d.faults → MovesAt d s.pool s.volumes slot q
          → TakesStep slot d was e seen (Ok false)
      none_step was same calm unled = subst (λ (n : Session). TakesStep slot d n e seen (Ok false)) same (none_by calm unled)

  -- it failed
  module _ (loads : LoadsPool d s.pool q) (cache : StandsOn e q.store.pairs) (new : States) (same : new ≡ s.volumes) where
    pub failed_fit : FitTogether q new
    failed_fit = subst (FitTogether q) (sym same) (fit_loaded d e s.pool q s.volumes loads reads cache fit)

    pub failed_ready : AreReady e q new
    failed_ready = subst (AreReady e q) (sym same) (are_ready d e s.pool q s.volumes loads reads cache fit may.ready.ready)

    module _ (fault : VolumeFault) (cause : HasVolumeCause {T = Bool} d.faults e.faults (Err fault))
        (never : (r : Refusal) → fault ≡ volume.Refused r → ⊥)
        (whole : IfSome (state_at s.volumes slot) (CanClean d s.pool) → IsNoDamage fault) (n : Session) (f : Fault)
        (breaks : Breaks e fault (record s { volumes = new; pool = q }) n f) where
      -- a session that stands for a machine isn't damaged
      undamaged : (last m : Machine) → StandsFor d s last m → IsNoDamage fault
      undamaged last m is = whole (subst (λ (o : Option VolumeState). IfSome o (CanClean d s.pool)) (sym may.there.is)
          (cleanable d s fit may.none slot x may.there.is may.there.unclean last m is may.few))

      cause_of : (g : VolumeFault) → HasVolumeCause {T = Bool} d.faults e.faults (Err g) → ((r : Refusal) → g ≡ volume.Refused r → ⊥)
          → FaultCause d.faults e.faults g
      cause_of (volume.Refused r) c unrefused = unrefused r refl
      cause_of volume.DiskFault c unrefused = c
      cause_of (volume.Damaged at want found) c unrefused = c
      cause_of volume.Memory c unrefused = c

      failed_by : TakesStep slot d s e n (Err f)
      failed_by = record {
        backs = backs_fault d e laws s (record s { pool = q }) 1 reads may.fresh
            (stands_loaded d e s fit may.ready reads q loads cache) (omega arith) (omega arith)
            (keeps_same s.volumes s.volumes refl) (λ tells last m is. stands_for_loaded d e s fit may.ready reads q loads cache last m is)
            fault n f (subst (λ (ss : States). Breaks e fault (record s { volumes = ss; pool = q }) n f) same breaks)
            (cause_of fault cause never)
            (λ at want found is. cant_clean d e s fit may.ready reads q loads cache slot at want found
            (λ able. subst IsNoDamage is (whole able)))
            (λ tells last m is. undamaged last m is);
        only_reads = reads;
        none = subst HaveNoFiles (sym ((breaks_beside e fault (record s { volumes = new; pool = q }) n f breaks).1 ∙ same)) may.none;
        steps = tt;
        unled = tt;
        roots = λ unclean. tt;
        falls = λ tells last m is. tt;
        undone = todo_loaded d e s n (subst (LoadsPool d s.pool) (sym beside.0) loads) reads (beside.1 ∙ same);
      }
        where
          beside : (n.pool ≡ q) × (n.volumes ≡ new)
          beside = breaks_beside e fault (record s { volumes = new; pool = q }) n f breaks

      pub failed_step : (was : Session) → s ≡ was → TakesStep slot d was e n (Err f)
      failed_step was back = subst (λ (k : Session). TakesStep slot d k e n (Err f)) back failed_by
