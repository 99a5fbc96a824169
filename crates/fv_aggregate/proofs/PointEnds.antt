-- What a session stands for after a consistency point.
use Rattle.std.proofs.Common.{◌≡◌, ◌<◌, ◌≤◌, ◌+◌, ℕ, Bool, true, false, List, Option, Some, None, Ok, Err, refl, sym, ap, subst, ◌∙◌, ⊎_elim, inl, inr, arith, length}
use Rattle.std.specs.Prelude.{IfSome, IsNone, IsTrue, max, replicate}
use Rattle.fv_disk.specs.Shown.{Image, Shown}
use Rattle.fv_disk.specs.Crash.{Leaves}
use Rattle.fv_disk.specs.DiskCalls.{OnlyReads}
use Rattle.fv_disk.proofs.Moments.{weaken}
use Rattle.fv_bits.specs.Members.{is_member}
use Rattle.fv_model.specs.Machines.{Machine, capacity}
use Rattle.fv_model.specs.Space.{commits}
use Rattle.fv_image.specs.Layout.{root_place}
use Rattle.fv_image.specs.Maps.{map_bit}
use Rattle.fv_image.specs.Views.{View, leaves_room, overheads}
use Rattle.fv_image.specs.Held.{label_place, layout_at, view_at}
use Rattle.fv_image.specs.Volumes.{told_with}
use Rattle.fv_image.specs.Seen.{seen}
use Rattle.fv_image.specs.VolumeRules.{commits_seen}
use Rattle.fv_image.proofs.Heads.{head_told}
use Rattle.fv_image.proofs.Committed.{commits_told}
use Rattle.fv_root.specs.declared.find.Found.{Found}
use Rattle.fv_root.specs.Commits.{IsFoundOn}
use Rattle.fv_root.specs.Finding.{IsFound, root_found}
use Rattle.fv_aggmap.specs.Loading.{IsLoaded as IsMapLoaded}
use Rattle.fv_aggmap.specs.Space.{free_blocks}
use Rattle.fv_aggmap.proofs.Room.{room_when_loaded, room_when_sound}
use Rattle.fv_container.specs.Chains.{paged_at}
use Rattle.fv_container.specs.Paged.{Paged}
use Rattle.fv_cp.specs.Held.{machine_held, IsHeld}
use Rattle.fv_cp.specs.Known.{AreKnown}
use Rattle.fv_cp.specs.Lent.{blocks_asked, maps_waiting, HaveNoneWaiting, IsLentAt}
use Rattle.fv_pool.specs.BlocksOver.{LacksLeaf}
use Rattle.fv_cp.specs.Placing.{pending_files, FailsToPlace, HaveNoFiles, KeepCores, MayFail}
use Rattle.fv_cp.specs.Points.{IsNextRoot, LacksRoom}
use Rattle.fv_cp.proofs.CameIn.{leaf_unmoved}
use Rattle.fv_cp.proofs.Flushing.{files_there, may_on}
use Rattle.fv_cp.specs.Settling.{GoesOnWhole, HaveFullRoom, IsHeldPoint, IsStill, OldOrHeld, StillHeld, WholeCounts, WholeFails}
use Rattle.fv_disk.specs.declared.fault.BlockFault.TheVariants as block
use Rattle.fv_volmap.specs.Slots.{stored_count}
use Rattle.fv_pool.specs.declared.fault.VolumeFault.{VolumeFault}
use Rattle.fv_pool.specs.declared.fault.VolumeFault.TheVariants as cp
use Rattle.fv_pool.specs.declared.pool.Pool.{Pool}
use Rattle.fv_volume.specs.declared.state.VolumeState.{VolumeState}
use Rattle.fv_volume.specs.Loading.{IsLoaded}
use Rattle.fv_volume.specs.Held.{IsHeldIn}
use Rattle.fv_volume.specs.States.{States, state_at, view_over}
use Rattle.fv_volumes.proofs.FreeNumbers.{has_numbers}
use Rattle.fv_volumes.proofs.StillLoaded.{none_loaded}
use Rattle.fv_aggregate.specs.declared.session.Session.{Session}
use Rattle.fv_aggregate.specs.declared.fault.Fault.TheVariants.{Damaged, Memory}
use Rattle.fv_aggregate.specs.Adding.{HasRoom, IsPointed}
use Rattle.fv_aggregate.specs.Commands.{AsksPoint}
use Rattle.fv_aggregate.specs.Calls.{Goes, HasFilesToPlace, HasLostLeaf, IsForWant, IsUnpointed, KeepsAsking, LacksBlocks}
use Rattle.fv_aggregate.proofs.Damages.{lacks_after, loaded_after}
use Rattle.fv_aggregate.specs.Standing.{clear_blocks, overheads_in, taken_since, unwritten, OneOf, StandsFor, StandsReady}
use Rattle.fv_aggregate.proofs.Asking.{asked_unchanged, asks_more, asks_still, short_is}
use Rattle.fv_aggregate.proofs.Clear.{clear_is_free, clear_stays, free_and_placed, none_held, none_placed}
use Rattle.fv_aggregate.proofs.StillAdmitted.{admits_still}
use Rattle.fv_aggregate.proofs.Standing.{known_still, settled_after_reads}
use Rattle.fv_aggregate.proofs.Sums.{all_within, none_pending, none_waiting, one_pending, overheads_are, overheads_kept, same_overheads}

-- what a point that was not done says, for the fault that it answered
pub still_as : (old : Shown) (pool : Pool) (states : States) (new : Shown) (left : Pool) (stay : States) (said fault : VolumeFault) → said ≡ fault → IsStill old pool states new left stay said → IsStill old pool states new left stay fault
still_as old pool states new left stay said fault is still = subst (IsStill old pool states new left stay) is still

pub fails_as : (d : Shown) (was session : Session) → was ≡ session → (after : Shown) (left : Pool) (stay : States) (said fault : VolumeFault) → said ≡ fault → WholeFails d was.pool was.volumes after left stay said → WholeFails d session.pool session.volumes after left stay fault
fails_as d was session same after left stay said fault is fails = subst (λ (s : Session). WholeFails d s.pool s.volumes after left stay fault) same (subst (WholeFails d was.pool was.volumes after left stay) is fails)

-- A session after it: some files may have been placed, and its other parts stayed.
pub record HasStayed (before : Shown) (old : Session) (after : Shown) (new : Session) : Type 0 where
  pub still : StillHeld before old.pool old.volumes after new.pool new.volumes
  pub parts : new ≡ record old { pool = new.pool; volumes = new.volumes }

pub stayed : (before : Shown) (was old : Session) → was ≡ old → (after : Shown) (left : Pool) (stay : States) (delays : List Bool) → delays ≡ was.delays → (said fault : VolumeFault) → said ≡ fault → IsStill before was.pool was.volumes after left stay said
    → (IsStill before was.pool was.volumes after left stay fault → StillHeld before was.pool was.volumes after left stay) → HasStayed before old after (record was { pool = left; volumes = stay; delays = delays })
stayed before was old same after left stay delays flags said fault is still held =
    subst (λ (s : Session). HasStayed before s after (record was { pool = left; volumes = stay; delays = delays })) same (record {
      still = held (still_as before was.pool was.volumes after left stay said fault is still);
      parts = λ j. record was { pool = left; volumes = stay; delays = flags j };
    })

-- ---- before a point

-- a session that stands for a machine has the numbers and the blocks that a point asks for
pub has_full_room : (disk : Shown) (session : Session) (last m : Machine) → StandsFor disk session last m → HaveFullRoom session.pool session.volumes
has_full_room disk session last m stands =
    let all = free_and_placed session.pool.map in
    record {
      numbers = λ s. has_numbers disk session.pool s (state_at session.volumes s) (stands.held.each s) (omega (arith, one_pending session.volumes s, stands.few));
      free = stands.free;
      blocks = omega (arith, all, all_within session.volumes, stands.pending, stands.room);
    }

-- the machine that it stands for, by its parts
held_is : (disk : Shown) (session : Session) (last m : Machine) → StandsFor disk session last m → (pool : Pool) (states : States) → session.pool ≡ pool → session.volumes ≡ states → machine_held disk pool states ≡ m
held_is disk session last m stands pool states same_pool same_states = (λ j. machine_held disk (sym same_pool j) (sym same_states j)) ∙ stands.machine

-- What a point says of each moment, by the machine of the last one.
abbrev pub SaysMoments : Shown → Shown → Session → Type 0
SaysMoments old new session = (last : Machine) → IsHeld old session.pool session.volumes last → AreKnown old.reads session.pool.found session.delays → HaveFullRoom session.pool session.volumes
    → Leaves old new (OldOrHeld old session.pool session.volumes last)

module _ (old new : Shown) (was session : Session) (same : was ≡ session) (said : SaysMoments old new was) where
  -- what a crash leaves at each moment is of the old side or of the new one
  pub point_sides : (last m : Machine) → StandsFor old session last m → Leaves old new (OldOrHeld old session.pool session.volumes last)
  point_sides = subst (λ (s : Session). (last m : Machine) → StandsFor old s last m → Leaves old new (OldOrHeld old s.pool s.volumes last)) same
      (λ last m stands. said last stands.held stands.delays (has_full_room old was last m stands))

  -- and stands for one of the two machines
  pub point_moments : (last m : Machine) → StandsFor old session last m → Leaves old new (λ c g. OneOf last m m c × (g ≡ old.given))
  point_moments last m stands = weaken old new (OldOrHeld old session.pool session.volumes last) (λ c g. OneOf last m m c × (g ≡ old.given))
      (λ c g one. (⊎_elim (λ l. inl l.stands) (λ held. inr (inl (held.stands ∙ ap Some stands.machine))) one.0, one.1)) (point_sides last m stands)

-- ---- a point as a call

pub both : (o : Option ℕ) (n : ℕ) → IsNone o → o ≡ Some n → ⊥
both o n none some = cc

pub point_done : (before : Shown) (old : Session) (after : Shown) (new : Session) → IsNone old.failed → IsNone new.failed → new.pending ≡ 0 → WholeCounts before after (Ok tt) → (pool : Pool) (states : States)
    → pool ≡ old.pool → GoesOnWhole before pool states after new.pool new.volumes → Goes {T = Unit {0}} 0 AsksPoint before old after new (Ok tt)
point_done before old after new was now none counts pool states same goes = record {
  ends = record { tells = counts.tells; given = counts.given; ends = counts.ends };
  stands = λ fresh. record {
    stands = record {
      found = λ tells. goes.found (subst IsTrue counts.tells tells);
      map = λ tells. let map = goes.loaded (subst IsTrue counts.tells tells) in record { len = map.len; bits = map.bits };
      cache = goes.stands;
    };
    ready = goes.ready;
  };
  done = record {
    was = was;
    goes_on = now;
    counts = record { faults = counts.cause.0; write_faults = counts.cause.1 };
    root = λ tells. inr (subst (λ (p : Pool). IsNextRoot p.found new.pool.found) same goes.next);
  };
  fault = tt;
  pending = omega (arith, none);
}

-- after a point nothing is asked for
pub done_asks : (before : Shown) (old : Session) (after : Shown) (new : Session) (pool : Pool) (states : States) → new.pending ≡ 0 → GoesOnWhole before pool states after new.pool new.volumes → KeepsAsking 0 before old after new
done_asks before old after new pool states none goes = λ tells kept asks fresh. record { asked = omega (arith, asked_unchanged new.volumes goes.fit.housed.long goes.unchanged); pending = omega (arith, none) }

-- the files of a volume couldn't be placed: so it is over a disk over which placing may end so
abbrev filed_over : (disk after over : Shown) (session : Session) (at want found : ℕ) → IsNone session.failed → (fails : FailsToPlace disk session.pool session.volumes after (cp.Damaged at want found))
    → MayFail over fails.mid (Some fails.state) (cp.Damaged at want found) → HasFilesToPlace over session at want found
filed_over disk after over session at want found fresh fails may = record {
  fresh = fresh;
  files = files_there disk session.pool session.volumes after (cp.Damaged at want found) fails;
  slot = fails.slot;
  state = fails.state;
  there = fails.own;
  mid = fails.mid;
  root = fails.placed.found;
  committed = fails.placed.committed;
  placed = fails.placed.entries;
  shapes = fails.placed.shapes;
  entries = fails.entries;
  between = fails.between;
  ahead = fails.ahead;
  others = fails.placed.others;
  rest = fails.placed.rest;
  done = inl fails.done;
  first = λ none. (fails.first none).0;
  fails = may;
}

-- over the disk behind the failure,
abbrev pub files_to_place : (disk after : Shown) (session : Session) (at want found : ℕ) → IsNone session.failed → FailsToPlace disk session.pool session.volumes after (cp.Damaged at want found) → HasFilesToPlace after session at want found
files_to_place disk after session at want found fresh fails = filed_over disk after after session at want found fresh fails fails.fails

-- and over that before it
pub filed_as : (disk : Shown) (session : Session) (after : Shown) → OnlyReads disk after → (at want found : ℕ) → IsNone session.failed → FailsToPlace disk session.pool session.volumes after (cp.Damaged at want found) → HasFilesToPlace disk session at want found
filed_as disk session after reads at want found fresh fails = filed_over disk after disk session at want found fresh fails
    (may_on after disk fails.mid (Some fails.state) (cp.Damaged at want found) (sym reads.stays.tells) (sym reads.stays.reads) fails.fails)

-- A point that came to no end, but by no fault of the disk: some files may have been placed.
module _ (before : Shown) (old : Session) (after : Shown) (new : Session) (has : HasStayed before old after new) where
  abbrev still : StillHeld before old.pool old.volumes after new.pool new.volumes
  still = has.still

  abbrev parts : new ≡ record old { pool = new.pool; volumes = new.volumes }
  parts = has.parts

  reads : OnlyReads before after
  reads = still.placed.only_reads

  pending_same : new.pending ≡ old.pending
  pending_same = ap (λ (s : Session). s.pending) parts

  delays_same : new.delays ≡ old.delays
  delays_same = ap (λ (s : Session). s.delays) parts

  failed_same : new.failed ≡ old.failed
  failed_same = ap (λ (s : Session). s.failed) parts

  pub still_stands : StandsReady before old → StandsReady after new
  still_stands stands = record {
    stands = record {
      found = λ tells.
          let was = stands.stands.found (subst IsTrue reads.stays.tells tells) in
          subst (IsFoundOn after) (sym still.placed.found) (record {
            reads = subst (λ (i : Image). IsFound i old.pool.found) (sym reads.stays.reads) was.reads;
            images = λ c now. was.images c (reads.stays.no_more c now);
          });
      map = λ tells.
          let is = stands.stands.map (subst IsTrue reads.stays.tells tells) in
          record {
            len = ap (λ (c : List Bool). length c) still.placed.committed ∙ is.len ∙ ap (λ (f : Found). f.blocks) (sym still.placed.found);
            bits = λ b. ap (λ (c : List Bool). is_member c b) still.placed.committed ∙ is.bits b ∙ (λ j. map_bit (root_found (sym still.placed.found j)) (sym reads.stays.reads j) b);
          };
      cache = still.stands;
    };
    ready = still.ready;
  }

  pub still_asks : KeepsAsking 0 before old after new
  still_asks = λ tells kept asks fresh. asks_more after new kept 0 (asks_still before after old new kept reads still.placed.found still.placed.asked pending_same asks)

  -- it only read, and without a file in memory only leaves came into memory
  pub still_unpointed : IsUnpointed before old after new
  still_unpointed = record { only_reads = reads; loads = λ none. let idle = still.placed.idle none in (idle.0, parts ∙ (λ j. record old { pool = new.pool; volumes = idle.1 j })) }

  -- it lacks blocks
  wants_blocks : (at want found : ℕ) → IsNone old.failed → StandsReady before old → LacksRoom new.pool new.volumes (block.Damaged at want found) → LacksBlocks before old new at want found
  wants_blocks at want found was stands lacks =
      let place : at ≡ root_place old.pool.found.slot = lacks.0 ∙ ap (λ (f : Found). root_place f.slot) still.placed.found in
      let asked : want ≡ blocks_asked old.volumes = lacks.1.0 ∙ still.placed.asked in
      record {
        fresh = was;
        place = place;
        asked = asked;
        free = lacks.1.1.0;
        short = lacks.1.1.1;
        image = λ tells room asks. short_is before old new.pool room at want found tells stands asks still.placed.committed place asked lacks.1.1.0 lacks.1.1.1;
        same = still_unpointed.loads;
      }

  -- a leaf isn't there
  lost_leaf : (at want found : ℕ) → IsNone old.failed → LacksLeaf after new.pool.containers at want found → HasLostLeaf after old new at want found
  lost_leaf at want found was leaf = record {
    fresh = was;
    leaf = λ tells. leaf_unmoved after.reads old.pool.containers new.pool.containers at want found still.placed.shapes (leaf tells);
    root = still.placed.found;
    version = still.placed.version;
    committed = still.placed.committed;
    shapes = still.placed.shapes;
    parents = still.placed.parents;
    placed = still.placed.entries;
    others = still.placed.others;
    rest = still.placed.rest;
    parts = parts;
    same = λ none. loaded_after before after reads.stays.tells reads.stays.reads old new (still_unpointed.loads none);
  }

  -- or a place for a file
  pub still_wants : (at want found : ℕ) → IsNone old.failed → StandsReady before old → WholeFails before old.pool old.volumes after new.pool new.volumes (cp.Damaged at want found) → IsForWant before old after new (Damaged at want found)
  still_wants at want found was stands fails = (
    reads,
    ⊎_elim
        (⊎_elim
        (λ (lacks : LacksRoom new.pool new.volumes (block.Damaged at want found)). inl (wants_blocks at want found was stands lacks))
        (λ (leaf : LacksLeaf after new.pool.containers at want found). inr (inr (lost_leaf at want found was leaf))))
        (λ (lacks : FailsToPlace before old.pool old.volumes after (cp.Damaged at want found)). inr (inl (filed_as before old after reads at want found was lacks)))
        fails,
  )

  pub point_lacks : (at want found : ℕ) → IsNone old.failed → StandsReady before old → WholeCounts before after (Err (cp.Damaged at want found)) → WholeFails before old.pool old.volumes after new.pool new.volumes (cp.Damaged at want found)
      → Goes {T = Unit {0}} 0 AsksPoint before old after new (Err (Damaged at want found))
  point_lacks at want found was stands counts fails = record {
    ends = record { tells = counts.tells; given = counts.given; ends = counts.ends };
    stands = λ fresh. still_stands stands;
    done = tt;
    fault = record {
      reason = inl (
        reads,
        inl (⊎_elim
            (⊎_elim
            (λ (lacks : LacksRoom new.pool new.volumes (block.Damaged at want found)).
            inl (inl refl, lacks_after before after reads.stays.tells reads.stays.reads counts.cause.0 old at want found new (wants_blocks at want found was stands lacks)))
            (λ (leaf : LacksLeaf after new.pool.containers at want found). inr (inr (inl ((0, inr (inr (inl refl))), lost_leaf at want found was leaf)))))
            (λ (lacks : FailsToPlace before old.pool old.volumes after (cp.Damaged at want found)).
            inr (inl (record {
              files = files_to_place before after old at want found was lacks;
              comes = inr (inl refl);
              before = λ other. lacks.done;
            })))
            fails),
      );
      counts = record { faults = counts.cause.0; write_faults = counts.cause.1 };
      session = subst IsNone (sym failed_same) was;
      disk = inl reads;
    };
    pending = omega (arith, pending_same);
  }

  pub point_wanting : IsNone old.failed → StandsReady before old → WholeCounts before after (Err cp.Memory) → Goes {T = Unit {0}} 0 AsksPoint before old after new (Err Memory)
  point_wanting was stands counts = record {
    ends = record { tells = counts.tells; given = counts.given; ends = counts.ends };
    stands = λ fresh. still_stands stands;
    done = tt;
    fault = record {
      reason = was;
      counts = record { faults = counts.cause.0; write_faults = counts.cause.1 };
      session = subst IsNone (sym failed_same) was;
      disk = inl reads;
    };
    pending = omega (arith, pending_same);
  }

  -- it stands for the machine that it stood for: no more blocks were taken than there are fewer pending
  pub still_for : (last m : Machine) → length old.volumes ≡ 64 → StandsFor before old last m → StandsFor after new last m
  still_for last m long stands =
      let full = has_full_room before old last m stands in
      let spent = still.placed.spent last stands.held (record { numbers = full.numbers; blocks = full.free }) in
      let over = overheads_kept old.volumes new.volumes long still.placed.fit.housed.long still.placed.cores in
      let clear = clear_stays old.pool.map new.pool.map still.placed.committed in
      let fewer : unwritten new ≤ unwritten old = omega (arith, spent.blocks, still.placed.waiting, clear, free_and_placed old.pool.map, free_and_placed new.pool.map) in
      let same : overheads (view_at (root_found new.pool.found) after.reads) ≡ overheads (view_at (root_found old.pool.found) before.reads) = λ j. overheads (view_at (root_found (still.placed.found j)) (reads.stays.reads j)) in
      record {
        held = still.placed.held last stands.held;
        machine = still.placed.machine last stands.held ∙ stands.machine;
        settled = settled_after_reads before after reads stands.settled;
        delays = known_still before.reads after.reads old.pool.found new.pool.found old.delays new.delays reads.stays.reads still.placed.found delays_same stands.delays;
        pending = omega (arith, same, fewer, over, pending_same, stands.pending);
        files = omega (arith, fewer, pending_same, stands.files);
        few = omega (arith, spent.fewer, stands.few);
        free = omega (arith, spent.blocks, stands.free);
        room = omega (arith, same, clear, pending_same, stands.room);
      }

pub pointed_left : (before : Shown) (old : Session) (after : Shown) (new : Session) (pool : Pool) (states : States) → new.pending ≡ 0 → pool ≡ old.pool → states ≡ old.volumes → length old.volumes ≡ 64
    → GoesOnWhole before pool states after new.pool new.volumes → IsPointed before old new
pointed_left before old after new pool states none same_pool same_states long goes =
    let cores : KeepCores old.volumes new.volumes = subst (λ (xs : States). KeepCores xs new.volumes) same_states goes.cores in
    record {
      next = subst (λ (p : Pool). IsNextRoot p.found new.pool.found) same_pool goes.next;
      pending = none;
      files = λ tells. record { none = goes.none; taken = none_held new.pool.map (goes.loaded tells).same };
      same = λ tells. (goes.loaded tells).same;
      cores = cores;
      admits = admits_still old new long goes.fit.housed.long cores (goes.blocks ∙ ap (λ (p : Pool). p.found.blocks) same_pool);
      none = goes.none;
      blocks = goes.blocks ∙ ap (λ (p : Pool). p.found.blocks) same_pool;
    }

-- ---- after a point

module _ (old : Shown) (pool : Pool) (states : States) (new : Shown) (left : Pool) (stay : States) (want : ℕ) (delays : List Bool) (is : IsHeldPoint old pool states want new left stay delays) (loaded : IsMapLoaded new.reads left.found left.map) where
  -- each slot is as the new root has it
  pub all_loaded : (s : ℕ) → s < 64 → IsLoaded new.reads left.found s (state_at stay s) (paged_at left.containers s)
  all_loaded s inside = by (state_at stay s) (paged_at left.containers s) (is.held.slots s inside) (is.unchanged s) (is.free s inside)
    where
      by : (o : Option VolumeState) (c : Option Paged) → IsLentAt new.reads left.found s o c → IfSome o (λ x. x.changed ≡ false) → (o ≡ None → label_place (root_found left.found) s ≡ 0) → IsLoaded new.reads left.found s o c
      by None None slot unchanged none = none_loaded left.found new.reads s (none refl)
      by None (Some map) never unchanged none = absurd never
      by (Some x) None never unchanged none = absurd never
      by (Some x) (Some map) slot unchanged none = slot.unchanged unchanged

  pub overheads_stay : overheads (view_over left stay new.reads) ≡ overheads (view_at (root_found left.found) new.reads)
  unfolding view_over view_at
  overheads_stay = same_overheads (view_over left stay new.reads) (view_at (root_found left.found) new.reads) (λ s inside. (all_loaded s inside).head ∙ sym (head_told (root_found left.found) new.reads s))

  module _ (session : Session) (last m : Machine) (stands : StandsFor old session last m) (same_pool : session.pool ≡ pool) (same_states : session.volumes ≡ states) where
    pub machine_is : machine_held old pool states ≡ m
    machine_is = held_is old session last m stands pool states same_pool same_states

    now_held : IsHeld new left stay m
    now_held = subst (IsHeld new left stay) machine_is is.held

    -- no map waits
    none_fresh : HaveNoneWaiting stay
    none_fresh s = by (state_at stay s) (now_held.each s) (is.unchanged s)
      where
        by : (o : Option VolumeState) → IfSome o (IsHeldIn new left s) → IfSome o (λ x. x.changed ≡ false) → IfSome o (λ x. x.fresh ≡ replicate stored_count false)
        by None held unchanged = tt
        by (Some x) held unchanged = held.ready.fresh unchanged

    pub pointed : length stay ≡ 64 → HaveNoFiles stay → (after : Session) → after.pool ≡ left → after.volumes ≡ stay → after.delays ≡ delays → after.pending ≡ 0 → StandsFor new after m m
    pointed long bare after new_pool new_states new_delays none =
        let placed : taken_since after.pool.map ≡ 0 = ap (λ (p : Pool). taken_since p.map) new_pool ∙ none_placed left.map loaded.same in
        let pending : pending_files after.volumes ≡ 0 = ap pending_files new_states ∙ none_pending stay long bare in
        let waiting : maps_waiting after.volumes ≡ 0 = ap maps_waiting new_states ∙ none_waiting stay long none_fresh in
        let over : overheads_in after.volumes ≡ overheads (view_at (root_found left.found) new.reads) = ap overheads_in new_states ∙ overheads_are left stay new.reads long ∙ overheads_stay in
        let same : overheads (view_at (root_found after.pool.found) new.reads) ≡ overheads (view_at (root_found left.found) new.reads) = ap (λ (p : Pool). overheads (view_at (root_found p.found) new.reads)) new_pool in
        let clear : clear_blocks after.pool.map ≡ free_blocks left.map = ap (λ (p : Pool). clear_blocks p.map) new_pool ∙ clear_is_free left.map loaded.same in
        record {
          held = subst (λ (p : Pool). IsHeld new p after.volumes m) (sym new_pool) (subst (λ (v : States). IsHeld new left v m) (sym new_states) now_held);
          machine = (λ j. machine_held new (new_pool j) (new_states j)) ∙ is.machine ∙ machine_is;
          settled = is.settled;
          delays = known_still new.reads new.reads left.found after.pool.found delays after.delays refl (ap (λ (p : Pool). p.found) new_pool) new_delays is.delays;
          pending = omega (arith, placed, pending, waiting, over, same);
          files = omega (arith, placed, pending, waiting);
          few = omega (arith, pending);
          free = omega (arith, placed, pending, clear, free_and_placed after.pool.map, room_when_sound new.reads left.found left.map loaded now_held.tells.sound);
          room = omega (arith, none, same, clear, room_when_sound new.reads left.found left.map loaded now_held.tells.sound);
        }

    -- where the commits leave room for what was wanted, there is room for it after the point
    pub point_room : (after : Session) → after.pool ≡ left → after.pending ≡ 0 → commits m + want ≤ capacity m.blocks → HasRoom new after want
    unfolding layout_at told_with view_at
    point_room after new_pool none fits =
        let t = root_found left.found in
        let w : View = view_at t new.reads in
        let sound = now_held.tells.sound in
        let blocks : left.found.blocks ≡ m.blocks = ap (λ (x : Machine). x.blocks) now_held.tells.machine in
        let promised : commits_seen (seen w) ≡ commits m = sym (commits_told (layout_at t new.reads) sound.names) ∙ ap commits now_held.tells.machine in
        let rule : leaves_room w want ≡ true = is.room.wanted (omega (arith, fits, promised, ap capacity blocks)) in
        let free = room_when_loaded new.reads left.found left.map want loaded sound rule in
        subst (λ (p : Pool). overheads (view_at (root_found p.found) new.reads) + max 256 (after.pending + want) ≤ clear_blocks p.map) (sym new_pool) (omega (arith, none, free, clear_is_free left.map loaded.same))

-- so it is of a session whose parts were these
module _ (old new : Shown) (was session : Session) (same : was ≡ session) (want : ℕ) (left : Pool) (stay : States) (delays : List Bool)
    (said : (last : Machine) → IsHeld old was.pool was.volumes last → AreKnown old.reads was.pool.found was.delays → HaveFullRoom was.pool was.volumes → IsHeldPoint old was.pool was.volumes want new left stay delays)
    (loaded : IsMapLoaded new.reads left.found left.map) (last m : Machine) (stands : StandsFor old session last m) where
  abbrev pub pointed_session : Session
  pointed_session = record was { pool = left; volumes = stay; delays = delays; pending = 0 }

  stood : StandsFor old was last m
  stood = subst (λ (s : Session). StandsFor old s last m) (sym same) stands

  pub point_is : IsHeldPoint old was.pool was.volumes want new left stay delays
  point_is = said last stood.held stood.delays (has_full_room old was last m stood)

  pub stands_pointed : length stay ≡ 64 → HaveNoFiles stay → StandsFor new pointed_session m m
  stands_pointed long bare = pointed old was.pool was.volumes new left stay want delays point_is loaded was last m stood refl refl long bare pointed_session refl refl refl refl

  pub room_pointed : commits m + want ≤ capacity m.blocks → HasRoom new pointed_session want
  room_pointed fits = point_room old was.pool was.volumes new left stay want delays point_is loaded was last m stood refl refl pointed_session refl refl fits
