-- A session that was just opened.
use Rattle.std.proofs.Common.{◌≡◌, ◌≤◌, ◌<◌, ◌+◌, ◌==◌, ℕ, zero, suc, Bool, List, length, Option, Some, refl, sym, ap, subst, ◌∙◌, inr, arith, Result, Ok, Err, true, false, cond, not, ⊎_elim}
use Rattle.std.specs.Prelude.{IfOk, IfSome, IsTrue, None, count_by, get_or, nat_lt, replicate, sum_by}
use Rattle.std.specs.List.{range_with_len}
use Rattle.std.specs.Option.{option_map_or}
use Rattle.std.proofs.lemmas.Bool.{cases_eq}
use Rattle.std.proofs.lemmas.Bool.Decides.{nat_tests}
use Rattle.std.proofs.lemmas.List.Sums.{sum_by-cons}
use Rattle.std.specs.Ordering.{nat_cmp}
use Rattle.std.specs.FinMap as fin
use Rattle.std.proofs.lemmas.List.{get_or-replicate}
use Rattle.fv_disk.specs.Shown.{Image, Shown, IsSettled}
use Rattle.fv_disk.specs.DiskCalls.{OnlyReads}
use Rattle.fv_disk.proofs.Resting.{settled_image}
use Rattle.fv_model.specs.Machines.{Machine}
use Rattle.fv_image.specs.NewerRoot.{Taken}
use Rattle.fv_image.specs.Views.{Head, View, delayed, entry_count, is_delayed, overheads, slots, vvbns}
use Rattle.fv_image.specs.Held.{Keeps, layout_at, view_at}
use Rattle.fv_image.specs.Seen.{seen}
use Rattle.fv_image.specs.Soundness.{AreMaps, AreTables}
use Rattle.fv_image.specs.WholeMachine.{Tells, is_built, machine_of}
use Rattle.fv_image.proofs.SoundTests.{stands_for}
use Rattle.fv_root.specs.declared.find.Found.{Found}
use Rattle.fv_root.specs.Finding.{IsFound, IsInRange, root_found}
use Rattle.fv_root.specs.Commits.{IsFoundOn}
use Rattle.fv_store.specs.Held.{StandsOn}
use Rattle.fv_container.specs.Chains.{slot_count}
use Rattle.fv_cp.specs.Held.{IsHeld}
use Rattle.fv_cp.specs.Known.{AreKnown}
use Rattle.fv_cp.specs.Lent.{FitTogether, IsLent, blocks_asked}
use Rattle.fv_cp.specs.Placing.{AreReady, IsReadyIn}
use Rattle.fv_cp.proofs.Lendable.{held_machine, lent_held}
use Rattle.fv_volumes.specs.Housed.{HaveReaches}
use Rattle.fv_aggmap.specs.Space.{blocks_of}
use Rattle.fv_aggmap.proofs.Room.{room_when_sound}
use Rattle.fv_disk.specs.declared.fault.BlockFault.{BlockFault}
use Rattle.fv_disk.specs.declared.fault.BlockFault.TheVariants.{DiskFault, Damaged, Memory}
use Rattle.fv_pool.specs.Keeping.{Blocks}
use Rattle.fv_volume.specs.KnownBase.{KnowBases}
use Rattle.fv_volume.specs.declared.state.VolumeState.{VolumeState}
use Rattle.fv_volume.specs.Files.{HasOwnSlots, IsLabelled, IsState}
use Rattle.fv_volume.specs.Loading.{IsCounted, IsLoadFault, KeptTo}
use Rattle.fv_volume.specs.OneVolume.{IsReady}
use Rattle.fv_volume.specs.States.{States, state_at, view_over}
use Rattle.fv_volume.specs.Trees.{no_trees}
use Rattle.fv_volumes.proofs.Trees.{unchanged_machine}
use Rattle.fv_pool.specs.declared.pool.Pool.{Pool}
use Rattle.fv_aggregate.specs.declared.fault.OpenFault.{OpenFault}
use Rattle.fv_aggregate.specs.declared.session.Session.{Session}
use Rattle.fv_aggregate.specs.Causes.{IsOpenFault, of_block}
use Rattle.fv_aggregate.specs.Delayed.{blocks_under, has_more, held_in}
use Rattle.fv_aggregate.specs.Opening.{AreOpened, IsFresh, IsOpened, TellsDelayed}
use Rattle.fv_aggregate.proofs.HeldEntries.{held_and_delayed}
use Rattle.fv_aggregate.proofs.UnderEntries.{under_entries}
use Rattle.fv_aggregate.specs.Standing.{IsWithoutFiles, StandsFor, StandsReady}
use Rattle.fv_aggregate.specs.Asking.{AsksWithin}
use Rattle.fv_volumes.specs.UnderRoot.{IsMapOf}
use Rattle.fv_aggregate.proofs.Asking.{asks_after_reads}
use Rattle.fv_aggregate.proofs.Clear.{clear_is_free, none_held, none_placed}
use Rattle.fv_aggregate.proofs.Standing.{settled_after_reads}
use Rattle.fv_aggregate.proofs.Sums.{none_pending, none_waiting, overheads_are}
use Rattle.fv_aggregate.proofs.Lent.{reach_opened, slots_opened, spaced_opened}

-- ---- faults

pub load_fault : (i : Image) (found : Found) → IsFound i found → (e : BlockFault) → IsLoadFault i found e → IsOpenFault i (of_block e)
load_fault i found is DiskFault fault = tt
load_fault i found is (Damaged at want number) fault = inr (record { root = found; found = is; fault = inr fault })
load_fault i found is Memory fault = tt

-- ---- what fits together

-- what was just read fits together: each slot has its volume, and nothing waits to be written
pub fits_opened : (root : Found) (pool left : Pool) (states : States) → IsInRange root → blocks_of pool.map ≡ root.blocks → pool.found ≡ root → pool.version ≡ root.root.version → pool.kept ≡ fin.empty → KeptTo slot_count states left.containers
    → left.map ≡ pool.map → left.kept ≡ pool.kept → left.found ≡ pool.found → left.version ≡ pool.version → FitTogether left states
fits_opened root pool left states range size of its none kept map still same stays = record {
  range = subst IsInRange (sym (same ∙ of)) range;
  size = ap blocks_of map ∙ size ∙ ap (λ (f : Found). f.blocks) (sym (same ∙ of));
  version = stays ∙ its ∙ sym (ap (λ (f : Found). f.root.version) (same ∙ of));
  housed = record { long = kept.long; volumes = kept.each; each = kept.housed; parents = kept.parents };
  kept = λ b taken. ap (λ (k : Blocks). fin.get k b) (still ∙ none) ∙ fin.get-empty nat_cmp b;
}

-- ---- what is known of delayed entries

-- a sum without anything has no part with something
part_none : (part : ℕ → ℕ) (k from count : ℕ) → from ≤ k → k < from + count → sum_by part (range_with_len from count) ≡ 0 → part k ≡ 0
part_none part k from zero low high none = absurd (omega (arith, low, high))
part_none part k from (suc count) low high none =
    let cons : sum_by part (range_with_len from (suc count)) ≡ part from + sum_by part (range_with_len (from + 1) count) = sum_by-cons part from (range_with_len (from + 1) count) in ⊎_elim
    (λ (e : from ≡ k). let same : part from ≡ part k = ap part e in omega (arith, cons, same, none))
    (λ ne. part_none part k (from + 1) count (omega (arith, low, ne)) (omega (arith, high)) (omega (arith, cons, none)))
    (cases_eq from k)

-- where the entries of no volume are delayed, each of its is so
none_delayed : (w : View) (s : ℕ) (h : Head) (v : ℕ) → delayed w ≡ 0 → s < 64 → w.head s ≡ Some h → v < entry_count h.span → is_delayed w s h v ≡ false
unfolding delayed slots vvbns
none_delayed w s h v none inside there within =
    let all : ℕ → ℕ = λ s. option_map_or (λ h. count_by (is_delayed w s h) (vvbns h.span)) (w.head s) 0 in
    let one : all s ≡ 0 = part_none all s 0 64 (omega arith) (omega (arith, inside)) none in
    let here : count_by (is_delayed w s h) (vvbns h.span) ≡ 0 = sym (ap (λ (o : Option Head). option_map_or (λ h. count_by (is_delayed w s h) (vvbns h.span)) o 0) there) ∙ one in
    off (is_delayed w s h v) (part_none (λ k. cond {A = ℕ} (is_delayed w s h k) 1 0) v 0 (entry_count h.span) (omega arith) (omega (arith, within)) here)
  where
    off : (t : Bool) → cond {A = ℕ} t 1 0 ≡ 0 → t ≡ false
    off true e = absurd (omega (arith, e))
    off false e = refl

-- of an aggregate that was just opened it is known of each volume that no entry is delayed, where none is, and else nothing is known
known_opened : (i : Image) (found : Found) (delays : List Bool) → delays ≡ replicate slot_count (nat_lt 0 (delayed (view_at (root_found found) i))) → AreKnown i found delays
known_opened i found delays are s h inside off there v within = none_delayed (view_at (root_found found) i) s h v none inside there within
  where
    flag : nat_lt 0 (delayed (view_at (root_found found) i)) ≡ false
    flag = sym (get_or-replicate slot_count s (nat_lt 0 (delayed (view_at (root_found found) i))) true inside) ∙ sym (ap (λ (ds : List Bool). get_or ds s true) are) ∙ off

    none : delayed (view_at (root_found found) i) ≡ 0
    none = of (delayed (view_at (root_found found) i)) flag
      where
        of : (n : ℕ) → nat_lt 0 n ≡ false → n ≡ 0
        of n e = grind (arith, nat_tests, e)

-- ---- what a settled image stands for

-- the root that was found tells the machine of the image
pub found_tells : (i : Image) (found : Found) (m : Machine) → IsFound i found → machine_of i ≡ Some m → Tells (layout_at (root_found found) i) m
found_tells i found m is machine =
    let stands = stands_for i m machine in
    let same : stands.0 ≡ root_found found = so stands.0 (root_found found) (sym stands.1.0 ∙ is.root) in
    subst (λ (t : Taken). Tells (layout_at t i) m) same stands.1.1
  where
    so : (s t : Taken) → ◌≡◌ {A = Option Taken} (Some s) (Some t) → s ≡ t
    so s t e = cc

found_on : (disk : Shown) (found : Found) → IsSettled disk → IsFound disk.reads found → IsFoundOn disk found
found_on disk found settled is = record {
  reads = is;
  images = λ c now. subst (λ (i : Image). IsFound i found) (sym (settled_image disk c settled now)) is;
}

-- a volume of a machine has the map slots of its snapshots
slots_of : (states : States) (s : ℕ) (w : View) → IfSome (state_at states s) (IsState w no_trees s) → IfSome (state_at states s) HasOwnSlots
slots_of states s w are = by (state_at states s) are
  where
    by : (o : Option VolumeState) → IfSome o (IsState w no_trees s) → IfSome o HasOwnSlots
    by None is = tt
    by (Some x) is = (is.labelled.slots, is.labelled.snapshots.slots)

lent_opened : (disk : Shown) (session : Session) (m : Machine) → IsSettled disk → ((b : ℕ) → length (disk.reads b) ≡ 4096) → IsOpened disk.reads session → KnowBases session.volumes → machine_of disk.reads ≡ Some m → IsLent disk session.pool session.volumes m
unfolding layout_at
lent_opened disk session m settled whole opened knows machine =
    let found = session.pool.found in
    let t = root_found found in
    let tells = found_tells disk.reads found m opened.found machine in
    let alike : view_over session.pool session.volumes disk.reads ≡ view_at t disk.reads = opened.view in
    let own : (s : ℕ) → IfSome (state_at session.volumes s) HasOwnSlots = λ s. slots_of session.volumes s (view_over session.pool session.volumes disk.reads) ((opened.states m tells).each s) in
    record {
      found = found_on disk found settled opened.found;
      tells = tells;
      keeps = λ c now. subst (λ (i : Image). Keeps t disk.reads i) (sym (settled_image disk c settled now)) (record { root = opened.found.root; layout = refl });
      map = record { len = opened.map.len; bits = opened.map.bits };
      slots = slots_opened disk.reads found m tells session.volumes session.pool.containers opened.slots whole opened.few own;
      spaced = spaced_opened disk.reads found m tells session.volumes session.pool.containers opened.slots session.pool.map opened.map;
      states = opened.states m tells;
      built = subst (λ (w : View). is_built w ≡ true) (sym alike) tells.built;
      tables = subst (λ (w : View). AreTables (seen w)) (sym alike) tells.sound.tables;
      reach = subst (λ (w : View). HaveReaches w session.volumes) (sym alike) (reach_opened disk.reads found m tells session.volumes session.pool.containers opened.slots own whole);
      knows = knows;
    }

-- Over an image that stands for a machine more blocks are held than volumes are known to have just where some entry is delayed: all that are held
-- are labels, nodes, and blocks of entries, an entry each.
more_opened : (i : Image) (session : Session) (m : Machine) → ((b : ℕ) → length (i b) ≡ 4096) → IsOpened i session → FitTogether session.pool session.volumes → machine_of i ≡ Some m
    → has_more session.pool session.volumes ≡ nat_lt 0 (delayed (view_at (root_found session.pool.found) i))
unfolding has_more layout_at
more_opened i session m whole opened fit machine =
    let found = session.pool.found in
    let t = root_found found in
    let tells = found_tells i found m opened.found machine in
    let alike : view_over session.pool session.volumes i ≡ view_at t i = opened.view in
    let are = opened.states m tells in
    let own : (s : ℕ) → IfSome (state_at session.volumes s) HasOwnSlots = λ s. slots_of session.volumes s (view_over session.pool session.volumes i) (are.each s) in
    let long : length session.pool.map.next ≡ found.blocks = ap (λ (bits : List Bool). length bits) opened.map.same ∙ opened.map.len in
    let under = under_entries i found found.blocks session.pool session.volumes (spaced_opened i found m tells session.volumes session.pool.containers opened.slots session.pool.map opened.map)
    (slots_opened i found m tells session.volumes session.pool.containers opened.slots whole opened.few own) long in
    let entries = held_and_delayed session.pool session.volumes i are (subst (λ (w : View). AreTables (seen w)) (sym alike) tells.sound.tables) (subst AreMaps (sym alike) tells.sound.maps) fit.housed.each in
    differs (blocks_under session.pool session.volumes) (held_in session.volumes slot_count) (delayed (view_over session.pool session.volumes i)) (under ∙ entries) ∙ ap (λ (w : View). nat_lt 0 (delayed w)) alike
  where
    differs : (a b d : ℕ) → a ≡ b + d → not (a == b) ≡ nat_lt 0 d
    differs a b d is = grind (arith, nat_tests, is)

delays_opened : (i : Image) (session : Session) (m : Machine) → ((b : ℕ) → length (i b) ≡ 4096) → IsOpened i session → FitTogether session.pool session.volumes → IsFresh session → machine_of i ≡ Some m → TellsDelayed i session
delays_opened i session m whole opened fit fresh machine = fresh.delays ∙ ap (replicate slot_count) (more_opened i session m whole opened fit machine)

pub delays_result : (i : Image) (new : Shown) (m : Machine) (result : Result Session OpenFault) → ((b : ℕ) → length (i b) ≡ 4096) → IfOk result (IsOpened i) → IfOk result (AreOpened new i) → IfOk result IsFresh → machine_of i ≡ Some m → IfOk result (TellsDelayed i)
delays_result i new m (Ok session) whole opened each fresh machine = delays_opened i session m whole opened each.fit fresh machine
delays_result i new m (Err fault) whole opened each fresh machine = tt

pub opened_for : (disk : Shown) (session : Session) (m : Machine) → IsSettled disk → IsTrue disk.tells → ((b : ℕ) → length (disk.reads b) ≡ 4096) → IsOpened disk.reads session → AreOpened disk disk.reads session → IsFresh session → machine_of disk.reads ≡ Some m → StandsFor disk session m m
opened_for disk session m settled told whole opened each fresh machine =
    let found = session.pool.found in
    let tells = found_tells disk.reads found m opened.found machine in
    let alike : view_over session.pool session.volumes disk.reads ≡ view_at (root_found found) disk.reads = opened.view in
    let none : session.pending ≡ 0 = fresh.pending in
    let placed = none_placed session.pool.map opened.map.same in
    let pending = none_pending session.volumes each.fit.housed.long each.none in
    let waiting = none_waiting session.volumes each.fit.housed.long each.waiting in
    let over = overheads_are session.pool session.volumes disk.reads each.fit.housed.long in
    let same = ap overheads alike in
    let held : IsHeld disk session.pool session.volumes m = lent_held disk session.pool session.volumes m (lent_opened disk session m settled whole opened each.knows machine) each.fit each.maps
    (λ s. ready_of s (state_at session.volumes s) (each.ready s)) (each.standing m told machine) (each.led m told machine) (each.well m told machine) in
    record {
      held = held;
      machine = held_machine disk session.pool session.volumes m held each.fit each.none each.maps ∙ sym (unchanged_machine session.pool session.volumes no_trees disk.reads (λ s. refl)) ∙ opened.machine m tells;
      settled = settled;
      delays = known_opened disk.reads found session.delays (delays_opened disk.reads session m whole opened each.fit fresh machine);
      pending = omega (arith, placed, pending, waiting, over, same);
      files = omega (arith, placed, pending, waiting);
      few = omega (arith, pending);
      free = omega (arith, pending, clear_is_free session.pool.map opened.map.same, room_when_sound disk.reads found session.pool.map opened.map tells.sound);
      room = omega (arith, none, clear_is_free session.pool.map opened.map.same, room_when_sound disk.reads found session.pool.map opened.map tells.sound);
    }
  where
    ready_of : (s : ℕ) (o : Option VolumeState) → IfSome o (IsReadyIn disk session.pool s) → IfSome o (IsReady disk session.pool)
    ready_of s None is = tt
    ready_of s (Some x) is = is.ready

-- A session that was opened over a disk that a barrier had settled, by a call that only read, stands on it.
module _ (mid new : Shown) (settled : IsTrue mid.tells → IsSettled mid) (reads : OnlyReads mid new) where
  stands_opened : (session : Session) → (IsTrue mid.tells → IsOpened mid.reads session) → StandsOn new session.pool.store.pairs → AreOpened new mid.reads session → StandsReady new session
  stands_opened session opened cache each =
      let same : new.reads ≡ mid.reads = reads.stays.reads in
      record {
        stands = record {
          found = λ tells.
              let told = subst IsTrue reads.stays.tells tells in
              let is = opened told in
              let on = found_on mid session.pool.found (settled told) is.found in
              record {
                reads = subst (λ (i : Image). IsFound i session.pool.found) (sym same) on.reads;
                images = λ c now. on.images c (reads.stays.no_more c now);
              };
          map = λ tells.
              let is = opened (subst IsTrue reads.stays.tells tells) in
              subst (λ (i : Image). IsMapOf i session.pool.found session.pool.map) (sym same) (record { len = is.map.len; bits = is.map.bits });
          cache = cache;
        };
        ready = each.ready;
      }

  pub stands_result : (result : Result Session OpenFault) → (IsTrue mid.tells → IfOk result (IsOpened mid.reads)) → IfOk result (λ session. StandsOn new session.pool.store.pairs) → IfOk result (AreOpened new mid.reads) → IfOk result (StandsReady new)
  stands_result (Ok session) opened cache each = stands_opened session opened cache each
  stands_result (Err fault) opened cache each = tt

  pub without_files : (result : Result Session OpenFault) → IfOk result (IsOpened mid.reads) → IfOk result (AreOpened new mid.reads) → IfOk result IsWithoutFiles
  without_files (Ok session) opened each = record { none = each.none; taken = none_held session.pool.map opened.map.same }
  without_files (Err fault) opened each = tt

  -- what a point of it asks for is what the volumes that were read have
  pub asks_result : (result : Result Session OpenFault) → IfOk result IsFresh → IfOk result (λ session. blocks_asked session.volumes ≤ overheads (view_at (root_found session.pool.found) mid.reads)) → IfOk result (λ session. AsksWithin new session 0)
  asks_result (Ok session) fresh asked =
      let none : session.pending ≡ 0 = fresh.pending in
      asks_after_reads mid new session 0 reads (record { asked = omega (arith, none, asked); pending = omega (arith, none) })
  asks_result (Err fault) fresh asked = tt

-- the answer of a call that only read, over a disk that a barrier had settled
pub opened_result : (mid new : Shown) (m : Machine) (result : Result Session OpenFault) → IsSettled mid → IsTrue mid.tells → ((b : ℕ) → length (mid.reads b) ≡ 4096) → OnlyReads mid new → IfOk result (IsOpened mid.reads) → IfOk result (AreOpened new mid.reads) → IfOk result IsFresh → machine_of mid.reads ≡ Some m
    → IfOk result (λ session. StandsFor new session m m)
opened_result mid new m (Ok session) settled told whole reads opened each fresh machine =
    let same : new.reads ≡ mid.reads = reads.stays.reads in
    opened_for new session m (settled_after_reads mid new reads settled) (subst IsTrue (sym reads.stays.tells) told)
    (λ b. ap (λ (i : Image). length (i b)) same ∙ whole b)
    (subst (λ (i : Image). IsOpened i session) (sym same) opened) (subst (λ (i : Image). AreOpened new i session) (sym same) each) fresh (ap machine_of same ∙ machine)
opened_result mid new m (Err fault) settled told whole reads opened each fresh machine = tt

-- ---- what holds of each volume that was read

pub counted_each : (P : VolumeState → Type 0) → ((x : VolumeState) → IsCounted x → P x) → (states : States) → ((s : ℕ) → IfSome (state_at states s) IsCounted) → (s : ℕ) → IfSome (state_at states s) P
counted_each P to states each s = by (state_at states s) (each s)
  where
    by : (o : Option VolumeState) → IfSome o IsCounted → IfSome o P
    by None is = tt
    by (Some x) is = to x is

pub ready_each : (disk : Shown) (pool : Pool) (states : States) → ((s : ℕ) → IfSome (state_at states s) (IsLabelled s)) → ((s : ℕ) → IfSome (state_at states s) (IsReady disk pool)) → AreReady disk pool states
ready_each disk pool states labelled ready s = by (state_at states s) (labelled s) (ready s)
  where
    by : (o : Option VolumeState) → IfSome o (IsLabelled s) → IfSome o (IsReady disk pool) → IfSome o (IsReadyIn disk pool s)
    by None a b = tt
    by (Some x) a b = record { slot = a.slot_is; ready = b }
