-- What a session stands for once the numbers of a volume's files were read into memory.
use Rattle.std.proofs.Common.{◌≡◌, ◌≢◌, ◌<◌, ◌≤◌, ◌+◌, ◌-◌, ℕ, true, length, Some, None, Result, Ok, Err, inl, inr, refl, sym, ap, subst, ◌∙◌, ⊎_elim, arith, get_or-set_other, get_or-set_same, false}
use Rattle.std.specs.Prelude.{max, IsNone}
use Rattle.std.specs.Option.{is_some, option_map}
use Rattle.std.proofs.lemmas.Bool.{cases_eq}
use Rattle.std.proofs.lemmas.List.Sums.{sum_by-set}
use Rattle.fv_disk.specs.Shown.{Shown, IsDisk}
use Rattle.fv_disk.specs.declared.fault.BlockFault.{BlockFault}
use Rattle.fv_pool.specs.declared.fault.VolumeFault.{VolumeFault}
use Rattle.fv_disk.specs.declared.fault.BlockFault.TheVariants as block
use Rattle.fv_model.specs.Machines.{Machine, capacity}
use Rattle.fv_image.specs.Held.{view_at}
use Rattle.fv_image.specs.Views.{overheads}
use Rattle.fv_aggmap.specs.Space.{free_blocks}
use Rattle.fv_root.specs.Finding.{root_found}
use Rattle.fv_charge.specs.Ledgers.{committed}
use Rattle.fv_pool.specs.declared.pool.Pool.{Pool}
use Rattle.fv_volume.specs.declared.state.VolumeState.{VolumeState}
use Rattle.fv_pool.specs.Calls.{GivesUp, Reads}
use Rattle.fv_volmap.specs.Slots.{has, slot_at}
use Rattle.fv_pool.specs.BlocksOver.{free_numbers}
use Rattle.fv_pool.specs.Causes.{of_block}
use Rattle.fv_volume.specs.OneVolume.{volume_for, IsReady, IsStanding}
use Rattle.fv_pool.specs.Tables.{pending_of}
use Rattle.fv_volume.specs.Placing.{IsLedTo, IsStoredWell}
use Rattle.fv_volume.specs.Slots.{committed_by, sum_of}
use Rattle.fv_volume.specs.States.{States, state_at, with_state}
use Rattle.fv_volume.proofs.OneVolumes.{still_volume}
use Rattle.fv_volume.proofs.OneVolumes.{still_led, still_well}
use Rattle.fv_volumes.proofs.Told.{is_inside}
use Rattle.fv_volume.proofs.RightTables.{no_damage}
use Rattle.fv_cp.specs.Held.{machine_held, IsHeld, IsHeldIn}
use Rattle.fv_cp.specs.Lent.{asked_by, blocks_asked, maps_waiting, FitTogether}
use Rattle.fv_cp.specs.Placing.{pending_files}
use Rattle.fv_aggregate.specs.declared.fault.Fault.{Fault}
use Rattle.fv_aggregate.specs.declared.fault.Fault.TheVariants.{DiskFault, Damaged, Memory}
use Rattle.fv_aggregate.specs.declared.session.Session.{Session}
use Rattle.fv_aggregate.specs.Calls.{but_numbers, KeepsAsking, SameButNumbers, WasRead}
use Rattle.fv_aggregate.specs.Looking.{Breaks}
use Rattle.fv_aggregate.specs.Numbering.{HasNumbered, NumbersState}
use Rattle.fv_aggregate.specs.Known.{KeepsNumbers, KnowsNumbers}
use Rattle.fv_aggregate.proofs.Holes.{kept_entries}
use Rattle.fv_aggregate.proofs.Keeping.{keeps_none, keeps_with}
use Rattle.fv_aggregate.specs.Standing.{clear_blocks, overheads_in, taken_since, StandsFor, StandsReady}
use Rattle.fv_aggregate.proofs.Asked.{calm_damage, calm_memory, rose_by}
use Rattle.fv_aggregate.proofs.Becoming.{machine_stays}
use Rattle.fv_aggregate.proofs.CallEnds.{goes_broken, goes_damaged, goes_done, goes_for_broken, goes_for_done, goes_for_fault, goes_wanting}
use Rattle.fv_aggregate.proofs.Called.{called_held, IsCalled}
use Rattle.fv_aggregate.proofs.Damages.{bad_changed, finds_active, keeps_map}
use Rattle.fv_aggregate.proofs.Changed.{fit_changed, mine, pending_within, ready_changed, same_overheads, same_waiting}
use Rattle.fv_aggregate.proofs.Returned.{as_told, long_lent}
use Rattle.fv_aggregate.proofs.Looked.{clear_read, known_read, last_overheads, placed_read, settled_read, stands_read}

-- a volume that is the same but for those numbers is left as a change leaves it, too
pub as_left : (x y : VolumeState) → y ≡ record x { numbers = y.numbers } → y ≡ record x { now = y.now; map = y.map; files = y.files; numbers = y.numbers; ledger = y.ledger; changed = y.changed }
as_left x y same = let is = sym same in same ∙ (λ j. record x { now = (is j).now; map = (is j).map; files = (is j).files; numbers = y.numbers; ledger = (is j).ledger; changed = (is j).changed })

module _ (d e : Shown) (s : Session) (q : Pool) (slot : ℕ) (x y : VolumeState) (there : state_at s.volumes slot ≡ Some x) (long : length s.volumes ≡ 64) (reads : Reads d s.pool e q)
    (same : y ≡ record x { numbers = y.numbers }) (ready : IsReady e q y) where
  abbrev stay : States
  stay = with_state s.volumes slot (Some y)

  abbrev pub numbered : Session
  numbered = record s { volumes = stay; pool = q }

  abbrev as_changed : y ≡ record x { now = y.now; map = y.map; files = y.files; numbers = y.numbers; ledger = y.ledger; changed = y.changed }
  as_changed = as_left x y same

  inside : slot < length s.volumes
  inside = let low = is_inside s.volumes slot x long there in omega (arith, low, long)

  here : state_at stay slot ≡ Some y
  here = get_or-set_same s.volumes slot (Some y) None inside

  pub stands_numbered : StandsReady d s → StandsReady e numbered
  stands_numbered is =
      let was = stands_read d e s q reads is in
      record { stands = record { found = was.stands.found; map = was.stands.map; cache = was.stands.cache }; ready = ready_changed d e s.pool q s.volumes slot x y there reads as_changed ready long is.ready }

  but_those : SameButNumbers s.volumes stay
  but_those k = ⊎_elim
      (λ (at : k ≡ slot). ap (λ (n : ℕ). option_map but_numbers (state_at stay n)) at ∙ ap (option_map but_numbers) here ∙ ap (λ (z : VolumeState). Some (but_numbers z)) same
      ∙ sym (ap (option_map but_numbers) there) ∙ ap (λ (n : ℕ). option_map but_numbers (state_at s.volumes n)) (sym at))
      (λ (differ : k ≢ slot). ap (option_map but_numbers) (get_or-set_other s.volumes slot k (Some y) None differ))
      (cases_eq k slot)

  pub read_numbered : WasRead d s e numbered
  read_numbered = record { only_reads = reads.only_reads; pool = reads.leaves; volumes = but_those; same = refl }

  -- they are in memory
  pub knows_numbered : is_some y.numbers ≡ true → KnowsNumbers (state_at stay slot)
  knows_numbered there = subst KnowsNumbers (sym here) there

  -- no volume loses its numbers
  pub kept_numbered : (is_some x.numbers ≡ true → y ≡ x) → KeepsNumbers s.volumes stay
  kept_numbered idle = keeps_none s.volumes stay (keeps_with (λ k. ⊥) s.volumes slot (Some y) inside
      (λ known stays. let had : is_some x.numbers ≡ true = subst KnowsNumbers there known in subst (λ (z : VolumeState). is_some z.numbers ≡ true) (sym (idle had)) had))

  -- a point asks for what it asked for
  same_asked : blocks_asked stay ≡ blocks_asked s.volumes
  same_asked =
      let sum = sum_by-set asked_by s.volumes slot (Some y) None inside in
      let own : asked_by (state_at s.volumes slot) ≡ asked_by (Some y) = ap asked_by there ∙ sym (ap (λ (z : VolumeState). asked_by (Some z)) same) in
      omega (arith, sum, own)

  pub asks_numbered : KeepsAsking 0 d s e numbered
  asks_numbered = λ tells kept asks none. let over = last_overheads d e s q reads in let asked = same_asked in record { asked = omega (arith, asks.asked, over, asked); pending = omega (arith, asks.pending) }

  -- ---- where it stands for a machine

  module _ (standing : IsStanding d s.pool x → IsStanding e q y) (last m : Machine) (is : StandsFor d s last m) where
    abbrev its : IsHeldIn d s.pool slot x
    its = mine d s.pool s.volumes long last is.held slot x there

    called : IsCalled e q x y
    called = record {
      same = as_changed;
      unchanged = λ un. same;
      maps = record { span = ap (λ (z : VolumeState). z.map.span) same; snapshots = λ k other. ap (λ (z : VolumeState). slot_at z.map k) same; active = λ v has_it. sym (ap (λ (z : VolumeState). has v (slot_at z.map 0)) same) ∙ has_it; numbers = (let numbers : free_numbers y.map ≡ free_numbers x.map = ap (λ (z : VolumeState). free_numbers z.map) same in omega (arith, numbers)) };
      ready = ready;
      stands = standing its.stands;
      led = subst (IsLedTo e q) (sym same) (still_led d e s.pool q reads x its.led);
      well = subst (IsStoredWell e q) (sym same) (still_well d e s.pool q reads x its.well);
      within = subst (λ (z : VolumeState). z.ledger.charge ≤ z.size) (sym same) its.within;
    }

    total : sum_of stay ≤ capacity s.pool.found.blocks
    total =
        let sum = sum_by-set committed_by s.volumes slot (Some y) None inside in
        let own : committed_by (state_at s.volumes slot) ≡ committed x.ledger = ap committed_by there in
        let still : committed y.ledger ≡ committed x.ledger = ap (λ (z : VolumeState). committed z.ledger) same in
        let fits = is.held.commits in
        omega (arith, sum, own, still, fits)

    held : IsHeld e q stay last
    held = called_held d e s.pool q reads s.volumes last is.held long slot x y there called total

    machine : machine_held e q stay ≡ m
    machine = machine_stays d e s.pool q reads s.volumes long last is.held slot x y there (ap (λ (z : VolumeState). z.name) same) held (ap (volume_for e q) same ∙ still_volume d e s.pool q reads x) ∙ is.machine

    pub stands_for_numbered : StandsFor e numbered last m
    stands_for_numbered =
        let no_more : pending_of y.files ≡ pending_of x.files = ap (λ (z : VolumeState). pending_of z.files) same in
        let now : pending_files stay ≤ pending_files s.volumes + (pending_of y.files - pending_of x.files) = pending_within d e s.pool q s.volumes slot x y there reads as_changed ready long (omega (arith, no_more)) in
        let all = same_overheads d e s.pool q s.volumes slot x y there reads as_changed ready long in
        let maps = same_waiting d e s.pool q s.volumes slot x y there reads as_changed ready long in
        let over = last_overheads d e s q reads in
        let placed : taken_since q.map ≡ taken_since s.pool.map = placed_read d e s q reads in
        let clear : clear_blocks q.map ≡ clear_blocks s.pool.map = clear_read d e s q reads in
        let pending : pending_files s.volumes + maps_waiting s.volumes + taken_since s.pool.map + overheads_in s.volumes ≤ overheads (view_at (root_found s.pool.found) d.reads) + s.pending = is.pending in
        let files : pending_files s.volumes + maps_waiting s.volumes + taken_since s.pool.map ≤ s.pending = is.files in
        let few : pending_files s.volumes < 256 = is.few in
        let free : pending_files s.volumes < free_blocks s.pool.map = is.free in
        let fits : overheads (view_at (root_found s.pool.found) d.reads) + max 256 s.pending ≤ clear_blocks s.pool.map = is.room in
        record {
          held = held;
          machine = machine;
          settled = settled_read d e s q reads is.settled;
          delays = known_read d e s q reads is.delays;
          pending = omega (arith, pending, now, maps, no_more, all, over, placed);
          files = omega (arith, files, now, maps, no_more, placed);
          few = omega (arith, few, now, no_more);
          free = omega (arith, free, now, no_more, ap free_blocks reads.leaves.map);
          room = omega (arith, fits, over, clear);
        }

-- a volume that is as it was keeps all
kept_same : (x y : VolumeState) → y ≡ x → y ≡ record x { map = y.map; files = y.files; changed = y.changed }
kept_same x y same = subst (λ (z : VolumeState). z ≡ record x { map = z.map; files = z.files; changed = z.changed }) (sym same) refl

kept_maps : (x y : VolumeState) → y ≡ x → GivesUp x.map y.map
kept_maps x y same = subst (λ (z : VolumeState). GivesUp x.map z.map) (sym same) (keeps_map x.map)

-- ---- by what the volume answered

module _ (d e : Shown) (laws : IsDisk d) (s : Session) (q : Pool) (slot : ℕ) (x y : VolumeState) (there : state_at s.volumes slot ≡ Some x) (long : length s.volumes ≡ 64) (fresh : IsNone s.failed) (stands : StandsReady d s) where
  abbrev now : Session
  now = record s { volumes = with_state s.volumes slot (Some y); pool = q }

  stand : (r : Result Unit BlockFault) → NumbersState d s.pool x e q y r → StandsReady e now
  stand r did = stands_numbered d e s q slot x y there long did.reads did.same did.ready stands

  for_it : (r : Result Unit BlockFault) → NumbersState d s.pool x e q y r → (last m : Machine) → StandsFor d s last m → StandsFor e now last m
  for_it r did last m is = stands_for_numbered d e s q slot x y there long did.reads did.same did.ready did.standing last m is

  kept_it : (r : Result Unit BlockFault) → NumbersState d s.pool x e q y r → KeepsNumbers s.volumes now.volumes
  kept_it r did = kept_numbered d e s q slot x y there long did.reads did.same did.ready did.idle

  asks_it : (r : Result Unit BlockFault) → NumbersState d s.pool x e q y r → KeepsAsking 0 d s e now
  asks_it r did = asks_numbered d e s q slot x y there long did.reads did.same did.ready

  pub numbered_done : (u : Unit {0}) → NumbersState d s.pool x e q y (Ok u) → HasNumbered slot d s e now (Ok u)
  numbered_done u did = record {
    goes = goes_done d e laws s now 0 did.reads.only_reads fresh fresh (stand (Ok u) did) u did.cause (omega arith) (λ tells. did.reads.leaves.found);
    asks = asks_it (Ok u) did;
    goes_for = λ tells last m is. goes_for_done d e laws s now 0 did.reads.only_reads fresh fresh (stand (Ok u) did) u last m m is (for_it (Ok u) did last m is);
    only_reads = did.reads.only_reads;
    entries = kept_entries s now did.reads.leaves.containers;
    read = read_numbered d e s q slot x y there long did.reads did.same did.ready;
    unread = tt;
    kept = kept_it (Ok u) did;
  }

  pub numbered_failed : (b : BlockFault) → NumbersState d s.pool x e q y (Err b) → (new : Session) (f : Fault) → Breaks e (of_block b) now new f → HasNumbered slot d s e new (Err f)
  numbered_failed block.DiskFault did new f b = as_told (λ (n : Session) (g : Fault). HasNumbered slot d s e n (Err g)) new (record now { failed = new.failed }) f DiskFault b.1.same b.0 (record {
    goes = goes_broken d e laws s now 0 did.reads.only_reads fresh fresh (stand (Err block.DiskFault) did) new.failed (rose_by _ _ _ e.faults did.cause) b.1.written b.1.unwritten (omega arith);
    asks = λ tells kept asks none. let is = asks_it (Err block.DiskFault) did tells kept asks fresh in record { asked = is.asked; pending = is.pending };
    goes_for = λ tells last m is. goes_for_broken d e laws s now 0 did.reads.only_reads fresh fresh (stand (Err block.DiskFault) did) new.failed last m m is (for_it (Err block.DiskFault) did last m is);
    only_reads = did.reads.only_reads;
    entries = kept_entries s (record now { failed = new.failed }) did.reads.leaves.containers;
    read = tt;
    unread = read_numbered d e s q slot x y there long did.reads did.same did.ready;
    kept = kept_it (Err block.DiskFault) did;
  })
  numbered_failed (block.Damaged at want found) did new f b = as_told (λ (n : Session) (g : Fault). HasNumbered slot d s e n (Err g)) new now f (Damaged at want found) b.1 b.0 (record {
    goes = goes_damaged d e laws s now 0 did.reads.only_reads fresh fresh (stand (Err (block.Damaged at want found)) did) at want found (calm_damage _ _ _ e.faults at want found did.cause) (inl (did.reads.only_reads, inl (inr (inr (inr (bad_changed d e s fresh slot x there q did.reads (calm_damage _ _ _ e.faults at want found did.cause) None false at want found (finds_active d s.pool x e.faults at want found (calm_damage _ _ _ e.faults at want found did.cause) did.cause) long y (kept_same x y did.kept) (kept_maps x y did.kept) s.pending)))))) (omega arith);
    asks = asks_it (Err (block.Damaged at want found)) did;
    goes_for = λ tells last m is.
        let its = mine d s.pool s.volumes long last is.held slot x there in
        absurd (no_damage d s.pool x its.stands its.well 0 e.faults at want found did.cause);
    only_reads = did.reads.only_reads;
    entries = kept_entries s now did.reads.leaves.containers;
    read = tt;
    unread = read_numbered d e s q slot x y there long did.reads did.same did.ready;
    kept = kept_it (Err (block.Damaged at want found)) did;
  })
  numbered_failed block.Memory did new f b = as_told (λ (n : Session) (g : Fault). HasNumbered slot d s e n (Err g)) new now f Memory b.1 b.0 (record {
    goes = goes_wanting d e laws s now 0 did.reads.only_reads fresh fresh (stand (Err block.Memory) did) (calm_memory _ _ _ e.faults did.cause) (omega arith);
    asks = asks_it (Err block.Memory) did;
    goes_for = λ tells last m is. goes_for_fault d e laws s now 0 did.reads.only_reads fresh fresh (stand (Err block.Memory) did) Memory last m m tt is (for_it (Err block.Memory) did last m is);
    only_reads = did.reads.only_reads;
    entries = kept_entries s now did.reads.leaves.containers;
    read = tt;
    unread = read_numbered d e s q slot x y there long did.reads did.same did.ready;
    kept = kept_it (Err block.Memory) did;
  })

-- ---- a volume that was lent to the call

-- the session's volumes fit together still
pub fit_numbered : (d e : Shown) (p q : Pool) (states : States) (slot : ℕ) (x y : VolumeState) → state_at states slot ≡ Some x → Reads d p e q → y ≡ record x { numbers = y.numbers } → IsReady e q y → FitTogether p states → FitTogether q (with_state states slot (Some y))
fit_numbered d e p q states slot x y there reads same ready fit = fit_changed d e p q states slot x y there reads (as_left x y same) ready fit.housed.long fit

module _ (d e : Shown) (laws : IsDisk d) (v s : Session) (same : v ≡ s) (fit : IsNone v.failed → FitTogether v.pool v.volumes) (fresh : IsNone s.failed) (stands : StandsReady d s) (q : Pool) (slot : ℕ) (x y : VolumeState)
    (lent : state_at v.volumes slot ≡ Some x) where
  abbrev after : Session
  after = record v { volumes = with_state v.volumes slot (Some y); pool = q }

  unfailed : IsNone v.failed
  unfailed = subst (λ (n : Session). IsNone n.failed) (sym same) fresh

  stand_lent : StandsReady d v
  stand_lent = subst (StandsReady d) (sym same) stands

  pub done_lent : NumbersState d v.pool x e q y (Ok tt) → HasNumbered slot d s e after (Ok tt)
  done_lent did = subst (λ (n : Session). HasNumbered slot d n e after (Ok tt)) same (numbered_done d e laws v q slot x y lent (long_lent v s same fit fresh) unfailed stand_lent tt did)

  pub failed_lent : (b : BlockFault) → NumbersState d v.pool x e q y (Err b) → (told : VolumeFault) → told ≡ of_block b → (new : Session) (f : Fault) → Breaks e told after new f → HasNumbered slot d s e new (Err f)
  failed_lent b did told is new f broke = subst (λ (n : Session). HasNumbered slot d n e new (Err f)) same
      (numbered_failed d e laws v q slot x y lent (long_lent v s same fit fresh) unfailed stand_lent b did new f (subst (λ (g : VolumeFault). Breaks e g after new f) is broke))

  pub knows_lent : Reads d v.pool e q → y ≡ record x { numbers = y.numbers } → IsReady e q y → is_some y.numbers ≡ true → KnowsNumbers (state_at (with_state v.volumes slot (Some y)) slot)
  knows_lent reads still ready there = knows_numbered d e v q slot x y lent (long_lent v s same fit fresh) reads still ready there
