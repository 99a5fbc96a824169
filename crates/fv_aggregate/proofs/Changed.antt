-- What volumes and a session stand for once the files of one volume were changed in memory.
use Rattle.std.proofs.Common.{◌≡◌, ◌<◌, ◌≤◌, ◌+◌, ◌-◌, ◌^◌, ℕ, cond, length, Option, Some, None, Result, Ok, Err, sym, ap, subst, ◌∙◌, arith}
use Rattle.std.specs.Prelude.{IfSome, max, min}
use Rattle.std.specs.Option.{is_some}
use Rattle.std.proofs.lemmas.List.Sums.{sum_by-set}
use Rattle.fv_disk.specs.Shown.{Shown}
use Rattle.fv_model.specs.declared.answers.Refusal.{Refusal}
use Rattle.fv_model.specs.declared.commands.Command.{Command}
use Rattle.fv_model.specs.Machines.{Machine, capacity}
use Rattle.fv_model.specs.Space.{commits, use_of, IsAdmitted}
use Rattle.fv_model.specs.Effects.{Becomes, changed, effect}
use Rattle.fv_model.specs.Refusals.{next, refusal}
use Rattle.fv_laws.proofs.Admission.{admitted}
use Rattle.fv_laws.proofs.Commits.{commits_put, now_there}
use Rattle.fv_image.specs.Held.{view_at}
use Rattle.fv_image.specs.Views.{overheads}
use Rattle.fv_root.specs.declared.find.Found.{Found}
use Rattle.fv_root.specs.Finding.{root_found, IsInRange}
use Rattle.fv_aggmap.specs.Space.{Space, blocks_of, free_blocks}
use Rattle.fv_charge.specs.Ledgers.{committed}
use Rattle.fv_container.specs.Chains.{Slots}
use Rattle.fv_pool.specs.declared.fault.VolumeFault.{VolumeFault}
use Rattle.fv_pool.specs.declared.pool.Pool.{Pool}
use Rattle.fv_volume.specs.declared.state.VolumeState.{VolumeState}
use Rattle.fv_volume.specs.Calls.{Changes, Has, HasWithin}
use Rattle.fv_pool.specs.Calls.{Reads}
use Rattle.fv_volumes.specs.Housed.{AreHoused}
use Rattle.fv_pool.specs.Keeping.{Blocks, IsUnkept}
use Rattle.fv_volume.specs.OneVolume.{volume_for, IsReady, IsStanding}
use Rattle.fv_pool.specs.Tables.{pending_of}
use Rattle.fv_volume.specs.Slots.{committed_by, sum_of}
use Rattle.fv_volume.specs.States.{States, parent_in, state_at, with_state}
use Rattle.fv_volume.specs.Writing.{IsTaken, on_disk}
use Rattle.fv_volumes.proofs.Told.{is_inside, ledger_commit}
use Rattle.fv_cp.specs.Held.{machine_held, IsHeld, IsHeldIn}
use Rattle.fv_cp.specs.Lent.{maps_waiting, waiting_by, FitTogether}
use Rattle.fv_cp.specs.Placing.{pending_by, pending_files, AreReady, IsReadyIn}
use Rattle.fv_aggregate.specs.declared.session.Session.{Session}
use Rattle.fv_aggregate.specs.Looking.{ChangesState}
use Rattle.fv_aggregate.specs.Standing.{clear_blocks, overhead_by, overheads_in, taken_since, StandsFor, StandsReady}
use Rattle.fv_aggregate.proofs.Becoming.{machine_becomes, machine_stays}
use Rattle.fv_aggregate.proofs.Called.{but_for_numbers, called_held, IsCalled}
use Rattle.fv_aggregate.proofs.Clear.{free_and_placed}
use Rattle.fv_aggregate.proofs.HeldMachine.{blocks_are, commits_are, is_admitted, is_there, one}
use Rattle.fv_aggregate.proofs.Replaced.{each_slot, housed_as, same_sum, within}
use Rattle.fv_aggregate.proofs.Looked.{clear_read, known_read, last_overheads, placed_read, ready_read, settled_read, stands_read}

-- ---- the volumes, whatever the disk tells

module _ (d e : Shown) (p q : Pool) (states : States) (s : ℕ) (x y : VolumeState) (there : state_at states s ≡ Some x) (reads : Reads d p e q)
    (same : y ≡ record x { now = y.now; map = y.map; files = y.files; numbers = y.numbers; ledger = y.ledger; changed = y.changed }) (ready : IsReady e q y) (long : length states ≡ 64) where
  abbrev stay : States
  stay = with_state states s (Some y)

  pub named : y.name ≡ x.name
  named = ap (λ (z : VolumeState). z.name) same

  pub ready_changed : AreReady d p states → AreReady e q stay
  ready_changed were = each_slot states long s x y there (λ k o. IfSome o (IsReadyIn e q k)) (record { slot = ap (λ (z : VolumeState). z.slot) same ∙ own.slot; ready = ready }) (λ k differ. ready_read d e p q reads states were k)
    where
      own : IsReadyIn d p s x
      own = subst (λ (o : Option VolumeState). IfSome o (IsReadyIn d p s)) there (were s)

  housed : AreHoused p.containers states → AreHoused p.containers stay
  housed was = housed_as states long s x y there p.containers ready.labelled (ap (λ (z : VolumeState). z.slot) same) (ap (λ (z : VolumeState). z.span) same) (ap (λ (z : VolumeState). parent_in (Some z)) same) was

  -- the session's parts fit together
  pub fit_changed : FitTogether p states → FitTogether q stay
  fit_changed fit = record {
    range = subst IsInRange (sym reads.leaves.found) fit.range;
    size = ap blocks_of reads.leaves.map ∙ fit.size ∙ sym (ap (λ (f : Found). f.blocks) reads.leaves.found);
    version = reads.leaves.version ∙ fit.version ∙ sym (ap (λ (f : Found). f.root.version) reads.leaves.found);
    housed = subst (λ (c : Slots). AreHoused c stay) (sym reads.leaves.containers) (housed fit.housed);
    kept = λ b taken. subst (λ (k : Blocks). IsUnkept k b) (sym reads.leaves.kept) (fit.kept b (subst (λ (m : Space). IsTaken (on_disk m) b) reads.leaves.map taken));
  }

  -- the overheads stay
  pub same_overheads : overheads_in stay ≡ overheads_in states
  same_overheads = same_sum states long s x y there overhead_by (ap (λ (z : VolumeState). overhead_by (Some z)) same)

  -- and so do the maps that wait
  pub same_waiting : maps_waiting stay ≡ maps_waiting states
  same_waiting = same_sum states long s x y there waiting_by (ap (λ (z : VolumeState). waiting_by (Some z)) same)

  -- so many blocks more are pending at most
  pub pending_within : pending_of y.files ≤ pending_of x.files + 14 → pending_files stay ≤ pending_files states + (pending_of y.files - pending_of x.files)
  pending_within room =
      let sum = sum_by-set pending_by states s (Some y) None (within states long s x y there) in
      let own : pending_by (state_at states s) ≡ pending_of x.files = ap pending_by there in
      omega (arith, sum, own)

  pub own_pending : pending_of x.files ≤ pending_files states
  own_pending =
      let part = sum_by-set pending_by states s None None (within states long s x y there) in
      let own : pending_by (state_at states s) ≡ pending_of x.files = ap pending_by there in
      omega (arith, part, own)

-- what the others commit beside the volume of a slot
pub commits_part : (states : States) (s : ℕ) (x : VolumeState) → length states ≡ 64 → state_at states s ≡ Some x → committed x.ledger ≤ sum_of states
commits_part states s x long there =
    let low = is_inside states s x long there in
    let part = sum_by-set committed_by states s None None (omega (arith, low, long)) in
    let own : committed_by (state_at states s) ≡ committed x.ledger = ap committed_by there in
    omega (arith, part, own)

abbrev pub beside : States → ℕ → ℕ
beside states s = sum_of states - committed_by (state_at states s)

-- ---- where they stand for a machine

module _ (d : Shown) (p : Pool) (states : States) (long : length states ≡ 64) (last : Machine) (held : IsHeld d p states last) (s : ℕ) (x : VolumeState) (there : state_at states s ≡ Some x) where
  abbrev m : Machine
  m = machine_held d p states

  pub mine : IsHeldIn d p s x
  mine = one d p states long last held s x there

  has : Has x.name (volume_for d p x) m
  has = is_there d p states long last held s x there

  -- the machine has the volume within its aggregate
  pub has_within : HasWithin x.name (volume_for d p x) (beside states s) p.found.blocks m
  has_within = record {
    beside = record {
      there = has;
      sum = (let total = commits_are d p states long last held in
          let own : committed_by (state_at states s) ≡ committed x.ledger = ap committed_by there in
          let said = ledger_commit (volume_for d p x) x.ledger mine.stands.ledger in
          let part = commits_part states s x long there in
          omega (arith, total, own, said, part));
      blocks = blocks_are d p states long;
    };
    admitted = is_admitted d p states long last held;
  }

  module _ (e : Shown) (q : Pool) (c : Command) (y : VolumeState) where
    low : s < length states
    low = let is = is_inside states s x long there in omega (arith, is, long)

    -- what the call leaves of it, done or not
    called_by : (r : Result Unit VolumeFault) → ChangesState d p x (beside states s) c e q y r → y.ledger.charge ≤ y.size → IsCalled e q x y
    called_by r did within = record {
      same = did.head.same;
      unchanged = λ un. but_for_numbers x y (did.head.idle un);
      maps = did.head.maps;
      ready = did.ready;
      stands = did.standing mine.stands;
      led = (did.table mine.stands).led mine.led;
      well = (did.table mine.stands).well mine.well;
      within = within;
    }

    -- ---- it was done

    module _ (u : Unit {0}) (did : ChangesState d p x (beside states s) c e q y (Ok u)) where
      its : Changes (HasWithin x.name (volume_for d p x) (beside states s) p.found.blocks) c x.name (volume_for d p x) (volume_for e q y) (Ok u)
      its = did.changes mine.stands

      stand : IsStanding e q y
      stand = did.standing mine.stands

      pub accepted : refusal m c ≡ None
      accepted = its.agrees m has_within

      next_is : next m c ≡ changed m (Becomes x.name (volume_for e q y))
      next_is = ap (λ (o : Option Refusal). cond (is_some o) m (effect m c)) accepted ∙ ap (changed m) (its.becomes m has)

      next_admitted : IsAdmitted (changed m (Becomes x.name (volume_for e q y)))
      next_admitted = subst IsAdmitted next_is (admitted m c (is_admitted d p states long last held))

      total_done : sum_of (with_state states s (Some y)) ≤ capacity p.found.blocks
      total_done =
          let sum = sum_by-set committed_by states s (Some y) None low in
          let own : committed_by (state_at states s) ≡ committed x.ledger = ap committed_by there in
          let old = ledger_commit (volume_for d p x) x.ledger mine.stands.ledger in
          let new = ledger_commit (volume_for e q y) y.ledger stand.ledger in
          let all = commits_are d p states long last held in
          let put = commits_put m x.name (volume_for d p x) (volume_for e q y) has in
          let fits : commits (changed m (Becomes x.name (volume_for e q y))) ≤ capacity m.blocks = next_admitted.aggregate in
          let size : capacity m.blocks ≡ capacity p.found.blocks = ap capacity (blocks_are d p states long) in
          omega (arith, sum, own, old, new, all, put, fits, size)

      within_done : y.ledger.charge ≤ y.size
      within_done =
          let uses : use_of (volume_for e q y) ≤ y.size = next_admitted.volumes x.name (volume_for e q y) (now_there m x.name (volume_for e q y)) in
          let charged = stand.ledger.charged in
          omega (arith, uses, charged)

      called_done : IsCalled e q x y
      called_done = called_by (Ok u) did within_done

      pub held_done : IsHeld e q (with_state states s (Some y)) last
      held_done = called_held d e p q did.reads states last held long s x y there called_done total_done

      pub machine_done : machine_held e q (with_state states s (Some y)) ≡ next m c
      machine_done = machine_becomes d e p q did.reads states long last held s x y there (ap (λ (z : VolumeState). z.name) did.head.same) held_done ∙ sym next_is

    -- ---- or not

    module _ (f : VolumeFault) (did : ChangesState d p x (beside states s) c e q y (Err f)) where
      left_stand : IsStanding e q y
      left_stand = did.standing mine.stands

      total_left : sum_of (with_state states s (Some y)) ≤ capacity p.found.blocks
      total_left =
          let sum = sum_by-set committed_by states s (Some y) None low in
          let own : committed_by (state_at states s) ≡ committed x.ledger = ap committed_by there in
          let same : committed y.ledger ≡ committed x.ledger = ap (λ (z : VolumeState). committed z.ledger) did.head.failed in
          let fits = held.commits in
          omega (arith, sum, own, same, fits)

      called_left : IsCalled e q x y
      called_left = called_by (Err f) did (subst (λ (z : VolumeState). z.ledger.charge ≤ z.size) (sym did.head.failed) mine.within)

      pub held_left : IsHeld e q (with_state states s (Some y)) last
      held_left = called_held d e p q did.reads states last held long s x y there called_left total_left

      pub machine_left : machine_held e q (with_state states s (Some y)) ≡ m
      machine_left = machine_stays d e p q did.reads states long last held s x y there (ap (λ (z : VolumeState). z.name) did.head.same) held_left (did.changes mine.stands).stays

-- ---- a session

-- so many blocks the change of a volume is counted for, whose pending blocks were `before` and are `after`
abbrev pub counted : ℕ → ℕ → ℕ
counted before after = min (min after (2 ^ 64 - 1) - min before (2 ^ 64 - 1)) 16

counts_all : (x y : ℕ) → x < 256 → y ≤ x + 14 → counted x y ≡ y - x
counts_all x y few room = omega (arith, few, room)

module _ (d e : Shown) (s : Session) (q : Pool) (slot : ℕ) (x y : VolumeState) (there : state_at s.volumes slot ≡ Some x) (others : ℕ) (c : Command) (result : Result Unit VolumeFault)
    (did : ChangesState d s.pool x others c e q y result) (long : length s.volumes ≡ 64) (more : ℕ) (more_is : more ≡ counted (pending_of x.files) (pending_of y.files)) where
  abbrev pub changed_session : Session
  changed_session = record s { volumes = with_state s.volumes slot (Some y); pool = q; pending = s.pending + more }

  pub stands_changed : StandsReady d s → StandsReady e changed_session
  stands_changed is =
      let was = stands_read d e s q did.reads is in
      record {
        stands = record { found = was.stands.found; map = was.stands.map; cache = was.stands.cache };
        ready = ready_changed d e s.pool q s.volumes slot x y there did.reads did.head.same did.ready long is.ready;
      }

  pub stands_for_changed : (last m n : Machine) → StandsFor d s last m → s.pending + 16 ≤ 256 → pending_of y.files ≤ pending_of x.files + 14
      → IsHeld e q (with_state s.volumes slot (Some y)) last → machine_held e q (with_state s.volumes slot (Some y)) ≡ n → StandsFor e changed_session last n
  stands_for_changed last m n is few room held machine =
      let files : pending_files s.volumes + maps_waiting s.volumes + taken_since s.pool.map ≤ s.pending = is.files in
      let pending : pending_files s.volumes + maps_waiting s.volumes + taken_since s.pool.map + overheads_in s.volumes ≤ overheads (view_at (root_found s.pool.found) d.reads) + s.pending = is.pending in
      let fits : overheads (view_at (root_found s.pool.found) d.reads) + max 256 s.pending ≤ clear_blocks s.pool.map = is.room in
      let own = own_pending d e s.pool q s.volumes slot x y there did.reads did.head.same did.ready long in
      let now = pending_within d e s.pool q s.volumes slot x y there did.reads did.head.same did.ready long room in
      let count : more ≡ pending_of y.files - pending_of x.files = more_is ∙ counts_all (pending_of x.files) (pending_of y.files) (omega (arith, files, own, few)) room in
      let same = same_overheads d e s.pool q s.volumes slot x y there did.reads did.head.same did.ready long in
      let maps = same_waiting d e s.pool q s.volumes slot x y there did.reads did.head.same did.ready long in
      let over = last_overheads d e s q did.reads in
      let placed : taken_since q.map ≡ taken_since s.pool.map = placed_read d e s q did.reads in
      let clear : clear_blocks q.map ≡ clear_blocks s.pool.map = clear_read d e s q did.reads in
      record {
        held = held;
        machine = machine;
        settled = settled_read d e s q did.reads is.settled;
        delays = known_read d e s q did.reads is.delays;
        pending = omega (arith, pending, now, maps, count, same, over, placed);
        files = omega (arith, files, now, maps, count, placed);
        few = omega (arith, files, now, room, few);
        free = omega (arith, files, fits, now, room, few, free_and_placed s.pool.map, ap free_blocks did.reads.leaves.map);
        room = omega (arith, fits, over, clear, count, room, few);
      }
