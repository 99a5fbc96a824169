-- A session that judged a command on files, or carried one out, by the call of the volume of a slot.
use Rattle.std.proofs.Common.{◌≡◌, ◌<◌, ◌≤◌, ◌+◌, ℕ, true, List, Option, Some, None, Result, Ok, Err, inl, inr, length, true≢false, refl, sym, ap, subst, ◌∙◌, arith, false}
use Rattle.std.specs.Prelude.{IfErr, IsNone}
use Rattle.std.specs.FinMap as fin
use Rattle.std.proofs.lemmas.List.{set-get_or}
use Rattle.fv_disk.specs.Shown.{Shown, IsDisk}
use Rattle.fv_model.specs.declared.answers.Refusal.{Refusal}
use Rattle.fv_model.specs.declared.answers.Refusal.TheVariants.{NoVolume}
use Rattle.fv_model.specs.declared.answers.Reply.{Reply}
use Rattle.fv_model.specs.declared.answers.Reply.TheVariants.{Done, Refused}
use Rattle.fv_model.specs.declared.commands.Command.{Command}
use Rattle.fv_model.specs.Machines.{Machine}
use Rattle.fv_model.specs.Refusals.{next, refusal}
use Rattle.fv_pool.specs.declared.fault.VolumeFault.{VolumeFault}
use Rattle.fv_pool.specs.declared.fault.VolumeFault.TheVariants as volume
use Rattle.fv_pool.specs.declared.pool.Pool.{Pool}
use Rattle.fv_volume.specs.declared.state.VolumeState.{VolumeState}
use Rattle.fv_volume.specs.Changing.{IsChangeOf}
use Rattle.fv_pool.specs.Tables.{pending_of}
use Rattle.fv_volume.specs.Slots.{is_named, NoneHasName}
use Rattle.fv_volume.specs.States.{States, state_at, with_state}
use Rattle.fv_volume.proofs.RightTables.{no_damage}
use Rattle.fv_cp.specs.Held.{IsHeldIn}
use Rattle.fv_cp.specs.Lent.{FitTogether}
use Rattle.fv_aggregate.specs.declared.fault.Fault.{Fault}
use Rattle.fv_aggregate.specs.declared.fault.Fault.TheVariants.{DiskFault, Damaged, Memory}
use Rattle.fv_aggregate.specs.declared.session.Session.{Session}
use Rattle.fv_aggregate.specs.Calls.{GoesFor}
use Rattle.fv_aggregate.specs.Commands.{Asked, AsksTable, changed_by, file_room, has_range}
use Rattle.fv_aggregate.specs.Looking.{done_as, ChangesState, HasJudged, JudgesState, IsChangeAt, IsTableFault, Makes, Replied}
use Rattle.fv_aggregate.specs.Standing.{StandsFor, StandsReady}
use Rattle.fv_aggregate.proofs.Holes.{kept_entries}
use Rattle.fv_aggregate.specs.Damages.{HasBadTable}
use Rattle.fv_aggregate.proofs.Damages.{bad_changed, bad_read, finds_active}
use Rattle.fv_aggregate.proofs.Asked.{calm_damage, calm_memory, rose_by}
use Rattle.fv_aggregate.proofs.CallEnds.{goes_broken, goes_damaged, goes_done, goes_for_broken, goes_for_done, goes_for_fault, goes_wanting}
use Rattle.fv_aggregate.proofs.Changed.{accepted, beside, counted, has_within, held_done, held_left, machine_done, machine_left, mine, stands_changed, stands_for_changed}
use Rattle.fv_aggregate.proofs.Calls.{reads_itself}
use Rattle.fv_aggregate.proofs.Changing.{change_allows, change_of_volume}
use Rattle.fv_aggregate.proofs.HeldMachine.{not_there}
use Rattle.fv_aggregate.proofs.Looked.{stands_for_read, stands_read, was_read, was_unread}
use Rattle.fv_aggregate.proofs.Returned.{as_told, lent_there, long_lent, named_there, put_back, same_there}
use Rattle.fv_aggregate.proofs.Missing.{no_change, refused_allows, refused_next}

-- ---- judged

module _ (d e : Shown) (laws : IsDisk d) (s : Session) (q : Pool) (c : Command) (slot : ℕ) (x : VolumeState) (there : state_at s.volumes slot ≡ Some x) (long : length s.volumes ≡ 64) (fresh : IsNone s.failed) (stands : StandsReady d s) where
  abbrev now : Session
  now = record s { pool = q }

  its : (last m : Machine) → StandsFor d s last m → IsHeldIn d s.pool slot x
  its last m is = mine d s.pool s.volumes long last is.held slot x there

  pub judged_by : (r : Result Unit VolumeFault) → JudgesState d s.pool x (beside s.volumes slot) c e q r → (new : Session) (result : Result Reply Fault) → Replied e (done_as r) now new result → HasJudged slot d s c e new result
  judged_by (Ok u) did new result is = as_told (HasJudged slot d s c e) new now result (Ok Done) is.1 is.0 (record {
    goes = goes_done d e laws s now 0 did.reads.only_reads fresh fresh (stands_read d e s q did.reads stands) Done did.cause (omega arith) (λ tells. did.reads.leaves.found);
    goes_for = λ tells last m is. goes_for_done d e laws s now 0 did.reads.only_reads fresh fresh (stands_read d e s q did.reads stands) Done last m m is (stands_for_read d e s q did.reads last m is);
    judges = λ tells last m is. ap (λ (k : Machine). refusal k c) (sym is.machine) ∙ did.agrees (its last m is).stands _ (has_within d s.pool s.volumes long last is.held slot x there);
    only_reads = did.reads.only_reads;
    entries = kept_entries s now did.reads.leaves.containers;
    read = was_read d e s q did.reads;
  })
  judged_by (Err (volume.Refused r)) did new result is = as_told (HasJudged slot d s c e) new now result (Ok (Refused r)) is.1 is.0 (record {
    goes = goes_done d e laws s now 0 did.reads.only_reads fresh fresh (stands_read d e s q did.reads stands) (Refused r) did.cause (omega arith) (λ tells. did.reads.leaves.found);
    goes_for = λ tells last m is. goes_for_done d e laws s now 0 did.reads.only_reads fresh fresh (stands_read d e s q did.reads stands) (Refused r) last m m is (stands_for_read d e s q did.reads last m is);
    judges = λ tells last m is. ap (λ (k : Machine). refusal k c) (sym is.machine) ∙ did.agrees (its last m is).stands _ (has_within d s.pool s.volumes long last is.held slot x there);
    only_reads = did.reads.only_reads;
    entries = kept_entries s now did.reads.leaves.containers;
    read = was_read d e s q did.reads;
  })
  judged_by (Err volume.DiskFault) did new result b = as_told (HasJudged slot d s c e) new (record now { failed = new.failed }) result (Err DiskFault) b.1.1.1.same (b.1.0 ∙ ap (λ (g : Fault). Err g) b.1.1.0) (record {
    goes = goes_broken d e laws s now 0 did.reads.only_reads fresh fresh (stands_read d e s q did.reads stands) new.failed (rose_by _ _ _ e.faults did.cause) b.1.1.1.written b.1.1.1.unwritten (omega arith);
    goes_for = λ tells last m is. goes_for_broken d e laws s now 0 did.reads.only_reads fresh fresh (stands_read d e s q did.reads stands) new.failed last m m is (stands_for_read d e s q did.reads last m is);
    judges = λ tells last m is. tt;
    only_reads = did.reads.only_reads;
    entries = kept_entries s (record now { failed = new.failed }) did.reads.leaves.containers;
    read = tt;
  })
  judged_by (Err (volume.Damaged at want found)) did new result b = as_told (HasJudged slot d s c e) new now result (Err (Damaged at want found)) b.1.1.1 (b.1.0 ∙ ap (λ (g : Fault). Err g) b.1.1.0) (record {
    goes = goes_damaged d e laws s now 0 did.reads.only_reads fresh fresh (stands_read d e s q did.reads stands) at want found (calm_damage _ _ _ e.faults at want found did.cause) (inl (did.reads.only_reads, inl (inr (inr (inr (bad_read d e s fresh slot x there q did.reads (calm_damage _ _ _ e.faults at want found did.cause) None false at want found (finds_active d s.pool x e.faults at want found (calm_damage _ _ _ e.faults at want found did.cause) did.cause))))))) (omega arith);
    goes_for = λ tells last m is. absurd (no_damage d s.pool x (its last m is).stands (its last m is).well 0 e.faults at want found did.cause);
    judges = λ tells last m is. tt;
    only_reads = did.reads.only_reads;
    entries = kept_entries s now did.reads.leaves.containers;
    read = tt;
  })
  judged_by (Err volume.Memory) did new result b = as_told (HasJudged slot d s c e) new now result (Err Memory) b.1.1.1 (b.1.0 ∙ ap (λ (g : Fault). Err g) b.1.1.0) (record {
    goes = goes_wanting d e laws s now 0 did.reads.only_reads fresh fresh (stands_read d e s q did.reads stands) (calm_memory _ _ _ e.faults did.cause) (omega arith);
    goes_for = λ tells last m is. goes_for_fault d e laws s now 0 did.reads.only_reads fresh fresh (stands_read d e s q did.reads stands) Memory last m m tt is (stands_for_read d e s q did.reads last m is);
    judges = λ tells last m is. tt;
    only_reads = did.reads.only_reads;
    entries = kept_entries s now did.reads.leaves.containers;
    read = tt;
  })

  -- ---- carried out

  module _ (y : VolumeState) (more : ℕ) (more_is : more ≡ counted (pending_of x.files) (pending_of y.files)) (few : s.pending + 16 ≤ 256) (change : IsChangeOf x.name c) where
    abbrev after : Session
    after = record s { volumes = with_state s.volumes slot (Some y); pool = q; pending = s.pending + more }

    few_added : s.pending + more ≤ s.pending + 16
    few_added = omega (arith, more_is)

    stand : (r : Result Unit VolumeFault) → ChangesState d s.pool x (beside s.volumes slot) c e q y r → StandsReady e after
    stand r did = stands_changed d e s q slot x y there (beside s.volumes slot) c r did long more more_is stands

    -- it stands for the machine after the command
    for_done : (u : Unit {0}) → ChangesState d s.pool x (beside s.volumes slot) c e q y (Ok u) → (last m : Machine) → StandsFor d s last m → StandsFor e after last (next m c)
    for_done u did last m is = stands_for_changed d e s q slot x y there (beside s.volumes slot) c (Ok u) did long more more_is last m (next m c) is few (did.table (its last m is).stands).room
        (held_done d s.pool s.volumes long last is.held slot x there e q c y u did)
        (machine_done d s.pool s.volumes long last is.held slot x there e q c y u did ∙ ap (λ (k : Machine). next k c) is.machine)

    -- after a fault it stands for the one before
    for_left : (f : VolumeFault) → ChangesState d s.pool x (beside s.volumes slot) c e q y (Err f) → (last m : Machine) → StandsFor d s last m → StandsFor e after last m
    for_left f did last m is = stands_for_changed d e s q slot x y there (beside s.volumes slot) c (Err f) did long more more_is last m m is few (did.table (its last m is).stands).room
        (held_left d s.pool s.volumes long last is.held slot x there e q c y f did)
        (machine_left d s.pool s.volumes long last is.held slot x there e q c y f did ∙ is.machine)

    is_accepted : (u : Unit {0}) → ChangesState d s.pool x (beside s.volumes slot) c e q y (Ok u) → (last m : Machine) → StandsFor d s last m → refusal m c ≡ None
    is_accepted u did last m is = ap (λ (k : Machine). refusal k c) (sym is.machine) ∙ accepted d s.pool s.volumes long last is.held slot x there e q c y u did

    is_refused : (r : Refusal) → ChangesState d s.pool x (beside s.volumes slot) c e q y (Err (volume.Refused r)) → (last m : Machine) → StandsFor d s last m → refusal m c ≡ Some r
    is_refused r did last m is = ap (λ (k : Machine). refusal k c) (sym is.machine) ∙ (did.changes (its last m is).stands).agrees _ (has_within d s.pool s.volumes long last is.held slot x there)

    -- a refused one leaves all but the cache
    as_read : y ≡ x → after ≡ now
    as_read same =
        let states : with_state s.volumes slot (Some y) ≡ s.volumes = ap (λ (z : VolumeState). with_state s.volumes slot (Some z)) same ∙ ap (λ (o : Option VolumeState). with_state s.volumes slot o) (sym there) ∙ set-get_or s.volumes slot None in
        let none : more ≡ counted (pending_of x.files) (pending_of x.files) = more_is ∙ ap (λ (z : VolumeState). counted (pending_of x.files) (pending_of z.files)) same in
        let nothing : s.pending + more ≡ s.pending = omega (arith, none) in
        λ j. record s { volumes = states j; pool = q; pending = nothing j }

    -- its table isn't as it has to be
    bad_after : (at want found : ℕ) → ChangesState d s.pool x (beside s.volumes slot) c e q y (Err (volume.Damaged at want found)) → HasBadTable (AsksTable slot None false) e s after at want found
    bad_after at want found did = bad_changed d e s fresh slot x there q did.reads (calm_damage _ _ _ e.faults at want found did.cause) None false at want found (finds_active d s.pool x e.faults at want found (calm_damage _ _ _ e.faults at want found did.cause) did.cause) long y did.head.failed did.head.maps (s.pending + more)

    pub makes_by : (r : Result Unit VolumeFault) → ChangesState d s.pool x (beside s.volumes slot) c e q y r → (new : Session) (result : Result Reply Fault) → Replied e (done_as r) after new result → Makes file_room (AsksTable slot None false) d s c e new result
    makes_by (Ok u) did new result is = as_told (Makes file_room (AsksTable slot None false) d s c e) new after result (Ok Done) is.1 is.0 (record {
      goes = goes_done d e laws s after 16 did.reads.only_reads fresh fresh (stand (Ok u) did) Done did.cause few_added (λ tells. did.reads.leaves.found);
      goes_for = λ tells last m is. goes_for_done d e laws s after 16 did.reads.only_reads fresh fresh (stand (Ok u) did) Done last m (next m c) is (for_done u did last m is);
      reply = λ tells last m is. change_allows x.name c change m (is_accepted u did last m is);
      refused = λ tells last m is refused. absurd (true≢false (sym refused));
      still = λ low refused. absurd (true≢false (sym refused));
      calm = λ low. did.reads.only_reads;
      entries = λ low. kept_entries s after did.reads.leaves.containers;
    })
    makes_by (Err (volume.Refused r)) did new result is = as_told (Makes file_room (AsksTable slot None false) d s c e) new now result (Ok (Refused r)) (is.1 ∙ as_read (did.head.refused r refl)) is.0 (record {
      goes = goes_done d e laws s now 16 did.reads.only_reads fresh fresh (stands_read d e s q did.reads stands) (Refused r) did.cause (omega arith) (λ tells. did.reads.leaves.found);
      goes_for = λ tells last m is. subst (λ (n : Machine). GoesFor d last m n e now (Ok (Refused r))) (sym (refused_next m c r (is_refused r did last m is)))
          (goes_for_done d e laws s now 16 did.reads.only_reads fresh fresh (stands_read d e s q did.reads stands) (Refused r) last m m is (stands_for_read d e s q did.reads last m is));
      reply = λ tells last m is. refused_allows m c r (is_refused r did last m is);
      refused = λ tells last m is refused. was_read d e s q did.reads;
      still = λ low refused. was_read d e s q did.reads;
      calm = λ low. did.reads.only_reads;
      entries = λ low. kept_entries s now did.reads.leaves.containers;
    })
    makes_by (Err volume.DiskFault) did new result b = as_told (Makes file_room (AsksTable slot None false) d s c e) new (record after { failed = new.failed }) result (Err DiskFault) b.1.1.1.same (b.1.0 ∙ ap (λ (g : Fault). Err g) b.1.1.0) (record {
      goes = goes_broken d e laws s after 16 did.reads.only_reads fresh fresh (stand (Err volume.DiskFault) did) new.failed (rose_by _ _ _ e.faults did.cause) b.1.1.1.written b.1.1.1.unwritten few_added;
      goes_for = λ tells last m is. goes_for_broken d e laws s after 16 did.reads.only_reads fresh fresh (stand (Err volume.DiskFault) did) new.failed last m (next m c) is (for_left volume.DiskFault did last m is);
      reply = λ tells last m is. tt;
      refused = λ tells last m is. tt;
      still = λ low. tt;
      calm = λ low. did.reads.only_reads;
      entries = λ low. kept_entries s (record after { failed = new.failed }) did.reads.leaves.containers;
    })
    makes_by (Err (volume.Damaged at want found)) did new result b = as_told (Makes file_room (AsksTable slot None false) d s c e) new after result (Err (Damaged at want found)) b.1.1.1 (b.1.0 ∙ ap (λ (g : Fault). Err g) b.1.1.0) (record {
      goes = goes_damaged d e laws s after 16 did.reads.only_reads fresh fresh (stand (Err (volume.Damaged at want found)) did) at want found (calm_damage _ _ _ e.faults at want found did.cause) (inl (did.reads.only_reads, inl (inr (inr (inr (bad_after at want found did)))))) few_added;
      goes_for = λ tells last m is. absurd (no_damage d s.pool x (its last m is).stands (its last m is).well 0 e.faults at want found did.cause);
      reply = λ tells last m is. tt;
      refused = λ tells last m is. tt;
      still = λ low. tt;
      calm = λ low. did.reads.only_reads;
      entries = λ low. kept_entries s after did.reads.leaves.containers;
    })
    makes_by (Err volume.Memory) did new result b = as_told (Makes file_room (AsksTable slot None false) d s c e) new after result (Err Memory) b.1.1.1 (b.1.0 ∙ ap (λ (g : Fault). Err g) b.1.1.0) (record {
      goes = goes_wanting d e laws s after 16 did.reads.only_reads fresh fresh (stand (Err volume.Memory) did) (calm_memory _ _ _ e.faults did.cause) few_added;
      goes_for = λ tells last m is. goes_for_fault d e laws s after 16 did.reads.only_reads fresh fresh (stand (Err volume.Memory) did) Memory last m (next m c) tt is (for_left volume.Memory did last m is);
      reply = λ tells last m is. tt;
      refused = λ tells last m is. tt;
      still = λ low. tt;
      calm = λ low. did.reads.only_reads;
      entries = λ low. kept_entries s after did.reads.leaves.containers;
    })

    -- damage is of its table
    pub bad_by : (r : Result Unit VolumeFault) → ChangesState d s.pool x (beside s.volumes slot) c e q y r → (new : Session) (result : Result Reply Fault) → Replied e (done_as r) after new result → IfErr result (IsTableFault (AsksTable slot None false) e s new)
    bad_by (Ok u) did new result is = as_told (λ (n : Session) (z : Result Reply Fault). IfErr z (IsTableFault (AsksTable slot None false) e s n)) new after result (Ok Done) is.1 is.0 tt
    bad_by (Err (volume.Refused r)) did new result is = as_told (λ (n : Session) (z : Result Reply Fault). IfErr z (IsTableFault (AsksTable slot None false) e s n)) new after result (Ok (Refused r)) is.1 is.0 tt
    bad_by (Err volume.DiskFault) did new result b = as_told (λ (n : Session) (z : Result Reply Fault). IfErr z (IsTableFault (AsksTable slot None false) e s n)) new (record after { failed = new.failed }) result (Err DiskFault) b.1.1.1.same (b.1.0 ∙ ap (λ (g : Fault). Err g) b.1.1.0) tt
    bad_by (Err (volume.Damaged at want found)) did new result b = as_told (λ (n : Session) (z : Result Reply Fault). IfErr z (IsTableFault (AsksTable slot None false) e s n)) new after result (Err (Damaged at want found)) b.1.1.1 (b.1.0 ∙ ap (λ (g : Fault). Err g) b.1.1.0) (bad_after at want found did)
    bad_by (Err volume.Memory) did new result b = as_told (λ (n : Session) (z : Result Reply Fault). IfErr z (IsTableFault (AsksTable slot None false) e s n)) new after result (Err Memory) b.1.1.1 (b.1.0 ∙ ap (λ (g : Fault). Err g) b.1.1.0) tt

-- ---- a volume that was lent to the call

-- the command is a change of it
pub change_lent : (v s : Session) → v ≡ s → (slot : ℕ) (x : VolumeState) → state_at v.volumes slot ≡ Some x → (c : Command) → IsChangeAt s.volumes slot c → IsChangeOf x.name c
change_lent v s same slot x lent c aimed = subst (λ (z : VolumeState). IsChangeOf z.name c) (same_there _ _ _ aimed.there (lent_there v s same slot x lent)) aimed.change

module _ (d e : Shown) (laws : IsDisk d) (v s : Session) (same : v ≡ s) (fit : IsNone v.failed → FitTogether v.pool v.volumes) (fresh : IsNone s.failed) (stands : StandsReady d s) (c : Command) (slot : ℕ) (x : VolumeState)
    (lent : state_at v.volumes slot ≡ Some x) (others : ℕ) (sum : others ≡ beside v.volumes slot) (q : Pool) (y : VolumeState) (r : Result Unit VolumeFault) (told : Result Reply VolumeFault) (is : told ≡ done_as r) (new : Session)
    (result : Result Reply Fault) where
  unfailed : IsNone v.failed
  unfailed = subst (λ (n : Session). IsNone n.failed) (sym same) fresh

  stand_lent : StandsReady d v
  stand_lent = subst (StandsReady d) (sym same) stands

  pub judged_lent : y ≡ x → JudgesState d v.pool x others c e q r → Replied e told (record v { volumes = with_state v.volumes slot (Some y); pool = q }) new result → HasJudged slot d s c e new result
  judged_lent still did replied = subst (λ (n : Session). HasJudged slot d n c e new result) same
      (judged_by d e laws v q c slot x lent (long_lent v s same fit fresh) unfailed stand_lent r (subst (λ (k : ℕ). JudgesState d v.pool x k c e q r) sum did) new result
      (subst (λ (n : Session). Replied e (done_as r) n new result) (λ j. record v { volumes = put_back v.volumes slot x y lent still j; pool = q }) (subst (λ (t : Result Reply VolumeFault). Replied e t (record v { volumes = with_state v.volumes slot (Some y); pool = q }) new result) is replied)))

  pub makes_lent : (more : ℕ) → more ≡ counted (pending_of x.files) (pending_of y.files) → s.pending + 16 ≤ 256 → IsChangeOf x.name c → ChangesState d v.pool x others c e q y r
      → Replied e told (record v { volumes = with_state v.volumes slot (Some y); pool = q; pending = v.pending + more }) new result → Makes file_room (AsksTable slot None false) d s c e new result
  makes_lent more more_is few change did replied = subst (λ (n : Session). Makes file_room (AsksTable slot None false) d n c e new result) same
      (makes_by d e laws v q c slot x lent (long_lent v s same fit fresh) unfailed stand_lent y more more_is (subst (λ (n : Session). n.pending + 16 ≤ 256) (sym same) few) change r (subst (λ (k : ℕ). ChangesState d v.pool x k c e q y r) sum did) new result
      (subst (λ (t : Result Reply VolumeFault). Replied e t (record v { volumes = with_state v.volumes slot (Some y); pool = q; pending = v.pending + more }) new result) is replied))

  pub bad_lent : (more : ℕ) → more ≡ counted (pending_of x.files) (pending_of y.files) → s.pending + 16 ≤ 256 → IsChangeOf x.name c → ChangesState d v.pool x others c e q y r
      → Replied e told (record v { volumes = with_state v.volumes slot (Some y); pool = q; pending = v.pending + more }) new result → IfErr result (IsTableFault (AsksTable slot None false) e s new)
  bad_lent more more_is few change did replied = subst (λ (n : Session). IfErr result (IsTableFault (AsksTable slot None false) e n new)) same
      (bad_by d e laws v q c slot x lent (long_lent v s same fit fresh) unfailed stand_lent y more more_is (subst (λ (n : Session). n.pending + 16 ≤ 256) (sym same) few) change r (subst (λ (k : ℕ). ChangesState d v.pool x k c e q y r) sum did) new result
      (subst (λ (t : Result Reply VolumeFault). Replied e t (record v { volumes = with_state v.volumes slot (Some y); pool = q; pending = v.pending + more }) new result) is replied))

-- ---- before a volume is asked

-- what the machine refuses is refused at once
pub refused_at_once : {asked : Asked} (d : Shown) → IsDisk d → (s : Session) → IsNone s.failed → StandsReady d s → (c : Command) (r : Refusal) → ((last m : Machine) → StandsFor d s last m → refusal m c ≡ Some r) → Makes file_room asked d s c d s (Ok (Refused r))
refused_at_once d laws s fresh stands c r why = record {
  goes = goes_done d d laws s s 16 (reads_itself d) fresh fresh stands (Refused r) refl (omega arith) (λ tells. refl);
  goes_for = λ tells last m is. subst (λ (n : Machine). GoesFor d last m n d s (Ok (Refused r))) (sym (refused_next m c r (why last m is)))
      (goes_for_done d d laws s s 16 (reads_itself d) fresh fresh stands (Refused r) last m m is is);
  reply = λ tells last m is. refused_allows m c r (why last m is);
  refused = λ tells last m is refused. was_unread d s;
  still = λ low refused. was_unread d s;
  calm = λ low. reads_itself d;
  entries = λ low. kept_entries s s refl;
}

pub refused_missing : (d : Shown) (s : Session) → length s.volumes ≡ 64 → (name : List ℕ) (c : Command) → NoneHasName s.volumes name → changed_by c ≡ Some name → has_range c ≡ true → (last m : Machine) → StandsFor d s last m → refusal m c ≡ Some NoVolume
refused_missing d s long name c none change near last m is = no_change m name (subst (λ (k : Machine). fin.get k.volumes name ≡ None) is.machine (not_there d s.pool s.volumes long name none)) c change near

-- the command changes a file of the volume that its name finds
pub aimed_at : (states : States) (slot : ℕ) (name : List ℕ) (c : Command) → slot < 64 → is_named (state_at states slot) name ≡ true → changed_by c ≡ Some name → IsChangeAt states slot c
aimed_at states slot name c within named change =
    let of = named_there (state_at states slot) name named in
    record { within = within; state = of.0; there = of.1.0; change = subst (λ (n : List ℕ). IsChangeOf n c) of.1.1 (change_of_volume name c change) }
