-- A volume was removed, or not: what `apply` says of it.
use Rattle.std.proofs.Common.{◌≡◌, inl, inr, ◌≤◌, ◌<◌, ℕ, Bool, true, false, cond, List, Option, Some, None, Result, Ok, Err, true≢false, refl, sym, ap, subst, ◌∙◌, arith}
use Rattle.std.specs.Prelude.{IfErr, IfOk, IsNone, IsTrue, OnErr, OnOk}
use Rattle.std.specs.Option.{is_some}
use Rattle.fv_disk.specs.Shown.{Image, IsDisk, Rose, Shown}
use Rattle.fv_disk.specs.DiskCalls.{OnlyReads}
use Rattle.fv_model.specs.declared.answers.Refusal.{Refusal}
use Rattle.fv_model.specs.declared.answers.Refusal.TheVariants.{NoVolume, VolumeInUse}
use Rattle.fv_model.specs.declared.answers.Reply.{Reply}
use Rattle.fv_model.specs.declared.answers.Reply.TheVariants.{Done, Refused}
use Rattle.fv_model.specs.declared.commands.Command.{Command}
use Rattle.fv_model.specs.declared.commands.Command.TheVariants.{Cp, SnapList, VolDestroy, VolList, VolStat}
use Rattle.fv_model.specs.Effects.{change_of, changed, effect, Goes as Leaves}
use Rattle.fv_model.specs.Machines.{Machine}
use Rattle.fv_model.specs.Refusals.{refusal}
use Rattle.fv_model.specs.Replies.{answer}
use Rattle.fv_image.specs.Held.{view_at}
use Rattle.fv_image.specs.Views.{overheads}
use Rattle.fv_root.specs.declared.find.Found.{Found}
use Rattle.fv_root.specs.Finding.{root_found}
use Rattle.fv_store.specs.Held.{StandsOn}
use Rattle.fv_container.specs.Chains.{IsLeafDamage, IsSlots, KeepsMaps, Slots, TellsEntries, container_at, own_entry}
use Rattle.fv_container.proofs.Changing.{maps_same}
use Rattle.fv_container.proofs.Damage.{none_damaged}
use Rattle.fv_pool.specs.declared.fault.VolumeFault.{VolumeFault}
use Rattle.fv_pool.specs.declared.fault.VolumeFault.TheVariants as volume
use Rattle.fv_pool.specs.declared.pool.Pool.{Pool}
use Rattle.fv_pool.specs.BlocksOver.{HasShapeOf, LeavesPool}
use Rattle.fv_pool.specs.Calls.{Reads}
use Rattle.fv_pool.specs.Causes.{HasVolumeCause}
use Rattle.fv_laws.proofs.Changes.{itself, same_name}
use Rattle.fv_model.specs.Spelling.{is_same_name}
use Rattle.fv_volume.specs.declared.state.VolumeState.{VolumeState}
use Rattle.fv_volume.specs.Files.{AreNamed}
use Rattle.fv_volume.specs.Slots.{is_named}
use Rattle.fv_volume.specs.States.{States, state_at}
use Rattle.fv_volumes.specs.Destroying.{Destroys, IsSaid}
use Rattle.fv_volumes.specs.Footing.{is_stood_on}
use Rattle.fv_volumes.proofs.Made.{to_pair}
use Rattle.fv_cp.specs.Held.{machine_held}
use Rattle.fv_cp.specs.Lent.{blocks_asked, FitTogether}
use Rattle.fv_cp.proofs.CameIn.{lent_clean}
use Rattle.fv_bits.specs.Members.{is_member}
use Rattle.fv_aggmap.specs.Space.{Space}
use Rattle.fv_aggregate.specs.declared.fault.Fault.{Fault}
use Rattle.fv_aggregate.specs.declared.fault.Fault.TheVariants.{DiskFault, Damaged, Memory}
use Rattle.fv_aggregate.specs.declared.session.Session.{Session}
use Rattle.fv_aggregate.specs.Applying.{HasApplied}
use Rattle.fv_aggregate.specs.Calls.{Goes, GoesFor, HasLostLeaf, IsForWant, IsPlain, IsUntouched, KeepsAsking, Removes}
use Rattle.fv_aggregate.proofs.Decided.{undecided}
use Rattle.fv_aggregate.specs.Commands.{asked_by, AsksLeaves, is_built, is_refusal, machine_after, room_by, slot_named, Replies}
use Rattle.fv_aggregate.specs.Known.{KeepsNumbersBut, MayLose}
use Rattle.fv_aggregate.specs.Looking.{done_as, Replied}
use Rattle.fv_aggregate.specs.Managing.{IsManaged}
use Rattle.fv_aggregate.specs.Reading.{WasRead}
use Rattle.fv_aggregate.specs.Removing.{HasRemoved}
use Rattle.fv_aggregate.specs.Standing.{IsWithoutFiles, StandsFor, StandsReady}
use Rattle.fv_aggregate.proofs.Applied.{no_files}
use Rattle.fv_aggregate.proofs.Applying.{not_dead}
use Rattle.fv_aggregate.proofs.Asked.{answer_allows}
use Rattle.fv_aggregate.proofs.CallEnds.{goes_broken, goes_damaged, goes_done, goes_for_broken, goes_for_done, goes_for_fault, goes_wanting}
use Rattle.fv_aggregate.proofs.Having.{contents, has_volumes}
use Rattle.fv_aggregate.proofs.Keeping.{gone_keeps}
use Rattle.fv_aggregate.proofs.LeftByCalls.{left_untouched}
use Rattle.fv_aggregate.proofs.Looked.{asks_read, stands_for_read, stands_read, was_read}
use Rattle.fv_aggregate.proofs.MadeRoom.{managed_room, none_roomy}
use Rattle.fv_aggregate.proofs.Managed.{after_built, replies_built}
use Rattle.fv_aggregate.proofs.Missing.{refused_allows, refused_next}
use Rattle.fv_aggregate.proofs.Removing.{asked_without, files_without, stands_for_without, stands_without}
use Rattle.fv_aggregate.proofs.Returned.{as_told}

-- What a removal does, by its answer.
pub record IsDropped {D : Type 0} (d : Shown) (at : D) (s : Session) (name : List ℕ) (e : Shown) (left : D) (n : Session) (r : Result Reply Fault) : Type 0 where
  pub goes : Goes 0 (AsksLeaves (slot_named s.volumes name)) d s e n r
  pub asks : KeepsAsking 0 d s e n
  pub goes_for : IsTrue d.tells → (last m : Machine) → StandsFor d s last m → GoesFor d last m (machine_after m (VolDestroy name)) e n r
  pub reply : (last m : Machine) → StandsFor d s last m → IfOk r (Replies m (VolDestroy name))
  pub damage : IfErr r (IsForWant d s e n)
  pub managed : IfOk r (IsManaged (TellsEntries d s.pool.containers) s (VolDestroy name) name n)
  pub undone : OnErr r (WasRead d s e (record n { failed = s.failed }))
  pub files : IsWithoutFiles s → OnOk r (IsWithoutFiles n)
  pub numbers : KeepsNumbersBut (MayLose (VolDestroy name) s.volumes) s.volumes n.volumes

-- ---- by what the volumes answered

refused_done : (r : Refusal) → Refused r ≡ Done → ⊥
refused_done r e = cc

no_stat : (name : List ℕ) → VolDestroy name ≡ VolStat name → ⊥
no_stat name e = cc

same_refusal : (r q : Refusal) → ◌≡◌ {A = Result Unit VolumeFault} (Err (volume.Refused r)) (Err (volume.Refused q)) → r ≡ q
same_refusal r q e = cc

module _ {D : Type 0} (d e : Shown) (laws : IsDisk d) (at left : D) (s : Session) (fit : FitTogether s.pool s.volumes) (few : IsSlots s.pool.containers) (fresh : IsNone s.failed) (stands : StandsReady d s) (name : List ℕ) (new : States) (pool : Pool) (only : OnlyReads d e) (cache : StandsOn e pool.store.pairs) where
  abbrev removal : Command
  removal = VolDestroy name

  abbrev mid : Session
  mid = record s { volumes = new; pool = pool }

  -- what the machine says of it
  said : (r : Result Unit VolumeFault) → Destroys d s.volumes s.pool name new pool r → (last m : Machine) → StandsFor d s last m → IsSaid (refusal m removal) r
  said r did last m is = subst (λ (k : Machine). IsSaid (refusal k removal) r) is.machine
      (did.agrees is.held.footed is.held.names (contents d s.pool s.volumes fit.housed.long last is.held) s.pool.found.blocks (machine_held d s.pool s.volumes) (has_volumes d s.pool s.volumes fit.housed.long last is.held))

  -- ---- it is gone

  -- no clone stands on the volume that went: it was the first of its name
  gone_unused : (u : Unit {0}) → (did : Destroys d s.volumes s.pool name new pool (Ok u)) → AreNamed s.volumes → is_stood_on s.volumes did.done.slot ≡ false
  gone_unused u did names = did.unused did.done.slot (record {
    named = ap (λ (o : Option VolumeState). is_named o name) did.done.there ∙ ap (λ (n : List ℕ). is_same_name n name) did.done.named ∙ itself name;
    first = λ k low. by k low (state_at s.volumes k) refl;
  })
    where
      by : (k : ℕ) → k < did.done.slot → (o : Option VolumeState) → state_at s.volumes k ≡ o → is_named o name ≡ false
      by k low None there = refl
      by k low (Some y) there = so (is_same_name y.name name) refl
        where
          so : (b : Bool) → is_same_name y.name name ≡ b → is_same_name y.name name ≡ false
          so false isnt = isnt
          so true same =
              let one : k ≡ did.done.slot = to_pair s.volumes names k did.done.slot y did.done.state there did.done.there (same_name y.name name same ∙ sym did.done.named) in
              absurd (omega (arith, low, one))

  dropped_done : (u : Unit {0}) → e.faults ≡ d.faults → Destroys d s.volumes s.pool name new pool (Ok u) → IsDropped d at s name e left mid (Ok Done)
  unfolding is_built answer change_of
  dropped_done u calm did = record {
    goes = goes_done d e laws s mid 0 only fresh fresh ready Done calm (omega arith) (λ tells. did.done.gone.found);
    asks = λ tells kept asks none. record { asked = omega (arith, fewer, named, asks.asked); pending = omega (arith, asks.pending) };
    goes_for = λ tells last m is. subst (λ (k : Machine). GoesFor d last m k e mid (Ok Done))
        (sym (after_built m removal refl ∙ ap (λ (o : Option Refusal). cond (is_some o) m (effect m removal)) (said (Ok u) did last m is)))
        (goes_for_done d e laws s mid 0 only fresh fresh ready Done last m (changed m (Leaves name)) is (stands_for_without d s fit name new pool did.done e only cache (gone_unused u did is.held.names) last m is));
    reply = λ last m is. replies_built m removal Done refl (answer_allows m removal Done (said (Ok u) did last m is) refl refl);
    damage = tt;
    managed = record {
      far = λ out. absurd (true≢false out);
      missing = λ near none. absurd (done_failed (did.missing none));
      told = λ is. absurd (no_stat name is);
      removed = λ is slot small has unused. refl;
      in_use = λ is slot small has used. absurd (done_used (did.in_use slot small has used));
      answered = λ other. inl refl;
      done = λ is. did.done;
      stays = λ is. absurd (no_stat name is);
      rest = refl;
    };
    undone = tt;
    files = files_without d s fit name new pool did.done e only cache;
    numbers = gone_keeps d s name new pool (Ok u) fit.housed.long did;
  }
    where
      ready : StandsReady e mid
      ready = stands_without d s fit name new pool did.done e only cache stands

      done_failed : ◌≡◌ {A = Result Unit VolumeFault} (Ok u) (Err (volume.Refused NoVolume)) → ⊥
      done_failed is = cc

      done_used : ◌≡◌ {A = Result Unit VolumeFault} (Ok u) (Err (volume.Refused VolumeInUse)) → ⊥
      done_used is = cc

      fewer : blocks_asked new ≤ blocks_asked s.volumes
      fewer = asked_without d s fit name new pool did.done e only cache

      named : overheads (view_at (root_found pool.found) e.reads) ≡ overheads (view_at (root_found s.pool.found) d.reads)
      named = ap (λ (f : Found). overheads (view_at (root_found f) e.reads)) did.done.gone.found ∙ ap (λ (i : Image). overheads (view_at (root_found s.pool.found) i)) only.stays.reads

  -- ---- it isn't

  module _ (leaves : LeavesPool s.pool pool) where
    abbrev now : Session
    now = record s { pool = pool }

    reads : Reads d s.pool e pool
    reads = record { leaves = leaves; only_reads = only; stands = cache }

    ready_now : StandsReady e now
    ready_now = stands_read d e s pool reads stands

    -- the machine stays as it was, where it says that it isn't
    kept : (last m : Machine) → StandsFor d s last m → StandsFor e now last m
    kept last m is = stands_for_read d e s pool reads last m is

    -- it is refused
    dropped_refused : (r : Refusal) → e.faults ≡ d.faults → Destroys d s.volumes s.pool name new pool (Err (volume.Refused r)) → IsDropped d at s name e left now (Ok (Refused r))
    unfolding is_built
    dropped_refused r calm did = record {
      goes = goes_done d e laws s now 0 only fresh fresh ready_now (Refused r) calm (omega arith) (λ tells. leaves.found);
      asks = asks_read d e s pool reads;
      goes_for = λ tells last m is. subst (λ (k : Machine). GoesFor d last m k e now (Ok (Refused r))) (sym (after_built m removal refl ∙ refused_next m removal r (said (Err (volume.Refused r)) did last m is)))
          (goes_for_done d e laws s now 0 only fresh fresh ready_now (Refused r) last m m is (kept last m is));
      reply = λ last m is. replies_built m removal (Refused r) refl (refused_allows m removal r (said (Err (volume.Refused r)) did last m is));
      damage = tt;
      managed = record {
        far = λ out. absurd (true≢false out);
        missing = λ near none. ap Refused (same_refusal r NoVolume (did.missing none));
        told = λ is. absurd (no_stat name is);
        removed = λ is slot small has unused. absurd (did.there slot small has unused r refl);
        in_use = λ is slot small has used. ap Refused (same_refusal r VolumeInUse (did.in_use slot small has used));
        answered = λ other. inr refl;
        done = λ is. absurd (refused_done r is);
        stays = λ is. absurd (no_stat name is);
        rest = refl;
      };
      undone = tt;
      files = λ without. files_read without;
      numbers = numbers_kept;
    }
      where
        files_read : IsWithoutFiles s → IsWithoutFiles now
        files_read without = record { none = without.none; taken = subst (λ (m : Space). (b : ℕ) → is_member m.next b ≡ true → is_member m.committed b ≡ true) (sym leaves.map) without.taken }

        numbers_kept : KeepsNumbersBut (MayLose removal s.volumes) s.volumes s.volumes
        numbers_kept = subst (KeepsNumbersBut (MayLose removal s.volumes) s.volumes) did.stays.0 (gone_keeps d s name new pool (Err (volume.Refused r)) fit.housed.long did)

    -- a read failed
    dropped_broken : (o : Option ℕ) → Rose d.faults e.faults → (Rose e.write_faults e.write_faults → o ≡ Some e.faults) → ((Rose e.write_faults e.write_faults → ⊥) → IsNone o)
        → Destroys d s.volumes s.pool name new pool (Err volume.DiskFault) → IsDropped d at s name e left (record now { failed = o }) (Err DiskFault)
    dropped_broken o rose written unwritten did = record {
      goes = goes_broken d e laws s now 0 only fresh fresh ready_now o rose written unwritten (omega arith);
      asks = λ tells kept asks none. let still = asks_read d e s pool reads tells kept asks fresh in record { asked = still.asked; pending = still.pending };
      goes_for = λ tells last m is. goes_for_broken d e laws s now 0 only fresh fresh ready_now o last m (machine_after m removal) is (kept last m is);
      reply = λ last m is. tt;
      damage = tt;
      managed = tt;
      undone = was_read d e s pool reads;
      files = λ without. tt;
      numbers = subst (KeepsNumbersBut (MayLose removal s.volumes) s.volumes) did.stays.0 (gone_keeps d s name new pool (Err volume.DiskFault) fit.housed.long did);
    }

    -- a leaf isn't there
    dropped_damaged : (a w f : ℕ) → e.faults ≡ d.faults → Destroys d s.volumes s.pool name new pool (Err (volume.Damaged a w f)) → IsDropped d at s name e left now (Err (Damaged a w f))
    dropped_damaged a w f calm did = record {
      goes = goes_damaged d e laws s now 0 only fresh fresh ready_now a w f calm (inl (only, inl (inr (inr (inl ((slot_named s.volumes name, inl refl), lost)))))) (omega arith);
      asks = asks_read d e s pool reads;
      goes_for = λ tells last m is. absurd (whole tells last m is);
      reply = λ last m is. tt;
      damage = (only, inr (inr lost));
      managed = tt;
      undone = was_read d e s pool reads;
      files = λ without. tt;
      numbers = subst (KeepsNumbersBut (MayLose removal s.volumes) s.volumes) did.stays.0 (gone_keeps d s name new pool (Err (volume.Damaged a w f)) fit.housed.long did);
    }
      where
        lost : HasLostLeaf e s now a w f
        lost = record {
          fresh = fresh;
          leaf = λ tells. subst (λ (i : Image). IsLeafDamage i s.pool.containers a w f) (sym only.stays.reads) (did.fails (subst IsTrue only.stays.tells tells));
          root = leaves.found;
          version = leaves.version;
          committed = ap (λ (m : Space). m.committed) leaves.map;
          shapes = λ k. subst (λ (c : Slots). HasShapeOf (container_at s.pool.containers k) (container_at c k)) (sym leaves.containers) (record { there = refl; count = refl; tree = refl });
          parents = ap (λ (c : Slots). c.parents) leaves.containers;
          placed = λ k v. inl (ap (λ (c : Slots). own_entry (container_at c k) v) leaves.containers);
          others = λ k. refl;
          rest = λ k none. (refl, ap (λ (c : Slots). container_at c k) leaves.containers);
          parts = refl;
          same = λ none. (record { map = leaves.map; kept = leaves.kept; found = leaves.found; version = leaves.version; containers = subst (KeepsMaps e s.pool.containers) (sym leaves.containers) (maps_same e s.pool.containers) }, refl);
        }

        whole : IsTrue d.tells → (last m : Machine) → StandsFor d s last m → ⊥
        whole tells last m is = none_damaged d.reads s.pool.containers a w f (lent_clean d.reads s.pool.found s.volumes s.pool.containers few fit.housed is.held.slots) (did.fails tells)

    -- memory ran out
    dropped_wanting : e.faults ≡ d.faults → Destroys d s.volumes s.pool name new pool (Err volume.Memory) → IsDropped d at s name e left now (Err Memory)
    dropped_wanting calm did = record {
      goes = goes_wanting d e laws s now 0 only fresh fresh ready_now calm (omega arith);
      asks = asks_read d e s pool reads;
      goes_for = λ tells last m is. goes_for_fault d e laws s now 0 only fresh fresh ready_now Memory last m (machine_after m removal) tt is (kept last m is);
      reply = λ last m is. tt;
      damage = tt;
      managed = tt;
      undone = was_read d e s pool reads;
      files = λ without. tt;
      numbers = subst (KeepsNumbersBut (MayLose removal s.volumes) s.volumes) did.stays.0 (gone_keeps d s name new pool (Err volume.Memory) fit.housed.long did);
    }

  -- ---- whatever was answered

  -- nothing changed but the cache where it failed
  as_kept : (P : Session → Type 0) → new ≡ s.volumes → P (record s { pool = pool }) → P mid
  as_kept P same holds = subst (λ (v : States). P (record s { volumes = v; pool = pool })) (sym same) holds

  pub dropped_by : (r : Result Unit VolumeFault) → Destroys d s.volumes s.pool name new pool r → HasVolumeCause d.faults e.faults r → (n : Session) (result : Result Reply Fault) → Replied e (done_as r) mid n result → IsDropped d at s name e left n result
  dropped_by (Ok u) did cause n result is = as_told (λ (k : Session) (y : Result Reply Fault). IsDropped d at s name e left k y) n mid result (Ok Done) is.1 is.0 (dropped_done u cause did)
  dropped_by (Err (volume.Refused r)) did cause n result is = as_told (λ (k : Session) (y : Result Reply Fault). IsDropped d at s name e left k y) n mid result (Ok (Refused r)) is.1 is.0
      (as_kept (λ (k : Session). IsDropped d at s name e left k (Ok (Refused r))) did.stays.0 (dropped_refused did.stays.1 r cause did))
  dropped_by (Err volume.DiskFault) did cause n result b = as_told (λ (k : Session) (y : Result Reply Fault). IsDropped d at s name e left k y) n (record mid { failed = n.failed }) result (Err DiskFault) b.1.1.1.same (b.1.0 ∙ ap (λ (g : Fault). Err g) b.1.1.0)
      (subst (λ (v : States). IsDropped d at s name e left (record s { volumes = v; pool = pool; failed = n.failed }) (Err DiskFault)) (sym did.stays.0)
      (dropped_broken did.stays.1 n.failed cause b.1.1.1.written b.1.1.1.unwritten did))
  dropped_by (Err (volume.Damaged a w f)) did cause n result b = as_told (λ (k : Session) (y : Result Reply Fault). IsDropped d at s name e left k y) n mid result (Err (Damaged a w f)) b.1.1.1 (b.1.0 ∙ ap (λ (g : Fault). Err g) b.1.1.0)
      (as_kept (λ (k : Session). IsDropped d at s name e left k (Err (Damaged a w f))) did.stays.0 (dropped_damaged did.stays.1 a w f cause did))
  dropped_by (Err volume.Memory) did cause n result b = as_told (λ (k : Session) (y : Result Reply Fault). IsDropped d at s name e left k y) n mid result (Err Memory) b.1.1.1 (b.1.0 ∙ ap (λ (g : Fault). Err g) b.1.1.0)
      (as_kept (λ (k : Session). IsDropped d at s name e left k (Err Memory)) did.stays.0 (dropped_wanting did.stays.1 cause did))

-- ---- refused, it leaves all as it was

pub untouched_by : {D : Type 0} (d e : Shown) (at left : D) (s : Session) (name : List ℕ) (new : States) (pool : Pool) (r : Result Unit VolumeFault) → Destroys d s.volumes s.pool name new pool r → IfErr r (λ fault. (w : Refusal) → fault ≡ volume.Refused w → (left ≡ at) × (pool ≡ s.pool))
    → (n : Session) (result : Result Reply Fault) → Replied e (done_as r) (record s { volumes = new; pool = pool }) n result → IfOk result (λ reply. IsTrue (is_refusal reply) → IsUntouched at s left n)
untouched_by d e at left s name new pool (Ok u) did still n result is = subst (λ (y : Result Reply Fault). IfOk y (λ reply. IsTrue (is_refusal reply) → IsUntouched at s left n)) (sym is.0) (λ refused. absurd (true≢false (sym refused)))
untouched_by d e at left s name new pool (Err (volume.Refused r)) did still n result is = subst (λ (y : Result Reply Fault). IfOk y (λ reply. IsTrue (is_refusal reply) → IsUntouched at s left n)) (sym is.0)
    (λ refused. let same = still r refl in (same.0, is.1 ∙ (λ j. record s { volumes = did.stays.0 j; pool = same.1 j })))
untouched_by d e at left s name new pool (Err volume.DiskFault) did still n result b = subst (λ (y : Result Reply Fault). IfOk y (λ reply. IsTrue (is_refusal reply) → IsUntouched at s left n)) (sym b.1.0) tt
untouched_by d e at left s name new pool (Err (volume.Damaged a w f)) did still n result b = subst (λ (y : Result Reply Fault). IfOk y (λ reply. IsTrue (is_refusal reply) → IsUntouched at s left n)) (sym b.1.0) tt
untouched_by d e at left s name new pool (Err volume.Memory) did still n result b = subst (λ (y : Result Reply Fault). IfOk y (λ reply. IsTrue (is_refusal reply) → IsUntouched at s left n)) (sym b.1.0) tt

-- ---- as `apply` has it

destroy_same : (a b : List ℕ) → VolDestroy a ≡ VolDestroy b → a ≡ b
destroy_same a b e = cc

no_list : (name : List ℕ) → VolDestroy name ≡ VolList → ⊥
no_list name e = cc

no_point : (name : List ℕ) → VolDestroy name ≡ Cp → ⊥
no_point name e = cc

no_names : (name other : List ℕ) → VolDestroy name ≡ SnapList other → ⊥
no_names name other e = cc

none_snapped : (v : List ℕ) → ◌≡◌ {A = Option (List ℕ)} None (Some v) → ⊥
none_snapped v e = cc

no_step : (r : Result Reply Fault) (n : ℕ) → OnOk r (n ≡ n)
no_step (Ok y) n = refl
no_step (Err f) n = tt

module _ {D : Type 0} (name : List ℕ) (d e : Shown) (at left : D) (s n : Session) (r : Result Reply Fault) where
  dropped_plain : IsDropped d at s name e left n r → OnlyReads d e → IfOk r (λ reply. IsTrue (is_refusal reply) → IsUntouched at s left n) → IsPlain (VolDestroy name) d at s e left n r
  unfolding is_built
  dropped_plain did only refused = record {
    refused = refused;
    calm = λ other once idle few. absurd (true≢false idle);
    idle = λ other once stays. absurd (true≢false stays);
    map = λ other once stays places few. absurd (true≢false stays);
    wanting = λ other once idle few. absurd (true≢false idle);
    damage = λ once. did.damage;
    unbuilt = λ fresh none. absurd (true≢false none);
    listed = λ list. absurd (no_list name list);
    untouched = λ list. absurd (no_list name list);
    pointed = λ cp. absurd (no_point name cp);
    unpointed = λ cp. absurd (no_point name cp);
    managed = λ fresh v of stays. absurd (true≢false stays);
    removed = λ fresh v is. subst (λ (k : List ℕ). Removes d s k e n r) (destroy_same name v is) (record { managed = did.managed; undone = did.undone; only_reads = only });
    snapped = λ fresh v of. absurd (none_snapped v of);
    snapshots = λ fresh v is. absurd (no_names name v is);
    made = undecided s.volumes s.pool.found.blocks (VolDestroy name) refl r;
  }

  dropped_applied : IsNone s.failed → (steps : ℕ) → IsDropped d at s name e left n r → OnlyReads d e → IfOk r (λ reply. IsTrue (is_refusal reply) → IsUntouched at s left n) → HasApplied (VolDestroy name) d at s steps e left n steps r
  unfolding asked_by
  dropped_applied fresh steps did only refused = record {
    goes = subst (λ (k : ℕ). Goes k (AsksLeaves (slot_named s.volumes name)) d s e n r) (sym (managed_room _ _ _ _ (VolDestroy name) (inl refl))) did.goes;
    asks = λ calm once. subst (λ (k : ℕ). KeepsAsking k d s e n) (sym (managed_room _ _ _ _ (VolDestroy name) (inl refl))) did.asks;
    goes_for = did.goes_for;
    reply = λ tells last m held. did.reply last m held;
    plain = λ plain. dropped_plain did only refused;
    on_files = λ files. absurd (true≢false (sym files ∙ no_files (VolDestroy name) refl refl));
    point = λ tells last m held cp. absurd (no_point name cp);
    sides = λ tells last m held cp. absurd (no_point name cp);
    roomy = λ once. none_roomy (room_by s.volumes (VolDestroy name)) d s e r (managed_room _ _ _ _ (VolDestroy name) (inl refl));
    calm = λ other once few. only;
    entries = λ other once few stays. absurd (true≢false stays);
    files = λ tells none once without. did.files without;
    same = λ tells none once stays. absurd (true≢false stays);
    stepped = λ takes. absurd (true≢false (sym takes));
    left = λ tells last m held bare. left_untouched (VolDestroy name) d s e n at left (λ same. only) refl r refused bare;
    steps = record { other = λ none. refl; known = λ tells last m held knows. no_step r steps; path = λ tells last m held other of. absurd (none_snapped other of); dead = λ failed. refl };
    numbers = λ alive. did.numbers;
    dead = λ failed. not_dead _ s fresh failed;
  }

-- So it is as commands are applied.
pub removed_applied : {D : Type 0} (name : List ℕ) (c : Command) → c ≡ VolDestroy name → (d e : Shown) → IsDisk d → (at left : D) (s : Session) → FitTogether s.pool s.volumes → IsNone s.failed → StandsReady d s
    → (steps : ℕ) (n : Session) (r : Result Reply Fault) → HasRemoved d at s name e left n r → HasApplied c d at s steps e left n steps r
removed_applied name c is d e laws at left s fit fresh stands steps n r did =
    let dropped = dropped_by d e laws at left s fit did.few fresh stands name did.mid.volumes did.mid.pool did.only_reads did.stands did.made did.answers did.cause n r
    (subst (λ (k : Session). Replied e (done_as did.made) k n r) did.rest did.replied) in
    subst (λ (k : Command). HasApplied k d at s steps e left n steps r) (sym is) (dropped_applied name d e at left s n r fresh steps dropped did.only_reads did.refused)
