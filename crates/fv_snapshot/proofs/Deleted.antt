-- A snapshot is removed, or not.
use Rattle.std.proofs.Common.{◌≡◌, ℕ, zero, suc, ◌+◌, ◌<◌, ◌≤◌, Bool, true, false, cond, List, [], ◌∷◌, ◌++◌, length, take, drop, Option, Some, None, Ok, Err, inl, inr, is_some, is_none, refl, sym, ap, ap₂, subst, ◌∙◌, arith}
use Rattle.std.specs.Prelude.{slice_index_or}
use Rattle.std.specs.FinMap as fin
use Rattle.fv_disk.specs.Shown.{Shown as Disk}
use Rattle.std.proofs.lemmas.Bool.{true≢false}
use Rattle.fv_model.specs.Numbers.{most_snapshots}
use Rattle.fv_model.specs.declared.answers.Refusal.{Refusal}
use Rattle.fv_model.specs.declared.answers.Refusal.TheVariants.{NoSnapshot, SnapshotInUse}
use Rattle.fv_model.specs.declared.commands.Command.TheVariants.{SnapDelete}
use Rattle.fv_model.specs.Effects.{Becomes}
use Rattle.fv_model.specs.Machines.{Machine}
use Rattle.fv_model.specs.Refusals.{is_base, refusal}
use Rattle.fv_model.specs.Space.{use_of}
use Rattle.fv_model.specs.Tables.{Table}
use Rattle.fv_model.specs.Volumes.{Volume}
use Rattle.fv_laws.proofs.Release.{use_without_snapshot}
use Rattle.fv_charge.specs.declared.ledger.Ledger.{Ledger}
use Rattle.fv_charge.specs.Ledgers.{IsLedgerOf}
use Rattle.fv_volmap.specs.Slots.{IsVolume, stored_count}
use Rattle.fv_pool.specs.declared.fault.VolumeFault.{VolumeFault}
use Rattle.fv_pool.specs.declared.fault.VolumeFault.TheVariants.{Refused}
use Rattle.fv_pool.specs.declared.pool.Pool.{Pool}
use Rattle.fv_volume.specs.declared.state.Snap.{Snap}
use Rattle.fv_volume.specs.declared.state.VolumeState.{VolumeState}
use Rattle.fv_volume.specs.Asking.{snap_named}
use Rattle.fv_volume.specs.Files.{IsLabelled}
use Rattle.fv_volume.specs.Held.{IsHeldIn, IsPlaceFault, IsPlacedAs, MayFail}
use Rattle.fv_volume.specs.Loading.{IsCountOf}
use Rattle.fv_volume.specs.OneVolume.{volume_for, IsBooked, IsReady}
use Rattle.fv_volume.specs.Snaps.{without_snapshot}
use Rattle.fv_volume.specs.Snapshots.{FindsSnap}
use Rattle.fv_snapshot.specs.Deleting.{Deletes, HasStood}
use Rattle.fv_snapshot.proofs.Finding.{found_nowhere, found_there, found_within}
use Rattle.fv_volume.specs.States.{head_in}
use Rattle.fv_snapshot.proofs.Full.{few_snaps}
use Rattle.fv_snapshot.proofs.Judging.{delete_by, delete_change, none_found, some_found}
use Rattle.fv_snapshot.proofs.Placing.{never_refused, none_placed, place_changes, place_fails, placed_held}
use Rattle.fv_snapshot.proofs.Recounted.{counted_booked, recounted}
use Rattle.fv_snapshot.proofs.Removing.{left_of, slot_there}
use Rattle.fv_snapshot.proofs.Unsnapped as without

-- what stands at a place of a list stands there whatever is told past it
same_at : (snaps : List Snap) (at : ℕ) (a b : Snap) → at < length snaps → slice_index_or snaps at a ≡ slice_index_or snaps at b
same_at [] at a b within = absurd (omega (arith, within))
same_at (q ∷ qs) zero a b within = refl
same_at (q ∷ qs) (suc at) a b within = same_at qs at a b (omega (arith, within))

-- without one there are no more
fewer : (snaps : List Snap) (at : ℕ) → length (left_of at snaps) ≤ length snaps
fewer [] zero = omega arith
fewer [] (suc at) = omega arith
fewer (q ∷ qs) zero = omega arith
fewer (q ∷ qs) (suc at) = let rest = fewer qs at in omega (arith, rest)

-- so there are at most 24
pub few_left : (x a : VolumeState) (at n : ℕ) → IsLabelled x.slot x → a ≡ without_snapshot x at n → length a.snapshots ≤ most_snapshots
few_left x a at n labelled now =
    let few = few_snaps (head_in x) x.snapshots refl labelled.snapshots.slots in
    let less = fewer x.snapshots at in
    let next : suc at ≡ at + 1 = omega arith in
    let same : length a.snapshots ≡ length (left_of at x.snapshots) = ap (λ (z : VolumeState). length z.snapshots) now ∙ ap (λ (n : ℕ). length (take at x.snapshots ++ drop n x.snapshots)) (sym next) in
    omega (arith, few, less, same)

-- A snapshot that was found stands in a slot from 1 to 24, also where files were placed since.
pub index_slot : (d e : Disk) (p : Pool) (x : VolumeState) (name : List ℕ) (left : Pool) (mid : VolumeState) → IsPlacedAs d p x e left mid → (at : ℕ) → FindsSnap x.snapshots name (Some at) → (snaps : List Snap) → snaps ≡ mid.snapshots
    → (some : Snap) → (0 < (slice_index_or snaps at some).slot) × ((slice_index_or snaps at some).slot < stored_count)
index_slot d e p x name left mid placed at finds snaps same some =
    let its : FindsSnap mid.snapshots name (Some at) = subst (λ (l : List Snap). FindsSnap l name (Some at)) (sym (ap (λ (z : VolumeState). z.snapshots) placed.keeps)) finds in
    let bounds = slot_there mid.snapshots at some placed.ready.labelled.snapshots.slots.within (found_within name mid.snapshots at its) in
    subst (λ (l : List Snap). (0 < (slice_index_or l at some).slot) × ((slice_index_or l at some).slot < stored_count)) (sym same) (bounds.0, bounds.1)

module _ (d : Disk) (p : Pool) (x : VolumeState) (stood : Bool) (name : List ℕ) (ready : IsReady d p x) where
  -- no snapshot has the name,
  pub refused_deletes : FindsSnap x.snapshots name None → Deletes d p x stood name d p x (Err (Refused NoSnapshot))
  refused_deletes nowhere = record {
    changes = λ held. record {
      agrees = λ m has. delete_by m x.name (volume_for d p x) has.there name
          ∙ ap (λ (o : Option Table). cond (is_none o) (Some NoSnapshot) (cond (is_base m x.name name) (Some SnapshotInUse) None)) (none_found x name d p held.stands (found_nowhere name x.snapshots nowhere));
      becomes = tt;
      stays = refl;
    };
    done = tt;
    unused = tt;
    failed = none_placed d p x ready;
    refused = λ s e. (refl, refl);
    held = λ held. held;
    cause = refl;
    calm = tt;
    lost = record {
      lost = λ none. refl;
      used = λ some used. absurd (true≢false (sym some ∙ ap (λ (o : Option Snap). is_some o) (found_nowhere name x.snapshots nowhere)));
      only = λ r e. inl (refused_as r e, found_nowhere name x.snapshots nowhere);
    };
  }
    where
      refused_as : (r : Refusal) → ◌≡◌ {A = VolumeFault} (Refused NoSnapshot) (Refused r) → r ≡ NoSnapshot
      refused_as r e = cc

  -- one that was found is there
  never_lost : (at : ℕ) → FindsSnap x.snapshots name (Some at) → snap_named x.snapshots name ≡ None → ⊥
  never_lost at finds gone = true≢false (sym (found_there name x.snapshots at finds) ∙ ap (λ (o : Option Snap). is_some o) gone)

  isnt_none : (o : Option Table) → is_some o ≡ true → is_none o ≡ false
  isnt_none None is = absurd cc
  isnt_none (Some t) is = refl

  found_some : (at : ℕ) → FindsSnap x.snapshots name (Some at) → IsHeldIn d p x.slot x → is_some (fin.get (volume_for d p x).snapshots name) ≡ true
  found_some at finds held = by (snap_named x.snapshots name) refl (found_there name x.snapshots at finds)
    where
      by : (o : Option Snap) → snap_named x.snapshots name ≡ o → is_some o ≡ true → is_some (fin.get (volume_for d p x).snapshots name) ≡ true
      by None e is = absurd cc
      by (Some q) e is = some_found x name d p held.stands q e

  -- what each machine says where it is there
  said : (at : ℕ) → FindsSnap x.snapshots name (Some at) → IsHeldIn d p x.slot x → (m : Machine) → HasStood x.name (volume_for d p x) stood name m → refusal m (SnapDelete x.name name) ≡ cond stood (Some SnapshotInUse) None
  said at finds held m has =
      delete_by m x.name (volume_for d p x) has.there name
      ∙ ap₂ (λ (a b : Bool). cond a (Some NoSnapshot) (cond b (Some SnapshotInUse) None)) (isnt_none _ (found_some at finds held)) has.stands

  -- or a clone stands on it,
  pub used_deletes : stood ≡ true → (at : ℕ) → FindsSnap x.snapshots name (Some at) → Deletes d p x stood name d p x (Err (Refused SnapshotInUse))
  used_deletes used at finds = record {
    changes = λ held. record { agrees = λ m has. said at finds held m has ∙ ap (λ (b : Bool). cond b (Some SnapshotInUse) None) used; becomes = tt; stays = refl };
    done = tt;
    unused = tt;
    failed = none_placed d p x ready;
    refused = λ s e. (refl, refl);
    held = λ held. held;
    cause = refl;
    calm = tt;
    lost = record { lost = λ gone. absurd (never_lost at finds gone); used = λ some is. refl; only = λ r e. inr (refused_as r e, (found_there name x.snapshots at finds, used)) };
  }
    where
      refused_as : (r : Refusal) → ◌≡◌ {A = VolumeFault} (Refused SnapshotInUse) (Refused r) → r ≡ SnapshotInUse
      refused_as r e = cc

  module _ (free : stood ≡ false) (e : Disk) (left : Pool) (mid : VolumeState) (placed : IsPlacedAs d p x e left mid) where
    never_used : stood ≡ true → ⊥
    never_used used = true≢false (sym used ∙ free)

    -- or what changed of the files isn't placed,
    pub failed_deletes : (at : ℕ) → FindsSnap x.snapshots name (Some at) → (why : VolumeFault) → IsPlaceFault d e why → MayFail d p (Some x) why → Deletes d p x stood name e left mid (Err why)
    failed_deletes at finds why cause may = record {
      changes = λ held. place_changes _ (SnapDelete x.name name) x.name _ _ d e why cause (placed.volume held.stands);
      done = tt;
      unused = tt;
      failed = placed;
      refused = λ r is. absurd (never_refused d e why cause r is);
      held = placed_held d e p left x mid placed;
      cause = place_fails d e p x why cause may;
      calm = tt;
      lost = record { lost = λ gone. absurd (never_lost at finds gone); used = λ some used. absurd (never_used used); only = λ r is. absurd (never_refused d e why cause r is) };
    }

    module _ (none : mid.files ≡ None) (whole : IsVolume mid.map) (at : ℕ) (finds : FindsSnap x.snapshots name (Some at)) (some : Snap) (ledger : Ledger) where
      same_snaps : mid.snapshots ≡ x.snapshots
      same_snaps = ap (λ (z : VolumeState). z.snapshots) placed.keeps

      its : FindsSnap mid.snapshots name (Some at)
      its = subst (λ (snaps : List Snap). FindsSnap snaps name (Some at)) (sym same_snaps) finds

      within : at < length mid.snapshots
      within = found_within name mid.snapshots at its

      labelled : IsLabelled mid.slot mid
      labelled = placed.ready.labelled

      abbrev left_volume : VolumeState
      left_volume = without.y mid whole labelled at some within ledger

      abbrev slot : ℕ
      slot = (slice_index_or mid.snapshots at some).slot

      -- the volume as the calls leave it
      abbrev pub done : VolumeState
      done = record (without_snapshot mid at slot) { ledger = ledger }

      same : left_volume ≡ done
      same = ap (λ (n : ℕ). record mid { snapshots = take at mid.snapshots ++ drop n mid.snapshots; map = done.map; ledger = ledger; fresh = done.fresh; changed = true }) (let next : suc at ≡ at + 1 = omega arith in next)

      module _ (valid : IsVolume done.map) (counted : IsCountOf done ledger) where
        counted_left : IsCountOf left_volume ledger
        counted_left = subst (λ (z : VolumeState). IsCountOf z ledger) (sym same) counted

        few : length left_volume.snapshots ≤ most_snapshots
        few = few_snaps (head_in left_volume) left_volume.snapshots refl
            (without.unsnapped_labelled mid whole labelled at some within ledger (ap (λ (l : Ledger). l.span) counted_left.ledger_is)).snapshots.slots

        booked : IsBooked left_volume
        booked = counted_booked left_volume counted_left labelled.map labelled.span few

        pub done_ready : IsReady e left done
        done_ready = subst (IsReady e left) same (without.unsnapped_ready mid whole labelled at some within ledger e left booked placed.ready)

        module _ (held : IsHeldIn d p x.slot x) where
          slot_is : mid.slot ≡ x.slot
          slot_is = ap (λ (z : VolumeState). z.slot) placed.keeps

          there : IsHeldIn e left mid.slot mid
          there = subst (λ (s : ℕ). IsHeldIn e left s mid) (sym slot_is) (placed_held d e p left x mid placed held)

          after : volume_for e left left_volume ≡ record (volume_for d p x) { snapshots = fin.remove (volume_for d p x).snapshots name }
          after =
              without.unsnapped_volume mid whole labelled at some within ledger e left there none name its
              ∙ ap (λ (v : Volume). record v { snapshots = fin.remove v.snapshots name }) (placed.volume held.stands)

          right : IsLedgerOf (volume_for e left left_volume) ledger
          right = recounted e left left_volume none
              (without.root_now mid whole labelled at some within ledger e left there none) (without.kept_now mid whole labelled at some within ledger e left there none)
              (without.unsnapped_labelled mid whole labelled at some within ledger booked.span) valid
              (without.names_now mid whole labelled at some within ledger e left there none name its) (without.each_now mid whole labelled at some within ledger e left there none) ledger counted_left

          fits : ledger.charge ≤ mid.size
          fits =
              let less = use_without_snapshot (volume_for e left mid) name in
              let same_volume : use_of (volume_for e left left_volume) ≡ use_of (record (volume_for e left mid) { snapshots = fin.remove (volume_for e left mid).snapshots name }) =
              ap use_of (without.unsnapped_volume mid whole labelled at some within ledger e left there none name its) in
              let charged = right.charged in
              let was = there.stands.ledger.charged in
              let need_was = there.stands.ledger.needed in
              let nothing = there.ready.booked.need in
              let most = there.within in
              omega (arith, less, same_volume, charged, was, need_was, nothing, most)

          held_now : IsHeldIn e left mid.slot left_volume
          held_now = without.unsnapped_held mid whole labelled at some within ledger e left there none name its booked right fits

        -- or it is removed.
        pub done_deletes : e.faults ≡ d.faults → Deletes d p x stood name e left done (Ok tt)
        done_deletes calm = subst (λ (z : VolumeState). Deletes d p x stood name e left z (Ok tt)) same (record {
          changes = λ held. record {
            agrees = λ m has. said at finds held m has ∙ ap (λ (b : Bool). cond b (Some SnapshotInUse) None) free;
            becomes = λ m has. delete_change m x.name (volume_for d p x) has name ∙ ap (λ (v : Volume). Becomes x.name v) (sym (after held));
            stays = tt;
          };
          done = record { mid = mid; placed = placed; none = none; at = at; finds = finds; within = subst (λ (snaps : List Snap). at < length snaps) same_snaps within; snap = slice_index_or mid.snapshots at some; there = λ other. ap (λ (snaps : List Snap). slice_index_or snaps at other) (sym same_snaps) ∙ same_at mid.snapshots at other some within; ledger = ledger; counted = counted_left; now = same };
          unused = free;
          failed = tt;
          refused = tt;
          held = λ held. subst (λ (s : ℕ). IsHeldIn e left s left_volume) (slot_is held) (held_now held);
          cause = tt;
          calm = calm;
          lost = record { lost = λ gone. absurd (never_lost at finds gone); used = λ some used. absurd (never_used used); only = tt };
        })

    -- So the calls leave it.
    pub removed_deletes : e.faults ≡ d.faults → (none : mid.files ≡ None) (whole : IsVolume mid.map) (at : ℕ) (finds : FindsSnap x.snapshots name (Some at)) (some : Snap) (n : ℕ) → n ≡ (slice_index_or mid.snapshots at some).slot
        → (a new : VolumeState) → a ≡ without_snapshot mid at n → IsVolume a.map → IsCountOf a new.ledger → new ≡ record a { ledger = new.ledger }
        → Deletes d p x stood name e left new (Ok tt) × IsReady e left new
    removed_deletes calm none whole at finds some n there a new gone valid counted now =
        let ledger : Ledger = new.ledger in
        let left_is : a ≡ without_snapshot mid at (slice_index_or mid.snapshots at some).slot = gone ∙ ap (without_snapshot mid at) there in
        let same : new ≡ done none whole at finds some ledger = now ∙ ap (λ (z : VolumeState). record z { ledger = ledger }) left_is in
        let right = subst (λ (z : VolumeState). IsCountOf z ledger) left_is counted in
        let is = subst (λ (z : VolumeState). IsVolume z.map) left_is valid in
        subst (λ (z : VolumeState). Deletes d p x stood name e left z (Ok tt) × IsReady e left z) (sym same) (done_deletes none whole at finds some ledger is right calm, done_ready none whole at finds some ledger is right)
