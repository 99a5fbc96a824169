-- A snapshot is made, or not.
use Rattle.std.proofs.Common.{◌≡◌, ℕ, ◌+◌, ◌<◌, ◌≤◌, true, false, get_or, ⊎_elim, List, Option, Some, None, Result, Ok, Err, OnErr, OnOk, is_some, refl, sym, ap, subst, ◌∙◌, arith}
use Rattle.std.specs.Prelude.{IfErr}
use Rattle.std.proofs.lemmas.Bool.{cases_lt, true≢false}
use Rattle.fv_disk.specs.Shown.{Shown as Disk}
use Rattle.fv_model.specs.declared.answers.Refusal.{Refusal}
use Rattle.fv_model.specs.declared.commands.Command.TheVariants.{SnapCreate}
use Rattle.fv_model.specs.Effects.{Becomes}
use Rattle.fv_model.specs.Space.{map_blocks}
use Rattle.fv_model.specs.Spelling.{is_name}
use Rattle.fv_model.specs.Volumes.{Volume}
use Rattle.std.specs.FinMap as fin
use Rattle.fv_image.specs.Views.{Snap as HeadSnap}
use Rattle.fv_volmap.specs.Slots.{IsVolume, slot_at}
use Rattle.fv_pool.specs.declared.fault.VolumeFault.{VolumeFault}
use Rattle.fv_pool.specs.declared.fault.VolumeFault.TheVariants.{Refused, Memory}
use Rattle.fv_pool.specs.declared.pool.Pool.{Pool}
use Rattle.fv_volume.specs.declared.state.Snap.{Snap}
use Rattle.fv_volume.specs.declared.state.VolumeState.{VolumeState}
use Rattle.fv_volume.specs.Asking.{snap_named}
use Rattle.fv_volume.specs.Calls.{Changes, HasBeside}
use Rattle.fv_volume.specs.Held.{IsHeldIn, IsPlaceFault, IsPlacedAs, MayFail}
use Rattle.fv_volume.specs.OneVolume.{blocks_in, table_for, volume_for, IsReady}
use Rattle.fv_volume.specs.Promising.{CanHave}
use Rattle.fv_volume.specs.Snaps.{with_snapshot}
use Rattle.fv_volume.specs.Snapshots.{IsLeastFree}
use Rattle.fv_volume.specs.States.{head_in}
use Rattle.fv_volume.proofs.MapSlots.{is_free}
use Rattle.fv_volume.proofs.SnapSlots.{least_is_free}
use Rattle.fv_snapshot.specs.Creating.{content_by, Creates, IsGranted, JudgesCreation, TellsCreation}
use Rattle.fv_snapshot.proofs.Judging.{create_change}
use Rattle.fv_snapshot.proofs.Placing.{never_refused, none_placed, place_changes, place_fails, placed_held}
use Rattle.fv_snapshot.proofs.Snapped.{snapped_held, snapped_ready, snapped_volume}
use Rattle.fv_snapshot.proofs.Told.{distinct_told}

module _ (d : Disk) (p : Pool) (x : VolumeState) (others : ℕ) (name : List ℕ) (ready : IsReady d p x) where
  -- what it stands for it can hold
  can_have : IsHeldIn d p x.slot x → CanHave x (content_by (table_for d p x) (blocks_in d p x) x)
  can_have held = record { reserves = held.stands.reserves; ledger = held.stands.ledger }

  -- It is refused,
  pub refused_creates : (r : Refusal) → JudgesCreation x p.found.blocks others name (Err r) → Creates d p x others name d p x (Err (Refused r))
  refused_creates r judged =
      let changes : IsHeldIn d p x.slot x → Changes (HasBeside x.name (volume_for d p x) others p.found.blocks) (SnapCreate x.name name) x.name (volume_for d p x) (volume_for d p x) (Err (Refused r)) =
      λ held. record { agrees = λ m has. judged.agrees (table_for d p x) (blocks_in d p x) m (can_have held) (distinct_told x.snapshots held.stands.names) has; becomes = tt; stays = refl } in
      record { changes = changes; done = tt; failed = none_placed d p x ready; refused = λ s e. (refl, refl); held = λ held. held; cause = refl; calm = tt }

  module _ (e : Disk) (left : Pool) (mid : VolumeState) (placed : IsPlacedAs d p x e left mid) where
    -- or it isn't done, since what changed of the files isn't placed,
    pub failed_creates : (why : VolumeFault) → IsPlaceFault d e why → MayFail d p (Some x) why → Creates d p x others name e left mid (Err why)
    failed_creates why cause may = record {
      changes = λ held. place_changes _ (SnapCreate x.name name) x.name _ _ d e why cause (placed.volume held.stands);
      done = tt;
      failed = placed;
      refused = λ r is. absurd (never_refused d e why cause r is);
      held = placed_held d e p left x mid placed;
      cause = place_fails d e p x why cause may;
      calm = tt;
    }

    -- or memory ran out.
    pub lacking_creates : e.faults ≡ d.faults → Creates d p x others name e left mid (Err Memory)
    lacking_creates calm = record {
      changes = λ held. place_changes _ (SnapCreate x.name name) x.name _ _ d e Memory calm (placed.volume held.stands);
      done = tt;
      failed = placed;
      refused = λ r is. absurd (never_refused d e Memory calm r is);
      held = placed_held d e p left x mid placed;
      cause = calm;
      calm = tt;
    }

    module _ (none : mid.files ≡ None) (whole : IsVolume mid.map) (slot : ℕ) (granted : IsGranted x name slot) where
      same_snaps : mid.snapshots ≡ x.snapshots
      same_snaps = ap (λ (z : VolumeState). z.snapshots) placed.keeps

      free : IsLeastFree mid.snapshots slot
      free = subst (λ (snaps : List Snap). IsLeastFree snaps slot) (sym same_snaps) granted.free

      other : snap_named mid.snapshots name ≡ None
      other = ap (λ (snaps : List Snap). snap_named snaps name) same_snaps ∙ granted.none

      -- the slot is free in its maps
      pub slot_free : slot_at mid.map slot ≡ None
      slot_free = is_free (slot_at mid.map slot)
          (placed.ready.labelled.slots.each slot (let above = free.above in λ same. absurd (omega (arith, above, same))) (let low = free.stored in λ same. absurd (omega (arith, low, same)))
          ∙ ap (λ (o : Option HeadSnap). is_some o) (least_is_free (head_in mid) mid.snapshots slot refl free))

      fits : mid.ledger.charge + map_blocks mid.span ≤ mid.size
      fits =
          let was = granted.fits in
          let charge : mid.ledger.charge ≡ x.ledger.charge = ap (λ (z : VolumeState). z.ledger.charge) placed.keeps in
          let span : map_blocks mid.span ≡ map_blocks x.span = ap (λ (z : VolumeState). map_blocks z.span) placed.keeps in
          let size : mid.size ≡ x.size = ap (λ (z : VolumeState). z.size) placed.keeps in
          omega (arith, was, charge, span, size)

      module _ (named : is_name name ≡ true) where
        pub done_ready : IsReady e left (with_snapshot mid slot name)
        done_ready = snapped_ready mid whole slot free name placed.ready.labelled named e left fits placed.ready

        -- Else it is made.
        pub done_creates : e.faults ≡ d.faults → JudgesCreation x p.found.blocks others name (Ok slot) → Creates d p x others name e left (with_snapshot mid slot name) (Ok tt)
        done_creates calm judged = record {
          changes = λ held. record {
            agrees = λ m has. judged.agrees (table_for d p x) (blocks_in d p x) m (can_have held) (distinct_told x.snapshots held.stands.names) has;
            becomes = λ m has. create_change m x.name (volume_for d p x) has name ∙ ap (λ (v : Volume). Becomes x.name v) (sym (after held));
            stays = tt;
          };
          done = record { mid = mid; placed = placed; none = none; slot = slot; free = granted.free; now = refl };
          failed = tt;
          refused = tt;
          held = λ held. subst (λ (s : ℕ). IsHeldIn e left s (with_snapshot mid slot name)) at (snapped_held mid whole slot free name e left (there held) none other named fits);
          cause = tt;
          calm = calm;
        }
          where
            at : mid.slot ≡ x.slot
            at = ap (λ (z : VolumeState). z.slot) placed.keeps

            there : IsHeldIn d p x.slot x → IsHeldIn e left mid.slot mid
            there held = subst (λ (s : ℕ). IsHeldIn e left s mid) (sym at) (placed_held d e p left x mid placed held)

            after : IsHeldIn d p x.slot x → volume_for e left (with_snapshot mid slot name) ≡ record (volume_for d p x) { snapshots = fin.insert (volume_for d p x).snapshots name (volume_for d p x).active }
            after held =
                snapped_volume mid whole slot free name e left (there held) none other
                ∙ ap (λ (v : Volume). record v { snapshots = fin.insert v.snapshots name v.active }) (placed.volume held.stands)

        -- It is made exactly where there was memory for it.
        pub kept_creates : e.faults ≡ d.faults → JudgesCreation x p.found.blocks others name (Ok slot) → (y : VolumeState) (r : Result Unit VolumeFault) → OnOk r (y ≡ with_snapshot mid slot name) → OnErr r (y ≡ mid) → IfErr r (λ why. why ≡ Memory) → Creates d p x others name e left y r
        kept_creates calm judged y (Ok done) now failed fault = subst (λ (z : VolumeState). Creates d p x others name e left z (Ok done)) (sym now) (done_creates calm judged)
        kept_creates calm judged y (Err why) now failed fault =
            subst (λ (z : VolumeState). Creates d p x others name e left z (Err why)) (sym failed) (subst (λ (f : VolumeFault). Creates d p x others name e left mid (Err f)) (sym fault) (lacking_creates calm))

        pub kept_ready : (y : VolumeState) (r : Result Unit VolumeFault) → OnOk r (y ≡ with_snapshot mid slot name) → OnErr r (y ≡ mid) → IsReady e left y
        kept_ready y (Ok done) now failed = subst (IsReady e left) (sym now) done_ready
        kept_ready y (Err why) now failed = subst (IsReady e left) (sym failed) placed.ready

-- ---- what is known in memory

-- the least free slot is one
least_one : (snaps : List Snap) (a b : ℕ) → IsLeastFree snaps a → IsLeastFree snaps b → a ≡ b
least_one snaps a b one other = ⊎_elim
    (λ (low : a < b). absurd (true≢false (sym (other.first a one.above low) ∙ one.free)))
    (λ (high : b ≤ a). ⊎_elim
    (λ (low : b < a). absurd (true≢false (sym (one.first b other.above low) ∙ other.free)))
    (λ (up : a ≤ b). omega (arith, up, high))
    (cases_lt b a))
    (cases_lt a b)

module _ (p : Pool) (x : VolumeState) (others : ℕ) (name : List ℕ) where
  -- It is refused as it is judged,
  pub refused_tells : (r : Refusal) → JudgesCreation x p.found.blocks others name (Err r) → TellsCreation p x others name x (Err (Refused r))
  refused_tells r judged = record { judged = λ s e. sym judged.same ∙ ap (λ (k : Refusal). Some k) (same r s e); waits = tt }
    where
      same : (r s : Refusal) → Refused r ≡ Refused s → r ≡ s
      same r s e = cc

  -- and by nothing else.
  pub failed_tells : (y : VolumeState) (d e : Disk) (why : VolumeFault) → IsPlaceFault d e why → TellsCreation p x others name y (Err why)
  failed_tells y d e why cause = record { judged = λ r is. absurd (never_refused d e why cause r is); waits = tt }

  pub lacking_tells : (y : VolumeState) → TellsCreation p x others name y (Err Memory)
  lacking_tells y = record { judged = λ r is. absurd (isnt r is); waits = tt }
    where
      isnt : (r : Refusal) → Memory ≡ Refused r → ⊥
      isnt r is = cc

  -- The map that was kept waits.
  pub kept_tells : (slot : ℕ) → IsLeastFree x.snapshots slot → (y : VolumeState) (r : Result Unit VolumeFault) → OnOk r (get_or y.fresh slot false ≡ true) → IfErr r (λ e. e ≡ Memory) → TellsCreation p x others name y r
  kept_tells slot least y (Ok u) waits fault = record {
    judged = tt;
    waits = λ k its. ap (λ (n : ℕ). get_or y.fresh n false) (least_one x.snapshots k slot its least) ∙ waits;
  }
  kept_tells slot least y (Err e) waits fault = subst (λ (f : VolumeFault). TellsCreation p x others name y (Err f)) (sym fault) (lacking_tells y)
