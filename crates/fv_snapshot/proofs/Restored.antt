-- A snapshot's table is made the active one, or not.
use Rattle.std.proofs.Common.{◌≡◌, ℕ, ◌≤◌, cond, List, length, Option, Some, None, Ok, Err, is_none, refl, sym, ap, ap₂, subst, ◌∙◌, arith}
use Rattle.std.specs.Option.{option_map}
use Rattle.std.specs.FinMap as fin
use Rattle.fv_disk.specs.Shown.{Shown as Disk}
use Rattle.std.proofs.lemmas.Option.{none-some}
use Rattle.fv_pool.specs.declared.fault.VolumeFault.{VolumeFault}
use Rattle.fv_model.specs.declared.answers.Refusal.{Refusal}
use Rattle.fv_model.specs.declared.answers.Refusal.TheVariants.{NoSnapshot}
use Rattle.fv_model.specs.declared.commands.Command.TheVariants.{SnapRestore}
use Rattle.fv_model.specs.Effects.{Becomes}
use Rattle.fv_model.specs.Refusals.{first_of, space}
use Rattle.fv_model.specs.Space.{charge, need, use_of}
use Rattle.fv_model.specs.Tables.{Table}
use Rattle.fv_model.specs.Volumes.{Volume}
use Rattle.fv_laws.proofs.PathCharges.{no_need}
use Rattle.fv_laws.proofs.Snapshots.{restore_less}
use Rattle.fv_tables.specs.Told.{table_told}
use Rattle.fv_charge.specs.declared.ledger.Ledger.{Ledger}
use Rattle.fv_charge.specs.Ledgers.{IsLedgerOf}
use Rattle.fv_volmap.specs.Slots.{IsVolume, Volume as Maps, slot_at, with_slot}
use Rattle.fv_pool.specs.declared.fault.VolumeFault.TheVariants.{Refused}
use Rattle.fv_pool.specs.declared.pool.Pool.{Pool}
use Rattle.fv_volume.specs.declared.state.Snap.{Snap}
use Rattle.fv_volume.specs.declared.state.VolumeState.{VolumeState}
use Rattle.fv_volume.specs.declared.tables.TableAsked.TheVariants.{Kept}
use Rattle.fv_volume.specs.Asking.{snap_named, standing_of}
use Rattle.fv_volume.specs.Files.{IsLabelled}
use Rattle.fv_volume.specs.Held.{IsHeldIn}
use Rattle.fv_volume.specs.Loading.{IsCountOf}
use Rattle.fv_volume.specs.OneVolume.{blocks_in, standing_kept, volume_for, IsBooked, IsKeptTable, IsReady}
use Rattle.fv_volume.specs.Snaps.{turned_to}
use Rattle.fv_volume.specs.States.{head_in}
use Rattle.fv_volume.proofs.JudgedCut.{has_room}
use Rattle.fv_volume.proofs.SnapReads.{found_among, kept_told}
use Rattle.fv_volume.proofs.TablesOf.{snaps_all}
use Rattle.fv_model.specs.Spelling.{is_same_name}
use Rattle.fv_snapshot.specs.Restoring.{Restores}
use Rattle.fv_snapshot.proofs.Full.{few_snaps}
use Rattle.fv_snapshot.proofs.Judging.{found_is, none_found, restore_by, restore_change}
use Rattle.fv_snapshot.proofs.Recounted.{counted_booked, recounted}
use Rattle.fv_snapshot.proofs.Turned as turned

module _ (d : Disk) (p : Pool) (x : VolumeState) (others : ℕ) (name : List ℕ) where
  -- no snapshot has the name,
  pub refused_restores : snap_named x.snapshots name ≡ None → Restores d p x others name x (Err (Refused NoSnapshot))
  refused_restores none = record {
    changes = λ held. record {
      agrees = λ m has. restore_by m x.name (volume_for d p x) has.beside.there name
          ∙ ap (λ (o : Option Table). cond (is_none o) (Some NoSnapshot) (first_of (space m (SnapRestore x.name name) x.name))) (none_found x name d p held.stands none);
      becomes = tt;
      stays = refl;
    };
    done = tt;
    failed = refl;
    held = λ held. held;
    cause = refl;
    lost = record { lost = λ gone. refl; only = λ r e. (refused_as r e, none) };
  }
    where
      refused_as : (r : Refusal) → ◌≡◌ {A = VolumeFault} (Refused NoSnapshot) (Refused r) → r ≡ NoSnapshot
      refused_as r e = cc

  module _ (ready : IsReady d p x) (whole : IsVolume x.map) (q : Snap) (found : snap_named x.snapshots name ≡ Some q) (ledger : Ledger) where
    pub labelled : IsLabelled x.slot x
    labelled = ready.labelled

    abbrev pub done : VolumeState
    done = turned.y x whole labelled name q found ledger

    module _ (valid : IsVolume done.map) (counted : IsCountOf done ledger) where
      booked : IsBooked done
      booked = counted_booked done counted labelled.map labelled.span (few_snaps (head_in x) x.snapshots refl labelled.snapshots.slots)

      pub done_ready : IsReady d p done
      done_ready = turned.turned_ready x whole labelled name q found ledger d p booked ready

      module _ (held : IsHeldIn d p x.slot x) where
        abbrev table : Table
        table = table_told (standing_kept (blocks_in d p x) q)

        its : fin.get (volume_for d p x).snapshots name ≡ Some table
        its =
            found_is x name d p held.stands
            ∙ ap (λ (o : Option Snap). option_map table_told (option_map (standing_of d p x) (option_map (λ (q : Snap). Kept q.table) o))) found
            ∙ ap (λ (t : Table). Some t) (kept_told d p x q (found_among (IsKeptTable d p x) (λ (q : Snap). is_same_name name q.name) x.snapshots (snaps_all (IsKeptTable d p x) x held.stands.kept) q found))

        after : volume_for d p done ≡ record (volume_for d p x) { active = table }
        after = turned.turned_volume x whole labelled name q found ledger d p held.stands

        right : IsLedgerOf (volume_for d p done) ledger
        right = recounted d p done refl (turned.root_now x whole labelled name q found ledger d p held.stands) (turned.kept_now x whole labelled name q found ledger d p held.stands)
            (turned.turned_labelled x whole labelled name q found ledger booked.span) valid held.stands.names (turned.each_now x whole labelled name q found ledger d p held.stands) ledger counted

        less : use_of (record (volume_for d p x) { active = table }) ≤ use_of (volume_for d p x)
        less =
            let charged = restore_less (volume_for d p x) name table its in
            let nothing : need (record (volume_for d p x) { active = table }) ≡ 0 = no_need _ (turned.reserves_now x whole labelled name q found ledger d p held.stands) in
            omega (arith, charged, nothing)

        fits : ledger.charge ≤ x.size
        fits =
            let charged = restore_less (volume_for d p x) name table its in
            let now = right.charged in
            let same : charge (volume_for d p done) ≡ charge (record (volume_for d p x) { active = table }) = ap charge after in
            let was = held.stands.ledger.charged in
            let most = held.within in
            omega (arith, charged, now, same, was, most)

      -- or its table is the active one.
      pub done_restores : Restores d p x others name done (Ok tt)
      done_restores = record {
        changes = λ held. record {
          agrees = λ m has.
              restore_by m x.name (volume_for d p x) has.beside.there name
              ∙ ap (λ (o : Option Table). cond (is_none o) (Some NoSnapshot) (first_of (space m (SnapRestore x.name name) x.name))) (its held)
              ∙ has_room m (SnapRestore x.name name) x.name (volume_for d p x) (record (volume_for d p x) { active = table held }) others p.found.blocks has
              (restore_change m x.name (volume_for d p x) has.beside.there name (table held) (its held)) (record { kind = refl; size = refl; span = refl }) (less held);
          becomes = λ m has. restore_change m x.name (volume_for d p x) has name (table held) (its held) ∙ ap (λ (v : Volume). Becomes x.name v) (sym (after held));
          stays = tt;
        };
        done = record { snap = q; there = found; ledger = ledger; counted = counted; now = refl };
        failed = tt;
        held = λ held. turned.turned_held x whole labelled name q found ledger d p held.stands held booked (right held) (fits held);
        cause = tt;
        lost = record { lost = λ gone. absurd (none-some q (sym gone ∙ found)); only = tt };
      }

  -- So the calls leave it.
  pub turned_restores : (ready : IsReady d p x) (whole : IsVolume x.map) (q : Snap) (found : snap_named x.snapshots name ≡ Some q) (a : VolumeState) (m : Maps) (new : VolumeState) → a ≡ turned_to x q.table
      → m ≡ with_slot a.map 0 (slot_at a.map q.slot) → IsVolume m → IsCountOf (record a { map = m }) new.ledger → new ≡ record a { map = m; ledger = new.ledger }
      → Restores d p x others name new (Ok tt) × IsReady d p new
  turned_restores ready whole q found a m new turn moved valid counted now =
      let ledger : Ledger = new.ledger in
      let map_is : m ≡ with_slot x.map 0 (slot_at x.map q.slot) = moved ∙ ap (λ (z : VolumeState). with_slot z.map 0 (slot_at z.map q.slot)) turn in
      let same : new ≡ done ready whole q found ledger = now ∙ ap₂ (λ (z : VolumeState) (n : Maps). record z { map = n; ledger = ledger }) turn map_is in
      let right : IsCountOf (done ready whole q found ledger) ledger = subst (λ (z : VolumeState). IsCountOf z ledger) (ap₂ (λ (z : VolumeState) (n : Maps). record z { map = n; ledger = ledger }) turn map_is) counted in
      let is : IsVolume (with_slot x.map 0 (slot_at x.map q.slot)) = subst IsVolume map_is valid in
      subst (λ (z : VolumeState). Restores d p x others name z (Ok tt) × IsReady d p z) (sym same) (done_restores ready whole q found ledger is right, done_ready ready whole q found ledger is right)
