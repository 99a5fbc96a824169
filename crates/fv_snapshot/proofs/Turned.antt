-- A volume whose active table is that of one of its snapshots.
use Rattle.std.proofs.Common.{length, ◌≡◌, ◌≢◌, ℕ, ◌+◌, ◌<◌, ◌≤◌, true, List, [], ◌∷◌, map, inl, inr, Some, None, refl, sym, ap, ap₂, subst, ◌∙◌, ⊎_elim, arith, get_or-set_other, get_or-set_same}
use Rattle.std.specs.Prelude.{All, slice_index_or}
use Rattle.std.specs.FinMap as fin
use Rattle.std.proofs.lemmas.List.Elements.{All-head, All-tail}
use Rattle.fv_disk.specs.Shown.{Shown as Disk}
use Rattle.std.specs.FinSet as set
use Rattle.fv_model.specs.Space.{base_ids}
use Rattle.fv_model.specs.Spelling.{is_same_name, name_cmp}
use Rattle.fv_model.specs.Volumes.{Volume}
use Rattle.fv_laws.specs.Positions.{HasNoReserve}
use Rattle.fv_laws.proofs.Lists.{In, in_right}
use Rattle.fv_tables.specs.Spelled.{Under}
use Rattle.fv_tables.specs.Told.{standing_at, table_told}
use Rattle.fv_charge.specs.declared.ledger.Ledger.{Ledger}
use Rattle.fv_charge.specs.Ledgers.{IsLedgerOf}
use Rattle.fv_volmap.specs.Slots.{IsVolume, slot_at, slot_of_base, taken_in, with_slot}
use Rattle.fv_pool.specs.declared.pool.Pool.{Pool}
use Rattle.fv_volume.specs.declared.state.Snap.{Snap}
use Rattle.fv_volume.specs.declared.state.VolumeState.{VolumeState}
use Rattle.fv_volume.specs.Asking.{snap_named}
use Rattle.fv_volume.specs.Files.{IsLabelled}
use Rattle.fv_volume.specs.Held.{IsHeldIn}
use Rattle.fv_volume.specs.Labels.{label_said}
use Rattle.fv_pool.specs.Lending.{IsTold}
use Rattle.fv_volume.specs.OneVolume.{base_table, tables_of, blocks_in, snap_by, standing_kept, table_for, volume_as, volume_for, IsBooked, IsKeptTable, IsReady, IsStanding, RootStands}
use Rattle.fv_volume.specs.SnapRecords.{IsSayableSnap}
use Rattle.fv_volume.specs.Snaps.{turned_to}
use Rattle.fv_volume.specs.States.{head_in, snap_in, table_in}
use Rattle.fv_volume.proofs.ActiveRoot.{root_leads, root_standing, root_table, root_well}
use Rattle.fv_volume.proofs.EachRoot.{all_among, all_in}
use Rattle.fv_pool.proofs.Holding.{has_taken}
use Rattle.fv_volume.proofs.KeptReads.{each_sayable}
use Rattle.fv_volume.proofs.Labels.{label_turned}
use Rattle.fv_volume.proofs.SlotMoves.{blocks_move, less_told, root_moves, taken_set}
use Rattle.fv_volume.proofs.SnapReads.{found_among}
use Rattle.fv_volume.proofs.TablesOf.{snaps_all}
use Rattle.fv_volume.proofs.SnapSlots.{slots_turned}
use Rattle.fv_volume.proofs.AllRoots.{active_root, are_shared, base_told, kept_share, root_moved, roots, shares_again, EachShares, WasRoot}
use Rattle.fv_snapshot.proofs.Changed.{ready_again, relabelled}

module _ (x : VolumeState) (whole : IsVolume x.map) (labelled : IsLabelled x.slot x) (name : List ℕ) (q : Snap) (found : snap_named x.snapshots name ≡ Some q) (ledger : Ledger) where
  -- with the table of the snapshot
  abbrev pub y : VolumeState
  y = record (turned_to x q.table) { map = with_slot x.map 0 (slot_at x.map q.slot); ledger = ledger }

  -- the maps have slot 0
  long : 0 < length x.map.slots
  long = let count = whole.count in omega (arith, count)

  -- the active slot has what the snapshot's has,
  at_first : slot_at y.map 0 ≡ slot_at x.map q.slot
  at_first = get_or-set_same x.map.slots 0 (slot_at x.map q.slot) None long

  -- and each other has what it had
  at_other : (k : ℕ) → k ≢ 0 → slot_at y.map k ≡ slot_at x.map k
  at_other k other = get_or-set_other x.map.slots 0 k (slot_at x.map q.slot) None other

  -- that of the base, too
  at_base : slot_at y.map slot_of_base ≡ slot_at x.map slot_of_base
  at_base = at_other slot_of_base (λ same. absurd (omega (arith, same)))

  -- no more is held than before
  pub less : (v : ℕ) → taken_in y.map.slots v ≡ true → taken_in x.map.slots v ≡ true
  less v is = ⊎_elim (λ one. has_taken x.map.slots q.slot v one) (λ was. was) (taken_set x.map.slots 0 (slot_at x.map q.slot) v is)

  -- ---- its label

  -- a record can say the snapshot
  said : IsSayableSnap (snap_in q)
  said = found_among (λ (q : Snap). IsSayableSnap (snap_in q)) (λ (q : Snap). is_same_name name q.name) x.snapshots (each_sayable x.snapshots labelled.snapshots.each) q found

  -- Its label can be written.
  pub turned_labelled : ledger.span ≡ x.span → IsLabelled x.slot y
  unfolding label_said
  turned_labelled counts = relabelled x y refl labelled labelled.map
      (record { slots = record { within = labelled.snapshots.slots.within; rising = labelled.snapshots.slots.rising }; each = labelled.snapshots.each })
      (slots_turned (head_in x) (table_in q.table) x.map (let count = whole.count in omega (arith, count)) labelled.slots (slot_at x.map q.slot)) labelled.waits counts said.levels
      (λ container height low least most. let is = labelled.label container height low least most in label_turned x q.table x.snapshots container height is said.levels said.root is.snapshots)

  -- Calls can be made on it.
  pub turned_ready : (d : Disk) (p : Pool) → IsBooked y → IsReady d p x → IsReady d p y
  turned_ready d p booked is = ready_again d p x y refl (record { within = is.lent.within; stands = is.lent.stands; few = is.lent.few; entries = is.lent.entries }) (turned_labelled booked.span)
      (record { size = booked.size; kind = booked.kind; span = booked.span; need = booked.need; charge = booked.charge }) is

  -- ---- what it stands for

  module _ (d : Disk) (p : Pool) (stands : IsStanding d p x) where
    kept : IsKeptTable d p x q
    kept = found_among (IsKeptTable d p x) (λ (q : Snap). is_same_name name q.name) x.snapshots (snaps_all (IsKeptTable d p x) x stands.kept) q found

    pub root_now : RootStands d p y 0 y.active
    root_now = root_moves d p x y refl 0 q.slot at_first refl refl q.table kept.1

    pub kept_now : All (IsKeptTable d p y) (tables_of y)
    kept_now = λ k s low. one (slice_index_or (tables_of x) k s) (stands.kept k s low)
      where
        one : (r : Snap) → IsKeptTable d p x r → IsKeptTable d p y r
        one r is = (is.0, root_moves d p x y refl r.slot r.slot (at_other r.slot is.0) refl refl r.table is.1)

    snaps_are : (snaps : List Snap) → All (IsKeptTable d p x) snaps → map (snap_by (blocks_in d p y)) snaps ≡ map (snap_by (blocks_in d p x)) snaps
    snaps_are [] all = refl
    snaps_are (r ∷ rs) all =
        let one = All-head (IsKeptTable d p x) r rs all in
        ap₂ (λ t ts. t ∷ ts) (ap (λ (u : Under). snap_by (λ k. u) r) (blocks_move d p x y refl r.slot r.slot (at_other r.slot one.0))) (snaps_are rs (All-tail (IsKeptTable d p x) r rs all))

    -- Its table is the snapshot's,
    pub table_is : table_for d p y ≡ table_told (standing_kept (blocks_in d p x) q)
    table_is = root_table d p y root_now refl ∙ ap (λ (u : Under). table_told (standing_at u q.table.levels q.table.root)) (blocks_move d p x y refl 0 q.slot at_first)

    -- and it stands for the volume with that one.
    pub turned_volume : volume_for d p y ≡ record (volume_for d p x) { active = table_told (standing_kept (blocks_in d p x) q) }
    turned_volume = λ i. volume_as x (record { active = table_is i; snapshots = fin.from_entries {R = name_cmp} (snaps_are x.snapshots (snaps_all (IsKeptTable d p x) x stands.kept) i); base = base_told d p x y refl refl at_base i })

    pub told_now : IsTold d p y.map y.slot
    told_now = less_told d p x y refl less stands.told

    pub reserves_now : HasNoReserve (table_told (standing_kept (blocks_in d p x) q))
    reserves_now = kept.1.reserves

    -- each root was that of a table that was kept
    was_root : (r : Snap) → In r (roots y) → WasRoot d p x y (tables_of x) r
    was_root r there = by there
      where
        kept_apart : r.slot ≡ 0 → In r (tables_of x) → ⊥
        kept_apart same later = (all_in (IsKeptTable d p x) (tables_of x) stands.kept r later).0 same

        there_too : In q (tables_of x)
        there_too = found_among (λ (s : Snap). In s (tables_of x)) (λ (s : Snap). is_same_name name s.name) x.snapshots
            (all_among (λ (s : Snap). In s (tables_of x)) x.snapshots (λ s one. in_right s (base_table x.base) x.snapshots one)) q found

        by : In r (roots y) → WasRoot d p x y (tables_of x) r
        by (inl e) = subst (WasRoot d p x y (tables_of x)) e
            (root_moved d p x y refl (tables_of x) (active_root y) q refl there_too at_first)
        by (inr later) = root_moved d p x y refl (tables_of x) r r refl later (at_other r.slot (λ same. kept_apart same later))

    pub each_now : EachShares d p y (roots y)
    each_now = shares_again d p x y (tables_of x) was_root (kept_share d p x stands.shared)

    pub turned_standing : IsLedgerOf (volume_for d p y) ledger → IsStanding d p y
    turned_standing right = root_standing d p y root_now refl told_now kept_now stands.names (are_shared d p y refl root_now each_now) right tt

    -- So it is what it is between points.
    pub turned_held : IsHeldIn d p x.slot x → IsBooked y → IsLedgerOf (volume_for d p y) ledger → ledger.charge ≤ x.size → IsHeldIn d p x.slot y
    turned_held held booked right fits = record { slot = held.slot; ready = turned_ready d p booked held.ready; stands = turned_standing right; led = root_leads d p y root_now refl; well = root_well d p y root_now refl; wide = subst (λ (v : Volume). v.most + (set.len (base_ids v.base) + 256) ≤ v.span) (sym turned_volume) held.wide; within = fits }
