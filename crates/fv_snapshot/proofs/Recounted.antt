-- The ledger of a volume with nothing of it in memory that is counted anew is right.
use Rattle.std.proofs.Common.{◌≡◌, ◌≤◌, Bool, true, false, List, [], length, map, Option, Some, None, is_some, refl, sym, ap, subst, ◌∙◌}
use Rattle.std.specs.Option.{option_map}
use Rattle.std.specs.Prelude.{All, IfSome, if◌then◌else◌}
use Rattle.std.proofs.lemmas.List.Elements.{All-head}
use Rattle.fv_disk.specs.Shown.{Shown as Disk}
use Rattle.fv_model.specs.Numbers.{greatest_span, most_snapshots}
use Rattle.fv_laws.specs.Positions.{HasNoReserve}
use Rattle.fv_laws.proofs.PathCharges.{no_need}
use Rattle.fv_charge.specs.declared.ledger.Ledger.{Ledger}
use Rattle.fv_charge.specs.Ledgers.{IsLedgerOf}
use Rattle.fv_image.specs.ReachRules.{are_distinct}
use Rattle.fv_charge.specs.Counted.{charge_counted}
use Rattle.fv_volmap.specs.Slots.{IsVolume, Slot, Volume as Maps, slot_at, slot_of_base}
use Rattle.fv_pool.specs.declared.pool.Pool.{Pool}
use Rattle.fv_volume.specs.declared.state.VolumeState.{VolumeState}
use Rattle.fv_volume.specs.Files.{IsLabelled}
use Rattle.fv_volume.specs.declared.state.Base.{Base}
use Rattle.fv_volume.specs.Loading.{IsCountOf, base_counted}
use Rattle.fv_volume.specs.OneVolume.{base_table, blocks_in, table_for, tables_of, volume_for, IsBooked, IsKeptTable, RootStands}
use Rattle.fv_volume.specs.States.{footing_in}
use Rattle.fv_volume.proofs.ActiveRoot.{root_table}
use Rattle.fv_volume.proofs.Counted.{charge_within}
use Rattle.fv_volume.proofs.SettledTables.{few_levels}
use Rattle.fv_volume.proofs.TablesOf.{base_all, is_whole}
use Rattle.fv_volume.proofs.AllRoots.{roots, EachShares}
use Rattle.fv_snapshot.proofs.Counting.{counted_is_charge}
use Rattle.fv_volume.proofs.OwnIds.{own_ids}
use Rattle.fv_snapshot.proofs.Told.{distinct_told}

-- the numbers of a ledger that was counted are those of its volume
pub counted_booked : (y : VolumeState) → IsCountOf y y.ledger → y.map.span ≡ y.span → y.span ≤ greatest_span → length y.snapshots ≤ most_snapshots → IsBooked y
counted_booked y counted same most few = record {
  size = ap (λ (l : Ledger). l.size) counted.ledger_is;
  kind = ap (λ (l : Ledger). l.kind) counted.ledger_is;
  span = ap (λ (l : Ledger). l.span) counted.ledger_is;
  need = ap (λ (l : Ledger). l.need) counted.ledger_is;
  charge = charge_within y.map (base_counted y.base y.map) (length y.snapshots) y.span y.size y.kind y.ledger counted few same most;
}

-- what the slot of the base has isn't charged
left_out : (o : Option Base) (m : Maps) → IfSome o (λ b. b.splitting ≡ false) → is_some (slot_at m slot_of_base) ≡ is_some (option_map footing_in o) → base_counted o m ≡ slot_at m slot_of_base
left_out None m w used = by (slot_at m slot_of_base) used
  where
    by : (s : Slot) → is_some s ≡ false → None ≡ s
    by None e = refl
    by (Some set) e = absurd cc
left_out (Some b) m w used = ap (λ (t : Bool). if t then None else slot_at m slot_of_base) w

module _ (d : Disk) (p : Pool) (y : VolumeState) (none : y.files ≡ None) (root : RootStands d p y 0 y.active) (kept : All (IsKeptTable d p y) (tables_of y)) (labelled : IsLabelled y.slot y) (whole : IsVolume y.map) where
  -- no file of its table has a reserve
  unreserved : HasNoReserve (table_for d p y)
  unreserved = subst HasNoReserve (sym (root_table d p y root none)) root.reserves

  -- its base table has few levels
  few_based : (o : Option Base) → IfSome o (λ b. b.splitting ≡ false) → All (IsKeptTable d p y) (base_table o) → IfSome o (λ b. (b.splitting ≡ false) × (b.table.levels ≤ 2))
  few_based None w all = tt
  few_based (Some b) w all =
      let its = All-head (IsKeptTable d p y) (record { slot = slot_of_base; name = b.snapshot; table = b.table }) [] all in
      (w, few_levels y.now (blocks_in d p y slot_of_base) b.table.levels b.table.root its.1.table)

  -- A ledger that was counted is that of the volume.
  pub recounted : are_distinct (map (λ q. q.name) y.snapshots) ≡ true → EachShares d p y (roots y) → (ledger : Ledger) → IsCountOf y ledger → IsLedgerOf (volume_for d p y) ledger
  recounted names each ledger counted = subst (IsLedgerOf (volume_for d p y)) (sym counted.ledger_is) (record {
    charged = ap (λ (o : Option (List Bool)). charge_counted counted.union o (length y.snapshots) y.span) (left_out y.base y.map (is_whole y.slot y labelled) labelled.slots.base)
        ∙ counted_is_charge d p y root kept (root_table d p y root none) whole labelled (few_based y.base (is_whole y.slot y labelled) (base_all (IsKeptTable d p y) y kept)) (distinct_told y.snapshots names) (own_ids d p y root kept each) counted.union counted.united;
    needed = sym (no_need (volume_for d p y) unreserved);
    size = refl;
    kind = refl;
    span = refl;
  })
