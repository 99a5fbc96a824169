-- The ledger of a volume with files, counted from its maps.
use Rattle.std.proofs.Common.{◌≡◌, ℕ, ◌+◌, ◌*◌, ◌<◌, ◌≤◌, Bool, true, List, length, refl, sym, ap, subst, ◌∙◌, arith}
use Rattle.std.specs.Prelude.{Option, Some, None}
use Rattle.std.specs.List.{list_all}
use Rattle.std.specs.Option.{option_map_or}
use Rattle.std.proofs.Math.Nat.{mul-le-mul_left}
use Rattle.fv_bits.specs.Members.{is_member}
use Rattle.fv_bits.proofs.Counts.{passing_le}
use Rattle.fv_bits.proofs.Laws.{count_of-le}
use Rattle.fv_model.specs.declared.commands.Kind.{Kind}
use Rattle.fv_model.specs.Numbers.{greatest_span, most_snapshots}
use Rattle.fv_model.specs.Space.{map_blocks}
use Rattle.fv_laws.specs.Positions.{HasNoReserve}
use Rattle.fv_laws.proofs.PathCharges.{no_need}
use Rattle.fv_tables.specs.Reached.{is_listed}
use Rattle.fv_image.specs.Views.{Head, View}
use Rattle.fv_image.specs.Volumes.{table_at, volume_with, volume_told}
use Rattle.fv_image.specs.Seen.{roots_of, seen}
use Rattle.fv_image.specs.ReachRules.{has_maps_of_reach, is_reach}
use Rattle.fv_image.specs.Soundness.{AreTables, AreMaps}
use Rattle.fv_image.specs.Staying.{own_items}
use Rattle.fv_image.specs.Mapped.{AreInSlots}
use Rattle.fv_image.proofs.CountedCharge.{HasParentNumbers, held_is_listed}
use Rattle.fv_image.proofs.OwnUses.{HasLabelNumbers}
use Rattle.fv_image.proofs.SoundFacts.{of_slot}
use Rattle.fv_charge.specs.Counted.{count_apart, count_held, is_apart}
use Rattle.fv_charge.specs.declared.ledger.Ledger.{Ledger}
use Rattle.fv_charge.specs.Ledgers.{IsLedgerOf}
use Rattle.fv_volmap.specs.Slots.{Volume as Maps}
use Rattle.fv_volume.specs.declared.state.VolumeState.{VolumeState}
use Rattle.fv_volume.specs.Files.{HasSlotsOf}
use Rattle.fv_volume.specs.Mapped.{IsBaseMap}
use Rattle.fv_volume.specs.Loading.{HasCounted, HaveBits, IsCounted, base_counted}
use Rattle.fv_volume.specs.OneVolume.{greatest_charge}
use Rattle.fv_volume.proofs.CountedMaps.{counted_charge}
use Rattle.fv_volume.proofs.KeptSlots.{taken_bits}

module _ (w : View) (s : ℕ) (h : Head) (small : s < 64) (there : w.head s ≡ Some h) (tables : AreTables (seen w)) (maps : AreMaps w) (numbers : HasLabelNumbers h) (parents : HasParentNumbers w h.base)
    (m : Maps) (span : m.span ≡ h.span) (slots : HasSlotsOf h m) (order : AreInSlots h) (bits : HaveBits w s h.span m) where
  each_reach : list_all (is_reach w s h) (roots_of h) ≡ true
  unfolding has_maps_of_reach
  each_reach = subst (λ (o : Option Head). option_map_or (λ h. list_all (is_reach w s h) (roots_of h)) o true ≡ true) there (of_slot (λ s. option_map_or (λ h. list_all (is_reach w s h) (roots_of h)) (w.head s) true) s maps.reach small)

  module _ (set : Option (List Bool)) (out : IsBaseMap w h set) (ledger : Ledger) (counted : HasCounted m set (length h.snapshots) h.span h.size h.kind ledger) where
    -- what the slots have together is what the roots reach
    listed : (v : ℕ) → v < h.span → is_member counted.union v ≡ is_listed (own_items w s h) v
    listed v low =
        counted.united.members v
        ∙ taken_bits w s h m slots order bits v
        ∙ held_is_listed w s h each_reach v (omega (arith, low))

    -- A volume that stands in its blocks, without reserves, has the ledger that its maps are counted to, where what isn't charged is left out.
    pub counted_ledger : HasNoReserve (table_at w s h.active) → IsLedgerOf (volume_told w s h) ledger
    unfolding volume_with
    counted_ledger none = subst (IsLedgerOf (volume_told w s h)) (sym counted.ledger_is) (record {
      charged = counted_charge w s h small there numbers parents tables.snapshots tables.ids tables.ranges counted.union set (counted.united.len ∙ span) listed out;
      needed = sym (no_need (volume_told w s h) none);
      size = refl;
      kind = refl;
      span = refl;
    })

-- A ledger that is counted has no more blocks than the span has numbers, and the maps of 24 snapshots blocks.
count_within : (held : List Bool) (base : Option (List Bool)) → count_held held base ≤ length held
unfolding count_apart
count_within held None = count_of-le held
count_within held (Some base) = passing_le (is_apart held base) 0 (length held)

pub charge_within : (m : Maps) (base : Option (List Bool)) (snapshots span size : ℕ) (kind : Kind) (ledger : Ledger) → HasCounted m base snapshots span size kind ledger → snapshots ≤ most_snapshots → m.span ≡ span → span ≤ greatest_span → ledger.charge ≤ greatest_charge
charge_within m base snapshots span size kind ledger c most_snaps same most =
    let count : ledger.charge ≡ count_held c.union base + map_blocks span * snapshots = ap (λ (l : Ledger). l.charge) c.ledger_is in
    let few : map_blocks span ≤ 32 = omega (arith, most) in
    let first : map_blocks span * snapshots ≤ map_blocks span * most_snapshots = mul-le-mul_left (map_blocks span) most_snaps in
    let held = count_within c.union base in
    let long = c.united.len in
    omega (arith, count, few, first, held, long, same, most)

pub counted_within : (x : VolumeState) → IsCounted x → x.map.span ≡ x.span → x.span ≤ greatest_span → x.ledger.charge ≤ greatest_charge
counted_within x is = charge_within x.map (base_counted x.base x.map) (length x.snapshots) x.span x.size x.kind x.ledger is.ledger is.few
