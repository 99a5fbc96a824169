-- Calls can be made on a volume whose table or whose count of changes is another.
use Rattle.std.proofs.Common.{◌≡◌, ◌≢◌, ℕ, ◌≤◌, true, false, Option, sym, ◌∙◌, arith}
use Rattle.fv_disk.specs.Shown.{Shown as Disk}
use Rattle.fv_codec.specs.Blocks.{IsLabel}
use Rattle.fv_model.specs.Numbers.{most_changes}
use Rattle.fv_files.specs.declared.files.Files.{Files}
use Rattle.fv_files.specs.declared.numbers.FileNumbers.{FileNumbers}
use Rattle.fv_charge.specs.declared.ledger.Ledger.{Ledger}
use Rattle.fv_volmap.specs.Slots.{Volume as Maps, slot_at}
use Rattle.fv_pool.specs.declared.pool.Pool.{Pool}
use Rattle.fv_volume.specs.declared.state.VolumeState.{VolumeState}
use Rattle.fv_volume.specs.Files.{IsLabelled}
use Rattle.fv_volume.specs.Labels.{label_said}
use Rattle.fv_volume.proofs.Labels.{labelled_as}
use Rattle.fv_volume.specs.OneVolume.{IsBooked, IsReady}

module _ (x : VolumeState) (now : ℕ) (few : now ≤ most_changes) where
  abbrev at_now : VolumeState
  at_now = record x { now = now }

  label_now : (container height : ℕ) → IsLabel (label_said x container height) → IsLabel (label_said at_now container height)
  unfolding label_said
  label_now container height is = search (is, few)

  labelled_now : IsLabelled x.slot x → (map : Maps) → map.span ≡ x.map.span → ((k : ℕ) → k ≢ 0 → slot_at map k ≡ slot_at x.map k) → (files : Option Files) (ledger : Ledger) (numbers : Option FileNumbers) → ledger.span ≡ x.ledger.span → IsLabelled x.slot (record x { now = now; map = map; files = files; numbers = numbers; ledger = ledger; changed = true })
  unfolding label_said
  labelled_now is map span slots files ledger numbers counts = labelled_as x now x.size x.kind x.active map files ledger numbers span slots counts is.levels label_now is

-- whatever changed of it
pub ready_again : (d : Disk) (p : Pool) (x : VolumeState) (now : ℕ) (map : Maps) (files : Option Files) (ledger : Ledger) (numbers : Option FileNumbers) → IsReady d p x → now ≤ most_changes → map.span ≡ x.map.span → ((k : ℕ) → k ≢ 0 → slot_at map k ≡ slot_at x.map k) → IsBooked (record x { ledger = ledger })
    → IsReady d p (record x { now = now; map = map; files = files; numbers = numbers; ledger = ledger; changed = true })
ready_again d p x now map files ledger numbers ready few span slots booked = record {
  lent = record {
    within = ready.lent.within;
    stands = ready.lent.stands;
    few = (let was = ready.lent.few in omega (arith, span, was));
    entries = (let was = ready.lent.entries in omega (arith, span, was));
  };
  labelled = labelled_now x now few ready.labelled map span slots files ledger numbers (booked.span ∙ sym ready.booked.span);
  booked = record { size = booked.size; kind = booked.kind; span = booked.span; need = booked.need; charge = booked.charge };
  blocks = ready.blocks;
  changed = λ isnt. absurd (both isnt);
  fresh = λ isnt. absurd (both isnt);
}
  where
    both : true ≡ false → ⊥
    both same = cc
