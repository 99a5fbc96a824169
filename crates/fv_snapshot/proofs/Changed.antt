-- A volume whose snapshots, maps or active table changed: its label can be written, and calls can be made on it.
use Rattle.std.proofs.Common.{◌≡◌, ◌≤◌, ◌==◌, ℕ, false, true, get_or, sym, ap, subst, ◌∙◌}
use Rattle.std.specs.List.{list_any}
use Rattle.std.proofs.lemmas.Bool.{true≢false}
use Rattle.fv_disk.specs.Shown.{Shown as Disk}
use Rattle.fv_codec.specs.Blocks.{last_place, IsLabel}
use Rattle.fv_image.specs.WholeMachine.{has_form}
use Rattle.fv_model.specs.Numbers.{greatest_span}
use Rattle.fv_model.specs.Spelling.{is_name}
use Rattle.fv_pool.specs.declared.pool.Pool.{Pool}
use Rattle.fv_volume.specs.declared.state.VolumeState.{VolumeState}
use Rattle.fv_volume.specs.Files.{HasSlotsOf, IsLabelled}
use Rattle.fv_volume.specs.Labels.{label_said}
use Rattle.fv_pool.specs.Lending.{CanLend}
use Rattle.fv_volume.specs.OneVolume.{IsBooked, IsReady}
use Rattle.fv_volume.specs.SnapRecords.{AreSayable}
use Rattle.fv_volume.specs.States.{head_in}

-- what such a volume keeps
abbrev pub IsChanged : VolumeState → VolumeState → Type 0
IsChanged x y = y ≡ record x { active = y.active; snapshots = y.snapshots; map = y.map; ledger = y.ledger; files = y.files; numbers = y.numbers; fresh = y.fresh; changed = y.changed }

-- Its label can be written.
pub relabelled : (x y : VolumeState) → IsChanged x y → IsLabelled x.slot x → y.map.span ≡ y.span → AreSayable (head_in y) → HasSlotsOf (head_in y) y.map
    → ((k : ℕ) → get_or y.fresh k false ≡ true → list_any (λ p. p.slot == k) (head_in y).snapshots ≡ true) → y.ledger.span ≡ y.span → y.active.levels ≤ 2
    → ((container height : ℕ) → container ≤ last_place → 1 ≤ height → height ≤ 2 → IsLabel (label_said y container height)) → IsLabelled x.slot y
relabelled x y same is map snapshots slots waits counts levels label = record {
  slot_is = ap (λ (z : VolumeState). z.slot) same;
  form = ap (λ (z : VolumeState). has_form (head_in z)) same ∙ is.form;
  span = subst (λ (n : ℕ). n ≤ greatest_span) (sym (ap (λ (z : VolumeState). z.span) same)) is.span;
  map = map;
  snapshots = snapshots;
  slots = slots;
  waits = waits;
  counts = counts;
  levels = levels;
  named = ap (λ (z : VolumeState). is_name z.name) same ∙ is.named;
  label = label;
}

-- Calls can be made on it.
pub ready_again : (d : Disk) (p : Pool) (x y : VolumeState) → y.changed ≡ true → CanLend p y.map d y.slot → IsLabelled y.slot y → IsBooked y → IsReady d p x → IsReady d p y
ready_again d p x y changed lent labelled booked is = record {
  lent = lent;
  labelled = labelled;
  booked = booked;
  blocks = is.blocks;
  changed = λ isnt. absurd (true≢false (sym changed ∙ isnt));
  fresh = λ isnt. absurd (true≢false (sym changed ∙ isnt));
}
