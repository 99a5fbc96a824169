-- The maps of a new mirror.
use Rattle.std.proofs.Common.{◌≡◌, ℕ, Bool, false, List, Some, None, refl, ap, ◌∙◌}
use Rattle.std.specs.Prelude.{replicate}
use Rattle.fv_volmap.specs.Slots.{Slot, TakesBase, Volume as Maps, empty_volume, slot_at, slot_of_base, with_slot}
use Rattle.fv_volume.specs.Mirroring.{AreMapsOf}

-- the base's slot is free again
freed : (span : ℕ) (m : List Bool) → with_slot (with_slot (with_slot (empty_volume span) slot_of_base (Some m)) 0 (Some m)) slot_of_base None ≡ with_slot (empty_volume span) 0 (Some m)
freed span m = refl

pub maps_made : (from : Slot) (span : ℕ) (first mid last maps : Maps) → first ≡ empty_volume span → TakesBase first from mid → last ≡ with_slot mid 0 (slot_at mid slot_of_base) → maps ≡ with_slot last slot_of_base None → AreMapsOf from span maps
maps_made from span first mid last maps empty based restored forgotten = record {
  map = based.map;
  slots = forgotten ∙ ap (λ (w : Maps). with_slot w slot_of_base None)
      (restored ∙ ap (λ (s : Slot). with_slot mid 0 s) based.base ∙ ap (λ (w : Maps). with_slot w 0 (Some based.map)) (based.volume ∙ ap (λ (w : Maps). with_slot w slot_of_base (Some based.map)) empty))
      ∙ freed span based.map;
  long = based.long ∙ ap (λ (w : Maps). w.span) empty;
  members = based.members;
}
