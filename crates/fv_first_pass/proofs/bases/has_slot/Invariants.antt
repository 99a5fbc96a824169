use Rattle.std.proofs.Common.{◌≡◌, take}
use Rattle.std.specs.Prelude.{◌==◌}
use Rattle.std.specs.List.{list_any}
use Rattle.fv_image.specs.Views.{Snap, snaps_from}
use Rattle.fv_first_pass.proofs.bases.has_slot.Given as goal

abbrev pub invariant-loop-k : goal.invariant-loop-k
invariant-loop-k l = record { any : l.any ≡ list_any (λ (p : Snap). p.slot == l.slot) (snaps_from 1 (take l.k l.label.snapshots)) }
