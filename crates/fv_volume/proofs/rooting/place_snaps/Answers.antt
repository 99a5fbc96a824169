use Rattle.std.proofs.Common.{set, ap, sym, ◌∙◌}
use Rattle.std.proofs.lemmas.List.Edits.{map_over_more}
use Rattle.fv_volume.specs.declared.state.Snap.{Snap}
use Rattle.fv_volume.specs.Placements.{snap_at}
use Rattle.fv_volume.proofs.rooting.place_snaps.Goals as goal

pub loop-i-preserved : goal.loop-i-preserved
loop-i-preserved c =
    ap (λ (q : Snap). set c.loop-i.snaps c.loop-i.i q) (c.place_snap.ensures ∙ ap (snap_at c.args.places.now) (sym c.index-snaps-i.is))
    ∙ map_over_more (snap_at c.args.places.now) c.args.snaps.now c.loop-i.snaps c.loop-i.i c.index-snaps-i.result c.loop-i-test.true c.loop-i.invariant c.index-snaps-i.is
