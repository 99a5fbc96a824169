use Rattle.std.proofs.Common.{◌≡◌, take, get_or}
use Rattle.std.specs.Prelude.{find}
use Rattle.std.specs.Option.{option_map}
use Rattle.fv_image.specs.Views.{Snap, snaps_from}
use Rattle.fv_first_pass.specs.Records.{free, is_named}
use Rattle.fv_first_pass.proofs.names.first_named.Given as goal

abbrev pub invariant-loop-k : goal.invariant-loop-k
invariant-loop-k l = record {
  first : l.first ≡ option_map (λ (q : Snap). q.slot) (find (is_named (get_or l.site.label.snapshots l.j free)) (snaps_from 1 (take l.k l.site.label.snapshots)));
}
