use Rattle.std.proofs.Common.{◌≡◌, map}
use Rattle.std.specs.FinSet as set
use Rattle.fv_model.specs.Places.{id_cmp}
use Rattle.fv_model.specs.Space.{ids_in_any}
use Rattle.fv_reference.specs.Maps.{set_of}
use Rattle.fv_reference.proofs.volumes.add_all.Given as goal

abbrev pub invariant-loop-table : goal.invariant-loop-table
invariant-loop-table l =
    set.union (set_of id_cmp l.ids) (ids_in_any (map (λ e. e.1) l.table-iterator)) ≡ set.union (set_of id_cmp l.fn.ids) (ids_in_any (map (λ e. e.1) l.snapshots.entries))
