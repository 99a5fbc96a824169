use Rattle.std.proofs.Common.{◌≡◌}
use Rattle.std.specs.FinSet as set
use Rattle.fv_model.specs.Places.{id_cmp}
use Rattle.fv_reference.specs.Maps.{set_of}
use Rattle.fv_reference.proofs.places.take_listed.Given as goal

abbrev pub invariant-loop-place : goal.invariant-loop-place
invariant-loop-place l =
    set.difference (set_of id_cmp l.found) (set.from_list l.place-iterator) ≡ set.difference (set_of id_cmp l.fn.found) (set.from_list l.stamps.entries)
