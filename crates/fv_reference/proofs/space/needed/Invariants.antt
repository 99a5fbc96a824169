use Rattle.std.proofs.Common.{◌≡◌, ◌+◌, ◌*◌, ◌^◌, ◌≤◌, length, sum_by, count_by}
use Rattle.fv_model.specs.Places.{id_cmp, place_cmp}
use Rattle.fv_model.specs.Space.{needs_block, reserved_places}
use Rattle.fv_reference.specs.Maps.{map_of, set_of}
use Rattle.fv_reference.proofs.space.needed.Given as goal

abbrev pub invariant-loop-number : goal.invariant-loop-number
invariant-loop-number l = record {
  sum : l.total + sum_by (λ e. count_by (needs_block (set_of id_cmp l.shared) (map_of place_cmp l.stamps)) (reserved_places l.levels e.0 e.1)) l.number-iterator
      ≡ sum_by (λ e. count_by (needs_block (set_of id_cmp l.shared) (map_of place_cmp l.stamps)) (reserved_places l.levels e.0 e.1)) l.files.entries;
  bound : l.total + 2 ^ 63 * length l.number-iterator ≤ 2 ^ 63 * length l.files.entries;
}
