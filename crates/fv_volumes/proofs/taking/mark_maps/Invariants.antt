use Rattle.std.proofs.Common.{◌≡◌, ◌<◌, ◌≤◌, ◌/◌, ℕ, true, false, length, get_or}
use Rattle.fv_image.specs.Containers.{level_width}
use Rattle.fv_image.specs.Views.{entry_count}
use Rattle.fv_volume.specs.Stored.{is_map_written}
use Rattle.fv_volumes.proofs.taking.mark_maps.Given as goal

abbrev pub invariant-loop-vvbn : goal.invariant-loop-vvbn
invariant-loop-vvbn l = record {
  past : l.state.span ≤ l.vvbn;
  long : length l.plan ≡ length l.fn.plan;
  marked : (v : ℕ) → v < l.vvbn → is_map_written l.state v ≡ true → get_or l.plan (v / 256) false ≡ true;
  kept : (k : ℕ) → get_or l.fn.plan k false ≡ true → get_or l.plan k false ≡ true;
  others : (k : ℕ) → level_width (entry_count l.state.span) 0 ≤ k → get_or l.plan k false ≡ get_or l.fn.plan k false;
}
