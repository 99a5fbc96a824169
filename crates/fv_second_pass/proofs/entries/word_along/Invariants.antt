use Rattle.std.proofs.Common.{◌≡◌, ◌-◌, ◌<◌}
use Rattle.fv_disk.specs.Shown.{Image}
use Rattle.fv_image.specs.NewerRoot.{Taken}
use Rattle.fv_image.specs.Chains.{along}
use Rattle.fv_image.specs.Held.{layout_at}
use Rattle.fv_first_pass.specs.Passed.{Spells}
use Rattle.fv_second_pass.specs.Told.{IsKnown}
use Rattle.fv_second_pass.proofs.entries.word_along.Given as goal

abbrev pub invariant-loop : goal.invariant-loop
invariant-loop l = record {
  slot : IsKnown l.known → l.slot < 64 → l.at < 64;
  along : (t : Taken) (i : Image) → Spells t i l.known.labels.items l.known.rows.items → IsKnown l.known → l.slot < 64
      → along (layout_at t i).view (64 - l.counter) l.at l.vvbn ≡ along (layout_at t i).view 64 l.slot l.vvbn;
}
