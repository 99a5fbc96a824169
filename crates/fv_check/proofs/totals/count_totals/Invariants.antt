use Rattle.std.proofs.Common.{◌≡◌, ℕ, length}
use Rattle.fv_disk.specs.Shown.{Image}
use Rattle.fv_third_pass.specs.Surveys.{layout_of}
use Rattle.fv_fourth_pass.specs.Silent.{IsSilentOf}
use Rattle.fv_check.specs.Judged.{AreFewTotals, AreTotals}
use Rattle.fv_check.proofs.totals.count_totals.Given as given

abbrev pub invariant-loop-slot : given.invariant-loop-slot
invariant-loop-slot l = record {
  few : AreFewTotals l.slot l.totals;
  exact : (i : Image) → ((b : ℕ) → length (i b) ≡ 4096) → IsSilentOf l.survey i → AreTotals (layout_of l.survey i).view l.slot l.totals;
}
