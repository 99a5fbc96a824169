-- Volumes are counted slot by slot.
use Rattle.std.proofs.Common.{◌≡◌, ℕ, ◌+◌, ap, arith}
use Rattle.std.specs.Prelude.{Option, Some, None}
use Rattle.std.specs.Option.{option_map_or}
use Rattle.fv_model.specs.Space.{charge}
use Rattle.fv_image.specs.Views.{Head, View}
use Rattle.fv_image.specs.Volumes.{volume_told}
use Rattle.fv_fourth_pass.proofs.Sums.{sum_next}
use Rattle.fv_check.specs.declared.totals.Totals.{Totals}
use Rattle.fv_check.specs.Judged.{AreFewTotals, AreTotals, charge_at, volumes_at}

module _ (w : View) (n : ℕ) (old : Totals) where
  pub none_counted : w.head n ≡ None → AreTotals w n old → AreTotals w (n + 1) old
  none_counted none are =
      let volumes : volumes_at w n ≡ 0 = ap (λ (o : Option Head). option_map_or (λ (h : Head). 1) o 0) none in
      let charged : charge_at w n ≡ 0 = ap (λ (o : Option Head). option_map_or (λ h. charge (volume_told w n h)) o 0) none in
      let so_far = are.volumes in
      let sum = are.charged in
      record { volumes = omega (arith, so_far, volumes, sum_next (volumes_at w) n); charged = omega (arith, sum, charged, sum_next (charge_at w) n) }

  pub some_counted : (h : Head) (new : Totals) → w.head n ≡ Some h → new.volumes ≡ old.volumes + 1 → new.charged ≡ old.charged + charge (volume_told w n h)
      → AreTotals w n old → AreTotals w (n + 1) new
  some_counted h new some one more are =
      let volumes : volumes_at w n ≡ 1 = ap (λ (o : Option Head). option_map_or (λ (h : Head). 1) o 0) some in
      let charged : charge_at w n ≡ charge (volume_told w n h) = ap (λ (o : Option Head). option_map_or (λ h. charge (volume_told w n h)) o 0) some in
      let so_far = are.volumes in
      let sum = are.charged in
      record { volumes = omega (arith, so_far, one, volumes, sum_next (volumes_at w) n); charged = omega (arith, sum, more, charged, sum_next (charge_at w) n) }

pub none_few : (n : ℕ) (x : Totals) → AreFewTotals n x → AreFewTotals (n + 1) x
none_few n x few = let a = few.volumes in let b = few.charged in record { volumes = omega (arith, a); charged = omega (arith, b) }
