-- What is said of an aggregate under a root, by the passes that are left.
use Rattle.std.specs.Prelude.{◌≡◌, ◌≢◌, ◌≤◌, ◌*◌, ◌^◌, ℕ, List, [], Result, IfOk, IsTrue, sum_by}
use Rattle.std.specs.List.{range_with_len}
use Rattle.std.specs.Option.{option_map_or}
use Rattle.fv_disk.specs.Shown.{Shown}
use Rattle.fv_model.specs.Space.{charge}
use Rattle.fv_image.specs.Layout.{root_place}
use Rattle.fv_image.specs.Held.{Layout, layout_at}
use Rattle.fv_image.specs.Views.{Head, View}
use Rattle.fv_image.specs.Volumes.{volume_told}
use Rattle.fv_root.specs.declared.find.Found.{Found}
use Rattle.fv_root.specs.Finding.{IsInRange, root_found}
use Rattle.fv_faults.specs.declared.fault.Fault.{Fault}
use Rattle.fv_faults.specs.declared.lines.Lines.{Lines}
use Rattle.fv_faults.specs.FourthPass.{fourth_pass}
use Rattle.fv_faults.specs.Lines.{or_next, ordered}
use Rattle.fv_faults.specs.SecondPass.{second_pass}
use Rattle.fv_faults.specs.ThirdPass.{third_pass}
use Rattle.fv_first_pass.specs.declared.fault.CheckFault.{CheckFault}
use Rattle.fv_first_pass.specs.declared.first.Known.{Known}
use Rattle.fv_first_pass.specs.declared.verdict.Verdict.{Verdict}
use Rattle.fv_first_pass.specs.declared.verdict.Verdict.TheVariants.{Valid, Faults}
use Rattle.fv_second_pass.specs.Told.{IsKnown, IsPassed}
use Rattle.fv_check.specs.declared.totals.Totals.{Totals}

-- ---- the volumes of slots

-- how many volumes a slot has
abbrev pub volumes_at : View → ℕ → ℕ
volumes_at w s = option_map_or (λ (h : Head). 1) (w.head s) 0

-- what a slot's volume is charged
abbrev pub charge_at : View → ℕ → ℕ
charge_at w s = option_map_or (λ h. charge (volume_told w s h)) (w.head s) 0

-- how many the first so many slots have, and what these are charged
pub record AreTotals (w : View) (n : ℕ) (x : Totals) : Type 0 where
  pub volumes : x.volumes ≡ sum_by (volumes_at w) (range_with_len 0 n)
  pub charged : x.charged ≡ sum_by (charge_at w) (range_with_len 0 n)

-- numbers that slots can have, whatever was read
pub record AreFewTotals (n : ℕ) (x : Totals) : Type 0 where
  pub volumes : x.volumes ≤ n
  pub charged : x.charged ≤ n * 2 ^ 32

-- ---- verdicts

-- what is said of a view where these lines are found
abbrev pub IsJudged : View → List Fault → Verdict → Type 0
IsJudged w found (Valid n c) = (found ≡ []) × AreTotals w 64 (record { volumes = n; charged = c })
IsJudged w found (Faults lines) = (lines.lines.keys ≡ ordered found) × (found ≢ [])

-- ---- the passes after the first

-- what they find of an aggregate
abbrev pub later_passes : ℕ → Layout → List Fault
later_passes place y = or_next (second_pass y) (or_next (third_pass y) (fourth_pass place y))

-- what they begin with: a root, what the first pass read, and no line
pub record BeginsPasses (root : Found) (known : Known) (lines : Lines) : Type 0 where
  pub size : IsInRange root
  pub is_known : IsKnown known
  pub clean : lines.lines.keys ≡ []

-- what they say of the aggregate on a disk where the first pass found nothing
abbrev pub JudgesKnown : Shown → Found → Known → Result Verdict CheckFault → Type 0
JudgesKnown disk root known result = IsTrue disk.tells → IsPassed (root_found root) disk.reads known
    → IfOk result (IsJudged (layout_at (root_found root) disk.reads).view (later_passes (root_place root.slot) (layout_at (root_found root) disk.reads)))
