-- What is noted pass by pass is what is said of the aggregate.
use Rattle.std.proofs.Common.{◌≡◌, ◌≢◌, ◌↔◌, ℕ, Bool, false, List, [], ◌∷◌, length, refl, sym, subst, ap, ◌∙◌}
use Rattle.std.specs.Prelude.{IfOk, IsTrue, Some, Result, Ok, Err}
use Rattle.std.specs.List.Sorted.{IsStrictlySortedBy}
use Rattle.std.proofs.lemmas.Bool.{both_ways}
use Rattle.fv_disk.specs.Shown.{Image}
use Rattle.fv_image.specs.Layout.{root_place}
use Rattle.fv_image.specs.NewerRoot.{Taken, root_of}
use Rattle.fv_image.specs.Views.{View}
use Rattle.fv_image.specs.Held.{layout_at}
use Rattle.fv_image.specs.Soundness.{IsSound}
use Rattle.fv_faults.specs.declared.fault.Fault.{Fault}
use Rattle.fv_faults.specs.declared.lines.Lines.{Lines}
use Rattle.fv_faults.specs.Adding.{Adds}
use Rattle.fv_faults.specs.Faults.{faults, faults_under, passes}
use Rattle.fv_faults.specs.Lines.{fault_cmp, or_next, ordered}
use Rattle.fv_faults.proofs.Adding.{added_to_none, none_added}
use Rattle.fv_faults.proofs.Clean.{ordered_from, ordered_none}
use Rattle.fv_faults.proofs.Whole.{sound_without_lines}
use Rattle.fv_first_pass.specs.declared.fault.CheckFault.{CheckFault}
use Rattle.fv_first_pass.specs.declared.verdict.Verdict.{Verdict}
use Rattle.fv_first_pass.specs.declared.verdict.Verdict.TheVariants.{Valid, Faults}
use Rattle.fv_first_pass.specs.Verdicts.{IsVerdict}
use Rattle.fv_check.specs.Judged.{IsJudged, AreTotals}
use Rattle.fv_check.proofs.VolumeSums.{charges_told, volumes_told}

-- a test that finds no line
pub none_noted : (ks : List Fault) (b : Bool) → (IsTrue b ↔ (ks ≢ [])) → b ≡ false → ks ≡ []
none_noted [] b any false_is = refl
none_noted (f ∷ fs) b any false_is = absurd (both_ways b false_is (any.1 (λ none. cc)))

module _ (w : View) (old new : Lines) where
  -- the last pass that is made finds lines
  pub found_last : (found : List Fault) → Adds found old new → old.lines.keys ≡ [] → IsStrictlySortedBy fault_cmp new.lines.keys → new.lines.keys ≢ [] → IsJudged w found (Faults new)
  found_last found adds none strict some =
      let are : new.lines.keys ≡ ordered found = added_to_none found old new adds none strict in
      (are, λ empty. some (are ∙ ordered_none found empty))

  -- so does one before others
  pub found_here : (found rest : List Fault) → Adds found old new → old.lines.keys ≡ [] → IsStrictlySortedBy fault_cmp new.lines.keys → new.lines.keys ≢ []
      → IsJudged w (or_next found rest) (Faults new)
  found_here found rest adds none strict some = so found (found_last found adds none strict some)
    where
      so : (found : List Fault) → IsJudged w found (Faults new) → IsJudged w (or_next found rest) (Faults new)
      so [] is = absurd (is.1 refl)
      so (f ∷ fs) is = is

  -- it finds none
  pub found_later : (found rest : List Fault) → Adds found old new → new.lines.keys ≡ [] → (v : Verdict) → IsJudged w rest v → IsJudged w (or_next found rest) v
  found_later found rest adds none v is = subst (λ ls. IsJudged w (or_next ls rest) v) (sym (none_added found old new adds none)) is

  pub later_on : (found rest : List Fault) → Adds found old new → new.lines.keys ≡ [] → (r : Result Verdict CheckFault) → IfOk r (IsJudged w rest) → IfOk r (IsJudged w (or_next found rest))
  later_on found rest adds none (Ok v) is = found_later found rest adds none v is
  later_on found rest adds none (Err fault) is = tt

  pub found_none : (found : List Fault) → Adds found old new → new.lines.keys ≡ [] → (n c : ℕ) → AreTotals w 64 (record { volumes = n; charged = c }) → IsJudged w found (Valid n c)
  found_none found adds none n c are = (none_added found old new adds none, are)

-- What is said of the passes of the aggregate under the root that counts is the verdict.
module _ (i : Image) (long : (b : ℕ) → length (i b) ≡ 4096) (t : Taken) (counts : root_of i ≡ Some t) where
  lines_are : faults i ≡ ordered (passes (root_place t.slot) (layout_at t i))
  unfolding faults
  lines_are = ap (faults_under i) counts

  pub is_verdict : (v : Verdict) → IsJudged (layout_at t i).view (passes (root_place t.slot) (layout_at t i)) v → IsVerdict i v
  is_verdict (Valid n c) is =
      let sound : IsSound (layout_at t i) = sound_without_lines i long t counts (lines_are ∙ ordered_none _ is.0) in
      record {
        taken = t;
        root = counts;
        sound = sound;
        volumes = is.1.volumes ∙ sym (volumes_told (layout_at t i) sound.names);
        charged = is.1.charged ∙ sym (charges_told (layout_at t i) sound.names);
      }
  is_verdict (Faults lines) is = (is.0 ∙ sym lines_are, λ none. is.1 (ordered_from _ (sym lines_are ∙ none)))

  pub has_verdict : (r : Result Verdict CheckFault) → IfOk r (IsJudged (layout_at t i).view (passes (root_place t.slot) (layout_at t i))) → IfOk r (IsVerdict i)
  has_verdict (Ok v) is = is_verdict v is
  has_verdict (Err fault) is = tt
