-- What is noted of volumes, part by part and slot by slot, is what the fourth pass says.
use Rattle.std.proofs.Common.{◌≡◌, ℕ, List, [], ◌∷◌, ◌++◌, map, refl, sym, ap, ◌∙◌}
use Rattle.std.specs.Prelude.{flat_map}
use Rattle.std.proofs.lemmas.Grind.{flat_map-append}
use Rattle.std.proofs.lemmas.List.{append_assoc}
use Rattle.std.proofs.lemmas.List.Folds.{flat_map-map}
use Rattle.fv_image.specs.Views.{Head, Rooted, View, slots}
use Rattle.fv_image.specs.Held.{Layout}
use Rattle.fv_image.specs.Seen.{roots_of}
use Rattle.fv_faults.specs.declared.fault.Fault.{Fault}
use Rattle.fv_faults.specs.declared.lines.Lines.{Lines}
use Rattle.fv_faults.specs.Adding.{Adds}
use Rattle.fv_faults.specs.FourthPass.{commit_lines, fourth_pass, hint_lines, known_in, none_of, not_on_base, own_over_base, place_lines, room_lines, unknown_in, unknown_lines, use_lines}
use Rattle.fv_faults.specs.SecondPass.{ground, root_steps}
use Rattle.fv_faults.specs.Walks.{Step, steps}
use Rattle.fv_faults.proofs.Adding.{adds_then}
use Rattle.fv_third_pass.specs.declared.roots.MapRoot.{MapRoot}
use Rattle.fv_third_pass.specs.Volumes.{root_of}
use Rattle.fv_third_pass.proofs.SameLines.{Same, same_adds, same_both, same_is, same_spread, same_then}
use Rattle.fv_fourth_pass.specs.Noted.{hinted_roots, slots_to, volume_lines}

-- ---- one volume

module _ (w : View) (s at : ℕ) (h : Head) where
  pub places_added : (old one two new : Lines) → Adds (none_of at (unknown_in w s h)) old one → Adds (none_of at (known_in w s h)) one two
      → Adds (none_of at (own_over_base w s h) ++ none_of at (not_on_base w s h)) two new → Adds (place_lines w s at h) old new
  unfolding place_lines
  places_added old one two new first second third =
      adds_then (none_of at (unknown_in w s h)) _ old one new first (adds_then (none_of at (known_in w s h)) _ one two new second third)

  abbrev of : ℕ × Rooted → List Step
  of r = steps (ground w s h) at r.1

  spread_out : (f : Step → List Fault) (rs : List (ℕ × Rooted)) → flat_map (λ r. flat_map f (of r)) rs ≡ flat_map f (flat_map of rs)
  spread_out f [] = refl
  spread_out f (r ∷ rs) = ap (λ ls. flat_map f (of r) ++ ls) (spread_out f rs) ∙ sym (flat_map-append f (of r) (flat_map of rs))

  module _ (roots : List MapRoot) (are : map root_of roots ≡ roots_of h) where
    rooted_out : (f : Step → List Fault) → flat_map (λ (r : MapRoot). flat_map f (of (root_of r))) roots ≡ flat_map f (root_steps w s at h)
    rooted_out f = sym (flat_map-map (λ (r : ℕ × Rooted). flat_map f (of r)) root_of roots) ∙ ap (flat_map (λ (r : ℕ × Rooted). flat_map f (of r))) are ∙ spread_out f (roots_of h)

    hints_same : Same (hinted_roots (ground w s h) at roots) (flat_map hint_lines (root_steps w s at h) ++ flat_map unknown_lines (root_steps w s at h))
    hints_same =
        same_then _ (flat_map (λ (r : MapRoot). flat_map hint_lines (of (root_of r))) roots ++ flat_map (λ (r : MapRoot). flat_map unknown_lines (of (root_of r))) roots) _
        (same_spread (λ (r : MapRoot). flat_map hint_lines (of (root_of r))) (λ (r : MapRoot). flat_map unknown_lines (of (root_of r))) roots)
        (same_is _ _ (λ i. rooted_out hint_lines i ++ rooted_out unknown_lines i))

    pub volume_added : (old mid new : Lines) → Adds (hinted_roots (ground w s h) at roots ++ place_lines w s at h) old mid → Adds (use_lines w s at h) mid new → Adds (volume_lines w s at h) old new
    volume_added old mid new first second =
        let a = flat_map hint_lines (root_steps w s at h) in
        let b = flat_map unknown_lines (root_steps w s at h) in
        let p = place_lines w s at h in
        let u = use_lines w s at h in
        let n = hinted_roots (ground w s h) at roots in
        same_adds ((n ++ p) ++ u) (volume_lines w s at h) old new
        (same_then ((n ++ p) ++ u) ((a ++ b) ++ (p ++ u)) (a ++ (b ++ (p ++ u)))
        (same_then ((n ++ p) ++ u) (n ++ (p ++ u)) ((a ++ b) ++ (p ++ u)) (same_is _ _ (append_assoc n p u)) (same_both n (p ++ u) (a ++ b) (p ++ u) hints_same (same_is (p ++ u) (p ++ u) refl)))
        (same_is _ _ (append_assoc a b (p ++ u))))
        (adds_then (n ++ p) u old mid new first second)

-- ---- slots

pub pass_added : (y : Layout) (root : ℕ) (old one two new : Lines) → Adds (slots_to y 64) old one → Adds (commit_lines root y.view) one two → Adds (room_lines root y.view) two new → Adds (fourth_pass root y) old new
unfolding fourth_pass Rattle.fv_third_pass.specs.Volumes.slots_said slots
pass_added y root old one two new first second third =
    adds_then (slots_to y 64) (commit_lines root y.view ++ room_lines root y.view) old one new first (adds_then (commit_lines root y.view) (room_lines root y.view) one two new second third)
