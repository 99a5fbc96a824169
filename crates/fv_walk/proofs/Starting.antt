-- The first step of a walk with its stops.
use Rattle.std.proofs.Common.{◌≡◌, ◌≢◌, ℕ, ◌<◌, ◌^◌, Bool, true, false, List, [], length, replicate, refl, sym, ap, subst, ◌∙◌}
use Rattle.fv_bits.specs.Members.{is_member}
use Rattle.fv_bits.proofs.Laws.{is_member-replicate, length_new}
use Rattle.fv_image.specs.Views.{Rooted}
use Rattle.fv_faults.specs.declared.lines.Lines.{Lines}
use Rattle.fv_faults.specs.Walks.{Ground, steps}
use Rattle.fv_faults.proofs.Adding.{adds_none}
use Rattle.fv_walk.specs.declared.limits.Limits.{Limits}
use Rattle.fv_walk.specs.declared.state.State.{State}
use Rattle.fv_walk.specs.declared.visit.Visit.{Visit}
use Rattle.fv_walk.specs.Visits.{item_of, root_visit}
use Rattle.fv_walk.specs.Blocks.{IsInRange}
use Rattle.fv_walk.specs.Limiting.{IsLimits, IsReady}
use Rattle.fv_walk.specs.Naming.{IsNames}
use Rattle.fv_walk.specs.Goings.{Tracks, going_from}
use Rattle.fv_walk.proofs.Goings.{goes_root}

pub ready : (s : State) (l : Limits) → IsLimits l → l.span < 2 ^ 32 → s.limits ≡ l → s.reach ≡ replicate l.span false → IsReady s
ready s l are small same empty = record {
  limits = subst IsLimits (sym same) are;
  bits = ap length empty ∙ length_new l.span ∙ sym (ap (λ (x : Limits). x.span) same);
  small = subst (λ (x : Limits). x.span < 2 ^ 32) (sym same) small;
}

-- no step is made yet
pub tracks_none : (g : Ground) (lines : Lines) (state : State) (span : ℕ) → state.reach ≡ replicate span false → IsNames [] state.names → Tracks g lines [] state lines
tracks_none g lines state span empty names = record {
  reach = λ v low. ap (λ (r : List Bool). is_member r v) empty ∙ is_member-replicate span v;
  names = names;
  lines = adds_none lines lines refl;
}

-- the steps from a root's pointer are those of the root
pub goes_from_root : (g : Ground) (label : ℕ) (r : Rooted) (v : Visit) → v ≡ root_visit r label → going_from g true (item_of v) v.block [] ≡ steps g label r
goes_from_root g label r v is = ap (λ (w : Visit). going_from g true (item_of w) w.block []) is ∙ sym (goes_root g label r)

pub tracks_root : (g : Ground) (label : ℕ) (r : Rooted) (v : Visit) (before : Lines) (state : State) (lines : Lines) → v ≡ root_visit r label
    → Tracks g before (going_from g true (item_of v) v.block []) state lines → Tracks g before (steps g label r) state lines
tracks_root g label r v before state lines is tracks = subst (λ ds. Tracks g before ds state lines) (goes_from_root g label r v is) tracks

pub root_range : (l m : Limits) (r : Rooted) (label : ℕ) (v : Visit) → v ≡ root_visit r label → m ≡ l → (r.root.stamp ≢ 0 → r.root.vvbn < l.span) → IsInRange m v
root_range l m r label v is same low =
    subst (IsInRange m) (sym is) (subst (λ (x : Limits). r.root.stamp ≢ 0 → r.root.vvbn < x.span) (sym same) low)
