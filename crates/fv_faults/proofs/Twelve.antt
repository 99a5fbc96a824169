-- Rule 12 on what a root reaches: both ways of saying it hold together.
use Rattle.std.proofs.Common.{◌≡◌, ℕ, ◌≤◌, Bool, true, not, List, [], refl}
use Rattle.std.specs.Prelude.{Option, flat_map, ◌||◌, ◌==◌}
use Rattle.std.specs.List.{list_all}
use Rattle.std.proofs.lemmas.Bool.{or_left, or_right}
use Rattle.fv_tables.specs.Reached.{Item, items}
use Rattle.fv_image.specs.Views.{Placed, Rooted}
use Rattle.fv_image.specs.Volumes.{standing_of}
use Rattle.fv_image.specs.HintRules.{is_known, is_unknown}
use Rattle.fv_faults.specs.declared.fault.Fault.{Fault}
use Rattle.fv_faults.specs.Lines.{line, unless}
use Rattle.fv_faults.specs.Walks.{root_item, Ground, steps}
use Rattle.fv_faults.specs.FourthPass.{unknown_under, unknown_lines}
use Rattle.fv_faults.proofs.Clean.{holds_from, none_from}
use Rattle.fv_faults.proofs.Plain.{IsClean}
use Rattle.fv_faults.proofs.TableMembers.{reached_from, reached_to}
use Rattle.fv_faults.proofs.Reached.{passes, silent_where}
use Rattle.fv_faults.proofs.Bridge.{met_down, met_up}
use Rattle.fv_faults.proofs.Unknown.{leads_on, is_led_to, led_below, leads_from, leads_alone}

module _ (g : Ground) where
  -- a root's pointer stands in the label
  root_led : (r : Rooted) → is_led_to g (root_item r) ≡ true
  root_led r = or_right (not (is_unknown r.root)) _ (or_left true ((root_item r).holder.pvbn == 0) refl)

  abbrev lines_of : Item → ℕ → Option Placed → List Fault
  lines_of e block at = unless (not (is_known e.pointer) || (unknown_under e at == 0)) (line 12 block 0 (unknown_under e at))

  pub none_unknown : (label : ℕ) (r : Rooted) → IsClean (steps g label r) → flat_map unknown_lines (steps g label r) ≡ [] → list_all (is_led_to g) (items (standing_of g.view g.slot r)) ≡ true
  unfolding unknown_lines
  none_unknown label r clean none =
      let on = passes g lines_of (leads_on g) (λ e b. holds_from (leads_on g e) _) (λ e b. none_from (leads_on g e) _) label r clean none in
      reached_from (is_led_to g) g r label (met_down g (leads_on g) (is_led_to g) (led_below g) label r (root_led r) (reached_to (leads_on g) g r label on))

  pub no_unknown_lines : (label : ℕ) (r : Rooted) → r.levels ≤ 2 → IsClean (steps g label r) → list_all (is_led_to g) (items (standing_of g.view g.slot r)) ≡ true → flat_map unknown_lines (steps g label r) ≡ []
  unfolding unknown_lines
  no_unknown_lines label r fits clean all =
      silent_where g lines_of (leads_on g) (λ e b. holds_from (leads_on g e) _) (λ e b. none_from (leads_on g e) _) label r clean
      (reached_from (leads_on g) g r label (met_up g (leads_on g) (is_led_to g) (leads_from g) (leads_alone g) label r fits (reached_to (is_led_to g) g r label all)))
