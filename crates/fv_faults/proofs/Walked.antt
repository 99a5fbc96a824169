-- Pass 2: what a walk that finds nothing says of the table of its root.
use Rattle.std.proofs.Common.{◌≡◌, ℕ, ◌<◌, Bool, true, false, not, List, [], ap, subst, ◌∙◌, arith}
use Rattle.std.specs.Prelude.{Option, flat_map, ◌&&◌, ◌||◌, ◌==◌, nat_lt}
use Rattle.std.specs.List.{list_all}
use Rattle.std.specs.Option.{option_map_or}
use Rattle.std.proofs.lemmas.Bool.Decides.{nat_tests}
use Rattle.std.proofs.lemmas.List.Folds.{list_all-map}
use Rattle.fv_laws.proofs.Tests.{from_all, to_all}
use Rattle.fv_tables.specs.Reached.{Item, items}
use Rattle.fv_tables.proofs.Items.{from_trees}
use Rattle.fv_image.specs.Views.{Placed, Rooted}
use Rattle.fv_image.specs.Volumes.{standing_of}
use Rattle.fv_image.specs.ReachRules.{is_hint}
use Rattle.fv_faults.specs.Walks.{Step, Ground, steps, root_item, pointers_under, pointer_lines, shape_lines, name_lines, block_lines, met_in, files_under}
use Rattle.fv_faults.proofs.Clean.{parts_nil}
use Rattle.fv_faults.proofs.Plain.{Spot, met, IsClean, steps_are}
use Rattle.fv_faults.proofs.Members.{all_met}
use Rattle.fv_faults.proofs.TableMembers.{reached_from}
use Rattle.fv_faults.proofs.Reached.{IsFresh, all_fresh, reached_once}
use Rattle.fv_faults.proofs.Shapes.{fresh_all, shapes_and_positions}
use Rattle.fv_faults.proofs.InRange.{no_lines, holds_pointers, is_ranged, ranged}
use Rattle.fv_faults.proofs.Names.{files_distinct}
use Rattle.fv_faults.proofs.Quiet.{IsWalked}
use Rattle.fv_image.specs.Seen.{reached_at}

module _ (g : Ground) (some_span : 0 < g.span) (some_blocks : 0 < g.view.blocks) (r : Rooted) (label : ℕ) (clean : IsClean (steps g label r)) where
  abbrev reach : List Item
  reach = items (standing_of g.view g.slot r)

  all_stand : list_all (λ (e : Item). not (e.pointer.stamp == 0)) reach ≡ true
  all_stand = from_trees (λ (e : Item). not (e.pointer.stamp == 0)) (standing_of g.view g.slot r)
      (λ level place some. grind (arith, nat_tests, some))
      (λ n f is level place some. grind (arith, nat_tests, some))

  quiet : (done : List Step) (p : Spot) (is : IsFresh g done p) → flat_map (λ c. pointer_lines g.view.blocks g.span is.at.pvbn c.pointer) (pointers_under p.0 is.at) ≡ []
  unfolding block_lines
  quiet done p is = (parts_nil (flat_map (λ c. pointer_lines g.view.blocks g.span is.at.pvbn c.pointer) (pointers_under p.0 is.at)) (name_lines is.at.pvbn (flat_map met_in done) (files_under p.0 is.at)) (parts_nil (shape_lines p.0 is.at) _ is.block).1).0

  abbrev holds : Item → Bool
  holds = holds_pointers g.view.blocks g.span some_span some_blocks g

  abbrev fits : Item → Bool
  fits = is_ranged g.view.blocks g.span some_span some_blocks g

  all_hold : all_met holds (met g label r) ≡ true
  all_hold = fresh_all g holds
      (λ done p is. ap (λ (o : Option Placed). option_map_or (λ x. no_lines g.view.blocks g.span some_span some_blocks (flat_map (λ c. pointer_lines g.view.blocks g.span x.pvbn c.pointer) (pointers_under p.0 x))) o true) is.found
      ∙ ap (no_lines g.view.blocks g.span some_span some_blocks) (quiet done p is))
      [] (met g label r) (all_fresh g [] (met g label r) (subst IsClean (steps_are g label r clean) clean))

  -- Each pointer that the root reaches is in range, where the root's own is.
  pub pointers_in_range : fits (root_item r) ≡ true → list_all (λ (e : Item). nat_lt e.pointer.vvbn g.span && is_hint g.view.blocks e.pointer.pvbn) reach ≡ true
  pointers_in_range root =
      let all = reached_from fits g r label (ranged g.view.blocks g.span some_span some_blocks g label r root all_hold) in
      to_all (λ (e : Item). nat_lt e.pointer.vvbn g.span && is_hint g.view.blocks e.pointer.pvbn) reach (λ e there.
      so (e.pointer.stamp == 0) (nat_lt e.pointer.vvbn g.span && is_hint g.view.blocks e.pointer.pvbn) (from_all (λ (e : Item). not (e.pointer.stamp == 0)) reach all_stand e there) (from_all fits reach all e there))
    where
      so : (a b : Bool) → not a ≡ true → (a || b) ≡ true → b ≡ true
      so true b stands is = absurd cc
      so false b stands is = is

  -- All that soundness asks of the walk along the pointers of a root.
  pub is_walked : fits (root_item r) ≡ true → IsWalked g some_span some_blocks r
  is_walked root =
      let two = shapes_and_positions g label r clean in
      record {
        shapes = two.0;
        positions = two.1;
        ranges = list_all-map (λ e. nat_lt e.item.pointer.vvbn g.span && is_hint g.view.blocks e.item.pointer.pvbn) (reached_at g.view g.slot) reach ∙ pointers_in_range root;
        once = reached_once g label r clean;
        names = files_distinct g r label clean;
      }
