-- Pass 4, volume by volume: it finds nothing exactly where soundness' tests of what it looks at hold.
use Rattle.std.proofs.Common.{◌≡◌, ℕ, ◌<◌, ◌≤◌, Bool, true, not, List, [], ◌∷◌, ◌++◌, map, refl, sym, ap, ◌∙◌, arith}
use Rattle.std.specs.Prelude.{flat_map, ◌||◌, ◌==◌, nat_le}
use Rattle.std.specs.List.{list_all}
use Rattle.std.proofs.lemmas.Bool.Decides.{nat_tests}
use Rattle.std.proofs.lemmas.List.Concat.{flat_map-append}
use Rattle.std.proofs.lemmas.List.Folds.{list_all-map}
use Rattle.fv_laws.proofs.Lists.{In}
use Rattle.fv_model.specs.Space.{use_of}
use Rattle.fv_tables.specs.Reached.{Item, items}
use Rattle.fv_image.specs.Views.{Rooted, Head, View}
use Rattle.fv_image.specs.Volumes.{standing_of, volume_told}
use Rattle.fv_image.specs.Seen.{Reached, Root, reached_at, root_seen, roots_of}
use Rattle.fv_image.specs.Staying.{own_items, base_items}
use Rattle.fv_image.specs.HintRules.{is_unknown, is_true_hint, is_in_label, is_splitting}
use Rattle.fv_faults.specs.declared.fault.Fault.{Fault}
use Rattle.fv_faults.specs.Lines.{expects}
use Rattle.fv_faults.specs.Walks.{Step, Ground, steps}
use Rattle.fv_faults.specs.SecondPass.{ground, root_steps}
use Rattle.fv_faults.specs.FourthPass.{hint_lines, unknown_lines, unknown_in, known_in, own_over_base, not_on_base, place_lines, use_lines}
use Rattle.fv_faults.proofs.Clean.{parts_nil, nil_parts, none_of_each, each_none, holds_from, none_from}
use Rattle.fv_faults.proofs.Plain.{IsClean}
use Rattle.fv_faults.proofs.Reached.{reached, hints_true, no_hint_lines}
use Rattle.fv_faults.proofs.Twelve.{none_unknown, no_unknown_lines}
use Rattle.fv_faults.proofs.Labels.{known_test, known_true, none_unknown_in, RootsRest, rests_true, none_elsewhere, LeavesBase, leaves_true, none_over_base}
use Rattle.fv_faults.proofs.Splits.{roots_split, split_true, none_split}

-- lines of the steps of several roots
roots_lines : {A : Type 0} (f : Step → List A) (w : View) (s label : ℕ) (h : Head) (rs : List (ℕ × Rooted))
    → flat_map f (flat_map (λ (r : ℕ × Rooted). steps (ground w s h) label r.1) rs) ≡ flat_map (λ (r : ℕ × Rooted). flat_map f (steps (ground w s h) label r.1)) rs
roots_lines f w s label h [] = refl
roots_lines f w s label h (r ∷ rs) =
    flat_map-append f (steps (ground w s h) label r.1) (flat_map (λ (r : ℕ × Rooted). steps (ground w s h) label r.1) rs)
    ∙ ap (λ fs. flat_map f (steps (ground w s h) label r.1) ++ fs) (roots_lines f w s label h rs)

module _ (w : View) (s label : ℕ) (h : Head) (clean : (r : ℕ × Rooted) → In r (roots_of h) → IsClean (steps (ground w s h) label r.1))
    (fits : (r : ℕ × Rooted) → In r (roots_of h) → r.1.levels ≤ 2)
    (own_below : (e : Item) → In e (own_items w s h) → e.pointer.vvbn < h.span)
    (base_below : (e : Item) → In e (base_items w h.base) → e.pointer.vvbn < h.span) where
  abbrev g : Ground
  g = ground w s h

  abbrev roots : List Root
  roots = map (λ (r : ℕ × Rooted). root_seen w s r.0 r.1) (roots_of h)

  -- what pass 4 asks of a volume
  pub record IsFourthVolume : Type 0 where
    pub hints : (r : ℕ × Rooted) → In r (roots_of h) → list_all (λ e. is_true_hint e.item.pointer e.at) (reached g r.1) ≡ true
    pub unknown : (r : ℕ × Rooted) → In r (roots_of h) → list_all (λ e. not (is_unknown e.item.pointer) || (is_in_label e.item || (e.item.holder.pvbn == 0))) (reached g r.1) ≡ true
    pub known : list_all (λ (r : Root). list_all (known_test w s h) r.reached) roots ≡ true
    pub split : is_splitting h.base ≡ true → roots_split w s h (roots_of h) ≡ true
    pub leaves : LeavesBase w s h
    pub rests : RootsRest w s h
    pub size : nat_le (use_of (volume_told w s h)) h.size ≡ true

  none_is : (n : ℕ) → expects 13 label 0 n ≡ [] → n ≡ 0
  none_is n none = let test : (0 == n) ≡ true = holds_from (0 == n) _ none in grind (arith, nat_tests, test)

  is_none_line : (n : ℕ) → n ≡ 0 → expects 13 label 0 n ≡ []
  is_none_line n none = none_from (0 == n) _ (let test : (0 == n) ≡ true = grind (arith, nat_tests, none) in test)

  abbrev led_test : Item → Bool
  led_test e = not (is_unknown e.pointer) || (is_in_label e || (e.holder.pvbn == 0))

  to_reached : (r : ℕ × Rooted) → list_all led_test (items (standing_of w s r.1)) ≡ true → list_all (λ (e : Reached). led_test e.item) (reached g r.1) ≡ true
  to_reached r all = list_all-map (λ (e : Reached). led_test e.item) (reached_at w s) (items (standing_of w s r.1)) ∙ all

  from_reached : (r : ℕ × Rooted) → list_all (λ (e : Reached). led_test e.item) (reached g r.1) ≡ true → list_all led_test (items (standing_of w s r.1)) ≡ true
  from_reached r all = sym (list_all-map (λ (e : Reached). led_test e.item) (reached_at w s) (items (standing_of w s r.1))) ∙ all

  abbrev volume : List Fault
  volume = flat_map hint_lines (root_steps w s label h) ++ (flat_map unknown_lines (root_steps w s label h) ++ (place_lines w s label h ++ use_lines w s label h))

  pub fourth_true : volume ≡ [] → IsFourthVolume
  unfolding place_lines use_lines
  fourth_true none =
      let a = parts_nil (flat_map hint_lines (root_steps w s label h)) _ none in
      let b = parts_nil (flat_map unknown_lines (root_steps w s label h)) _ a.1 in
      let c = parts_nil (place_lines w s label h) _ b.1 in
      let d = parts_nil (expects 13 label 0 (unknown_in w s h)) _ c.0 in
      let e = parts_nil (expects 13 label 0 (known_in w s h)) _ d.1 in
      let f = parts_nil (expects 13 label 0 (own_over_base w s h)) _ e.1 in
      record {
        hints = λ r there. hints_true g label r.1 (clean r there) (none_of_each (λ (r : ℕ × Rooted). flat_map hint_lines (steps g label r.1)) (roots_of h) (sym (roots_lines hint_lines w s label h (roots_of h)) ∙ a.0) r there);
        unknown = λ r there. to_reached r (none_unknown g label r.1 (clean r there) (none_of_each (λ (r : ℕ × Rooted). flat_map unknown_lines (steps g label r.1)) (roots_of h) (sym (roots_lines unknown_lines w s label h (roots_of h)) ∙ b.0) r there));
        known = known_true w s h (none_is (unknown_in w s h) d.0);
        split = λ is. split_true w s h is (none_is (known_in w s h) e.0);
        leaves = leaves_true w s h base_below (none_is (own_over_base w s h) f.0);
        rests = rests_true w s h own_below (none_is (not_on_base w s h) f.1);
        size = holds_from _ _ c.1;
      }

  pub no_fourth_lines : IsFourthVolume → volume ≡ []
  unfolding place_lines use_lines
  no_fourth_lines is =
      nil_parts (flat_map hint_lines (root_steps w s label h)) _
      (roots_lines hint_lines w s label h (roots_of h) ∙ each_none (λ (r : ℕ × Rooted). flat_map hint_lines (steps g label r.1)) (roots_of h) (λ r there. no_hint_lines g label r.1 (clean r there) (is.hints r there)))
      (nil_parts (flat_map unknown_lines (root_steps w s label h)) _
      (roots_lines unknown_lines w s label h (roots_of h) ∙ each_none (λ (r : ℕ × Rooted). flat_map unknown_lines (steps g label r.1)) (roots_of h) (λ r there. no_unknown_lines g label r.1 (fits r there) (clean r there) (from_reached r (is.unknown r there))))
      (nil_parts (place_lines w s label h) _
      (nil_parts (expects 13 label 0 (unknown_in w s h)) _ (is_none_line (unknown_in w s h) (none_unknown_in w s h is.known))
      (nil_parts (expects 13 label 0 (known_in w s h)) _ (is_none_line (known_in w s h) (none_split w s h is.split))
      (nil_parts (expects 13 label 0 (own_over_base w s h)) _ (is_none_line (own_over_base w s h) (none_over_base w s h is.leaves))
      (is_none_line (not_on_base w s h) (none_elsewhere w s h is.rests)))))
      (none_from _ _ is.size)))
