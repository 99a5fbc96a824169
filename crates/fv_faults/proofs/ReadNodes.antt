-- Pass 1 in the tree of a container: it finds nothing exactly where no node that isn't absent has a line of its own.
use Rattle.std.proofs.Common.{◌≡◌, ◌≢◌, ℕ, zero, suc, ◌+◌, ◌-◌, ◌*◌, ◌/◌, ◌%◌, ◌<◌, ◌≤◌, Bool, true, false, List, [], refl, sym, ap, subst, ◌∙◌, arith}
use Rattle.std.specs.Prelude.{Option, Some, None, flat_map, ◌&&◌, ◌==◌, nat_le, nat_lt, if◌then◌else◌}
use Rattle.std.specs.List.{range_with_len}
use Rattle.std.specs.Option.{option_map_or}
use Rattle.std.proofs.lemmas.Bool.{and_parts}
use Rattle.std.proofs.lemmas.Bool.Decides.{nat_tests}
use Rattle.fv_disk.specs.Shown.{Image}
use Rattle.fv_codec.specs.declared.label.Label.{Label}
use Rattle.fv_codec.specs.Blocks.{leaf_at, inner_at}
use Rattle.fv_laws.proofs.Lists.{in_range}
use Rattle.fv_image.specs.Containers.{fan, level_width, lying, child_in, node_of, node_below}
use Rattle.fv_image.specs.NewerRoot.{Taken}
use Rattle.fv_image.specs.Views.{View, entry_count}
use Rattle.fv_image.specs.Held.{Lying, lying_at, label_in, label_lying, node_from, layout_at, view_at}
use Rattle.fv_image.proofs.HeldPlaces.{node_lies}
use Rattle.fv_faults.specs.declared.fault.Fault.{Fault}
use Rattle.fv_faults.specs.Lines.{or_next}
use Rattle.fv_faults.specs.FirstPass.{leaf_lines, inner_lines, node_below as lines_below}
use Rattle.fv_faults.proofs.Clean.{both_passes, no_pass, none_of_each, each_none}

-- what a node of a level and a number says by itself
abbrev pub node_lines : View → Label → ℕ → ℕ → ℕ → List ℕ → List Fault
node_lines w l zero number place block = leaf_lines w l number place (leaf_at block)
node_lines w l (suc level) number place block = inner_lines w l (suc level) number place (inner_at block)

absent : (i : Image) (l : Label) (level number : ℕ) → (nat_le level l.height && nat_lt number (level_width (entry_count l.span) level)) ≡ false → node_from (Some l) i level number ≡ None
unfolding node_from
absent i l level number e = ap (λ (b : Bool). if b then lying_at i (node_of i l.container l.height level number) else None) e

module _ (t : Taken) (i : Image) (s : ℕ) (l : Label) (there : label_in (label_lying t i s) ≡ Some l) where
  abbrev pub w : View
  w = view_at t i

  abbrev pub entries : ℕ
  entries = entry_count l.span

  -- the place of a node, 0 where it is absent
  abbrev pub place_at : ℕ → ℕ → ℕ
  place_at level number = node_of i l.container l.height level number

  abbrev lines : ℕ → ℕ → List Fault
  lines level number = lines_below (layout_at t i) s l level number

  -- each node that isn't absent says nothing
  pub record AreQuiet : Type 0 where
    pub nodes : (level number : ℕ) → level ≤ l.height → number < level_width entries level → place_at level number ≢ 0 → node_lines w l level number (place_at level number) (i (place_at level number)) ≡ []

  node_is : (level number : ℕ) → (layout_at t i).node s level number ≡ node_from (Some l) i level number
  unfolding layout_at
  node_is level number = ap (λ (o : Option Label). node_from o i level number) there

  node_lies_at : (level number : ℕ) → level ≤ l.height → number < level_width entries level → (layout_at t i).node s level number ≡ lying_at i (place_at level number)
  node_lies_at level number low within = node_is level number ∙ node_lies i l level number low within

  -- what is said of a leaf, and of an inner node with what is below it
  abbrev leaf_said : ℕ → Option Lying → List Fault
  leaf_said number o = option_map_or (λ x. leaf_lines w l number x.place (leaf_at x.block)) o []

  abbrev inner_said : ℕ → ℕ → Option Lying → List Fault
  inner_said level number o = option_map_or (λ x. or_next (inner_lines w l (suc level) number x.place (inner_at x.block)) (flat_map (lines level) (range_with_len (fan * number) fan))) o []

  leaf_opens : (number : ℕ) → lines 0 number ≡ leaf_said number ((layout_at t i).node s 0 number)
  unfolding lines_below layout_at
  leaf_opens number = refl

  inner_opens : (level number : ℕ) → lines (suc level) number ≡ inner_said level number ((layout_at t i).node s (suc level) number)
  unfolding lines_below layout_at
  inner_opens level number = refl

  -- ---- from the pass

  there_at : (p : ℕ) → p ≢ 0 → lying_at i p ≡ Some (record { place = p; block = i p })
  there_at zero some = absurd (some refl)
  there_at (suc p) some = refl

  own_lines : (level number : ℕ) → level ≤ l.height → number < level_width entries level → place_at level number ≢ 0 → lines level number ≡ [] → node_lines w l level number (place_at level number) (i (place_at level number)) ≡ []
  own_lines zero number low within some none =
      sym (ap (leaf_said number) (node_lies_at 0 number low within ∙ there_at (place_at 0 number) some)) ∙ sym (leaf_opens number) ∙ none
  own_lines (suc level) number low within some none =
      (both_passes (inner_lines w l (suc level) number (place_at (suc level) number) (inner_at (i (place_at (suc level) number)))) _
      (sym (ap (inner_said level number) (node_lies_at (suc level) number low within ∙ there_at (place_at (suc level) number) some)) ∙ sym (inner_opens level number) ∙ none)).0

  below_lines : (level number : ℕ) → suc level ≤ l.height → number < level_width entries (suc level) → place_at (suc level) number ≢ 0 → lines (suc level) number ≡ [] → (c : ℕ) → c < fan → lines level (fan * number + c) ≡ []
  below_lines level number low within some none c inside =
      none_of_each (lines level) (range_with_len (fan * number) fan)
      (both_passes (inner_lines w l (suc level) number (place_at (suc level) number) (inner_at (i (place_at (suc level) number)))) _
      (sym (ap (inner_said level number) (node_lies_at (suc level) number low within ∙ there_at (place_at (suc level) number) some)) ∙ sym (inner_opens level number) ∙ none)).1
      (fan * number + c) (in_range (fan * number) fan (fan * number + c) (omega arith) (omega (arith, inside)))

  -- the node over one that isn't absent isn't absent
  over_some : (steps q : ℕ) → node_below i l.container (suc steps) q ≢ 0 → node_below i l.container steps (q / fan) ≢ 0
  unfolding node_below
  over_some steps q some none = some (ap (λ (p : ℕ). child_in (lying inner_at i p) (q % fan)) none)

  root_alone : (q : ℕ) → node_below i l.container zero q ≢ 0 → q ≡ 0
  unfolding node_below
  root_alone q some = so (q == 0) refl some
    where
      so : (b : Bool) → (q == 0) ≡ b → (if b then l.container else 0) ≢ 0 → q ≡ 0
      so true e some = grind (arith, nat_tests, e)
      so false e some = absurd (some refl)

  visited : (steps q : ℕ) → steps ≤ l.height → q < level_width entries (l.height - steps) → node_below i l.container steps q ≢ 0 → lines l.height 0 ≡ [] → lines (l.height - steps) q ≡ []
  visited zero q low within some none =
      let top : l.height ≡ l.height - 0 = omega arith in
      let first : q ≡ 0 = root_alone q some in
      subst (λ (n : ℕ). lines n q ≡ []) top (subst (λ (n : ℕ). lines l.height n ≡ []) (sym first) none)
  visited (suc steps) q low within some none =
      let level : suc (l.height - suc steps) ≡ l.height - steps = omega (arith, low) in
      let wide : q / fan < level_width entries (suc (l.height - suc steps)) = wider (l.height - suc steps) q within in
      let over = over_some steps q some in
      let above : lines (suc (l.height - suc steps)) (q / fan) ≡ [] = subst (λ (n : ℕ). lines n (q / fan) ≡ []) (sym level)
      (visited steps (q / fan) (omega (arith, low)) (subst (λ (n : ℕ). q / fan < level_width entries n) level wide) over none) in
      let back : l.height - suc (l.height - suc steps) ≡ steps = omega (arith, low) in
      let rest : q % fan < fan = omega arith in
      let whole : fan * (q / fan) + q % fan ≡ q = omega arith in
      subst (λ (n : ℕ). lines (l.height - suc steps) n ≡ []) whole
      (below_lines (l.height - suc steps) (q / fan) (omega (arith, low)) wide (subst (λ (n : ℕ). node_below i l.container n (q / fan) ≢ 0) (sym back) over) above (q % fan) rest)
    where
      wider : (level q : ℕ) → q < level_width entries level → q / fan < level_width entries (suc level)
      wider level q within = omega (arith, within)

  pub quiet_from : lines l.height 0 ≡ [] → AreQuiet
  quiet_from none = record {
    nodes = λ level number low within some.
        let back : l.height - (l.height - level) ≡ level = omega (arith, low) in
        own_lines level number low within some
        (subst (λ (n : ℕ). lines n number ≡ []) back
        (visited (l.height - level) number (omega arith) (subst (λ (n : ℕ). number < level_width entries n) (sym back) within) some none));
  }

  -- ---- and the other way round

  pub quiet_to : AreQuiet → (level number : ℕ) → lines level number ≡ []
  quiet_to are zero number = leaf_opens number ∙ so (nat_le 0 l.height && nat_lt number (level_width entries 0)) refl
    where
      here : (p : ℕ) → place_at 0 number ≡ p → 0 ≤ l.height → number < level_width entries 0 → leaf_said number (lying_at i p) ≡ []
      here zero is low within = refl
      here (suc p) is low within = subst (λ (p : ℕ). leaf_lines w l number p (leaf_at (i p)) ≡ []) is (are.nodes 0 number low within (λ none. omega (arith, is, none)))

      so : (b : Bool) → (nat_le 0 l.height && nat_lt number (level_width entries 0)) ≡ b → leaf_said number ((layout_at t i).node s 0 number) ≡ []
      so true e =
          let two = and_parts (nat_le 0 l.height) _ e in
          let within : number < level_width entries 0 = grind (arith, nat_tests, two.1) in
          ap (leaf_said number) (node_lies_at 0 number (omega arith) within) ∙ here (place_at 0 number) refl (omega arith) within
      so false e = ap (leaf_said number) (node_is 0 number ∙ absent i l 0 number e)
  quiet_to are (suc level) number = inner_opens level number ∙ so (each_none (lines level) (range_with_len (fan * number) fan) (λ q there. quiet_to are level q)) (nat_le (suc level) l.height && nat_lt number (level_width entries (suc level))) refl
    where
      here : flat_map (lines level) (range_with_len (fan * number) fan) ≡ [] → (p : ℕ) → place_at (suc level) number ≡ p → suc level ≤ l.height → number < level_width entries (suc level) → inner_said level number (lying_at i p) ≡ []
      here below zero is low within = refl
      here below (suc p) is low within = no_pass (inner_lines w l (suc level) number (suc p) (inner_at (i (suc p)))) _
          (subst (λ (p : ℕ). inner_lines w l (suc level) number p (inner_at (i p)) ≡ []) is (are.nodes (suc level) number low within (λ none. omega (arith, is, none)))) below

      so : flat_map (lines level) (range_with_len (fan * number) fan) ≡ [] → (b : Bool) → (nat_le (suc level) l.height && nat_lt number (level_width entries (suc level))) ≡ b → inner_said level number ((layout_at t i).node s (suc level) number) ≡ []
      so below true e =
          let two = and_parts (nat_le (suc level) l.height) _ e in
          let low : suc level ≤ l.height = grind (arith, nat_tests, two.0) in
          let within : number < level_width entries (suc level) = grind (arith, nat_tests, two.1) in
          ap (inner_said level number) (node_lies_at (suc level) number low within) ∙ here below (place_at (suc level) number) refl low within
      so below false e = ap (inner_said level number) (node_is (suc level) number ∙ absent i l (suc level) number e)
