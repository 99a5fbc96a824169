-- The nodes of a container, from one on, are those of the layout.
use Rattle.std.proofs.Common.{◌≡◌, ℕ, zero, suc, ◌-◌, ◌*◌, ◌/◌, ◌%◌, ◌<◌, ◌≤◌, Bool, true, false, [], refl, sym, ap, ◌∙◌, arith, Ok, Err}
use Rattle.std.specs.Prelude.{Option, Some, None, Result, flat_map, ◌&&◌, nat_le, nat_lt, if◌then◌else◌}
use Rattle.std.specs.List.{range_with_len}
use Rattle.std.specs.Option.{option_map_or}
use Rattle.std.proofs.lemmas.Bool.{and_parts}
use Rattle.std.proofs.lemmas.Bool.Decides.{nat_tests}
use Rattle.fv_disk.specs.Shown.{Image}
use Rattle.fv_codec.specs.declared.shape.Shape.{Shape}
use Rattle.fv_codec.specs.declared.label.Label.{Label}
use Rattle.fv_codec.specs.declared.container.ContainerLeaf.{ContainerLeaf}
use Rattle.fv_codec.specs.declared.container.ContainerInner.{ContainerInner}
use Rattle.fv_codec.specs.Blocks.{leaf_at, inner_at}
use Rattle.fv_laws.proofs.Lists.{from_range}
use Rattle.fv_image.specs.Containers.{fan, level_width, shaped, lying, child_in, node_of, node_below as tree_below}
use Rattle.fv_image.specs.NewerRoot.{Taken}
use Rattle.fv_image.specs.Views.{entry_count}
use Rattle.fv_image.specs.Held.{Lying, lying_at, label_in, label_lying, node_from, layout_at, view_at}
use Rattle.fv_faults.specs.Lines.{or_next}
use Rattle.fv_faults.specs.FirstPass.{leaf_lines, inner_lines, node_below}
use Rattle.fv_first_pass.specs.declared.site.Site.{Site}
use Rattle.fv_first_pass.specs.Sites.{bare}
use Rattle.fv_first_pass.specs.Below.{below, child_at}
use Rattle.fv_first_pass.proofs.Ranges.{same_parts}

-- what lies at a place tells the place
place_is : (i : Image) (a p : ℕ) → lying_at i a ≡ lying_at i (suc p) → a ≡ suc p
place_is i zero p e = absurd cc
place_is i (suc a) p e =
    let same : ◌≡◌ {A = Lying} (record { place = suc a; block = i (suc a) }) (record { place = suc p; block = i (suc p) }) = cc in
    ap (λ (x : Lying). x.place) same

module _ (t : Taken) (i : Image) (site : Site) (blocks : t.blocks ≡ site.blocks) (there : label_in (label_lying t i site.slot) ≡ Some site.label) where
  abbrev l : Label
  l = site.label

  leaf_same : (number at : ℕ) (r : Result ContainerLeaf Shape) → leaf_lines (view_at t i) l number at r ≡ leaf_lines (bare site.blocks) l number at r
  unfolding view_at
  leaf_same number at (Err fault) = refl
  leaf_same number at (Ok leaf) = ap (λ b. leaf_lines (bare b) l number at (Ok leaf)) blocks

  inner_same : (level number at : ℕ) (r : Result ContainerInner Shape) → inner_lines (view_at t i) l level number at r ≡ inner_lines (bare site.blocks) l level number at r
  unfolding view_at
  inner_same level number at (Err fault) = refl
  inner_same level number at (Ok node) = ap (λ b. inner_lines (bare b) l level number at (Ok node)) blocks

  abbrev lies : ℕ → ℕ → Option Lying
  lies level number = (layout_at t i).node site.slot level number

  -- a node of the layout by its number
  node_is : (level number : ℕ) → lies level number ≡ (if nat_le level l.height && nat_lt number (level_width (entry_count l.span) level) then lying_at i (node_of i l.container l.height level number) else None)
  unfolding layout_at node_from
  node_is level number = ap (λ o. node_from o i level number) there

  node_at : (level number p : ℕ) → lies level number ≡ lying_at i (suc p) → (level ≤ l.height) × (node_of i l.container l.height level number ≡ suc p)
  node_at level number p e = so (nat_le level l.height && nat_lt number (level_width (entry_count l.span) level)) refl (sym (node_is level number) ∙ e)
    where
      so : (b : Bool) → (nat_le level l.height && nat_lt number (level_width (entry_count l.span) level)) ≡ b → (if b then lying_at i (node_of i l.container l.height level number) else None) ≡ lying_at i (suc p) → (level ≤ l.height) × (node_of i l.container l.height level number ≡ suc p)
      so true is e =
          let low : level ≤ l.height = (let test = (and_parts (nat_le level l.height) _ is).0 in grind (arith, nat_tests, test)) in
          (low, place_is i (node_of i l.container l.height level number) p e)
      so false is e = absurd cc

  -- the place of a child by the node over it
  child_is : (level number p q : ℕ) → lies (suc level) number ≡ lying_at i (suc p) → q / fan ≡ number → node_of i l.container l.height level q ≡ child_in (shaped (inner_at (i (suc p)))) (q % fan)
  unfolding tree_below
  child_is level number p q e over =
      let at = node_at (suc level) number p e in
      let low = at.0 in
      let more : l.height - level ≡ suc (l.height - suc level) = omega (arith, low) in
      ap (λ n. tree_below i l.container n q) more
      ∙ ap (λ n. child_in (lying inner_at i (tree_below i l.container (l.height - suc level) n)) (q % fan)) over
      ∙ ap (λ n. child_in (lying inner_at i n) (q % fan)) at.1

  child_lies : (level number p q : ℕ) → lies (suc level) number ≡ lying_at i (suc p) → q / fan ≡ number → lies level q ≡ lying_at i (child_at site level (shaped (inner_at (i (suc p)))) q)
  child_lies level number p q e over =
      let at = node_at (suc level) number p e in
      let low = at.0 in
      let test : nat_le level l.height ≡ true = grind (arith, nat_tests, low) in
      node_is level q
      ∙ ap (λ (b : Bool). if b && nat_lt q (level_width (entry_count l.span) level) then lying_at i (node_of i l.container l.height level q) else None) test
      ∙ so (nat_lt q (level_width (entry_count l.span) level)) (child_is level number p q e over)
    where
      so : (b : Bool) → node_of i l.container l.height level q ≡ child_in (shaped (inner_at (i (suc p)))) (q % fan)
          → (if b then lying_at i (node_of i l.container l.height level q) else None) ≡ lying_at i (if b then child_in (shaped (inner_at (i (suc p)))) (q % fan) else 0)
      so true is = ap (lying_at i) is
      so false is = refl

  -- Their lines are those that the first pass asks for.
  pub below_is : (level number at : ℕ) → lies level number ≡ lying_at i at → node_below (layout_at t i) site.slot l level number ≡ below i site level number at
  unfolding node_below below layout_at
  below_is zero number at e =
      ap (λ (o : Option Lying). option_map_or (λ x. leaf_lines (view_at t i) l number x.place (leaf_at x.block)) o []) e ∙ so at
    where
      so : (at : ℕ) → option_map_or (λ x. leaf_lines (view_at t i) l number x.place (leaf_at x.block)) (lying_at i at) [] ≡ option_map_or (λ x. leaf_lines (bare site.blocks) l number x.place (leaf_at x.block)) (lying_at i at) []
      so zero = refl
      so (suc p) = leaf_same number (suc p) (leaf_at (i (suc p)))
  below_is (suc level) number at e =
      ap (λ (o : Option Lying). option_map_or (λ x. or_next (inner_lines (view_at t i) l (suc level) number x.place (inner_at x.block)) (flat_map (node_below (layout_at t i) site.slot l level) (range_with_len (fan * number) fan))) o []) e
      ∙ so (λ q at e. below_is level q at e) at e
    where
      so : ((q at : ℕ) → lies level q ≡ lying_at i at → node_below (layout_at t i) site.slot l level q ≡ below i site level q at) → (at : ℕ) → lies (suc level) number ≡ lying_at i at
          → option_map_or (λ x. or_next (inner_lines (view_at t i) l (suc level) number x.place (inner_at x.block)) (flat_map (node_below (layout_at t i) site.slot l level) (range_with_len (fan * number) fan))) (lying_at i at) []
          ≡ below i site (suc level) number at
      so rest zero e = refl
      so rest (suc p) e =
          ap (λ ls. or_next ls (flat_map (node_below (layout_at t i) site.slot l level) (range_with_len (fan * number) fan))) (inner_same (suc level) number (suc p) (inner_at (i (suc p))))
          ∙ ap (or_next (inner_lines (bare site.blocks) l (suc level) number (suc p) (inner_at (i (suc p)))))
          (same_parts (node_below (layout_at t i) site.slot l level) (λ q. below i site level q (child_at site level (shaped (inner_at (i (suc p)))) q)) (range_with_len (fan * number) fan)
          (λ q there. let within = from_range (fan * number) fan q there in let a = within.0 in let b = within.1 in
          rest q (child_at site level (shaped (inner_at (i (suc p)))) q) (child_lies level number p q e (let over : q / fan ≡ number = omega (arith, a, b) in over))))

  -- where the root of the container lies
  pub root_lies : 0 < entry_count l.span → lies l.height 0 ≡ lying_at i l.container
  unfolding tree_below
  root_lies least =
      let some : nat_lt 0 (level_width (entry_count l.span) l.height) ≡ true = wide l.height in
      let low : nat_le l.height l.height ≡ true = grind (arith, nat_tests) in
      let none : l.height - l.height ≡ 0 = omega arith in
      node_is l.height 0
      ∙ ap (λ (b : Bool). if b && nat_lt 0 (level_width (entry_count l.span) l.height) then lying_at i (node_of i l.container l.height l.height 0) else None) low
      ∙ ap (λ (b : Bool). if b then lying_at i (node_of i l.container l.height l.height 0) else None) some
      ∙ ap (λ n. lying_at i (tree_below i l.container n 0)) none
    where
      wide : (h : ℕ) → nat_lt 0 (level_width (entry_count l.span) h) ≡ true
      wide zero = let some : 0 < level_width (entry_count l.span) 0 = omega (arith, least) in grind (arith, nat_tests, some)
      wide (suc h) = let some : 0 < level_width (entry_count l.span) (suc h) = omega arith in grind (arith, nat_tests, some)
