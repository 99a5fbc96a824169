-- Which blocks the volume of a slot holds in an image, and how often.
use Rattle.std.proofs.Common.{◌≡◌, ◌≢◌, ℕ, zero, suc, ◌+◌, ◌<◌, ◌≤◌, Bool, true, false, List, ◌++◌, refl, sym, ap, subst, ◌∙◌, arith, ⊎_elim, inl, inr, ◌⊎◌}
use Rattle.std.specs.Prelude.{Option, Some, None, nat_le, nat_lt, ◌==◌, if◌then◌else◌, flat_map}
use Rattle.std.specs.List.{range_with_len}
use Rattle.std.proofs.lemmas.Bool.{both_ways, or_cases}
use Rattle.std.proofs.lemmas.Bool.Decides.{nat_tests}
use Rattle.std.proofs.lemmas.List.Folds.{list_any-append}
use Rattle.fv_disk.specs.Shown.{Image}
use Rattle.fv_codec.specs.declared.label.Label.{Label}
use Rattle.fv_image.specs.NewerRoot.{Taken}
use Rattle.fv_image.specs.Containers.{level_width, node_of}
use Rattle.fv_image.specs.Views.{entry_count, vvbns}
use Rattle.fv_image.specs.Held.{layout_at, view_at, lying_at, label_place, label_lying, label_in, node_from, entry_from, placed, place_lying, place_of, at_positions, held_by_container, held_by}
use Rattle.fv_image.specs.Whole.{is_held_by}
use Rattle.fv_image.specs.Reclaimed.{IsEntryPlace, IsHeldPlace, IsNodeOf, entry_at}
use Rattle.fv_image.proofs.Named.{is_in, in_left, in_right, in_part, place_in, entry_in}

-- truth values of which each is true where the other is
pub same_truth : (p q : Bool) → (p ≡ true → q ≡ true) → (q ≡ true → p ≡ true) → p ≡ q
same_truth true q to from = sym (to refl)
same_truth false true to from = from refl
same_truth false false to from = refl

-- ---- numbers in lists

pub in_either : (b : ℕ) (xs ys : List ℕ) → is_in b (xs ++ ys) ≡ true → (is_in b xs ≡ true) ⊎ (is_in b ys ≡ true)
in_either b xs ys there = or_cases (is_in b xs) (is_in b ys) (sym (list_any-append (λ x. x == b) xs ys) ∙ there)

-- the part for a number of a range in which one is
pub part_with : (part : ℕ → List ℕ) (b from count : ℕ) → is_in b (flat_map part (range_with_len from count)) ≡ true → (k : ℕ) × (from ≤ k) × (k < from + count) × (is_in b (part k) ≡ true)
part_with part b from zero there = absurd cc
part_with part b from (suc count) there = ⊎_elim
    (λ (here : is_in b (part from) ≡ true). (from, omega arith, omega arith, here))
    (λ (later : is_in b (flat_map part (range_with_len (from + 1) count)) ≡ true). let p = part_with part b (from + 1) count later in (p.0, omega (arith, p.1), omega (arith, p.2), p.3))
    (in_either b (part from) (flat_map part (range_with_len (from + 1) count)) there)

same_number : (a b : ℕ) → (a == b) ≡ true → b ≡ a
same_number a b e = grind (arith, nat_tests)

pub in_place : (i : Image) (p b : ℕ) → is_in b (place_lying (lying_at i p)) ≡ true → (b ≡ p) × (b ≢ 0)
in_place i zero b there = absurd cc
in_place i (suc p) b there = ⊎_elim
    (λ (here : (suc p == b) ≡ true). let e : b ≡ suc p = same_number (suc p) b here in (e, λ none. omega (arith, e, none)))
    (λ (later : false ≡ true). absurd cc)
    (or_cases (suc p == b) false there)

pub in_entry : (i : Image) (e : ℕ × ℕ) (b : ℕ) → is_in b (place_of (placed i e)) ≡ true → (e.1 ≢ 0) × (b ≡ e.0)
in_entry i e b there = so (e.1 == 0) refl there
  where
    so : (hole : Bool) → (e.1 == 0) ≡ hole → is_in b (place_of (if hole then None else Some (record { pvbn = e.0; kind = e.1; block = i e.0 }))) ≡ true → (e.1 ≢ 0) × (b ≡ e.0)
    so true is there = absurd cc
    so false is there = ⊎_elim
        (λ (here : (e.0 == b) ≡ true). ((λ (none : e.1 ≡ 0). let test : (e.1 == 0) ≡ true = rw none refl in both_ways _ is test), same_number e.0 b here))
        (λ (later : false ≡ true). absurd cc)
        (or_cases (e.0 == b) false there)

-- ---- the lists of blocks that a container's nodes and its entries hold

abbrev pub node_blocks : Image → Label → ℕ → ℕ → List ℕ
node_blocks i l level number = place_lying (node_from (Some l) i level number)

abbrev pub entry_blocks : Image → Label → ℕ → List ℕ
entry_blocks i l v = place_of (entry_from (Some l) i v)

pub node_lies : (i : Image) (l : Label) (level number : ℕ) → level ≤ l.height → number < level_width (entry_count l.span) level → node_from (Some l) i level number ≡ lying_at i (node_of i l.container l.height level number)
unfolding node_from
node_lies i l level number low within =
    let first : nat_le level l.height ≡ true = grind (arith, nat_tests, low) in
    let second : nat_lt number (level_width (entry_count l.span) level) ≡ true = grind (arith, nat_tests, within) in
    rw (first, second) refl

-- a block of a position is its node's place, and is one
pub in_node : (i : Image) (l : Label) (b level number : ℕ) → level ≤ l.height → number < level_width (entry_count l.span) level → is_in b (node_blocks i l level number) ≡ true → (b ≡ node_of i l.container l.height level number) × (b ≢ 0)
in_node i l b level number low within held = in_place i (node_of i l.container l.height level number) b (subst (λ o. is_in b (place_lying o) ≡ true) (node_lies i l level number low within) held)

-- ---- the blocks of a volume

module _ (t : Taken) (i : Image) (s : ℕ) (l : Label) (there : label_in (label_lying t i s) ≡ Some l) where
  pub label_some : label_place t s ≢ 0
  unfolding label_in
  label_some none = no_label (sym (ap (λ (p : ℕ). label_in (lying_at i p)) none) ∙ there)
    where
      no_label : ◌≡◌ {A = Option Label} None (Some l) → ⊥
      no_label e = cc

  -- what the slot holds, by its label
  pub held_list : held_by (layout_at t i) s ≡ place_lying (label_lying t i s) ++ (at_positions l (node_blocks i l) ++ flat_map (entry_blocks i l) (vvbns l.span))
  unfolding held_by held_by_container layout_at view_at
  held_list = ap (λ (xs : List ℕ). place_lying (label_lying t i s) ++ xs) (
      ap (held_by_container (layout_at t i) s) there
      ∙ ap (λ (o : Option Label). at_positions l (λ level number. place_lying (node_from o i level number)) ++ flat_map (λ v. place_of (entry_from o i v)) (vvbns l.span)) there)

  pub in_nodes : (b : ℕ) → is_in b (at_positions l (node_blocks i l)) ≡ true → IsNodeOf i l b
  unfolding at_positions
  in_nodes b held =
      let row = part_with (λ level. flat_map (node_blocks i l level) (range_with_len 0 (level_width (entry_count l.span) level))) b 0 (suc l.height) held in
      let one = part_with (node_blocks i l row.0) b 0 (level_width (entry_count l.span) row.0) row.3 in
      let low : row.0 ≤ l.height = omega (arith, row.2) in
      let within : one.0 < level_width (entry_count l.span) row.0 = omega (arith, one.2) in
      let place = in_node i l b row.0 one.0 low within one.3 in
      record {
        level = row.0;
        number = one.0;
        below = low;
        within = within;
        place = place.0;
        some = place.1;
      }

  pub nodes_in : (b : ℕ) → IsNodeOf i l b → is_in b (at_positions l (node_blocks i l)) ≡ true
  unfolding at_positions
  nodes_in b node =
      in_part (λ level. flat_map (node_blocks i l level) (range_with_len 0 (level_width (entry_count l.span) level))) b node.level 0 (suc l.height) (omega arith) (omega (arith, node.below))
      (in_part (node_blocks i l node.level) b node.number 0 (level_width (entry_count l.span) node.level) (omega arith) (omega (arith, node.within))
      (subst (λ o. is_in b (place_lying o) ≡ true) (sym (node_lies i l node.level node.number node.below node.within))
      (subst (λ (p : ℕ). is_in b (place_lying (lying_at i p)) ≡ true) node.place (place_in i b node.some))))

  pub in_entries : (b : ℕ) → is_in b (flat_map (entry_blocks i l) (vvbns l.span)) ≡ true → IsEntryPlace i l b
  unfolding vvbns entry_from
  in_entries b held =
      let one = part_with (entry_blocks i l) b 0 (entry_count l.span) held in
      let entry = in_entry i (entry_at i l one.0) b one.3 in
      record { vvbn = one.0; within = omega (arith, one.2); kind = entry.0; place = entry.1 }

  pub entries_in : (b : ℕ) → IsEntryPlace i l b → is_in b (flat_map (entry_blocks i l) (vvbns l.span)) ≡ true
  unfolding vvbns entry_from
  entries_in b entry = in_part (entry_blocks i l) b entry.vvbn 0 (entry_count l.span) (omega arith) (omega (arith, entry.within))
      (subst (λ (n : ℕ). is_in n (place_of (placed i (entry_at i l entry.vvbn))) ≡ true) (sym entry.place) (entry_in i (entry_at i l entry.vvbn) (other _ entry.kind)))
    where
      other : (n : ℕ) → n ≢ 0 → (n == 0) ≡ false
      other n some = grind (arith, nat_tests)

  -- A block that the slot holds is its label's, a node's or an entry's.
  pub held_is_block : (b : ℕ) → is_held_by (layout_at t i) s b ≡ true → IsHeldPlace t i s l b
  held_is_block b held = ⊎_elim
      (λ label. inl (in_place i (label_place t s) b label).0)
      (λ rest. inr (⊎_elim
      (λ nodes. inl (in_nodes b nodes))
      (λ entries. inr (in_entries b entries))
      (in_either b (at_positions l (node_blocks i l)) (flat_map (entry_blocks i l) (vvbns l.span)) rest)))
      (in_either b (place_lying (label_lying t i s)) (at_positions l (node_blocks i l) ++ flat_map (entry_blocks i l) (vvbns l.span)) (ap (is_in b) (sym held_list) ∙ held))

  -- And each of these is held.
  pub block_is_held : (b : ℕ) → IsHeldPlace t i s l b → is_held_by (layout_at t i) s b ≡ true
  block_is_held b block = ap (is_in b) held_list ∙ ⊎_elim
      (λ (label : b ≡ label_place t s). in_left b (place_lying (label_lying t i s)) rest (subst (λ (n : ℕ). is_in n (place_lying (label_lying t i s)) ≡ true) (sym label) (place_in i (label_place t s) label_some)))
      (λ (inner : IsNodeOf i l b ⊎ IsEntryPlace i l b). in_right b (place_lying (label_lying t i s)) rest (⊎_elim
      (λ (node : IsNodeOf i l b). in_left b (at_positions l (node_blocks i l)) (flat_map (entry_blocks i l) (vvbns l.span)) (nodes_in b node))
      (λ (entry : IsEntryPlace i l b). in_right b (at_positions l (node_blocks i l)) (flat_map (entry_blocks i l) (vvbns l.span)) (entries_in b entry))
      inner))
      block
    where
      rest : List ℕ
      rest = at_positions l (node_blocks i l) ++ flat_map (entry_blocks i l) (vvbns l.span)

  -- So a test of what the slot holds is one of these blocks.
  pub held_is : (b : ℕ) (test : Bool) → (test ≡ true → IsHeldPlace t i s l b) → (IsHeldPlace t i s l b → test ≡ true) → is_held_by (layout_at t i) s b ≡ test
  held_is b test from to = same_truth (is_held_by (layout_at t i) s b) test (λ held. to (held_is_block b held)) (λ e. block_is_held b (from e))

-- a slot without a label holds nothing
pub none_held : (t : Taken) (i : Image) (s b : ℕ) → label_place t s ≡ 0 → is_held_by (layout_at t i) s b ≡ false
unfolding held_by held_by_container layout_at label_in
none_held t i s b none = rw none refl
