-- Images that agree on all that a root names have the same layout, and so the same machine.
use Rattle.std.proofs.Common.{◌≡◌, ◌≢◌, ℕ, zero, suc, ◌-◌, ◌/◌, ◌<◌, ◌≤◌, Bool, true, false, List, ◌++◌, refl, sym, ap, subst, ◌∙◌, arith, ⊎_elim}
use Rattle.std.specs.Prelude.{Option, Some, None, nat_lt, nat_le, ◌&&◌, ◌==◌, if◌then◌else◌}
use Rattle.std.specs.List.{flat_map, list_any}
use Rattle.std.specs.Option.{option_map}
use Rattle.std.proofs.lemmas.Bool.{cases_lt, and_parts, both_ways}
use Rattle.std.proofs.lemmas.Bool.Decides.{nat_tests}
use Rattle.fv_disk.specs.Shown.{Image}
use Rattle.fv_bits.specs.Bits.{bit_of_area}
use Rattle.fv_codec.specs.declared.label.Label.{Label}
use Rattle.fv_image.specs.Layout.{area_blocks, area_place}
use Rattle.fv_image.specs.NewerRoot.{Taken, root_of}
use Rattle.fv_image.specs.Maps.{area_bits, map_bit}
use Rattle.fv_image.specs.Containers.{level_width, container_entry, node_of}
use Rattle.fv_image.specs.Views.{Placed, entry_count, head_at_slot, label_records, slots}
use Rattle.fv_image.specs.Held.{AgreeOnHeld, AgreeOnNamed, Keeps, Layout, Lying, entry_from, held, held_by, held_by_container, is_held, label_in, label_lying, label_place, layout_at, lying_at, node_from, place_lying, placed, view_at, with_bits}
use Rattle.fv_image.proofs.SameContainers.{AgreeOnTree, same_node, same_entries}
use Rattle.fv_image.proofs.Named.{label_held, node_held, entry_held}

same_lying : (i j : Image) (p : ℕ) → (p ≢ 0 → j p ≡ i p) → lying_at j p ≡ lying_at i p
same_lying i j zero same = refl
same_lying i j (suc p) same = ap (λ (b : List ℕ). let x : Lying = record { place = suc p; block = b } in Some x) (same (omega arith))

same_choice : {X : Type 0} (chosen : Bool) (x y : Option X) → (chosen ≡ true → x ≡ y) → (if chosen then x else None) ≡ (if chosen then y else None)
same_choice true x y same = same refl
same_choice false x y same = refl

-- an entry, where it isn't a hole
abbrev entry_with : ℕ × ℕ → List ℕ → Bool → Option Placed
entry_with e block hole = if hole then None else Some (record { pvbn = e.0; kind = e.1; block = block })

same_entry_with : (e : ℕ × ℕ) (a b : List ℕ) (hole : Bool) → (hole ≡ false → a ≡ b) → entry_with e a hole ≡ entry_with e b hole
same_entry_with e a b true same = refl
same_entry_with e a b false same = ap (λ (block : List ℕ). entry_with e block false) (same refl)

same_placed : (i j : Image) (e : ℕ × ℕ) → ((e.1 == 0) ≡ false → j e.0 ≡ i e.0) → placed j e ≡ placed i e
same_placed i j e same = same_entry_with e (j e.0) (i e.0) (e.1 == 0) same

-- an entry that isn't a hole has a number below the count of entries
entry_within : (i : Image) (root height entries v : ℕ) → ((container_entry i root height entries v).1 == 0) ≡ false → v < entries
unfolding container_entry
entry_within i root height entries v some = ⊎_elim
    (λ within. within)
    (λ past. let test : nat_lt v entries ≡ false = grind (arith, nat_tests) in
    let hole : ((container_entry i root height entries v).1 == 0) ≡ true = rw test refl in
    absurd (both_ways _ some hole))
    (cases_lt v entries)

-- a slot with a label is one of the 64
pub slot_inside : (t : Taken) (i : Image) (s : ℕ) (l : Label) → label_in (label_lying t i s) ≡ Some l → s < 64
unfolding label_place label_in
slot_inside t i s l is = ⊎_elim
    (λ inside. inside)
    (λ past. let test : nat_lt s 64 ≡ false = grind (arith, nat_tests) in
    let none : label_in (label_lying t i s) ≡ None = rw test refl in
    absurd (no_label l (sym none ∙ is)))
    (cases_lt s 64)
  where
    no_label : (l : Label) → ◌≡◌ {A = Option Label} None (Some l) → ⊥
    no_label l e = cc

-- ---- what agreement on the held blocks gives

module _ (t : Taken) (i j : Image) (agree : AgreeOnHeld t i j) where
  same_label : (s : ℕ) → label_lying t j s ≡ label_lying t i s
  same_label s = same_lying i j (label_place t s) (λ some. agree (label_place t s) (label_held t i s some))

  -- the nodes of the container of a label
  agree_on_tree : (s : ℕ) (l : Label) → s < 64 → label_in (label_lying t i s) ≡ Some l → AgreeOnTree i j l.container l.height (entry_count l.span)
  agree_on_tree s l inside is b node = agree b (node_held t i s b l inside is node)

  same_node_at : (s : ℕ) (l : Label) → s < 64 → label_in (label_lying t i s) ≡ Some l → (level number : ℕ) → level ≤ l.height → number < level_width (entry_count l.span) level
      → lying_at j (node_of j l.container l.height level number) ≡ lying_at i (node_of i l.container l.height level number)
  same_node_at s l inside is level number low within =
      let back : l.height - (l.height - level) ≡ level = omega (arith, low) in
      let number_within : number < level_width (entry_count l.span) (l.height - (l.height - level)) = subst (λ (k : ℕ). number < level_width (entry_count l.span) k) (sym back) within in
      let same : node_of j l.container l.height level number ≡ node_of i l.container l.height level number = same_node i j l.container l.height (entry_count l.span) (l.height - level) number (agree_on_tree s l inside is) (omega arith) number_within in
      rw same (same_lying i j (node_of i l.container l.height level number) (λ some. agree _ (node_held t i s _ l inside is (record { level = level; number = number; below = low; within = within; place = refl; some = some }))))

  same_node_from : (s : ℕ) (o : Option Label) → label_in (label_lying t i s) ≡ o → (level number : ℕ) → node_from o j level number ≡ node_from o i level number
  unfolding node_from
  same_node_from s None is level number = refl
  same_node_from s (Some l) is level number = same_choice (nat_le level l.height && nat_lt number (level_width (entry_count l.span) level))
      (lying_at j (node_of j l.container l.height level number)) (lying_at i (node_of i l.container l.height level number))
      (λ both. let parts = and_parts (nat_le level l.height) (nat_lt number (level_width (entry_count l.span) level)) both in
      same_node_at s l (slot_inside t i s l is) is level number (grind (arith, nat_tests, parts.0)) (grind (arith, nat_tests, parts.1)))

  same_entry_from : (s : ℕ) (o : Option Label) → label_in (label_lying t i s) ≡ o → (v : ℕ) → entry_from o j v ≡ entry_from o i v
  unfolding entry_from
  same_entry_from s None is v = refl
  same_entry_from s (Some l) is v =
      rw (same_entries i j l.container l.height (entry_count l.span) (agree_on_tree s l (slot_inside t i s l is) is) v)
      (same_placed i j (container_entry i l.container l.height (entry_count l.span) v) (λ some. agree _ (entry_held t i s v l (slot_inside t i s l is) is (entry_within i l.container l.height (entry_count l.span) v some) some)))

  same_nodes : (s level number : ℕ) → (layout_at t j).node s level number ≡ (layout_at t i).node s level number
  unfolding layout_at
  same_nodes s level number =
      ap (λ (x : Option Lying). node_from (label_in x) j level number) (same_label s)
      ∙ same_node_from s (label_in (label_lying t i s)) refl level number

  pub same_view : view_at t j ≡ view_at t i
  unfolding view_at
  same_view = λ k. record {
    blocks = t.blocks;
    version = t.root.version;
    head = λ s. ap (λ (x : Option Lying). option_map (λ l. head_at_slot t.root.version l (label_records l)) (label_in x)) (same_label s) k;
    entry = λ s v. entries s v k;
  }
    where
      entries : (s v : ℕ) → entry_from (label_in (label_lying t j s)) j v ≡ entry_from (label_in (label_lying t i s)) i v
      entries s v =
          ap (λ (x : Option Lying). entry_from (label_in x) j v) (same_label s)
          ∙ same_entry_from s (label_in (label_lying t i s)) refl v

  -- the layouts are equal but for the aggregate map
  pub same_but_bits : (bits : ℕ → Bool) → ((b : ℕ) → map_bit t j b ≡ bits b) → layout_at t j ≡ with_bits bits (layout_at t i)
  unfolding layout_at
  same_but_bits bits are = λ k. record {
    view = same_view k;
    label = λ s. same_label s k;
    node = λ s level number. same_nodes s level number k;
    bit = λ b. are b k;
  }

-- ---- the aggregate map

same_bit : (t : Taken) (i j : Image) → ((k : ℕ) → k < area_blocks t.blocks → j (area_place t.blocks t.slot k) ≡ i (area_place t.blocks t.slot k)) → (b : ℕ) → map_bit t j b ≡ map_bit t i b
unfolding map_bit bit_of_area
same_bit t i j area b = ⊎_elim
    (λ (inside : b < area_bits t.blocks). let within : b / 32768 < area_blocks t.blocks = omega arith in rw (area (b / 32768) within) refl)
    (λ (past : area_bits t.blocks ≤ b). let test : nat_lt b (area_bits t.blocks) ≡ false = grind (arith, nat_tests) in rw test refl)
    (cases_lt b (area_bits t.blocks))

-- Images that agree on all that a root names have the same layout under it.
pub same_layout : (t : Taken) (i j : Image) → AgreeOnNamed t i j → layout_at t j ≡ layout_at t i
unfolding layout_at
same_layout t i j agree = same_but_bits t i j agree.held (map_bit t i) (same_bit t i j agree.area) ∙ own_bits
  where
    own_bits : with_bits (map_bit t i) (layout_at t i) ≡ layout_at t i
    own_bits = refl

-- ---- the root

pub same_root : (i j : Image) → ((b : ℕ) → b < 5 → j b ≡ i b) → root_of j ≡ root_of i
unfolding root_of
same_root i j fixed = rw (fixed 0 (omega arith), fixed 1 (omega arith), fixed 2 (omega arith), fixed 3 (omega arith), fixed 4 (omega arith)) refl

-- ---- writes

-- An image that agrees on the fixed blocks and on all that the root names keeps the root and the layout.
pub kept : (t : Taken) (i c : Image) → root_of i ≡ Some t → ((b : ℕ) → b < 5 → c b ≡ i b) → AgreeOnNamed t i c → Keeps t i c
kept t i c root fixed agree = record { root = same_root i c fixed ∙ root; layout = same_layout t i c agree }

-- ---- the aggregate map plays no part in what is held

pub held_by_with_bits : (bits : ℕ → Bool) (y : Layout) (s : ℕ) → held_by (with_bits bits y) s ≡ held_by y s
unfolding held_by held_by_container
held_by_with_bits bits y s = ap (λ (xs : List ℕ). place_lying (y.label s) ++ xs) (by_label (label_in (y.label s)))
  where
    by_label : (o : Option Label) → held_by_container (with_bits bits y) s o ≡ held_by_container y s o
    by_label None = refl
    by_label (Some l) = refl

pub held_with_bits : (bits : ℕ → Bool) (y : Layout) (b : ℕ) → is_held (with_bits bits y) b ≡ is_held y b
unfolding held
held_with_bits bits y b = ap (λ (by : ℕ → List ℕ). list_any (λ x. x == b) (flat_map by slots)) (λ k s. held_by_with_bits bits y s k)
