-- All that a layout depends on is held: labels, nodes of containers, and the blocks in their entries.
use Rattle.std.proofs.Common.{◌≡◌, ◌≢◌, ℕ, zero, suc, ◌+◌, ◌<◌, ◌≤◌, Bool, true, false, List, ◌++◌, refl, sym, subst, arith, ⊎_elim}
use Rattle.std.specs.Prelude.{Option, Some, nat_lt, nat_le, flat_map, ◌==◌}
use Rattle.std.specs.List.{list_any, range_with_len}
use Rattle.std.proofs.lemmas.Bool.{cases_eq, cases_lt, or_left, or_right}
use Rattle.std.proofs.lemmas.Bool.Decides.{nat_tests}
use Rattle.std.proofs.lemmas.List.Folds.{list_any-append}
use Rattle.fv_disk.specs.Shown.{Image}
use Rattle.fv_codec.specs.declared.label.Label.{Label}
use Rattle.fv_image.specs.NewerRoot.{Taken}
use Rattle.fv_image.specs.Containers.{level_width, container_entry, IsNodePlace}
use Rattle.fv_image.specs.Views.{slots, entry_count, vvbns}
use Rattle.fv_image.specs.Held.{Layout, layout_at, view_at, lying_at, label_place, label_lying, label_in, node_from, entry_from, placed, place_lying, place_of, at_positions, held_by_container, held_by, held, is_held}

-- ---- numbers in lists

abbrev pub is_in : ℕ → List ℕ → Bool
is_in b xs = list_any (λ x. x == b) xs

pub in_left : (b : ℕ) (xs ys : List ℕ) → is_in b xs ≡ true → is_in b (xs ++ ys) ≡ true
in_left b xs ys there = rw (list_any-append (λ x. x == b) xs ys) (or_left (is_in b xs) (is_in b ys) there)

pub in_right : (b : ℕ) (xs ys : List ℕ) → is_in b ys ≡ true → is_in b (xs ++ ys) ≡ true
in_right b xs ys there = rw (list_any-append (λ x. x == b) xs ys) (or_right (is_in b xs) (is_in b ys) there)

-- in the part for one number of a range
pub in_part : (part : ℕ → List ℕ) (b k from count : ℕ) → from ≤ k → k < from + count → is_in b (part k) ≡ true → is_in b (flat_map part (range_with_len from count)) ≡ true
in_part part b k from zero low high there = absurd (omega arith)
in_part part b k from (suc count) low high there = ⊎_elim
    (λ (e : k ≡ from). in_left b (part from) (flat_map part (range_with_len (from + 1) count)) (subst (λ (n : ℕ). is_in b (part n) ≡ true) e there))
    (λ ne. in_right b (part from) (flat_map part (range_with_len (from + 1) count)) (in_part part b k (from + 1) count (omega arith) (omega arith) there))
    (cases_eq k from)

-- ---- places

pub is_itself : (b : ℕ) → (b == b) ≡ true
is_itself b = grind (arith, nat_tests)

pub place_in : (i : Image) (p : ℕ) → p ≢ 0 → is_in p (place_lying (lying_at i p)) ≡ true
place_in i zero some = absurd (some refl)
place_in i (suc p) some = or_left (suc p == suc p) false (is_itself (suc p))

pub entry_in : (i : Image) (e : ℕ × ℕ) → (e.1 == 0) ≡ false → is_in e.0 (place_of (placed i e)) ≡ true
entry_in i e some = rw some (or_left (e.0 == e.0) false (is_itself e.0))

-- ---- the blocks that a slot holds

pub slot_in : (y : Layout) (s b : ℕ) → s < 64 → is_in b (held_by y s) ≡ true → is_held y b ≡ true
unfolding held slots
slot_in y s b inside there = in_part (held_by y) b s 0 64 (omega arith) inside there

pub label_inside : (t : Taken) (s : ℕ) → label_place t s ≢ 0 → s < 64
unfolding label_place
label_inside t s some = ⊎_elim (λ inside. inside) (λ past. absurd (some (let test : nat_lt s 64 ≡ false = grind (arith, nat_tests) in rw test refl))) (cases_lt s 64)

pub label_held : (t : Taken) (i : Image) (s : ℕ) → label_place t s ≢ 0 → is_held (layout_at t i) (label_place t s) ≡ true
unfolding held_by layout_at
label_held t i s some = slot_in (layout_at t i) s (label_place t s) (label_inside t s some)
    (in_left (label_place t s) (place_lying (label_lying t i s)) (held_by_container (layout_at t i) s (label_in (label_lying t i s))) (place_in i (label_place t s) some))

-- what the container of a label holds
in_container : (t : Taken) (i : Image) (s b : ℕ) (l : Label) → s < 64 → label_in (label_lying t i s) ≡ Some l → is_in b (held_by_container (layout_at t i) s (Some l)) ≡ true → is_held (layout_at t i) b ≡ true
unfolding held_by layout_at
in_container t i s b l inside is there = slot_in (layout_at t i) s b inside
    (in_right b (place_lying (label_lying t i s)) (held_by_container (layout_at t i) s (label_in (label_lying t i s)))
    (subst (λ (o : Option Label). is_in b (held_by_container (layout_at t i) s o) ≡ true) (sym is) there))

pub node_held : (t : Taken) (i : Image) (s b : ℕ) (l : Label) → s < 64 → label_in (label_lying t i s) ≡ Some l → IsNodePlace i l.container l.height (entry_count l.span) b → is_held (layout_at t i) b ≡ true
unfolding held_by_container at_positions layout_at node_from
node_held t i s b l inside is node = in_container t i s b l inside is
    (in_left b (at_positions l (λ level number. place_lying ((layout_at t i).node s level number))) (flat_map (λ v. place_of ((layout_at t i).view.entry s v)) (vvbns l.span))
    (in_part (λ level. flat_map (λ number. place_lying ((layout_at t i).node s level number)) (range_with_len 0 (level_width (entry_count l.span) level))) b node.level 0 (suc l.height) (omega arith) (omega (arith, node.below))
    (in_part (λ number. place_lying ((layout_at t i).node s node.level number)) b node.number 0 (level_width (entry_count l.span) node.level) (omega arith) (omega (arith, node.within))
    (subst (λ (o : Option Label). is_in b (place_lying (node_from o i node.level node.number)) ≡ true) (sym is) (here l node)))))
  where
    here : (l : Label) (node : IsNodePlace i l.container l.height (entry_count l.span) b) → is_in b (place_lying (node_from (Some l) i node.level node.number)) ≡ true
    here l node =
        let low : nat_le node.level l.height ≡ true = grind (arith, nat_tests, node.below) in
        let within : nat_lt node.number (level_width (entry_count l.span) node.level) ≡ true = grind (arith, nat_tests, node.within) in
        rw (low, within) (subst (λ (p : ℕ). is_in b (place_lying (lying_at i p)) ≡ true) node.place (place_in i b node.some))

pub entry_held : (t : Taken) (i : Image) (s v : ℕ) (l : Label) → s < 64 → label_in (label_lying t i s) ≡ Some l → v < entry_count l.span
    → ((container_entry i l.container l.height (entry_count l.span) v).1 == 0) ≡ false → is_held (layout_at t i) (container_entry i l.container l.height (entry_count l.span) v).0 ≡ true
unfolding held_by_container layout_at view_at vvbns entry_from
entry_held t i s v l inside is within some =
    let e : ℕ × ℕ = container_entry i l.container l.height (entry_count l.span) v in
    in_container t i s e.0 l inside is
    (in_right e.0 (at_positions l (λ level number. place_lying ((layout_at t i).node s level number))) (flat_map (λ v. place_of ((layout_at t i).view.entry s v)) (vvbns l.span))
    (in_part (λ v. place_of ((layout_at t i).view.entry s v)) e.0 v 0 (entry_count l.span) (omega arith) (omega (arith, within))
    (subst (λ (o : Option Label). is_in e.0 (place_of (entry_from o i v)) ≡ true) (sym is) (here l some))))
  where
    here : (l : Label) → ((container_entry i l.container l.height (entry_count l.span) v).1 == 0) ≡ false → is_in (container_entry i l.container l.height (entry_count l.span) v).0 (place_of (entry_from (Some l) i v)) ≡ true
    here l some = entry_in i (container_entry i l.container l.height (entry_count l.span) v) some
