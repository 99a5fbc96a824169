-- Rule 10, marks: no mark has a stamp below one directly under it, said of the mark, and of each pointer that stands in a node.
use Rattle.std.proofs.Common.{◌≡◌, ◌≢◌, ℕ, ◌+◌, ◌-◌, ◌≤◌, ◌<◌, Bool, true, false, not, List, [], ◌∷◌, map, inl, inr, refl, sym, ap, subst, ◌∙◌, arith, ⊎_elim, Result, Ok, Err}
use Rattle.std.specs.Prelude.{Option, Some, None, ◌||◌, ◌==◌, nat_lt, nat_le, max, fold, if◌then◌else◌}
use Rattle.std.specs.List.{enumerate_from}
use Rattle.std.specs.Option.{option_map_or}
use Rattle.std.proofs.lemmas.Bool.{or_left, or_right, cases_eq}
use Rattle.std.proofs.lemmas.Bool.Decides.{nat_tests}
use Rattle.fv_codec.specs.declared.shape.Shape.{Shape}
use Rattle.fv_codec.specs.declared.node.Node.{Node}
use Rattle.fv_codec.specs.Blocks.{node_at}
use Rattle.fv_laws.proofs.Lists.{In, from_map}
use Rattle.fv_tables.specs.Reached.{Item}
use Rattle.fv_image.specs.Views.{Placed, Rooted}
use Rattle.fv_faults.specs.Walks.{Ground, child_of, children_of, file_root, files_under, pointers_under}
use Rattle.fv_faults.specs.ThirdPass.{greatest_stamp}
use Rattle.fv_faults.proofs.Plain.{place_at, met}
use Rattle.fv_faults.proofs.Members.{all_met}
use Rattle.fv_faults.proofs.Unknown.{under_holder}
use Rattle.fv_faults.proofs.Bridge.{met_down, met_up}

-- ---- the greatest of some stamps

fold_from : (n : ℕ) (es : List Item) → n ≤ fold (λ n e. max n e.pointer.stamp) n es
fold_from n [] = omega arith
fold_from n (e ∷ es) = let rest = fold_from (max n e.pointer.stamp) es in omega (arith, rest)

among : (n : ℕ) (es : List Item) (c : Item) → In c es → c.pointer.stamp ≤ fold (λ n e. max n e.pointer.stamp) n es
among n [] c there = absurd there
among n (e ∷ es) c (inl is) = let same : e.pointer.stamp ≡ c.pointer.stamp = ap (λ (d : Item). d.pointer.stamp) is in let rest = fold_from (max n e.pointer.stamp) es in omega (arith, rest, same)
among n (e ∷ es) c (inr later) = among (max n e.pointer.stamp) es c later

least : (n most : ℕ) (es : List Item) → n ≤ most → ((c : Item) → In c es → c.pointer.stamp ≤ most) → fold (λ n e. max n e.pointer.stamp) n es ≤ most
least n most [] low each = low
least n most (e ∷ es) low each = least (max n e.pointer.stamp) most es (let here = each e (inl refl) in omega (arith, here, low)) (λ c there. each c (inr there))

-- ---- where a pointer in a block stands

-- below a cell of the inode file it is a file's root, and else one level below, of the same tree
pub at_cell : (e c : Item) (x : Placed) → (e.level == 0) ≡ true → In c (pointers_under e x) → c.level ≡ c.levels
unfolding pointers_under
at_cell e c x low there =
    let one = from_map (file_root e) c (files_under e x) (subst (λ (b : Bool). In c (if b then map (file_root e) (files_under e x) else children_of e (node_at x.block))) low there) in
    ap (λ (d : Item). d.level) (sym one.2) ∙ ap (λ (d : Item). d.levels) one.2

pub in_node : (e c : Item) (x : Placed) → (e.level == 0) ≡ false → In c (pointers_under e x) → (c.level + 1 ≡ e.level) × (c.levels ≡ e.levels)
unfolding pointers_under
in_node e c x high there = so (node_at x.block) (subst (λ (b : Bool). In c (if b then map (file_root e) (files_under e x) else children_of e (node_at x.block))) high there)
  where
    so : (r : Result Node Shape) → In c (children_of e r) → (c.level + 1 ≡ e.level) × (c.levels ≡ e.levels)
    so (Err f) there = absurd there
    so (Ok n) there =
        let one = from_map (child_of e) c (enumerate_from 0 n.children) there in
        let level : c.level ≡ e.level - 1 = ap (λ (d : Item). d.level) (sym one.2) in
        let some : e.level ≢ 0 = grind (arith, nat_tests, high) in
        (omega (arith, level, some), ap (λ (d : Item). d.levels) (sym one.2))

module _ (g : Ground) where
  -- of a mark, and of a pointer that stands in a node (as soundness tests it); a position above the tree's levels is no mark
  abbrev pub rises_over : Item → Bool
  rises_over e = (e.level == 0) || (nat_lt e.levels e.level || option_map_or (λ x. nat_le (greatest_stamp (pointers_under e x)) e.pointer.stamp) (place_at g e) true)

  abbrev pub stays_under : Item → Bool
  stays_under e = not (nat_lt e.level e.levels) || nat_le e.pointer.stamp e.holder.stamp

  down : (e : Item) (x : Placed) → e.pointer.stamp ≢ 0 → place_at g e ≡ Some x → rises_over e ≡ true → (c : Item) → In c (pointers_under e x) → stays_under c ≡ true
  down e x some found rises c there = so (e.level == 0) refl (nat_lt e.levels e.level) refl
      (sym (ap (λ (o : Option Placed). (e.level == 0) || (nat_lt e.levels e.level || option_map_or (λ x. nat_le (greatest_stamp (pointers_under e x)) e.pointer.stamp) o true)) found) ∙ rises)
    where
      not_below : c.levels ≤ c.level → stays_under c ≡ true
      not_below high = or_left (not (nat_lt c.level c.levels)) _ (let test : nat_lt c.level c.levels ≡ false = grind (arith, nat_tests, high) in ap not test)

      so : (l : Bool) → (e.level == 0) ≡ l → (h : Bool) → nat_lt e.levels e.level ≡ h → (l || (h || nat_le (greatest_stamp (pointers_under e x)) e.pointer.stamp)) ≡ true → stays_under c ≡ true
      so true i h j is = not_below (let same = at_cell e c x i there in omega (arith, same))
      so false i true j is =
          let at = in_node e c x i there in
          let above : e.levels < e.level = grind (arith, nat_tests, j) in
          not_below (omega (arith, at.0, at.1, above))
      so false i false j is =
          let most : greatest_stamp (pointers_under e x) ≤ e.pointer.stamp = grind (arith, nat_tests, is) in
          let one = among 0 (pointers_under e x) c there in
          let holder : c.holder.stamp ≡ e.pointer.stamp = ap (λ p. p.stamp) (under_holder e c x there) in
          or_right (not (nat_lt c.level c.levels)) _ (let low : c.pointer.stamp ≤ c.holder.stamp = omega (arith, most, one, holder) in let test : nat_le c.pointer.stamp c.holder.stamp ≡ true = grind (arith, nat_tests, low) in test)

  back : (e : Item) (x : Placed) → e.pointer.stamp ≢ 0 → place_at g e ≡ Some x → ((c : Item) → In c (pointers_under e x) → c.pointer.stamp ≢ 0 → stays_under c ≡ true) → rises_over e ≡ true
  back e x some found each = so (e.level == 0) refl (nat_lt e.levels e.level) refl
    where
      so : (l : Bool) → (e.level == 0) ≡ l → (h : Bool) → nat_lt e.levels e.level ≡ h → rises_over e ≡ true
      so true i h j = or_left (e.level == 0) _ i
      so false i true j = or_right (e.level == 0) _ (or_left (nat_lt e.levels e.level) _ j)
      so false i false j =
          let within : e.level ≤ e.levels = grind (arith, nat_tests, j) in
          let all = least 0 e.pointer.stamp (pointers_under e x) (omega arith) (λ c there. ⊎_elim
          (λ (none : c.pointer.stamp ≡ 0). omega (arith, none))
          (λ (stands : c.pointer.stamp ≢ 0).
          let at = in_node e c x i there in
          let below : nat_lt c.level c.levels ≡ true = (let low : c.level < c.levels = omega (arith, at.0, at.1, within) in grind (arith, nat_tests, low)) in
          let test : nat_le c.pointer.stamp c.holder.stamp ≡ true = sym (ap (λ (b : Bool). not b || nat_le c.pointer.stamp c.holder.stamp) below) ∙ each c there stands in
          let holder : c.holder.stamp ≡ e.pointer.stamp = ap (λ p. p.stamp) (under_holder e c x there) in
          let low : c.pointer.stamp ≤ c.holder.stamp = grind (arith, nat_tests, test) in
          omega (arith, low, holder))
          (cases_eq c.pointer.stamp 0)) in
          or_right (e.level == 0) _ (or_right (nat_lt e.levels e.level) _
          (ap (λ (o : Option Placed). option_map_or (λ x. nat_le (greatest_stamp (pointers_under e x)) e.pointer.stamp) o true) found ∙ (let test : nat_le (greatest_stamp (pointers_under e x)) e.pointer.stamp ≡ true = grind (arith, nat_tests, all) in test)))

  alone : (e : Item) → place_at g e ≡ None → rises_over e ≡ true
  alone e none = or_right (e.level == 0) _ (or_right (nat_lt e.levels e.level) _ (ap (λ (o : Option Placed). option_map_or (λ x. nat_le (greatest_stamp (pointers_under e x)) e.pointer.stamp) o true) none))

  -- On all that a root meets both ways of saying it hold together.
  pub marks_down : (label : ℕ) (r : Rooted) → all_met rises_over (met g label r) ≡ true → all_met stays_under (met g label r) ≡ true
  marks_down label r all = met_down g rises_over stays_under down label r
      (or_left (not (nat_lt r.levels r.levels)) _ (let test : nat_lt r.levels r.levels ≡ false = grind (arith, nat_tests) in ap not test)) all

  pub marks_up : (label : ℕ) (r : Rooted) → r.levels ≤ 2 → all_met stays_under (met g label r) ≡ true → all_met rises_over (met g label r) ≡ true
  marks_up label r fits all = met_up g rises_over stays_under back alone label r fits all
