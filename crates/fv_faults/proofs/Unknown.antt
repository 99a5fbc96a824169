-- Rule 12: no known pointer leads to a block with an unknown one, said of each pointer by what stands in its block, and of each pointer by what leads to the
-- block in which it stands.
use Rattle.std.proofs.Common.{◌≡◌, ◌≢◌, ℕ, ◌+◌, Bool, true, false, not, List, [], ◌∷◌, map, inl, inr, refl, sym, ap, subst, ◌∙◌, arith, ⊎_elim, Result, Ok, Err}
use Rattle.std.specs.Prelude.{Option, Some, None, flat_map, count_by, ◌&&◌, ◌||◌, ◌==◌, if◌then◌else◌}
use Rattle.std.specs.List.{enumerate_from}
use Rattle.std.specs.Option.{option_map_or}
use Rattle.std.proofs.lemmas.Bool.{and_parts, and_from, or_left, or_right, cases_eq}
use Rattle.std.proofs.lemmas.Bool.Decides.{nat_tests}
use Rattle.std.proofs.lemmas.List.Sums.{sum_by-cons}
use Rattle.fv_codec.specs.declared.shape.Shape.{Shape}
use Rattle.fv_codec.specs.declared.pointer.Pointer.{Pointer}
use Rattle.fv_codec.specs.declared.node.Node.{Node}
use Rattle.fv_codec.specs.Blocks.{greatest_word, node_at, inodes_at}
use Rattle.fv_laws.proofs.Lists.{In, from_map}
use Rattle.fv_tables.specs.Reached.{Item}
use Rattle.fv_image.specs.Views.{Placed}
use Rattle.fv_image.specs.HintRules.{is_unknown}
use Rattle.fv_image.specs.HintRules.{is_known, is_in_label}
use Rattle.fv_faults.specs.Walks.{Ground, child_of, children_of, file_root, files_of, files_under, pointers_under}
use Rattle.fv_faults.specs.FourthPass.{unknown_under}
use Rattle.fv_faults.proofs.Plain.{place_at}

-- ---- what stands in a block

holders_of : (e c : Item) (r : Result Node Shape) → In c (children_of e r) → c.holder ≡ e.pointer
holders_of e c (Ok n) there = let one = from_map (child_of e) c (enumerate_from 0 n.children) there in ap (λ (d : Item). d.holder) (sym one.2)
holders_of e c (Err f) there = absurd there

-- each pointer in the block to which one leads has that one as its holder
pub under_holder : (e c : Item) (x : Placed) → In c (pointers_under e x) → c.holder ≡ e.pointer
unfolding pointers_under
under_holder e c x there = so (e.level == 0) there
  where
    so : (b : Bool) → In c (if b then map (file_root e) (files_under e x) else children_of e (node_at x.block)) → c.holder ≡ e.pointer
    so true there = let one = from_map (file_root e) c (files_under e x) there in ap (λ (d : Item). d.holder) (sym one.2)
    so false there = holders_of e c (node_at x.block) there

-- data has none
pub none_in_data : (e : Item) (x : Placed) → e.level ≡ 0 → e.owner ≢ greatest_word → pointers_under e x ≡ []
unfolding pointers_under files_under
none_in_data e x low other =
    let level : (e.level == 0) ≡ true = grind (arith, nat_tests, low) in
    let owner : (e.owner == greatest_word) ≡ false = grind (arith, nat_tests, other) in
    let none : ((e.level == 0) && (e.owner == greatest_word)) ≡ false = rw (level, owner) refl in
    let files : files_under e x ≡ [] = ap (λ (b : Bool). if b then files_of e.place (inodes_at x.block) else []) none in
    ap (λ (b : Bool). if b then map (file_root e) (files_under e x) else children_of e (node_at x.block)) level ∙ ap (map (file_root e)) files

-- ---- counts

pub counted_none : {X : Type 0} (p : X → Bool) (xs : List X) → count_by p xs ≡ 0 → (x : X) → In x xs → p x ≡ false
counted_none p [] none x there = absurd there
counted_none p (y ∷ ys) none x there = so (λ rest later. counted_none p ys rest x later) (p y) refl there
  where
    step : count_by p (y ∷ ys) ≡ (if p y then 1 else 0) + count_by p ys
    step = sum_by-cons (λ x. if p x then 1 else 0) y ys

    so : (count_by p ys ≡ 0 → In x ys → p x ≡ false) → (b : Bool) → p y ≡ b → In x (y ∷ ys) → p x ≡ false
    so rest true e there = absurd (let one : ◌≡◌ {A = ℕ} (if p y then 1 else 0) 1 = ap {B = ℕ} (λ (b : Bool). if b then 1 else 0) e in omega (arith, step, one, none))
    so rest false e (inl is) = ap p (sym is) ∙ e
    so rest false e (inr later) = rest (omega (arith, step, none)) later

pub none_counted : {X : Type 0} (p : X → Bool) (xs : List X) → ((x : X) → In x xs → p x ≡ false) → count_by p xs ≡ 0
none_counted p [] each = refl
none_counted p (y ∷ ys) each =
    let step : count_by p (y ∷ ys) ≡ (if p y then 1 else 0) + count_by p ys = sum_by-cons (λ x. if p x then 1 else 0) y ys in
    let zero_here : ◌≡◌ {A = ℕ} (if p y then 1 else 0) 0 = ap {B = ℕ} (λ (b : Bool). if b then 1 else 0) (each y (inl refl)) in
    let rest = none_counted p ys (λ x there. each x (inr there)) in
    omega (arith, step, zero_here, rest)

-- ---- the two tests

module _ (g : Ground) where
  -- of a pointer, by what stands in its block; and by what leads to the block in which it stands
  abbrev pub leads_on : Item → Bool
  leads_on e = not (is_known e.pointer) || (unknown_under e (place_at g e) == 0)

  abbrev pub is_led_to : Item → Bool
  is_led_to e = not (is_unknown e.pointer) || (is_in_label e || (e.holder.pvbn == 0))

  standing : (e : Item) → e.pointer.stamp ≢ 0 → (e.pointer.stamp == 0) ≡ false
  standing e some = grind (arith, nat_tests, some)

  -- what a pointer that stands says of those in its block
  pub led_below : (e : Item) (x : Placed) → e.pointer.stamp ≢ 0 → place_at g e ≡ Some x → leads_on e ≡ true → (c : Item) → In c (pointers_under e x) → is_led_to c ≡ true
  led_below e x some found on c there = so (e.pointer.pvbn == 0) refl on
    where
      holder : c.holder ≡ e.pointer
      holder = under_holder e c x there

      count : unknown_under e (place_at g e) ≡ count_by (λ (c : Item). is_unknown c.pointer) (pointers_under e x)
      count = ap (λ (o : Option Placed). unknown_under e o) found

      so : (b : Bool) → (e.pointer.pvbn == 0) ≡ b → leads_on e ≡ true → is_led_to c ≡ true
      so true unknown on = or_right (not (is_unknown c.pointer)) _ (or_right (is_in_label c) _ (ap (λ (p : Pointer). p.pvbn == 0) holder ∙ unknown))
      so false known on =
          let is : is_known e.pointer ≡ true = rw (standing e some, known) refl in
          let none : (unknown_under e (place_at g e) == 0) ≡ true = sym (ap (λ (b : Bool). not b || (unknown_under e (place_at g e) == 0)) is) ∙ on in
          let zero_count : count_by (λ (c : Item). is_unknown c.pointer) (pointers_under e x) ≡ 0 = (let all : unknown_under e (place_at g e) ≡ 0 = grind (arith, nat_tests, none) in sym count ∙ all) in
          or_left (not (is_unknown c.pointer)) _ (ap not (counted_none (λ (c : Item). is_unknown c.pointer) (pointers_under e x) zero_count c there))

  -- and what those say of it
  pub leads_from : (e : Item) (x : Placed) → e.pointer.stamp ≢ 0 → place_at g e ≡ Some x → ((c : Item) → In c (pointers_under e x) → c.pointer.stamp ≢ 0 → is_led_to c ≡ true) → leads_on e ≡ true
  leads_from e x some found each = so (e.pointer.pvbn == 0) refl
    where
      none_of : (e.pointer.pvbn == 0) ≡ false → (c : Item) → In c (pointers_under e x) → is_unknown c.pointer ≡ false
      none_of known c there = ⊎_elim
          (λ (none : c.pointer.stamp ≡ 0). let hole_is : (c.pointer.stamp == 0) ≡ true = grind (arith, nat_tests, none) in ap (λ (b : Bool). not b && (c.pointer.pvbn == 0)) hole_is)
          (λ (stands : c.pointer.stamp ≢ 0). by (is_unknown c.pointer) (is_in_label c) (c.holder.pvbn == 0) (each c there stands) label pvbn)
          (cases_eq c.pointer.stamp 0)
        where
          holder : c.holder ≡ e.pointer
          holder = under_holder e c x there

          label : is_in_label c ≡ false
          label = ap (λ (p : Pointer). p.stamp == 0) holder ∙ standing e some

          pvbn : (c.holder.pvbn == 0) ≡ false
          pvbn = ap (λ (p : Pointer). p.pvbn == 0) holder ∙ known

          by : (u l h : Bool) → (not u || (l || h)) ≡ true → l ≡ false → h ≡ false → u ≡ false
          by false l h e a b = refl
          by true true h e a b = absurd cc
          by true false true e a b = absurd cc
          by true false false e a b = absurd cc

      so : (b : Bool) → (e.pointer.pvbn == 0) ≡ b → leads_on e ≡ true
      so true unknown = let is : is_known e.pointer ≡ false = rw (standing e some, unknown) refl in ap (λ (b : Bool). not b || (unknown_under e (place_at g e) == 0)) is
      so false known =
          let none = none_counted (λ (c : Item). is_unknown c.pointer) (pointers_under e x) (none_of known) in
          let all : unknown_under e (place_at g e) ≡ 0 = ap (λ (o : Option Placed). unknown_under e o) found ∙ none in
          or_right (not (is_known e.pointer)) _ (let test : (unknown_under e (place_at g e) == 0) ≡ true = grind (arith, nat_tests, all) in test)

  -- a pointer without a block leads to none that is unknown
  pub leads_alone : (e : Item) → place_at g e ≡ None → leads_on e ≡ true
  leads_alone e none = or_right (not (is_known e.pointer)) _ (ap (λ (o : Option Placed). unknown_under e o == 0) none)
