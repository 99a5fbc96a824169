-- Rule 13, volumes that are being split: the number of a label, and the test of soundness.
use Rattle.std.proofs.Common.{◌≡◌, ◌≢◌, ℕ, Bool, true, false, not, List, [], ◌∷◌, map, inl, inr, refl, sym, ap, ◌∙◌, arith}
use Rattle.std.specs.Prelude.{Some, ◌&&◌, ◌||◌, ◌==◌, if◌then◌else◌}
use Rattle.std.specs.List.{list_all, list_any}
use Rattle.std.specs.Option.{is_some}
use Rattle.std.proofs.lemmas.Bool.{or_right}
use Rattle.std.proofs.lemmas.Bool.Decides.{nat_tests}
use Rattle.fv_laws.proofs.Lists.{In}
use Rattle.fv_laws.proofs.Tests.{from_all, to_all}
use Rattle.fv_tables.specs.Reached.{Item, items, is_listed}
use Rattle.fv_image.specs.Views.{Placed, Rooted, Head, View}
use Rattle.fv_image.specs.Volumes.{standing_of}
use Rattle.fv_image.specs.Seen.{Reached, reached_at, roots_of}
use Rattle.fv_image.specs.HintRules.{is_known, is_in_label, is_splitting}
use Rattle.fv_faults.specs.Walks.{Ground, pointers_under}
use Rattle.fv_faults.specs.SecondPass.{ground}
use Rattle.fv_faults.specs.FourthPass.{how_many, is_copy, is_split_fault, known_in}
use Rattle.fv_faults.proofs.Plain.{place_at}
use Rattle.fv_faults.proofs.TableMembers.{reached_from, reached_to}
use Rattle.fv_faults.proofs.Unknown.{under_holder}
use Rattle.fv_faults.proofs.Bridge.{met_down}
use Rattle.fv_faults.proofs.Labels.{listed, on_base, based_same, by_roots, none_held, held_none}

-- ---- a block that leads to what a root reaches is the label, or reached itself

module _ (g : Ground) (r : Rooted) where
  abbrev reach : List Item
  reach = items (standing_of g.view g.slot r)

  abbrev says : Item → Bool
  says e = is_listed reach e.pointer.vvbn

  abbrev pub is_led : Item → Bool
  is_led e = is_in_label e || is_listed reach e.holder.vvbn

  led : (e : Item) (x : Placed) → e.pointer.stamp ≢ 0 → place_at g e ≡ Some x → says e ≡ true → (c : Item) → In c (pointers_under e x) → is_led c ≡ true
  led e x some found is c there = or_right (is_in_label c) _ (ap (λ p. is_listed reach p.vvbn) (under_holder e c x there) ∙ is)

  pub holders_reached : list_all is_led reach ≡ true
  holders_reached = reached_from is_led g r 0 (met_down g says is_led led 0 r refl (reached_to says g r 0 (to_all says reach (λ e there. listed reach e there))))

-- ---- copies

module _ (w : View) (s : ℕ) (h : Head) where
  abbrev pub copied : ℕ × Rooted → ℕ → Bool
  copied r v = on_base w s h v && list_any (λ (a : Reached). (a.item.pointer.vvbn == v) && a.own) (map (reached_at w s) (items (standing_of w s r.1)))

  own_listed : (v : ℕ) (es : List Item) → list_any (λ (a : Reached). (a.item.pointer.vvbn == v) && a.own) (map (reached_at w s) es) ≡ (is_listed es v && is_some (w.entry s v))
  own_listed v [] = refl
  own_listed v (e ∷ es) = so (e.pointer.vvbn == v) refl ∙ ap (λ b. ((e.pointer.vvbn == v) && is_some (w.entry s v)) || b) (own_listed v es) ∙ joined (e.pointer.vvbn == v) (is_some (w.entry s v)) (is_listed es v)
    where
      rest : Bool
      rest = list_any (λ (a : Reached). (a.item.pointer.vvbn == v) && a.own) (map (reached_at w s) es)

      so : (b : Bool) → (e.pointer.vvbn == v) ≡ b → ((b && is_some (w.entry s e.pointer.vvbn)) || rest) ≡ ((b && is_some (w.entry s v)) || rest)
      so true is = let same : e.pointer.vvbn ≡ v = grind (arith, nat_tests, is) in ap (λ n. is_some (w.entry s n) || rest) same
      so false is = refl

      joined : (a b c : Bool) → ((a && b) || (c && b)) ≡ ((a || c) && b)
      joined true true c = refl
      joined true false true = refl
      joined true false false = refl
      joined false b c = refl

  copied_same : (r : ℕ × Rooted) (v : ℕ) → is_listed (items (standing_of w s r.1)) v ≡ true → copied r v ≡ is_copy w s h v
  copied_same r v is =
      ap (λ b. on_base w s h v && b) (own_listed v (items (standing_of w s r.1)) ∙ ap (λ b. b && is_some (w.entry s v)) is)
      ∙ ap (λ b. b && is_some (w.entry s v)) (based_same w s h v)

  abbrev pub split_test : ℕ × Rooted → Reached → Bool
  split_test r e = not (is_known e.item.pointer) || not (is_in_label e.item || (copied r e.item.pointer.vvbn || copied r e.item.holder.vvbn))

  one_same : (r : ℕ × Rooted) (e : Item) → In e (items (standing_of w s r.1)) → split_test r (reached_at w s e) ≡ not (is_split_fault w s h e)
  one_same r e there = so (is_known e.pointer) (is_in_label e) (copied r e.pointer.vvbn) (is_copy w s h e.pointer.vvbn) (copied r e.holder.vvbn) (is_copy w s h e.holder.vvbn)
      (copied_same r e.pointer.vvbn (listed (items (standing_of w s r.1)) e there))
      (λ inside. copied_same r e.holder.vvbn (sym (ap (λ b. b || is_listed (items (standing_of w s r.1)) e.holder.vvbn) inside) ∙ from_all (is_led (ground w s h) r.1) (items (standing_of w s r.1)) (holders_reached (ground w s h) r.1) e there))
    where
      so : (known label a b c d : Bool) → a ≡ b → (label ≡ false → c ≡ d) → (not known || not (label || (a || c))) ≡ not (known && (label || (b || d)))
      so false label a b c d same other = refl
      so true true a b c d same other = refl
      so true false a b c d same other = let more = other refl in λ i. not (same i || more i)

  same_all : (r : ℕ × Rooted) (es : List Item) → ((e : Item) → In e es → split_test r (reached_at w s e) ≡ not (is_split_fault w s h e)) → list_all (split_test r) (map (reached_at w s) es) ≡ list_all (λ e. not (is_split_fault w s h e)) es
  same_all r [] each = refl
  same_all r (e ∷ es) each = let one = each e (inl refl) in let more = same_all r es (λ d there. each d (inr there)) in λ i. one i && more i

  abbrev pub roots_split : List (ℕ × Rooted) → Bool
  roots_split rs = list_all (λ (r : ℕ × Rooted). list_all (split_test r) (map (reached_at w s) (items (standing_of w s r.1)))) rs

  split_same : (rs : List (ℕ × Rooted)) → roots_split rs ≡ by_roots w s h (λ e. not (is_split_fault w s h e)) rs
  split_same [] = refl
  split_same (r ∷ rs) = let one = same_all r (items (standing_of w s r.1)) (one_same r) in let more = split_same rs in λ i. one i && more i

  -- In a volume that is being split the number is 0 exactly where the test holds of all roots.
  pub split_true : is_splitting h.base ≡ true → known_in w s h ≡ 0 → roots_split (roots_of h) ≡ true
  split_true is none = split_same (roots_of h) ∙ none_held w s h (is_split_fault w s h) (sym (ap (λ (b : Bool). if b then how_many w s h (is_split_fault w s h) else 0) is) ∙ none)

  pub none_split : (is_splitting h.base ≡ true → roots_split (roots_of h) ≡ true) → known_in w s h ≡ 0
  none_split all = so (is_splitting h.base) all
    where
      so : (b : Bool) → (b ≡ true → roots_split (roots_of h) ≡ true) → (if b then how_many w s h (is_split_fault w s h) else 0) ≡ 0
      so true all = held_none w s h (is_split_fault w s h) (sym (split_same (roots_of h)) ∙ all refl)
      so false all = refl
