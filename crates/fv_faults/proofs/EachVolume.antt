-- What lines of all volumes, and tests of all volumes and of all roots, say of each.
use Rattle.std.proofs.Common.{◌≡◌, ℕ, ◌<◌, Bool, true, List, [], refl, sym, ap, ◌∙◌, arith}
use Rattle.std.specs.Prelude.{Option, Some, None, nat_lt, if◌then◌else◌}
use Rattle.std.specs.List.{list_all}
use Rattle.std.specs.Option.{option_map, option_map_or}
use Rattle.std.proofs.lemmas.Bool.Decides.{nat_tests}
use Rattle.std.proofs.lemmas.List.Folds.{list_all-map}
use Rattle.fv_laws.proofs.Lists.{In, in_range, from_range}
use Rattle.fv_laws.proofs.Tests.{from_all, to_all}
use Rattle.fv_image.specs.Views.{Rooted, Head, View, slots, head_of}
use Rattle.fv_image.specs.Held.{Lying, Layout, label_in}
use Rattle.fv_image.specs.Seen.{Root, VolumeSeen, roots_of, root_seen, volume_seen, head_at, seen}
use Rattle.fv_image.specs.ReachRules.{all_volumes, all_roots, all_of_view}
use Rattle.fv_image.proofs.Counted.{HasHeads}
use Rattle.fv_faults.specs.declared.fault.Fault.{Fault}
use Rattle.fv_faults.specs.SecondPass.{in_volumes}
use Rattle.fv_faults.proofs.Clean.{none_of_each, each_none}

-- ---- slots

pub slot_there : (s : ℕ) → s < 64 → In s slots
unfolding slots
slot_there s low = in_range 0 64 s (omega arith) (omega (arith, low))

pub slot_below : (s : ℕ) → In s slots → s < 64
unfolding slots
slot_below s there = let two = from_range 0 64 s there in omega (arith, two.1)

-- ---- volumes

-- the label of a volume with its lines
pub record HasLines (y : Layout) (lines : ℕ → ℕ → Head → List Fault) (s : ℕ) (h : Head) : Type 0 where
  pub lying : Lying
  pub label : y.label s ≡ Some lying
  pub none : lines s lying.place h ≡ []

module _ (y : Layout) (lines : ℕ → ℕ → Head → List Fault) where
  abbrev of_slot : ℕ → List Fault
  of_slot s = option_map_or (λ x. option_map_or (lines s x.place) (y.view.head s) []) (y.label s) []

  pub volumes_say : HasHeads y → in_volumes y lines ≡ [] → (s : ℕ) (h : Head) → s < 64 → y.view.head s ≡ Some h → HasLines y lines s h
  unfolding label_in
  volumes_say heads none s h low head = so (y.label s) refl (none_of_each of_slot slots none s (slot_there s low))
    where
      no_label : ◌≡◌ {A = Option Head} None (Some h) → ⊥
      no_label e = cc

      so : (o : Option Lying) → y.label s ≡ o → option_map_or (λ x. option_map_or (lines s x.place) (y.view.head s) []) o [] ≡ [] → HasLines y lines s h
      so None is none = absurd (no_label (sym (ap (λ (o : Option Lying). option_map head_of (label_in o)) is) ∙ sym (heads.heads s) ∙ head))
      so (Some x) is none = record { lying = x; label = is; none = sym (ap (λ (o : Option Head). option_map_or (lines s x.place) o []) head) ∙ none }

  pub silent_volumes : ((s : ℕ) (x : Lying) (h : Head) → s < 64 → y.label s ≡ Some x → y.view.head s ≡ Some h → lines s x.place h ≡ []) → in_volumes y lines ≡ []
  silent_volumes each = each_none of_slot slots (λ s there. so s (slot_below s there) (y.label s) refl (y.view.head s) refl)
    where
      so : (s : ℕ) → s < 64 → (o : Option Lying) → y.label s ≡ o → (p : Option Head) → y.view.head s ≡ p → option_map_or (λ x. option_map_or (lines s x.place) (y.view.head s) []) o [] ≡ []
      so s low None is p head = refl
      so s low (Some x) is None head = ap (λ (p : Option Head). option_map_or (lines s x.place) p []) head
      so s low (Some x) is (Some h) head = ap (λ (p : Option Head). option_map_or (lines s x.place) p []) head ∙ each s x h low is head

-- ---- tests of what is seen

module _ (w : View) where
  head_low : (s : ℕ) → s < 64 → head_at w s ≡ w.head s
  head_low s low =
      let test : nat_lt s 64 ≡ true = grind (arith, nat_tests, low) in
      ap (λ (b : Bool). if b then w.head s else None) test

  pub volume_is : (s : ℕ) (h : Head) → s < 64 → w.head s ≡ Some h → (seen w).volume s ≡ Some (volume_seen w s h)
  unfolding seen
  volume_is s h low head = ap (option_map (volume_seen w s)) (head_low s low ∙ head)

  module _ (test : ℕ → VolumeSeen → Bool) where
    pub volume_test : all_volumes (seen w) test ≡ true → (s : ℕ) (h : Head) → s < 64 → w.head s ≡ Some h → test s (volume_seen w s h) ≡ true
    volume_test all s h low head =
        sym (ap (λ (o : Option VolumeSeen). option_map_or (test s) o true) (volume_is s h low head))
        ∙ from_all (λ s. option_map_or (test s) ((seen w).volume s) true) slots all s (slot_there s low)

    pub test_volumes : ((s : ℕ) (h : Head) → s < 64 → w.head s ≡ Some h → test s (volume_seen w s h) ≡ true) → all_volumes (seen w) test ≡ true
    unfolding seen
    test_volumes each = to_all (λ s. option_map_or (test s) ((seen w).volume s) true) slots (λ s there. so s (slot_below s there) (w.head s) refl)
      where
        so : (s : ℕ) → s < 64 → (o : Option Head) → w.head s ≡ o → option_map_or (test s) (option_map (volume_seen w s) (head_at w s)) true ≡ true
        so s low None head = ap (λ (o : Option Head). option_map_or (test s) (option_map (volume_seen w s) o) true) (head_low s low ∙ head)
        so s low (Some h) head = ap (λ (o : Option Head). option_map_or (test s) (option_map (volume_seen w s) o) true) (head_low s low ∙ head) ∙ each s h low head

  module _ (test : VolumeSeen → Root → Bool) where
    pub root_test : all_roots (seen w) test ≡ true → (s : ℕ) (h : Head) → s < 64 → w.head s ≡ Some h → (r : ℕ × Rooted) → In r (roots_of h) → test (volume_seen w s h) (root_seen w s r.0 r.1) ≡ true
    unfolding volume_seen
    root_test all s h low head r there =
        from_all (λ (r : ℕ × Rooted). test (volume_seen w s h) (root_seen w s r.0 r.1)) (roots_of h)
        (sym (list_all-map (test (volume_seen w s h)) (λ (r : ℕ × Rooted). root_seen w s r.0 r.1) (roots_of h)) ∙ volume_test (λ s x. list_all (test x) x.roots) all s h low head) r there

    pub test_roots : ((s : ℕ) (h : Head) → s < 64 → w.head s ≡ Some h → (r : ℕ × Rooted) → In r (roots_of h) → test (volume_seen w s h) (root_seen w s r.0 r.1) ≡ true) → all_roots (seen w) test ≡ true
    unfolding volume_seen
    test_roots each = test_volumes (λ s x. list_all (test x) x.roots) (λ s h low head.
        list_all-map (test (volume_seen w s h)) (λ (r : ℕ × Rooted). root_seen w s r.0 r.1) (roots_of h)
        ∙ to_all (λ (r : ℕ × Rooted). test (volume_seen w s h) (root_seen w s r.0 r.1)) (roots_of h) (each s h low head))

  module _ (test : ℕ → Head → Bool) where
    pub view_test : all_of_view w test ≡ true → (s : ℕ) (h : Head) → s < 64 → w.head s ≡ Some h → test s h ≡ true
    view_test all s h low head = sym (ap (λ (o : Option Head). option_map_or (test s) o true) head) ∙ from_all (λ s. option_map_or (test s) (w.head s) true) slots all s (slot_there s low)

    pub test_view : ((s : ℕ) (h : Head) → s < 64 → w.head s ≡ Some h → test s h ≡ true) → all_of_view w test ≡ true
    test_view each = to_all (λ s. option_map_or (test s) (w.head s) true) slots (λ s there. so s (slot_below s there) (w.head s) refl)
      where
        so : (s : ℕ) → s < 64 → (o : Option Head) → w.head s ≡ o → option_map_or (test s) (w.head s) true ≡ true
        so s low None head = ap (λ (o : Option Head). option_map_or (test s) o true) head
        so s low (Some h) head = ap (λ (o : Option Head). option_map_or (test s) o true) head ∙ each s h low head
