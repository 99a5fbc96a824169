-- What passes 3 and 4 rest on: clean walks of all roots, also of base tables, and VVBNs within the span.
use Rattle.std.proofs.Common.{◌≡◌, ℕ, ◌<◌, ◌≤◌, true, [], map, inr, refl, sym, ap, subst, ◌∙◌, arith}
use Rattle.std.specs.Prelude.{Option, Some, None, find, ◌&&◌, ◌==◌, nat_le, nat_lt}
use Rattle.std.specs.List.{list_all}
use Rattle.std.specs.Option.{is_some, option_map, option_map_or, option_and_then}
use Rattle.std.proofs.lemmas.Bool.{and_parts}
use Rattle.std.proofs.lemmas.Bool.Decides.{nat_tests}
use Rattle.std.proofs.lemmas.List.Folds.{list_all-map}
use Rattle.fv_laws.proofs.Lists.{In, in_map, from_flat_map}
use Rattle.fv_laws.proofs.Tests.{from_all}
use Rattle.fv_tables.specs.Reached.{Item, items}
use Rattle.fv_image.specs.Views.{Rooted, Snap, Footing, Head, View}
use Rattle.fv_image.specs.Held.{Lying, Layout}
use Rattle.fv_image.specs.Volumes.{standing_of, snap_at}
use Rattle.fv_image.specs.Seen.{Reached, reached_at, roots_of, base_root, root_seen, volume_seen, seen}
use Rattle.fv_image.specs.Staying.{own_items, base_items}
use Rattle.fv_image.specs.ReachRules.{has_pointers_in_range, is_hint}
use Rattle.fv_image.specs.VolumeRules.{comes_to_end, has_footing, has_bases}
use Rattle.fv_faults.specs.Walks.{steps}
use Rattle.fv_faults.specs.FirstPass.{can_carry}
use Rattle.fv_faults.specs.SecondPass.{ground}
use Rattle.fv_faults.specs.ThirdPass.{place_or, steps_on}
use Rattle.fv_faults.proofs.Plain.{IsClean}
use Rattle.fv_faults.proofs.EachVolume.{volume_test, root_test}
use Rattle.fv_faults.proofs.AllSteps.{in_found}
use Rattle.fv_faults.proofs.ReadBases.{label_of, parent_seen, bears}
use Rattle.fv_faults.proofs.Second.{IsRead, AllClean}

module _ (y : Layout) (is : IsRead y) (low_label : (s : ℕ) (x : Lying) → y.label s ≡ Some x → s < 64) (clean : AllClean y is)
    (ranges : has_pointers_in_range (seen y.view) ≡ true) (bases : has_bases (seen y.view) ≡ true) where
  abbrev w : View
  w = y.view

  -- where a head's label lies
  lying_of : (s : ℕ) (h : Head) → w.head s ≡ Some h → (x : Lying) × (y.label s ≡ Some x)
  lying_of s h head = so (y.label s) refl (label_of y is.heads s h head)
    where
      so : (o : Option Lying) → y.label s ≡ o → is_some o ≡ true → (x : Lying) × (y.label s ≡ Some x)
      so None lies some = absurd cc
      so (Some x) lies some = (x, lies)

  -- a base's root is one of its parent's
  record IsBaseRoot (b : Footing) (g : Head) (r : Rooted) : Type 0 where
    pub slot : ℕ
    pub root : In (slot, r) (roots_of g)

  base_root_of : (b : Footing) (g : Head) (r : Rooted) → w.head b.parent ≡ Some g → base_root w b ≡ Some r → IsBaseRoot b g r
  unfolding snap_at
  base_root_of b g r head root = so (find (λ (p : Snap). p.slot == b.slot) g.snapshots) refl (sym (ap (option_and_then (λ (g : Head). option_map (λ (p : Snap). p.table) (snap_at g b.slot))) head) ∙ root)
    where
      so : (o : Option Snap) → find (λ (p : Snap). p.slot == b.slot) g.snapshots ≡ o → option_map (λ (p : Snap). p.table) o ≡ Some r → IsBaseRoot b g r
      so None found e = absurd cc
      so (Some p) found e =
          let same : p.table ≡ r = cc in
          record { slot = p.slot; root = inr (subst (λ (z : Rooted). In {X = ℕ × Rooted} (p.slot, z) (map (λ (p : Snap). (p.slot, p.table)) g.snapshots)) same (in_map (λ (p : Snap). (p.slot, p.table)) p g.snapshots (in_found (λ (p : Snap). p.slot == b.slot) g.snapshots p found))) }

  -- what a root reaches lies within its volume's span
  root_below : (s : ℕ) (h : Head) → s < 64 → w.head s ≡ Some h → (r : ℕ × Rooted) → In r (roots_of h) → (e : Item) → In e (items (standing_of w s r.1)) → e.pointer.vvbn < h.span
  unfolding has_pointers_in_range root_seen volume_seen seen
  root_below s h low head r there e one =
      let all = root_test w (λ x r. list_all (λ e. nat_lt e.item.pointer.vvbn x.head.span && is_hint w.blocks e.item.pointer.pvbn) r.reached) ranges s h low head r there in
      let test = (and_parts (nat_lt e.pointer.vvbn h.span) _ (from_all (λ (e : Item). nat_lt e.pointer.vvbn h.span && is_hint w.blocks e.pointer.pvbn) (items (standing_of w s r.1))
      (sym (list_all-map (λ (e : Reached). nat_lt e.item.pointer.vvbn h.span && is_hint w.blocks e.item.pointer.pvbn) (reached_at w s) (items (standing_of w s r.1))) ∙ all) e one)).0 in
      grind (arith, nat_tests, test)

  module _ (s : ℕ) (x : Lying) (h : Head) (low : s < 64) (lies : y.label s ≡ Some x) (head : w.head s ≡ Some h) where
    pub own_clean : (r : ℕ × Rooted) → In r (roots_of h) → IsClean (steps (ground w s h) x.place r.1)
    own_clean r there = clean s x h low lies head r there

    pub base_clean : (b : Footing) (g : Head) (r : Rooted) → h.base ≡ Some b → w.head b.parent ≡ Some g → base_root w b ≡ Some r → IsClean (steps_on y b g r)
    base_clean b g r base parent root =
        let z = lying_of b.parent g parent in
        let at = base_root_of b g r parent root in
        let place : z.0.place ≡ place_or (y.label b.parent) = sym (ap place_or z.1) in
        subst (λ (n : ℕ). IsClean (steps (ground w b.parent g) n r)) place (clean b.parent z.0 g (low_label b.parent z.0 z.1) z.1 parent (at.slot, r) at.root)

    pub own_below : (e : Item) → In e (own_items w s h) → e.pointer.vvbn < h.span
    own_below e there =
        let one = from_flat_map (λ (r : ℕ × Rooted). items (standing_of w s r.1)) e (roots_of h) there in
        root_below s h low head one.0 one.1 e one.2

    -- a parent's span isn't greater
    narrow : (b : Footing) (g : Head) → h.base ≡ Some b → w.head b.parent ≡ Some g → g.span ≤ h.span
    unfolding has_bases volume_seen
    narrow b g base parent =
        let stands = volume_test w (λ s x. comes_to_end (seen w) 64 s && option_map_or (has_footing (seen w) x) x.head.base true) bases s h low head in
        let has : has_footing (seen w) (volume_seen w s h) b ≡ true = sym (ap (λ (o : Option Footing). option_map_or (has_footing (seen w) (volume_seen w s h)) o true) base) ∙ (and_parts (comes_to_end (seen w) 64 s) _ stands).1 in
        let seen_parent = parent_seen y is.heads s h low head b has in
        let carries : can_carry h b g ≡ true = sym (bears y is.heads s h low head b g seen_parent.0 parent) ∙ has in
        let test = (and_parts (nat_le g.span h.span) _ (and_parts (is_some (snap_at g b.slot)) _ carries).1).0 in
        grind (arith, nat_tests, test)

    pub base_below : (e : Item) → In e (base_items w h.base) → e.pointer.vvbn < h.span
    base_below e there = so h.base refl there
      where
        with_root : (b : Footing) → h.base ≡ Some b → (g : Head) → w.head b.parent ≡ Some g → (o : Option Rooted) → base_root w b ≡ o → In e (option_map_or (λ r. items (standing_of w b.parent r)) o []) → e.pointer.vvbn < h.span
        with_root b base g parent None root there = absurd there
        with_root b base g parent (Some r) root there =
            let at = base_root_of b g r parent root in
            let z = lying_of b.parent g parent in
            let below = root_below b.parent g (low_label b.parent z.0 z.1) parent (at.slot, r) at.root e there in
            let le = narrow b g base parent in
            omega (arith, below, le)

        with_head : (b : Footing) → h.base ≡ Some b → (o : Option Head) → w.head b.parent ≡ o → In e (option_map_or (λ r. items (standing_of w b.parent r)) (base_root w b) []) → e.pointer.vvbn < h.span
        with_head b base None parent there = absurd (nothing (subst (λ (o : Option Rooted). In e (option_map_or (λ r. items (standing_of w b.parent r)) o [])) (ap (option_and_then (λ (g : Head). option_map (λ (p : Snap). p.table) (snap_at g b.slot))) parent) there))
          where
            nothing : In e [] → ⊥
            nothing none = none
        with_head b base (Some g) parent there = with_root b base g parent (base_root w b) refl there

        so : (o : Option Footing) → h.base ≡ o → In e (base_items w o) → e.pointer.vvbn < h.span
        so None base there = absurd there
        so (Some b) base there = with_head b base (w.head b.parent) refl there
