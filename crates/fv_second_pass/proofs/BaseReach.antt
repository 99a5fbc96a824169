-- What a base table reaches: it is that of a snapshot of the parent, so the parent's walks say it.
use Rattle.std.proofs.Common.{◌≡◌, ℕ, ◌<◌, Bool, true, false, List, [], ◌∷◌, get_or, refl, sym, ap, subst, ◌∙◌, inr, arith}
use Rattle.std.specs.Prelude.{Option, Some, None, Vec, find, map, ◌==◌, if◌then◌else◌}
use Rattle.std.specs.declared.alloc.Global.{Global}
use Rattle.std.specs.Option.{option_map, option_and_then}
use Rattle.std.proofs.lemmas.Bool.Decides.{nat_tests}
use Rattle.fv_laws.proofs.Lists.{In, in_map}
use Rattle.fv_image.specs.Views.{Footing, Head, Rooted, Snap}
use Rattle.fv_image.specs.Held.{Layout, Lying}
use Rattle.fv_image.specs.Seen.{base_root, roots_of}
use Rattle.fv_image.specs.Volumes.{snap_at}
use Rattle.fv_faults.specs.SecondPass.{ground}
use Rattle.fv_faults.specs.ThirdPass.{place_or, steps_on}
use Rattle.fv_faults.specs.Walks.{steps}
use Rattle.fv_faults.proofs.AllSteps.{in_found}
use Rattle.fv_second_pass.specs.Reaching.{AllReached, HasReach, maps_of}

found_passes : {X : Type 0} (p : X → Bool) (xs : List X) (x : X) → find p xs ≡ Some x → p x ≡ true
found_passes p [] x is = absurd cc
found_passes p (y ∷ ys) x is = so (p y) refl (found_passes p ys x) is
  where
    so : (b : Bool) → p y ≡ b → (find p ys ≡ Some x → p x ≡ true) → (if b then Some y else find p ys) ≡ Some x → p x ≡ true
    so true passes rest is = let same : y ≡ x = cc in ap p (sym same) ∙ passes
    so false fails rest is = rest is

module _ (y : Layout) (b : Footing) (g : Head) (r : Rooted) (head : y.view.head b.parent ≡ Some g) (root : base_root y.view b ≡ Some r) where
  -- it is a root of the parent
  pub base_in : In (b.slot, r) (roots_of g)
  unfolding snap_at
  base_in = so (snap_at g b.slot) refl (sym (ap (option_and_then (λ (g : Head). option_map (λ (p : Snap). p.table) (snap_at g b.slot))) head) ∙ root)
    where
      so : (o : Option Snap) → snap_at g b.slot ≡ o → option_map (λ (p : Snap). p.table) o ≡ Some r → In (b.slot, r) (roots_of g)
      so None found is = absurd cc
      so (Some p) found is =
          let table : p.table ≡ r = cc in
          let test = found_passes (λ (p : Snap). p.slot == b.slot) g.snapshots p found in
          let slot : p.slot ≡ b.slot = grind (arith, nat_tests, test) in
          inr (subst (λ (q : ℕ × Rooted). In q (map (λ (p : Snap). (p.slot, p.table)) g.snapshots)) (ap (λ n. (n, p.table)) slot ∙ ap (λ (t : Rooted). (b.slot, t)) table)
          (in_map (λ (p : Snap). (p.slot, p.table)) p g.snapshots (in_found (λ (p : Snap). p.slot == b.slot) g.snapshots p found)))

  pub base_reached : (volumes : List (Option (Vec (Option (List Bool)) Global))) → AllReached y volumes → (x : Lying) → b.parent < 64 → y.label b.parent ≡ Some x
      → HasReach (ground y.view b.parent g) (steps_on y b g r) (get_or (maps_of (get_or volumes b.parent None)) b.slot None)
  base_reached volumes all x low label =
      subst (λ at. HasReach (ground y.view b.parent g) (steps (ground y.view b.parent g) at r) (get_or (maps_of (get_or volumes b.parent None)) b.slot None)) (sym (ap place_or label))
      ((all.each b.parent low x g label head).each (b.slot, r) base_in)
