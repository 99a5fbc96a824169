-- A clone stands on a volume, or on a snapshot of it, by their names where it does by their slots.
use Rattle.std.proofs.Common.{◌≡◌, ℕ, Bool, true, false, ◌&&◌, List, Some, refl, sym, ap, subst, ◌∙◌, arith}
use Rattle.std.specs.Prelude.{◌==◌}
use Rattle.std.proofs.lemmas.Bool.Decides.{nat_tests}
use Rattle.std.proofs.lemmas.Option.{same_Some}
use Rattle.fv_model.specs.Spelling.{is_same_name}
use Rattle.fv_laws.proofs.Changes.{same_name}
use Rattle.fv_laws.proofs.Lists.{In}
use Rattle.fv_laws.proofs.Tests.{iff}
use Rattle.fv_image.specs.Views.{Snap as HeadSnap}
use Rattle.fv_image.specs.Volumes.{snap_at}
use Rattle.fv_volume.specs.declared.state.Base.{Base}
use Rattle.fv_volume.specs.declared.state.VolumeState.{VolumeState}
use Rattle.fv_volume.specs.Files.{AreNamed}
use Rattle.fv_volumes.specs.Footing.{IsFooted}
use Rattle.fv_volume.specs.States.{States, head_in, snap_in, state_at}
use Rattle.fv_volume.proofs.KnownBases.{found_slot}
use Rattle.fv_volumes.proofs.Made.{to_pair}

module _ (states : States) (named : AreNamed states) (p : ℕ) (y : VolumeState) (there : state_at states p ≡ Some y) (x : VolumeState) (b : Base) (is : IsFooted states x b) (itself : (n : List ℕ) → is_same_name n n ≡ true) where
  to_slot : is_same_name b.name y.name ≡ true → b.parent ≡ p
  to_slot same = to_pair states named b.parent p is.parent y is.there there (sym is.named ∙ same_name b.name y.name same)

  to_name : b.parent ≡ p → is.parent ≡ y
  to_name e = same_Some is.parent y (sym is.there ∙ ap (state_at states) e ∙ there)

  -- So by name it stands on a volume where it does by slot,
  pub same_parent : is_same_name b.name y.name ≡ (b.parent == p)
  same_parent = iff (is_same_name b.name y.name) (b.parent == p)
      (λ same. let e = to_slot same in grind (arith, nat_tests, e))
      (λ test. let e : b.parent ≡ p = grind (arith, nat_tests, test) in ap (λ (n : List ℕ). is_same_name n y.name) (is.named ∙ ap (λ (z : VolumeState). z.name) (to_name e)) ∙ itself y.name)

  -- and so it is with a snapshot of that, whose name and slot tell the same one of its snapshots.
  pub same_snapshot : (name : List ℕ) (j : ℕ) → ((q : HeadSnap) → In q (head_in y).snapshots → is_same_name q.name name ≡ (q.slot == j)) → (is_same_name b.name y.name && is_same_name b.snapshot name) ≡ ((b.parent == p) && (b.slot == j))
  unfolding snap_at
  same_snapshot name j tells = by (b.parent == p) refl
    where
      by : (t : Bool) → (b.parent == p) ≡ t → (is_same_name b.name y.name && is_same_name b.snapshot name) ≡ ((b.parent == p) && (b.slot == j))
      by false test = (λ i. (same_parent ∙ test) i && is_same_name b.snapshot name) ∙ (λ i. sym test i && (b.slot == j))
      by true test =
          let e : b.parent ≡ p = grind (arith, nat_tests, test) in
          let found = found_slot b.slot (head_in y).snapshots (snap_in is.snap) (subst (λ (z : VolumeState). snap_at (head_in z) b.slot ≡ Some (snap_in is.snap)) (to_name e) is.found) in
          let one : is_same_name b.snapshot name ≡ (b.slot == j) = ap (λ (n : List ℕ). is_same_name n name) is.called ∙ tells (snap_in is.snap) found.0 ∙ ap (λ (k : ℕ). k == j) found.1 in
          λ i. same_parent i && one i
