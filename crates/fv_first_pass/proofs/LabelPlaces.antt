-- The lines of the places at which a root has labels are those of its layout.
use Rattle.std.proofs.Common.{◌≡◌, ℕ, zero, suc, Bool, true, false, [], get_or, refl, ap, subst, sym, ◌∙◌, arith}
use Rattle.std.specs.Prelude.{◌↔◌, IsTrue, nat_lt, ◌==◌, if◌then◌else◌}
use Rattle.std.specs.List.{range_with_len}
use Rattle.std.specs.Option.{option_map_or}
use Rattle.std.proofs.lemmas.Bool.Decides.{nat_tests}
use Rattle.fv_disk.specs.Shown.{Image}
use Rattle.fv_laws.proofs.Lists.{from_range}
use Rattle.fv_image.specs.NewerRoot.{Taken}
use Rattle.fv_image.specs.Views.{slots}
use Rattle.fv_image.specs.Held.{lying_at, label_place, label_lying, layout_at, view_at}
use Rattle.fv_faults.specs.declared.lines.Lines.{Lines}
use Rattle.fv_faults.specs.Adding.{Adds}
use Rattle.fv_faults.specs.Lines.{leads}
use Rattle.fv_faults.specs.FirstPass.{root_lines}
use Rattle.fv_first_pass.specs.Passed.{place_lines, places_to}
use Rattle.fv_first_pass.proofs.Ranges.{same_parts}

module _ (t : Taken) (i : Image) (root : ℕ) where
  one : (p : ℕ) → option_map_or (λ x. leads t.blocks root x.place) (lying_at i p) [] ≡ place_lines t.blocks root p
  one zero = refl
  one (suc p) =
      let some : (suc p == 0) ≡ false = grind (arith, nat_tests) in
      sym (ap (λ (b : Bool). if b then [] else leads t.blocks root (suc p)) some)

  places_are : root_lines root (layout_at t i) ≡ places_to t.blocks root t.root.labels 64
  unfolding root_lines layout_at view_at slots label_place places_to
  places_are = same_parts (λ s. option_map_or (λ x. leads t.blocks root x.place) (label_lying t i s) [])
      (λ s. place_lines t.blocks root (get_or t.root.labels s 0)) (range_with_len 0 64) (λ s there.
      let low = (from_range 0 64 s there).1 in
      let test : nat_lt s 64 ≡ true = grind (arith, nat_tests, low) in
      one (label_place t s) ∙ ap (λ (b : Bool). place_lines t.blocks root (if b then get_or t.root.labels s 0 else 0)) test)

  pub places_added : (old new : Lines) → Adds (places_to t.blocks root t.root.labels 64) old new → Adds (root_lines root (layout_at t i)) old new
  places_added old new adds = subst (λ ls. Adds ls old new) (sym places_are) adds

  pub places_none : (clean : Bool) → (IsTrue clean ↔ (places_to t.blocks root t.root.labels 64 ≡ [])) → IsTrue clean ↔ (root_lines root (layout_at t i) ≡ [])
  places_none clean told = subst (λ ls. IsTrue clean ↔ (ls ≡ [])) (sym places_are) told
