-- The lines of a label below which the first pass doesn't go, by the labels of all slots.
use Rattle.std.proofs.Common.{◌≡◌, ℕ, ◌<◌, Bool, List, [], ◌∷◌, ◌++◌, refl, sym, ap, subst, ◌∙◌, arith, inl, inr}
use Rattle.std.specs.Prelude.{Option, Some, None, Result, find, get_or, ◌↔◌, IsTrue, if◌then◌else◌}
use Rattle.std.specs.List.{range_with_len}
use Rattle.std.specs.Option.{option_map_or}
use Rattle.fv_codec.specs.declared.shape.Shape.{Shape}
use Rattle.fv_codec.specs.declared.label.Label.{Label}
use Rattle.fv_laws.proofs.Lists.{In, from_range}
use Rattle.fv_image.specs.Views.{Head, head_of}
use Rattle.fv_image.specs.Held.{Layout}
use Rattle.fv_image.specs.VolumeRules.{share_name}
use Rattle.fv_faults.specs.declared.lines.Lines.{Lines}
use Rattle.fv_faults.specs.Lines.{line}
use Rattle.fv_faults.specs.Adding.{Adds}
use Rattle.fv_faults.specs.FirstPass.{label_numbers, volume_names, snap_names, label_stops}
use Rattle.fv_first_pass.specs.Heads.{IsLabelIn, head_in, is_earlier, stops}

find_same : (p q : ℕ → Bool) (xs : List ℕ) → ((x : ℕ) → In x xs → p x ≡ q x) → find p xs ≡ find q xs
find_same p q [] same = refl
find_same p q (x ∷ xs) same =
    ap (λ (b : Bool). if b then Some x else find p xs) (same x (inl refl))
    ∙ ap (λ (o : Option ℕ). if q x then Some x else o) (find_same p q xs (λ z there. same z (inr there)))

module _ (y : Layout) (labels : List (Option (Result Label Shape))) (blocks s at : ℕ) (l : Label) (low : s < 64) (is : IsLabelIn y labels blocks s l) where
  names_are : volume_names y s at ≡ option_map_or (λ first. line 4 at first s ∷ []) (find (is_earlier labels (head_of l)) (range_with_len 0 s)) []
  unfolding volume_names
  names_are = ap (λ (o : Option ℕ). option_map_or (λ first. line 4 at first s ∷ []) o [])
      (find_same (λ earlier. share_name (y.view.head earlier) (y.view.head s)) (is_earlier labels (head_of l)) (range_with_len 0 s)
      (λ e there. let within = (from_range 0 s e there).1 in
      ap (λ (o : Option Head). share_name o (y.view.head s)) (is.are.heads e (omega (arith, low, within)))
      ∙ ap (λ (o : Option Head). share_name (head_in (get_or labels e None)) o) is.head))

  stops_are : label_stops y s at l ≡ stops labels blocks s at l
  unfolding label_stops
  stops_are =
      ap (λ b. label_numbers b at l ++ (volume_names y s at ++ snap_names at [] (head_of l).snapshots)) is.size
      ∙ ap (λ ls. label_numbers blocks at l ++ (ls ++ snap_names at [] (head_of l).snapshots)) names_are

  pub stops_added : (old new : Lines) → Adds (stops labels blocks s at l) old new → Adds (label_stops y s at l) old new
  stops_added old new adds = subst (λ ls. Adds ls old new) (sym stops_are) adds

  pub stops_none : (clean : Bool) → (IsTrue clean ↔ (stops labels blocks s at l ≡ [])) → IsTrue clean ↔ (label_stops y s at l ≡ [])
  stops_none clean told = subst (λ ls. IsTrue clean ↔ (ls ≡ [])) (sym stops_are) told
