-- A slot for which a root names no label: it stands without a volume.
use Rattle.std.proofs.Common.{◌≡◌, ℕ, Option, Some, None, true≢false, ⊎_elim, sym, ap, ◌∙◌, arith}
use Rattle.std.specs.Prelude.{◌==◌}
use Rattle.fv_disk.specs.Shown.{Image}
use Rattle.fv_image.specs.Held.{Lying, held_by, label_place, layout_at, lying_at}
use Rattle.fv_image.proofs.HeldPlaces.{none_held}
use Rattle.fv_image.proofs.Replaced.{listed_tells}
use Rattle.fv_root.specs.declared.find.Found.{Found}
use Rattle.fv_root.specs.Finding.{root_found}
use Rattle.fv_volumes.specs.UnderRoot.{StandsUnder}
use Rattle.fv_volumes.proofs.StillLoaded.{none_loaded}

-- Whatever lies elsewhere in the image, it stands, and holds nothing.
pub none_stands : (found : Found) (i : Image) (s : ℕ) → label_place (root_found found) s ≡ 0 → StandsUnder i found s None None
unfolding layout_at
none_stands found i s none = record {
  loaded = none_loaded found i s none;
  sound = record {
    volume = λ x lies. absurd (nothing x (sym (ap (lying_at i) none) ∙ lies));
    places = λ b held. absurd (true≢false (sym held ∙ none_held (root_found found) i s b none));
  };
  once = λ b. ⊎_elim
      (λ held. absurd (true≢false (sym held.0 ∙ none_held (root_found found) i s b none)))
      (λ empty. let no = empty.1 in omega (arith, no))
      (listed_tells (λ x. x == b) (held_by (layout_at (root_found found) i) s));
  holds = λ b. none_held (root_found found) i s b none;
}
  where
    nothing : (x : Lying) → ◌≡◌ {A = Option Lying} None (Some x) → ⊥
    nothing x e = cc
