-- A block without unknown pointers is clear: what a search learns from a loaded child, and a clean step asks of all that the block leads
-- to.
use Rattle.std.proofs.Common.{◌≡◌, ℕ, zero, suc, Bool, true, false, not, List, [], ◌∷◌, refl, get_or}
use Rattle.std.specs.Prelude.{◌==◌, ◌||◌}
use Rattle.std.specs.List.{list_all, list_any}
use Rattle.fv_codec.specs.declared.pointer.Pointer.{Pointer}
use Rattle.fv_laws.proofs.Tests.{from_all, to_all}
use Rattle.fv_tables.specs.Spelled.{hole}
use Rattle.fv_tables.specs.Reached.{items}
use Rattle.fv_image.specs.Views.{Rooted, View}
use Rattle.fv_image.specs.BlockRules.{agree}
use Rattle.fv_image.specs.HintRules.{is_unknown, is_in_label}
use Rattle.fv_image.specs.Chains.{place}
use Rattle.fv_image.specs.Volumes.{standing_of}
use Rattle.fv_image.specs.Moves.{FitsRoot}
use Rattle.fv_places.specs.Inside.{pointers_under, index_at}
use Rattle.fv_places.specs.Steps.{is_clear_under}
use Rattle.fv_places.proofs.InBlocks.{stands_inside, all_inside}

-- what holds of no pointer of a list holds of none at an index
pub unknown_got : (ps : List Pointer) (i : ℕ) → list_any is_unknown ps ≡ false → is_unknown (get_or ps i hole) ≡ false
unknown_got [] zero none = refl
unknown_got [] (suc i) none = refl
unknown_got (p ∷ ps) zero none = so (is_unknown p) none
  where
    so : (b : Bool) → (b || list_any is_unknown ps) ≡ false → b ≡ false
    so false e = refl
    so true e = e
unknown_got (p ∷ ps) (suc i) none = unknown_got ps i (so (is_unknown p) none)
  where
    so : (b : Bool) → (b || list_any is_unknown ps) ≡ false → list_any is_unknown ps ≡ false
    so false e = e
    so true e = absurd cc

-- Where the block under v has no unknown pointer, nothing unknown stands under v.
pub none_in_child : (w : View) (s v : ℕ) (r : Rooted) → FitsRoot w s r → list_any is_unknown (pointers_under w s v) ≡ false
    → list_all (is_clear_under v) (items (standing_of w s r)) ≡ true
none_in_child w s v r fits none = to_all (is_clear_under v) (items (standing_of w s r)) (λ e there.
    clear (is_in_label e) (e.holder.vvbn == v) (is_unknown e.pointer)
    (is_unknown (get_or (pointers_under w s v) (index_at (place w s v) e) hole))
    (from_all (stands_inside w s v r fits is_unknown) (items (standing_of w s r)) (all_inside w s v r fits is_unknown) e there)
    (unknown_got (pointers_under w s v) (index_at (place w s v) e) none))
  where
    clear : (label here unknown inside : Bool) → (label || (not here || agree unknown inside)) ≡ true → inside ≡ false
        → (not unknown || (label || not here)) ≡ true
    clear label here false inside e none = refl
    clear true here true inside e none = refl
    clear false false true inside e none = refl
    clear false true true true e none = absurd cc
    clear false true true false e none = absurd cc
