-- Whether a list has an unknown pointer, by its first one.
use Rattle.std.proofs.Common.{◌≡◌, ℕ, suc, ◌<◌, false, ◌||◌, List, [], ◌∷◌, length, get_or, refl, sym, ap, ◌∙◌, arith}
use Rattle.std.specs.Prelude.{Option, Some, None, is_some}
use Rattle.std.specs.List.{list_any}
use Rattle.std.proofs.lemmas.List.Folds.{list_any_at}
use Rattle.fv_codec.specs.declared.pointer.Pointer.{Pointer}
use Rattle.fv_tables.specs.Spelled.{hole}
use Rattle.fv_image.specs.HintRules.{is_unknown}
use Rattle.fv_places.specs.Firsts.{IsFirst}

pub none_any : (ps : List Pointer) → ((i : ℕ) → i < length ps → is_unknown (get_or ps i hole) ≡ false) → list_any is_unknown ps ≡ false
none_any [] none = refl
none_any (p ∷ ps) none = λ i. none 0 (omega arith) i || none_any ps (λ k lt. none (suc k) (omega arith)) i

pub found_any : (ps : List Pointer) (o : Option (ℕ × Pointer)) → IsFirst ps 0 o → is_some o ≡ list_any is_unknown ps
found_any ps None none = sym (none_any ps (λ i lt. none i (omega arith) lt))
found_any ps (Some f) at = sym (list_any_at is_unknown ps f.0 hole at.within (ap is_unknown at.stands ∙ at.unknown))
