-- Lines that are noted one after the other.
use Rattle.std.proofs.Common.{ℕ, ◌+◌, ◌<◌, ◌≤◌, List, [], ◌∷◌, length, get_or, take, refl, sym, subst}
use Rattle.std.proofs.lemmas.List.{take_more, take_all}
use Rattle.fv_faults.specs.declared.fault.Fault.{Fault}
use Rattle.fv_faults.specs.declared.lines.Lines.{Lines}
use Rattle.fv_faults.specs.Adding.{Adds}
use Rattle.fv_faults.proofs.Adding.{adds_none, adds_then}

pub adds_first : (found : List Fault) (old : Lines) → Adds (take 0 found) old old
adds_first found old = adds_none old old refl

pub adds_more : (found : List Fault) (k : ℕ) (d : Fault) (old mid new : Lines) → k < length found → Adds (take k found) old mid → Adds (get_or found k d ∷ []) mid new → Adds (take (k + 1) found) old new
adds_more found k d old mid new low first one = subst (λ fs. Adds fs old new) (sym (take_more found k d low)) (adds_then (take k found) (get_or found k d ∷ []) old mid new first one)

pub adds_all : (found : List Fault) (k : ℕ) (old new : Lines) → length found ≤ k → Adds (take k found) old new → Adds found old new
adds_all found k old new long adds = subst (λ fs. Adds fs old new) (take_all k found long) adds
