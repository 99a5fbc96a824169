-- A ledger that is kept has the numbers that are counted from scratch.
use Rattle.std.proofs.Common.{◌≡◌, ◌<◌, ◌+◌, ◌++◌, ℕ, Bool, List, [], ◌∷◌, length, take, drop, get_or, add-one, drop-cons, refl, sym, subst, ◌∙◌}
use Rattle.std.proofs.lemmas.List.{take_more}
use Rattle.std.specs.Prelude.{Option}
use Rattle.fv_model.specs.Volumes.{Volume}
use Rattle.fv_charge.specs.declared.ledger.Ledger.{Ledger}
use Rattle.fv_charge.specs.declared.delta.Delta.{Delta}
use Rattle.fv_charge.specs.Changes.{IsChanged}
use Rattle.fv_charge.specs.Counted.{charge_counted}
use Rattle.fv_charge.specs.Ledgers.{IsLedgerOf}
use Rattle.fv_charge.proofs.Admissions.{changed_ledger}
use Rattle.fv_charge_laws.specs.Many.{AreChanges, AreCounted, AreSteps, ByCount, ByDelta, CanAll, IsPath, IsStep, left_by, Step}

pub along : (x y : Volume) (l last : Ledger) (deltas : List Delta) (path : List Volume) → IsLedgerOf x l → IsPath x deltas path y → AreChanges l deltas last → IsLedgerOf y last
along x y l last [] [] is same none = subst (λ (v : Volume). IsLedgerOf v last) same (subst (λ (k : Ledger). IsLedgerOf x k) (sym none) is)
along x y l last [] (v ∷ path) is bad none = absurd bad
along x y l last (d ∷ deltas) [] is bad some = absurd bad
along x y l last (d ∷ deltas) (v ∷ path) is goes some = along v y some.0 last deltas path (changed_ledger x v l some.0 d is goes.0 some.1) goes.1 some.2

-- after any changes the charge that is kept is the one that is counted
pub kept_is_counted : (x y : Volume) (l last : Ledger) (deltas : List Delta) (path : List Volume) (held : List Bool) (base : Option (List Bool)) (snapshots : ℕ)
    → IsLedgerOf x l → IsPath x deltas path y → AreChanges l deltas last → AreCounted y held base snapshots → last.charge ≡ charge_counted held base snapshots y.span
kept_is_counted x y l last deltas path held base snapshots is goes changed counted = (along x y l last deltas path is goes changed).charged ∙ counted.charged

-- one change more
pub one_more : (l mid last : Ledger) (deltas : List Delta) (d : Delta) → AreChanges l deltas mid → IsChanged mid d last → AreChanges l (deltas ++ d ∷ []) last
one_more l mid last [] d none changed = (last, subst (λ (k : Ledger). IsChanged k d last) none changed, refl)
one_more l mid last (first ∷ deltas) d some changed = (some.0, some.1, one_more some.0 mid last deltas d some.2 changed)

-- a loop over changes
pub changed_next : (l mid last : Ledger) (deltas : List Delta) (i : ℕ) (d : Delta) → i < length deltas → IsChanged mid (get_or deltas i d) last → AreChanges l (take i deltas) mid → AreChanges l (take (i + 1) deltas) last
changed_next l mid last deltas i d below changed so_far = subst (λ (ds : List Delta). AreChanges l ds last) (sym (take_more deltas i d below)) (one_more l mid last (take i deltas) (get_or deltas i d) so_far changed)

pub others_next : (mid last : Ledger) (deltas : List Delta) (i : ℕ) (d : Delta) → i < length deltas → IsChanged mid (get_or deltas i d) last → CanAll mid (drop i deltas) → CanAll last (drop (i + 1) deltas)
others_next mid last deltas i d below changed can =
    let left : drop i deltas ≡ get_or deltas i d ∷ drop (i + 1) deltas = rw add-one (drop-cons deltas i d below) in
    (subst (λ (ds : List Delta). CanAll mid ds) left can).1 last changed

-- ---- calls that change the ledger or count it anew

one_kept : (x : Volume) (l next : Ledger) (step : Step) → IsLedgerOf x l → IsStep x l step next → IsLedgerOf (left_by step) next
one_kept x l next (ByDelta d left) is done = changed_ledger x left l next d is done.0 done.1
one_kept x l next (ByCount held base snapshots left) is done =
    subst (λ (k : Ledger). IsLedgerOf left k) (sym done.1) (record { charged = sym done.0.charged; needed = refl; size = refl; kind = refl; span = refl })

pub all_kept : (x y : Volume) (l last : Ledger) (steps : List Step) → IsLedgerOf x l → AreSteps x l steps y last → IsLedgerOf y last
all_kept x y l last [] is none = subst (λ (v : Volume). IsLedgerOf v last) none.0 (subst (λ (k : Ledger). IsLedgerOf x k) (sym none.1) is)
all_kept x y l last (step ∷ steps) is some = all_kept (left_by step) y some.0 last steps (one_kept x l some.0 step is some.1) some.2

pub all_counted : (x y : Volume) (l last : Ledger) (steps : List Step) (held : List Bool) (base : Option (List Bool)) (snapshots : ℕ)
    → IsLedgerOf x l → AreSteps x l steps y last → AreCounted y held base snapshots → last.charge ≡ charge_counted held base snapshots y.span
all_counted x y l last steps held base snapshots is goes counted = (all_kept x y l last steps is goes).charged ∙ counted.charged
