-- Many changes of a ledger, and the numbers counted from scratch behind them.
use Rattle.std.specs.Prelude.{◌≡◌, ℕ, Bool, List, [], ◌∷◌, Option}
use Rattle.fv_model.specs.Volumes.{Volume}
use Rattle.fv_model.specs.Space.{charge, need}
use Rattle.fv_charge.specs.declared.ledger.Ledger.{Ledger}
use Rattle.fv_charge.specs.declared.delta.Delta.{Delta}
use Rattle.fv_charge.specs.Changes.{CanChange, IsChanged, IsDeltaOf}
use Rattle.fv_charge.specs.Counted.{charge_counted}

-- each change can be made, behind those before it
abbrev pub CanAll : Ledger → List Delta → Type 0
CanAll l [] = Unit {0}
CanAll l (d ∷ deltas) = CanChange l d × ((next : Ledger) → IsChanged l d next → CanAll next deltas)

-- a ledger becomes another one by these changes, one after another
abbrev pub AreChanges : Ledger → List Delta → Ledger → Type 0
AreChanges l [] last = last ≡ l
AreChanges l (d ∷ deltas) last = (next : Ledger) × IsChanged l d next × AreChanges next deltas last

-- a volume becomes another one by these changes, over the volumes between
abbrev pub IsPath : Volume → List Delta → List Volume → Volume → Type 0
IsPath x [] [] y = x ≡ y
IsPath x [] (v ∷ path) y = ⊥
IsPath x (d ∷ deltas) [] y = ⊥
IsPath x (d ∷ deltas) (v ∷ path) y = IsDeltaOf x v d × IsPath v deltas path y

-- the maps of a volume count what it is charged for: the numbers that are held, or of them those that aren't the base's, and a map for each snapshot
pub record AreCounted (v : Volume) (held : List Bool) (base : Option (List Bool)) (snapshots : ℕ) : Type 0 where
  pub charged : charge v ≡ charge_counted held base snapshots v.span

-- What a call does to the ledger of the volume that it leaves: it changes it by a delta, or counts it anew by that volume's maps.
pub data Step : Type 0 where
  ByDelta : (d : Delta) (left : Volume) → Step
  ByCount : (held : List Bool) (base : Option (List Bool)) (snapshots : ℕ) (left : Volume) → Step

abbrev pub left_by : Step → Volume
left_by (ByDelta d left) = left
left_by (ByCount held base snapshots left) = left

-- the ledger that is counted from scratch for a volume
abbrev pub counted_ledger : List Bool → Option (List Bool) → ℕ → Volume → Ledger
counted_ledger held base snapshots v = record { charge = charge_counted held base snapshots v.span; need = need v; size = v.size; kind = v.kind; span = v.span }

abbrev pub IsStep : Volume → Ledger → Step → Ledger → Type 0
IsStep x l (ByDelta d left) next = IsDeltaOf x left d × IsChanged l d next
IsStep x l (ByCount held base snapshots left) next = AreCounted left held base snapshots × (next ≡ counted_ledger held base snapshots left)

-- a volume with its ledger becomes another one by calls, one after another
abbrev pub AreSteps : Volume → Ledger → List Step → Volume → Ledger → Type 0
AreSteps x l [] y last = (x ≡ y) × (last ≡ l)
AreSteps x l (step ∷ steps) y last = (next : Ledger) × IsStep x l step next × AreSteps (left_by step) next steps y last
