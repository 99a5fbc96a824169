-- What all volumes commit together: at most so much, and where the volume of one slot changed.
use Rattle.std.proofs.Common.{◌≡◌, ◌<◌, ◌+◌, ◌-◌, ◌*◌, ◌^◌, ◌≤◌, ℕ, suc, [], ◌∷◌, length, Option, Some, None, arith}
use Rattle.std.specs.Prelude.{IfSome}
use Rattle.std.proofs.lemmas.List.Sums.{get_or-le-sum_by, sum_by-cons, sum_by-set}
use Rattle.fv_codec.specs.Blocks.{IsLabel}
use Rattle.fv_charge.specs.Ledgers.{committed}
use Rattle.fv_charge.proofs.Commits.{committed_most}
use Rattle.fv_volume.specs.declared.state.VolumeState.{VolumeState}
use Rattle.fv_volume.specs.Files.{IsLabelled}
use Rattle.fv_volume.specs.Labels.{label_said}
use Rattle.fv_volume.specs.OneVolume.{IsBooked}
use Rattle.fv_volume.specs.Slots.{committed_by, sum_of}
use Rattle.fv_volume.specs.States.{States, state_at, with_state}

-- ---- at most

size_most : (x : VolumeState) → IsLabel (label_said x 0 1) → x.size ≤ 500000
unfolding label_said
size_most x label = let low = label.size_greatest in omega (arith, low)

-- a volume with a label and a ledger
pub commit_most : (s : ℕ) (x : VolumeState) → IsLabelled s x → IsBooked x → committed x.ledger ≤ 2 ^ 34
commit_most s x labelled booked =
    let small = size_most x (labelled.label 0 1 (omega arith) (omega arith) (omega arith)) in
    let counts = labelled.counts in let span = labelled.span in let size = booked.size in let need = booked.need in let charge = booked.charge in
    committed_most x.ledger (omega (arith, counts, span)) (omega (arith, size, small)) (omega (arith, need, charge))

most_each : (xs : States) → ((k : ℕ) → committed_by (state_at xs k) ≤ 2 ^ 34) → sum_of xs ≤ 2 ^ 34 * length xs
most_each [] each = omega arith
most_each (x ∷ xs) each = let first : committed_by x ≤ 2 ^ 34 = each 0 in let rest = most_each xs (λ k. each (suc k)) in omega (arith, first, rest, sum_by-cons committed_by x xs)

-- Where each volume has a label and a ledger, all together commit no more than this.
pub commits_most : (states : States) → length states ≡ 64 → ((s : ℕ) → IfSome (state_at states s) (IsLabelled s)) → ((s : ℕ) → IfSome (state_at states s) IsBooked) → sum_of states ≤ 2 ^ 40
commits_most states long labelled booked =
    let each = most_each states (λ s. so (state_at states s) s (labelled s) (booked s)) in
    omega (arith, each, long)
  where
    so : (o : Option VolumeState) (s : ℕ) → IfSome o (IsLabelled s) → IfSome o IsBooked → committed_by o ≤ 2 ^ 34
    so None s label book = omega arith
    so (Some x) s label book = commit_most s x label book

-- ---- where the volume of a slot changed

-- the others, and what the slot commits now
pub sum_with : (states : States) (slot : ℕ) → slot < length states → (o : Option VolumeState) (others : ℕ) → others ≡ sum_of states - committed_by (state_at states slot)
    → others + committed_by o ≡ sum_of (with_state states slot o)
sum_with states slot inside o others beside =
    let sum = sum_by-set committed_by states slot o None inside in
    let own = get_or-le-sum_by committed_by states slot None inside in
    omega (arith, sum, own, beside)
