-- How a command changes a ledger, and when there is room for it.
use Rattle.std.specs.Prelude.{◌≡◌, ℕ, ◌+◌, ◌-◌, ◌^◌, ℤ, pos, ◌+ℤ◌, ◌≤ℤ◌, cond, nat_lt, List, Option, Some, None, Result, Ok, Err}
use Rattle.std.specs.FinMap as fin
use Rattle.fv_model.specs.declared.answers.Refusal.{Refusal}
use Rattle.fv_model.specs.declared.answers.Refusal.TheVariants.{VolumeFull, AggregateFull}
use Rattle.fv_model.specs.declared.commands.Command.{Command}
use Rattle.fv_model.specs.Volumes.{Volume}
use Rattle.fv_model.specs.Machines.{Machine, capacity}
use Rattle.fv_model.specs.Space.{charge, need, commit, commits}
use Rattle.fv_model.specs.Effects.{effect}
use Rattle.fv_model.specs.Refusals.{first_of, space}
use Rattle.fv_charge.specs.declared.ledger.Ledger.{Ledger}
use Rattle.fv_charge.specs.declared.delta.Delta.{Delta}
use Rattle.fv_charge.specs.Ledgers.{IsLedgerOf, committed}

-- a number rises by this much, or falls where that is below 0
abbrev pub Moves : ℕ → ℤ → ℕ → Type 0
Moves before by after = pos after ≡ (pos before +ℤ by)

-- a number of blocks can rise or fall so much
pub record CanMove (before : ℕ) (by : ℤ) : Type 0 where
  pub least : pos 0 ≤ℤ (pos before +ℤ by)
  pub most : (pos before +ℤ by) ≤ℤ pos (2 ^ 32 - 1)

pub record CanChange (l : Ledger) (d : Delta) : Type 0 where
  pub charge : CanMove l.charge d.charge
  pub need : CanMove l.need d.need

-- the ledger after a change: both numbers have moved, size and kind are those of the change, and the span stays
pub record IsChanged (before : Ledger) (d : Delta) (after : Ledger) : Type 0 where
  pub charge : Moves before.charge d.charge after.charge
  pub need : Moves before.need d.need after.need
  pub size : after.size ≡ d.size
  pub kind : after.kind ≡ d.kind
  pub span : after.span ≡ before.span

-- one volume becomes another one by a change
pub record IsDeltaOf (x y : Volume) (d : Delta) : Type 0 where
  pub charge : Moves (charge x) d.charge (charge y)
  pub need : Moves (need x) d.need (need y)
  pub size : d.size ≡ y.size
  pub kind : d.kind ≡ y.kind
  pub span : y.span ≡ x.span

-- whether a volume with this ledger has room, beside others that commit so much: its use is within its size, and all commits are within the
-- capacity. The size is asked first.
abbrev pub admission : Ledger → ℕ → ℕ → Result Unit Refusal
admission l others capacity =
    cond (nat_lt l.size (l.charge + l.need)) (Err VolumeFull) (cond (nat_lt capacity (others + committed l)) (Err AggregateFull) (Ok tt))

-- The machine that a command would leave has a volume with this ledger, and the other volumes commit so much of this capacity.
pub record IsLeft (m : Machine) (c : Command) (v : List ℕ) (l : Ledger) (others blocks : ℕ) : Type 0 where
  pub volume : Volume
  pub there : fin.get (effect m c).volumes v ≡ Some volume
  pub ledger : IsLedgerOf volume l
  pub sum : commits (effect m c) ≡ others + commit volume
  pub capacity : blocks ≡ capacity (effect m c).blocks

-- what the machine says of the space for a command
abbrev pub answer_of : Option Refusal → Result Unit Refusal
answer_of None = Ok tt
answer_of (Some r) = Err r

abbrev pub machine_answer : Machine → Command → List ℕ → Result Unit Refusal
machine_answer m c v = answer_of (first_of (space m c v))
