-- What the status tells, whatever was asked for.
use Rattle.std.proofs.Common.{◌≡◌, [], ◌∷◌, refl, sym, subst, arith}
use Rattle.std.specs.Prelude.{◌↔◌, Option, Some, None, Result, Ok, Err, Contains}
use Rattle.fv_disk.specs.Shown.{Shown}
use Rattle.fv_lines.specs.Counts.{Count, Counts, told_by}
use Rattle.fv_run.specs.declared.ending.Fault.{Fault}
use Rattle.fv_run.specs.declared.ending.Fault.TheVariants.{Usage, Unsound, NotAggregate, Source, Sink, Disk, Memory, Damaged, Limit}
use Rattle.fv_run.specs.declared.words.Order.{Order}
use Rattle.fv_run.specs.declared.words.Order.TheVariants.{Check, Create, Gen, Run}
use Rattle.fv_run.specs.Checking.{IsChecked}
use Rattle.fv_run.specs.Creating.{Creates}
use Rattle.fv_run.specs.Endings.{raised_by, status_in}
use Rattle.fv_run.specs.Generating.{Generates, lines_drawn}
use Rattle.fv_run.specs.Running.{Ran}
use Rattle.fv_run.specs.Statuses.{Runs, most_bytes}

pub each_status : (result : Result Unit Fault) → Contains (0 ∷ 1 ∷ 2 ∷ 3 ∷ 4 ∷ 5 ∷ 6 ∷ 7 ∷ 8 ∷ 9 ∷ []) (status_in result)
each_status (Ok done) = (0, omega arith, refl)
each_status (Err Unsound) = (1, omega arith, refl)
each_status (Err NotAggregate) = (2, omega arith, refl)
each_status (Err Source) = (3, omega arith, refl)
each_status (Err Sink) = (4, omega arith, refl)
each_status (Err Disk) = (5, omega arith, refl)
each_status (Err Memory) = (6, omega arith, refl)
each_status (Err Usage) = (7, omega arith, refl)
each_status (Err Damaged) = (8, omega arith, refl)
each_status (Err Limit) = (9, omega arith, refl)

-- ---- counts

same_count : (result : Result Unit Fault) → told_by (status_in result) ≡ raised_by result
same_count (Ok done) = refl
same_count (Err NotAggregate) = refl
same_count (Err Source) = refl
same_count (Err Sink) = refl
same_count (Err Disk) = refl
same_count (Err Memory) = refl
same_count (Err Usage) = refl
same_count (Err Unsound) = refl
same_count (Err Damaged) = refl
same_count (Err Limit) = refl

counted : (asked : Option Order) (old new : Shown) (result : Result Unit Fault) → Runs asked old new result → Counts old new (raised_by result)
counted (Some Run) old new result runs = (runs.runs refl).counts
counted (Some Check) old new result runs = (runs.checks refl).counts
counted (Some (Create blocks)) old new result runs = (runs.creates blocks refl).counts
counted (Some (Gen seed count)) old new result runs = (runs.generates seed count refl).counts
counted None old new result runs = let usage = runs.usage refl in subst (λ (r : Result Unit Fault). Counts old new (raised_by r)) (sym usage.0) usage.1

pub counts_told : (asked : Option Order) (old new : Shown) (result : Result Unit Fault) → Runs asked old new result → Counts old new (told_by (status_in result))
counts_told asked old new result runs = subst (λ (raised : Option Count). Counts old new raised) (sym (same_count result)) (counted asked old new result runs)

-- ---- usage

usage_alone : (result : Result Unit Fault) → status_in result ≡ 7 → result ≡ Err Usage
usage_alone (Ok done) e = absurd (omega (arith, e))
usage_alone (Err Unsound) e = absurd (omega (arith, e))
usage_alone (Err NotAggregate) e = absurd (omega (arith, e))
usage_alone (Err Source) e = absurd (omega (arith, e))
usage_alone (Err Sink) e = absurd (omega (arith, e))
usage_alone (Err Disk) e = absurd (omega (arith, e))
usage_alone (Err Memory) e = absurd (omega (arith, e))
usage_alone (Err Usage) e = refl
usage_alone (Err Damaged) e = absurd (omega (arith, e))
usage_alone (Err Limit) e = absurd (omega (arith, e))

asks_none : (asked : Option Order) (old new : Shown) (result : Result Unit Fault) → result ≡ Err Usage → Runs asked old new result → asked ≡ None
asks_none None old new result is runs = refl
asks_none (Some Run) old new result is runs = absurd (subst (λ (r : Result Unit Fault). Ran most_bytes old new r) is (runs.runs refl)).reason
asks_none (Some Check) old new result is runs = absurd (subst (λ (r : Result Unit Fault). IsChecked old new r) is (runs.checks refl)).only
asks_none (Some (Gen seed count)) old new result is runs = absurd (subst (λ (r : Result Unit Fault). Generates (lines_drawn seed count) old new r) is (runs.generates seed count refl)).reason
asks_none (Some (Create blocks)) old new result is runs = absurd (subst (λ (r : Result Unit Fault). Creates blocks old new r) is (runs.creates blocks refl)).only

pub usage_told : (asked : Option Order) (old new : Shown) (result : Result Unit Fault) → Runs asked old new result → (status_in result ≡ 7) ↔ (asked ≡ None)
usage_told asked old new result runs = (
  (λ e. asks_none asked old new result (usage_alone result e) runs),
  (λ (none : asked ≡ None). subst (λ (r : Result Unit Fault). status_in r ≡ 7) (sym (runs.usage none).0) refl),
)
