-- How a whole dump ends.
use Rattle.std.proofs.Common.{ℕ, refl, ap, arith, rules}
use Rattle.std.specs.Prelude.{◌≡◌, ◌≢◌, Bool, true, false, Option, Some, None, IsTrue}
use Rattle.fv_disk.specs.Shown.{Shown}
use Rattle.fv_disk.specs.DiskCalls.{OnlyReads}
use Rattle.fv_root.specs.Finding.{IsNoAggregate}
use Rattle.fv_dump.specs.declared.ending.Fault.{Fault}
use Rattle.fv_dump.specs.declared.ending.Fault.TheVariants.{Usage, NotAggregate, Sink, Disk, Memory}
use Rattle.fv_dump.specs.Looking.{Ends, Looks, Obeys, raised_by, status_of}
use Rattle.fv_dump.proofs.Looking.{looks_on}

pub looks_end : (old new : Shown) (fault : Option Fault) → Looks old new fault → Ends old new fault
looks_end old new None looks = looks
looks_end old new (Some Usage) looks = absurd looks.host
looks_end old new (Some NotAggregate) looks = absurd looks.host
looks_end old new (Some Sink) looks = looks
looks_end old new (Some Disk) looks = looks
looks_end old new (Some Memory) looks = looks

-- no aggregate was found by reads
pub ends_shut : (old new : Shown) → OnlyReads old new → new.faults ≡ old.faults → (IsTrue old.tells → IsNoAggregate old.reads) → Ends old new (Some NotAggregate)
ends_shut old new reads same shut = (
  record {
    stays = reads.stays;
    left = ap (λ e. e.left) reads.ends;
    source_faults = ap (λ e. e.source_faults) reads.ends;
    write_faults = reads.write_faults;
    disk = same;
    sink = ap (λ e. e.sink_faults) reads.ends;
    host = tt;
  },
  shut,
)

-- a look, and then the rest of a dump
pub ends_on : (old mid new : Shown) (fault : Option Fault) → Looks old mid None → Ends mid new fault → Ends old new fault
ends_on old mid new None first second = looks_on old mid new None first second
ends_on old mid new (Some Usage) first second = second
ends_on old mid new (Some NotAggregate) first second =
    (looks_on old mid new None first second.0, λ tells. let shut : IsNoAggregate mid.reads = second.1 (rw first.stays.tells tells) in rw (← first.stays.reads) shut)
ends_on old mid new (Some Sink) first second = looks_on old mid new (Some Sink) first second
ends_on old mid new (Some Disk) first second = looks_on old mid new (Some Disk) first second
ends_on old mid new (Some Memory) first second = looks_on old mid new (Some Memory) first second

-- what a status tells of a dump that wasn't done
ended : (old new : Shown) (fault : Fault) → Ends old new (Some fault) → Looks old new (raised_by (status_of fault))
ended old new Usage ends = absurd ends
ended old new NotAggregate ends = ends.0
ended old new Sink ends = ends
ended old new Disk ends = ends
ended old new Memory ends = record {
  stays = ends.stays;
  left = ends.left;
  source_faults = ends.source_faults;
  write_faults = ends.write_faults;
  disk = ends.disk;
  sink = ends.sink;
  host = tt;
}

-- the status of a fault, or of none
status_or : Option Fault → ℕ
status_or None = 0
status_or (Some fault) = status_of fault

no_usage : (fault : Fault) → Some fault ≡ Some Usage → status_of fault ≢ 7 → ⊥
unfolding status_or
no_usage fault same other = other (ap status_or same)

true-not-false : ◌≡◌ {A = Bool} true false → ⊥
true-not-false e = search rules

-- the words have a meaning or not: what a fault's status then tells
pub told_looks : (b : Bool) (old new : Shown) (fault : Fault) → Obeys b old new (Some fault) → Looks old new (raised_by (status_of fault))
told_looks true old new fault told = ended old new fault told
told_looks false old new Usage told = told.1
told_looks false old new NotAggregate told = absurd (no_usage NotAggregate told.0 (omega arith))
told_looks false old new Sink told = absurd (no_usage Sink told.0 (omega arith))
told_looks false old new Disk told = absurd (no_usage Disk told.0 (omega arith))
told_looks false old new Memory told = absurd (no_usage Memory told.0 (omega arith))

pub told_shut : (b : Bool) (old new : Shown) (fault : Fault) → Obeys b old new (Some fault) → status_of fault ≡ 2 → IsTrue old.tells → IsNoAggregate old.reads
told_shut true old new Usage told two = absurd told
told_shut true old new NotAggregate told two = told.1
told_shut true old new Sink told two = absurd (omega (arith, two))
told_shut true old new Disk told two = absurd (omega (arith, two))
told_shut true old new Memory told two = absurd (omega (arith, two))
told_shut false old new fault told two = absurd (no_usage fault told.0 (omega (arith, two)))

-- only words without a meaning end with 7, and they do
pub told_usage : (b : Bool) (old new : Shown) (fault : Fault) → Obeys b old new (Some fault) → (status_of fault ≡ 7 → b ≡ false) × (b ≡ false → status_of fault ≡ 7)
unfolding status_or
told_usage true old new Usage told = absurd told
told_usage true old new NotAggregate told = (λ seven. absurd (omega (arith, seven)), λ no. absurd (true-not-false no))
told_usage true old new Sink told = (λ seven. absurd (omega (arith, seven)), λ no. absurd (true-not-false no))
told_usage true old new Disk told = (λ seven. absurd (omega (arith, seven)), λ no. absurd (true-not-false no))
told_usage true old new Memory told = (λ seven. absurd (omega (arith, seven)), λ no. absurd (true-not-false no))
told_usage false old new fault told = (λ seven. refl, λ no. ap status_or told.0)

pub told_done : (b : Bool) (old new : Shown) → Obeys b old new None → (◌≡◌ {A = ℕ} 0 7 → b ≡ false) × (b ≡ false → ◌≡◌ {A = ℕ} 0 7)
unfolding status_or
told_done true old new told = (λ zero. absurd (omega (arith, zero)), λ no. absurd (true-not-false no))
told_done false old new told = (λ zero. absurd (omega (arith, zero)), λ no. ap status_or told.0)

pub done_looks : (b : Bool) (old new : Shown) → Obeys b old new None → Looks old new None
done_looks true old new told = told
done_looks false old new told = told.1
