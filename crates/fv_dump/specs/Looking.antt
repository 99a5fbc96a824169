-- What a dump does with its host: it reads blocks and gives bytes, and nothing else.
use Rattle.std.specs.Prelude.{◌≡◌, ◌==◌, if◌then◌else◌, ℕ, Bool, true, false, Option, Some, None, Result, Ok, Err, IsTrue}
use Rattle.fv_disk.specs.Shown.{Shown, Rose}
use Rattle.fv_disk.specs.DiskCalls.{Stays}
use Rattle.fv_dump.specs.declared.ending.Fault.{Fault}
use Rattle.fv_root.specs.Finding.{IsNoAggregate}
use Rattle.fv_dump.specs.declared.ending.Fault.TheVariants.{Usage, NotAggregate, Sink, Disk, Memory}

-- why a call wasn't done, if it wasn't
abbrev pub fault_of : {T : Type 0} → Result T Fault → Option Fault
fault_of (Ok done) = None
fault_of (Err fault) = Some fault

-- the count of failed calls of the disk rose where the disk failed, and stays otherwise
abbrev pub DiskTells : Option Fault → ℕ → ℕ → Type 0
DiskTells (Some Disk) before now = Rose before now
DiskTells fault before now = now ≡ before

-- the count of failed gives rose where the sink failed, and stays otherwise
abbrev pub SinkTells : Option Fault → ℕ → ℕ → Type 0
SinkTells (Some Sink) before now = Rose before now
SinkTells fault before now = now ≡ before

-- a fault of the host: of its disk, its sink or its memory
abbrev pub IsOfHost : Option Fault → Type 0
IsOfHost (Some Usage) = ⊥
IsOfHost (Some NotAggregate) = ⊥
IsOfHost fault = Unit {0}

-- Nothing was written and nothing was taken: what reads give, what a crash may leave and the source stay. The counts of faults tell
-- whether the disk or the sink failed.
pub record Looks (old new : Shown) (fault : Option Fault) : Type 0 where
  pub stays : Stays old new
  pub left : new.ends.left ≡ old.ends.left
  pub source_faults : new.ends.source_faults ≡ old.ends.source_faults
  pub write_faults : new.write_faults ≡ old.write_faults
  pub disk : DiskTells fault old.faults new.faults
  pub sink : SinkTells fault old.ends.sink_faults new.ends.sink_faults
  pub host : IsOfHost fault

-- A whole dump looks, too, and may end since there is no aggregate, which is so then.
abbrev pub Ends : Shown → Shown → Option Fault → Type 0
Ends old new (Some Usage) = ⊥
Ends old new (Some NotAggregate) = Looks old new None × (IsTrue old.tells → IsNoAggregate old.reads)
Ends old new fault = Looks old new fault

-- Words with a meaning are obeyed; other ones are a fault, and nothing else happens.
abbrev pub Obeys : Bool → Shown → Shown → Option Fault → Type 0
Obeys true old new fault = Ends old new fault
Obeys false old new fault = (fault ≡ Some Usage) × Looks old new None

-- the status that tells of a fault
abbrev pub status_of : Fault → ℕ
status_of NotAggregate = 2
status_of Sink = 4
status_of Disk = 5
status_of Memory = 6
status_of Usage = 7

-- the fault of the host that a status tells of, if it does
abbrev pub raised_by : ℕ → Option Fault
raised_by status = if status == 4 then Some Sink else (if status == 5 then Some Disk else None)
