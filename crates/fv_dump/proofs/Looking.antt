-- Looks, one after the other.
use Rattle.std.proofs.Common.{ℕ, List, refl, ap, ◌∙◌}
use Rattle.std.specs.Prelude.{◌≡◌, Option, Some, None, Ok, Err}
use Rattle.fv_disk.specs.declared.Failed.{Failed}
use Rattle.fv_disk.specs.Shown.{Shown}
use Rattle.fv_disk.specs.DiskCalls.{Reads}
use Rattle.fv_disk.proofs.Resting.{stays_itself, stays_on}
use Rattle.fv_dump.specs.declared.ending.Fault.{Fault}
use Rattle.fv_dump.specs.declared.ending.Fault.TheVariants.{Disk}
use Rattle.fv_dump.specs.Looking.{Looks, DiskTells, SinkTells}

-- no look at all
pub looks_not : (disk : Shown) → Looks disk disk None
looks_not disk = record { stays = stays_itself disk; left = refl; source_faults = refl; write_faults = refl; disk = refl; sink = refl; host = tt }

disk_on : (before mid now : ℕ) (fault : Option Fault) → mid ≡ before → DiskTells fault mid now → DiskTells fault before now
disk_on before mid now fault same tells = rw (← same) tells

sink_on : (before mid now : ℕ) (fault : Option Fault) → mid ≡ before → SinkTells fault mid now → SinkTells fault before now
sink_on before mid now fault same tells = rw (← same) tells

-- a look, and then another
pub looks_on : (old mid new : Shown) (fault : Option Fault) → Looks old mid None → Looks mid new fault → Looks old new fault
looks_on old mid new fault first second = record {
  stays = stays_on old mid new first.stays second.stays;
  left = second.left ∙ first.left;
  source_faults = second.source_faults ∙ first.source_faults;
  write_faults = second.write_faults ∙ first.write_faults;
  disk = disk_on old.faults mid.faults new.faults fault first.disk second.disk;
  sink = sink_on old.ends.sink_faults mid.ends.sink_faults new.ends.sink_faults fault first.sink second.sink;
  host = second.host;
}

-- a read that failed, and one that was done
pub read_looks : (old : Shown) (at : ℕ) (new : Shown) (block : List ℕ) (failed : Failed) → Reads old at new block (Err failed) → Looks old new (Some Disk)
read_looks old at new block failed reads = record {
  stays = reads.stays;
  left = ap (λ e. e.left) reads.ends;
  source_faults = ap (λ e. e.source_faults) reads.ends;
  write_faults = reads.write_faults;
  disk = reads.cause.rose;
  sink = ap (λ e. e.sink_faults) reads.ends;
  host = tt;
}

pub read_done : (old : Shown) (at : ℕ) (new : Shown) (block : List ℕ) → Reads old at new block (Ok tt) → Looks old new None
read_done old at new block reads = record {
  stays = reads.stays;
  left = ap (λ e. e.left) reads.ends;
  source_faults = ap (λ e. e.source_faults) reads.ends;
  write_faults = reads.write_faults;
  disk = reads.cause.calm;
  sink = ap (λ e. e.sink_faults) reads.ends;
  host = tt;
}
