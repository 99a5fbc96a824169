-- Counts of faults over several calls.
use Rattle.std.proofs.Common.{◌≡◌, ℕ, List, refl, subst}
use Rattle.std.specs.Prelude.{Option, Some, None, Ok, Err}
use Rattle.fv_disk.specs.declared.Failed.{Failed}
use Rattle.fv_disk.specs.Shown.{Shown}
use Rattle.fv_script.specs.Telling.{Tells}
use Rattle.fv_lines.specs.Counts.{Count, Source, Sink, Disk, RisesFor, Counts}
use Rattle.fv_lines.specs.Reading.{Asks}

pub counts_none : (host : Shown) → Counts host host None
counts_none host = record { tells = refl; source = refl; sink = refl; disk = refl }

since : (count : Count) (raised : Option Count) (before mid now : ℕ) → mid ≡ before → RisesFor count raised mid now → RisesFor count raised before now
since count raised before mid now same rises = subst (λ (n : ℕ). RisesFor count raised n now) same rises

-- calls that were done, and then more of them
pub counts_then : (old mid new : Shown) (raised : Option Count) → Counts old mid None → Counts mid new raised → Counts old new raised
counts_then old mid new raised first second = record {
  tells = rw (← first.tells) second.tells;
  source = since Source raised _ _ _ first.source second.source;
  sink = since Sink raised _ _ _ first.sink second.sink;
  disk = since Disk raised _ _ _ first.disk second.disk;
}

-- calls of the source alone
pub asked : {X : Type 0} (old new : Shown) (x : X) → Asks old new (Ok x) → Counts old new None
asked old new x asks = record { tells = asks.rests.stays.tells; source = asks.cause.calm; sink = asks.sink_faults; disk = asks.rests.faults }

pub asked_failed : {X : Type 0} (old new : Shown) (e : Failed) → Asks {T = X} old new (Err e) → Counts old new (Some Source)
asked_failed old new e asks = record { tells = asks.rests.stays.tells; source = asks.cause.rose; sink = asks.sink_faults; disk = asks.rests.faults }

-- bytes are given out
pub told : (old new : Shown) (bytes : List ℕ) → Tells old bytes new (Ok tt) → Counts old new None
told old new bytes tells = record { tells = tells.gives.rests.stays.tells; source = tells.gives.source_faults; sink = tells.gives.cause.calm; disk = tells.gives.rests.faults }

pub untold : (old new : Shown) (bytes : List ℕ) (e : Failed) → Tells old bytes new (Err e) → Counts old new (Some Sink)
untold old new bytes e tells = record { tells = tells.gives.rests.stays.tells; source = tells.gives.source_faults; sink = tells.gives.cause.rose; disk = tells.gives.rests.faults }
