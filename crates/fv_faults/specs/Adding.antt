-- What calls add to the lines that are noted. In which order lines come, and how often, doesn't matter.
use Rattle.std.specs.Prelude.{◌⊎◌, ◌↔◌, List}
use Rattle.fv_laws.proofs.Lists.{In}
use Rattle.fv_faults.specs.declared.fault.Fault.{Fault}
use Rattle.fv_faults.specs.declared.lines.Lines.{Lines}

-- The lines that are noted are those of before and these.
pub record Adds (lines : List Fault) (old new : Lines) : Type 0 where
  pub each : (f : Fault) → In f new.lines.keys ↔ (In f old.lines.keys ⊎ In f lines)
