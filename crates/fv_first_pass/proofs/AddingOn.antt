-- Lines that are added after a call that added none.
use Rattle.std.proofs.Common.{List, []}
use Rattle.fv_faults.specs.declared.fault.Fault.{Fault}
use Rattle.fv_faults.specs.declared.lines.Lines.{Lines}
use Rattle.fv_faults.specs.Adding.{Adds}
use Rattle.fv_faults.proofs.Adding.{adds_then}

pub nothing_first : (lines : List Fault) (old mid new : Lines) → Adds [] old mid → Adds lines mid new → Adds lines old new
nothing_first lines old mid new none adds = adds_then [] lines old mid new none adds
