-- Reads of which the last one tells the cause of the answer.
use Rattle.std.proofs.Common.{◌≡◌, subst}
use Rattle.std.specs.Prelude.{Result}
use Rattle.fv_disk.specs.Shown.{Shown}
use Rattle.fv_disk.specs.DiskCalls.{OnlyReads}
use Rattle.fv_disk.proofs.Resting.{reads_then}
use Rattle.fv_first_pass.specs.declared.fault.CheckFault.{CheckFault}
use Rattle.fv_first_pass.specs.Causes.{HasPassCause, HasRead}

pub reads_both : {T : Type 0} → (old mid new : Shown) (result : Result T CheckFault) → OnlyReads old mid → mid.faults ≡ old.faults → HasRead mid new result → HasRead old new result
reads_both old mid new result first calm second = record {
  only_reads = reads_then old mid new first second.only_reads;
  cause = subst (λ n. HasPassCause n new.faults result) calm second.cause;
}
