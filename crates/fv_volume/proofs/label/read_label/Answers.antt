use Rattle.std.proofs.Common.{ℕ, subst}
use Rattle.fv_disk.specs.Faults.{HasBlockCause}
use Rattle.fv_volume.proofs.label.read_label.Goals as goal

pub returns-clause-cause : goal.returns-clause-cause
returns-clause-cause g c = subst (λ (n : ℕ). HasBlockCause n (g.D.Disk.shown c.get.new.disk).faults c.label_in.result) c.in_ok-get.ensures.reads.cause.calm (c.label_in.ensures.cause (g.D.Disk.shown c.get.new.disk).faults)
