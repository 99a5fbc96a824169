use Rattle.std.proofs.Common.{take}
use Rattle.fv_disk.specs.Shown.{Image}
use Rattle.fv_memdisk.specs.Past.{blank, replay}
use Rattle.fv_memdisk.specs.Tears.{IsUnsettled}
use Rattle.fv_memdisk.proofs.unsettled.find_unsettled.Given as goal

abbrev pub invariant-loop-count : goal.invariant-loop-count
invariant-loop-count l = (base : Image) → IsUnsettled l.found.start l.found.written.items (replay (blank base) (take l.count l.events))
