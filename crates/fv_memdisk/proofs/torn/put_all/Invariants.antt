use Rattle.std.proofs.Common.{take}
use Rattle.fv_memdisk.specs.Past.{State, replay}
use Rattle.fv_memdisk.specs.Tears.{Stands}
use Rattle.fv_memdisk.proofs.torn.put_all.Given as goal

abbrev pub invariant-loop-kept : goal.invariant-loop-kept
invariant-loop-kept l = (s : State) → Stands l.initial.blocks s → Stands l.blocks (replay s (take l.kept-index l.events))
