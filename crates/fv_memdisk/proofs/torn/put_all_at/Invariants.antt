use Rattle.std.proofs.Common.{take}
use Rattle.fv_disk.specs.Shown.{Image}
use Rattle.fv_memdisk.specs.Past.{State, replay}
use Rattle.fv_memdisk.specs.Tears.{StandsAt}
use Rattle.fv_memdisk.proofs.torn.put_all_at.Given as goal

abbrev pub invariant-loop-kept : goal.invariant-loop-kept
invariant-loop-kept l = (s : State) (others : Image) → StandsAt l.chosen others l.initial.blocks s → StandsAt l.chosen others l.blocks (replay s (take l.kept-index l.events))
