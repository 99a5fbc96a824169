use Rattle.fv_memdisk.specs.Blocks.{found}
use Rattle.fv_memdisk.proofs.Boxes.{none_found}
use Rattle.fv_memdisk.proofs.blocks.Blocks.new.Goals as goal

pub returns : goal.returns
unfolding found
returns c = none_found (λ b. b.value) c.new.result c.new.ensures.empty
