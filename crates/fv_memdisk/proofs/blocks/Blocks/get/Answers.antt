use Rattle.std.proofs.Common.{rules}
use Rattle.fv_memdisk.specs.Blocks.{found}
use Rattle.fv_memdisk.proofs.Boxes.{get_found, missing_found}
use Rattle.fv_memdisk.proofs.blocks.Blocks.get.Goals as goal

pub returns-in-Some : goal.returns-in-Some
unfolding found
returns-in-Some c = get_found (λ b. b.value) _ c.in-Some.block.now c.deref.result.now c.in-Some.ensures.value (search rules)

pub returns-in-None : goal.returns-in-None
unfolding found
returns-in-None c = missing_found (λ b. b.value) _ c.in-None.ensures.value
