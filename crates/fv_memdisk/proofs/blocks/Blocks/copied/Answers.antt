use Rattle.std.proofs.Common.{rules}
use Rattle.std.proofs.lemmas.List.Elements.{same_from_all_zip}
use Rattle.fv_memdisk.specs.Blocks.{found}
use Rattle.fv_memdisk.proofs.Boxes.{cloned_found}
use Rattle.fv_memdisk.proofs.blocks.Blocks.copied.Goals as goal

pub returns : goal.returns
unfolding found
returns c = cloned_found (λ b. b.value) _ _ (λ x y e. search rules) (λ v w e. search (rules, same_from_all_zip)) c.args.self.now.map c.in_ok-clone.field-0 c.in_ok-clone.ensures.cases
