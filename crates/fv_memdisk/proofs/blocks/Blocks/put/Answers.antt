use Rattle.std.proofs.Common.{rules}
use Rattle.fv_memdisk.specs.Blocks.{found}
use Rattle.fv_memdisk.proofs.Boxes.{on_err, put_found, same_found}
use Rattle.fv_memdisk.proofs.blocks.Blocks.put.Goals as goal

pub returns-in_err-insert-clause-stays : goal.returns-in_err-insert-clause-stays
unfolding found
returns-in_err-insert-clause-stays c = on_err c.from_residual-in_err-insert.result (same_found (λ b. b.value) c.args.self.now.map c.insert.new.self c.in_err-insert.ensures.err)

pub returns-clause-put : goal.returns-clause-put
unfolding found
returns-clause-put c = put_found (λ b. b.value) c.args.self.now.map c.insert.new.self c.args.at c.in_ok-boxed.boxed c.args.block.now c.in_ok-insert.ensures.updates (search rules)
