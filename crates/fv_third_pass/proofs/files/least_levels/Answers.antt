use Rattle.std.proofs.Common.{sym, arith}
use Rattle.fv_third_pass.proofs.Least.{least_zero, least_suc}
use Rattle.fv_third_pass.proofs.files.least_levels.Goals as goal

pub returns-then-blocks-le1 : goal.returns-then-blocks-le1
returns-then-blocks-le1 c = sym (least_zero c.args.blocks (omega arith))

pub returns-then-blocks-le128 : goal.returns-then-blocks-le128
returns-then-blocks-le128 c = sym (least_suc c.args.blocks 0 (omega arith) (omega arith))

pub returns-then-blocks-le16384 : goal.returns-then-blocks-le16384
returns-then-blocks-le16384 c = sym (least_suc c.args.blocks 1 (omega arith) (omega arith))

pub returns-then-blocks-le2097152 : goal.returns-then-blocks-le2097152
returns-then-blocks-le2097152 c = sym (least_suc c.args.blocks 2 (omega arith) (omega arith))

pub returns-then-blocks-le268435456 : goal.returns-then-blocks-le268435456
returns-then-blocks-le268435456 c = sym (least_suc c.args.blocks 3 (omega arith) (omega arith))

pub returns-else-blocks-le268435456 : goal.returns-else-blocks-le268435456
returns-else-blocks-le268435456 c = sym (least_suc c.args.blocks 4 (omega arith) (omega arith))
