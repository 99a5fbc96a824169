use Rattle.fv_memdisk.proofs.Images.{filled_is}
use Rattle.fv_memdisk.proofs.torn.tear_off.Goals as goal

pub returns-in-Fill-clause-content : goal.returns-in-Fill-clause-content
returns-in-Fill-clause-content c = filled_is c.fill_all.result c.args.blocks.now c.fill_all.new.blocks c.args.since.now c.args.written.now c.args.tear c.in-Fill.byte c.in-Fill.is c.fill_all.ensures.filled
