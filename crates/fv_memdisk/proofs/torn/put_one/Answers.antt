use Rattle.fv_memdisk.proofs.Tearing.{put_is, put_other}
use Rattle.fv_memdisk.proofs.torn.put_one.Goals as goal

pub returns-in_ok-put : goal.returns-in_ok-put
returns-in_ok-put c = put_is c.args.blocks.now c.put.new.self c.args.event.now c.in-Write.at c.in-Write.block c.in-Write.is c.in_ok-put.ensures.put

pub returns-in_default : goal.returns-in_default
returns-in_default c = put_other c.args.blocks.now c.args.event.now c.in_default.not-Write
