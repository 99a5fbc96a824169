use Rattle.std.proofs.Common.{rules}
use Rattle.fv_memdisk.proofs.Tearing.{put_is_at, skip_is_at, put_other_at}
use Rattle.fv_memdisk.proofs.torn.put_one_at.Goals as goal

pub returns-in_ok-put : goal.returns-in_ok-put
returns-in_ok-put c = λ s others. put_is_at c.args.chosen.now others c.args.blocks.now c.put.new.self c.args.event.now c.in-Write.at c.in-Write.block c.in-Write.is (search rules) c.in_ok-put.ensures.put s

pub returns-else-contains : goal.returns-else-contains
returns-else-contains c = λ s others. skip_is_at c.args.chosen.now others c.args.blocks.now c.args.event.now c.in-Write.at c.in-Write.block c.in-Write.is (search rules) s

pub returns-in_default : goal.returns-in_default
returns-in_default c = λ s others. put_other_at c.args.chosen.now others c.args.blocks.now c.args.event.now c.in_default.not-Write s
