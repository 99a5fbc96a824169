use Rattle.std.proofs.Common.{arith, replicate, ap, ◌∙◌, cond}
use Rattle.std.proofs.lemmas.List.{take_all}
use Rattle.fv_memdisk.specs.Past.{is_among}
use Rattle.fv_memdisk.specs.Blocks.{disk_of}
use Rattle.fv_memdisk.proofs.Tearing.{fill_more}
use Rattle.fv_memdisk.proofs.torn.fill_all.Goals as goal

pub loop-at-preserved : goal.loop-at-preserved
loop-at-preserved c =
    fill_more c.loop-at.blocks c.put.new.self c.args.blocks.now c.args.places.now c.loop-at.at-index (replicate 4096 c.args.byte) (omega arith) c.in_ok-put.ensures.put c.loop-at.invariant

pub returns-clause-filled : goal.returns-clause-filled
returns-clause-filled c = λ a.
    c.loop-at.invariant a
    ∙ ap (λ places. cond (is_among places a) (replicate 4096 c.args.byte) (disk_of c.args.blocks.now a)) (take_all c.loop-at.at-index c.args.places.now (omega arith))
