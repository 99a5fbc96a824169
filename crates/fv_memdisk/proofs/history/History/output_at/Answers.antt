use Rattle.std.proofs.Common.{arith}
use Rattle.fv_memdisk.proofs.Images.{output_is}
use Rattle.fv_memdisk.proofs.history.History.output_at.Goals as goal

pub returns : goal.returns
returns c = let h = c.args.self.now in output_is h.past.items h.run c.args.moment c.index.result.now c.index.ensures c.if-moment-eq0.false (omega (arith, h.sound.run))
