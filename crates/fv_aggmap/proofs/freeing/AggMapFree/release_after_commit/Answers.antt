use Rattle.std.proofs.Common.{◌∙◌, sym, arith}
use Rattle.fv_aggmap.proofs.FreeRoom.{releases, releases_past}
use Rattle.fv_aggmap.proofs.freeing.AggMapFree.release_after_commit.Goals as goal

pub returns-then-pvbn-blocks : goal.returns-then-pvbn-blocks
returns-then-pvbn-blocks c =
    let b = c.blocks-2.ensures in
    releases c.args.self.now b.size (sym b.next ∙ b.value) c.release_after_commit.new.self c.args.pvbn (omega (arith, b.value, c.if-pvbn-blocks.true)) c.release_after_commit.ensures

pub returns-else-pvbn-blocks : goal.returns-else-pvbn-blocks
returns-else-pvbn-blocks c =
    let b = c.blocks-2.ensures in
    releases_past c.args.self.now b.size (sym b.next ∙ b.value) c.args.pvbn (omega (arith, b.value, c.if-pvbn-blocks.false))
