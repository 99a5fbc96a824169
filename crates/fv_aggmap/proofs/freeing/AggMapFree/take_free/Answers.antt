use Rattle.fv_aggmap.proofs.FreeRoom.{takes}
use Rattle.fv_aggmap.proofs.freeing.AggMapFree.take_free.Goals as goal

pub returns : goal.returns
returns c = let e = c.take_free.ensures in takes c.args.self.now e.size e.same c.take_free.new.self c.take_free.result e.none e.some e.taken e.unchanged
