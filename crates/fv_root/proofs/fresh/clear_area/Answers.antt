use Rattle.std.proofs.Common.{rules, arith}
use Rattle.std.specs.Prelude.{IsTrue}
use Rattle.fv_disk.proofs.Sparing.{spares_then}
use Rattle.fv_root.specs.Steps.{IsBesides}
use Rattle.fv_root.proofs.Making.{cleared_more}
use Rattle.fv_root.proofs.fresh.clear_area.Goals as goal

pub returns-in_err-write_behind-clause-spares : goal.returns-in_err-write_behind-clause-spares
returns-in_err-write_behind-clause-spares g c = spares_then (IsBesides c.args.blocks) _ (g.D.Disk.shown c.loop-k.disk) _ _ c.loop-k.invariant.spares (search rules)

pub loop-k-preserved : goal.loop-k-preserved
loop-k-preserved g c = record {
  cleared = λ tells. let told : IsTrue (g.D.Disk.shown c.loop-k.disk).tells = rw c.loop-k.invariant.spares.counted.tells tells in
      cleared_more c.loop-k.k _ _ _ _ (omega arith) (c.loop-k.invariant.cleared tells) (c.in_ok-write_behind.ensures.written told) (c.in_ok-write_behind.ensures.others told);
  spares = spares_then (IsBesides c.args.blocks) _ (g.D.Disk.shown c.loop-k.disk) _ _ c.loop-k.invariant.spares c.in_ok-write_behind.ensures.spares;
}
