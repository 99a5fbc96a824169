use Rattle.std.proofs.Common.{refl, ap, arith}
use Rattle.fv_pool.specs.Keeping.{seen}
use Rattle.fv_cleaner.specs.Searching.{placed_by}
use Rattle.fv_cleaner.proofs.filling.place_below.Goals as goal

pub returns-clause-place : goal.returns-clause-place
returns-clause-place g c = λ tells.
    let reads = (g.D.Disk.shown c.args.disk.now).reads in
    record {
      block = record { pvbn = c.in_ok-below.below.pvbn; kind = c.in_ok-below.below.kind; block = seen c.args.pool.now.kept reads c.in_ok-below.below.pvbn };
      there = ap (placed_by c.args.pool.now.kept reads) (c.in_ok-below.ensures.entry tells);
      lower = omega (arith, c.if-below-most.false, c.requires.kind);
      is = refl;
    }
