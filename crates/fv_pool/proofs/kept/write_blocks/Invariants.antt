use Rattle.std.proofs.Common.{◌≡◌, ℕ}
use Rattle.std.specs.Prelude.{IsTrue, Ok}
use Rattle.fv_store.specs.Held.{StandsOn}
use Rattle.fv_store.specs.Boxed.{unboxed}
use Rattle.fv_disk.specs.Sparing.{Spares}
use Rattle.fv_pool.specs.Keeping.{IsUnkept, kept_in}
use Rattle.fv_pool.proofs.Writing.{AreIn, written}
use Rattle.fv_pool.proofs.kept.write_blocks.Given as goal

abbrev pub invariant-loop-pvbn : goal.invariant-loop-pvbn
invariant-loop-pvbn g l = record {
  stands : StandsOn (g.D.Disk.shown l.disk) l.store.pairs;
  inside : AreIn (unboxed l.blocks.entries) (unboxed l.pvbn-iterator);
  so_far : IsTrue (g.D.Disk.shown l.fn.disk).tells → (b : ℕ) → written (unboxed l.pvbn-iterator) (g.D.Disk.shown l.disk).reads b ≡ written (unboxed l.blocks.entries) (g.D.Disk.shown l.fn.disk).reads b;
  spares : Spares (IsUnkept (kept_in l.blocks)) (g.D.Disk.shown l.fn.disk) (g.D.Disk.shown l.disk) (Ok tt);
}
