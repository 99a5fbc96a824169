use Rattle.std.proofs.Common.{◌≡◌}
use Rattle.fv_store.specs.Held.{IsStore, KeepsFrom}
use Rattle.fv_store.specs.Boxed.{unboxed, held_in}
use Rattle.fv_store.proofs.store.forget_before.Given as goal

abbrev pub invariant-loop-number : goal.invariant-loop-number
invariant-loop-number l = record {
  list : KeepsFrom l.number (unboxed l.fn.cache.entries) (unboxed l.cache.entries);
  capacity : l.cache.cap ≡ l.fn.cache.cap;
  valid : IsStore (held_in l.cache);
}
