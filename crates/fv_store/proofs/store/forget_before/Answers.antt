use Rattle.std.proofs.Common.{◌∙◌, refl, arith}
use Rattle.fv_store.proofs.Standing.{forgotten_more}
use Rattle.fv_store.proofs.store.forget_before.Goals as goal

pub loop-number-init : goal.loop-number-init
loop-number-init c = record {
  list = record { kept = λ j b in_it. (omega arith, in_it) };
  capacity = refl;
  valid = c.requires;
}

pub loop-number-preserved : goal.loop-number-preserved
loop-number-preserved c = record {
  list = forgotten_more c.loop-number.number _ _ _ c.loop-number.invariant.list c.forget.ensures.list;
  capacity = c.forget.ensures.capacity ∙ c.loop-number.invariant.capacity;
  valid = c.forget.ensures.valid;
}
