-- The counts of faults over several calls.
use Rattle.std.proofs.Common.{ℕ, List, refl, ◌∙◌, arith}
use Rattle.std.specs.Prelude.{Result, Ok, Err}
use Rattle.fv_disk.specs.declared.Failed.{Failed}
use Rattle.fv_disk.specs.Shown.{Shown, HasCause}
use Rattle.fv_disk.specs.DiskCalls.{Writes, Settles, Counted}

pub counted_write : (old : Shown) (at : ℕ) (block : List ℕ) (new : Shown) (result : Result Unit Failed) → Writes old at block new result → Counted old new result
counted_write old at block new result w = record { tells = w.tells; given = w.given; ends = w.ends; cause = w.cause; write_cause = w.write_cause }

pub counted_barrier : (old new : Shown) (result : Result Unit Failed) → Settles old new result → Counted old new result
counted_barrier old new result s = record { tells = s.tells; given = s.given; ends = s.ends; cause = s.cause; write_cause = s.write_cause }

-- no call at all
pub counted_none : (disk : Shown) → Counted disk disk (Ok tt)
counted_none disk = record { tells = refl; given = refl; ends = refl; cause = none disk.faults; write_cause = none disk.write_faults }
  where
    none : (count : ℕ) → HasCause {T = Unit {0}} {E = Failed} count count (Ok tt)
    none count = record { later = omega arith; calm = refl; rose = tt }

-- a count over calls that were done, and then more of them
pub cause_then : (before mid now : ℕ) (result : Result Unit Failed) → HasCause {T = Unit {0}} {E = Failed} before mid (Ok tt) → HasCause mid now result → HasCause before now result
cause_then before mid now (Ok done) first second = record { later = omega (arith, first.later, second.later); calm = second.calm ∙ first.calm; rose = tt }
cause_then before mid now (Err failed) first second = record { later = omega (arith, first.later, second.later); calm = tt; rose = rw (← first.calm) second.rose }

pub counted_then : (old mid new : Shown) (result : Result Unit Failed) → Counted old mid (Ok tt) → Counted mid new result → Counted old new result
counted_then old mid new result first second = record {
  tells = second.tells ∙ first.tells;
  given = second.given ∙ first.given;
  ends = second.ends ∙ first.ends;
  cause = cause_then old.faults mid.faults new.faults result first.cause second.cause;
  write_cause = cause_then old.write_faults mid.write_faults new.write_faults result first.write_cause second.write_cause;
}
