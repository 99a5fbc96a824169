-- Calls of the source, one after another.
use Rattle.std.proofs.Common.{◌≡◌, ℕ, refl, subst, ◌∙◌, arith}
use Rattle.std.specs.Prelude.{List, Result, Ok, Err}
use Rattle.fv_disk.specs.declared.Failed.{Failed}
use Rattle.fv_disk.specs.Shown.{Image, Shown, IsDisk, Rose}
use Rattle.fv_disk.specs.HostCalls.{Rests, Takes}
use Rattle.fv_disk.specs.Crash.{Leaves}
use Rattle.fv_disk.proofs.Moments.{started, goes_on, then, weaken}
use Rattle.fv_disk.proofs.Resting.{rests_itself, rests_on}
use Rattle.fv_lines.specs.Reading.{IsStill, Asks}

still_none : (host : Shown) → IsDisk host → Leaves host host (IsStill host)
still_none host laws = started host (IsStill host) laws (λ c now. (now, refl))

pub still_then : (old mid new : Shown) → Rests old mid → mid.given ≡ old.given → Leaves old mid (IsStill old) → Leaves mid new (IsStill mid) → Leaves old new (IsStill old)
still_then old mid new rests given first second = then old mid new (IsStill old) first
    (weaken mid new (IsStill mid) (IsStill old) (λ (c : Image) (g : List ℕ) still. (rests.stays.no_more c still.0, still.1 ∙ given)) second)

pub asks_none : {X : Type 0} (x : X) (host : Shown) → IsDisk host → Asks host host (Ok x)
asks_none x host laws = record { rests = rests_itself host; any_moment = still_none host laws; given = refl; sink_faults = refl; cause = record { later = omega arith; calm = refl; rose = tt } }

pub asks_then : {X Y : Type 0} (old mid new : Shown) (x : X) (result : Result Y Failed) → Asks old mid (Ok x) → Asks mid new result → Asks old new result
asks_then old mid new x (Ok y) first second = record {
  rests = rests_on old mid new first.rests second.rests;
  any_moment = still_then old mid new first.rests first.given first.any_moment second.any_moment;
  given = second.given ∙ first.given;
  sink_faults = second.sink_faults ∙ first.sink_faults;
  cause = record { later = omega (arith, first.cause.later, second.cause.later); calm = second.cause.calm ∙ first.cause.calm; rose = tt };
}
asks_then old mid new x (Err failed) first second = record {
  rests = rests_on old mid new first.rests second.rests;
  any_moment = still_then old mid new first.rests first.given first.any_moment second.any_moment;
  given = second.given ∙ first.given;
  sink_faults = second.sink_faults ∙ first.sink_faults;
  cause = record { later = omega (arith, first.cause.later, second.cause.later); calm = tt; rose = subst (λ (n : ℕ). Rose n new.ends.source_faults) first.cause.calm second.cause.rose };
}

-- the same of another value
pub asks_as : {X Y : Type 0} (old new : Shown) (x : X) (y : Y) → Asks old new (Ok x) → Asks old new (Ok y)
asks_as old new x y asks = record { rests = asks.rests; any_moment = asks.any_moment; given = asks.given; sink_faults = asks.sink_faults; cause = record { later = asks.cause.later; calm = asks.cause.calm; rose = tt } }

pub asks_failed : {X Y : Type 0} (old new : Shown) (e : Failed) → Asks {T = X} old new (Err e) → Asks {T = Y} old new (Err e)
asks_failed old new e asks = record { rests = asks.rests; any_moment = asks.any_moment; given = asks.given; sink_faults = asks.sink_faults; cause = record { later = asks.cause.later; calm = tt; rose = asks.cause.rose } }

taken_still : (old new : Shown) → IsDisk old → (into : List ℕ) (result : Result ℕ Failed) → Takes old into new result → Leaves old new (IsStill old)
taken_still old new laws into result takes = goes_on old old new (IsStill old) (still_none old laws) takes.time (λ c now. (takes.rests.stays.no_more c now, takes.given))

-- one take
pub asks_take : (old new : Shown) (into : List ℕ) (n : ℕ) → IsDisk old → Takes old into new (Ok n) → Asks {T = Unit {0}} old new (Ok tt)
asks_take old new into n laws takes = record { rests = takes.rests; any_moment = taken_still old new laws into (Ok n) takes; given = takes.given; sink_faults = takes.sink_faults; cause = record { later = takes.cause.later; calm = takes.cause.calm; rose = tt } }

pub asks_take_failed : (old new : Shown) (into : List ℕ) (e : Failed) → IsDisk old → Takes old into new (Err e) → Asks {T = Unit {0}} old new (Err e)
asks_take_failed old new into e laws takes = record {
  rests = takes.rests;
  any_moment = taken_still old new laws into (Err e) takes;
  given = takes.given;
  sink_faults = takes.sink_faults;
  cause = record { later = takes.cause.later; calm = tt; rose = takes.cause.rose };
}
