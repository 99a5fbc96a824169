-- Fewer blocks that are spared, and writes that failed after others.
use Rattle.std.proofs.Common.{◌≡◌, ℕ}
use Rattle.std.specs.Prelude.{IsErr, Result, Ok, Err}
use Rattle.fv_disk.specs.declared.Failed.{Failed}
use Rattle.fv_disk.specs.Shown.{Image, Shown}
use Rattle.fv_disk.specs.Sparing.{LeftBefore, Spares}
use Rattle.fv_container.specs.Flushed.{without_value}
use Rattle.fv_disk.proofs.Moments.{weaken}
use Rattle.fv_disk.proofs.Sparing.{spares_then}

pub spares_fewer : (more fewer : ℕ → Type 0) (old new : Shown) (result : Result Unit Failed) → ((b : ℕ) → fewer b → more b) → Spares more old new result → Spares fewer old new result
spares_fewer more fewer old new result inside s =
    let images : (c : Image) → LeftBefore more old c → LeftBefore fewer old c = λ c left. (left.0, left.1, λ b is. left.2 b (inside b is)) in
    record {
      counted = s.counted;
      reads = λ tells b is. s.reads tells b (inside b is);
      images = λ c now. images c (s.images c now);
      any_moment = weaken old new (λ c g. LeftBefore more old c × (g ≡ old.given)) (λ c g. LeftBefore fewer old c × (g ≡ old.given)) (λ c g kept. (images c kept.0, kept.1)) s.any_moment;
    }

-- one call after others that were done, each with what it spares
pub then_spares : (spared first second : ℕ → Type 0) (old mid new : Shown) (result : Result Unit Failed) → ((b : ℕ) → spared b → first b) → ((b : ℕ) → spared b → second b)
    → Spares first old mid (Ok tt) → Spares second mid new result → Spares spared old new result
then_spares spared first second old mid new result in_first in_second one two =
    spares_then spared old mid new result (spares_fewer first spared old mid (Ok tt) in_first one) (spares_fewer second spared mid new result in_second two)

-- a failure is the only one that there is
pub failed_as : (spared : ℕ → Type 0) (old new : Shown) (fault : Failed) (result : Result (Unit {0}) Failed) → Spares spared old new (Err fault) → IsErr result → Spares spared old new result
failed_as spared old new fault (Ok x) s is = absurd (cc)
failed_as spared old new fault (Err f) s is = s

-- the same where the call would have answered a value
pub failed_value : (spared : ℕ → Type 0) (old new : Shown) (fault : Failed) (result : Result ℕ Failed) → Spares spared old new (Err fault) → IsErr result → Spares spared old new (without_value result)
failed_value spared old new fault (Ok x) s is = absurd (cc)
failed_value spared old new fault (Err f) s is = s
