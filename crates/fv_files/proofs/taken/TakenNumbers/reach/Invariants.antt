use Rattle.std.proofs.Common.{◌-◌, ◌≡◌, ℕ}
use Rattle.fv_files.specs.Numbering.{is_taken}
use Rattle.fv_files.proofs.taken.TakenNumbers.reach.Given as goal

abbrev pub invariant-loop-self : goal.invariant-loop-self
invariant-loop-self l = (n : ℕ) → is_taken l.self n ≡ is_taken l.fn.self n

abbrev pub decreases-loop-self : goal.decreases-loop-self
decreases-loop-self l = l.number - l.self.top
