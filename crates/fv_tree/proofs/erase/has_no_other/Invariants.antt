use Rattle.std.proofs.Common.{◌≡◌, ◌≢◌, ◌<◌, ℕ, get_or}
use Rattle.fv_tree.specs.Spelled.{hole}
use Rattle.fv_tree.proofs.erase.has_no_other.Given as goal

abbrev pub invariant-loop-other : goal.invariant-loop-other
invariant-loop-other l = (other : ℕ) → other < l.other → other ≢ l.slot → (get_or l.children other hole).stamp ≡ 0
