use Rattle.std.proofs.Common.{◌≡◌, ◌≤◌, ◌<◌, ◌%◌, ℕ, get_or}
use Rattle.fv_model.specs.Trees.{fan}
use Rattle.fv_tree.specs.Spelled.{hole}
use Rattle.fv_tree.proofs.next.first_led.Given as goal

abbrev pub invariant-loop-slot : goal.invariant-loop-slot
invariant-loop-slot l = (s : ℕ) → l.first % fan ≤ s → s < l.slot → (get_or l.children s hole).stamp ≡ 0
