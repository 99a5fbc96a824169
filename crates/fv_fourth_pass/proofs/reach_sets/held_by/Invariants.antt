use Rattle.std.proofs.Common.{◌≡◌, ℕ, length, take}
use Rattle.std.specs.Prelude.{map}
use Rattle.fv_bits.specs.Members.{is_member}
use Rattle.fv_third_pass.specs.Volumes.{root_of}
use Rattle.fv_fourth_pass.specs.Silent.{AreWide, any_of}
use Rattle.fv_fourth_pass.proofs.reach_sets.held_by.Given as goal

abbrev pub invariant-loop-k : goal.invariant-loop-k
invariant-loop-k l = record {
  size : length l.held ≡ l.span;
  has : AreWide l.reached l.slot l.span (map root_of l.roots) → (v : ℕ) → is_member l.held v ≡ any_of l.reached l.slot (map root_of (take l.k l.roots)) v;
}
