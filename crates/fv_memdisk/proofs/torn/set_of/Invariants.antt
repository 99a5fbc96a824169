use Rattle.std.proofs.Common.{◌≡◌, ℕ, take}
use Rattle.std.specs.Ordering.{nat_cmp}
use Rattle.std.specs.BTreeSet as set
use Rattle.fv_memdisk.specs.Past.{is_among}
use Rattle.fv_memdisk.proofs.torn.set_of.Given as goal

abbrev pub invariant-loop-at : goal.invariant-loop-at
invariant-loop-at l = (a : ℕ) → set.contains nat_cmp l.chosen a ≡ is_among (take l.at-index l.places) a
