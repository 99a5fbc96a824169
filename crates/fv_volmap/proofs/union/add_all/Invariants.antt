use Rattle.std.proofs.Common.{◌≡◌, ℕ, ◌||◌, length, take}
use Rattle.fv_bits.specs.Members.{is_member}
use Rattle.fv_volmap.specs.Slots.{taken_in}
use Rattle.fv_volmap.proofs.union.add_all.Given as goal

abbrev pub invariant-loop-at : goal.invariant-loop-at
invariant-loop-at l = record {
  len : length l.union ≡ length l.initial.union;
  members : (v : ℕ) → is_member l.union v ≡ (is_member l.initial.union v || taken_in (take l.at l.slots) v);
}
