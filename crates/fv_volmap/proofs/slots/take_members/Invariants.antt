use Rattle.std.proofs.Common.{◌≡◌, ℕ, ◌<◌, ◌≤◌, ◌/◌, false, length}
use Rattle.fv_bits.specs.Bits.{block_bits}
use Rattle.fv_bits.specs.Members.{is_member}
use Rattle.fv_volmap.proofs.slots.take_members.Given as goal

abbrev pub invariant-loop-index : goal.invariant-loop-index
invariant-loop-index l = record {
  len : length l.map ≡ length l.initial.map;
  taken : (v : ℕ) → v / block_bits < l.index → is_member l.map v ≡ is_member l.from v;
  rest : (v : ℕ) → l.index ≤ v / block_bits → is_member l.map v ≡ false;
}
