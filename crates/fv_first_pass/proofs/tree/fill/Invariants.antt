use Rattle.std.proofs.Common.{◌≡◌, ◌≢◌, ℕ, ◌+◌, ◌*◌, ◌/◌, ◌<◌, length, get_or}
use Rattle.fv_image.specs.Containers.{fan}
use Rattle.fv_first_pass.proofs.tree.fill.Given as goal

abbrev pub invariant-loop-c : goal.invariant-loop-c
invariant-loop-c l = record {
  long : length l.entries ≡ length l.initial.entries;
  kept : (c : ℕ) → c < l.c → fan * l.number + c < length l.initial.entries → get_or l.entries (fan * l.number + c) 0 ≡ get_or l.leaf.kinds c 0 * 16777216 + get_or l.leaf.pvbns c 0;
  outside : (v : ℕ) → v / fan ≢ l.number → get_or l.entries v 0 ≡ get_or l.initial.entries v 0;
}
