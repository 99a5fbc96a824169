use Rattle.std.proofs.Common.{◌≡◌, ◌<◌, ◌≤◌, ◌+◌, ◌%◌, ℕ, None, length, get_or}
use Rattle.fv_container.specs.Finding.{AreHeld}
use Rattle.fv_container.specs.Paged.{pair_at}
use Rattle.fv_container.specs.Spelled.{pair_of}
use Rattle.fv_container.proofs.finding.entries_of.Given as goal

abbrev pub invariant-loop-k : goal.invariant-loop-k
invariant-loop-k l = record {
  len : length l.into ≡ length l.fn.into;
  pairs : (j : ℕ) → l.from ≤ j → j < l.k → pair_of (get_or l.into j None) ≡ pair_at l.leaf ((l.first + j) % 256);
  held : AreHeld l.from l.k l.into;
  before : (j : ℕ) → j < l.from → get_or l.into j None ≡ get_or l.fn.into j None;
}
