use Rattle.std.proofs.Common.{◌≡◌, ◌+◌, ◌≤◌, drop}
use Rattle.std.specs.Prelude.{count_by}
use Rattle.fv_image.specs.HintRules.{is_known, is_unknown}
use Rattle.fv_scan.proofs.judges.say.Given as goal

abbrev pub invariant-loop-pointer : goal.invariant-loop-pointer
invariant-loop-pointer l = record {
  known : count_by is_known l.pointers ≡ l.counts.known + count_by is_known (drop l.pointer-index l.pointers);
  unknown : count_by is_unknown l.pointers ≡ l.counts.unknown + count_by is_unknown (drop l.pointer-index l.pointers);
  few : l.counts.known + l.counts.unknown ≤ l.pointer-index;
}
