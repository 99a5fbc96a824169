use Rattle.std.proofs.Common.{◌≡◌, ◌+◌, ◌≤◌, drop}
use Rattle.std.specs.Prelude.{count_by}
use Rattle.fv_image.specs.HintRules.{is_known, is_unknown}
use Rattle.fv_scan.specs.Judging.{roots}
use Rattle.fv_scan.proofs.judges.say_roots.Given as goal

abbrev pub invariant-loop-file : goal.invariant-loop-file
invariant-loop-file l = record {
  known : count_by is_known (roots l.files) ≡ l.counts.known + count_by is_known (roots (drop l.file-index l.files));
  unknown : count_by is_unknown (roots l.files) ≡ l.counts.unknown + count_by is_unknown (roots (drop l.file-index l.files));
  few : l.counts.known + l.counts.unknown ≤ l.file-index;
}
