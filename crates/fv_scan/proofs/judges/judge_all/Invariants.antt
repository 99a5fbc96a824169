use Rattle.std.proofs.Common.{◌≡◌, take}
use Rattle.std.specs.Prelude.{map}
use Rattle.fv_scan.specs.Judging.{judgement}
use Rattle.fv_scan.proofs.judges.judge_all.Given as goal

abbrev pub invariant-loop-item : goal.invariant-loop-item
invariant-loop-item l = l.all.items ≡ map judgement (take l.item-index l.items)
