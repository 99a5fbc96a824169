use Rattle.std.proofs.Common.{◌≡◌, true}
use Rattle.fv_lines.proofs.LinesRead.{HasRead}
use Rattle.fv_lines.proofs.reading.next_line.Given as goal

abbrev pub invariant-loop-script : goal.invariant-loop-script
invariant-loop-script g l = record {
  read : HasRead l.fn.script (g.H.Disk.shown l.fn.host) l.script (g.H.Disk.shown l.host);
  again : l.fn.script.ended ≡ true → (l.script.ended ≡ true) × (l.host ≡ l.fn.host);
}

abbrev pub decreases-loop-script : goal.decreases-loop-script
decreases-loop-script g l = l.script.room
