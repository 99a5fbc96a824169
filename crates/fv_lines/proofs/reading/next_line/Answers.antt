use Rattle.std.proofs.Common.{◌≡◌, sym, subst, rules, arith}
use Rattle.std.specs.Prelude.{Result, Ok, Err}
use Rattle.fv_disk.specs.declared.Failed.{Failed}
use Rattle.fv_lines.specs.declared.reading.Found.{Found}
use Rattle.fv_lines.specs.declared.script.Next.TheVariants.{Line, Part, End, PastLimit}
use Rattle.fv_lines.specs.Reading.{Finds, IsNext}
use Rattle.fv_lines.proofs.LinesRead.{asks_no_more, reads_on, found_line, found_end, found_fault, found_limit}
use Rattle.fv_lines.proofs.reading.next_line.Goals as goal

pub loop-script-preserved : goal.loop-script-preserved
loop-script-preserved g c =
    let comes : IsNext c.loop-script.script (g.H.Disk.shown c.loop-script.host) c.read_on.new.self (g.H.Disk.shown c.read_on.new.host) (Ok Part) = rw (← c.in-Part.is) c.in_ok-read_on.ensures.next in
    record {
      read = reads_on _ _ _ _ c.loop-script.invariant.read _ _ comes;
      again = asks_no_more _ _ _ _ _ _ c.loop-script.invariant.again c.in_ok-read_on.ensures.again;
    }

pub loop-script-smaller : goal.loop-script-smaller
loop-script-smaller g c =
    let comes : IsNext c.loop-script.script (g.H.Disk.shown c.loop-script.host) c.read_on.new.self (g.H.Disk.shown c.read_on.new.host) (Ok Part) = rw (← c.in-Part.is) c.in_ok-read_on.ensures.next in
    omega (arith, comes.room.0, comes.room.1)

pub returns-in_err-read_on-clause-finds : goal.returns-in_err-read_on-clause-finds
returns-in_err-read_on-clause-finds g c =
    let failed : c.from_residual.result ≡ Err c.in_err-read_on.field-0.0 = search rules in
    subst (λ (r : Result Found Failed). Finds c.args.script.now (g.H.Disk.shown c.args.host.now) c.read_on.new.self (g.H.Disk.shown c.read_on.new.host) c.read_on.new.self.line r) (sym failed)
    (found_fault _ _ _ _ c.loop-script.invariant.read _ _ c.in_err-read_on.field-0.0 c.in_err-read_on.ensures.next)

pub returns-in-Line : goal.returns-in-Line
returns-in-Line g c =
    let comes : IsNext c.loop-script.script (g.H.Disk.shown c.loop-script.host) c.read_on.new.self (g.H.Disk.shown c.read_on.new.host) (Ok Line) = rw (← c.in-Line.is) c.in_ok-read_on.ensures.next in
    record { finds = found_line _ _ _ _ c.loop-script.invariant.read _ _ comes; again = asks_no_more _ _ _ _ _ _ c.loop-script.invariant.again c.in_ok-read_on.ensures.again }

pub returns-in-End : goal.returns-in-End
returns-in-End g c =
    let comes : IsNext c.loop-script.script (g.H.Disk.shown c.loop-script.host) c.read_on.new.self (g.H.Disk.shown c.read_on.new.host) (Ok End) = rw (← c.in-End.is) c.in_ok-read_on.ensures.next in
    record { finds = rw (c.last.ensures, c.line.ensures) (found_end _ _ _ _ c.loop-script.invariant.read _ _ comes); again = asks_no_more _ _ _ _ _ _ c.loop-script.invariant.again c.in_ok-read_on.ensures.again }

pub returns-in-PastLimit : goal.returns-in-PastLimit
returns-in-PastLimit g c =
    let comes : IsNext c.loop-script.script (g.H.Disk.shown c.loop-script.host) c.read_on.new.self (g.H.Disk.shown c.read_on.new.host) (Ok PastLimit) = rw (← c.in-PastLimit.is) c.in_ok-read_on.ensures.next in
    record { finds = found_limit _ _ _ _ c.loop-script.invariant.read _ _ comes; again = asks_no_more _ _ _ _ _ _ c.loop-script.invariant.again c.in_ok-read_on.ensures.again }
