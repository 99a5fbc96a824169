use Rattle.std.proofs.Common.{sym, arith}
use Rattle.fv_container.proofs.Regions.{bare_row}
use Rattle.fv_container.proofs.places.has_entry.Goals as goal

pub returns : goal.returns
returns c = sym (bare_row c.args.leaf.now.kinds (λ n lt. c.loop-c.invariant n (omega (arith, lt, c.loop-c-test.false))))
