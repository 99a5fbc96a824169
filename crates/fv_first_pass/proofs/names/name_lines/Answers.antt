use Rattle.std.proofs.Common.{arith}
use Rattle.fv_first_pass.proofs.Snaps.{names_first, names_step, names_all}
use Rattle.fv_first_pass.proofs.names.name_lines.Goals as goal

pub loop-j-init : goal.loop-j-init
loop-j-init c = record { lines = names_first c.args.at c.args.site.now.label.snapshots _ }

pub loop-j-preserved : goal.loop-j-preserved
loop-j-preserved c = record {
  lines = names_step c.args.at c.args.site.now.label.snapshots c.loop-j.j _ _ _
      (let long = c.requires.site.snapshots in let low = c.loop-j-test.true in omega (arith, long, low)) c.loop-j.invariant.lines c.in_ok-record_names.ensures;
}

pub returns : goal.returns
returns c = names_all c.args.at c.args.site.now.label c.loop-j.j _ _
    (let long = c.requires.site.snapshots in let past = c.loop-j-test.false in omega (arith, long, past)) c.loop-j.invariant.lines
