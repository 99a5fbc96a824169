use Rattle.std.proofs.Common.{arith}
use Rattle.fv_image.specs.Views.{Snap}
use Rattle.fv_faults.specs.Walks.{pointer_lines}
use Rattle.fv_first_pass.proofs.Snaps.{parts_first, parts_step, parts_all}
use Rattle.fv_first_pass.proofs.label.records_lines.Goals as goal

pub loop-j-init : goal.loop-j-init
loop-j-init c = record { lines = parts_first (λ (p : Snap). pointer_lines c.args.site.now.blocks c.args.site.now.label.span c.args.at p.table.root) c.args.site.now.label.snapshots _ }

pub loop-j-preserved : goal.loop-j-preserved
loop-j-preserved c = record {
  lines = parts_step (λ (p : Snap). pointer_lines c.args.site.now.blocks c.args.site.now.label.span c.args.at p.table.root) c.args.site.now.label.snapshots c.loop-j.j _ _ _
      (let long = c.requires.site.snapshots in let low = c.loop-j-test.true in omega (arith, long, low)) c.loop-j.invariant.lines c.in_ok-record_lines.ensures;
}

pub returns : goal.returns
returns c = parts_all (λ (p : Snap). pointer_lines c.args.site.now.blocks c.args.site.now.label.span c.args.at p.table.root) c.args.site.now.label.snapshots c.loop-j.j _ _
    (let long = c.requires.site.snapshots in let past = c.loop-j-test.false in omega (arith, long, past)) c.loop-j.invariant.lines
